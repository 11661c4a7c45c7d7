-- Reading a piece of bytes as reading all of them: where the piece has enough bytes, or ends where all end, what is read in it
-- is what is read in all, at offsets from the start of all.
use Rattle.std.proofs.Common.{◌≡◌, ◌∙◌, ◌⊎◌, inl, inr, ℕ, suc, ◌+◌, ◌*◌, ◌≤◌, Bool, true, false, cond, eqb, ltb, List, [], ◌∷◌, ◌++◌, length, take, drop, Result, Ok, Err, refl, sym, ap, subst, arith}
use Rattle.std.specs.Int.{Width, w64, byte_len, from_le_bytes, cast_signed}
use Rattle.std.specs.List.{list_all}
use Rattle.std.proofs.lemmas.Bool.{ltb-true, ltb-false, le-ltb}
use Rattle.std.proofs.lemmas.List.{append-nil, length-append, length-drop, take-append-le, drop-append-le}
use Rattle.pac_value.specs.declared.limits.TheConstants.{MAX_TEXT}
use Rattle.pac_value.specs.declared.values.Ty.{Ty}
use Rattle.pac_value.specs.declared.values.Ty.TheVariants.{Int as IntTy, Text as TextTy}
use Rattle.pac_value.specs.declared.values.Value.{Value}
use Rattle.pac_value.specs.declared.values.Value.TheVariants.{Int, Text}
use Rattle.pac_value.specs.Expressions.{◌>>=◌}
use Rattle.pac_value.specs.Texts.{is_printable}
use Rattle.pac_value.specs.Values.{as_key}
use Rattle.pac_bytes.specs.declared.fault.Short.{Short as AShort}
use Rattle.pac_bytes.specs.declared.fault.ValueFault.{ValueFault}
use Rattle.pac_bytes.specs.declared.fault.ValueFault.TheVariants as value
use Rattle.pac_bytes.specs.declared.fault.TypedFault.{TypedFault}
use Rattle.pac_bytes.specs.declared.fault.TypedFault.TheVariants as typed
use Rattle.pac_bytes.specs.Reading.{Rest, advanced, reported_as, short_at, leading_byte, next_byte, next_bytes, next_uint, along}
use Rattle.pac_bytes.specs.Values.{as_value_fault, type_of_tag, next_type, int_body, printable_text, text_of_length, text_body, value_body, next_value}
use Rattle.pac_check.specs.declared.damage.SlotFault.{SlotFault}
use Rattle.pac_check.specs.Kinds.{slot_fault}
use Rattle.pac_bytes.specs.Typed.{as_typed_fault, same_type, next_typed, next_key, next_values}

-- a kind of fault with an offset, and the same fault that many bytes further
pub record Placed (F : Type 0) : Type 0 where
  pub place : F → ℕ
  pub further : ℕ → F → F

abbrev pub short_placed : Placed AShort
short_placed = record { place = λ f. f.at; further = λ base f. short_at (base + f.at) }

abbrev value_place : ValueFault → ℕ
value_place (value.Short at) = at
value_place (value.Tag at) = at
value_place (value.Bad at) = at

abbrev value_further : ℕ → ValueFault → ValueFault
value_further base (value.Short at) = value.Short (base + at)
value_further base (value.Tag at) = value.Tag (base + at)
value_further base (value.Bad at) = value.Bad (base + at)

abbrev pub value_placed : Placed ValueFault
value_placed = record { place = value_place; further = value_further }

abbrev typed_place : TypedFault → ℕ
typed_place (typed.Short at) = at
typed_place (typed.Tag at) = at
typed_place (typed.Wrong at) = at

abbrev typed_further : ℕ → TypedFault → TypedFault
typed_further base (typed.Short at) = typed.Short (base + at)
typed_further base (typed.Tag at) = typed.Tag (base + at)
typed_further base (typed.Wrong at) = typed.Wrong (base + at)

abbrev pub typed_placed : Placed TypedFault
typed_placed = record { place = typed_place; further = typed_further }

-- a fault of a slot that many bytes further
abbrev pub slot_placed : Placed SlotFault
slot_placed = record { place = λ f. f.at; further = λ base f. slot_fault f.kind (base + f.at) }

-- a piece begins at base, and more stands after it
module _ (base : ℕ) (more : List ℕ) where
  -- what is left of the piece, as what is left of all
  abbrev pub whole : Rest → Rest
  whole s = record { at = base + s.at; bytes = s.bytes ++ more }

  -- n bytes are left in the piece, or it ends where all end
  abbrev pub HasEnough : ℕ → Rest → Type 0
  HasEnough n s = (n ≤ length s.bytes) ⊎ (more ≡ [])

  -- what is read in the piece is read in all; it took no more than n bytes, and a fault lies within the piece
  abbrev pub Alike : {A F : Type 0} → Placed F → ℕ → Rest → Result (A × Rest) F → Result (A × Rest) F → Type 0
  Alike placed n s (Ok p) r = (r ≡ Ok (p.0, whole p.1)) × (p.1.at + length p.1.bytes ≡ s.at + length s.bytes) × (length s.bytes ≤ length p.1.bytes + n) × (s.at ≤ p.1.at)
  Alike placed n s (Err f) r = (r ≡ Err (placed.further base f)) × (placed.place f ≤ s.at + length s.bytes)

  pub fewer : (m n : ℕ) (s : Rest) → m ≤ n → HasEnough n s → HasEnough m s
  fewer m n s le (inl h) = inl (omega (arith, le, h))
  fewer m n s le (inr h) = inr h

  -- it took no more than m either
  pub wider : {A F : Type 0} (placed : Placed F) (n m : ℕ) (s : Rest) (r r' : Result (A × Rest) F) → n ≤ m → Alike placed n s r r' → Alike placed m s r r'
  wider placed n m s (Ok p) r' le a = (a.0, a.1, omega (arith, le, a.2), a.3)
  wider placed n m s (Err f) r' le a = a

  -- what is read after a first part
  after : {A F : Type 0} (placed : Placed F) (n m : ℕ) (s t : Rest) (r r' : Result (A × Rest) F) → t.at + length t.bytes ≡ s.at + length s.bytes → length s.bytes ≤ length t.bytes + n → s.at ≤ t.at → Alike placed m t r r' → Alike placed (n + m) s r r'
  after placed n m s t (Ok p) r' sums few later a = (a.0, a.1 ∙ sums, omega (arith, few, a.2), omega (arith, later, a.3))
  after placed n m s t (Err f) r' sums few later a = (a.0, omega (arith, a.1, sums))

  -- a part, and what follows it
  pub bound : {A B F : Type 0} (placed : Placed F) (n m : ℕ) (s : Rest) (r r' : Result (A × Rest) F) (next next' : A × Rest → Result (B × Rest) F) → HasEnough (n + m) s → (HasEnough n s → Alike placed n s r r')
      → ((p : A × Rest) → s.at ≤ p.1.at → HasEnough m p.1 → Alike placed m p.1 (next p) (next' (p.0, whole p.1))) → Alike placed (n + m) s (r >>= next) (r' >>= next')
  bound {A} {B} {F} placed n m s r r' next next' enough first others = go r r' (first (fewer n (n + m) s (omega arith) enough))
    where
      left : (t : Rest) → t.at + length t.bytes ≡ s.at + length s.bytes → length s.bytes ≤ length t.bytes + n → HasEnough (n + m) s → HasEnough m t
      left t sums few (inl h) = inl (omega (arith, few, h))
      left t sums few (inr h) = inr h

      go : (r r' : Result (A × Rest) F) → Alike placed n s r r' → Alike placed (n + m) s (r >>= next) (r' >>= next')
      go (Ok p) r' a = subst (λ (q : Result (A × Rest) F). Alike placed (n + m) s (next p) (q >>= next')) (sym a.0) (after placed n m s p.1 (next p) (next' (p.0, whole p.1)) a.1 a.2 a.3 (others p a.3 (left p.1 a.1 a.2 enough)))
      go (Err f) r' a = subst (λ (q : Result (A × Rest) F). Alike placed (n + m) s (Err f) (q >>= next')) (sym a.0) (refl, a.1)

  -- what is read, seen otherwise
  pub mapped : {A B F : Type 0} (placed : Placed F) (n : ℕ) (s : Rest) (g : A → B) (r r' : Result (A × Rest) F) → Alike placed n s r r' → Alike placed n s (r >>= λ p. Ok (g p.0, p.1)) (r' >>= λ p. Ok (g p.0, p.1))
  mapped {A} {B} {F} placed n s g (Ok p) r' a = subst (λ (q : Result (A × Rest) F). Alike placed n s (Ok (g p.0, p.1)) (q >>= λ p. Ok (g p.0, p.1))) (sym a.0) (refl, a.1, a.2, a.3)
  mapped {A} {B} {F} placed n s g (Err f) r' a = subst (λ (q : Result (A × Rest) F). Alike {A = B} placed n s (Err f) (q >>= λ p. Ok (g p.0, p.1))) (sym a.0) (refl, a.1)

  -- each fault reported otherwise
  pub reported : {A F G : Type 0} (placed : Placed F) (other : Placed G) (report : F → G) → ((f : F) → report (placed.further base f) ≡ other.further base (report f)) → ((f : F) → other.place (report f) ≡ placed.place f)
      → (n : ℕ) (s : Rest) (r r' : Result (A × Rest) F) → Alike placed n s r r' → Alike other n s (reported_as report r) (reported_as report r')
  reported {A} {F} {G} placed other report moves stays n s (Ok p) r' a = subst (λ (q : Result (A × Rest) F). Alike other n s (Ok p) (reported_as report q)) (sym a.0) (refl, a.1, a.2, a.3)
  reported {A} {F} {G} placed other report moves stays n s (Err f) r' a = subst (λ (q : Result (A × Rest) F). Alike {A = A} other n s (Err (report f)) (reported_as report q)) (sym a.0) (ap (λ (g : G). err_of g) (moves f), omega (arith, stays f, a.1))
    where
      err_of : G → Result (A × Rest) G
      err_of g = Err g

  -- a test
  pub tested : {A F : Type 0} (placed : Placed F) (n : ℕ) (s : Rest) (test : Bool) (one one' other other' : Result (A × Rest) F) → (test ≡ true → Alike placed n s one one') → (test ≡ false → Alike placed n s other other') → Alike placed n s (cond test one other) (cond test one' other')
  tested placed n s true one one' other other' if_true if_false = if_true refl
  tested placed n s false one one' other other' if_true if_false = if_false refl

  -- nothing is read
  pub none_read : {A F : Type 0} (placed : Placed F) (n : ℕ) (s : Rest) (x : A) → Alike placed n s (Ok (x, s)) (Ok (x, whole s))
  none_read placed n s x = (refl, refl, omega arith, omega arith)

  -- ---- bytes and numbers

  leading : (at : ℕ) (bytes : List ℕ) → HasEnough 1 (record { at = at; bytes = bytes }) → Alike short_placed 1 (record { at = at; bytes = bytes }) (leading_byte at bytes) (leading_byte (base + at) (bytes ++ more))
  leading at [] (inl h) = absurd (omega (arith, h))
  leading at [] (inr e) = rw e (refl, omega arith)
  leading at (b ∷ bs) enough = (ap (λ (n : ℕ). found n) (omega arith), omega arith, omega arith, omega arith)
    where
      found : ℕ → Result (ℕ × Rest) AShort
      found n = Ok (b, record { at = n; bytes = bs ++ more })

  pub byte_alike : (s : Rest) → HasEnough 1 s → Alike short_placed 1 s (next_byte s) (next_byte (whole s))
  byte_alike s enough = leading s.at s.bytes enough

  pub bytes_alike : {F : Type 0} (placed : Placed F) (fault fault' : F) (n : ℕ) (s : Rest) → fault' ≡ placed.further base fault → placed.place fault ≤ s.at → HasEnough n s → Alike placed n s (next_bytes fault n s) (next_bytes fault' n (whole s))
  bytes_alike {F} placed fault fault' n s same within enough = go (ltb (length s.bytes) n) refl enough
    where
      err_of : F → Result (List ℕ × Rest) F
      err_of g = Err g

      found : ℕ → List ℕ → List ℕ → Result (List ℕ × Rest) F
      found at front rest = Ok (front, record { at = at; bytes = rest })

      go : (b : Bool) → ltb (length s.bytes) n ≡ b → HasEnough n s → Alike placed n s (cond b (Err fault) (Ok (take n s.bytes, advanced n s))) (next_bytes fault' n (whole s))
      go true e (inl h) = absurd (omega (arith, h, ltb-true _ _ e))
      go true e (inr h) =
          let all : s.bytes ++ more ≡ s.bytes = rw h (append-nil s.bytes) in
          let short : ltb (length (s.bytes ++ more)) n ≡ true = rw all e in
          (rw short (ap err_of same), omega (arith, within))
      go false e h =
          let long : n ≤ length s.bytes = ltb-false _ _ e in
          let there : ltb (length (s.bytes ++ more)) n ≡ false = le-ltb _ _ (omega (arith, long, length-append s.bytes more)) in (
            rw (there, take-append-le n s.bytes more long, drop-append-le n s.bytes more long) (ap (λ (k : ℕ). found k (take n s.bytes) (drop n s.bytes ++ more)) (omega arith)),
            omega (arith, length-drop n s.bytes, long),
            omega (arith, length-drop n s.bytes, long),
            omega arith,
          )

  pub uint_alike : (w : Width) (s : Rest) → HasEnough (byte_len w) s → Alike short_placed (byte_len w) s (next_uint w s) (next_uint w (whole s))
  uint_alike w s enough = mapped short_placed (byte_len w) s (from_le_bytes w) _ _ (bytes_alike short_placed (short_at s.at) (short_at (base + s.at)) (byte_len w) s refl (omega arith) enough)

  -- ---- values

  short_value : {A : Type 0} (n : ℕ) (s : Rest) (r r' : Result (A × Rest) AShort) → Alike short_placed n s r r' → Alike value_placed n s (reported_as as_value_fault r) (reported_as as_value_fault r')
  short_value n s r r' a = reported short_placed value_placed as_value_fault (λ f. refl) (λ f. refl) n s r r' a

  int_alike : (s : Rest) → HasEnough 8 s → Alike value_placed 8 s (int_body s) (int_body (whole s))
  int_alike s enough = mapped value_placed 8 s (λ n. Int (cast_signed w64 n)) _ _ (short_value 8 s _ _ (uint_alike w64 s enough))

  printable_alike : (tag : ℕ) (bytes : List ℕ) (s : Rest) → tag ≤ s.at → Alike value_placed 0 s (printable_text tag bytes s) (printable_text (base + tag) bytes (whole s))
  printable_alike tag bytes s le = tested value_placed 0 s (list_all is_printable bytes) _ _ _ _ (λ e. none_read value_placed 0 s (Text bytes)) (λ e. (refl, omega (arith, le)))

  length_alike : (tag field len : ℕ) (s : Rest) → tag ≤ s.at → field ≤ s.at → HasEnough 64 s → Alike value_placed 64 s (text_of_length tag field len s) (text_of_length (base + tag) (base + field) len (whole s))
  length_alike tag field len s tag_le field_le enough = tested value_placed 64 s (ltb MAX_TEXT len) _ _ _ _
      (λ e. (refl, omega (arith, tag_le)))
      (λ e.
      let few : len ≤ 64 = ltb-false _ _ e in
      let sum : len + 0 ≤ 64 = omega (arith, few) in
      wider value_placed (len + 0) 64 s _ _ sum
      (bound value_placed len 0 s _ _ (λ t. printable_text tag t.0 t.1) (λ t. printable_text (base + tag) t.0 t.1) (fewer (len + 0) 64 s sum enough)
      (λ h. bytes_alike value_placed (value.Short field) (value.Short (base + field)) len s refl field_le h)
      (λ p later h. printable_alike tag p.0 p.1 (omega (arith, tag_le, later)))))

  text_alike : (tag : ℕ) (s : Rest) → tag ≤ s.at → HasEnough 65 s → Alike value_placed 65 s (text_body tag s) (text_body (base + tag) (whole s))
  text_alike tag s tag_le enough = bound value_placed 1 64 s _ _ (λ len. text_of_length tag s.at len.0 len.1) (λ len. text_of_length (base + tag) (base + s.at) len.0 len.1) enough
      (λ h. short_value 1 s _ _ (byte_alike s h))
      (λ p later h. length_alike tag s.at p.0 p.1 (omega (arith, tag_le, later)) later h)

  body_alike : (at tag : ℕ) (s : Rest) → at ≤ s.at → HasEnough 65 s → Alike value_placed 65 s (value_body at tag s) (value_body (base + at) tag (whole s))
  body_alike at tag s le enough = tested value_placed 65 s (eqb tag 1) _ _ _ _
      (λ e. wider value_placed 8 65 s _ _ (omega arith) (int_alike s (fewer 8 65 s (omega arith) enough)))
      (λ e. tested value_placed 65 s (eqb tag 2) _ _ _ _ (λ f. text_alike at s le enough) (λ f. (refl, omega (arith, le))))

  pub value_alike : (s : Rest) → HasEnough 66 s → Alike value_placed 66 s (next_value s) (next_value (whole s))
  unfolding next_value
  value_alike s enough = bound value_placed 1 65 s _ _ (λ tag. value_body s.at tag.0 tag.1) (λ tag. value_body (base + s.at) tag.0 tag.1) enough
      (λ h. short_value 1 s _ _ (byte_alike s h))
      (λ p later h. body_alike s.at p.0 p.1 later h)

  -- ---- values of a type that is wanted

  value_typed : {A : Type 0} (n : ℕ) (s : Rest) (r r' : Result (A × Rest) ValueFault) → Alike value_placed n s r r' → Alike typed_placed n s (reported_as as_typed_fault r) (reported_as as_typed_fault r')
  value_typed n s r r' a = reported value_placed typed_placed as_typed_fault moves stays n s r r' a
    where
      moves : (f : ValueFault) → as_typed_fault (value_further base f) ≡ typed_further base (as_typed_fault f)
      moves (value.Short at) = refl
      moves (value.Tag at) = refl
      moves (value.Bad at) = refl

      stays : (f : ValueFault) → typed_place (as_typed_fault f) ≡ value_place f
      stays (value.Short at) = refl
      stays (value.Tag at) = refl
      stays (value.Bad at) = refl

  -- what follows a type, as of a value
  abbrev after_type : Ty → Rest → Ty → Result (Value × Rest) TypedFault
  after_type ty s found = cond (same_type found ty) (reported_as as_typed_fault (next_value s)) (Err (typed.Wrong s.at))

  after_alike : (ty found : Ty) (s : Rest) → HasEnough 66 s → Alike typed_placed 66 s (after_type ty s found) (after_type ty (whole s) found)
  after_alike ty found s enough = tested typed_placed 66 s (same_type found ty) _ _ _ _ (λ e. value_typed 66 s _ _ (value_alike s enough)) (λ e. (refl, omega arith))

  -- a type is read in the piece as in all
  abbrev AlikeType : Rest → Result Ty ValueFault → Result Ty ValueFault → Type 0
  AlikeType s (Ok ty) r = r ≡ Ok ty
  AlikeType s (Err f) r = (r ≡ Err (value_further base f)) × (value_place f ≤ s.at + length s.bytes)

  of_tag : (s : Rest) (at tag : ℕ) → at ≤ s.at → AlikeType s (type_of_tag at tag) (type_of_tag (base + at) tag)
  of_tag s at tag le = go (eqb tag 1) (eqb tag 2)
    where
      go : (a b : Bool) → AlikeType s (cond a (Ok IntTy) (cond b (Ok TextTy) (Err (value.Tag at)))) (cond a (Ok IntTy) (cond b (Ok TextTy) (Err (value.Tag (base + at)))))
      go true b = refl
      go false true = refl
      go false false = (refl, omega (arith, le))

  type_alike : (s : Rest) → HasEnough 1 s → AlikeType s (next_type s) (next_type (whole s))
  type_alike s enough = go (next_byte s) (next_byte (whole s)) (byte_alike s enough)
    where
      go : (r r' : Result (ℕ × Rest) AShort) → Alike short_placed 1 s r r' → AlikeType s (reported_as as_value_fault r >>= λ tag. type_of_tag s.at tag.0) (reported_as as_value_fault r' >>= λ tag. type_of_tag (base + s.at) tag.0)
      go (Ok p) r' a = subst (λ (q : Result (ℕ × Rest) AShort). AlikeType s (type_of_tag s.at p.0) (reported_as as_value_fault q >>= λ tag. type_of_tag (base + s.at) tag.0)) (sym a.0) (of_tag s s.at p.0 (omega arith))
      go (Err f) r' a = subst (λ (q : Result (ℕ × Rest) AShort). AlikeType s (Err (value.Short f.at)) (reported_as as_value_fault q >>= λ tag. type_of_tag (base + s.at) tag.0)) (sym a.0) (refl, a.1)

  by_type : (ty : Ty) (s : Rest) (r r' : Result Ty ValueFault) → AlikeType s r r' → HasEnough 66 s → Alike typed_placed 66 s (reported_as as_typed_fault r >>= after_type ty s) (reported_as as_typed_fault r' >>= after_type ty (whole s))
  by_type ty s (Ok found) r' same enough = subst (λ (q : Result Ty ValueFault). Alike typed_placed 66 s (after_type ty s found) (reported_as as_typed_fault q >>= after_type ty (whole s))) (sym same) (after_alike ty found s enough)
  by_type ty s (Err f) r' same enough = subst (λ (q : Result Ty ValueFault). Alike {A = Value} typed_placed 66 s (Err (as_typed_fault f)) (reported_as as_typed_fault q >>= after_type ty (whole s))) (sym same.0) (fault f same.1)
    where
      fault : (f : ValueFault) → value_place f ≤ s.at + length s.bytes → Alike {A = Value} typed_placed 66 s (Err (as_typed_fault f)) (Err (as_typed_fault (value_further base f)))
      fault (value.Short at) le = (refl, le)
      fault (value.Tag at) le = (refl, le)
      fault (value.Bad at) le = (refl, le)

  pub typed_alike : (ty : Ty) (s : Rest) → HasEnough 66 s → Alike typed_placed 66 s (next_typed ty s) (next_typed ty (whole s))
  unfolding next_typed
  typed_alike ty s enough = by_type ty s (next_type s) (next_type (whole s)) (type_alike s (fewer 1 66 s (omega arith) enough)) enough

  pub key_alike : (ty : Ty) (s : Rest) → HasEnough 66 s → Alike typed_placed 66 s (next_key ty s) (next_key ty (whole s))
  unfolding next_key
  key_alike ty s enough = mapped typed_placed 66 s as_key _ _ (typed_alike ty s enough)

  pub values_alike : (types : List Ty) (s : Rest) → HasEnough (66 * length types) s → Alike typed_placed (66 * length types) s (next_values types s) (next_values types (whole s))
  unfolding along
  values_alike [] s enough = none_read typed_placed (66 * 0) s []
  values_alike (ty ∷ types) s enough =
      let sum : 66 + 66 * length types ≡ 66 * suc (length types) = omega arith in
      subst (λ (n : ℕ). Alike typed_placed n s (next_values (ty ∷ types) s) (next_values (ty ∷ types) (whole s))) sum
      (bound typed_placed 66 (66 * length types) s _ _ (λ x. along next_typed types x.1 >>= λ xs. Ok (x.0 ∷ xs.0, xs.1)) (λ x. along next_typed types x.1 >>= λ xs. Ok (x.0 ∷ xs.0, xs.1)) (fewer (66 + 66 * length types) (66 * suc (length types)) s (omega arith) enough)
      (λ h. typed_alike ty s h)
      (λ p later h. mapped typed_placed (66 * length types) p.1 (λ (xs : List Value). p.0 ∷ xs) _ _ (values_alike types p.1 h)))
