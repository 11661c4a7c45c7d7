-- How far reading looks from a gate on: what stands after the body and the next gate is not looked at.
use Rattle.std.proofs.Common.{◌≡◌, ◌∙◌, ℕ, suc, ◌+◌, ◌-◌, ◌<◌, ◌≤◌, ◌||◌, Bool, true, false, cond, eqb, ltb, List, [], ◌∷◌, length, take, drop, Option, Some, None, Result, Ok, Err, refl, sym, ap, ap₂, arith}
use Rattle.std.specs.Int.{w32, from_le_bytes}
use Rattle.std.proofs.lemmas.Bool.{ltb-true, ltb-false, le-ltb, lt-ltb, eqb-true}
use Rattle.std.proofs.lemmas.List.{length-take, length-drop, take-take, take_all, drop-take}
use Rattle.pac_value.specs.Expressions.{◌>>=◌}
use Rattle.pac_ops.specs.declared.limits.TheConstants.{MAX_TXNS}
use Rattle.pac_ops.specs.declared.transaction.Txn.{Txn}
use Rattle.pac_types.specs.Typing.{CatalogueState}
use Rattle.pac_bytes.specs.declared.fault.Short.{Short}
use Rattle.pac_bytes.specs.Reading.{Rest, from, short_at, next_uint, all_read, within}
use Rattle.pac_bytes.proofs.Results.{ok_same}
use Rattle.pac_log.specs.declared.limits.TheConstants.{MAX_ENTRIES_LEN}
use Rattle.pac_log.specs.declared.link.Link.{Link}
use Rattle.pac_log.specs.BodyReading.{link_number, entries_and_gate, counted_link, next_link}
use Rattle.pac_log.specs.Damages.{short_from, out_of_range}
use Rattle.pac_log.specs.Reading.{after_gate}

-- a number of four bytes, where these are there
number_there : (at : ℕ) (bytes : List ℕ) → 4 ≤ length bytes → link_number (record { at = at; bytes = bytes }) ≡ Ok (from_le_bytes w32 (take 4 bytes), record { at = at + 4; bytes = drop 4 bytes })
number_there at bytes long =
    let there : ltb (length bytes) 4 ≡ false = le-ltb _ _ long in
    rw there refl

-- what a reading gives, without what is left
abbrev given : {A B F : Type 0} → (A → B) → Result (A × Rest) F → Result B F
given f r = r >>= λ x. Ok (f x.0)

filled_alike : {A B F : Type 0} (f : A → B) (left : ℕ → F) (s t : Rest) (r : Result (A × Rest) F) → given f (r >>= all_read left s) ≡ given f (r >>= all_read left t)
filled_alike f left s t (Err fault) = refl
filled_alike f left s t (Ok x) = by (eqb (length x.1.bytes) 0) refl
  where
    by : (b : Bool) → eqb (length x.1.bytes) 0 ≡ b → given f (all_read left s x) ≡ given f (all_read left t x)
    by true e = rw e refl
    by false e = rw e refl

-- what fills n bytes is found in as many bytes of the list as in all
within_alike : {A B F : Type 0} (f : A → B) (short left : ℕ → F) (n m at : ℕ) (read : Rest → Result (A × Rest) F) (bytes : List ℕ) → n ≤ m
    → given f (within short left n read (record { at = at; bytes = take m bytes })) ≡ given f (within short left n read (record { at = at; bytes = bytes }))
within_alike {A} {B} {F} f short left n m at read bytes enough = by (ltb (length bytes) n) refl
  where
    by : (b : Bool) → ltb (length bytes) n ≡ b → given f (within short left n read (record { at = at; bytes = take m bytes })) ≡ given f (within short left n read (record { at = at; bytes = bytes }))
    by true e =
        let few : length bytes < n = ltb-true _ _ e in
        let few_too : ltb (length (take m bytes)) n ≡ true = lt-ltb (length (take m bytes)) n (omega (arith, few, length-take m bytes)) in
        rw (e, few_too) refl
    by false e =
        let many : n ≤ length bytes = ltb-false _ _ e in
        let many_too : ltb (length (take m bytes)) n ≡ false = le-ltb _ _ (omega (arith, many, length-take m bytes)) in
        rw (e, many_too, take-take n m bytes enough) (filled_alike f left _ _ (read (record { at = at; bytes = take n bytes })))

-- what stands after n bytes of a prefix
rest_of_prefix : (n m : ℕ) (bytes : List ℕ) → n ≤ m → drop n (take m bytes) ≡ take (m - n) (drop n bytes)
rest_of_prefix n m bytes le =
    let parts : m ≡ n + (m - n) = omega arith in
    ap (λ (k : ℕ). drop n (take k bytes)) parts ∙ drop-take n (m - n) bytes

prefix_long : (n m : ℕ) (bytes : List ℕ) → n ≤ m → n ≤ length bytes → n ≤ length (take m bytes)
prefix_long n m bytes le long = omega (arith, length-take m bytes)

-- the transactions of a link
abbrev txns_of : Link → Option (List Txn)
txns_of link = Some link.txns

-- the number that comes first
abbrev len_in : List ℕ → ℕ
len_in bytes = from_le_bytes w32 (take 4 bytes)

counted_alike : (catalogue : CatalogueState) (count at m : ℕ) (bytes : List ℕ) → 4 ≤ length bytes → 4 ≤ m → (len_in bytes ≤ MAX_ENTRIES_LEN → 5 + len_in bytes ≤ m)
    → given txns_of (counted_link catalogue count (record { at = at; bytes = take m bytes })) ≡ given txns_of (counted_link catalogue count (record { at = at; bytes = bytes }))
unfolding counted_link
counted_alike catalogue count at m bytes long four enough = by (ltb MAX_ENTRIES_LEN len) refl
  where
    len : ℕ
    len = len_in bytes

    same_len : from_le_bytes w32 (take 4 (take m bytes)) ≡ len
    same_len = ap (λ (b : List ℕ). from_le_bytes w32 b) (take-take 4 m bytes four)

    cut_number : link_number (record { at = at; bytes = take m bytes }) ≡ Ok (len, record { at = at + 4; bytes = take (m - 4) (drop 4 bytes) })
    cut_number = number_there at (take m bytes) (prefix_long 4 m bytes four long) ∙ ap₂ (λ (n : ℕ) (b : List ℕ). Ok (n, record { at = at + 4; bytes = b })) same_len (rest_of_prefix 4 m bytes four)

    whole_number : link_number (record { at = at; bytes = bytes }) ≡ Ok (len, record { at = at + 4; bytes = drop 4 bytes })
    whole_number = number_there at bytes long

    by : (b : Bool) → ltb MAX_ENTRIES_LEN len ≡ b
        → given txns_of (counted_link catalogue count (record { at = at; bytes = take m bytes })) ≡ given txns_of (counted_link catalogue count (record { at = at; bytes = bytes }))
    by true e = rw (cut_number, whole_number, e) refl
    by false e =
        let there : 5 + len ≤ m = enough (ltb-false _ _ e) in
        rw (cut_number, whole_number, e) (within_alike txns_of short_from out_of_range (len + 1) (m - 4) (at + 4) (entries_and_gate catalogue count len) (drop 4 bytes) (omega (arith, there)))

link_alike : (catalogue : CatalogueState) (at m : ℕ) (bytes : List ℕ) → 8 ≤ length bytes → 8 ≤ m → (len_in (drop 4 bytes) ≤ MAX_ENTRIES_LEN → 9 + len_in (drop 4 bytes) ≤ m)
    → given txns_of (next_link catalogue (record { at = at; bytes = take m bytes })) ≡ given txns_of (next_link catalogue (record { at = at; bytes = bytes }))
unfolding next_link
link_alike catalogue at m bytes long eight enough = by (eqb count 0 || ltb MAX_TXNS count) refl
  where
    count : ℕ
    count = len_in bytes

    cut_number : link_number (record { at = at; bytes = take m bytes }) ≡ Ok (count, record { at = at + 4; bytes = take (m - 4) (drop 4 bytes) })
    cut_number =
        number_there at (take m bytes) (prefix_long 4 m bytes (omega arith) (omega arith))
        ∙ ap₂ (λ (n : ℕ) (b : List ℕ). Ok (n, record { at = at + 4; bytes = b })) (ap (λ (b : List ℕ). from_le_bytes w32 b) (take-take 4 m bytes (omega arith))) (rest_of_prefix 4 m bytes (omega arith))

    whole_number : link_number (record { at = at; bytes = bytes }) ≡ Ok (count, record { at = at + 4; bytes = drop 4 bytes })
    whole_number = number_there at bytes (omega arith)

    by : (b : Bool) → (eqb count 0 || ltb MAX_TXNS count) ≡ b
        → given txns_of (next_link catalogue (record { at = at; bytes = take m bytes })) ≡ given txns_of (next_link catalogue (record { at = at; bytes = bytes }))
    by true e = rw (cut_number, whole_number, e) refl
    by false e = rw (cut_number, whole_number, e) (counted_alike catalogue count (at + 4) (m - 4) (drop 4 bytes) (omega (arith, length-drop 4 bytes)) (omega arith) (λ few. omega (arith, enough few)))

-- ---- from a gate on

-- the length of the entries, after the gate and the number of transactions
abbrev pub entries_len_in : List ℕ → ℕ
entries_len_in bytes = from_le_bytes w32 (take 4 (drop 5 bytes))

-- the two numbers are enough where the gate is shut, or where they end the bytes, or where the entries are too long
prefix_alike : (catalogue : CatalogueState) (gate n : ℕ) (bytes : List ℕ) → (gate ≡ 1 → 8 ≤ length bytes → entries_len_in (gate ∷ bytes) ≤ MAX_ENTRIES_LEN → 9 + entries_len_in (gate ∷ bytes) ≤ n) → 8 ≤ n
    → after_gate catalogue (gate ∷ take n bytes) ≡ after_gate catalogue (gate ∷ bytes)
prefix_alike catalogue gate n bytes enough eight = by (eqb gate 1) refl (ltb (length bytes) 8) refl
  where
    by : (b : Bool) → eqb gate 1 ≡ b → (c : Bool) → ltb (length bytes) 8 ≡ c → after_gate catalogue (gate ∷ take n bytes) ≡ after_gate catalogue (gate ∷ bytes)
    by false e c f = rw e refl
    by true e true f =
        let few : length bytes < 8 = ltb-true _ _ f in
        ap (λ (b : List ℕ). after_gate catalogue (gate ∷ b)) (take_all n bytes (omega (arith, few)))
    by true e false f =
        let many : 8 ≤ length bytes = ltb-false _ _ f in
        ap (λ r. cond (eqb gate 1) r (Ok None)) (link_alike catalogue 1 n bytes many eight (enough (eqb-true _ _ e) many))

-- that many bytes after a gate and the two numbers are enough
pub reach_enough : (catalogue : CatalogueState) (all : List ℕ) (n : ℕ)
    → ((rest : List ℕ) → all ≡ 1 ∷ rest → 9 ≤ length all → entries_len_in all ≤ MAX_ENTRIES_LEN → entries_len_in all < n) → after_gate catalogue (take (9 + n) all) ≡ after_gate catalogue all
reach_enough catalogue [] n enough = ap (λ (l : List ℕ). after_gate catalogue l) (take_all (9 + n) [] (omega arith))
reach_enough catalogue (gate ∷ bytes) n enough =
    let nine : 9 + n ≡ suc (8 + n) = omega arith in
    rw nine (prefix_alike catalogue gate (8 + n) bytes (λ is many few. omega (arith, enough bytes (ap (λ (g : ℕ). g ∷ bytes) is) (omega (arith, many)) few)) (omega arith))

-- ---- by the length that was read

-- the length is that of all, where it was read from its prefix
len_read : (prefix all : List ℕ) (len : ℕ) (t : Rest) → prefix ≡ take 9 all → next_uint w32 (from prefix 5) ≡ Ok (len, t) → entries_len_in all ≡ len
len_read prefix all len t is read = by (ltb (length (drop 5 prefix)) 4) refl
  where
    bytes : take 4 (drop 5 prefix) ≡ take 4 (drop 5 all)
    bytes = ap (λ (l : List ℕ). take 4 (drop 5 l)) is ∙ ap (λ (l : List ℕ). take 4 l) (drop-take 5 4 all) ∙ take-take 4 4 (drop 5 all) (omega arith)

    ok_len : (n : ℕ) (s : Rest) → ◌≡◌ {A = Result (ℕ × Rest) Short} (Ok (n, s)) (Ok (len, t)) → n ≡ len
    ok_len n s e = ap (λ (p : ℕ × Rest). p.0) (ok_same {F = Short} (n, s) (len, t) e)

    no_ok : (short : Short) → ◌≡◌ {A = Result (ℕ × Rest) Short} (Err short) (Ok (len, t)) → ⊥
    no_ok short e = cc

    by : (b : Bool) → ltb (length (drop 5 prefix)) 4 ≡ b → entries_len_in all ≡ len
    by true e = absurd (no_ok (short_at 5) (rw e at read))
    by false e = sym (ap (λ (l : List ℕ). from_le_bytes w32 l) bytes) ∙ ok_len _ _ (rw e at read)

pub len_enough : (prefix : List ℕ) (len : ℕ) (t : Rest) → next_uint w32 (from prefix 5) ≡ Ok (len, t) → (catalogue : CatalogueState) (all : List ℕ) → prefix ≡ take 9 all → after_gate catalogue (take (9 + (len + 1)) all) ≡ after_gate catalogue all
len_enough prefix len t read catalogue all is = reach_enough catalogue all (len + 1) (λ rest starts many few. omega (arith, len_read prefix all len t is read))

pub too_long : (prefix : List ℕ) (len : ℕ) (t : Rest) → next_uint w32 (from prefix 5) ≡ Ok (len, t) → MAX_ENTRIES_LEN < len → (catalogue : CatalogueState) (all : List ℕ) → prefix ≡ take 9 all → after_gate catalogue (take 9 all) ≡ after_gate catalogue all
too_long prefix len t read long catalogue all is = reach_enough catalogue all 0 (λ rest starts many few. omega (arith, few, long, len_read prefix all len t is read))
