-- Values are codecs.
use Rattle.std.proofs.Common.{◌≡◌, ◌∙◌, ℕ, ◌<◌, ◌≤◌, ◌^◌, ◌&&◌, leb, Bool, true, false, cond, eqb, ltb, List, [], ◌∷◌, length, Ok, Err, refl, sym, ap, subst, arith, rules}
use Rattle.std.specs.Prelude.{FitsSigned, ℤ}
use Rattle.std.specs.List.{list_all}
use Rattle.std.specs.Int.{w64, to_le_bytes, cast_signed, cast_unsigned}
use Rattle.std.proofs.lemmas.Bool.{eqb-true, ltb-true, ltb-false, leb-true}
use Rattle.std.proofs.lemmas.List.{append-nil}
use Rattle.std.proofs.lemmas.Int.{to_z-of_z, of_z-to_z}
use Rattle.std.proofs.Math.Facts.{sfits_to_z, Fits-of_z}
use Rattle.pac_value.specs.declared.limits.TheConstants.{MAX_TEXT}
use Rattle.pac_value.specs.declared.values.Value.{Value}
use Rattle.pac_value.specs.declared.values.Value.TheVariants.{Int, Text, Bool as Truth}
use Rattle.pac_value.specs.Expressions.{◌>>=◌}
use Rattle.pac_value.specs.Texts.{IsText, is_printable}
use Rattle.pac_bytes.specs.declared.fault.ValueFault.TheVariants as fault
use Rattle.pac_bytes.specs.Reading.{reported_as, next_byte, next_bytes, next_uint}
use Rattle.pac_bytes.specs.Values.{value_bytes, HasBytes, as_value_fault, int_body, printable_text, text_of_length, text_body, value_body, next_value}
use Rattle.pac_bytes.proofs.Results.{not_both}
use Rattle.pac_bytes.proofs.Bytes.{IsBytes, AreBytes, IsBytes-nil, IsBytes-cons}
use Rattle.pac_bytes.proofs.Codec.{IsCodec, ended, seq, either, never, same, reported_again}
use Rattle.pac_bytes.proofs.Numbers.{IsByte, one_byte, byte_codec, bytes_codec, uint_codec, width64}

-- ---- ints

abbrev IsInt : Value → Type 0
IsInt (Int z) = FitsSigned w64 z
IsInt (Text t) = ⊥
IsInt (Truth b) = ⊥

abbrev bits_of : Value → ℕ
bits_of (Int z) = cast_unsigned w64 z
bits_of (Text t) = 0
bits_of (Truth b) = 0

int_of_bits : (n : ℕ) (v : Value) → IsInt v × (bits_of v ≡ n) → v ≡ Int (cast_signed w64 n)
int_of_bits n (Int z) h = ap (λ x. Int x) (sym (to_z-of_z w64 z h.0) ∙ ap (cast_signed w64) h.1)
int_of_bits n (Text t) h = absurd h.0
int_of_bits n (Truth b) h = absurd h.0

signed_fits : (n : ℕ) → n < 2 ^ 64 → FitsSigned w64 (cast_signed w64 n)
signed_fits n lt = sfits_to_z {w = w64} {n = n} (search rules)

bits_of_int : (n : ℕ) → n < 2 ^ 64 → (v : Value) → v ≡ Int (cast_signed w64 n) → IsInt v × (bits_of v ≡ n)
bits_of_int n lt v e = subst (λ (x : Value). IsInt x × (bits_of x ≡ n)) (sym e) (signed_fits n lt, of_z-to_z w64 n lt)

unsigned_small : (z : ℤ) → FitsSigned w64 z → cast_unsigned w64 z < 2 ^ 64
unsigned_small z h = let fits = Fits-of_z {w = w64} {z = z} h in omega arith

bits_small : (v : Value) → IsInt v → bits_of v < 2 ^ 64
bits_small (Int z) h = unsigned_small z h
bits_small (Text t) h = absurd h
bits_small (Truth b) h = absurd h

int_codec : IsCodec IsInt (λ v. to_le_bytes w64 (bits_of v)) int_body
int_codec = same _ _ _ _ int_body
    (λ v is. (is, bits_small v is))
    (λ v fits. fits.0)
    (λ v is. append-nil (to_le_bytes w64 (bits_of v)))
    (seq bits_of (λ n. n < 2 ^ 64) (to_le_bytes w64) (λ s. reported_as as_value_fault (next_uint w64 s)) IsInt (λ v. []) (λ at n s. Ok (Int (cast_signed w64 n), s))
    (reported_again _ _ (next_uint w64) as_value_fault (uint_codec w64 (2 ^ 64) width64))
    (λ at n lt. same _ _ _ _ _ (int_of_bits n) (bits_of_int n lt) (λ v h. refl) (ended (Int (cast_signed w64 n)))))

-- ---- texts

abbrev IsTextValue : Value → Type 0
IsTextValue (Int z) = ⊥
IsTextValue (Text t) = IsText t
IsTextValue (Truth b) = ⊥

abbrev bytes_of : Value → List ℕ
bytes_of (Int z) = []
bytes_of (Text t) = t
bytes_of (Truth b) = []

both_true : (a b : Bool) → (a && b) ≡ true → (a ≡ true) × (b ≡ true)
both_true true b h = (refl, h)
both_true false b h = absurd cc

printable_bytes : (t : List ℕ) → list_all is_printable t ≡ true → IsBytes t
printable_bytes [] h = IsBytes-nil
printable_bytes (b ∷ t) h =
    let two = both_true (is_printable b) (list_all is_printable t) h in
    let low = both_true (leb 32 b) (leb b 126) two.0 in
    let small : b ≤ 126 = leb-true _ _ low.1 in
    IsBytes-cons b t (omega arith) (printable_bytes t two.1)

text_bytes : (v : Value) → IsTextValue v → IsBytes (bytes_of v)
text_bytes (Int z) h = absurd h
text_bytes (Text t) h = printable_bytes t h.1
text_bytes (Truth b) h = absurd h

text_short : (v : Value) → IsTextValue v → length (bytes_of v) ≤ MAX_TEXT
text_short (Int z) h = absurd h
text_short (Text t) h = h.0
text_short (Truth b) h = absurd h

text_of_bytes : (bs : List ℕ) (v : Value) → IsTextValue v → bytes_of v ≡ bs → v ≡ Text bs
text_of_bytes bs (Int z) h e = absurd h
text_of_bytes bs (Text t) h e = ap (λ x. Text x) e
text_of_bytes bs (Truth b) h e = absurd h

text_printable : (bs : List ℕ) (v : Value) → IsTextValue v → bytes_of v ≡ bs → list_all is_printable bs ≡ true
text_printable bs (Int z) h e = absurd h
text_printable bs (Text t) h e = subst (λ (x : List ℕ). list_all is_printable x ≡ true) e h.1
text_printable bs (Truth b) h e = absurd h

-- a text of that many bytes
abbrev HasLength : ℕ → Value → Type 0
HasLength len v = IsTextValue v × (length (bytes_of v) ≡ len)

printable_codec : (tag len : ℕ) (bs : List ℕ) → len ≤ MAX_TEXT → AreBytes len bs → IsCodec (λ v. HasLength len v × (bytes_of v ≡ bs)) (λ v. []) (printable_text tag bs)
printable_codec tag len bs short are = either _ _ (list_all is_printable bs) (λ s. Ok (Text bs, s)) (λ s. Err (fault.Bad tag))
    (λ good. same _ _ _ _ _
    (λ v h. text_of_bytes bs v h.0.0 h.1)
    (λ v e. subst (λ (x : Value). HasLength len x × (bytes_of x ≡ bs)) (sym e) (((omega (arith, are.0), good), are.0), refl))
    (λ v h. refl)
    (ended (Text bs)))
    (λ bad. never _ _ (λ s. fault.Bad tag) (λ v h. not_both _ (text_printable bs v h.0.0 h.1) bad))

length_codec : (tag field len : ℕ) → IsCodec (HasLength len) bytes_of (text_of_length tag field len)
length_codec tag field len = either _ _ (ltb MAX_TEXT len) (λ s. Err (fault.Bad tag)) (λ s. next_bytes (fault.Short field) len s >>= λ t. printable_text tag t.0 t.1)
    (λ long. never _ _ (λ s. fault.Bad tag) (λ v h. absurd (omega (arith, ltb-true _ _ long, text_short v h.0, h.1))))
    (λ short. same _ _ _ _ _
    (λ v h. (h, (h.1, text_bytes v h.0)))
    (λ v fits. fits.0)
    (λ v h. append-nil (bytes_of v))
    (seq bytes_of (AreBytes len) (λ bs. bs) (λ s. next_bytes (fault.Short field) len s) (HasLength len) (λ v. []) (λ at bs s. printable_text tag bs s)
    (bytes_codec (λ s. fault.Short field) len)
    (λ at bs are. printable_codec tag len bs (ltb-false _ _ short) are)))

text_codec : (tag : ℕ) → IsCodec IsTextValue (λ v. length (bytes_of v) ∷ bytes_of v) (text_body tag)
text_codec tag = same _ _ _ _ (text_body tag)
    (λ v is. let short = text_short v is in (is, omega arith))
    (λ v fits. fits.0)
    (λ v is. refl)
    (seq (λ v. length (bytes_of v)) IsByte one_byte (λ s. reported_as as_value_fault (next_byte s)) IsTextValue bytes_of (λ at len s. text_of_length tag at len s)
    (reported_again _ _ next_byte as_value_fault byte_codec)
    (λ at len lt. length_codec tag at len))

-- ---- values

abbrev tag_of : Value → ℕ
tag_of (Int z) = 1
tag_of (Text t) = 2
tag_of (Truth b) = 0

-- what stands after the tag
abbrev body_bytes : Value → List ℕ
body_bytes (Int z) = to_le_bytes w64 (cast_unsigned w64 z)
body_bytes (Text t) = length t ∷ t
body_bytes (Truth b) = []

abbrev HasTag : ℕ → Value → Type 0
HasTag tag v = HasBytes v × (tag_of v ≡ tag)

int_of_tag : (v : Value) → HasTag 1 v → IsInt v
int_of_tag (Int z) h = h.0
int_of_tag (Text t) h = absurd (omega (arith, h.1))
int_of_tag (Truth b) h = absurd h.0

tag_of_int : (v : Value) → IsInt v → HasTag 1 v
tag_of_int (Int z) h = (h, refl)
tag_of_int (Text t) h = absurd h
tag_of_int (Truth b) h = absurd h

bytes_of_int : (v : Value) → HasTag 1 v → to_le_bytes w64 (bits_of v) ≡ body_bytes v
bytes_of_int (Int z) h = refl
bytes_of_int (Text t) h = absurd (omega (arith, h.1))
bytes_of_int (Truth b) h = absurd h.0

text_of_tag : (v : Value) → HasTag 2 v → IsTextValue v
text_of_tag (Int z) h = absurd (omega (arith, h.1))
text_of_tag (Text t) h = h.0
text_of_tag (Truth b) h = absurd h.0

tag_of_text : (v : Value) → IsTextValue v → HasTag 2 v
tag_of_text (Int z) h = absurd h
tag_of_text (Text t) h = (h, refl)
tag_of_text (Truth b) h = absurd h

bytes_of_text : (v : Value) → HasTag 2 v → length (bytes_of v) ∷ bytes_of v ≡ body_bytes v
bytes_of_text (Int z) h = absurd (omega (arith, h.1))
bytes_of_text (Text t) h = refl
bytes_of_text (Truth b) h = absurd h.0

no_other_tag : (tag : ℕ) (v : Value) → eqb tag 1 ≡ false → eqb tag 2 ≡ false → HasTag tag v → ⊥
no_other_tag tag (Int z) no_int no_text h = not_both (eqb tag 1) (rw (← h.1) refl) no_int
no_other_tag tag (Text t) no_int no_text h = not_both (eqb tag 2) (rw (← h.1) refl) no_text
no_other_tag tag (Truth t) no_int no_text h = absurd h.0

body_codec : (at tag : ℕ) → IsCodec (HasTag tag) body_bytes (value_body at tag)
body_codec at tag = either _ _ (eqb tag 1) int_body (λ s. cond (eqb tag 2) (text_body at s) (Err (fault.Tag at)))
    (λ one. subst (λ (k : ℕ). IsCodec (HasTag k) body_bytes int_body) (sym (eqb-true _ _ one)) (same _ _ _ _ int_body int_of_tag tag_of_int bytes_of_int int_codec))
    (λ not_one. either _ _ (eqb tag 2) (text_body at) (λ s. Err (fault.Tag at))
    (λ two. subst (λ (k : ℕ). IsCodec (HasTag k) body_bytes (text_body at)) (sym (eqb-true _ _ two)) (same _ _ _ _ (text_body at) text_of_tag tag_of_text bytes_of_text (text_codec at)))
    (λ not_two. never _ _ (λ s. fault.Tag at) (λ v h. no_other_tag tag v not_one not_two h)))

tag_small : (v : Value) → IsByte (tag_of v)
tag_small (Int z) = omega arith
tag_small (Text t) = omega arith
tag_small (Truth b) = omega arith

tag_and_body : (v : Value) → HasBytes v → tag_of v ∷ body_bytes v ≡ value_bytes v
tag_and_body (Int z) h = refl
tag_and_body (Text t) h = refl
tag_and_body (Truth b) h = absurd h

pub value_codec : IsCodec HasBytes value_bytes next_value
unfolding next_value
value_codec = same _ _ _ _ _
    (λ v h. (h, tag_small v))
    (λ v fits. fits.0)
    (λ v h. tag_and_body v h)
    (seq tag_of IsByte one_byte (λ s. reported_as as_value_fault (next_byte s)) HasBytes body_bytes (λ at tag s. value_body at tag s)
    (reported_again _ _ next_byte as_value_fault byte_codec)
    (λ at tag lt. body_codec at tag))
