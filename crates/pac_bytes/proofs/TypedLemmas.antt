-- Values and keys of a type that is wanted, and values of several types, are codecs.
use Rattle.std.proofs.Common.{◌≡◌, ℕ, true, cond, List, [], ◌∷◌, ◌++◌, map, Ok, Err, refl, sym, ap, ◌∙◌, IsTrue}
use Rattle.std.specs.List.{All, AllZip, list_all}
use Rattle.std.proofs.lemmas.List.{append-nil}
use Rattle.std.proofs.lemmas.List.Elements.{All-nil, All-cons, All-head, All-tail}
use Rattle.pac_value.specs.declared.values.Ty.{Ty}
use Rattle.pac_value.specs.declared.values.Ty.TheVariants as ty
use Rattle.pac_value.specs.declared.values.Key.{Key}
use Rattle.pac_value.specs.declared.values.Key.TheVariants.{Int as IntKey, Text as TextKey}
use Rattle.pac_value.specs.declared.values.Value.{Value}
use Rattle.pac_value.specs.declared.values.Value.TheVariants.{Int, Text, Bool as Truth}
use Rattle.pac_value.specs.Values.{type_of, is_stored, key_value, as_key}
use Rattle.pac_bytes.specs.declared.fault.ValueFault.{ValueFault}
use Rattle.pac_bytes.specs.declared.fault.TypedFault.TheVariants as fault
use Rattle.pac_bytes.specs.Reading.{reported_as}
use Rattle.pac_bytes.specs.Values.{value_bytes, HasBytes, next_type, next_value}
use Rattle.pac_bytes.specs.Typed.{HasType, key_bytes, KeyHasType, values_bytes, HaveTypes, as_typed_fault, same_type, next_typed, next_key, next_values}
use Rattle.pac_bytes.proofs.Results.{bind_ok, reported_as_ok, ok_same, true_ok}
use Rattle.pac_bytes.proofs.Codec.{IsCodec, ended, seq, same}
use Rattle.pac_bytes.proofs.Lists.{along_codec}
use Rattle.pac_bytes.proofs.ValueLemmas.{value_codec}

-- ---- a value of a type

-- the tag of a value is that of its type
leading_type : (v : Value) (at : ℕ) (more : List ℕ) → HasBytes v → next_type (record { at = at; bytes = value_bytes v ++ more }) ≡ Ok (type_of v)
leading_type (Int z) at more form = refl
leading_type (Text t) at more form = refl
leading_type (Truth b) at more form = absurd form

same_itself : (t : Ty) → same_type t t ≡ true
same_itself ty.Int = refl
same_itself ty.Text = refl
same_itself ty.Bool = refl

same_is : (a b : Ty) → same_type a b ≡ true → a ≡ b
same_is ty.Int ty.Int h = refl
same_is ty.Text ty.Text h = refl
same_is ty.Bool ty.Bool h = refl
same_is ty.Int ty.Text h = absurd cc
same_is ty.Int ty.Bool h = absurd cc
same_is ty.Text ty.Int h = absurd cc
same_is ty.Text ty.Bool h = absurd cc
same_is ty.Bool ty.Int h = absurd cc
same_is ty.Bool ty.Text h = absurd cc

pub typed_codec : (t : Ty) → IsCodec (HasType t) value_bytes (next_typed t)
unfolding next_typed
typed_codec t = record {
  again = λ x at more fits. rw (leading_type x at more fits.0, fits.1, same_itself t, value_codec.again x at more fits.0) refl;
  found = λ s x r bytes e.
      let steps = bind_ok (reported_as as_typed_fault (next_type s)) (λ found. cond (same_type found t) (reported_as as_typed_fault (next_value s)) (Err (fault.Wrong s.at))) (x, r) e in
      let test = true_ok (same_type steps.0 t) (fault.Wrong s.at) (reported_as as_typed_fault (next_value s)) (x, r) steps.2 in
      let is = value_codec.found s x r bytes (reported_as_ok as_typed_fault (next_value s) (x, r) test.1) in
      let type_is : next_type s ≡ Ok (type_of x) = ap (λ (w : List ℕ). next_type (record { at = s.at; bytes = w })) is.bytes ∙ leading_type x s.at r.bytes is.form in
      let found : steps.0 ≡ type_of x = ok_same {F = ValueFault} steps.0 (type_of x) (sym (reported_as_ok as_typed_fault (next_type s) steps.0 steps.1) ∙ type_is) in
      record { bytes = is.bytes; offset = is.offset; form = (is.form, sym found ∙ same_is steps.0 t test.0) };
}

-- ---- a key of a type

key_of_value : (k : Key) (v : Value) → key_value k ≡ v → k ≡ as_key v
key_of_value (IntKey n) v e = ap as_key e
key_of_value (TextKey t) v e = ap as_key e

value_of_key : (k : Key) (v : Value) → HasBytes v → k ≡ as_key v → key_value k ≡ v
value_of_key k (Int z) form e = ap key_value e
value_of_key k (Text t) form e = ap key_value e
value_of_key k (Truth b) form e = absurd form

pub key_codec : (t : Ty) → IsCodec (KeyHasType t) key_bytes (next_key t)
unfolding next_key
key_codec t = same _ _ _ _ _
    (λ k h. (tt, h))
    (λ k h. h.1)
    (λ k h. append-nil (key_bytes k))
    (seq key_value (HasType t) value_bytes (next_typed t) (λ k. Unit {0}) (λ k. []) (λ at v s. Ok (as_key v, s))
    (typed_codec t)
    (λ at v is. same _ _ _ _ _
    (λ k h. key_of_value k v h.1)
    (λ k e. (tt, value_of_key k v is.0 e))
    (λ k h. refl)
    (ended (as_key v))))

-- ---- values of several types

zip_of_types : (ts : List Ty) (vs : List Value) → HaveTypes ts vs → AllZip HasType ts vs
zip_of_types [] [] h = tt
zip_of_types [] (v ∷ vs) h = absurd (none h.0)
  where
    none : type_of v ∷ map type_of vs ≡ [] → ⊥
    none e = cc
zip_of_types (t ∷ ts) [] h = absurd (none h.0)
  where
    none : [] ≡ t ∷ ts → ⊥
    none e = cc
zip_of_types (t ∷ ts) (v ∷ vs) h = ((All-head HasBytes v vs h.1, head h.0), zip_of_types ts vs (tail h.0, All-tail HasBytes v vs h.1))
  where
    head : type_of v ∷ map type_of vs ≡ t ∷ ts → type_of v ≡ t
    head e = cc

    tail : type_of v ∷ map type_of vs ≡ t ∷ ts → map type_of vs ≡ ts
    tail e = cc

types_of_zip : (ts : List Ty) (vs : List Value) → AllZip HasType ts vs → HaveTypes ts vs
types_of_zip [] [] h = (refl, All-nil HasBytes)
types_of_zip [] (v ∷ vs) h = absurd h
types_of_zip (t ∷ ts) [] h = absurd h
types_of_zip (t ∷ ts) (v ∷ vs) h =
    let rest = types_of_zip ts vs h.1 in
    (joined h.0.1 rest.0, All-cons HasBytes v vs h.0.0 rest.1)
  where
    joined : type_of v ≡ t → map type_of vs ≡ ts → type_of v ∷ map type_of vs ≡ t ∷ ts
    joined a b = cc

pub values_codec : (ts : List Ty) → IsCodec (HaveTypes ts) values_bytes (next_values ts)
values_codec ts = same _ _ _ _ (next_values ts) (zip_of_types ts) (types_of_zip ts) (λ vs h. refl) (along_codec HasType value_bytes next_typed typed_codec ts)

stored_value : (v : Value) → HasBytes v → is_stored v ≡ true
stored_value (Int z) h = refl
stored_value (Text t) h = refl
stored_value (Truth b) h = absurd h

-- values that have bytes are none of them bools
pub all_stored : (vs : List Value) → All HasBytes vs → IsTrue (list_all is_stored vs)
all_stored [] h = refl
all_stored (v ∷ vs) h = rw (stored_value v (All-head HasBytes v vs h)) (all_stored vs (All-tail HasBytes v vs h))
