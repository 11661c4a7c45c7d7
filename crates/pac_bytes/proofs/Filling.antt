-- What fills that many bytes is a codec.
use Rattle.std.proofs.Common.{◌≡◌, ◌∙◌, ℕ, ◌≤◌, ◌+◌, false, eqb, ltb, List, [], ◌++◌, length, take, drop, Result, Ok, refl, sym, ap, subst, arith}
use Rattle.std.proofs.lemmas.Bool.{eqb-true, ltb-false, le-ltb}
use Rattle.std.proofs.lemmas.List.{take_at, drop_at, take-append-drop, length-append, length-take, append-nil, nil_from_length}
use Rattle.pac_value.specs.Expressions.{◌>>=◌}
use Rattle.pac_bytes.specs.Reading.{Rest, advanced, all_read, within}
use Rattle.pac_bytes.specs.Readers.{IsAtStart}
use Rattle.pac_bytes.proofs.Results.{bind_ok, ok_same, false_ok, true_ok}
use Rattle.pac_bytes.proofs.Bytes.{IsBytes, IsBytes-take}
use Rattle.pac_bytes.proofs.Codec.{IsCodec}

pub within_codec : {A F : Type 0} (form : A → Type 0) (spell : A → List ℕ) (read : Rest → Result (A × Rest) F) (short left : ℕ → F) (n : ℕ) → IsCodec form spell read
    → IsCodec (λ x. form x × (length (spell x) ≡ n)) spell (within short left n read)
within_codec {A} {F} form spell read short left n codec = record { again = again; found = found }
  where
    again : (x : A) (at : ℕ) (more : List ℕ) → form x × (length (spell x) ≡ n) → within short left n read (record { at = at; bytes = spell x ++ more }) ≡ Ok (x, record { at = at + length (spell x); bytes = more })
    again x at more h =
        let long : ltb (length (spell x ++ more)) n ≡ false = le-ltb _ _ (omega (arith, length-append (spell x) more, h.1)) in
        let one : read (record { at = at; bytes = spell x }) ≡ Ok (x, record { at = at + length (spell x); bytes = [] })
        = ap (λ (b : List ℕ). read (record { at = at; bytes = b })) (sym (append-nil (spell x))) ∙ codec.again x at [] h.0 in
        rw (long, take_at (spell x) more n h.1, drop_at (spell x) more n h.1, one, h.1) refl

    found : (s : Rest) (x : A) (t : Rest) → IsBytes s.bytes → within short left n read s ≡ Ok (x, t) → IsAtStart (λ y. form y × (length (spell y) ≡ n)) spell s x t
    found s x t are e =
        let test = false_ok (ltb (length s.bytes) n) (short s.at) (read (record { at = s.at; bytes = take n s.bytes }) >>= all_read left (advanced n s)) (x, t) e in
        let long : n ≤ length s.bytes = ltb-false _ _ test.0 in
        let steps = bind_ok (read (record { at = s.at; bytes = take n s.bytes })) (all_read left (advanced n s)) (x, t) test.1 in
        let is = codec.found (record { at = s.at; bytes = take n s.bytes }) steps.0.0 steps.0.1 (IsBytes-take n s.bytes are) steps.1 in
        let all = true_ok (eqb (length steps.0.1.bytes) 0) (left steps.0.1.at) (Ok (steps.0.0, advanced n s)) (x, t) steps.2 in
        let nothing : steps.0.1.bytes ≡ [] = nil_from_length steps.0.1.bytes (eqb-true _ _ all.0) in
        let words : take n s.bytes ≡ spell steps.0.0 = is.bytes ∙ ap (λ (r : List ℕ). spell steps.0.0 ++ r) nothing ∙ append-nil (spell steps.0.0) in
        let len : length (spell steps.0.0) ≡ n = omega (arith, length-take n s.bytes, ap (λ (w : List ℕ). length w) words) in
        let both : (steps.0.0, advanced n s) ≡ (x, t) = ok_same {F = F} (steps.0.0, advanced n s) (x, t) all.1 in
        subst (λ (p : A × Rest). IsAtStart (λ y. form y × (length (spell y) ≡ n)) spell s p.0 p.1) {x = (steps.0.0, advanced n s)} {y = (x, t)} both (record {
          bytes = sym (take-append-drop n s.bytes) ∙ ap (λ (w : List ℕ). w ++ drop n s.bytes) words;
          offset = ap (λ (k : ℕ). s.at + k) (sym len);
          form = (is.form, len);
        })
