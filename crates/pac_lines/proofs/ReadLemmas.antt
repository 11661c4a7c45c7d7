-- Bytes that are read after those of a buffer.
use Rattle.std.proofs.Common.{◌≡◌, ℕ, ◌+◌, ◌≤◌, List, ◌++◌, length, take, ◌∙◌, sym, ap, arith, append_assoc}
use Rattle.std.proofs.Math.Seq.{take-append-add}
use Rattle.std.proofs.lemmas.List.{take-append-le, take-take, take_all, take_at}

-- the old bytes are before a buffer that was made longer
pub old_prefix : (old more resized longer : List ℕ) (n most : ℕ) → length old ≡ n → resized ≡ take (n + most) old ++ more → longer ≡ resized → take n longer ≡ old
old_prefix old more resized longer n most long is same =
    ap (λ (l : List ℕ). take n l) (same ∙ is ∙ ap (λ (l : List ℕ). l ++ more) (take_all (n + most) old (omega (arith, long)))) ∙ take_at old more n long

-- after them stands what was read, and the rest is cut off
pub read_after : (old buf post rest longer new : List ℕ) (n count whole : ℕ) → length old ≡ n → take n longer ≡ old → count ≤ length buf → n + count ≤ whole
    → new ≡ take (n + count) (take whole ((take n longer ++ (buf ++ post)) ++ rest)) → new ≡ old ++ take count buf
read_after old buf post rest longer new n count whole long prefix few inside is =
    let parts : (take n longer ++ (buf ++ post)) ++ rest ≡ old ++ (buf ++ (post ++ rest))
    = ap (λ (l : List ℕ). (l ++ (buf ++ post)) ++ rest) prefix ∙ append_assoc old (buf ++ post) rest ∙ ap (λ (l : List ℕ). old ++ l) (append_assoc buf post rest) in
    let all : take (length old + count) (old ++ (buf ++ (post ++ rest))) ≡ old ++ take count (buf ++ (post ++ rest)) = take-append-add old (buf ++ (post ++ rest)) count in
    is ∙ take-take (n + count) whole ((take n longer ++ (buf ++ post)) ++ rest) inside ∙ ap (λ (l : List ℕ). take (n + count) l) parts
    ∙ ap (λ (k : ℕ). take (k + count) (old ++ (buf ++ (post ++ rest)))) (sym long) ∙ all ∙ ap (λ (l : List ℕ). old ++ l) (take-append-le count buf (post ++ rest) few)
