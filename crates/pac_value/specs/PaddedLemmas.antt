-- An array of padded bytes is given by the bytes that count, and a copy into zeros is padded.
use Rattle.std.proofs.Common.{◌≡◌, ◌≤◌, ◌-◌, ℕ, List, ◌++◌, length, take, drop, replicate, arith, ap, ◌∙◌, length-append}
use Rattle.std.proofs.lemmas.List.{take-append-drop, length-take-le, drop_at, drop-replicate, length-replicate}
use Rattle.pac_value.specs.Padded.{IsPadded, padded}

pub padded-take : (n : ℕ) (bytes : List ℕ) (len : ℕ) → IsPadded n bytes len → padded n (take len bytes) ≡ bytes
padded-take n bytes len is =
    let short : len ≤ length bytes = omega arith in
    let e : length (take len bytes) ≡ len = length-take-le len bytes short in
    rw (e, ← is.zeros) (take-append-drop len bytes)

-- a copy into zeros
pub copied-is_padded : (n : ℕ) (bytes copy zeros : List ℕ) → length bytes ≤ n → copy ≡ bytes → zeros ≡ replicate n 0 → IsPadded n (copy ++ drop (length bytes) zeros) (length bytes)
copied-is_padded n bytes copy zeros short same none =
    let rest : drop (length bytes) zeros ≡ replicate (n - length bytes) 0 = ap (drop (length bytes)) none ∙ drop-replicate (length bytes) n 0 in
    record {
      room = rw rest (length-append copy (replicate (n - length bytes) 0) ∙ omega (arith, ap length same, length-replicate (n - length bytes) (let z : ℕ = 0 in z)));
      fits = short;
      zeros = drop_at copy (drop (length bytes) zeros) (length bytes) (ap length same) ∙ rest;
    }

pub length-prefix : (n : ℕ) (bytes : List ℕ) (len : ℕ) → IsPadded n bytes len → length (take len bytes) ≡ len
length-prefix n bytes len is = let short : len ≤ length bytes = omega arith in length-take-le len bytes short
