-- What a read puts after the bytes of a list.
use Rattle.std.proofs.Common.{◌≡◌, ◌∙◌, ℕ, ◌+◌, ◌≤◌, List, ◌++◌, length, take, drop, Option, Some, None, sym, ap, ap₂, arith, append_assoc}
use Rattle.std.proofs.lemmas.List.{take-take, take_all, drop-take, take-append-drop, take-append-le, take_at, drop_at}
use Rattle.pac_outside.specs.Disk.{DiskHistory, IfKnown}

-- a prefix and what follows it
pub take_more : (n m : ℕ) (xs : List ℕ) → take n xs ++ take m (drop n xs) ≡ take (n + m) xs
take_more n m xs = ap₂ (λ (a b : List ℕ). a ++ b) (sym (take-take n (n + m) xs (omega arith))) (sym (drop-take n m xs)) ∙ take-append-drop n (take (n + m) xs)

-- a buffer after the old bytes, of which that many were read
after_old : (old buf post rest place : List ℕ) (n len whole : ℕ) → length old ≡ n → take n place ≡ old → len ≤ length buf → n + len ≤ whole → take (n + len) (take whole ((take n place ++ (buf ++ post)) ++ rest)) ≡ old ++ take len buf
after_old old buf post rest place n len whole long prefix few inside =
    take-take (n + len) whole ((take n place ++ (buf ++ post)) ++ rest) inside
    ∙ ap (λ (l : List ℕ). take (n + len) l) (ap (λ (l : List ℕ). (l ++ (buf ++ post)) ++ rest) prefix ∙ append_assoc old (buf ++ post) rest ∙ ap (λ (l : List ℕ). old ++ l) (append_assoc buf post rest))
    ∙ sym (take_more n len (old ++ (buf ++ (post ++ rest))))
    ∙ ap₂ (λ (a b : List ℕ). a ++ b) (take_at old (buf ++ (post ++ rest)) n long) (ap (λ (l : List ℕ). take len l) (drop_at old (buf ++ (post ++ rest)) n long) ∙ take-append-le len buf (post ++ rest) few)

pub appended : (known : Option DiskHistory) (new old buf post rest place : List ℕ) (n len whole count room at : ℕ) → length old ≡ n → take n place ≡ old → len ≤ length buf → n + len ≤ whole → room ≡ count
    → new ≡ take (n + len) (take whole ((take n place ++ (buf ++ post)) ++ rest)) → IfKnown (λ h. take len buf ≡ take room (drop at h.now.seen)) known → IfKnown (λ h. new ≡ old ++ take count (drop at h.now.seen)) known
appended None new old buf post rest place n len whole count room at long prefix few inside same is read = tt
appended (Some h) new old buf post rest place n len whole count room at long prefix few inside same is read =
    is ∙ after_old old buf post rest place n len whole long prefix few inside ∙ ap (λ (l : List ℕ). old ++ l) (read ∙ ap (λ (k : ℕ). take k (drop at h.now.seen)) same)

-- the old bytes are before what is longer
pub old_prefix : (old more place : List ℕ) (n count : ℕ) → length old ≡ n → place ≡ take (n + count) old ++ more → take n place ≡ old
old_prefix old more place n count long is =
    ap (λ (l : List ℕ). take n l) (is ∙ ap (λ (l : List ℕ). l ++ more) (take_all (n + count) old (omega arith))) ∙ take_at old more n long
