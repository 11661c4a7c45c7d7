-- Reads and writes one after another.
use Rattle.std.proofs.Common.{◌≡◌, ◌<◌, ◌≤◌, ℕ, ◌+◌, List, ◌++◌, take, drop, length, [], ◌-◌, min, arith, Option, Some, None, refl, sym, ap, ◌∙◌, append_assoc}
use Rattle.std.proofs.Math.Seq.{take-add}
use Rattle.std.proofs.lemmas.Grind.{common_steps}
use Rattle.std.proofs.lemmas.List.{take-append-drop, take_rest, drop-drop}
use Rattle.std.specs.Io.KnownBytes.{prepend_known, append_known}
use Rattle.pac_outside.specs.Content.{Took, Gave, GaveAtMost}

append_known-append_known : (known : Option (List ℕ)) (xs ys : List ℕ) → append_known (append_known known xs) ys ≡ append_known known (xs ++ ys)
append_known-append_known None xs ys = refl
append_known-append_known (Some zs) xs ys = ap Some (append_assoc zs xs ys)

prepend_known-prepend_known : (known : Option (List ℕ)) (xs ys : List ℕ) → prepend_known xs (prepend_known ys known) ≡ prepend_known (xs ++ ys) known
prepend_known-prepend_known None xs ys = refl
prepend_known-prepend_known (Some zs) xs ys = ap Some (sym (append_assoc xs ys zs))

pub Took-append : (a b c : Option (List ℕ)) (xs ys : List ℕ) → Took a xs b → Took b ys c → Took a (xs ++ ys) c
Took-append a b c xs ys first next = next ∙ ap (λ known. append_known known ys) first ∙ append_known-append_known a xs ys

pub Gave-append : (a b c : Option (List ℕ)) (xs ys : List ℕ) → Gave a xs b → Gave b ys c → Gave a (xs ++ ys) c
Gave-append a b c xs ys first next = first ∙ ap (prepend_known xs) next ∙ prepend_known-prepend_known c xs ys

-- a write of n more bytes of a text
pub Took-take_more : (a b c : Option (List ℕ)) (text : List ℕ) (i n : ℕ) → Took a (take i text) b → Took b (take n (drop i text)) c → Took a (take (i + n) text) c
Took-take_more a b c text i n first next = Took-append a b c (take i text) (take n (drop i text)) first next ∙ ap (append_known a) (sym (take-add i n text))

-- what is left after a read of a prefix, where the read was from a copy of the bytes
pub left_after : (left bytes copy buf : List ℕ) (at n : ℕ) → drop at bytes ≡ left → copy ≡ bytes → take n buf ≡ take n (take (length copy - at) (drop at copy)) → Gave (Some left) (take n buf) (Some (drop (at + n) bytes))
left_after left bytes copy buf at n from same copied =
    let copied' : take n buf ≡ take n (take (length bytes - at) (drop at bytes)) = rw same at copied in
    let prefix : take n buf ≡ take n (drop at bytes) = simp take_rest at copied' in
    sym (ap Some from) ∙ ap Some (rw prefix (sym (ap (λ rest. take n (drop at bytes) ++ rest) (sym (drop-drop n at bytes)) ∙ take-append-drop n (drop at bytes))))

-- a read of nothing into room comes at the end
pub none_left : (bytes copy : List ℕ) (at n room : ℕ) → copy ≡ bytes → n ≡ min (length (take (length copy - at) (drop at copy))) room → n ≡ 0 → 0 < room → drop (at + n) bytes ≡ []
none_left bytes copy at n room same count zero some = grind (arith, common_steps)

-- a text that came before, and then a read, when the text was within the limit
pub GaveAtMost-read : (a b c : Option (List ℕ)) (text buffer : List ℕ) (count most : ℕ) → Gave a text b → Gave b (take count buffer) c → length text + count ≤ most → GaveAtMost most a c
GaveAtMost-read a b c text buffer count most first next fits = record {
  bytes = text ++ take count buffer;
  within = grind (arith, common_steps);
  prefix = Gave-append a b c text (take count buffer) first next;
}
