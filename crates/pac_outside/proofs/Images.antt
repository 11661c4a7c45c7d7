-- What a crash leaves of one write to a disk that was synced.
use Rattle.std.proofs.Common.{◌≡◌, false, ℕ, ◌+◌, ◌<◌, ◌≤◌, List, ◌++◌, length, take, drop, get_or, refl, sym, ◌∙◌, arith, length-append, length-take, length-drop}
use Rattle.std.proofs.lemmas.Bool.{or_from}
use Rattle.std.proofs.lemmas.Bool.Decides.{nat_tests}
use Rattle.std.proofs.lemmas.List.{ext_get_or, get_or-take, get_or-drop}
use Rattle.pac_outside.specs.Disk.{IsImage, is_within, wrote, settled, spliced}

before_range : (at count offset : ℕ) → offset < at → is_within (at, count) offset ≡ false
before_range at count offset before = grind (arith, nat_tests)

after_range : (at count offset : ℕ) → at + count ≤ offset → is_within (at, count) offset ≡ false
after_range at count offset after = grind (arith, nat_tests)

take_same : (n : ℕ) (xs ys : List ℕ) → n ≤ length xs → n ≤ length ys → ((i : ℕ) → i < n → get_or xs i 0 ≡ get_or ys i 0) → take n xs ≡ take n ys
take_same n xs ys long long' same = ext_get_or 0 (take n xs) (take n ys) (omega (arith, length-take n xs, length-take n ys)) (λ i below.
    let within : i < n = omega (arith, length-take n xs, below) in
    get_or-take n xs i 0 within ∙ same i within ∙ sym (get_or-take n ys i 0 within))

drop_same : (n : ℕ) (xs ys : List ℕ) → length xs ≡ length ys → ((i : ℕ) → n ≤ i → i < length ys → get_or xs i 0 ≡ get_or ys i 0) → drop n xs ≡ drop n ys
drop_same n xs ys long same = ext_get_or 0 (drop n xs) (drop n ys) (omega (arith, length-drop n xs, length-drop n ys, long)) (λ i below.
    get_or-drop n xs i 0 ∙ same (n + i) (omega arith) (omega (arith, length-drop n xs, below, long)) ∙ sym (get_or-drop n ys i 0))

module _ (at : ℕ) (piece old image : List ℕ) (is : IsImage (wrote at piece (settled old)) image) where
  -- what stands before the write stays
  pub prefix_stays : at ≤ length old → take at image ≡ take at old
  prefix_stays within = take_same at image old (omega (arith, within, is.no_shorter)) within (λ i below. is.stays i (omega (arith, within, below)) (or_from _ _ (before_range at (length piece) i below) refl))

  -- a write within the bytes keeps their number, and what stands after it
  pub length_stays : at + length piece ≤ length old → length image ≡ length old
  length_stays within = omega (arith, within, is.no_shorter, (let longer : length image ≤ length (spliced at piece old) = is.no_longer in longer), length-append (take at old) (piece ++ drop (at + length piece) old), length-append piece (drop (at + length piece) old), length-take at old, length-drop (at + length piece) old)

  pub back_stays : at + length piece ≤ length old → drop (at + length piece) image ≡ drop (at + length piece) old
  back_stays within = drop_same (at + length piece) image old (length_stays within) (λ i from below. is.stays i below (or_from _ _ (after_range at (length piece) i from) refl))

-- a disk that was synced has one image
pub one_image : (seen image : List ℕ) → IsImage (settled seen) image → image ≡ seen
one_image seen image is = ext_get_or 0 image seen (omega (arith, is.no_shorter, is.no_longer)) (λ i below. is.stays i (omega (arith, is.no_longer, below)) refl)
