-- A write, made or not: what a read gives stays outside it, and a crash leaves what it may leave of the write.
use Rattle.std.proofs.Common.{◌≡◌, ◌⊎◌, inl, inr, ℕ, zero, suc, ◌+◌, ◌-◌, ◌<◌, ◌≤◌, false, List, [], ◌∷◌, ◌++◌, length, take, drop, get_or, Result, Ok, Err, OnOk, OnErr, refl, sym, ap, ◌∙◌, subst, arith, length-append, length-take, length-drop}
use Rattle.std.proofs.lemmas.Bool.{or_parts}
use Rattle.std.proofs.lemmas.Bool.Decides.{nat_tests}
use Rattle.std.proofs.lemmas.List.{get_or-take, get_or-drop, get_or_append_left, get_or-append_right}
use Rattle.pac_outside.specs.Disk.{DiskState, IsImage, is_within, spliced, wrote, DiskHistory, after_sync, after_write, settled, LeavesAsBefore, LeavesTorn, SeenOutside}
use Rattle.pac_outside.proofs.Histories.{stays}
use Rattle.pac_outside.proofs.Images.{one_image}

-- an offset outside a range is before it or after it
beside : (at count offset : ℕ) → is_within (at, count) offset ≡ false → (offset < at) ⊎ (at + count ≤ offset)
beside at count offset outside = grind (arith, nat_tests)

module _ (at : ℕ) (piece bytes : List ℕ) (within : at ≤ length bytes) where
  length-spliced : length bytes ≤ length (spliced at piece bytes)
  length-spliced = omega (arith, within, length-append (take at bytes) (piece ++ drop (at + length piece) bytes), length-append piece (drop (at + length piece) bytes), length-take at bytes, length-drop (at + length piece) bytes)

  prefix_length : length (take at bytes) ≡ at
  prefix_length = omega (arith, within, length-take at bytes)

  outside_stays : (offset : ℕ) → (offset < at) ⊎ (at + length piece ≤ offset) → get_or (spliced at piece bytes) offset 0 ≡ get_or bytes offset 0
  outside_stays offset (inl before) = get_or_append_left (take at bytes) (piece ++ drop (at + length piece) bytes) 0 offset (omega (arith, prefix_length)) ∙ get_or-take at bytes offset 0 before
  outside_stays offset (inr after) =
      let first = get_or-append_right (take at bytes) (piece ++ drop (at + length piece) bytes) at offset 0 prefix_length (omega (arith, after)) in
      let second = get_or-append_right piece (drop (at + length piece) bytes) (length piece) (offset - at) 0 refl (omega (arith, after)) in
      let third = get_or-drop (at + length piece) bytes (offset - at - length piece) 0 in
      let same : at + length piece + (offset - at - length piece) ≡ offset = omega (arith, after) in
      first ∙ second ∙ third ∙ ap (λ (i : ℕ). get_or bytes i 0) same

  get_or-spliced : (offset : ℕ) → is_within (at, length piece) offset ≡ false → get_or (spliced at piece bytes) offset 0 ≡ get_or bytes offset 0
  get_or-spliced offset outside = outside_stays offset (beside at (length piece) offset outside)

module _ (at : ℕ) (piece : List ℕ) (state : DiskState) (within : at ≤ length state.seen) where
  -- a crash may leave of a write all that it might have left before
  image_before : (image : List ℕ) → IsImage state image → IsImage (wrote at piece state) image
  image_before image is = record {
    no_shorter = is.no_shorter;
    no_longer = let more = length-spliced at piece state.seen within in omega (arith, more, is.no_longer);
    stays = λ offset below unwritten. is.stays offset below (or_parts _ _ unwritten).1;
  }

  -- what a read gives is one of the images still
  seen_stays_image : IsImage state state.seen → IsImage (wrote at piece state) (spliced at piece state.seen)
  seen_stays_image is = record {
    no_shorter = let more = length-spliced at piece state.seen within in omega (arith, more, is.no_shorter);
    no_longer = omega arith;
    stays = λ offset below unwritten. get_or-spliced at piece state.seen within offset (or_parts _ _ unwritten).0 ∙ is.stays offset below (or_parts _ _ unwritten).1;
  }

  pub next_seen_is_image : IsImage state state.seen → (next : DiskState) → next ≡ wrote at piece state → IsImage next next.seen
  next_seen_is_image is next same = subst (λ (s : DiskState). IsImage s s.seen) (sym same) (seen_stays_image is)

module _ (at : ℕ) (piece : List ℕ) (old : DiskHistory) (within : at ≤ length old.now.seen) where
  made_torn : LeavesTorn at piece old (after_write at piece old)
  made_torn = record { since = wrote at piece old.now ∷ []; grown = refl; first = image_before at piece old.now within; each = (λ image is. is, tt) }

  unmade_torn : LeavesTorn at piece old old
  unmade_torn = stays (IsImage (wrote at piece old.now)) old (image_before at piece old.now within)

  made_outside : SeenOutside at (length piece) old (after_write at piece old)
  made_outside = record { no_shorter = length-spliced at piece old.now.seen within; stays = λ offset below outside. get_or-spliced at piece old.now.seen within offset outside }

  unmade_outside : SeenOutside at (length piece) old old
  unmade_outside = record { no_shorter = omega arith; stays = λ offset below outside. refl }

  pub torn : {T E : Type 0} (new : DiskHistory) (result : Result T E) → OnOk result (new ≡ after_write at piece old) → OnErr result (new ≡ old) → LeavesTorn at piece old new
  torn new (Ok x) made unmade = subst (LeavesTorn at piece old) (sym made) made_torn
  torn new (Err e) made unmade = subst (LeavesTorn at piece old) (sym unmade) unmade_torn

  pub outside : {T E : Type 0} (new : DiskHistory) (result : Result T E) → OnOk result (new ≡ after_write at piece old) → OnErr result (new ≡ old) → SeenOutside at (length piece) old new
  outside new (Ok x) made unmade = subst (SeenOutside at (length piece) old) (sym made) made_outside
  outside new (Err e) made unmade = subst (SeenOutside at (length piece) old) (sym unmade) unmade_outside

-- a sync, made or not, leaves what a crash might have left before
pub synced : {T E : Type 0} (old new : DiskHistory) → IsImage old.now old.now.seen → (result : Result T E) → OnOk result (new ≡ after_sync old) → OnErr result (new ≡ old) → LeavesAsBefore old new
synced old new seen (Ok x) made unmade = subst (LeavesAsBefore old) (sym made) (record {
  since = settled old.now.seen ∷ [];
  grown = refl;
  first = λ image is. is;
  each = (λ image is. subst (IsImage old.now) (sym (one_image old.now.seen image is)) seen, tt);
})
synced old new seen (Err e) made unmade = subst (LeavesAsBefore old) (sym unmade) (stays (IsImage old.now) old (λ image is. is))

-- and what a read gives
pub synced_seen : {T E : Type 0} (old new : DiskHistory) (result : Result T E) → OnOk result (new ≡ after_sync old) → OnErr result (new ≡ old) → new.now.seen ≡ old.now.seen
synced_seen old new (Ok x) made unmade = ap (λ (h : DiskHistory). h.now.seen) made
synced_seen old new (Err e) made unmade = ap (λ (h : DiskHistory). h.now.seen) unmade

-- ---- bytes

abbrev AreBytes : List ℕ → Type 0
AreBytes bytes = (offset : ℕ) → get_or bytes offset 0 < 256

bytes_joined : (a b : List ℕ) → AreBytes a → AreBytes b → AreBytes (a ++ b)
bytes_joined [] b p q i = q i
bytes_joined (x ∷ a) b p q zero = p zero
bytes_joined (x ∷ a) b p q (suc i) = bytes_joined a b (λ j. p (suc j)) q i

bytes_taken : (n : ℕ) (bytes : List ℕ) → AreBytes bytes → AreBytes (take n bytes)
bytes_taken zero bytes p i = omega arith
bytes_taken (suc n) [] p i = p i
bytes_taken (suc n) (x ∷ bytes) p zero = p zero
bytes_taken (suc n) (x ∷ bytes) p (suc i) = bytes_taken n bytes (λ j. p (suc j)) i

-- what a write leaves are bytes
pub spliced_bytes : (at : ℕ) (piece bytes : List ℕ) → AreBytes piece → AreBytes bytes → AreBytes (spliced at piece bytes)
spliced_bytes at piece bytes p q = bytes_joined (take at bytes) _ (bytes_taken at bytes q) (bytes_joined piece _ p (λ i. rw get_or-drop (q (at + length piece + i))))
