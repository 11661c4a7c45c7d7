-- What devices stand for while a checkpoint begins a new segment.
use Rattle.std.proofs.Common.{◌≡◌, ◌∙◌, ◌⊎◌, inl, inr, ⊎_elim, ℕ, ◌≤◌, ◌+◌, List, [], ◌++◌, length, Option, Some, None, refl, sym, ap, subst, arith, append_assoc}
use Rattle.std.proofs.lemmas.List.{append-nil, length-append}
use Rattle.pac_value.specs.State.{Tables}
use Rattle.pac_ops.specs.declared.transaction.Txn.{Txn}
use Rattle.pac_outside.specs.Devices.{AreImages, AllLeave, RunLeaves, device_at, with_device, log_at, log_named, other_log}
use Rattle.pac_outside.specs.Devices.WhichDevice.{the_log, the_log_b, the_slot_a, the_slot_b}
use Rattle.pac_outside.specs.Disk.{DiskHistory, DiskState, IsImage, LeavesOnly}
use Rattle.pac_outside.specs.GateByte.{IsOpen, IsShut, OneImage}
use Rattle.pac_outside.specs.declared.devices.Devices.{Devices}
use Rattle.pac_outside.specs.declared.devices.LogName.{LogName}
use Rattle.pac_outside.specs.declared.devices.LogName.TheVariants.{Log, LogB}
use Rattle.pac_outside.proofs.Histories.{weaken}
use Rattle.pac_outside.proofs.Images.{one_image}
use Rattle.pac_outside.proofs.Runs.{OthersAre, device_runs}
use Rattle.pac_types.specs.Typing.{CatalogueState}
use Rattle.pac_log.specs.declared.header.HeaderForm.{HeaderForm}
use Rattle.pac_log.specs.declared.header.HeaderForm.TheVariants.{Later}
use Rattle.pac_log.specs.Logs.{base_in, header_bytes, header_with, number_after, HasGate, HoldsLog, all_txns}
use Rattle.pac_check.specs.declared.head.Head.{Head}
use Rattle.pac_check.specs.declared.info.SlotInfo.{SlotInfo}
use Rattle.pac_check.specs.declared.info.SlotName.{SlotName}
use Rattle.pac_check.specs.declared.info.SlotName.TheVariants.{A, B}
use Rattle.pac_check.specs.declared.state.SlotState.{SlotState}
use Rattle.pac_check.specs.declared.state.SlotState.TheVariants.{Empty, Closed, Open}
use Rattle.pac_check.specs.Replacing.{IsOldOrShut, IsShutOrNew}
use Rattle.pac_check.specs.Saved.{checkpoint_of}
use Rattle.pac_check.specs.SlotStates.{active_in, by_slot, info_of, info_with, newest_among, IsAbove}
use Rattle.pac_check.proofs.NewestLemmas.{closed_a, closed_b, opened_a, opened_b}
use Rattle.pac_store.specs.Images.{Images}
use Rattle.pac_store.specs.Saving.{KnownStore, StandsStill, KeepsBy, HasBegun, IsReadyFor, SwitchesByGate, active_by, closed_by, last_number, published_bytes, published_by, published_head, slot_named, spare_by}
use Rattle.pac_store.specs.Stands.{reach_of, HasSaved, HoldsSaved, IsHistory, IsShutOrPrefix, StandsBy}
use Rattle.pac_store.specs.Stored.{active_among, IsPlaced}
use Rattle.pac_store.proofs.StandsLemmas.{fewer-saved, newest-one, prefix-within}

-- ---- images

-- a state of one image leaves that one
pub image-of : (P : List ℕ → Type 0) (state : DiskState) → OneImage P state → (image : List ℕ) → IsImage state image → image ≡ state.seen
image-of P state alone image is = one_image state.seen image (subst (λ (s : DiskState). IsImage s image) alone.one is)

image-has : (P : List ℕ → Type 0) (state : DiskState) → OneImage P state → (image : List ℕ) → IsImage state image → P image
image-has P state alone image is = subst P (sym (image-of P state alone image is)) alone.has

-- a log device stays where a slot is put in its place
log-beside : {D : Type 0} (slot : SlotName) (name : LogName) (device : D) (devices : Devices D) → log_at name (with_device (slot_named slot) device devices) ≡ log_at name devices
log-beside A Log device devices = refl
log-beside A LogB device devices = refl
log-beside B Log device devices = refl
log-beside B LogB device devices = refl

-- and where the other one is
log-stays : {D : Type 0} (name : LogName) (device : D) (devices : Devices D) → log_at name (with_device (log_named (other_log name)) device devices) ≡ log_at name devices
log-stays Log device devices = refl
log-stays LogB device devices = refl

log-image : (slot : SlotName) (name : LogName) (devices : Devices DiskHistory) (images : Images) → OthersAre (slot_named slot) devices images → IsImage (log_at name devices).now (log_at name images)
log-image A Log devices images are = are.0
log-image A LogB devices images are = are.1
log-image B Log devices images are = are.0
log-image B LogB devices images are = are.1

-- ---- what stands, of one image of each device

module _ (text : List ℕ) (catalogue : CatalogueState) (history : List Txn) where
  -- images of the slots in these states, and of the segment that is active by them
  pub stands : (known : KnownStore) (images : Images) (name : LogName) (most : ℕ) → IsHistory catalogue history → IsShutOrPrefix catalogue history (last_number text known) known.a images.slot_a → IsShutOrPrefix catalogue history (last_number text known) known.b images.slot_b
      → active_by known ≡ name → HoldsLog (header_with known.form text) catalogue known.batches (log_at name images) → IsPlaced (header_with known.form text) known.batches (newest_among known.a known.b)
      → (earlier later : List Txn) → length earlier ≡ base_in known.form → history ≡ earlier ++ (all_txns known.batches ++ later) → most ≤ last_number text known → StandsBy name text catalogue history most images
  stands known images name most executes is_a is_b active log placed earlier later before split enough = (
    record {
      executes = executes;
      form = known.form;
      batches = known.batches;
      a = known.a;
      b = known.b;
      slot_a = is_a;
      slot_b = is_b;
      log = subst (λ (n : LogName). HoldsLog (header_with known.form text) catalogue known.batches (log_at n images)) (sym active) log;
      placed = placed;
      earlier = earlier;
      later = later;
      before = before;
      split = split;
      enough = enough;
    },
    active,
  )

  -- the newest slot has its checkpoint
  pub saved-in : (most : ℕ) (a b : SlotState) (images : Images) → IsShutOrPrefix catalogue history most a images.slot_a → IsShutOrPrefix catalogue history most b images.slot_b → HoldsSaved catalogue (reach_of (newest_among a b)) images
  saved-in most a b images is_a is_b = go (newest_among a b) refl
    where
      reaches : (slot : SlotName) (state : SlotState) (image : List ℕ) → IsShutOrPrefix catalogue history most state image → (info : SlotInfo) → info_of slot state ≡ Some info → HasSaved catalogue (info.txns + 1) image
      reaches slot Empty image is info e = absurd is
      reaches slot Closed image is info e = absurd cc
      reaches slot (Open head) image is info e =
          let same : info_with slot head ≡ info = cc in
          record { checkpoint = checkpoint_of (length catalogue.tables) head is.held; holds = is.rows; enough = omega (arith, ap (λ (i : SlotInfo). i.txns) same) }

      go : (newest : Option SlotInfo) → newest_among a b ≡ newest → HoldsSaved catalogue (reach_of newest) images
      go None e = inl refl
      go (Some info) e = inr (⊎_elim (λ first. inl (reaches A a images.slot_a is_a info first)) (λ second. inr (reaches B b images.slot_b is_b info second)) (newest-one (info_of A a) (info_of B b) info e))

  module _ (known : KnownStore) (devices : Devices DiskHistory) (is : StandsStill text catalogue history known devices) where
    abbrev name : LogName
    name = active_by known

    abbrev many : ℕ
    many = last_number text known

    -- with the states of the slots that leave the newest one as it is
    keeps-with : (a b : SlotState) (images : Images) → newest_among a b ≡ newest_among known.a known.b → IsShutOrPrefix catalogue history many a images.slot_a → IsShutOrPrefix catalogue history many b images.slot_b
        → HoldsLog (header_with known.form text) catalogue known.batches (log_at name images) → KeepsBy name text catalogue history known images
    keeps-with a b images same is_a is_b log = (
      stands (record { a = a; b = b; form = known.form; batches = known.batches }) images name many is.executes is_a is_b (ap active_in same) log
          (subst (λ (newest : Option SlotInfo). IsPlaced (header_with known.form text) known.batches newest) (sym same) is.placed) is.earlier is.later is.before is.split (omega arith),
      subst (λ (newest : Option SlotInfo). HoldsSaved catalogue (reach_of newest) images) same (saved-in many a b images is_a is_b),
    )

    -- devices that stand still leave what stands
    pub still-leaves : AllLeave (KeepsBy name text catalogue history known) devices
    still-leaves images are = keeps-with known.a known.b images refl (image-has _ devices.slot_a.now is.slot_a images.slot_a are.slot_a) (image-has _ devices.slot_b.now is.slot_b images.slot_b are.slot_b) (image-has _ (log_at name devices).now is.log (log_at name images) (of-log name images are))
      where
        of-log : (n : LogName) (images : Images) → AreImages devices images → IsImage (log_at n devices).now (log_at n images)
        of-log Log images are = are.log
        of-log LogB images are = are.log_b

    -- the log of images that leave a slot out
    log-there : (slot : SlotName) (image : List ℕ) (images : Images) → OthersAre (slot_named slot) devices images → HoldsLog (header_with known.form text) catalogue known.batches (log_at name (with_device (slot_named slot) image images))
    log-there slot image images are = subst (λ (i : List ℕ). HoldsLog (header_with known.form text) catalogue known.batches i) (sym (log-beside slot name image images)) (image-has _ (log_at name devices).now is.log (log_at name images) (log-image slot name devices images are))

    -- ---- the spare slot is closed

    close-a : spare_by known ≡ A → (image : List ℕ) (images : Images) → OthersAre the_slot_a devices images → IsOldOrShut devices.slot_a.now.seen image → KeepsBy name text catalogue history known (with_device the_slot_a image images)
    close-a spare image images are (inl same) = keeps-with known.a known.b (with_device the_slot_a image images) refl (subst (λ (i : List ℕ). IsShutOrPrefix catalogue history many known.a i) (sym same) is.slot_a.has) (image-has _ devices.slot_b.now is.slot_b images.slot_b are.2) (log-there A image images are)
    close-a spare image images are (inr shut) = keeps-with Closed known.b (with_device the_slot_a image images) (closed_a known.a known.b spare) shut (image-has _ devices.slot_b.now is.slot_b images.slot_b are.2) (log-there A image images are)

    close-b : spare_by known ≡ B → (image : List ℕ) (images : Images) → OthersAre the_slot_b devices images → IsOldOrShut devices.slot_b.now.seen image → KeepsBy name text catalogue history known (with_device the_slot_b image images)
    close-b spare image images are (inl same) = keeps-with known.a known.b (with_device the_slot_b image images) refl (image-has _ devices.slot_a.now is.slot_a images.slot_a are.2) (subst (λ (i : List ℕ). IsShutOrPrefix catalogue history many known.b i) (sym same) is.slot_b.has) (log-there B image images are)
    close-b spare image images are (inr shut) = keeps-with known.a Closed (with_device the_slot_b image images) (closed_b known.a known.b spare) (image-has _ devices.slot_a.now is.slot_a images.slot_a are.2) shut (log-there B image images are)

    pub closing : (new : DiskHistory) → LeavesOnly (IsOldOrShut (device_at (slot_named (spare_by known)) devices).now.seen) (device_at (slot_named (spare_by known)) devices) new
        → RunLeaves (KeepsBy name text catalogue history known) devices (with_device (slot_named (spare_by known)) new devices)
    closing new = go (spare_by known) refl
      where
        go : (slot : SlotName) → spare_by known ≡ slot → LeavesOnly (IsOldOrShut (device_at (slot_named slot) devices).now.seen) (device_at (slot_named slot) devices) new → RunLeaves (KeepsBy name text catalogue history known) devices (with_device (slot_named slot) new devices)
        go A spare run = device_runs (KeepsBy name text catalogue history known) the_slot_a devices new (weaken (IsOldOrShut devices.slot_a.now.seen) (λ image. (images : Images) → OthersAre the_slot_a devices images → KeepsBy name text catalogue history known (with_device the_slot_a image images)) devices.slot_a new
            (λ image which images are. close-a spare image images are which) run)
        go B spare run = device_runs (KeepsBy name text catalogue history known) the_slot_b devices new (weaken (IsOldOrShut devices.slot_b.now.seen) (λ image. (images : Images) → OthersAre the_slot_b devices images → KeepsBy name text catalogue history known (with_device the_slot_b image images)) devices.slot_b new
            (λ image which images are. close-b spare image images are which) run)

    pub closed : (new : DiskHistory) → OneImage (IsShut []) new.now → StandsStill text catalogue history (closed_by known) (with_device (slot_named (spare_by known)) new devices)
    closed new shut = go (spare_by known) refl
      where
        still : (a b : SlotState) (slot : SlotName) → newest_among a b ≡ newest_among known.a known.b
            → OneImage (IsShutOrPrefix catalogue history many a) (device_at the_slot_a (with_device (slot_named slot) new devices)).now → OneImage (IsShutOrPrefix catalogue history many b) (device_at the_slot_b (with_device (slot_named slot) new devices)).now
            → StandsStill text catalogue history (record { a = a; b = b; form = known.form; batches = known.batches }) (with_device (slot_named slot) new devices)
        still a b slot same is_a is_b = record {
          executes = is.executes;
          slot_a = is_a;
          slot_b = is_b;
          log = subst (λ (d : DiskHistory). OneImage (HoldsLog (header_with known.form text) catalogue known.batches) d.now) (sym (log-beside slot (active_among a b) new devices)) (subst (λ (n : LogName). OneImage (HoldsLog (header_with known.form text) catalogue known.batches) (log_at n devices).now) (sym (ap active_in same)) is.log);
          placed = subst (λ (newest : Option SlotInfo). IsPlaced (header_with known.form text) known.batches newest) (sym same) is.placed;
          earlier = is.earlier;
          later = is.later;
          before = is.before;
          split = is.split;
        }

        go : (slot : SlotName) → spare_by known ≡ slot → StandsStill text catalogue history (by_slot slot (record known { a = Closed }) (record known { b = Closed })) (with_device (slot_named slot) new devices)
        go A spare = still Closed known.b A (closed_a known.a known.b spare) (record { one = shut.one; has = shut.has }) is.slot_b
        go B spare = still known.a Closed B (closed_b known.a known.b spare) is.slot_a (record { one = shut.one; has = shut.has })

    -- ---- the next segment is begun on the other device

    pub beginning : (new : DiskHistory) → LeavesOnly (λ image. Unit {0}) (log_at (other_log name) devices) new → RunLeaves (KeepsBy name text catalogue history known) devices (with_device (log_named (other_log name)) new devices)
    beginning new = go name refl
      where
        here : (n : LogName) → name ≡ n → (images : Images) → IsImage devices.slot_a.now images.slot_a → IsImage devices.slot_b.now images.slot_b → IsImage (log_at n devices).now (log_at n images) → KeepsBy name text catalogue history known images
        here n same images is_a is_b is_log = keeps-with known.a known.b images refl (image-has _ devices.slot_a.now is.slot_a images.slot_a is_a) (image-has _ devices.slot_b.now is.slot_b images.slot_b is_b)
            (image-has _ (log_at name devices).now is.log (log_at name images) (subst (λ (m : LogName). IsImage (log_at m devices).now (log_at m images)) (sym same) is_log))

        go : (n : LogName) → name ≡ n → LeavesOnly (λ image. Unit {0}) (log_at (other_log n) devices) new → RunLeaves (KeepsBy name text catalogue history known) devices (with_device (log_named (other_log n)) new devices)
        go Log same run = device_runs (KeepsBy name text catalogue history known) the_log_b devices new (weaken (λ image. Unit {0}) (λ image. (images : Images) → OthersAre the_log_b devices images → KeepsBy name text catalogue history known (with_device the_log_b image images)) devices.log_b new
            (λ image which images are. here Log same (with_device the_log_b image images) are.1 are.2 are.0) run)
        go LogB same run = device_runs (KeepsBy name text catalogue history known) the_log devices new (weaken (λ image. Unit {0}) (λ image. (images : Images) → OthersAre the_log devices images → KeepsBy name text catalogue history known (with_device the_log image images)) devices.log new
            (λ image which images are. here LogB same (with_device the_log image images) are.1 are.2 are.0) run)

    pub begun : (new : DiskHistory) → StandsStill text catalogue history known (with_device (log_named (other_log name)) new devices)
    begun new = record {
      executes = is.executes;
      slot_a = slot-a name;
      slot_b = slot-b name;
      log = subst (λ (d : DiskHistory). OneImage (HoldsLog (header_with known.form text) catalogue known.batches) d.now) (sym (log-stays name new devices)) is.log;
      placed = is.placed;
      earlier = is.earlier;
      later = is.later;
      before = is.before;
      split = is.split;
    }
      where
        slot-a : (n : LogName) → OneImage (IsShutOrPrefix catalogue history many known.a) (with_device (log_named (other_log n)) new devices).slot_a.now
        slot-a Log = is.slot_a
        slot-a LogB = is.slot_a

        slot-b : (n : LogName) → OneImage (IsShutOrPrefix catalogue history many known.b) (with_device (log_named (other_log n)) new devices).slot_b.now
        slot-b Log = is.slot_b
        slot-b LogB = is.slot_b

    -- ---- the checkpoint is published

    module _ (held : Tables) (ready : IsReadyFor text catalogue history known held) (next : HasBegun text catalogue known devices) where
      abbrev the_head : Head
      the_head = published_head text known

      abbrev bytes : List ℕ
      bytes = published_bytes text catalogue held known

      abbrev next_form : HeaderForm
      next_form = Later many

      -- the slot that is opened has a checkpoint of the whole history so far
      new-prefix : (image : List ℕ) → IsOpen [] bytes image → IsShutOrPrefix catalogue history (number_after (header_with next_form text) []) (Open the_head) image
      new-prefix image opens = record { held = held; fit = ready.fit; rows = record { form = ready.form; opens = opens }; within = omega arith; ends = ready.ends }

      -- at the first gate of the next segment
      new-place : HasGate (header_with next_form text) [] the_head.place the_head.txns
      new-place = record { before = []; after = []; split = refl; there = ap (λ (l : List ℕ). length l) (sym (append-nil (header_bytes (header_with next_form text)))); counted = omega arith }

      new-split : history ≡ (is.earlier ++ all_txns known.batches) ++ is.later
      new-split = is.split ∙ sym (append_assoc is.earlier (all_txns known.batches) is.later)

      new-before : length (is.earlier ++ all_txns known.batches) ≡ many
      new-before = omega (arith, is.before, length-append is.earlier (all_txns known.batches))

      still-prefix : (state : SlotState) (image : List ℕ) → IsShutOrPrefix catalogue history many state image → IsShutOrPrefix catalogue history (number_after (header_with next_form text) []) state image
      still-prefix state image = prefix-within catalogue history many (number_after (header_with next_form text) []) state image (omega arith)

      next-at : (slot : SlotName) (image : List ℕ) (images : Images) → OthersAre (slot_named slot) devices images → HoldsLog (header_with next_form text) catalogue [] (log_at (other_log name) (with_device (slot_named slot) image images))
      next-at slot image images are = subst (λ (i : List ℕ). HoldsLog (header_with next_form text) catalogue [] i) (sym (log-beside slot (other_log name) image images)) (image-has _ (log_at (other_log name) devices).now next (log_at (other_log name) images) (log-image slot (other_log name) devices images are))

      switched : (a b : SlotState) (slot : SlotName) (images : Images) → newest_among a b ≡ Some (info_with slot the_head) → IsShutOrPrefix catalogue history (number_after (header_with next_form text) []) a images.slot_a → IsShutOrPrefix catalogue history (number_after (header_with next_form text) []) b images.slot_b
          → HoldsLog (header_with next_form text) catalogue [] (log_at (other_log name) images) → KeepsBy (other_log name) text catalogue history known images
      switched a b slot images newest is_a is_b log = (
        stands (record { a = a; b = b; form = next_form; batches = [] }) images (other_log name) many is.executes is_a is_b (ap active_in newest) log
            (subst (λ (n : Option SlotInfo). IsPlaced (header_with next_form text) [] n) (sym newest) new-place) (is.earlier ++ all_txns known.batches) is.later new-before new-split (omega arith),
        fewer-saved catalogue (many + 1) (reach_of (newest_among known.a known.b)) images (above-reach (newest_among known.a known.b) ready.above)
            (subst (λ (n : Option SlotInfo). HoldsSaved catalogue (reach_of n) images) newest (saved-in (number_after (header_with next_form text) []) a b images is_a is_b)),
      )
        where
          above-reach : (n : Option SlotInfo) → IsAbove n many → reach_of n ≤ many + 1
          above-reach None above = omega arith
          above-reach (Some info) above = omega (arith, above)

      pub publishing : (new : DiskHistory) → LeavesOnly (IsShutOrNew bytes) (device_at (slot_named (spare_by known)) devices) new → RunLeaves (SwitchesByGate text catalogue history held known) devices (with_device (slot_named (spare_by known)) new devices)
      publishing new = go (spare_by known) refl
        where
          P : SlotName → Images → Type 0
          P slot images = (IsShut [] (device_at (slot_named slot) images) × KeepsBy name text catalogue history known images) ⊎ (IsOpen [] bytes (device_at (slot_named slot) images) × KeepsBy (other_log name) text catalogue history known images)

          at-a : spare_by known ≡ A → (image : List ℕ) (images : Images) → OthersAre the_slot_a devices images → IsShutOrNew bytes image → P A (with_device the_slot_a image images)
          at-a spare image images are (inl shut) = inl (shut, keeps-with Closed known.b (with_device the_slot_a image images) (closed_a known.a known.b spare) shut (image-has _ devices.slot_b.now is.slot_b images.slot_b are.2) (log-there A image images are))
          at-a spare image images are (inr opens) = inr (opens, switched (Open the_head) known.b A (with_device the_slot_a image images) (opened_a known.a known.b the_head spare ready.above) (new-prefix image opens) (still-prefix known.b images.slot_b (image-has _ devices.slot_b.now is.slot_b images.slot_b are.2)) (next-at A image images are))

          at-b : spare_by known ≡ B → (image : List ℕ) (images : Images) → OthersAre the_slot_b devices images → IsShutOrNew bytes image → P B (with_device the_slot_b image images)
          at-b spare image images are (inl shut) = inl (shut, keeps-with known.a Closed (with_device the_slot_b image images) (closed_b known.a known.b spare) (image-has _ devices.slot_a.now is.slot_a images.slot_a are.2) shut (log-there B image images are))
          at-b spare image images are (inr opens) = inr (opens, switched known.a (Open the_head) B (with_device the_slot_b image images) (opened_b known.a known.b the_head spare ready.above) (still-prefix known.a images.slot_a (image-has _ devices.slot_a.now is.slot_a images.slot_a are.2)) (new-prefix image opens) (next-at B image images are))

          go : (slot : SlotName) → spare_by known ≡ slot → LeavesOnly (IsShutOrNew bytes) (device_at (slot_named slot) devices) new → RunLeaves (P slot) devices (with_device (slot_named slot) new devices)
          go A spare run = device_runs (P A) the_slot_a devices new (weaken (IsShutOrNew bytes) (λ image. (images : Images) → OthersAre the_slot_a devices images → P A (with_device the_slot_a image images)) devices.slot_a new (λ image which images are. at-a spare image images are which) run)
          go B spare run = device_runs (P B) the_slot_b devices new (weaken (IsShutOrNew bytes) (λ image. (images : Images) → OthersAre the_slot_b devices images → P B (with_device the_slot_b image images)) devices.slot_b new (λ image which images are. at-b spare image images are which) run)

      pub published : (new : DiskHistory) → OneImage (IsOpen [] bytes) new.now → StandsStill text catalogue history (published_by text known) (with_device (slot_named (spare_by known)) new devices)
      published new opens = go (spare_by known) refl
        where
          still : (a b : SlotState) (slot : SlotName) → newest_among a b ≡ Some (info_with slot the_head)
              → OneImage (IsShutOrPrefix catalogue history (number_after (header_with next_form text) []) a) (device_at the_slot_a (with_device (slot_named slot) new devices)).now → OneImage (IsShutOrPrefix catalogue history (number_after (header_with next_form text) []) b) (device_at the_slot_b (with_device (slot_named slot) new devices)).now
              → StandsStill text catalogue history (record { a = a; b = b; form = next_form; batches = [] }) (with_device (slot_named slot) new devices)
          still a b slot newest is_a is_b = record {
            executes = is.executes;
            slot_a = is_a;
            slot_b = is_b;
            log = subst (λ (d : DiskHistory). OneImage (HoldsLog (header_with next_form text) catalogue []) d.now) (sym (log-beside slot (active_among a b) new devices)) (subst (λ (n : LogName). OneImage (HoldsLog (header_with next_form text) catalogue []) (log_at n devices).now) (sym (ap active_in newest)) next);
            placed = subst (λ (n : Option SlotInfo). IsPlaced (header_with next_form text) [] n) (sym newest) new-place;
            earlier = is.earlier ++ all_txns known.batches;
            later = is.later;
            before = new-before;
            split = new-split;
          }

          prefix-of : (state : SlotState) (disk : DiskState) → OneImage (IsShutOrPrefix catalogue history many state) disk → OneImage (IsShutOrPrefix catalogue history (number_after (header_with next_form text) []) state) disk
          prefix-of state disk alone = record { one = alone.one; has = still-prefix state disk.seen alone.has }

          go : (slot : SlotName) → spare_by known ≡ slot → StandsStill text catalogue history (by_slot slot (record known { a = Open the_head; form = next_form; batches = [] }) (record known { b = Open the_head; form = next_form; batches = [] })) (with_device (slot_named slot) new devices)
          go A spare = still (Open the_head) known.b A (opened_a known.a known.b the_head spare ready.above) (record { one = opens.one; has = new-prefix new.now.seen opens.has }) (prefix-of known.b devices.slot_b.now is.slot_b)
          go B spare = still known.a (Open the_head) B (opened_b known.a known.b the_head spare ready.above) (prefix-of known.a devices.slot_a.now is.slot_a) (record { one = opens.one; has = new-prefix new.now.seen opens.has })
