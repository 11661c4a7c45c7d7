-- The three calls one after another.
use Rattle.std.proofs.Common.{◌≡◌, ◌∙◌, inl, inr, ⊎_elim, ℕ, List, length, take, Option, refl, sym, ap, ap₂, subst}
use Rattle.pac_value.specs.State.{Tables}
use Rattle.pac_ops.specs.declared.transaction.Txn.{Txn}
use Rattle.pac_outside.specs.Devices.{RunLeaves, WhileAllKnown, all_known, other_log}
use Rattle.pac_outside.specs.Disk.{DiskHistory}
use Rattle.pac_outside.specs.declared.devices.Devices.{Devices}
use Rattle.pac_outside.specs.declared.devices.LogName.{LogName}
use Rattle.pac_outside.proofs.KnownDevices.{known-then, known-weaken}
use Rattle.pac_outside.proofs.Runs.{run_then, weaken_run}
use Rattle.pac_types.specs.Typing.{CatalogueState}
use Rattle.pac_log.specs.declared.header.HeaderForm.{HeaderForm}
use Rattle.pac_log.specs.declared.header.HeaderForm.TheVariants.{Later}
use Rattle.pac_log.specs.Logs.{header_bytes, header_with}
use Rattle.pac_check.specs.declared.head.Head.{Head}
use Rattle.pac_check.specs.declared.info.SlotInfo.{SlotInfo}
use Rattle.pac_check.specs.declared.info.SlotName.{SlotName}
use Rattle.pac_check.specs.declared.info.SlotName.TheVariants.{A, B}
use Rattle.pac_check.specs.declared.slots.Slots.{Slots}
use Rattle.pac_check.specs.declared.state.SlotState.TheVariants.{Closed}
use Rattle.pac_check.specs.Checkpoints.{checkpoint_bytes, head_with, IsCheckpoint}
use Rattle.pac_check.specs.Saved.{checkpoint_of}
use Rattle.pac_check.specs.SlotStates.{active_in, active_of, by_slot, closed_slots, newest_among, spare_beside, spare_of, IsAbove, HasReadyText}
use Rattle.pac_check.proofs.NewestLemmas.{closed_a, closed_b}
use Rattle.pac_store.specs.Images.{Images}
use Rattle.pac_store.specs.Saving.{IsReadyFor, KeepsBy, KnownStore, StandsStill, SwitchesByGate, active_by, closed_by, last_number, published_bytes, published_head, spare_by}
use Rattle.pac_store.specs.Stands.{reach_of, EndsWith, HoldsSaved, StandsBy}
use Rattle.pac_store.specs.Writing.{CanPublish, KeepsEither, StandsBegun, known_with}
use Rattle.pac_store.proofs.StepLemmas.{closed-ready}

-- what is known of the slots after one was closed
pub known-closed : (slots : Slots) (form : HeaderForm) (batches : List (List Txn)) → known_with (closed_slots slots) form batches ≡ closed_by (known_with slots form batches)
known-closed slots form batches = go (spare_of slots)
  where
    go : (s : SlotName) → known_with (by_slot s (record slots { a = Closed }) (record slots { b = Closed })) form batches ≡ by_slot s (record { a = Closed; b = slots.b; form = form; batches = batches }) (record { a = slots.a; b = Closed; form = form; batches = batches })
    go A = refl
    go B = refl

module _ (known : KnownStore) where
  pub closed-newest : newest_among (closed_by known).a (closed_by known).b ≡ newest_among known.a known.b
  closed-newest = go (spare_by known) refl
    where
      go : (s : SlotName) → spare_by known ≡ s → newest_among (by_slot s (record known { a = Closed }) (record known { b = Closed })).a (by_slot s (record known { a = Closed }) (record known { b = Closed })).b ≡ newest_among known.a known.b
      go A spare = closed_a known.a known.b spare
      go B spare = closed_b known.a known.b spare

  pub closed-number : (text : List ℕ) → last_number text (closed_by known) ≡ last_number text known
  closed-number text = go (spare_by known)
    where
      go : (s : SlotName) → last_number text (by_slot s (record known { a = Closed }) (record known { b = Closed })) ≡ last_number text known
      go A = refl
      go B = refl

  pub closed-active : active_by (closed_by known) ≡ active_by known
  closed-active = ap active_in closed-newest

  pub closed-head : (text : List ℕ) → published_head text (closed_by known) ≡ published_head text known
  closed-head text = ap₂ (λ (n : ℕ) (name : LogName). head_with n (length (header_bytes (header_with (Later n) text))) (other_log name)) (closed-number text) closed-active

  spare-closed : by_slot (spare_by (closed_by known)) (closed_by known).a (closed_by known).b ≡ Closed
  spare-closed = subst (λ (s : SlotName). by_slot s (closed_by known).a (closed_by known).b ≡ Closed) (sym (ap spare_beside closed-newest)) (go (spare_by known))
    where
      go : (s : SlotName) → by_slot s (by_slot s (record known { a = Closed }) (record known { b = Closed })).a (by_slot s (record known { a = Closed }) (record known { b = Closed })).b ≡ Closed
      go A = refl
      go B = refl

  pub ready-closed : (text : List ℕ) (c : CatalogueState) (h : List Txn) (held : Tables) → CanPublish text c h known held → IsReadyFor text c h (closed_by known) held
  ready-closed text c h held can = record {
    above = subst (λ (n : ℕ). IsAbove (newest_among (closed_by known).a (closed_by known).b) n) (sym (closed-number text)) (subst (λ (newest : Option SlotInfo). IsAbove newest (last_number text known)) (sym closed-newest) can.above);
    fit = can.fit;
    form = subst (λ (head : Head). IsCheckpoint c.tables (checkpoint_of (length c.tables) head held)) (sym (closed-head text)) can.form;
    ends = subst (λ (n : ℕ). EndsWith c (take n h) held) (sym (closed-number text)) can.ends;
    closed = spare-closed;
  }

  keeps-same : (text : List ℕ) (c : CatalogueState) (h : List Txn) (name : LogName) (images : Images) → KeepsBy name text c h (closed_by known) images → KeepsBy name text c h known images
  keeps-same text c h name images = λ is. (subst (λ (n : ℕ). StandsBy name text c h n images) (closed-number text) is.0, subst (λ (newest : Option SlotInfo). HoldsSaved c (reach_of newest) images) closed-newest is.1)

  first-either : (text : List ℕ) (c : CatalogueState) (h : List Txn) (a b : Devices DiskHistory) → RunLeaves (KeepsBy (active_by known) text c h known) a b → RunLeaves (KeepsEither text c h known) a b
  first-either text c h a b run = weaken_run (KeepsBy (active_by known) text c h known) (KeepsEither text c h known) (λ images is. inl is) a b run

  second-either : (text : List ℕ) (c : CatalogueState) (h : List Txn) (a b : Devices DiskHistory) → RunLeaves (KeepsBy (active_by (closed_by known)) text c h (closed_by known)) a b → RunLeaves (KeepsEither text c h known) a b
  second-either text c h a b run = weaken_run (KeepsBy (active_by (closed_by known)) text c h (closed_by known)) (KeepsEither text c h known)
      (λ images is. inl (keeps-same text c h (active_by known) images (subst (λ (n : LogName). KeepsBy n text c h (closed_by known) images) closed-active is))) a b run

  third-either : (text : List ℕ) (c : CatalogueState) (h : List Txn) (held : Tables) (a b : Devices DiskHistory) → RunLeaves (SwitchesByGate text c h held (closed_by known)) a b → RunLeaves (KeepsEither text c h known) a b
  third-either text c h held a b run = weaken_run (SwitchesByGate text c h held (closed_by known)) (KeepsEither text c h known)
      (λ images is. ⊎_elim (λ one. inl (keeps-same text c h (active_by known) images (subst (λ (n : LogName). KeepsBy n text c h (closed_by known) images) closed-active one.1)))
      (λ other. inr (keeps-same text c h (other_log (active_by known)) images (subst (λ (n : LogName). KeepsBy (other_log n) text c h (closed_by known) images) closed-active other.1))) is) a b run

-- ---- the three runs

module _ (text : List ℕ) (c : CatalogueState) (h : List Txn) (known : KnownStore) where
  abbrev Still : Devices DiskHistory → Type 0
  Still devices = StandsStill text c h known devices

  abbrev ClosedStill : Devices DiskHistory → Type 0
  ClosedStill devices = StandsStill text c h (closed_by known) devices

  abbrev Begun : Devices DiskHistory → Type 0
  Begun devices = StandsBegun text c h (closed_by known) devices

  abbrev Kept : Devices DiskHistory → Devices DiskHistory → Type 0
  Kept old new = RunLeaves (KeepsEither text c h known) old new

  pub one-run : (a b : Devices (Option DiskHistory)) → WhileAllKnown Still (RunLeaves (KeepsBy (active_by known) text c h known)) a b → WhileAllKnown Still Kept a b
  one-run a b = known-weaken Still Still (RunLeaves (KeepsBy (active_by known) text c h known)) Kept (λ x is. is) (λ x y is. first-either known text c h x y) (all_known a) (all_known b)

  pub two-runs : (a b d : Devices (Option DiskHistory)) → WhileAllKnown Still (RunLeaves (KeepsBy (active_by known) text c h known)) a b → WhileAllKnown Still (λ old new. ClosedStill new) a b
      → WhileAllKnown ClosedStill (RunLeaves (KeepsBy (active_by (closed_by known)) text c h (closed_by known))) b d → WhileAllKnown Still Kept a d
  two-runs a b d first mid second = known-then Still ClosedStill Kept (RunLeaves (KeepsBy (active_by (closed_by known)) text c h (closed_by known))) Kept (λ x y z is one mid other. run_then (KeepsEither text c h known) x y z one (second-either known text c h y z other))
      (all_known a) (all_known b) (all_known d) (one-run a b first) mid second

  pub three-runs : (held : Tables) (a b d e : Devices (Option DiskHistory)) → WhileAllKnown Still (RunLeaves (KeepsBy (active_by known) text c h known)) a b → WhileAllKnown Still (λ old new. ClosedStill new) a b
      → WhileAllKnown ClosedStill (RunLeaves (KeepsBy (active_by (closed_by known)) text c h (closed_by known))) b d → WhileAllKnown ClosedStill (λ old new. Begun new) b d
      → WhileAllKnown Begun (RunLeaves (SwitchesByGate text c h held (closed_by known))) d e → WhileAllKnown Still Kept a e
  three-runs held a b d e first mid second begun third = known-then Still Begun Kept (RunLeaves (SwitchesByGate text c h held (closed_by known))) Kept (λ x y z is one mid other. run_then (KeepsEither text c h known) x y z one (third-either known text c h held y z other))
      (all_known a) (all_known d) (all_known e) (two-runs a b d first mid second)
      (known-then Still ClosedStill (λ old new. ClosedStill new) (λ old new. Begun new) (λ old new. Begun new) (λ x y z is one mid other. other) (all_known a) (all_known b) (all_known d) mid mid begun) third

  pub three-stand : (R : Devices DiskHistory → Type 0) (a b d e : Devices (Option DiskHistory)) → WhileAllKnown Still (λ old new. ClosedStill new) a b → WhileAllKnown ClosedStill (λ old new. Begun new) b d → WhileAllKnown Begun (λ old new. R new) d e
      → WhileAllKnown Still (λ old new. R new) a e
  three-stand R a b d e mid begun third = known-then Still Begun (λ old new. Begun new) (λ old new. R new) (λ old new. R new) (λ x y z is one mid other. other) (all_known a) (all_known d) (all_known e) both both third
    where
      both : WhileAllKnown Still (λ old new. Begun new) a d
      both = known-then Still ClosedStill (λ old new. ClosedStill new) (λ old new. Begun new) (λ old new. Begun new) (λ x y z is one mid other. other) (all_known a) (all_known b) (all_known d) mid mid begun

-- ---- what is ready stays so while the spare slot is closed

module _ (text : List ℕ) (c : CatalogueState) (h : List Txn) (slots new : Slots) (form : HeaderForm) (batches : List (List Txn)) (held : Tables) (same : new ≡ closed_slots slots) where
  abbrev before : KnownStore
  before = known_with slots form batches

  pub now-closed : known_with new form batches ≡ closed_by before
  now-closed = ap (λ (s : Slots). known_with s form batches) same ∙ known-closed slots form batches

  pub active-closed : active_of new ≡ active_by (closed_by before)
  active-closed = ap active_by now-closed

  head-now : published_head text (known_with new form batches) ≡ published_head text before
  head-now = ap (published_head text) now-closed ∙ closed-head before text

  pub for-closed : CanPublish text c h before held → HasReadyText slots (published_head text before) (published_bytes text c held before) → (P : KnownStore → Type 0)
      → (IsReadyFor text c h (known_with new form batches) held → HasReadyText new (published_head text (known_with new form batches)) (published_bytes text c held (known_with new form batches)) → P (known_with new form batches)) → P (closed_by before)
  for-closed can is P f =
      let ready : IsReadyFor text c h (known_with new form batches) held = subst (λ (k : KnownStore). IsReadyFor text c h k held) (sym now-closed) (ready-closed before text c h held can) in
      let there : HasReadyText new (published_head text before) (published_bytes text c held before) = ap (λ (s : Slots). s.ready) same ∙ closed-ready slots ∙ is in
      let here : HasReadyText new (published_head text (known_with new form batches)) (published_bytes text c held (known_with new form batches))
      = subst (λ (head : Head). HasReadyText new head (checkpoint_bytes (checkpoint_of (length c.tables) head held))) (sym head-now) there in
      subst P now-closed (f ready here)
