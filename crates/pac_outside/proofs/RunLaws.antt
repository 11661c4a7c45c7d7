-- A run of several devices goes through each state that they say, and through no other.
use Rattle.std.proofs.Common.{◌≡◌, ◌⊎◌, inl, inr, ℕ, List, [], ◌∷◌, ◌++◌, refl, sym, ap, ◌∙◌, subst, arith, append_assoc}
use Rattle.std.specs.List.{AllByRecursion}
use Rattle.std.proofs.lemmas.List.{append-nil, append_cancel_left}
use Rattle.pac_outside.specs.Disk.{DiskHistory, DiskState, HasImages, IsImage, becomes, settled, states}
use Rattle.pac_outside.specs.declared.devices.Devices.{Devices}
use Rattle.pac_outside.specs.Devices.{AreImages, AllLeave, RunLeaves, WhichDevice, device_at, with_device}
use Rattle.pac_outside.specs.Devices.RunLeaves.{rests, steps}
use Rattle.pac_outside.specs.Devices.WhichDevice.{the_log, the_log_b, the_slot_a, the_slot_b}
use Rattle.pac_outside.specs.Parts.{reads_of}
use Rattle.pac_outside.specs.Runs.{AllGoOn, AllHaveImages, EachIsPassed, GoesOn, IsMoment, IsNotSeven, IsPassed, LeavesIn, OneGoesOn, disk_in, empty_disk, was_seven}
use Rattle.pac_outside.proofs.Histories.{all_weaken, same_history}
use Rattle.pac_outside.proofs.Runs.{now_leaves, put_again, put_is}

-- ---- histories that go on

stays_on : (device : DiskHistory) → GoesOn device device
stays_on device = record { since = []; grown = sym (append-nil (states device)) }

goes_one : (device : DiskHistory) (next : DiskState) → GoesOn device (becomes next device)
goes_one device next = record { since = next ∷ []; grown = refl }

on_and_on : (a b c : DiskHistory) → GoesOn a b → GoesOn b c → GoesOn a c
on_and_on a b c first second = record {
  since = first.since ++ second.since;
  grown = second.grown ∙ ap (λ (past : List DiskState). past ++ second.since) first.grown ∙ append_assoc (states a) first.since second.since;
}

all_stay : (devices : Devices DiskHistory) → AllGoOn devices devices
all_stay devices = record { log = stays_on devices.log; log_b = stays_on devices.log_b; slot_a = stays_on devices.slot_a; slot_b = stays_on devices.slot_b }

all_on : (a b c : Devices DiskHistory) → AllGoOn a b → AllGoOn b c → AllGoOn a c
all_on a b c first second = record {
  log = on_and_on a.log b.log c.log first.log second.log;
  log_b = on_and_on a.log_b b.log_b c.log_b first.log_b second.log_b;
  slot_a = on_and_on a.slot_a b.slot_a c.slot_a first.slot_a second.slot_a;
  slot_b = on_and_on a.slot_b b.slot_b c.slot_b first.slot_b second.slot_b;
}

-- the devices after one more step
abbrev stepped : WhichDevice → DiskState → Devices DiskHistory → Devices DiskHistory
stepped which next devices = with_device which (becomes next (device_at which devices)) devices

one_on : (which : WhichDevice) (devices : Devices DiskHistory) (next : DiskState) → AllGoOn devices (stepped which next devices)
one_on the_log devices next = record { log = goes_one devices.log next; log_b = stays_on devices.log_b; slot_a = stays_on devices.slot_a; slot_b = stays_on devices.slot_b }
one_on the_log_b devices next = record { log = stays_on devices.log; log_b = goes_one devices.log_b next; slot_a = stays_on devices.slot_a; slot_b = stays_on devices.slot_b }
one_on the_slot_a devices next = record { log = stays_on devices.log; log_b = stays_on devices.log_b; slot_a = goes_one devices.slot_a next; slot_b = stays_on devices.slot_b }
one_on the_slot_b devices next = record { log = stays_on devices.log; log_b = stays_on devices.log_b; slot_a = stays_on devices.slot_a; slot_b = goes_one devices.slot_b next }

-- in a run no state is forgotten
pub run_goes_on : (P : Devices (List ℕ) → Type 0) (old new : Devices DiskHistory) → RunLeaves P old new → AllGoOn old new
run_goes_on P old new (rests devices here) = all_stay devices
run_goes_on P old new (steps which devices end next here more) = all_on devices (stepped which next devices) end (one_on which devices next) (run_goes_on P (stepped which next devices) end more)

-- ---- each state is passed

-- a device is the one that steps, or stays as it is
at_step : (which other : WhichDevice) (devices : Devices DiskHistory) (next : DiskState) → (device_at other (stepped which next devices) ≡ becomes next (device_at other devices)) ⊎ (device_at other (stepped which next devices) ≡ device_at other devices)
at_step the_log the_log devices next = inl refl
at_step the_log the_log_b devices next = inr refl
at_step the_log the_slot_a devices next = inr refl
at_step the_log the_slot_b devices next = inr refl
at_step the_log_b the_log devices next = inr refl
at_step the_log_b the_log_b devices next = inl refl
at_step the_log_b the_slot_a devices next = inr refl
at_step the_log_b the_slot_b devices next = inr refl
at_step the_slot_a the_log devices next = inr refl
at_step the_slot_a the_log_b devices next = inr refl
at_step the_slot_a the_slot_a devices next = inl refl
at_step the_slot_a the_slot_b devices next = inr refl
at_step the_slot_b the_log devices next = inr refl
at_step the_slot_b the_log_b devices next = inr refl
at_step the_slot_b the_slot_a devices next = inr refl
at_step the_slot_b the_slot_b devices next = inl refl

-- what is passed from a later moment on is passed from an earlier one on
module _ (P : Devices (List ℕ) → Type 0) (old later new : Devices DiskHistory) (on : AllGoOn old later) (which : WhichDevice) where
  passed_later : (state : DiskState) → IsPassed P later new which state → IsPassed P old new which state
  passed_later state passed = record {
    moment = passed.moment;
    is = record { begun = all_on old later passed.moment on passed.is.begun; ended = passed.is.ended; leaves = passed.is.leaves };
    now = passed.now;
  }

  all_passed_later : (passed : List DiskState) → AllByRecursion (IsPassed P later new which) passed → AllByRecursion (IsPassed P old new which) passed
  all_passed_later = all_weaken (IsPassed P later new which) (IsPassed P old new which) passed_later

-- the state at the first moment
passed_first : (P : Devices (List ℕ) → Type 0) (old new : Devices DiskHistory) → AllLeave P old → AllGoOn old new → (which : WhichDevice) → IsPassed P old new which (device_at which old).now
passed_first P old new here on which = record { moment = old; is = record { begun = all_stay old; ended = on; leaves = here }; now = refl }

-- what is passed from the second moment on, and the first moment
module _ (P : Devices (List ℕ) → Type 0) (which other : WhichDevice) (devices end : Devices DiskHistory) (next : DiskState) (here : AllLeave P devices) (on : AllGoOn devices end) where
  abbrev later : Devices DiskHistory
  later = stepped which next devices

  passed_too : (passed : List DiskState) → AllByRecursion (IsPassed P later end other) passed → AllByRecursion (IsPassed P devices end other) passed
  passed_too = all_passed_later P devices later end (one_on which devices next) other

  moved : device_at other later ≡ becomes next (device_at other devices) → EachIsPassed P later end other → EachIsPassed P devices end other
  moved same rest = record {
    since = next ∷ rest.since;
    grown = rest.grown ∙ ap (λ (disk : DiskHistory). states disk ++ rest.since) same ∙ append_assoc (states (device_at other devices)) (next ∷ []) rest.since;
    each = (passed_first P devices end here on other, passed_too (next ∷ rest.since) (subst (λ (disk : DiskHistory). AllByRecursion (IsPassed P later end other) (disk.now ∷ rest.since)) same rest.each));
  }

  stood : device_at other later ≡ device_at other devices → EachIsPassed P later end other → EachIsPassed P devices end other
  stood same rest = record {
    since = rest.since;
    grown = rest.grown ∙ ap (λ (disk : DiskHistory). states disk ++ rest.since) same;
    each = passed_too ((device_at other devices).now ∷ rest.since) (subst (λ (disk : DiskHistory). AllByRecursion (IsPassed P later end other) (disk.now ∷ rest.since)) same rest.each);
  }

  either : (device_at other later ≡ becomes next (device_at other devices)) ⊎ (device_at other later ≡ device_at other devices) → EachIsPassed P later end other → EachIsPassed P devices end other
  either (inl same) rest = moved same rest
  either (inr same) rest = stood same rest

pub each_is_passed : (P : Devices (List ℕ) → Type 0) (old new : Devices DiskHistory) → RunLeaves P old new → (which : WhichDevice) → EachIsPassed P old new which
each_is_passed P old new (rests devices here) other = record {
  since = [];
  grown = sym (append-nil (states (device_at other devices)));
  each = (passed_first P devices devices here (all_stay devices) other, tt);
}
each_is_passed P old new (steps which devices end next here more) other =
    either P which other devices end next here (run_goes_on P devices end (steps which devices end next here more)) (at_step which other devices next) (each_is_passed P (stepped which next devices) end more other)

-- ---- what a read gave at a moment has P

at_seam : (Q : DiskState → Type 0) (past : List DiskState) (now : DiskState) (since : List DiskState) → AllByRecursion Q ((past ++ now ∷ []) ++ since) → Q now
at_seam Q [] now since all = all.0
at_seam Q (state ∷ past) now since all = at_seam Q past now since all.1

had_image : (disk new : DiskHistory) → GoesOn disk new → HasImages new → IsImage disk.now disk.now.seen
had_image disk new on has = at_seam (λ state. IsImage state state.seen) disk.past disk.now on.since (subst (λ (states : List DiskState). AllByRecursion (λ state. IsImage state state.seen) states) on.grown has)

had_images : (moment new : Devices DiskHistory) → AllGoOn moment new → AllHaveImages new → AreImages moment (reads_of moment)
had_images moment new on has = record {
  log = had_image moment.log new.log on.log has.log;
  log_b = had_image moment.log_b new.log_b on.log_b has.log_b;
  slot_a = had_image moment.slot_a new.slot_a on.slot_a has.slot_a;
  slot_b = had_image moment.slot_b new.slot_b on.slot_b has.slot_b;
}

pub moment_has : (P : Devices (List ℕ) → Type 0) (old new moment : Devices DiskHistory) → AllHaveImages new → IsMoment P old new moment → P (reads_of moment)
moment_has P old new moment has is = is.leaves (reads_of moment) (had_images moment new is.ended has)

-- ---- one device

-- a disk that went on and was then as at first didn't change between
same_between : (a b : DiskHistory) → GoesOn a b → GoesOn b a → b ≡ a
same_between a b first second =
    let whole : first.since ++ second.since ≡ [] = append_cancel_left (states a) (first.since ++ second.since) [] (sym (append_assoc (states a) first.since second.since) ∙ ap (λ (past : List DiskState). past ++ second.since) (sym first.grown) ∙ sym second.grown ∙ sym (append-nil (states a))) in
    same_history b a (first.grown ∙ ap (λ (since : List DiskState). states a ++ since) (no_first first.since second.since whole) ∙ append-nil (states a))
  where
    no_first : (xs ys : List DiskState) → xs ++ ys ≡ [] → xs ≡ []
    no_first [] ys none = refl
    no_first (x ∷ xs) ys none = absurd (some none)
      where
        some : x ∷ (xs ++ ys) ≡ [] → ⊥
        some none = cc

-- where one device went on alone, the others were at each moment as they are
between : (which : WhichDevice) (devices moment : Devices DiskHistory) (new : DiskHistory) → AllGoOn devices moment → AllGoOn moment (with_device which new devices) → moment ≡ with_device which (device_at which moment) devices
between the_log devices moment new begun ended =
    let log_b : moment.log_b ≡ devices.log_b = same_between devices.log_b moment.log_b begun.log_b ended.log_b in
    let slot_a : moment.slot_a ≡ devices.slot_a = same_between devices.slot_a moment.slot_a begun.slot_a ended.slot_a in
    let slot_b : moment.slot_b ≡ devices.slot_b = same_between devices.slot_b moment.slot_b begun.slot_b ended.slot_b in
    ap (λ (disk : DiskHistory). with_device the_log_b disk moment) log_b
    ∙ ap (λ (disk : DiskHistory). with_device the_slot_a disk (with_device the_log_b devices.log_b moment)) slot_a
    ∙ ap (λ (disk : DiskHistory). with_device the_slot_b disk (with_device the_log moment.log devices)) slot_b
between the_log_b devices moment new begun ended =
    let log : moment.log ≡ devices.log = same_between devices.log moment.log begun.log ended.log in
    let slot_a : moment.slot_a ≡ devices.slot_a = same_between devices.slot_a moment.slot_a begun.slot_a ended.slot_a in
    let slot_b : moment.slot_b ≡ devices.slot_b = same_between devices.slot_b moment.slot_b begun.slot_b ended.slot_b in
    ap (λ (disk : DiskHistory). with_device the_log disk moment) log
    ∙ ap (λ (disk : DiskHistory). with_device the_slot_a disk (with_device the_log devices.log moment)) slot_a
    ∙ ap (λ (disk : DiskHistory). with_device the_slot_b disk (with_device the_log_b moment.log_b devices)) slot_b
between the_slot_a devices moment new begun ended =
    let log : moment.log ≡ devices.log = same_between devices.log moment.log begun.log ended.log in
    let log_b : moment.log_b ≡ devices.log_b = same_between devices.log_b moment.log_b begun.log_b ended.log_b in
    let slot_b : moment.slot_b ≡ devices.slot_b = same_between devices.slot_b moment.slot_b begun.slot_b ended.slot_b in
    ap (λ (disk : DiskHistory). with_device the_log disk moment) log
    ∙ ap (λ (disk : DiskHistory). with_device the_log_b disk (with_device the_log devices.log moment)) log_b
    ∙ ap (λ (disk : DiskHistory). with_device the_slot_b disk (with_device the_slot_a moment.slot_a devices)) slot_b
between the_slot_b devices moment new begun ended =
    let log : moment.log ≡ devices.log = same_between devices.log moment.log begun.log ended.log in
    let log_b : moment.log_b ≡ devices.log_b = same_between devices.log_b moment.log_b begun.log_b ended.log_b in
    let slot_a : moment.slot_a ≡ devices.slot_a = same_between devices.slot_a moment.slot_a begun.slot_a ended.slot_a in
    ap (λ (disk : DiskHistory). with_device the_log disk moment) log
    ∙ ap (λ (disk : DiskHistory). with_device the_log_b disk (with_device the_log devices.log moment)) log_b
    ∙ ap (λ (disk : DiskHistory). with_device the_slot_a disk (with_device the_slot_b moment.slot_b devices)) slot_a

-- what was left at such a moment
left_at : (P : Devices (List ℕ) → Type 0) (which : WhichDevice) (devices : Devices DiskHistory) (new : DiskHistory) (state : DiskState) → IsPassed P devices (with_device which new devices) which state → LeavesIn P which devices state
left_at P which devices new state passed =
    let same : passed.moment ≡ with_device which (device_at which passed.moment) devices = between which devices passed.moment new passed.is.begun passed.is.ended in
    subst (λ (state : DiskState). LeavesIn P which devices state) passed.now (in_others which passed.moment same (now_leaves P which passed.moment passed.is.leaves))
  where
    in_others : (which : WhichDevice) (moment : Devices DiskHistory) → moment ≡ with_device which (device_at which moment) devices → LeavesIn P which moment (device_at which moment).now → LeavesIn P which devices (device_at which moment).now
    in_others which moment same leaves = subst (λ (all : Devices DiskHistory). AllLeave P all) (ap (λ (all : Devices DiskHistory). with_device which (disk_in (device_at which moment).now) all) same ∙ put_again which (disk_in (device_at which moment).now) (device_at which moment) devices) leaves

pub alone_leaves : (P : Devices (List ℕ) → Type 0) (which : WhichDevice) (devices : Devices DiskHistory) (new : DiskHistory) → RunLeaves P devices (with_device which new devices) → OneGoesOn P which devices new
alone_leaves P which devices new run =
    let passed = each_is_passed P devices (with_device which new devices) run which in
    record {
      since = passed.since;
      grown = subst (λ (disk : DiskHistory). states disk ≡ states (device_at which devices) ++ passed.since) (put_is which new devices) passed.grown;
      each = all_weaken (IsPassed P devices (with_device which new devices) which) (LeavesIn P which devices) (left_at P which devices new) ((device_at which devices).now ∷ passed.since) passed.each;
    }

-- ---- a state between that may not be

own_image : (bytes : List ℕ) → IsImage (settled bytes) bytes
own_image bytes = record { no_shorter = omega arith; no_longer = omega arith; stays = λ offset below unwritten. refl }

pub seven_is_seen : (old new : Devices DiskHistory) → old.log ≡ empty_disk → new.log ≡ was_seven → HasImages new.log_b → HasImages new.slot_a → HasImages new.slot_b → RunLeaves IsNotSeven old new → ⊥
seven_is_seen old new was is has_log_b has_a has_b run =
    let passed = each_is_passed IsNotSeven old new run the_log in
    let grown : states was_seven ≡ states empty_disk ++ passed.since = ap (λ (disk : DiskHistory). states disk) (sym is) ∙ passed.grown ∙ ap (λ (disk : DiskHistory). states disk ++ passed.since) was in
    let since : passed.since ≡ settled (7 ∷ []) ∷ settled [] ∷ [] = append_cancel_left (states empty_disk) passed.since (settled (7 ∷ []) ∷ settled [] ∷ []) (sym grown) in
    at_seven (subst (λ (later : List DiskState). AllByRecursion (IsPassed IsNotSeven old new the_log) (old.log.now ∷ later)) since passed.each).1.0
  where
    all_has : AllHaveImages new
    all_has = record { log = subst (λ (disk : DiskHistory). HasImages disk) (sym is) (own_image [], (own_image (7 ∷ []), (own_image [], tt))); log_b = has_log_b; slot_a = has_a; slot_b = has_b }

    at_seven : IsPassed IsNotSeven old new the_log (settled (7 ∷ [])) → ⊥
    at_seven passed = moment_has IsNotSeven old new passed.moment all_has passed.is (ap (λ (state : DiskState). state.seen) passed.now)
