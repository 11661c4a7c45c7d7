-- One request is answered, or not.
use Rattle.std.proofs.Common.{◌≡◌, ◌∙◌, inl, inr, ℕ, ◌≤◌, true, List, [], ◌∷◌, ◌++◌, take, Option, Some, None, Result, Ok, Err, refl, sym, ap, ap₂, subst, arith}
use Rattle.std.specs.Prelude.{IsErrOf, OnErr}
use Rattle.std.specs.List.{AllByRecursion}
use Rattle.std.proofs.lemmas.List.{append-nil}
use Rattle.pac_ops.specs.declared.transaction.Txn.{Txn}
use Rattle.pac_outside.specs.Devices.{all_known, each}
use Rattle.pac_outside.specs.declared.devices.Devices.{Devices}
use Rattle.pac_outside.specs.Disk.{DiskHistory, IfKnown}
use Rattle.pac_outside.specs.GateByte.{OneImage}
use Rattle.pac_outside.proofs.KnownDevices.{rest-known}
use Rattle.pac_outside.specs.Parts.{slots_of}
use Rattle.pac_types.specs.Typing.{CatalogueState}
use Rattle.pac_check.specs.declared.info.SlotInfo.{SlotInfo}
use Rattle.pac_check.specs.declared.info.SlotName.{SlotName}
use Rattle.pac_check.specs.declared.info.SlotName.TheVariants.{A, B}
use Rattle.pac_check.specs.declared.limits.TheConstants.{MAX_SLOT_LEN}
use Rattle.pac_check.specs.declared.state.SlotState.{SlotState}
use Rattle.pac_check.specs.declared.state.SlotState.TheVariants.{Empty, Closed, Open}
use Rattle.pac_check.specs.SlotStates.{active_of, by_slot, info_of, info_with, newest_of, spare_beside, spare_of, IsSlot}
use Rattle.pac_check.proofs.FrontLemmas.{front_of_slot}
use Rattle.pac_check.proofs.NewestLemmas.{of_a, of_b}
use Rattle.pac_request.specs.declared.request.Request.{Request}
use Rattle.pac_request.specs.declared.request.Request.TheVariants as request
use Rattle.pac_request.specs.declared.request.Reply.{Reply}
use Rattle.pac_session.specs.Session.{Rules, SessionState, commits, committed, ends}
use Rattle.pac_session.specs.Groups.{GroupCut, all_requests, LogSpot, cut_on, cut_one, saves_anew}
use Rattle.pac_session.specs.Open.{IsInGroup, rules_of, state_now}
use Rattle.pac_engine.specs.declared.fault.EngineCause.{EngineCause}
use Rattle.pac_engine.specs.declared.fault.EngineCause.TheVariants as cause
use Rattle.pac_engine.specs.declared.parts.EngineParts.{EngineParts}
use Rattle.pac_engine.specs.Closing.{Closes, IsKept, MayEndAfter, slot_len}
use Rattle.pac_engine.specs.Handled.{StopsForRoom}
use Rattle.pac_engine.specs.Standing.{HasDevices, OnlyGrows, StandsOn, durable_of, saved_of, spot_of}
use Rattle.pac_engine.proofs.LawLemmas.{closes-then}
use Rattle.pac_run.specs.declared.stop.RunStop.{RunStop}
use Rattle.pac_run.specs.declared.stop.RunStop.TheVariants.{DiskFault, LogFull, NoMemory, OutputFault, TooLarge}
use Rattle.pac_run.specs.Causes.{stop_of_engine}
use Rattle.pac_run.specs.Serving.{Answered, Broke, KeepsEach, KeepsGate, StandsForEach, WasHandled}
use Rattle.pac_run.specs.Stopping.{BeginsWith, HasWorked, NewestStays, StepStops}
use Rattle.pac_run.specs.Texts.{IsTextPrefix, IsPlain, SaysUnlessFault, texts}
use Rattle.pac_run.proofs.ServeLemmas.{took-nothing, whole-prefix}
use Rattle.pac_run.proofs.StepLemmas.{nothing-keeps}
use Rattle.pac_run.proofs.StopLemmas.{none-known}

-- an error is the only one that the answer may have
pub only-err : {T E : Type 0} (r : Result T E) (a b : E) → OnErr r (IsErrOf r a) → IsErrOf r b → b ≡ a
only-err (Ok x) a b only is = absurd cc
only-err (Err e) a b only is = same only is
  where
    same : {T E : Type 0} {e a b : E} → ◌≡◌ {A = Result T E} (Err e) (Err a) → ◌≡◌ {A = Result T E} (Err e) (Err b) → b ≡ a
    same f g = cc

-- no slot was called
pub slots-same : {D : Type 0} (known : D → Option DiskHistory) (old new : Devices D) → (new.slot_a ≡ old.slot_a) × (new.slot_b ≡ old.slot_b) → slots_of (each known new) ≡ slots_of (each known old)
slots-same known old new is = ap₂ (λ (a b : Option DiskHistory). (a, b)) (ap known is.0) (ap known is.1)

-- a run stops at a device where a step does
pub disk-cause : (why : EngineCause) → stop_of_engine why ≡ DiskFault → why ≡ cause.DiskFault
disk-cause cause.DiskFault e = refl
disk-cause (cause.LogFull need) e = absurd cc
disk-cause (cause.TooLarge bytes) e = absurd cc
disk-cause cause.Ended e = absurd cc
disk-cause cause.NoMemory e = absurd cc

pub output-no-disk : OutputFault ≡ DiskFault → ⊥
output-no-disk e = cc

-- ---- a step that finds no room

module _ {D : Type 0} (known : D → Option DiskHistory) (asked : Request) (before now : EngineParts) (old new : Devices D) where
  pub room-stays : (why : EngineCause) → StopsForRoom known asked why before now old new → KeepsGate asked before now (stop_of_engine why)
  room-stays (cause.LogFull need) is = is.1
  room-stays (cause.TooLarge bytes) is = (is.0, is.3)
  room-stays cause.DiskFault is = tt
  room-stays cause.NoMemory is = tt
  room-stays cause.Ended is = tt

  -- the engine knows what the devices hold
  pub room-worked : (why : EngineCause) → StopsForRoom known asked why before now old new → HasWorked {A = Unit {0}} (Err (stop_of_engine why)) → HasDevices known now new
  room-worked (cause.LogFull need) is worked = absurd worked
  room-worked (cause.TooLarge bytes) is worked = absurd worked
  room-worked cause.DiskFault is worked = absurd worked
  room-worked cause.NoMemory is worked = absurd worked
  room-worked cause.Ended is worked = absurd worked

  pub room-full : (why : EngineCause) → StopsForRoom known asked why before now old new → (need : ℕ) → stop_of_engine why ≡ LogFull need → HasDevices known now new
  room-full (cause.LogFull more) is need same = is.2
  room-full (cause.TooLarge bytes) is need same = is.4
  room-full cause.DiskFault is need same = absurd cc
  room-full cause.NoMemory is need same = absurd cc
  room-full cause.Ended is need same = absurd cc

  pub room-large : (why : EngineCause) → StopsForRoom known asked why before now old new → (bytes : ℕ) → stop_of_engine why ≡ TooLarge bytes → HasDevices known now new
  room-large (cause.LogFull need) is bytes same = is.2
  room-large (cause.TooLarge more) is bytes same = is.4
  room-large cause.DiskFault is bytes same = absurd cc
  room-large cause.NoMemory is bytes same = absurd cc
  room-large cause.Ended is bytes same = absurd cc

-- ---- the newest slot, which isn't called

module _ {D : Type 0} (known : D → Option DiskHistory) (engine : EngineParts) (old new : Devices D) (ready : HasDevices known engine old)
    (same : by_slot (spare_of engine.slots) (known new.slot_b) (known new.slot_a) ≡ by_slot (spare_of engine.slots) (known old.slot_b) (known old.slot_a)) where
  begins-with : (slot : SlotName) (state : SlotState) (device : Option DiskHistory) (info : SlotInfo) → info_of slot state ≡ Some info → IfKnown (λ h. OneImage (IsSlot engine.session.catalogue.tables state) h.now) device → IfKnown (λ h. OneImage (BeginsWith info) h.now) device
  begins-with slot state None info is one = tt
  begins-with slot Empty (Some h) info is one = absurd cc
  begins-with slot Closed (Some h) info is one = absurd cc
  begins-with slot (Open head) (Some h) info is one =
      let found : info_with slot head ≡ info = cc in
      record { one = one.one; has = record { head = head; front = front_of_slot engine.session.catalogue.tables (Open head) h.now.seen one.has; is = subst (λ (i : SlotInfo). i ≡ info_with i.slot head) found refl } }

  pub newest-stays : NewestStays (newest_of engine.slots) (each known new)
  newest-stays = go (newest_of engine.slots) refl same
    where
      go : (newest : Option SlotInfo) → newest_of engine.slots ≡ newest → by_slot (spare_beside newest) (known new.slot_b) (known new.slot_a) ≡ by_slot (spare_beside newest) (known old.slot_b) (known old.slot_a) → NewestStays newest (each known new)
      go None is rest = tt
      go (Some info) is rest = at info.slot refl rest
        where
          at : (slot : SlotName) → info.slot ≡ slot → by_slot (by_slot slot B A) (known new.slot_b) (known new.slot_a) ≡ by_slot (by_slot slot B A) (known old.slot_b) (known old.slot_a) → IfKnown (λ h. OneImage (BeginsWith info) h.now) (by_slot slot (known new.slot_a) (known new.slot_b))
          at A here stays = subst (λ (d : Option DiskHistory). IfKnown (λ h. OneImage (BeginsWith info) h.now) d) (sym stays) (begins-with A engine.slots.a (known old.slot_a) info (of_a engine.slots.a engine.slots.b info is here) ready.slot_a)
          at B here stays = subst (λ (d : Option DiskHistory). IfKnown (λ h. OneImage (BeginsWith info) h.now) d) (sym stays) (begins-with B engine.slots.b (known old.slot_b) info (of_b engine.slots.a engine.slots.b info is here) ready.slot_b)

module _ (asked : Request) (old new : EngineParts) where
  -- the groups that it closes are those of the step
  handled-closes : (more : List Reply) → ((start : SessionState) (group : List Request) → IsInGroup start group old.session → Closes (rules_of old.session) (spot_of old) start (cut_one (rules_of old.session) start group asked) more new)
      → (rules : Rules) (spot : LogSpot) (start : SessionState) (whole : GroupCut) (given : List Reply) → Closes rules spot start whole given old → Closes rules spot start (cut_on rules start whole asked) (given ++ more) new
  handled-closes more closes rules spot start whole given is =
      let middle = ends rules start (all_requests whole.closed) in
      closes-then rules spot start whole given old is (cut_one rules middle whole.rest asked) more new
      (subst (λ (r : Rules). Closes r (spot_of old) middle (cut_one r middle whole.rest asked) more new) is.same (closes middle whole.rest is.within))

  pub was-handled : (more : List Reply) → ((start : SessionState) (group : List Request) → IsInGroup start group old.session → Closes (rules_of old.session) (spot_of old) start (cut_one (rules_of old.session) start group asked) more new)
      → (asked ≡ request.Save → saves_anew (saved_of old) (state_now old.session).number ≡ true → slot_len (rules_of old.session) (state_now old.session) ≤ MAX_SLOT_LEN)
      → durable_of new ≡ new.session.before → WasHandled asked more old new
  was-handled more closes small durable = record { closes = handled-closes more closes; saves = small; durable = durable }

module _ (asked : Request) (old new : EngineParts) (known known' : Devices (Option DiskHistory)) where
  keeps-one : KeepsEach (commits (rules_of old.session) (state_now old.session) asked) old new known known' → KeepsEach (committed (rules_of old.session) (state_now old.session) (asked ∷ [])) old new known known'
  keeps-one keeps = subst (λ (t : List Txn). KeepsEach t old new known known') (sym (append-nil (commits (rules_of old.session) (state_now old.session) asked))) keeps

  stands-one : StandsForEach (commits (rules_of old.session) (state_now old.session) asked) old new known known' → StandsForEach (committed (rules_of old.session) (state_now old.session) (asked ∷ [])) old new known known'
  stands-one stands = subst (λ (t : List Txn). StandsForEach t old new known known') (sym (append-nil (commits (rules_of old.session) (state_now old.session) asked))) stands

  -- nothing was written, since there was no memory for the text
  pub no-text : (catalogue : CatalogueState) (held : Option (List ℕ)) (faulted : Type 0) (stop : RunStop) → stop ≡ NoMemory → KeepsEach (commits (rules_of old.session) (state_now old.session) asked) old new known known' → OnlyGrows old new
      → ((asked ≡ request.Save → ⊥) → slots_of known' ≡ slots_of known) → NewestStays (newest_of old.slots) known' → Broke catalogue asked old new held held known known' faulted stop
  no-text catalogue held faulted stop is keeps grows slots newest = record {
    more = [];
    out = [];
    took = took-nothing held;
    prefix = record { count = 0; is = refl };
    whole = inl refl;
    stops = λ start group within. subst (λ (s : RunStop). StepStops (rules_of old.session) (spot_of old) start (cut_one (rules_of old.session) start group asked).closed [] s) (sym is)
        (none-known (rules_of old.session) (spot_of old) start (cut_one (rules_of old.session) start group asked).closed);
    keeps = keeps-one keeps;
    grows = grows;
    kept = tt;
    plain = tt;
    handled = λ out. absurd (no-output (sym is ∙ out));
    room = subst (λ (s : RunStop). KeepsGate asked old new s) (sym is) tt;
    slots = slots;
    newest = newest;
    torn = λ disk. absurd (no-disk (sym is ∙ disk));
  }
    where
      no-output : NoMemory ≡ OutputFault → ⊥
      no-output e = cc

      no-disk : NoMemory ≡ DiskFault → ⊥
      no-disk e = cc

  pub broke-of : (catalogue : CatalogueState) (held held' : Option (List ℕ)) (faulted : Type 0) (stop : RunStop) (more : List Reply) (text : List ℕ) → text ≡ texts catalogue more → SaysUnlessFault held text held' faulted
      → KeepsEach (commits (rules_of old.session) (state_now old.session) asked) old new known known' → OnlyGrows old new → AllByRecursion (IsKept new) more → AllByRecursion IsPlain more
      → ((start : SessionState) (group : List Request) → IsInGroup start group old.session → StepStops (rules_of old.session) (spot_of old) start (cut_one (rules_of old.session) start group asked).closed more stop)
      → (stop ≡ OutputFault → WasHandled asked more old new) → KeepsGate asked old new stop → ((asked ≡ request.Save → ⊥) → slots_of known' ≡ slots_of known) → NewestStays (newest_of old.slots) known'
      → (stop ≡ DiskFault → (start : SessionState) (group : List Request) → IsInGroup start group old.session → MayEndAfter (active_of old.slots) (rules_of old.session) (spot_of old) start (cut_one (rules_of old.session) start group asked).closed old.log.gate known')
      → Broke catalogue asked old new held held' known known' faulted stop
  broke-of catalogue held held' faulted stop more text is (inl took) keeps grows kept plain stops handled room slots newest torn = record {
    more = more;
    out = text;
    took = took;
    prefix = subst (λ (t : List ℕ). IsTextPrefix t (texts catalogue more)) (sym is) (whole-prefix (texts catalogue more));
    whole = inl is;
    stops = stops;
    keeps = keeps-one keeps;
    grows = grows;
    kept = kept;
    plain = plain;
    handled = handled;
    room = room;
    slots = slots;
    newest = newest;
    torn = torn;
  }
  broke-of catalogue held held' faulted stop more text is (inr fault) keeps grows kept plain stops handled room slots newest torn = record {
    more = more;
    out = take fault.1.count text;
    took = fault.1.prefix;
    prefix = record { count = fault.1.count; is = ap (take fault.1.count) is };
    whole = inr fault.0;
    stops = stops;
    keeps = keeps-one keeps;
    grows = grows;
    kept = kept;
    plain = plain;
    handled = handled;
    room = room;
    slots = slots;
    newest = newest;
    torn = torn;
  }

  -- a request was answered
  pub answered-one : (more : List Reply) → ((start : SessionState) (group : List Request) → IsInGroup start group old.session → Closes (rules_of old.session) (spot_of old) start (cut_one (rules_of old.session) start group asked) more new)
      → KeepsEach (commits (rules_of old.session) (state_now old.session) asked) old new known known' → StandsForEach (commits (rules_of old.session) (state_now old.session) asked) old new known known'
      → rules_of new.session ≡ rules_of old.session → OnlyGrows old new → AllByRecursion (IsKept new) more → AllByRecursion IsPlain more
      → (asked ≡ request.Save → saves_anew (saved_of old) (state_now old.session).number ≡ true → slot_len (rules_of old.session) (state_now old.session) ≤ MAX_SLOT_LEN)
      → durable_of new ≡ new.session.before → ((asked ≡ request.Save → ⊥) → slots_of known' ≡ slots_of known)
      → Answered (asked ∷ []) more old new known known'
  answered-one more closes keeps stands same grows kept plain small durable slots = record {
    closes = handled-closes asked old new more closes;
    keeps = keeps-one keeps;
    stands = stands-one stands;
    same = same;
    grows = grows;
    kept = kept;
    plain = plain;
    few = omega arith;
    saves = λ is. small (first-same is);
    durable = λ before. durable;
    slots = λ none. slots none.0;
    still = λ none. absurd (some none);
  }
    where
      some : asked ∷ [] ≡ [] → ⊥
      some e = cc

      first-same : asked ∷ [] ≡ request.Save ∷ [] → asked ≡ request.Save
      first-same e = cc

-- nothing was asked
pub answered-none : (e : EngineParts) (known : Devices (Option DiskHistory)) → StandsForEach [] e e known known → Answered [] [] e e known known
answered-none e known stands = record {
  closes = λ rules spot start whole given is. subst (λ (l : List Reply). Closes rules spot start whole l e) (sym (append-nil given)) is;
  keeps = nothing-keeps e known;
  stands = stands;
  same = refl;
  grows = record { durable = omega arith; saved = omega arith };
  kept = tt;
  plain = tt;
  few = omega arith;
  saves = λ is. absurd (none is);
  durable = λ is. is;
  slots = λ none. refl;
  still = λ none. refl;
}
  where
    none : [] ≡ request.Save ∷ [] → ⊥
    none e = cc

pub nothing-stands : (e : EngineParts) (known : Devices (Option DiskHistory)) → StandsForEach [] e e known known
nothing-stands e known = λ text history. rest-known (StandsOn text history e) (λ was is. StandsOn text (history ++ []) e is) (λ devices is. subst (λ (h : List Txn). StandsOn text h e devices) (sym (append-nil history)) is) (all_known known)
