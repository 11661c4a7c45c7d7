-- The whole run.
use Rattle.std.proofs.Common.{◌≡◌, ◌∙◌, ◌⊎◌, inl, inr, ℕ, List, [], ◌∷◌, ◌++◌, length, take, Option, Some, None, Result, Ok, Err, OnOk, refl, sym, ap, subst, arith, append_assoc, drop}
use Rattle.std.specs.Prelude.{IfErr, IfSome, IsErrOf, MatchResult}
use Rattle.std.specs.FinMap.{empty}
use Rattle.std.proofs.KnownBytes.{prepend_known-nil}
use Rattle.std.proofs.lemmas.Grind.{flat_map-append}
use Rattle.std.proofs.Math.Seq.{take-append_seam}
use Rattle.std.proofs.lemmas.List.{take-append-drop}
use Rattle.pac_ops.specs.declared.transaction.Txn.{Txn}
use Rattle.pac_outside.specs.Devices.{AreImages, RunsAsBefore, OnceKnown, IfAllKnown, WhileKnown, all_known, each, log_at}
use Rattle.pac_outside.specs.Disk.{DiskHistory, DiskState, IfKnown, settled}
use Rattle.pac_outside.specs.Parts.{OfLog, known_read, known_reads, reads_of, slots_of}
use Rattle.pac_outside.specs.GateByte.{OneImage}
use Rattle.pac_outside.proofs.Runs.{run_end, run_then, weaken_run}
use Rattle.pac_outside.specs.declared.devices.Devices.{Devices}
use Rattle.pac_outside.specs.declared.devices.LogName.{LogName}
use Rattle.pac_log.specs.declared.header.HeaderForm.TheVariants.{Later}
use Rattle.pac_log.specs.Logs.{header_bytes, header_with}
use Rattle.pac_log.specs.declared.position.NextGate.{NextGate}
use Rattle.pac_log.specs.Places.{LogEndsAt}
use Rattle.pac_log.specs.Torn.{LogEndsAtEither}
use Rattle.pac_check.specs.declared.state.SlotState.{SlotState}
use Rattle.pac_check.specs.SlotStates.{active_in, active_of, IsSlot, IsSlotFront}
use Rattle.pac_check.proofs.FrontLemmas.{front_of_slot}
use Rattle.pac_types.specs.declared.table.Table.{Table}
use Rattle.pac_types.specs.CatalogueText.{HasCatalogue}
use Rattle.pac_types.specs.Execution.{first_over}
use Rattle.pac_types.specs.Typing.{CatalogueState}
use Rattle.pac_store.specs.Images.{Images, IfImagesKnown}
use Rattle.pac_store.proofs.ImageLemmas.{images-any, images-then}
use Rattle.pac_store.specs.Stands.{StandsFor}
use Rattle.pac_store.specs.Stored.{active_among}
use Rattle.pac_store.proofs.StandsLemmas.{fewer}
use Rattle.pac_request.specs.declared.request.Request.{Request}
use Rattle.pac_request.specs.declared.request.Request.TheVariants as request
use Rattle.pac_request.specs.declared.request.Reply.{Reply}
use Rattle.pac_report.specs.Replies.{reply_text}
use Rattle.pac_session.specs.Groups.{LogSpot}
use Rattle.pac_session.specs.Session.{Rules, SessionState, committed, replies}
use Rattle.pac_session.specs.Open.{rules_of, state_now}
use Rattle.pac_restore.specs.declared.errors.RecoverError.{RecoverError}
use Rattle.pac_restore.specs.Restoring.{IsRecoveredFrom}
use Rattle.pac_engine.specs.declared.parts.EngineParts.{EngineParts}
use Rattle.pac_engine.specs.Standing.{HasDevices, KeepsHistory, MayLeave, StandsOn, StandsWith, durable_of, saved_of, spot_of}
use Rattle.pac_engine.proofs.DeviceLemmas.{log-each}
use Rattle.pac_run.specs.declared.stop.RunStop.{RunStop}
use Rattle.pac_run.specs.declared.stop.RunStop.TheVariants.{LogFull, Opening, TooLarge}
use Rattle.pac_run.specs.Asked.{WereHandled}
use Rattle.pac_run.specs.Opening.{AllStand, BeginsOver, IsFresh, IsOpenedFrom, StandsForPrefix}
use Rattle.pac_run.specs.Run.{AtExit, AtMoments, IsBegun, IsExit, IsRun, IsWholeRun, LogHas, LogHasEither, history_after}
use Rattle.pac_run.specs.Serving.{IsDone, Served}
use Rattle.pac_run.specs.Stopping.{AreFirst, EndsGroups, EndsUnsaved, HasWorked, IsStopped, IsStoppedAt, IsTorn, IsUnopened, OfActive, OfNewest, StopsOpening, StopsThere, closed_number, place_closed, place_unsaved}
use Rattle.pac_run.specs.Texts.{IsTextPrefix, texts}
use Rattle.pac_run.proofs.AckedLemmas.{acknowledged, known-saved}
use Rattle.pac_run.proofs.NameLemmas.{names-of}
use Rattle.pac_run.proofs.ServeLemmas.{took-nothing}

-- ---- a prefix of a prefix

pub prefix-longer : (out xs ys : List ℕ) → IsTextPrefix out xs → IsTextPrefix out (xs ++ ys)
prefix-longer out xs ys prefix =
    let split : xs ≡ out ++ drop prefix.count xs = sym (take-append-drop prefix.count xs) ∙ ap (λ (l : List ℕ). l ++ drop prefix.count xs) (sym prefix.is) in
    record {
      count = length out;
      is = sym (ap (λ (l : List ℕ). take (length out) (l ++ ys)) split ∙ ap (take (length out)) (append_assoc out (drop prefix.count xs) ys) ∙ take-append_seam out (drop prefix.count xs ++ ys));
    }

prefix-of-all : (catalogue : CatalogueState) (given all : List Reply) (out : List ℕ) → IsTextPrefix out (texts catalogue given) → AreFirst given all → IsTextPrefix out (texts catalogue all)
prefix-of-all catalogue given all out prefix firsts =
    subst (λ (l : List ℕ). IsTextPrefix out l) (sym (ap (texts catalogue) firsts.split ∙ flat_map-append (reply_text catalogue) given firsts.rest)) (prefix-longer out (texts catalogue given) (texts catalogue firsts.rest) prefix)

-- ---- a store that isn't opened

none-begun : (P : Images → Type 0) (error : RecoverError) (known : Devices (Option DiskHistory)) → IfImagesKnown (λ images. IsUnopened (Err (Opening error)) [] ⊎ P images) known
none-begun P error known = images-any (λ images. IsUnopened (Err (Opening error)) [] ⊎ P images) (λ images. inl ((error, refl), refl)) known

none-saved : (before rest : List Request) → [] ≡ before ++ request.Save ∷ rest → ⊥
none-saved [] rest e = absurd cc
none-saved (b ∷ bs) rest e = absurd cc

none-handled : (left : Option (List ℕ)) → WereHandled left [] [] left
none-handled None = tt
none-handled (Some text) = (text, refl, refl)

as-before : (P : Devices DiskHistory → Type 0) (R : Devices DiskHistory → Devices DiskHistory → Type 0) → ((u v : Devices DiskHistory) → RunsAsBefore u v → P u → R u v) → (x y : Option (Devices DiskHistory)) → OnceKnown RunsAsBefore x y → WhileKnown P R x y
as-before P R step None y runs = tt
as-before P R step (Some x) None runs = absurd runs
as-before P R step (Some x) (Some y) runs = λ is. step x y runs is

-- what is said of a segment leads to something else
of-log : (P Q : DiskState → Type 0) → ((state : DiskState) → P state → Q state) → (name : LogName) (known : Devices (Option DiskHistory)) → OfLog P name known → OfLog Q name known
of-log P Q step name known has = go (log_at name known) has
  where
    go : (log : Option DiskHistory) → IfKnown (λ history. P history.now) log → IfKnown (λ history. Q history.now) log
    go None has = tt
    go (Some l) has = step l.now has

of-active : (P Q : DiskState → Type 0) → ((state : DiskState) → P state → Q state) → (known : Devices (Option DiskHistory)) → OfActive P known → OfActive Q known
of-active P Q step known is = record { a = is.a; b = is.b; begins_a = is.begins_a; begins_b = is.begins_b; log = of-log P Q step (active_among is.a is.b) known is.log }

-- the engine's segment is the active one
begins-so : (tables : List Table) (state : SlotState) (device : Option DiskHistory) → IfKnown (λ h. OneImage (IsSlot tables state) h.now) device → IfKnown (λ h. OneImage (IsSlotFront state) h.now) device
begins-so tables state None is = tt
begins-so tables state (Some h) is = record { one = is.one; has = front_of_slot tables state h.now.seen is.has }

pub active-ends : {D : Type 0} (see : D → Option DiskHistory) (engine : EngineParts) (devices : Devices D) → HasDevices see engine devices → OfActive (LogEndsAt engine.log.gate) (each see devices)
active-ends see engine devices has = record {
  a = engine.slots.a;
  b = engine.slots.b;
  begins_a = begins-so engine.session.catalogue.tables engine.slots.a (see devices.slot_a) has.slot_a;
  begins_b = begins-so engine.session.catalogue.tables engine.slots.b (see devices.slot_b) has.slot_b;
  log = subst (λ (l : Option DiskHistory). IfKnown (λ h. LogEndsAt engine.log.gate h.now) l) (sym (log-each see (active_of engine.slots) devices)) has.log;
}

module _ (rules : Rules) (spot : LogSpot) (start : SessionState) where
  -- a segment that ends after groups has their transactions
  log-has : (requests : List Request) (gate : NextGate) (place : ℕ) → gate.txns ≡ closed_number rules start requests → gate.place ≡ place → (state : DiskState) → LogEndsAt gate state → LogHas rules start requests place state
  log-has requests gate place counted there state at = record { header = at.header; catalogue = gate.catalogue; batches = at.batches; log = at.holds; exactly = sym at.after.txns ∙ counted; there = sym at.after.place ∙ there }

  pub log-has-one : (requests : List Request) (gate : NextGate) → EndsGroups rules spot start requests gate → (known : Devices (Option DiskHistory)) → OfActive (LogEndsAt gate) known → OfActive (LogHas rules start requests (place_closed rules spot start requests)) known
  log-has-one requests gate after = of-active (LogEndsAt gate) (LogHas rules start requests (place_closed rules spot start requests)) (log-has requests gate (place_closed rules spot start requests) after.counted after.there)

  pub log-has-unsaved : (requests : List Request) (gate : NextGate) → EndsUnsaved rules spot start requests gate → (known : Devices (Option DiskHistory)) → OfActive (LogEndsAt gate) known → OfActive (LogHas rules start requests (place_unsaved rules spot start requests)) known
  log-has-unsaved requests gate after = of-active (LogEndsAt gate) (LogHas rules start requests (place_unsaved rules spot start requests)) (log-has requests gate (place_unsaved rules spot start requests) after.counted after.there)

  pub log-has-either : (before requests : List Request) (known : Devices (Option DiskHistory)) → IsTorn rules spot start before requests known → OfNewest (LogHasEither rules spot start before requests) known
  log-has-either before requests known torn = record {
    newest = torn.either.newest;
    stays = torn.either.stays;
    log = of-log (LogEndsAtEither torn.gate torn.next) (LogHasEither rules spot start before requests) (λ state either image is. one image (either image is)) (active_in torn.either.newest) known torn.either.log;
  }
    where
      one : (image : List ℕ) → LogEndsAt torn.gate (settled image) ⊎ LogEndsAt torn.next (settled image) → LogHas rules start before (place_closed rules spot start before) (settled image) ⊎ LogHas rules start requests (place_unsaved rules spot start requests) (settled image)
      one image (inl at) = inl (log-has before torn.gate (place_closed rules spot start before) torn.ended.counted torn.ended.there (settled image) at)
      one image (inr at) = inr (log-has requests torn.next (place_unsaved rules spot start requests) torn.ends.counted torn.ends.there (settled image) at)

-- what a read gives of the slots is as it was, where it is of all devices
pub slots-seen : (known known' : Devices (Option DiskHistory)) → known_reads known' ≡ known_reads known → slots_of (known_reads known') ≡ slots_of (known_reads known)
slots-seen known known' same = ap (λ (reads : Devices (Option (List ℕ))). slots_of reads) same

-- and where the slots were not called
slots-uncalled : (known known' : Devices (Option DiskHistory)) → slots_of known' ≡ slots_of known → slots_of (known_reads known') ≡ slots_of (known_reads known)
slots-uncalled known known' same = ap (λ (slots : Option DiskHistory × Option DiskHistory). (known_read slots.0, known_read slots.1)) same

module _ (batch limit : ℕ) (left held : Option (List ℕ)) (known known' : Devices (Option DiskHistory)) (faulted : Type 0) (error : RecoverError) (runs : IfAllKnown RunsAsBefore known known')
    (seen : known_reads known' ≡ known_reads known) where
  unopened : IsRun batch limit left left held held known known' faulted (Err (Opening error))
  unopened =
      let rules : Rules = record { catalogue = record { tables = []; procs = [] }; limit = limit; most = batch } in
      let start : SessionState = record { tables = empty; number = 0 } in
      record {
        lines = [];
        ahead = [];
        handled = none-handled left;
        few = λ other. record { bytes = []; gave = sym (prepend_known-nil left); few = omega arith };
        long = λ long. absurd cc;
        cut = λ cut. refl;
        no_further = λ input far memory. omega arith;
        rules = rules;
        requests = [];
        asked = inl refl;
        last = tt;
        out = [];
        took = took-nothing held;
        limited = refl;
        most = refl;
        start = start;
        spot = record { place = 0; reach = 0; next = 0 };
        begun = none-begun (IsBegun rules (record { place = 0; reach = 0; next = 0 }) start) error known;
        prefix = record { count = 0; is = refl };
        whole = tt;
        exit = λ text catalogue history least. as-before (AllStand text catalogue history least) (AtExit text catalogue history rules (record { place = 0; reach = 0; next = 0 }) start [] []) (λ u v run stands. inl (refl, λ images are. run_end (AreImages u) u v run images are)) _ _ runs;
        moments = λ text catalogue history least. as-before (AllStand text catalogue history least) (AtMoments text catalogue history least rules start [])
            (λ u v run stands. weaken_run (AreImages u) (λ images. AreImages u images ⊎ StandsFor text catalogue (history_after history rules start []) least images) (λ images are. inl are) u v run) _ _ runs;
        given = [];
        written = record { count = 0; is = refl };
        all = inl refl;
        fit = inl (record { before = []; rest = []; split = refl; replied = refl; fit = tt });
        saves = λ before rest same handled. absurd (none-saved before rest same);
        stopped = inl ((error, refl), refl, refl);
        exact = λ worked. absurd worked;
        large = λ bytes large. absurd cc;
        full = λ need full. absurd cc;
        torn = λ disk. absurd cc;
        slots = λ none. slots-seen known known' seen;
        still = λ none. seen;
        there = inl ((error, refl), refl);
      }

  pub not-opened : (stop : RunStop) → stop ≡ Opening error → IsRun batch limit left left held held known known' faulted (Err stop)
  not-opened stop is = subst (λ (s : RunStop). IsRun batch limit left left held held known known' faulted (Err s)) (sym is) unopened

-- ---- one that is

three-parts : (run : Result (Unit {0}) RunStop) (P Q : Type 0) (R : RunStop → Type 0) → MatchResult run (λ _. P) R → (P → Q) → OnOk run Q
three-parts (Ok x) P Q R is step = step is
three-parts (Err stop) P Q R is step = tt

stops-part : (run : Result (Unit {0}) RunStop) (P : Type 0) (R S : RunStop → Type 0) → MatchResult run (λ _. P) R → ((stop : RunStop) → R stop → S stop) → IfErr run S
stops-part (Ok x) P R S is step = tt
stops-part (Err stop) P R S is step = step stop is

module _ (batch limit : ℕ) (engine new : EngineParts) (left left' held held' : Option (List ℕ)) (known middle known' : Devices (Option DiskHistory)) (faulted : Type 0) (result : Result (Unit {0}) RunStop) (fresh : IsFresh batch limit engine)
    (within : first_over limit (length engine.session.catalogue.tables) engine.session.tables ≡ None) (opened : IfImagesKnown (IsOpenedFrom engine) known) (begins : IfAllKnown (BeginsOver engine) known middle) (runs : IfAllKnown RunsAsBefore known middle)
    (seen : known_reads middle ≡ known_reads known) (served : Served engine new left left' held held' middle known' faulted result) (ended : HasWorked result → OfActive (LogEndsAt new.log.gate) known') (large : (bytes : ℕ) → IsErrOf result (TooLarge bytes) → OfActive (LogEndsAt new.log.gate) known') (full : (need : ℕ) → IsErrOf result (LogFull need) → OfActive (LogEndsAt new.log.gate) known') where
  abbrev rules : Rules
  rules = rules_of engine.session

  abbrev start : SessionState
  start = state_now engine.session

  number-is : (state_now engine.session).number ≡ durable_of engine
  number-is = omega (arith, ap (λ (t : List Txn). length t) fresh.txns, fresh.before)

  begun-here : (images : Images) → IsOpenedFrom engine images → IsBegun (rules_of engine.session) (spot_of engine) (state_now engine.session) images
  begun-here images is = record {
    recovered = subst (λ (n : ℕ). IsRecoveredFrom engine.session.catalogue engine.session.tables n images) (sym number-is) is.recovered;
    a = engine.slots.a;
    b = engine.slots.b;
    is_a = is.is_a;
    is_b = is.is_b;
    header = engine.log.gate.header;
    batches = is.batches;
    log = is.log;
    there = is.after.place;
    reach = refl;
    next = ap (λ (n : ℕ). length (header_bytes (header_with (Later n) engine.log.gate.header.text))) (sym number-is);
    within = subst (λ (n : ℕ). first_over n (length engine.session.catalogue.tables) engine.session.tables ≡ None) (sym fresh.within) within;
  }

  begun-seen : IfImagesKnown (IsBegun (rules_of engine.session) (spot_of engine) (state_now engine.session)) known
  begun-seen = images-then (IsOpenedFrom engine) (IsBegun (rules_of engine.session) (spot_of engine) (state_now engine.session)) begun-here known opened

  begun-known : IfImagesKnown (λ images. IsUnopened result served.requests ⊎ IsBegun (rules_of engine.session) (spot_of engine) (state_now engine.session) images) known
  begun-known = images-then (IsOpenedFrom engine) (λ images. IsUnopened result served.requests ⊎ IsBegun (rules_of engine.session) (spot_of engine) (state_now engine.session) images) (λ images is. inr (begun-here images is)) known opened

  module _ (text : List ℕ) (catalogue : CatalogueState) (history : List Txn) (least : ℕ) where
    abbrev after : List Txn
    after = history_after history (rules_of engine.session) (state_now engine.session) served.requests

    abbrev kept-as : List Txn
    kept-as = take (durable_of engine) history ++ committed (rules_of engine.session) (state_now engine.session) served.requests

    same-history : take (durable_of engine) history ++ committed (rules_of engine.session) (state_now engine.session) served.requests ≡ history_after history (rules_of engine.session) (state_now engine.session) served.requests
    same-history = ap (λ (n : ℕ). take n history ++ committed rules start served.requests) (sym number-is)

    module _ (entry mid now : Devices DiskHistory) (begin : StandsForPrefix text catalogue history least engine mid) (names : HasCatalogue text engine.session.catalogue)
        (keeps : KeepsHistory text (take (durable_of engine) history ++ committed (rules_of engine.session) (state_now engine.session) served.requests) engine new mid now) where
      stands-then : (images : Images) → StandsWith text engine.session.catalogue (take (durable_of engine) history ++ committed (rules_of engine.session) (state_now engine.session) served.requests) (durable_of new) (saved_of new) images
          → StandsWith text catalogue (history_after history (rules_of engine.session) (state_now engine.session) served.requests) (durable_of new) (saved_of new) images
      stands-then images is = subst (λ (h : List Txn). StandsWith text catalogue h (durable_of new) (saved_of new) images) same-history (subst (λ (c : CatalogueState). StandsWith text c kept-as (durable_of new) (saved_of new) images) begin.same is)

      pub exits : IsExit text catalogue (history_after history (rules_of engine.session) (state_now engine.session) served.requests) (state_now engine.session).number served.out now
      exits = record {
        least = durable_of new;
        saved = saved_of new;
        more = omega (arith, number-is, served.grows.durable);
        acknowledged = acknowledged engine.session.catalogue (names-of text engine.session.catalogue names) new served.given served.out served.plain served.kept served.prefix;
        kept = known-saved engine.session.catalogue (names-of text engine.session.catalogue names) new served.given served.out served.plain served.kept served.prefix;
        stands = λ images are. stands-then images (keeps.end images are);
      }

      stands-one : (images : Images) → StandsWith text engine.session.catalogue (take (durable_of engine) history ++ committed (rules_of engine.session) (state_now engine.session) served.requests) (durable_of engine) (saved_of engine) images
          → StandsFor text catalogue (history_after history (rules_of engine.session) (state_now engine.session) served.requests) least images
      stands-one images is =
          let s = is.stands in
          let less : StandsFor text engine.session.catalogue kept-as least images = fewer text engine.session.catalogue kept-as (durable_of engine) least images begin.enough s in
          subst (λ (h : List Txn). StandsFor text catalogue h least images) same-history (subst (λ (c : CatalogueState). StandsFor text c kept-as least images) begin.same less)

      pub each-moment : RunsAsBefore entry mid → AtMoments text catalogue history least (rules_of engine.session) (state_now engine.session) served.requests entry now
      each-moment run =
          let P : Images → Type 0 = λ images. AreImages entry images ⊎ StandsFor text catalogue after least images in
          run_then P entry mid now (weaken_run (AreImages entry) P (λ images are. inl are) entry mid run)
          (weaken_run (MayLeave text engine.session.catalogue kept-as engine) P
          (λ images may. inr (stands-one images may)) mid now keeps.moments)

    -- what the engine stands for says the catalogue's text
    text-of : (h : List Txn) (devices : Devices DiskHistory) → StandsOn text h engine devices → HasCatalogue text engine.session.catalogue
    text-of h devices is = is.still.log.has.log.accepted.has

    exit-known : (t m n : Option (Devices DiskHistory)) → IfSome t (λ devices. IsBegun (rules_of engine.session) (spot_of engine) (state_now engine.session) (reads_of devices)) → OnceKnown (BeginsOver engine) t m → WhileKnown (StandsOn text (take (durable_of engine) history) engine) (KeepsHistory text (take (durable_of engine) history ++ committed (rules_of engine.session) (state_now engine.session) served.requests) engine new) m n
        → WhileKnown (AllStand text catalogue history least) (AtExit text catalogue history (rules_of engine.session) (spot_of engine) (state_now engine.session) served.requests served.out) t n
    exit-known None m n seen begin keep = tt
    exit-known (Some t) None n seen begin keep = absurd begin
    exit-known (Some t) (Some m) None seen begin keep = λ all. keep (begin text catalogue history least all).stands
    exit-known (Some t) (Some m) (Some n) seen begin keep = λ all. let prefix = begin text catalogue history least all in inr (seen, exits t m n prefix (text-of (take (durable_of engine) history) m prefix.stands) (keep prefix.stands))

    moments-known : (t m n : Option (Devices DiskHistory)) → OnceKnown (BeginsOver engine) t m → OnceKnown RunsAsBefore t m → WhileKnown (StandsOn text (take (durable_of engine) history) engine) (KeepsHistory text (take (durable_of engine) history ++ committed (rules_of engine.session) (state_now engine.session) served.requests) engine new) m n
        → WhileKnown (AllStand text catalogue history least) (AtMoments text catalogue history least (rules_of engine.session) (state_now engine.session) served.requests) t n
    moments-known None m n begin run keep = tt
    moments-known (Some t) None n begin run keep = absurd begin
    moments-known (Some t) (Some m) None begin run keep = λ all. keep (begin text catalogue history least all).stands
    moments-known (Some t) (Some m) (Some n) begin run keep = λ all. let prefix = begin text catalogue history least all in each-moment t m n prefix (text-of (take (durable_of engine) history) m prefix.stands) (keep prefix.stands) run

  then-there : (run : Result (Unit {0}) RunStop) → IfErr run (λ stop. StopsThere (rules_of engine.session) (spot_of engine) (state_now engine.session) served.requests served.given served.out stop)
      → IfErr run (λ stop. (StopsOpening stop × (served.requests ≡ [])) ⊎ StopsThere (rules_of engine.session) (spot_of engine) (state_now engine.session) served.requests served.given served.out stop)
  then-there (Ok done) is = tt
  then-there (Err stop) is = inr is

  pub is-run : IsRun batch limit left left' held held' known known' faulted result
  is-run = record {
    lines = served.lines;
    ahead = served.ahead;
    handled = served.handled;
    few = served.few;
    long = served.long;
    cut = served.cut;
    no_further = served.no_further;
    rules = rules;
    requests = served.requests;
    asked = served.asked;
    last = served.last;
    out = served.out;
    took = served.took;
    limited = fresh.within;
    most = fresh.most;
    start = start;
    spot = spot_of engine;
    begun = begun-known;
    prefix = prefix-of-all engine.session.catalogue served.given (replies rules start served.requests) served.out served.prefix served.firsts;
    whole = three-parts result (IsDone rules (spot_of engine) start served.requests served.given served.out) (IsWholeRun rules (spot_of engine) start served.requests served.out) (λ stop. IsStoppedAt rules (spot_of engine) start served.requests served.given stop) served.ending
        (λ done. record { before = done.before; stops = done.stops; written = done.written ∙ ap (texts engine.session.catalogue) done.replied; fit = done.fit });
    exit = λ text catalogue history least. exit-known text catalogue history least (all_known known) (all_known middle) (all_known known') begun-seen begins (served.keeps text (take (durable_of engine) history));
    moments = λ text catalogue history least. moments-known text catalogue history least (all_known known) (all_known middle) (all_known known') begins runs (served.keeps text (take (durable_of engine) history));
    given = served.given;
    written = served.prefix;
    all = served.whole;
    fit = served.fit;
    saves = served.saves;
    exact = λ worked. log-has-one rules (spot_of engine) start served.requests new.log.gate (served.durable worked) known' (ended worked);
    large = λ bytes is. log-has-unsaved rules (spot_of engine) start served.requests new.log.gate (served.large bytes is) known' (large bytes is);
    full = λ need is. let last = served.full need is in (last.0, last.1, last.2, log-has-one rules (spot_of engine) start last.0 new.log.gate last.3 known' (full need is));
    torn = λ is. let last = served.torn is in (last.0, last.1, last.2, log-has-either rules (spot_of engine) start last.0 served.requests known' last.3);
    slots = λ none. slots-uncalled middle known' (served.slots none) ∙ slots-seen known middle seen;
    still = λ none. ap (λ (devices : Devices (Option DiskHistory)). known_reads devices) (served.still none) ∙ seen;
    there = then-there result served.there;
    stopped = stops-part result (IsDone rules (spot_of engine) start served.requests served.given served.out) (λ stop. IsStoppedAt rules (spot_of engine) start served.requests served.given stop) (λ stop. IsStopped rules (spot_of engine) start served.requests served.given stop) served.ending (λ stop at. inr at);
  }
