-- Lines that are served one after another, up to an end.
use Rattle.std.proofs.Common.{◌≡◌, ◌∙◌, ◌⊎◌, inl, inr, ℕ, ◌+◌, ◌<◌, true, false, List, [], ◌∷◌, ◌++◌, length, take, Option, Some, None, Result, Ok, Err, refl, sym, ap, subst}
use Rattle.std.specs.Io.KnownBytes.{prepend_known}
use Rattle.std.specs.List.{AllByRecursion}
use Rattle.std.proofs.lemmas.List.{append-nil}
use Rattle.std.proofs.lemmas.List.Sums.{fold-append}
use Rattle.std.proofs.lemmas.Grind.{flat_map-append}
use Rattle.std.proofs.Math.Seq.{take-append-add, take-append_seam}
use Rattle.pac_outside.specs.Content.{Took}
use Rattle.pac_outside.proofs.ContentLemmas.{Took-append}
use Rattle.pac_outside.specs.Disk.{DiskHistory}
use Rattle.pac_outside.specs.declared.devices.Devices.{Devices}
use Rattle.pac_lines.specs.Lines.{HasNoFeed}
use Rattle.pac_lines.specs.Calls.{IsCall, KeepsLimit}
use Rattle.pac_lines.specs.Reading.{ReaderState}
use Rattle.pac_lines.specs.declared.limits.TheConstants.{MAX_READ}
use Rattle.pac_log.specs.declared.position.NextGate.{NextGate}
use Rattle.pac_types.specs.Typing.{CatalogueState}
use Rattle.pac_request.specs.declared.request.Request.{Request}
use Rattle.pac_request.specs.declared.request.Request.TheVariants as request
use Rattle.pac_request.specs.declared.request.Reply.{Reply}
use Rattle.pac_report.specs.Replies.{reply_text}
use Rattle.pac_session.specs.Session.{Rules, SessionState, ends, replies}
use Rattle.pac_check.specs.SlotStates.{newest_of}
use Rattle.pac_session.specs.Groups.{GroupCut, LogSpot, all_requests, cut, cut_on, cut_one, described}
use Rattle.pac_session.specs.Open.{rules_of, state_now}
use Rattle.pac_engine.specs.declared.parts.EngineParts.{EngineParts}
use Rattle.pac_engine.specs.Closing.{GroupFits, IsGateAfter, IsGateUnsaved, IsKept}
use Rattle.pac_engine.specs.Committing.{gate_past}
use Rattle.pac_engine.specs.Standing.{spot_of}
use Rattle.pac_engine.proofs.StepLemmas.{checkpoint-past}
use Rattle.pac_run.specs.declared.limits.TheConstants.{MAX_INPUT}
use Rattle.pac_run.specs.declared.stop.RunStop.{RunStop}
use Rattle.pac_run.specs.declared.stop.RunStop.TheVariants.{Opening, InputFault, OutputFault, DiskFault, NoMemory, LogFull, TooLong, TooLarge}
use Rattle.pac_run.specs.Asked.{WereAsked, IsOverLong, TookAtMost, WereHandled}
use Rattle.pac_run.specs.Serving.{Broke, KeepsGate, LineServed, Replied, Served, Serving, WasHandled}
use Rattle.pac_run.specs.Stopping.{EndsGroups, EndsUnsaved, HasWorked, IsStoppedAt, IsTorn, SaveFits, SavesFit, StepStops, closed_groups}
use Rattle.pac_run.specs.Texts.{IsTextPrefix, IsPlain, texts}
use Rattle.pac_run.proofs.ReadLemmas.{lines-ask, more-read}
use Rattle.pac_run.proofs.StepLemmas.{all-both, both-parts, cut-more, data-free, gate-more, gate-reached, goes-more, grown-then, keeps-more, kept-grows, never-none, save-room}
use Rattle.pac_run.proofs.StopLemmas.{all-fit, all-replied, never-stops, no-stop-both, stopped-first, stopped-fit, stopped-more, stopped-reading, stops-last, stops-there, there-reading}

-- ---- what was written

pub took-nothing : (held : Option (List ℕ)) → Took held [] held
took-nothing None = refl
took-nothing (Some bytes) = ap Some (sym (append-nil bytes))

texts-both : (catalogue : CatalogueState) (xs ys : List Reply) → texts catalogue (xs ++ ys) ≡ texts catalogue xs ++ texts catalogue ys
texts-both catalogue xs ys = flat_map-append (reply_text catalogue) xs ys

prefix-more : (catalogue : CatalogueState) (given more : List Reply) (out : List ℕ) → IsTextPrefix out (texts catalogue more) → IsTextPrefix (texts catalogue given ++ out) (texts catalogue (given ++ more))
prefix-more catalogue given more out prefix = record {
  count = length (texts catalogue given) + prefix.count;
  is = ap (λ (l : List ℕ). texts catalogue given ++ l) prefix.is ∙ sym (take-append-add (texts catalogue given) (texts catalogue more) prefix.count)
      ∙ ap (take (length (texts catalogue given) + prefix.count)) (sym (texts-both catalogue given more));
}

pub whole-prefix : (text : List ℕ) → IsTextPrefix text text
whole-prefix text = record { count = length text; is = sym (ap (take (length text)) (sym (append-nil text)) ∙ take-append_seam text []) }

whole-more : (catalogue : CatalogueState) (given more : List Reply) (out : List ℕ) (faulted : Type 0) → (out ≡ texts catalogue more) ⊎ faulted → (texts catalogue given ++ out ≡ texts catalogue (given ++ more)) ⊎ faulted
whole-more catalogue given more out faulted (inl is) = inl (ap (λ (l : List ℕ). texts catalogue given ++ l) is ∙ sym (texts-both catalogue given more))
whole-more catalogue given more out faulted (inr r) = inr r

-- a step isn't stopped by the length of the input
never-fails : (rules : Rules) (spot : LogSpot) (start : SessionState) (closed : List (List Request)) (more : List Reply) (stop : RunStop) → StepStops rules spot start closed more stop → stop ≡ InputFault → ⊥
never-fails rules spot start closed more stop stops is = subst (λ (s : RunStop). StepStops rules spot start closed more s) is stops

never-long : (rules : Rules) (spot : LogSpot) (start : SessionState) (closed : List (List Request)) (more : List Reply) (stop : RunStop) → StepStops rules spot start closed more stop → stop ≡ TooLong → ⊥
never-long rules spot start closed more stop stops is = subst (λ (s : RunStop). StepStops rules spot start closed more s) is stops

-- each closed group is in the log, and the last request was handled to its end, where a step was the last: the output failed
worked-stop : (stop : RunStop) → HasWorked {A = Unit {0}} (Err stop) → (stop ≡ InputFault → ⊥) → (stop ≡ TooLong → ⊥) → stop ≡ OutputFault
worked-stop OutputFault worked input long = refl
worked-stop InputFault worked input long = absurd (input refl)
worked-stop TooLong worked input long = absurd (long refl)
worked-stop (Opening error) worked input long = absurd worked
worked-stop DiskFault worked input long = absurd worked
worked-stop NoMemory worked input long = absurd worked
worked-stop (LogFull need) worked input long = absurd worked
worked-stop (TooLarge bytes) worked input long = absurd worked

-- no line that isn't read stops a run by a full log
reads-on : (stop : RunStop) → (stop ≡ InputFault) ⊎ ((stop ≡ TooLong) ⊎ (stop ≡ NoMemory)) → (need : ℕ) → ◌≡◌ {A = Result (Unit {0}) RunStop} (Err stop) (Err (LogFull need)) → ⊥
reads-on stop (inl is) need same = let e : stop ≡ LogFull need = cc in let no : InputFault ≡ LogFull need = sym is ∙ e in absurd cc
reads-on stop (inr (inl is)) need same = let e : stop ≡ LogFull need = cc in let no : TooLong ≡ LogFull need = sym is ∙ e in absurd cc
reads-on stop (inr (inr is)) need same = let e : stop ≡ LogFull need = cc in let no : NoMemory ≡ LogFull need = sym is ∙ e in absurd cc

-- nor by a checkpoint
reads-large : (stop : RunStop) → (stop ≡ InputFault) ⊎ ((stop ≡ TooLong) ⊎ (stop ≡ NoMemory)) → (bytes : ℕ) → ◌≡◌ {A = Result (Unit {0}) RunStop} (Err stop) (Err (TooLarge bytes)) → ⊥
reads-large stop (inl is) bytes same = let e : stop ≡ TooLarge bytes = cc in let no : InputFault ≡ TooLarge bytes = sym is ∙ e in absurd cc
reads-large stop (inr (inl is)) bytes same = let e : stop ≡ TooLarge bytes = cc in let no : TooLong ≡ TooLarge bytes = sym is ∙ e in absurd cc
reads-large stop (inr (inr is)) bytes same = let e : stop ≡ TooLarge bytes = cc in let no : NoMemory ≡ TooLarge bytes = sym is ∙ e in absurd cc

-- nor by a device
reads-disk : (stop : RunStop) → (stop ≡ InputFault) ⊎ ((stop ≡ TooLong) ⊎ (stop ≡ NoMemory)) → ◌≡◌ {A = Result (Unit {0}) RunStop} (Err stop) (Err DiskFault) → ⊥
reads-disk stop (inl is) same = let e : stop ≡ DiskFault = cc in let no : InputFault ≡ DiskFault = sym is ∙ e in absurd cc
reads-disk stop (inr (inl is)) same = let e : stop ≡ DiskFault = cc in let no : TooLong ≡ DiskFault = sym is ∙ e in absurd cc
reads-disk stop (inr (inr is)) same = let e : stop ≡ DiskFault = cc in let no : NoMemory ≡ DiskFault = sym is ∙ e in absurd cc

-- they are the ways in which a read stops it
reads-stop : (stop : RunStop) → (stop ≡ InputFault) ⊎ ((stop ≡ TooLong) ⊎ (stop ≡ NoMemory)) → (◌≡◌ {A = Result (Unit {0}) RunStop} (Err stop) (Err InputFault) → ⊥) → (◌≡◌ {A = Result (Unit {0}) RunStop} (Err stop) (Err TooLong) → ⊥)
    → (◌≡◌ {A = Result (Unit {0}) RunStop} (Err stop) (Err NoMemory) → ⊥) → ⊥
reads-stop stop (inl is) input long memory = input (ap (λ (s : RunStop). Err s) is)
reads-stop stop (inr (inl is)) input long memory = long (ap (λ (s : RunStop). Err s) is)
reads-stop stop (inr (inr is)) input long memory = memory (ap (λ (s : RunStop). Err s) is)

-- ---- an end

module _ (first now : EngineParts) (left mid : Option (List ℕ)) (reader : ReaderState) (held held' : Option (List ℕ)) (known known' : Devices (Option DiskHistory)) (serving : Serving first now left mid reader held held' known known') where
  abbrev rules : Rules
  rules = rules_of first.session

  abbrev start : SessionState
  start = state_now first.session

  abbrev spot : LogSpot
  spot = spot_of first

  abbrev catalogue : CatalogueState
  catalogue = first.session.catalogue

  -- no more was served
  module _ (left' : Option (List ℕ)) (faulted : Type 0) (stop : RunStop) (ahead : List ℕ) (handled : WereHandled left serving.lines ahead left')
      (few : (stop ≡ TooLong → ⊥) → TookAtMost MAX_INPUT left left') (long : stop ≡ TooLong → IsOverLong ahead left left') (none : stop ≡ InputFault → HasNoFeed ahead) where
    same-stop : ◌≡◌ {A = Result (Unit {0}) RunStop} (Err stop) (Err TooLong) → stop ≡ TooLong
    same-stop e = cc

    same-fault : ◌≡◌ {A = Result (Unit {0}) RunStop} (Err stop) (Err InputFault) → stop ≡ InputFault
    same-fault e = cc

    pub still-served : (stop ≡ InputFault) ⊎ ((stop ≡ TooLong) ⊎ (stop ≡ NoMemory)) → Served first now left left' held held' known known' faulted (Err stop)
    still-served why =
        let stopped = stopped-reading first now serving.requests serving.given known known' serving.goes stop why serving.unstopped in
        record {
          lines = serving.lines;
          ahead = ahead;
          handled = handled;
          few = λ other. few (λ is. other (ap (λ (s : RunStop). Err s) is));
          long = λ is. long (same-stop is);
          cut = λ is. none (same-fault is);
          no_further = λ input far memory. absurd (reads-stop stop why input far memory);
          requests = serving.requests;
          asked = inl serving.asked;
          last = never-stops serving.requests serving.unstopped;
          given = serving.given;
          out = texts catalogue serving.given;
          took = serving.took;
          prefix = whole-prefix (texts catalogue serving.given);
          whole = inl refl;
          keeps = serving.goes.keeps;
          grows = serving.goes.grows;
          kept = serving.goes.kept;
          plain = serving.goes.plain;
          firsts = stopped-first rules spot start serving.requests serving.given stop stopped;
          ending = stopped;
          durable = λ worked. gate-reached first now serving.requests serving.given known known' serving.goes;
          large = λ bytes is. absurd (reads-large stop why bytes is);
          full = λ need is. absurd (reads-on stop why need is);
          torn = λ is. absurd (reads-disk stop why is);
          slots = serving.goes.slots;
          still = serving.goes.still;
          fit = all-fit (closed_groups rules spot start serving.requests) serving.given serving.goes.closes.replied serving.goes.closes.fit;
          saves = λ before rest same handled. serving.goes.saves before rest same;
          there = there-reading first now serving.requests serving.given known known' serving.goes stop why;
        }

  -- a request was not answered
  module _ (left' held'' : Option (List ℕ)) (known'' : Devices (Option DiskHistory)) (new : EngineParts) (asks : Request) (faulted faulted' : Type 0) (stop : RunStop) (lines : List (List ℕ)) (ahead : List ℕ)
      (handled : WereHandled left lines ahead left') (few : TookAtMost MAX_INPUT left left') (short : length ahead < MAX_READ) (asked : WereAsked first.session.catalogue lines (prepend_known ahead left') (serving.requests ++ asks ∷ [])) (later : faulted' → faulted)
      (broke : Broke first.session.catalogue asks now new held' held'' known' known'' faulted' stop) where
    abbrev whole : GroupCut
    whole = cut (rules_of first.session) (state_now first.session) serving.requests

    abbrev middle : SessionState
    middle = ends (rules_of first.session) (state_now first.session) (all_requests (cut (rules_of first.session) (state_now first.session) serving.requests).closed)

    stopped : IsStoppedAt (rules_of first.session) (spot_of first) (state_now first.session) (serving.requests ++ asks ∷ []) (serving.given ++ broke.more) stop
    stopped = stopped-more first now serving.requests serving.given known known' serving.goes asks broke.more stop broke.stops

    same-too : ◌≡◌ {A = Result (Unit {0}) RunStop} (Err stop) (Err TooLong) → stop ≡ TooLong
    same-too e = cc

    same-input : ◌≡◌ {A = Result (Unit {0}) RunStop} (Err stop) (Err InputFault) → stop ≡ InputFault
    same-input e = cc

    pub broke-served : Served first new left left' held held'' known known'' faulted (Err stop)
    broke-served = record {
      lines = lines;
      ahead = ahead;
      handled = handled;
      few = λ other. few;
      long = λ is. absurd (never-long (rules_of now.session) (spot_of now) middle (cut_one (rules_of now.session) middle whole.rest asks).closed broke.more stop (broke.stops middle whole.rest serving.goes.closes.within) (same-too is));
      cut = λ is. absurd (never-fails (rules_of now.session) (spot_of now) middle (cut_one (rules_of now.session) middle whole.rest asks).closed broke.more stop (broke.stops middle whole.rest serving.goes.closes.within) (same-input is));
      no_further = λ input far memory. short;
      requests = serving.requests ++ asks ∷ [];
      asked = asked;
      last = stops-last serving.requests asks serving.unstopped;
      given = serving.given ++ broke.more;
      out = texts catalogue serving.given ++ broke.out;
      took = Took-append held held' held'' (texts catalogue serving.given) broke.out serving.took broke.took;
      prefix = prefix-more catalogue serving.given broke.more broke.out broke.prefix;
      whole = whole-more catalogue serving.given broke.more broke.out faulted (risen broke.whole);
      keeps = keeps-more first now serving.requests serving.given known known' serving.goes new known'' (asks ∷ []) broke.keeps;
      grows = grown-then first now new serving.goes.grows broke.grows;
      kept = all-both (IsKept new) serving.given broke.more (kept-grows now new broke.grows serving.given serving.goes.kept) broke.kept;
      plain = all-both IsPlain serving.given broke.more serving.goes.plain broke.plain;
      firsts = stopped-first rules spot start (serving.requests ++ asks ∷ []) (serving.given ++ broke.more) stop stopped;
      ending = stopped;
      durable = λ worked. durable-at (worked-stop stop worked (λ is. at is) (λ is. long-at is));
      large = λ bytes is. durable-large bytes (same-large bytes is);
      full = λ need is. (serving.requests, asks, refl, durable-before need (same-full need is));
      torn = λ is. (serving.requests, asks, refl, torn-here (same-disk is));
      slots = λ none. let parts = both-parts (λ r. r ≡ request.Save → ⊥) serving.requests (asks ∷ []) none in broke.slots parts.1.0 ∙ serving.goes.slots parts.0;
      still = λ none. absurd (never-none serving.requests asks none);
      fit = stopped-fit rules spot start (serving.requests ++ asks ∷ []) (serving.given ++ broke.more) stop stopped at long-at fit-at;
      saves = saves-fit;
      there = stops-there first now serving.requests serving.given known known' serving.goes asks broke.more stop broke.stops broke.out;
    }
      where
        risen : (broke.out ≡ texts catalogue broke.more) ⊎ faulted' → (broke.out ≡ texts catalogue broke.more) ⊎ faulted
        risen (inl is) = inl is
        risen (inr r) = inr (later r)

        at : stop ≡ InputFault → ⊥
        at = never-fails (rules_of now.session) (spot_of now) middle (cut_one (rules_of now.session) middle whole.rest asks).closed broke.more stop (broke.stops middle whole.rest serving.goes.closes.within)

        long-at : stop ≡ TooLong → ⊥
        long-at = never-long (rules_of now.session) (spot_of now) middle (cut_one (rules_of now.session) middle whole.rest asks).closed broke.more stop (broke.stops middle whole.rest serving.goes.closes.within)

        same-full : (need : ℕ) → ◌≡◌ {A = Result (Unit {0}) RunStop} (Err stop) (Err (LogFull need)) → stop ≡ LogFull need
        same-full need e = cc

        same-large : (bytes : ℕ) → ◌≡◌ {A = Result (Unit {0}) RunStop} (Err stop) (Err (TooLarge bytes)) → stop ≡ TooLarge bytes
        same-large bytes e = cc

        same-disk : ◌≡◌ {A = Result (Unit {0}) RunStop} (Err stop) (Err DiskFault) → stop ≡ DiskFault
        same-disk e = cc

        -- of a full log: its gate stands where it stood before the last request
        durable-before : (need : ℕ) → stop ≡ LogFull need → EndsGroups (rules_of first.session) (spot_of first) (state_now first.session) serving.requests new.log.gate
        durable-before need is =
            let stays : new.log.gate ≡ now.log.gate = subst (λ (s : RunStop). KeepsGate asks now new s) is broke.room in
            subst (λ (gate : NextGate). EndsGroups rules spot start serving.requests gate) (sym stays) (gate-reached first now serving.requests serving.given known known' serving.goes)

        durable-large : (bytes : ℕ) → stop ≡ TooLarge bytes → EndsUnsaved (rules_of first.session) (spot_of first) (state_now first.session) (serving.requests ++ asks ∷ []) new.log.gate
        durable-large bytes is =
            let stays : (asks ≡ request.Save) × (new.log.gate ≡ gate_past now.session.txns now.log.gate) = subst (λ (s : RunStop). KeepsGate asks now new s) is broke.room in
            let past = gate_past now.session.txns now.log.gate in
            subst (λ (gate : NextGate). EndsUnsaved rules spot start (serving.requests ++ asks ∷ []) gate) (sym stays.1)
            (gate-more first now serving.requests serving.given known known' serving.goes asks past
            (subst (λ (r : Request). IsGateUnsaved (rules_of now.session) (spot_of now) middle (cut_one (rules_of now.session) middle whole.rest r).closed past) (sym stays.0) (checkpoint-past now serving.goes.durable middle whole.rest serving.goes.closes.within)))

        durable-at : stop ≡ OutputFault → EndsGroups (rules_of first.session) (spot_of first) (state_now first.session) (serving.requests ++ asks ∷ []) new.log.gate
        durable-at out =
            let handled = broke.handled out in
            let closes = handled.closes rules spot start whole serving.given serving.goes.closes in
            let after : IsGateAfter rules spot start (cut_on rules start whole asks).closed new.log.gate = record { counted = handled.durable ∙ sym closes.within.begun; there = ap (λ (s : LogSpot). s.place) closes.there } in
            subst (λ (c : GroupCut). IsGateAfter rules spot start c.closed new.log.gate) (sym (cut-more first now serving.requests serving.given known known' serving.goes (asks ∷ []))) after

        fit-at : stop ≡ OutputFault → AllByRecursion GroupFits (closed_groups (rules_of first.session) (spot_of first) (state_now first.session) (serving.requests ++ asks ∷ []))
        fit-at out = subst (λ (c : GroupCut). AllByRecursion GroupFits (described rules spot start c.closed)) (sym (cut-more first now serving.requests serving.given known known' serving.goes (asks ∷ [])))
            ((broke.handled out).closes rules spot start whole serving.given serving.goes.closes).fit

        save-at : stop ≡ OutputFault → asks ≡ request.Save → SaveFits (rules_of first.session) (spot_of first) (state_now first.session) serving.requests
        save-at out is =
            let handled : WasHandled request.Save broke.more now new = subst (λ (r : Request). WasHandled r broke.more now new) is (broke.handled out) in
            save-room first now serving.requests serving.given known known' serving.goes (handled.saves refl)

        saves-fit : SavesFit {A = Unit {0}} (rules_of first.session) (spot_of first) (state_now first.session) (serving.requests ++ asks ∷ []) (Err stop)
        saves-fit before rest same handled = by (data-free serving.requests before rest asks request.Save same)
          where
            by : ((before ≡ serving.requests) × (asks ≡ request.Save) × (rest ≡ [])) ⊎ ((others : List Request) × (serving.requests ≡ before ++ request.Save ∷ others)) → SaveFits rules spot start before
            by (inl here) = subst (λ (l : List Request). SaveFits rules spot start l) (sym here.0) (save-at (worked-stop stop (handled here.2) at long-at) here.1)
            by (inr earlier) = serving.goes.saves before earlier.0 earlier.1

        -- of a device that failed: the log ends where it ended, or after the group that the last request closes
        torn-here : stop ≡ DiskFault → IsTorn (rules_of first.session) (spot_of first) (state_now first.session) serving.requests (serving.requests ++ asks ∷ []) known''
        torn-here is =
            let torn = broke.torn is middle whole.rest serving.goes.closes.within in
            record {
              gate = now.log.gate;
              next = torn.next;
              ended = gate-reached first now serving.requests serving.given known known' serving.goes;
              ends = gate-more first now serving.requests serving.given known known' serving.goes asks torn.next torn.after;
              either = record { newest = newest_of now.slots; stays = broke.newest; log = torn.either };
            }

  -- a stop was answered
  pub stop-served : (left' held'' : Option (List ℕ)) (known'' : Devices (Option DiskHistory)) (new : EngineParts) (faulted : Type 0) (lines : List (List ℕ)) (ahead : List ℕ) → WereHandled left lines ahead left' → TookAtMost MAX_INPUT left left' → length ahead < MAX_READ
      → WereAsked first.session.catalogue lines (prepend_known ahead left') (serving.requests ++ request.Stop ∷ []) → Replied first.session.catalogue (request.Stop ∷ []) now new held' held'' known' known''
      → Served first new left left' held held'' known known'' faulted (Ok tt)
  stop-served left' held'' known'' new faulted lines ahead handled few short asked replied =
      let goes = goes-more first now serving.requests serving.given known known' serving.goes new known'' (request.Stop ∷ []) replied.more replied.answered in
      let requests = serving.requests ++ request.Stop ∷ [] in
      let given = serving.given ++ replied.more in
      let out = texts catalogue serving.given ++ texts catalogue replied.more in
      let written : out ≡ texts catalogue given = sym (texts-both catalogue serving.given replied.more) in
      let answers : given ≡ replies rules start requests = all-replied rules spot start serving.requests given new goes.closes (stop-closes rules start serving.requests) in
      record {
        lines = lines;
        ahead = ahead;
        handled = handled;
        few = λ other. few;
        long = λ is. absurd (no-err is);
        cut = λ is. absurd (no-input is);
        no_further = λ input far memory. short;
        requests = requests;
        asked = asked;
        last = stops-last serving.requests request.Stop serving.unstopped;
        given = given;
        out = out;
        took = Took-append held held' held'' (texts catalogue serving.given) (texts catalogue replied.more) serving.took replied.took;
        prefix = subst (λ (l : List ℕ). IsTextPrefix l (texts catalogue given)) (sym written) (whole-prefix (texts catalogue given));
        whole = inl written;
        keeps = goes.keeps;
        grows = goes.grows;
        kept = goes.kept;
        plain = goes.plain;
        firsts = record { rest = []; split = sym answers ∙ sym (append-nil given) };
        ending = record { before = serving.requests; stops = refl; replied = answers; written = written; fit = goes.closes.fit };
        durable = λ worked. gate-reached first new requests given known known'' goes;
        large = λ bytes is. absurd (no-large bytes is);
        full = λ need is. absurd (no-full need is);
        torn = λ is. absurd (no-disk is);
        slots = goes.slots;
        still = goes.still;
        fit = all-fit (closed_groups rules spot start requests) given goes.closes.replied goes.closes.fit;
        saves = λ before rest same handled. goes.saves before rest same;
        there = tt;
      }
    where
      no-err : ◌≡◌ {A = Result (Unit {0}) RunStop} (Ok tt) (Err TooLong) → ⊥
      no-err e = cc

      no-full : (need : ℕ) → ◌≡◌ {A = Result (Unit {0}) RunStop} (Ok tt) (Err (LogFull need)) → ⊥
      no-full need e = cc

      no-large : (bytes : ℕ) → ◌≡◌ {A = Result (Unit {0}) RunStop} (Ok tt) (Err (TooLarge bytes)) → ⊥
      no-large bytes e = cc

      no-input : ◌≡◌ {A = Result (Unit {0}) RunStop} (Ok tt) (Err InputFault) → ⊥
      no-input e = cc

      no-disk : ◌≡◌ {A = Result (Unit {0}) RunStop} (Ok tt) (Err DiskFault) → ⊥
      no-disk e = cc

      stop-closes : (rules : Rules) (start : SessionState) (before : List Request) → (cut rules start (before ++ request.Stop ∷ [])).rest ≡ []
      stop-closes rules start before = ap (λ (c : GroupCut). c.rest) (fold-append (cut_on rules start) (record { closed = []; rest = [] }) before (request.Stop ∷ []))

  -- a line was served, and is no stop
  pub serving-more : (left' held'' : Option (List ℕ)) (known'' : Devices (Option DiskHistory)) (next : ReaderState) (new : EngineParts) → IsCall reader next mid left' (Ok true) → KeepsLimit next (Ok true)
      → LineServed first.session.catalogue next.line false now new held' held'' known' known'' → Serving first new left left' next held held'' known known''
  serving-more left' held'' known'' next new call keeps served = record {
    lines = serving.lines ++ next.line ∷ [];
    read = more-read left mid left' reader next serving.lines serving.read call keeps;
    requests = serving.requests ++ served.asked;
    asked = lines-ask catalogue serving.lines next.line serving.requests served.asked serving.asked served.asks;
    unstopped = no-stop-both serving.requests served.asked serving.unstopped served.stop;
    given = serving.given ++ served.replied.more;
    took = subst (λ (l : List ℕ). Took held l held'') (sym (texts-both catalogue serving.given served.replied.more)) (Took-append held held' held'' (texts catalogue serving.given) (texts catalogue served.replied.more) serving.took served.replied.took);
    goes = goes-more first now serving.requests serving.given known known' serving.goes new known'' served.asked served.replied.more served.replied.answered;
  }
