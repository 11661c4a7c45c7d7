-- Where a run stops, and which replies it was to write.
use Rattle.std.proofs.Common.{◌≡◌, ◌∙◌, ◌⊎◌, inl, inr, ℕ, List, [], ◌∷◌, ◌++◌, Option, refl, sym, ap, ap₂, subst, append_assoc}
use Rattle.std.specs.List.{AllByRecursion}
use Rattle.std.proofs.lemmas.List.{append-nil}
use Rattle.pac_outside.specs.Disk.{DiskHistory}
use Rattle.pac_outside.specs.declared.devices.Devices.{Devices}
use Rattle.pac_request.specs.declared.request.Request.{Request}
use Rattle.pac_request.specs.declared.request.Request.TheVariants as request
use Rattle.pac_request.specs.declared.request.Reply.{Reply}
use Rattle.pac_request.specs.declared.request.Reply.TheVariants as reply
use Rattle.pac_session.specs.Session.{Rules, SessionState, ends, replies}
use Rattle.pac_session.specs.Groups.{spot_after, Group, LogSpot, GroupCut, all_replies, all_requests, cut, cut_one, described}
use Rattle.pac_session.specs.Open.{IsInGroup, rules_of, state_now}
use Rattle.pac_session.proofs.SessionLemmas.{replies-append}
use Rattle.pac_session.proofs.CutLemmas.{joined-append, whole-cut, described-replies}
use Rattle.pac_engine.specs.declared.fault.EngineCause.{EngineCause}
use Rattle.pac_engine.specs.declared.fault.EngineCause.TheVariants as cause
use Rattle.pac_engine.specs.declared.parts.EngineParts.{EngineParts}
use Rattle.pac_engine.specs.Standing.{spot_of}
use Rattle.pac_engine.specs.Closing.{Closes, GivesFitting, GroupFits, IsUnsaved, StopsAt}
use Rattle.pac_engine.proofs.LawLemmas.{stops-then}
use Rattle.pac_run.specs.Asked.{NoStop, StopsLast}
use Rattle.pac_run.specs.Causes.{stop_of_engine}
use Rattle.pac_run.specs.Serving.{GoesFrom}
use Rattle.pac_run.specs.Stopping.{AreFirst, IsStoppedAt, StepStops, StopsInLast, StopsThere, closed_groups}
use Rattle.pac_run.specs.Texts.{texts}
use Rattle.pac_run.specs.declared.stop.RunStop.{RunStop}
use Rattle.pac_run.specs.declared.stop.RunStop.TheVariants.{Opening, InputFault, OutputFault, DiskFault, NoMemory, LogFull, TooLong, TooLarge}
use Rattle.pac_run.proofs.StepLemmas.{cut-more}

-- ---- the replies are the first of the session

replies-both : (xs ys : List Group) → all_replies (xs ++ ys) ≡ all_replies xs ++ all_replies ys
replies-both [] ys = refl
replies-both (x ∷ xs) ys = ap (λ (l : List Reply). x.replies ++ l) (replies-both xs ys) ∙ sym (append_assoc x.replies (all_replies xs) (all_replies ys))

-- those of the groups that were closed are the first
groups-first : (rules : Rules) (spot : LogSpot) (start : SessionState) (requests : List Request) (given : List Reply) → AreFirst given (all_replies (closed_groups rules spot start requests)) → AreFirst given (replies rules start requests)
groups-first rules spot start requests given is =
    let whole = cut rules start requests in
    let tail = replies rules (ends rules start (all_requests whole.closed)) whole.rest in
    record {
      rest = is.rest ++ tail;
      split = ap (replies rules start) (sym (whole-cut rules start requests)) ∙ replies-append rules start (all_requests whole.closed) whole.rest
          ∙ ap (λ (l : List Reply). l ++ tail) (sym (described-replies rules spot start whole.closed) ∙ is.split) ∙ append_assoc given is.rest tail;
    }

all-first : (given all : List Reply) → given ≡ all → AreFirst given all
all-first given all is = record { rest = []; split = sym is ∙ sym (append-nil given) }

some-first : (groups before rest : List Group) (given : List Reply) → groups ≡ before ++ rest → given ≡ all_replies before → AreFirst given (all_replies groups)
some-first groups before rest given split replied =
    record { rest = all_replies rest; split = ap (λ (g : List Group). all_replies g) split ∙ replies-both before rest ∙ ap (λ (l : List Reply). l ++ all_replies rest) (sym replied) }

unsaved-first : (groups : List Group) (given : List Reply) → IsUnsaved groups given → AreFirst given (all_replies groups)
unsaved-first groups given is = record {
  rest = reply.Saved is.number ∷ [];
  split = ap (λ (g : List Group). all_replies g) is.split ∙ replies-both is.before (is.group ∷ []) ∙ ap (λ (l : List Reply). all_replies is.before ++ l) (append-nil is.group.replies ∙ is.answers)
      ∙ sym (append_assoc (all_replies is.before) is.held (reply.Saved is.number ∷ [])) ∙ ap (λ (l : List Reply). l ++ reply.Saved is.number ∷ []) (sym is.replied);
}

stops-first : (rules : Rules) (spot : LogSpot) (start : SessionState) (closed : List (List Request)) (given : List Reply) (why : EngineCause) → StopsAt rules spot start closed given why → AreFirst given (all_replies (described rules spot start closed))
stops-first rules spot start closed given cause.DiskFault (inl is) = some-first (described rules spot start closed) is.before (is.group ∷ is.rest) given is.split is.replied
stops-first rules spot start closed given cause.DiskFault (inr is) = unsaved-first (described rules spot start closed) given is.unsaved
stops-first rules spot start closed given (cause.LogFull need) is = some-first (described rules spot start closed) is.before (is.group ∷ is.rest) given is.split is.replied
stops-first rules spot start closed given (cause.TooLarge bytes) is = unsaved-first (described rules spot start closed) given is.unwritten.unsaved
stops-first rules spot start closed given cause.Ended is = absurd is
stops-first rules spot start closed given cause.NoMemory (inl is) = some-first (described rules spot start closed) is.before is.rest given is.split is.replied
stops-first rules spot start closed given cause.NoMemory (inr is) = unsaved-first (described rules spot start closed) given is

pub stopped-first : (rules : Rules) (spot : LogSpot) (start : SessionState) (requests : List Request) (given : List Reply) (stop : RunStop) → IsStoppedAt rules spot start requests given stop → AreFirst given (replies rules start requests)
stopped-first rules spot start requests given (Opening error) is = absurd is
stopped-first rules spot start requests given InputFault is = groups-first rules spot start requests given (all-first given _ is.0)
stopped-first rules spot start requests given TooLong is = groups-first rules spot start requests given (all-first given _ is.0)
stopped-first rules spot start requests given OutputFault is = groups-first rules spot start requests given (all-first given _ is)
stopped-first rules spot start requests given DiskFault is = groups-first rules spot start requests given (stops-first rules spot start _ given cause.DiskFault is)
stopped-first rules spot start requests given NoMemory is = groups-first rules spot start requests given (stops-first rules spot start _ given cause.NoMemory is)
stopped-first rules spot start requests given (LogFull need) is = groups-first rules spot start requests given (stops-first rules spot start _ given (cause.LogFull need) is)
stopped-first rules spot start requests given (TooLarge bytes) is = groups-first rules spot start requests given (stops-first rules spot start _ given (cause.TooLarge bytes) is)

-- ---- the groups whose replies they are fit the log

-- all of these groups fit
pub all-fit : (groups : List Group) (given : List Reply) → given ≡ all_replies groups → AllByRecursion GroupFits groups → GivesFitting groups given
all-fit groups given replied fit = inl (record { before = groups; rest = []; split = sym (append-nil groups); replied = replied; fit = fit })

stops-fit : (rules : Rules) (spot : LogSpot) (start : SessionState) (closed : List (List Request)) (given : List Reply) (why : EngineCause) → StopsAt rules spot start closed given why → GivesFitting (described rules spot start closed) given
stops-fit rules spot start closed given cause.DiskFault (inl is) = inl (record { before = is.before; rest = is.group ∷ is.rest; split = is.split; replied = is.replied; fit = is.fit })
stops-fit rules spot start closed given cause.DiskFault (inr is) = inr is.unsaved
stops-fit rules spot start closed given (cause.LogFull need) is = inl (record { before = is.before; rest = is.group ∷ is.rest; split = is.split; replied = is.replied; fit = is.fit })
stops-fit rules spot start closed given (cause.TooLarge bytes) is = inr is.unwritten.unsaved
stops-fit rules spot start closed given cause.Ended is = absurd is
stops-fit rules spot start closed given cause.NoMemory is = is

-- where the run stopped in a step, those of the step too; where the output failed, all groups that were closed fit
pub stopped-fit : (rules : Rules) (spot : LogSpot) (start : SessionState) (requests : List Request) (given : List Reply) (stop : RunStop) → IsStoppedAt rules spot start requests given stop → (stop ≡ InputFault → ⊥) → (stop ≡ TooLong → ⊥)
    → (stop ≡ OutputFault → AllByRecursion GroupFits (closed_groups rules spot start requests)) → GivesFitting (closed_groups rules spot start requests) given
stopped-fit rules spot start requests given (Opening error) is input long fit = absurd is
stopped-fit rules spot start requests given InputFault is input long fit = absurd (input refl)
stopped-fit rules spot start requests given TooLong is input long fit = absurd (long refl)
stopped-fit rules spot start requests given OutputFault is input long fit = all-fit (closed_groups rules spot start requests) given is (fit refl)
stopped-fit rules spot start requests given DiskFault is input long fit = stops-fit rules spot start _ given cause.DiskFault is
stopped-fit rules spot start requests given NoMemory is input long fit = stops-fit rules spot start _ given cause.NoMemory is
stopped-fit rules spot start requests given (LogFull need) is input long fit = stops-fit rules spot start _ given (cause.LogFull need) is
stopped-fit rules spot start requests given (TooLarge bytes) is input long fit = stops-fit rules spot start _ given (cause.TooLarge bytes) is

-- ---- one request that is not answered

-- a step's cause is the run's
pub step-stops : (rules : Rules) (spot : LogSpot) (start : SessionState) (closed : List (List Request)) (given : List Reply) (why : EngineCause) (stop : RunStop) → stop ≡ stop_of_engine why → StopsAt rules spot start closed given why → StepStops rules spot start closed given stop
step-stops rules spot start closed given why stop is stops = subst (λ (s : RunStop). StepStops rules spot start closed given s) (sym is) (go why stops)
  where
    go : (why : EngineCause) → StopsAt rules spot start closed given why → StepStops rules spot start closed given (stop_of_engine why)
    go cause.DiskFault at = at
    go (cause.LogFull need) at = at
    go (cause.TooLarge bytes) at = at
    go cause.Ended at = absurd at
    go cause.NoMemory at = at

-- no step stops at the output
pub no-output : (why : EngineCause) → stop_of_engine why ≡ OutputFault → ⊥
no-output cause.DiskFault e = cc
no-output (cause.LogFull need) e = cc
no-output (cause.TooLarge bytes) e = cc
no-output cause.Ended e = cc
no-output cause.NoMemory e = cc

-- where nothing was written for running out of memory, no group's replies were
pub none-known : (rules : Rules) (spot : LogSpot) (start : SessionState) (closed : List (List Request)) → StepStops rules spot start closed [] NoMemory
none-known rules spot start closed = inl (record { before = []; rest = described rules spot start closed; split = refl; replied = refl; fit = tt })

module _ (first now : EngineParts) (requests : List Request) (given : List Reply) (known known' : Devices (Option DiskHistory)) (goes : GoesFrom first now requests given known known') where
  abbrev rules : Rules
  rules = rules_of first.session

  abbrev start : SessionState
  start = state_now first.session

  abbrev spot : LogSpot
  spot = spot_of first

  abbrev whole : GroupCut
  whole = cut (rules_of first.session) (state_now first.session) requests

  abbrev middle : SessionState
  middle = ends (rules_of first.session) (state_now first.session) (all_requests (cut (rules_of first.session) (state_now first.session) requests).closed)

  module _ (asked : Request) (more : List Reply) where
    abbrev one : List (List Request)
    one = (cut_one rules middle whole.rest asked).closed

    closed-is : (cut rules start (requests ++ asked ∷ [])).closed ≡ whole.closed ++ one
    closed-is = ap (λ (c : GroupCut). c.closed) (cut-more first now requests given known known' goes (asked ∷ []))

    all-known : more ≡ all_replies (described rules (spot_of now) middle one) → given ++ more ≡ all_replies (closed_groups rules spot start (requests ++ asked ∷ []))
    all-known is = ap₂ (λ (a b : List Reply). a ++ b) (goes.closes.replied ∙ described-replies rules spot start whole.closed) (is ∙ described-replies rules (spot_of now) middle one)
        ∙ sym (replies-append rules start (all_requests whole.closed) (all_requests one)) ∙ ap (replies rules start) (sym (joined-append whole.closed one))
        ∙ sym (described-replies rules spot start (whole.closed ++ one)) ∙ ap (λ (c : List (List Request)). all_replies (described rules spot start c)) (sym closed-is)

    then-stops : (why : EngineCause) → StopsAt rules (spot_of now) middle one more why → StopsAt rules spot start (cut rules start (requests ++ asked ∷ [])).closed (given ++ more) why
    then-stops why stops = subst (λ (c : List (List Request)). StopsAt rules spot start c (given ++ more) why) (sym closed-is) (stops-then rules spot start whole given now goes.closes one more why stops)

    stopped-there : (stop : RunStop) → StepStops rules (spot_of now) middle one more stop → IsStoppedAt rules spot start (requests ++ asked ∷ []) (given ++ more) stop
    stopped-there (Opening error) stops = absurd stops
    stopped-there InputFault stops = absurd stops
    stopped-there TooLong stops = absurd stops
    stopped-there OutputFault stops = all-known stops
    stopped-there DiskFault stops = then-stops cause.DiskFault stops
    stopped-there NoMemory stops = then-stops cause.NoMemory stops
    stopped-there (LogFull need) stops = then-stops (cause.LogFull need) stops
    stopped-there (TooLarge bytes) stops = then-stops (cause.TooLarge bytes) stops

    pub stopped-more : (stop : RunStop) → ((from : SessionState) (group : List Request) → IsInGroup from group now.session → StepStops (rules_of now.session) (spot_of now) from (cut_one (rules_of now.session) from group asked).closed more stop)
        → IsStoppedAt (rules_of first.session) (spot_of first) (state_now first.session) (requests ++ asked ∷ []) (given ++ more) stop
    stopped-more stop stops = stopped-there stop (subst (λ (r : Rules). StepStops r (spot_of now) middle (cut_one r middle whole.rest asked).closed more stop) goes.closes.same (stops middle whole.rest goes.closes.within))

    -- and before it all that was due was written
    pub stops-there : (stop : RunStop) → ((from : SessionState) (group : List Request) → IsInGroup from group now.session → StepStops (rules_of now.session) (spot_of now) from (cut_one (rules_of now.session) from group asked).closed more stop) → (out : List ℕ)
        → StopsThere (rules_of first.session) (spot_of first) (state_now first.session) (requests ++ asked ∷ []) (given ++ more) (texts first.session.catalogue given ++ out) stop
    stops-there stop stops out = by stop at refl
      where
        at : StepStops rules (spot_after spot (closed_groups rules spot start requests)) middle (cut_one rules middle whole.rest asked).closed more stop
        at = subst (λ (p : LogSpot). StepStops rules p middle (cut_one rules middle whole.rest asked).closed more stop) goes.closes.there
            (subst (λ (r : Rules). StepStops r (spot_of now) middle (cut_one r middle whole.rest asked).closed more stop) goes.closes.same (stops middle whole.rest goes.closes.within))

        in-last : StopsInLast rules spot start (requests ++ asked ∷ []) (given ++ more) (texts first.session.catalogue given ++ out) stop
        in-last = record {
          before = requests;
          asked = asked;
          split = refl;
          more = more;
          replied = ap (λ (l : List Reply). l ++ more) goes.closes.replied;
          rest = out;
          written = ap (λ (l : List Reply). texts first.session.catalogue l ++ out) goes.closes.replied;
          here = at;
        }

        by : (s : RunStop) → StepStops rules (spot_after spot (closed_groups rules spot start requests)) middle (cut_one rules middle whole.rest asked).closed more s → stop ≡ s
            → StopsThere rules spot start (requests ++ asked ∷ []) (given ++ more) (texts first.session.catalogue given ++ out) s
        by (Opening error) never is = absurd never
        by InputFault never is = absurd never
        by TooLong never is = absurd never
        by OutputFault here is = subst (λ (s : RunStop). StopsInLast rules spot start (requests ++ asked ∷ []) (given ++ more) (texts first.session.catalogue given ++ out) s) is in-last
        by DiskFault here is = subst (λ (s : RunStop). StopsInLast rules spot start (requests ++ asked ∷ []) (given ++ more) (texts first.session.catalogue given ++ out) s) is in-last
        by NoMemory here is = inr (subst (λ (s : RunStop). StopsInLast rules spot start (requests ++ asked ∷ []) (given ++ more) (texts first.session.catalogue given ++ out) s) is in-last)
        by (LogFull need) here is = subst (λ (s : RunStop). StopsInLast rules spot start (requests ++ asked ∷ []) (given ++ more) (texts first.session.catalogue given ++ out) s) is in-last
        by (TooLarge bytes) here is = subst (λ (s : RunStop). StopsInLast rules spot start (requests ++ asked ∷ []) (given ++ more) (texts first.session.catalogue given ++ out) s) is in-last

  -- where no more is read
  pub there-reading : (stop : RunStop) → (stop ≡ InputFault) ⊎ ((stop ≡ TooLong) ⊎ (stop ≡ NoMemory)) → StopsThere (rules_of first.session) (spot_of first) (state_now first.session) requests given (texts first.session.catalogue given) stop
  there-reading stop why = by why
    where
      by : (stop ≡ InputFault) ⊎ ((stop ≡ TooLong) ⊎ (stop ≡ NoMemory)) → StopsThere rules spot start requests given (texts first.session.catalogue given) stop
      by (inl is) = subst (λ (s : RunStop). StopsThere rules spot start requests given (texts first.session.catalogue given) s) (sym is) refl
      by (inr (inl is)) = subst (λ (s : RunStop). StopsThere rules spot start requests given (texts first.session.catalogue given) s) (sym is) refl
      by (inr (inr is)) = subst (λ (s : RunStop). StopsThere rules spot start requests given (texts first.session.catalogue given) s) (sym is) (inl refl)

  pub stopped-reading : (stop : RunStop) → (stop ≡ InputFault) ⊎ ((stop ≡ TooLong) ⊎ (stop ≡ NoMemory)) → NoStop requests → IsStoppedAt (rules_of first.session) (spot_of first) (state_now first.session) requests given stop
  stopped-reading stop why none = by why
    where
      by : (stop ≡ InputFault) ⊎ ((stop ≡ TooLong) ⊎ (stop ≡ NoMemory)) → IsStoppedAt rules spot start requests given stop
      by (inl is) = subst (λ (s : RunStop). IsStoppedAt rules spot start requests given s) (sym is) (goes.closes.replied, none)
      by (inr (inl is)) = subst (λ (s : RunStop). IsStoppedAt rules spot start requests given s) (sym is) (goes.closes.replied, none)
      by (inr (inr is)) = subst (λ (s : RunStop). IsStoppedAt rules spot start requests given s) (sym is)
          (inl (record { before = closed_groups rules spot start requests; rest = []; split = sym (append-nil (closed_groups rules spot start requests)); replied = goes.closes.replied; fit = goes.closes.fit }))

-- ---- stops

pub no-stop-both : (xs ys : List Request) → NoStop xs → NoStop ys → NoStop (xs ++ ys)
no-stop-both [] ys first second = second
no-stop-both (x ∷ xs) ys first second = (first.0, no-stop-both xs ys first.1 second)

pub stops-last : (requests : List Request) (last : Request) → NoStop requests → StopsLast (requests ++ last ∷ [])
stops-last [] last none = tt
stops-last (r ∷ []) last none = (none.0, tt)
stops-last (r ∷ next ∷ requests) last none = (none.0, stops-last (next ∷ requests) last none.1)

pub never-stops : (requests : List Request) → NoStop requests → StopsLast requests
never-stops [] none = tt
never-stops (r ∷ []) none = tt
never-stops (r ∷ next ∷ requests) none = (none.0, never-stops (next ∷ requests) none.1)

-- after a stop no request is left
pub all-replied : (rules : Rules) (spot : LogSpot) (start : SessionState) (before : List Request) (given : List Reply) (now : EngineParts) → Closes rules spot start (cut rules start (before ++ request.Stop ∷ [])) given now → (cut rules start (before ++ request.Stop ∷ [])).rest ≡ []
    → given ≡ replies rules start (before ++ request.Stop ∷ [])
all-replied rules spot start before given now closes none =
    let requests = before ++ request.Stop ∷ [] in
    let whole = cut rules start requests in
    closes.replied ∙ described-replies rules spot start whole.closed
    ∙ ap (replies rules start) (sym (append-nil (all_requests whole.closed)) ∙ ap (λ (l : List Request). all_requests whole.closed ++ l) (sym none) ∙ whole-cut rules start requests)
