-- Groups that were closed, and more of them after.
use Rattle.std.proofs.Common.{◌≡◌, ◌∙◌, inl, inr, ⊎_elim, ℕ, ◌<◌, List, [], ◌∷◌, ◌++◌, length, Option, refl, sym, ap, ap₂, subst, arith, append_assoc, length-append}
use Rattle.std.specs.List.{AllByRecursion}
use Rattle.pac_ops.specs.declared.transaction.Txn.{Txn}
use Rattle.pac_outside.specs.Devices.{WhileAllKnown, all_known}
use Rattle.pac_outside.specs.Disk.{DiskHistory}
use Rattle.pac_outside.proofs.KnownDevices.{known-then}
use Rattle.pac_outside.specs.declared.devices.Devices.{Devices}
use Rattle.pac_types.specs.Typing.{CatalogueState}
use Rattle.pac_store.specs.Stands.{IsHistory}
use Rattle.pac_engine.specs.Standing.{OnlyGrows, KeepsHistory, StandsOn, spot_of}
use Rattle.pac_engine.proofs.StandingLemmas.{keeps-longer, keeps-then}
use Rattle.pac_request.specs.declared.request.Request.{Request}
use Rattle.pac_request.specs.declared.request.Reply.{Reply}
use Rattle.pac_session.specs.Session.{Rules, SessionState, committed, ends, replies}
use Rattle.pac_session.specs.Groups.{Group, GroupCut, all_replies, all_requests, LogSpot, cut_after, described, group_of, spot_after, spot_after_group}
use Rattle.pac_session.specs.Open.{IsInGroup, rules_of, state_now}
use Rattle.pac_session.proofs.SessionLemmas.{ends-append}
use Rattle.pac_session.proofs.CutLemmas.{joined-append}
use Rattle.pac_engine.specs.declared.fault.EngineCause.{EngineCause}
use Rattle.pac_engine.specs.declared.fault.EngineCause.TheVariants.{DiskFault, LogFull, TooLarge, Ended, NoMemory}
use Rattle.pac_engine.specs.declared.parts.EngineParts.{EngineParts}
use Rattle.pac_log.specs.declared.position.NextGate.{NextGate}
use Rattle.pac_engine.specs.Closing.{Closes, GroupFits, CallsDevice, IsGateAfter, IsGateUnsaved, IsUnsaved, IsUnwritten, IsUpToGroup, IsUpToSome, NeedsTooMuch, StopsAt, slot_len, spot_unsaved}

-- ---- lists of groups

replies-both : (xs ys : List Group) → all_replies (xs ++ ys) ≡ all_replies xs ++ all_replies ys
replies-both [] ys = refl
replies-both (x ∷ xs) ys = ap (λ (l : List Reply). x.replies ++ l) (replies-both xs ys) ∙ sym (append_assoc x.replies (all_replies xs) (all_replies ys))

fit-both : (xs ys : List Group) → AllByRecursion GroupFits xs → AllByRecursion GroupFits ys → AllByRecursion GroupFits (xs ++ ys)
fit-both [] ys first second = second
fit-both (x ∷ xs) ys first second = (first.0, fit-both xs ys first.1 second)

spot-both : (spot : LogSpot) (xs ys : List Group) → spot_after spot (xs ++ ys) ≡ spot_after (spot_after spot xs) ys
spot-both spot [] ys = refl
spot-both spot (x ∷ xs) ys = spot-both (spot_after_group x) xs ys

described-both : (rules : Rules) (spot : LogSpot) (start : SessionState) (xs ys : List (List Request))
    → described rules spot start (xs ++ ys) ≡ described rules spot start xs ++ described rules (spot_after spot (described rules spot start xs)) (ends rules start (all_requests xs)) ys
described-both rules spot start [] ys = refl
described-both rules spot start (x ∷ xs) ys =
    let next = spot_after_group (group_of rules spot start x) in
    ap (λ (l : List Group). group_of rules spot start x ∷ l) (described-both rules next (ends rules start x) xs ys
    ∙ ap (λ (s : SessionState). described rules next (ends rules start x) xs ++ described rules (spot_after next (described rules next (ends rules start x) xs)) s ys) (sym (ends-append rules start x (all_requests xs))))

ends-both : (rules : Rules) (start : SessionState) (xs ys : List (List Request)) → ends rules start (all_requests (xs ++ ys)) ≡ ends rules (ends rules start (all_requests xs)) (all_requests ys)
ends-both rules start xs ys = ap (λ (l : List Request). ends rules start l) (joined-append xs ys) ∙ ends-append rules start (all_requests xs) (all_requests ys)

-- ---- steps

pub begins : (engine : EngineParts) → engine.session.txns ≡ [] → engine.session.held ≡ [] → Closes (rules_of engine.session) (spot_of engine) (state_now engine.session) (record { closed = []; rest = [] }) [] engine
begins engine txns held = record {
  replied = refl;
  fit = tt;
  there = refl;
  same = refl;
  within = record { answers = held; body = txns; here = refl; begun = omega (arith, ap (λ l. length l) txns); unsaved = refl };
}

module _ (rules : Rules) (spot : LogSpot) (start : SessionState) (whole : GroupCut) (given : List Reply) (old : EngineParts) (is : Closes rules spot start whole given old) where
  abbrev middle : SessionState
  middle = ends rules start (all_requests whole.closed)

  abbrev groups : List Group
  groups = described rules spot start whole.closed

  -- more groups after these
  all-groups : (more : List (List Request)) → described rules spot start (whole.closed ++ more) ≡ described rules spot start whole.closed ++ described rules (spot_of old) (ends rules start (all_requests whole.closed)) more
  all-groups more = described-both rules spot start whole.closed more ∙ ap (λ (p : LogSpot). groups ++ described rules p middle more) (sym is.there)

  pub closes-then : (next : GroupCut) (more : List Reply) (new : EngineParts) → Closes rules (spot_of old) (ends rules start (all_requests whole.closed)) next more new → Closes rules spot start (cut_after whole next) (given ++ more) new
  closes-then next more new then =
      let all = all-groups next.closed in
      let after = described rules (spot_of old) middle next.closed in
      record {
        replied = ap₂ (λ (a b : List Reply). a ++ b) is.replied then.replied ∙ sym (replies-both groups after) ∙ sym (ap (λ (g : List Group). all_replies g) all);
        fit = subst (λ (g : List Group). AllByRecursion GroupFits g) (sym all) (fit-both groups after is.fit then.fit);
        there = then.there ∙ ap (λ (p : LogSpot). spot_after p after) is.there ∙ sym (spot-both spot groups after) ∙ sym (ap (λ (g : List Group). spot_after spot g) all);
        same = then.same;
        within = subst (λ (s : SessionState). IsInGroup s next.rest new.session) (sym (ends-both rules start whole.closed next.closed)) then.within;
      }

  pub gate-then : (more : List (List Request)) (gate : NextGate) → IsGateAfter rules (spot_of old) (ends rules start (all_requests whole.closed)) more gate → IsGateAfter rules spot start (whole.closed ++ more) gate
  gate-then more gate is_after =
      let then = described rules (spot_of old) middle more in
      record {
        counted = is_after.counted ∙ ap (λ (s : SessionState). s.number) (sym (ends-both rules start whole.closed more));
        there = is_after.there ∙ ap (λ (s : LogSpot). s.place) (ap (λ (p : LogSpot). spot_after p then) is.there ∙ sym (spot-both spot groups then) ∙ sym (ap (λ (g : List Group). spot_after spot g) (all-groups more)));
      }

  -- before a save that ends the last of them
  pub unsaved-then : (more : List (List Request)) (gate : NextGate) → IsGateUnsaved rules (spot_of old) (ends rules start (all_requests whole.closed)) more gate → IsGateUnsaved rules spot start (whole.closed ++ more) gate
  unsaved-then more gate is_after =
      let then = described rules (spot_of old) middle more in
      record {
        some = omega (arith, is_after.some, length-append whole.closed more);
        counted = is_after.counted ∙ ap (λ (s : SessionState). s.number) (sym (ends-both rules start whole.closed more));
        there = is_after.there ∙ ap (λ (s : LogSpot). s.place) (sym (unsaved-both more is_after.some) ∙ sym (ap (λ (g : List Group). spot_unsaved spot g) (all-groups more)));
      }
    where
      -- of a group it doesn't matter where the log stood before those that are described
      from-group : (at : LogSpot) (one : Group) (rest : List Group) → spot_unsaved at (one ∷ rest) ≡ spot_unsaved (spot_of old) (one ∷ rest)
      from-group at one [] = refl
      from-group at one (next ∷ rest) = refl

      after-groups : (at : LogSpot) (xs : List Group) (one : Group) (rest : List Group) → spot_unsaved at (xs ++ one ∷ rest) ≡ spot_unsaved (spot_of old) (one ∷ rest)
      after-groups at [] one rest = from-group at one rest
      after-groups at (x ∷ []) one rest = from-group (spot_after_group x) one rest
      after-groups at (x ∷ w ∷ xs) one rest = after-groups (spot_after_group x) (w ∷ xs) one rest

      unsaved-both : (ys : List (List Request)) → 0 < length ys → spot_unsaved spot (groups ++ described rules (spot_of old) middle ys) ≡ spot_unsaved (spot_of old) (described rules (spot_of old) middle ys)
      unsaved-both [] some = absurd (omega (arith, some))
      unsaved-both (y ∷ ys) some = after-groups spot groups (group_of rules (spot_of old) middle y) (described rules (spot_after_group (group_of rules (spot_of old) middle y)) (ends rules middle y) ys)

  module _ (more : List (List Request)) (known : List Reply) where
    abbrev after : List Group
    after = described rules (spot_of old) (ends rules start (all_requests whole.closed)) more

    abbrev all : List Group
    all = described rules spot start (whole.closed ++ more)

    known-both : (before : List Group) (rest : List Reply) → known ≡ all_replies before ++ rest → given ++ known ≡ all_replies (groups ++ before) ++ rest
    known-both before rest e = ap₂ (λ (a b : List Reply). a ++ b) is.replied e ∙ sym (append_assoc (all_replies groups) (all_replies before) rest) ∙ ap (λ (l : List Reply). l ++ rest) (sym (replies-both groups before))

    known-all : (before : List Group) → known ≡ all_replies before → given ++ known ≡ all_replies (groups ++ before)
    known-all before e = ap₂ (λ (a b : List Reply). a ++ b) is.replied e ∙ sym (replies-both groups before)

    group-then : (P : Group → Type 0) → IsUpToGroup P after known → IsUpToGroup P all (given ++ known)
    group-then P up = record {
      before = groups ++ up.before;
      group = up.group;
      rest = up.rest;
      split = all-groups more ∙ ap (λ (g : List Group). groups ++ g) up.split ∙ sym (append_assoc groups up.before (up.group ∷ up.rest));
      replied = known-all up.before up.replied;
      fit = fit-both groups up.before is.fit up.fit;
      here = up.here;
    }

    some-then : IsUpToSome after known → IsUpToSome all (given ++ known)
    some-then up = record {
      before = groups ++ up.before;
      rest = up.rest;
      split = all-groups more ∙ ap (λ (g : List Group). groups ++ g) up.split ∙ sym (append_assoc groups up.before up.rest);
      replied = known-all up.before up.replied;
      fit = fit-both groups up.before is.fit up.fit;
    }

    abbrev unsaved-all : IsUnsaved after known → IsUnsaved all (given ++ known)
    unsaved-all un = record {
      before = groups ++ un.before;
      group = un.group;
      asked = un.asked;
      held = un.held;
      number = un.number;
      split = all-groups more ∙ ap (λ (g : List Group). groups ++ g) un.split ∙ sym (append_assoc groups un.before (un.group ∷ []));
      saving = un.saving;
      answers = un.answers;
      replied = known-both un.before un.held un.replied;
      fit = subst (λ (g : List Group). AllByRecursion GroupFits g) (sym (all-groups more)) (fit-both groups after is.fit un.fit);
    }

    unwritten-all : IsUnwritten after known → IsUnwritten all (given ++ known)
    unwritten-all un = record { unsaved = unsaved-all un.unsaved; writes = un.writes }

    pub stops-then : (cause : EngineCause) → StopsAt rules (spot_of old) (ends rules start (all_requests whole.closed)) more known cause → StopsAt rules spot start (whole.closed ++ more) (given ++ known) cause
    stops-then DiskFault stops = ⊎_elim (λ up. inl (group-then CallsDevice up)) (λ un. inr (unwritten-all un)) stops
    stops-then (LogFull need) stops = group-then (NeedsTooMuch need) stops
    stops-then (TooLarge bytes) stops = record {
      unwritten = unwritten-all stops.unwritten;
      is = stops.is ∙ ap (λ (s : SessionState). slot_len rules s) (sym (ends-both rules start whole.closed more));
      over = stops.over;
    }
    stops-then Ended stops = absurd stops
    stops-then NoMemory stops = ⊎_elim (λ up. inl (some-then up)) (λ un. inr (unsaved-all un)) stops

-- ---- what the devices stand for

-- the first step keeps the longer history too
pub history-then : (text : List ℕ) (history more last : List Txn) (a b c : EngineParts) (x y z : Devices (Option DiskHistory)) → rules_of b.session ≡ rules_of a.session → OnlyGrows a b
    → WhileAllKnown (StandsOn text history a) (KeepsHistory text (history ++ more) a b) x y → WhileAllKnown (StandsOn text history a) (λ was is. StandsOn text (history ++ more) b is) x y
    → WhileAllKnown (StandsOn text (history ++ more) b) (KeepsHistory text ((history ++ more) ++ last) b c) y z → WhileAllKnown (StandsOn text history a) (KeepsHistory text (history ++ (more ++ last)) a c) x z
history-then text history more last a b c x y z same grown first stands second =
    known-then (StandsOn text history a) (StandsOn text (history ++ more) b) (KeepsHistory text (history ++ more) a b) (KeepsHistory text ((history ++ more) ++ last) b c) (KeepsHistory text (history ++ (more ++ last)) a c)
    (λ u v w p r q s. subst (λ (h : List Txn). KeepsHistory text h a c u w) (append_assoc history more last)
    (keeps-then text ((history ++ more) ++ last) a b c u v w catalogue_same grown.durable grown.saved (keeps-longer text (history ++ more) last a b u v (executes v w q s) r) s))
    (all_known x) (all_known y) (all_known z) first stands second
  where
    catalogue_same : b.session.catalogue ≡ a.session.catalogue
    catalogue_same = ap (λ (r : Rules). r.catalogue) same

    executes : (v w : Devices DiskHistory) → StandsOn text (history ++ more) b v → KeepsHistory text ((history ++ more) ++ last) b c v w → IsHistory a.session.catalogue ((history ++ more) ++ last)
    executes v w q s = subst (λ (cat : CatalogueState). IsHistory cat ((history ++ more) ++ last)) catalogue_same s.executes

pub stands-then : (text : List ℕ) (history more last : List Txn) (a b c : EngineParts) (x y z : Devices (Option DiskHistory))
    → WhileAllKnown (StandsOn text history a) (λ was is. StandsOn text (history ++ more) b is) x y → WhileAllKnown (StandsOn text (history ++ more) b) (λ was is. StandsOn text ((history ++ more) ++ last) c is) y z
    → WhileAllKnown (StandsOn text history a) (λ was is. StandsOn text (history ++ (more ++ last)) c is) x z
stands-then text history more last a b c x y z first second =
    known-then (StandsOn text history a) (StandsOn text (history ++ more) b) (λ was is. StandsOn text (history ++ more) b is) (λ was is. StandsOn text ((history ++ more) ++ last) c is) (λ was is. StandsOn text (history ++ (more ++ last)) c is)
    (λ u v w p r q s. subst (λ (h : List Txn). StandsOn text h c w) (append_assoc history more last) s) (all_known x) (all_known y) (all_known z) first first second
