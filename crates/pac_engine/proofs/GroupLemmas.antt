-- The groups that a step closes, and the group that an engine is within.
use Rattle.std.proofs.Common.{◌≡◌, ◌∙◌, inl, inr, ℕ, ◌+◌, ◌<◌, ◌≤◌, Bool, true, false, List, [], ◌∷◌, ◌++◌, length, refl, sym, ap, ap₂, subst, arith, length-append}
use Rattle.std.specs.Prelude.{if◌then◌else◌, nat_le, ◌||◌}
use Rattle.std.specs.List.{AllByRecursion}
use Rattle.std.proofs.lemmas.List.{append-nil}
use Rattle.pac_value.specs.State.{Tables}
use Rattle.pac_ops.specs.declared.transaction.Txn.{Txn}
use Rattle.pac_request.specs.declared.request.Request.{Request}
use Rattle.pac_request.specs.declared.request.Request.TheVariants as request
use Rattle.pac_request.specs.declared.request.Reply.{Reply}
use Rattle.pac_request.specs.declared.request.Reply.TheVariants as reply
use Rattle.pac_check.specs.declared.limits.TheConstants.{MAX_SLOT_LEN}
use Rattle.pac_session.specs.Session.{Rules, SessionState, answer, commits, committed, ends, replies, state_after, txn_of}
use Rattle.pac_session.specs.Groups.{Group, GroupCut, LogSpot, all_replies, all_requests, cut_after, cut_one, cut_with, described, group_of, has_save, is_closing, is_save, lacks_room, place_after_group, saves_anew, spot_after_group, spot_committed, spot_saved, spot_after}
use Rattle.pac_session.specs.Open.{IsInGroup, Open, rules_of, state_now, with_asked, with_closed}
use Rattle.pac_session.proofs.CutLemmas.{has_save-append}
use Rattle.pac_session.proofs.SessionLemmas.{after-number, committed-append, ends-append, replies-append}
use Rattle.pac_engine.specs.declared.fault.EngineCause.{EngineCause}
use Rattle.pac_engine.specs.declared.fault.EngineCause.TheVariants.{DiskFault, LogFull, TooLarge, Ended, NoMemory}
use Rattle.pac_engine.specs.declared.parts.EngineParts.{EngineParts}
use Rattle.pac_engine.specs.Committing.{HasRoomAt, IsCalledFor, IsOverFull, gate_past}
use Rattle.pac_engine.specs.Closing.{Closes, GroupFits, IsGateUnsaved, IsTooLarge, IsUnsaved, IsUnwritten, StopsAt, slot_len, spot_unsaved}
use Rattle.pac_engine.specs.Moves.{committed_parts, saved_parts, with_request}
use Rattle.pac_engine.specs.Standing.{durable_of, saved_of, spot_of}
use Rattle.pac_engine.proofs.BodyLemmas.{place-after, txns-after}
use Rattle.pac_engine.proofs.SaveLemmas.{saved-session, spot-committed, spot-saved}

-- ---- the open group, one request more, and closed

state-same : (a b : SessionState) → a.tables ≡ b.tables → a.number ≡ b.number → a ≡ b
state-same a b tables number = ap (λ (t : Tables). the_state t a.number) tables ∙ ap (λ (n : ℕ). the_state b.tables n) number
  where
    the_state : Tables → ℕ → SessionState
    the_state t n = record { tables = t; number = n }

asked-state : (now : Open) (asked : Request) → state_after (rules_of now) (state_now now) asked ≡ state_now (with_asked asked now)
asked-state now asked = state-same (state_after (rules_of now) (state_now now) asked) (state_now (with_asked asked now)) refl
    (omega (arith, after-number (rules_of now) (state_now now) asked, length-append now.txns (commits (rules_of now) (state_now now) asked)))

pub closed-state : (now : Open) → state_now (with_closed now) ≡ state_now now
closed-state now = state-same (state_now (with_closed now)) (state_now now) refl (omega arith)

module _ (rules : Rules) (start : SessionState) (group : List Request) (asked : Request) where
  pub ends-push : ends rules start (group ++ asked ∷ []) ≡ state_after rules (ends rules start group) asked
  ends-push = ends-append rules start group (asked ∷ [])

  pub replies-push : replies rules start (group ++ asked ∷ []) ≡ replies rules start group ++ answer rules (ends rules start group) asked
  replies-push = replies-append rules start group (asked ∷ []) ∙ ap (λ (l : List Reply). replies rules start group ++ l) (append-nil (answer rules (ends rules start group) asked))

  pub committed-push : committed rules start (group ++ asked ∷ []) ≡ committed rules start group ++ commits rules (ends rules start group) asked
  committed-push = committed-append rules start group (asked ∷ []) ∙ ap (λ (l : List Txn). committed rules start group ++ l) (append-nil (commits rules (ends rules start group) asked))

pub group-asked : (start : SessionState) (group : List Request) (asked : Request) (now : Open) → is_save asked ≡ false → IsInGroup start group now → IsInGroup start (group ++ asked ∷ []) (with_asked asked now)
group-asked start group asked now unsaved is = record {
  answers = ap (λ (l : List Reply). l ++ answer (rules_of now) (state_now now) asked) is.answers ∙ ap (λ (s : SessionState). replies (rules_of now) start group ++ answer (rules_of now) s asked) (sym is.here) ∙ sym (replies-push (rules_of now) start group asked);
  body = ap (λ (l : List Txn). l ++ commits (rules_of now) (state_now now) asked) is.body ∙ ap (λ (s : SessionState). committed (rules_of now) start group ++ commits (rules_of now) s asked) (sym is.here) ∙ sym (committed-push (rules_of now) start group asked);
  here = ends-push (rules_of now) start group asked ∙ ap (λ (s : SessionState). state_after (rules_of now) s asked) is.here ∙ asked-state now asked;
  begun = is.begun;
  unsaved = has_save-append group (asked ∷ []) ∙ ap₂ (λ (a b : Bool). a || (b || false)) is.unsaved unsaved;
}

pub group-closed : (start : SessionState) (group : List Request) (now : Open) → IsInGroup start group now → IsInGroup (ends (rules_of now) start group) [] (with_closed now)
group-closed start group now is = record { answers = refl; body = refl; here = is.here ∙ sym (closed-state now); begun = ap (λ (s : SessionState). s.number) is.here; unsaved = refl }

-- ---- where a request cuts

module _ (rules : Rules) (start : SessionState) (group : List Request) (asked : Request) where
  abbrev test : Bool
  test = is_closing asked || nat_le rules.most (length (replies rules start (group ++ asked ∷ [])))

  -- there is room for its transaction
  module _ (room : lacks_room (committed rules start group) (txn_of asked) ≡ false) where
    with-room : cut_one rules start group asked ≡ cut_after (record { closed = []; rest = group }) (cut_with rules start group asked)
    with-room = ap (λ (t : Bool). let made : GroupCut = if t then record { closed = group ∷ []; rest = [] } else record { closed = []; rest = group } in cut_after made (cut_with rules (ends rules start (all_requests made.closed)) made.rest asked)) room

    pub cut-closed : test ≡ true → cut_one rules start group asked ≡ record { closed = (group ++ asked ∷ []) ∷ []; rest = [] }
    cut-closed is = with-room ∙ ap (λ (t : Bool). cut_after (record { closed = []; rest = group }) (if t then record { closed = (group ++ asked ∷ []) ∷ []; rest = [] } else record { closed = []; rest = group ++ asked ∷ [] })) is

    pub cut-later : test ≡ false → cut_one rules start group asked ≡ record { closed = []; rest = group ++ asked ∷ [] }
    cut-later is = with-room ∙ ap (λ (t : Bool). cut_after (record { closed = []; rest = group }) (if t then record { closed = (group ++ asked ∷ []) ∷ []; rest = [] } else record { closed = []; rest = group ++ asked ∷ [] })) is

  -- there is none, and the new group isn't full with one reply
  pub cut-before : lacks_room (committed rules start group) (txn_of asked) ≡ true → (is_closing asked || nat_le rules.most (length (replies rules (ends rules start (group ++ [])) (asked ∷ [])))) ≡ false
      → cut_one rules start group asked ≡ record { closed = group ∷ []; rest = asked ∷ [] }
  cut-before full is =
      ap (λ (t : Bool). let made : GroupCut = if t then record { closed = group ∷ []; rest = [] } else record { closed = []; rest = group } in cut_after made (cut_with rules (ends rules start (all_requests made.closed)) made.rest asked)) full
      ∙ ap (λ (t : Bool). cut_after (record { closed = group ∷ []; rest = [] }) (if t then record { closed = (asked ∷ []) ∷ []; rest = [] } else record { closed = []; rest = asked ∷ [] })) is

-- ---- a group that was closed, or none

pub closes-none : (rules : Rules) (spot : LogSpot) (start : SessionState) (cut : GroupCut) (rest : List Request) (given : List Reply) (new : EngineParts)
    → cut ≡ record { closed = []; rest = rest } → given ≡ [] → spot_of new ≡ spot → rules_of new.session ≡ rules → IsInGroup start rest new.session → Closes rules spot start cut given new
closes-none rules spot start cut rest given new is none there same within =
    subst (λ (c : GroupCut). Closes rules spot start c given new) (sym is) (record { replied = none; fit = tt; there = there; same = same; within = within })

pub closes-one : (rules : Rules) (spot : LogSpot) (start : SessionState) (cut : GroupCut) (group rest : List Request) (given : List Reply) (new : EngineParts)
    → cut ≡ record { closed = group ∷ []; rest = rest } → given ≡ replies rules start group → HasRoomAt spot.place (committed rules start group)
    → spot_of new ≡ spot_after_group (group_of rules spot start group) → rules_of new.session ≡ rules → IsInGroup (ends rules start group) rest new.session → Closes rules spot start cut given new
closes-one rules spot start cut group rest given new is gave room there same within =
    subst (λ (c : GroupCut). Closes rules spot start c given new) (sym is) (record {
      replied = gave ∙ sym (append-nil (replies rules start group));
      fit = (room, tt);
      there = there;
      same = same;
      within = subst (λ (g : List Request). IsInGroup (ends rules start g) rest new.session) (sym (append-nil group)) within;
    })

-- an engine within a group that is closed
module _ (mid : EngineParts) (start : SessionState) (group : List Request) (is : IsInGroup start group mid.session) (room : HasRoomAt mid.log.gate.place mid.session.txns) where
  group-room : HasRoomAt mid.log.gate.place (committed (rules_of mid.session) start group)
  group-room = subst (λ (l : List Txn). HasRoomAt mid.log.gate.place l) is.body room

  group-spot : spot_of (committed_parts mid) ≡ spot_after_group (group_of (rules_of mid.session) (spot_of mid) start group)
  group-spot =
      let one = group_of (rules_of mid.session) (spot_of mid) start group in
      spot-committed mid ∙ ap (λ (l : List Txn). spot_committed (spot_of mid) l) is.body ∙ sym (ap (λ (b : Bool). if b then spot_saved (spot_committed one.spot one.txns) one.number else spot_committed one.spot one.txns) is.unsaved)

  pub closes-closed : (cut : GroupCut) (given : List Reply) (new : EngineParts) → cut ≡ record { closed = group ∷ []; rest = [] } → given ≡ mid.session.held → new ≡ committed_parts mid
      → Closes (rules_of mid.session) (spot_of mid) start cut given new
  closes-closed cut given new is_cut gave becomes =
      subst (λ (e : EngineParts). Closes (rules_of mid.session) (spot_of mid) start cut given e) (sym becomes)
      (closes-one (rules_of mid.session) (spot_of mid) start cut group [] given (committed_parts mid) is_cut (gave ∙ is.answers) group-room group-spot refl (group-closed start group mid.session is))

  pub closes-before : (asked : Request) (cut : GroupCut) (given : List Reply) (new : EngineParts) → is_save asked ≡ false → cut ≡ record { closed = group ∷ []; rest = asked ∷ [] } → given ≡ mid.session.held → new ≡ with_request asked (committed_parts mid)
      → Closes (rules_of mid.session) (spot_of mid) start cut given new
  closes-before asked cut given new unsaved is_cut gave becomes =
      subst (λ (e : EngineParts). Closes (rules_of mid.session) (spot_of mid) start cut given e) (sym becomes)
      (closes-one (rules_of mid.session) (spot_of mid) start cut group (asked ∷ []) given (with_request asked (committed_parts mid)) is_cut (gave ∙ is.answers) group-room group-spot refl
      (group-asked (ends (rules_of mid.session) start group) [] asked (with_closed mid.session) unsaved (group-closed start group mid.session is)))

-- the log's gate after the transactions of a group that is closed
pub gate-closed : (e : EngineParts) → e.log.gate.txns ≡ e.session.before → (start : SessionState) (one : List Request) → ends (rules_of e.session) start one ≡ state_now e.session → e.session.txns ≡ committed (rules_of e.session) start one → (closed : List (List Request)) → closed ≡ one ∷ []
    → IsGateUnsaved (rules_of e.session) (spot_of e) start closed (gate_past e.session.txns e.log.gate)
gate-closed e counted start one here body closed is_one =
    let rules : Rules = rules_of e.session in
    record {
      some = omega (arith, ap (λ (c : List (List Request)). length c) is_one);
      counted = txns-after e.session.txns e.log.gate ∙ ap (λ (n : ℕ). n + length e.session.txns) counted ∙ ap (λ (s : SessionState). s.number) (sym here)
          ∙ ap (λ (l : List Request). (ends rules start l).number) (sym (append-nil one)) ∙ ap (λ (c : List (List Request)). (ends rules start (all_requests c)).number) (sym is_one);
      there = place-after e.session.txns e.log.gate ∙ ap (λ (l : List Txn). place_after_group e.log.gate.place l) body ∙ ap (λ (c : List (List Request)). (spot_unsaved (spot_of e) (described rules (spot_of e) start c)).place) (sym is_one);
    }

-- ---- where a step stops

-- one group is closed, of these transactions
module _ (rules : Rules) (spot : LogSpot) (start : SessionState) (closed : List (List Request)) (one : List Request) (is_one : closed ≡ one ∷ []) (txns : List Txn) (body : txns ≡ committed rules start one) where
  one-described : described rules spot start closed ≡ group_of rules spot start one ∷ []
  one-described = ap (λ (c : List (List Request)). described rules spot start c) is_one

  -- nothing was given out
  pub close-stops : (cause : EngineCause) (given : List Reply) → given ≡ [] → ((bytes : ℕ) → cause ≡ TooLarge bytes → ⊥) → (cause ≡ Ended → ⊥) → ((need : ℕ) → cause ≡ LogFull need → IsOverFull spot.place txns need) → (cause ≡ DiskFault → IsCalledFor spot.place txns)
      → StopsAt rules spot start closed given cause
  close-stops DiskFault given none known on full called =
      inl (record { before = []; group = group_of rules spot start one; rest = []; split = one-described; replied = none; fit = tt; here = subst (λ (l : List Txn). IsCalledFor spot.place l) body (called refl) })
  close-stops NoMemory given none known on full called = inl (record { before = []; rest = described rules spot start closed; split = refl; replied = none; fit = tt })
  close-stops (TooLarge bytes) given none known on full called = absurd (known bytes refl)
  close-stops Ended given none known on full called = absurd (on refl)
  close-stops (LogFull need) given none known on full called =
      record { before = []; group = group_of rules spot start one; rest = []; split = one-described; replied = none; fit = tt; here = subst (λ (l : List Txn). IsOverFull spot.place l need) body (full need refl) }

  -- its replies were
  pub closed-stops : (given : List Reply) → given ≡ replies rules start one → HasRoomAt spot.place txns → StopsAt rules spot start closed given NoMemory
  closed-stops given gave room = inl (record { before = described rules spot start closed; rest = []; split = sym (append-nil (described rules spot start closed)); replied = gave ∙ sym (append-nil (replies rules start one)) ∙ sym (ap (λ (g : List Group). all_replies g) one-described); fit = subst (λ (g : List Group). AllByRecursion GroupFits g) (sym one-described) (subst (λ (l : List Txn). HasRoomAt spot.place l) body room, tt) })

-- ---- a save

-- a save commits nothing
pub save-commits : (rules : Rules) (start : SessionState) (group : List Request) → committed rules start (group ++ request.Save ∷ []) ≡ committed rules start group
save-commits rules start group = committed-push rules start group request.Save ∙ append-nil (committed rules start group)

module _ (rules : Rules) (start : SessionState) (group : List Request) where
  pub save-here : ends rules start (group ++ request.Save ∷ []) ≡ ends rules start group
  save-here = ends-push rules start group request.Save

module _ (e : EngineParts) (counted : e.log.gate.txns ≡ e.session.before) (within : saved_of e ≤ durable_of e + 1) (start : SessionState) (group : List Request) (is : IsInGroup start group e.session) (room : HasRoomAt e.log.gate.place e.session.txns) where
  abbrev rules : Rules
  rules = rules_of e.session

  abbrev spot : LogSpot
  spot = spot_of e

  abbrev one : Group
  one = group_of (rules_of e.session) (spot_of e) start (group ++ request.Save ∷ [])

  saves : has_save (group ++ request.Save ∷ []) ≡ true
  saves = has_save-append group (request.Save ∷ []) ∙ ap (λ (b : Bool). b || true) is.unsaved

  body : e.session.txns ≡ committed rules start (group ++ request.Save ∷ [])
  body = is.body ∙ sym (save-commits rules start group)

  number-here : durable_of (committed_parts e) ≡ (ends rules start (group ++ request.Save ∷ [])).number
  number-here = txns-after e.session.txns e.log.gate ∙ ap (λ (n : ℕ). n + length e.session.txns) counted ∙ ap (λ (s : SessionState). s.number) (sym is.here ∙ sym (save-here rules start group))

  committed-within : saved_of (committed_parts e) ≤ durable_of (committed_parts e) + 1
  committed-within = omega (arith, within, txns-after e.session.txns e.log.gate)

  saved-spot : spot_of (saved_parts (committed_parts e)) ≡ spot_after_group one
  saved-spot = spot-saved (committed_parts e) committed-within ∙ ap (λ (s : LogSpot). spot_saved s (durable_of (committed_parts e))) (spot-committed e)
      ∙ ap₂ (λ (l : List Txn) (n : ℕ). spot_saved (spot_committed spot l) n) body number-here ∙ sym (ap (λ (b : Bool). if b then spot_saved (spot_committed one.spot one.txns) one.number else spot_committed one.spot one.txns) saves)

  pub closes-saved : (cut : GroupCut) (given : List Reply) (number : ℕ) (new : EngineParts) → cut ≡ record { closed = (group ++ request.Save ∷ []) ∷ []; rest = [] } → given ≡ e.session.held ++ reply.Saved number ∷ [] → number ≡ e.session.before + length e.session.txns
      → new ≡ saved_parts (committed_parts e) → Closes (rules_of e.session) (spot_of e) start cut given new
  closes-saved cut given number new is_cut gave so_many becomes =
      let knows : number ≡ (ends rules start group).number = so_many ∙ sym (ap (λ (s : SessionState). s.number) is.here) in
      let session : (saved_parts (committed_parts e)).session ≡ with_closed e.session = saved-session (committed_parts e) in
      subst (λ (p : EngineParts). Closes (rules_of e.session) (spot_of e) start cut given p) (sym becomes)
      (closes-one rules spot start cut (group ++ request.Save ∷ []) [] given (saved_parts (committed_parts e)) is_cut
      (gave ∙ ap (λ (h : List Reply). h ++ reply.Saved number ∷ []) is.answers ∙ ap (λ (n : ℕ). replies rules start group ++ reply.Saved n ∷ []) knows ∙ sym (replies-push rules start group request.Save))
      (subst (λ (l : List Txn). HasRoomAt e.log.gate.place l) body room) saved-spot (ap rules_of session)
      (subst (λ (now : Open). IsInGroup (ends rules start (group ++ request.Save ∷ [])) [] now) (sym session) (subst (λ (s : SessionState). IsInGroup s [] (with_closed e.session)) (sym (save-here rules start group)) (group-closed start group e.session is))))

  module _ (closed : List (List Request)) (is_one : closed ≡ (group ++ request.Save ∷ []) ∷ []) (given : List Reply) (gave : given ≡ e.session.held) where
    groups-are : described rules spot start closed ≡ group_of rules spot start (group ++ request.Save ∷ []) ∷ []
    groups-are = ap (λ (c : List (List Request)). described rules spot start c) is_one

    abbrev unsaved : IsUnsaved (described (rules_of e.session) (spot_of e) start closed) given
    unsaved = record {
      before = [];
      group = group_of rules spot start (group ++ request.Save ∷ []);
      asked = group;
      held = replies rules start group;
      number = (ends rules start group).number;
      split = groups-are;
      saving = refl;
      answers = replies-push rules start group request.Save;
      replied = gave ∙ is.answers;
      fit = subst (λ (g : List Group). AllByRecursion GroupFits g) (sym groups-are) (subst (λ (l : List Txn). HasRoomAt e.log.gate.place l) body room, tt);
    }

    unwritten : saves_anew (saved_of e) (durable_of (committed_parts e)) ≡ true → IsUnwritten (described (rules_of e.session) (spot_of e) start closed) given
    unwritten anew = record { unsaved = unsaved; writes = ap (λ (n : ℕ). saves_anew (saved_of e) n) (sym number-here) ∙ anew }

    save-state : ends rules start (all_requests closed) ≡ state_now (with_closed e.session)
    save-state = ap (λ (c : List (List Request)). ends rules start (all_requests c)) is_one ∙ ap (λ (g : List Request). ends rules start g) (append-nil (group ++ request.Save ∷ [])) ∙ save-here rules start group ∙ is.here ∙ sym (closed-state e.session)

    pub save-stops : (cause : EngineCause) → (cause ≡ Ended → ⊥) → ((need : ℕ) → cause ≡ LogFull need → ⊥) → (cause ≡ DiskFault → saves_anew (saved_of e) (durable_of (committed_parts e)) ≡ true)
        → ((bytes : ℕ) → cause ≡ TooLarge bytes → (saves_anew (saved_of e) (durable_of (committed_parts e)) ≡ true) × (bytes ≡ slot_len (rules_of e.session) (state_now (with_closed e.session))) × (MAX_SLOT_LEN < bytes))
        → StopsAt (rules_of e.session) (spot_of e) start closed given cause
    save-stops DiskFault on full writes large = inr (unwritten (writes refl))
    save-stops NoMemory on full writes large = inr unsaved
    save-stops (LogFull need) on full writes large = absurd (full need refl)
    save-stops Ended on full writes large = absurd (on refl)
    save-stops (TooLarge bytes) on full writes large = let much = large bytes refl in record { unwritten = unwritten much.0; is = much.1 ∙ ap (λ (s : SessionState). slot_len rules s) (sym save-state); over = much.2 }
