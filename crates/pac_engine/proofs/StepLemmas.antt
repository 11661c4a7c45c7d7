-- The parts of a step, put together.
use Rattle.std.proofs.Common.{◌≡◌, ◌∙◌, ℕ, ◌+◌, ◌<◌, ◌≤◌, Bool, true, false, List, [], ◌∷◌, ◌++◌, length, Option, Some, None, Result, OnOk, refl, sym, ap, subst, arith, length-append}
use Rattle.std.specs.Prelude.{nat_le, ◌||◌}
use Rattle.std.specs.List.{AllByRecursion}
use Rattle.std.proofs.lemmas.Bool.Decides.{nat_tests}
use Rattle.std.proofs.lemmas.List.{append-nil}
use Rattle.pac_ops.specs.declared.transaction.Txn.{Txn}
use Rattle.pac_ops.specs.declared.transaction.Txn.TheVariants.{Call, AdHoc}
use Rattle.pac_outside.specs.Disk.{DiskHistory}
use Rattle.pac_outside.specs.Devices.{WhileKnown, all_known, each}
use Rattle.pac_outside.specs.declared.devices.Devices.{Devices}
use Rattle.pac_outside.proofs.KnownDevices.{known-then, known-weaken, rest-known}
use Rattle.pac_types.specs.Fits.{TxnFits}
use Rattle.pac_request.specs.declared.request.Request.{Request}
use Rattle.pac_request.specs.declared.request.Request.TheVariants as request
use Rattle.pac_request.specs.declared.request.Reply.{Reply}
use Rattle.pac_request.specs.declared.request.Reply.TheVariants as reply
use Rattle.pac_session.specs.Session.{Rules, SessionState, answer, commits, committed, ends, replies, txn_of, txn_outcome}
use Rattle.pac_session.specs.Groups.{GroupCut, cut_one, is_closing, is_save, lacks_room, saves_anew}
use Rattle.pac_session.specs.Open.{IsInGroup, Open, rules_of, state_now, with_asked, with_run}
use Rattle.pac_store.specs.Stands.{IsHistory}
use Rattle.pac_engine.specs.declared.fault.EngineCause.{EngineCause}
use Rattle.pac_engine.specs.declared.fault.EngineCause.TheVariants.{DiskFault, LogFull, TooLarge, Ended, NoMemory}
use Rattle.pac_engine.specs.declared.parts.EngineParts.{EngineParts}
use Rattle.pac_engine.specs.Committing.{HasRoomAt, IsCalledFor, IsOverFull, gate_past}
use Rattle.pac_check.specs.declared.limits.TheConstants.{MAX_SLOT_LEN}
use Rattle.pac_engine.specs.Closing.{Closes, IsGateUnsaved, IsKept, StopsAt, slot_len}
use Rattle.pac_engine.specs.Moves.{IsAsked, IsHeldBy, IsLive, IsWorking, committed_parts, saved_parts, with_request}
use Rattle.pac_engine.specs.Standing.{KeepsHistory, KeepsMore, StandsForMore, StandsOn, durable_of, saved_of, spot_of}
use Rattle.pac_engine.proofs.BodyLemmas.{txns-after}
use Rattle.pac_engine.proofs.SaveLemmas.{saved-durable, saved-session, saves-all}
use Rattle.pac_engine.proofs.GroupLemmas.{close-stops, closed-state, closed-stops, closes-before, closes-closed, closes-none, closes-saved, cut-before, cut-closed, cut-later, gate-closed, group-asked, save-commits, save-here, save-stops}
use Rattle.pac_engine.proofs.MoveLemmas.{all-held-kept, kept-and-saved, one-reply, run-asked, with_session}
use Rattle.pac_engine.proofs.StandingLemmas.{asked-history, asked-keeps, asked-stands, keeps-as, keeps-longer, keeps-then}

-- ---- a request that was executed where there was room

module _ (before now : EngineParts) (asked : Request) (closing : Bool) (is : IsAsked before asked closing now) (start : SessionState) (group : List Request) (within : IsInGroup start group before.session) where
  abbrev rules : Rules
  rules = rules_of before.session

  more : IsInGroup start (group ++ asked ∷ []) (with_asked asked before.session)
  more = group-asked start group asked before.session is.unsaved within

  room-here : lacks_room (committed rules start group) (txn_of asked) ≡ false
  room-here = ap (λ (l : List Txn). lacks_room l (txn_of asked)) (sym within.body) ∙ is.room

  test-is : (is_closing asked || nat_le rules.most (length (replies rules start (group ++ asked ∷ [])))) ≡ (closing || nat_le now.session.most (length now.session.held))
  test-is = sym (ap (λ (e : EngineParts). closing || nat_le e.session.most (length e.session.held)) is.becomes
      ∙ ap (λ (b : Bool). b || nat_le before.session.most (length (with_asked asked before.session).held)) is.closes
      ∙ ap (λ (h : List Reply). is_closing asked || nat_le before.session.most (length h)) more.answers)

  module _ (ends_here : Bool) (test : ends_here ≡ (closing || nat_le now.session.most (length now.session.held))) where
    pub after-later : ends_here ≡ false → (given : List Reply) → given ≡ [] → Closes (rules_of before.session) (spot_of before) start (cut_one (rules_of before.session) start group asked) given now
    after-later not given none = subst (λ (e : EngineParts). Closes (rules_of before.session) (spot_of before) start (cut_one (rules_of before.session) start group asked) given e) (sym is.becomes)
        (closes-none rules (spot_of before) start (cut_one rules start group asked) (group ++ asked ∷ []) given (with_request asked before) (cut-later rules start group asked room-here (test-is ∙ sym test ∙ not)) none refl refl more)

    module _ (yes : ends_here ≡ true) where
      cut-is : cut_one rules start group asked ≡ record { closed = (group ++ asked ∷ []) ∷ []; rest = [] }
      cut-is = cut-closed rules start group asked room-here (test-is ∙ sym test ∙ yes)

      pub after-closed : (given : List Reply) (new : EngineParts) → given ≡ now.session.held → new ≡ committed_parts now → HasRoomAt now.log.gate.place now.session.txns
          → Closes (rules_of before.session) (spot_of before) start (cut_one (rules_of before.session) start group asked) given new
      after-closed given new gave becomes room =
          closes-closed (with_request asked before) start (group ++ asked ∷ []) more (subst (λ (e : EngineParts). HasRoomAt e.log.gate.place e.session.txns) is.becomes room) (cut_one rules start group asked) given new cut-is
          (gave ∙ ap (λ (e : EngineParts). e.session.held) is.becomes) (becomes ∙ ap committed_parts is.becomes)

      pub after-stops : (cause : EngineCause) (given : List Reply) → given ≡ [] → ((bytes : ℕ) → cause ≡ TooLarge bytes → ⊥) → (cause ≡ Ended → ⊥) → ((need : ℕ) → cause ≡ LogFull need → IsOverFull now.log.gate.place now.session.txns need) → (cause ≡ DiskFault → IsCalledFor now.log.gate.place now.session.txns)
          → StopsAt (rules_of before.session) (spot_of before) start (cut_one (rules_of before.session) start group asked).closed given cause
      after-stops cause given none not_large on full called =
          close-stops rules (spot_of before) start (cut_one rules start group asked).closed (group ++ asked ∷ []) (ap (λ (cut : GroupCut). cut.closed) cut-is) (with_asked asked before.session).txns more.body cause given none not_large on
          (λ need e. subst (λ (p : EngineParts). IsOverFull p.log.gate.place p.session.txns need) is.becomes (full need e)) (λ e. subst (λ (p : EngineParts). IsCalledFor p.log.gate.place p.session.txns) is.becomes (called e))

      pub after-gate : before.log.gate.txns ≡ before.session.before
          → IsGateUnsaved (rules_of before.session) (spot_of before) start (cut_one (rules_of before.session) start group asked).closed (gate_past now.session.txns now.log.gate)
      after-gate counted = subst (λ (p : EngineParts). IsGateUnsaved rules (spot_of before) start (cut_one rules start group asked).closed (gate_past p.session.txns p.log.gate)) (sym is.becomes)
          (gate-closed (with_request asked before) counted start (group ++ asked ∷ []) more.here more.body (cut_one rules start group asked).closed (ap (λ (cut : GroupCut). cut.closed) cut-is))

-- what is reported of a group that was closed is durable
pub closed-kept : (e now : EngineParts) (given : List Reply) → IsWorking e → durable_of now ≡ durable_of (committed_parts e) → given ≡ e.session.held → AllByRecursion (IsKept now) given
closed-kept e now given is durable gave = subst (λ (l : List Reply). AllByRecursion (IsKept now) l) (sym gave)
    (all-held-kept now (e.session.before + length e.session.txns) (omega (arith, durable, txns-after e.session.txns e.log.gate, is.counted)) e.session.held is.held)

-- ---- the devices, while a request is executed and its group is closed

module _ (text : List ℕ) (history : List Txn) (e : EngineParts) (asked : Request) (fits : (txn : Txn) → txn_of asked ≡ Some txn → TxnFits e.session.catalogue txn) (counted : e.log.gate.txns ≡ e.session.before) where
  abbrev asks : List Txn
  asks = commits (rules_of e.session) (state_now e.session) asked

  pub asked-keeps-known : (now : EngineParts) → durable_of now ≡ durable_of e → saved_of now ≡ saved_of e → (known : Option (Devices DiskHistory))
      → WhileKnown (StandsOn text history e) (KeepsHistory text (history ++ commits (rules_of e.session) (state_now e.session) asked) e now) known known
  asked-keeps-known now durable saved = rest-known (StandsOn text history e) (KeepsHistory text (history ++ asks) e now)
      (asked-keeps text history e asked fits counted now durable saved)

  stands-asked : (devices : Devices DiskHistory) → StandsOn text history e devices → StandsOn text (history ++ asks) (with_request asked e) devices
  stands-asked = asked-stands text history e asked fits counted

  pub asked-stands-known : (now : EngineParts) → now ≡ with_request asked e → (known : Option (Devices DiskHistory))
      → WhileKnown (StandsOn text history e) (λ was is. StandsOn text (history ++ commits (rules_of e.session) (state_now e.session) asked) now is) known known
  asked-stands-known now becomes = rest-known (StandsOn text history e) (λ was is. StandsOn text (history ++ asks) now is)
      (λ devices is. subst (λ (p : EngineParts). StandsOn text (history ++ asks) p devices) (sym becomes) (stands-asked devices is))

  -- the group is closed after it
  module _ (now : EngineParts) (becomes : now ≡ with_request asked e) (new : EngineParts) (x y : Option (Devices DiskHistory)) where
    stands-before : (devices : Devices DiskHistory) → StandsOn text history e devices → StandsOn text (history ++ asks) now devices
    stands-before devices is = subst (λ (p : EngineParts). StandsOn text (history ++ asks) p devices) (sym becomes) (stands-asked devices is)

    as-before : (u v : Devices DiskHistory) → KeepsHistory text ((history ++ asks) ++ []) now new u v → KeepsHistory text (history ++ asks) e new u v
    as-before u v keeps =
        let here : KeepsHistory text (history ++ asks) (with_request asked e) new u v = subst (λ (p : EngineParts). KeepsHistory text (history ++ asks) p new u v) becomes (subst (λ (h : List Txn). KeepsHistory text h now new u v) (append-nil (history ++ asks)) keeps) in
        record { executes = here.executes; moments = here.moments; end = here.end }

    pub after-keeps : WhileKnown (StandsOn text (history ++ asks) now) (KeepsHistory text ((history ++ asks) ++ []) now new) x y
        → WhileKnown (StandsOn text history e) (KeepsHistory text (history ++ commits (rules_of e.session) (state_now e.session) asked) e new) x y
    after-keeps known = known-weaken (StandsOn text (history ++ asks) now) (StandsOn text history e) (KeepsHistory text ((history ++ asks) ++ []) now new) (KeepsHistory text (history ++ asks) e new) stands-before (λ u v is keeps. as-before u v keeps) x y known

    pub after-stands : WhileKnown (StandsOn text (history ++ asks) now) (λ was is. StandsOn text ((history ++ asks) ++ []) new is) x y
        → WhileKnown (StandsOn text history e) (λ was is. StandsOn text (history ++ commits (rules_of e.session) (state_now e.session) asked) new is) x y
    after-stands known = known-weaken (StandsOn text (history ++ asks) now) (StandsOn text history e) (λ was is. StandsOn text ((history ++ asks) ++ []) new is) (λ was is. StandsOn text (history ++ asks) new is) stands-before
        (λ u v is stands. subst (λ (h : List Txn). StandsOn text h new v) (append-nil (history ++ asks)) stands) x y known

  -- the group is closed before it is executed
  module _ (mid : EngineParts) (x y : Option (Devices DiskHistory)) (first : WhileKnown (StandsOn text history e) (KeepsHistory text (history ++ []) e mid) x y) where
    pub anew-keeps : (new : EngineParts) → durable_of new ≡ durable_of mid → saved_of new ≡ saved_of mid
        → WhileKnown (StandsOn text history e) (KeepsHistory text (history ++ commits (rules_of e.session) (state_now e.session) asked) e new) x y
    anew-keeps new durable saved = known-weaken (StandsOn text history e) (StandsOn text history e) (KeepsHistory text (history ++ []) e mid) (KeepsHistory text (history ++ asks) e new) (λ u is. is)
        (λ u v is keeps.
        let executes : IsHistory e.session.catalogue (history ++ asks) = asked-history text history e asked fits counted u is in
        keeps-as text (history ++ asks) e mid new u v durable saved (keeps-longer text history asks e mid u v executes (subst (λ (h : List Txn). KeepsHistory text h e mid u v) (append-nil history) keeps))) x y first

    module _ (closed : mid ≡ committed_parts e) (stands : WhileKnown (StandsOn text history e) (λ was is. StandsOn text (history ++ []) mid is) x y) where
      mid-counted : mid.log.gate.txns ≡ mid.session.before
      mid-counted = ap (λ (p : EngineParts). p.log.gate.txns) closed ∙ txns-after e.session.txns e.log.gate ∙ ap (λ (n : ℕ). n + length e.session.txns) counted ∙ sym (ap (λ (p : EngineParts). p.session.before) closed)

      mid-asks : commits (rules_of mid.session) (state_now mid.session) asked ≡ asks
      mid-asks = ap (λ (p : EngineParts). commits (rules_of p.session) (state_now p.session) asked) closed ∙ ap (λ (s : SessionState). commits (rules_of e.session) s asked) (closed-state e.session)

      mid-fits : (txn : Txn) → txn_of asked ≡ Some txn → TxnFits mid.session.catalogue txn
      mid-fits txn asks_it = subst (λ (p : EngineParts). TxnFits p.session.catalogue txn) (sym closed) (fits txn asks_it)

      pub anew-stands : (new : EngineParts) → new ≡ with_request asked mid
          → WhileKnown (StandsOn text history e) (λ was is. StandsOn text (history ++ commits (rules_of e.session) (state_now e.session) asked) new is) x y
      anew-stands new becomes = known-weaken (StandsOn text history e) (StandsOn text history e) (λ was is. StandsOn text (history ++ []) mid is) (λ was is. StandsOn text (history ++ asks) new is) (λ u is. is)
          (λ u v is here.
          let now : StandsOn text history mid v = subst (λ (h : List Txn). StandsOn text h mid v) (append-nil history) here in
          let after : StandsOn text (history ++ commits (rules_of mid.session) (state_now mid.session) asked) (with_request asked mid) v
          = asked-stands text history mid asked mid-fits mid-counted v now in
          subst (λ (p : EngineParts). StandsOn text (history ++ asks) p v) (sym becomes) (subst (λ (t : List Txn). StandsOn text (history ++ t) (with_request asked mid) v) mid-asks after)) x y stands

-- ---- a transaction that opens a new group

not-closing : (asked : Request) (txn : Txn) → txn_of asked ≡ Some txn → is_closing asked ≡ false
not-closing (request.Call call) txn is = refl
not-closing (request.AdHoc records) txn is = refl
not-closing request.Flush txn is = absurd (cc is)
not-closing (request.Show table key) txn is = refl
not-closing request.Save txn is = absurd (cc is)
not-closing request.Stop txn is = absurd (cc is)
not-closing (request.Refused fault) txn is = refl

-- and is no save
pub txn-no-save : (asked : Request) (txn : Txn) → txn_of asked ≡ Some txn → is_save asked ≡ false
txn-no-save (request.Call call) txn is = refl
txn-no-save (request.AdHoc records) txn is = refl
txn-no-save request.Flush txn is = refl
txn-no-save (request.Show table key) txn is = refl
txn-no-save request.Save txn is = absurd (cc is)
txn-no-save request.Stop txn is = refl
txn-no-save (request.Refused fault) txn is = refl

pub other-no-save : (asked : Request) → (asked ≡ request.Save → ⊥) → is_save asked ≡ false
other-no-save (request.Call call) other = refl
other-no-save (request.AdHoc records) other = refl
other-no-save request.Flush other = refl
other-no-save (request.Show table key) other = refl
other-no-save request.Save other = absurd (other refl)
other-no-save request.Stop other = refl
other-no-save (request.Refused fault) other = refl

one-answer : (r : Rules) (state : SessionState) (asked : Request) (txn : Txn) → txn_of asked ≡ Some txn → length (answer r state asked ++ []) ≤ 1
one-answer r state (request.Call call) txn is = omega (arith, one-reply state (txn_outcome r state.tables (Call call)), length-append (answer r state (request.Call call)) [])
one-answer r state (request.AdHoc records) txn is = omega (arith, one-reply state (txn_outcome r state.tables (AdHoc records)), length-append (answer r state (request.AdHoc records)) [])
one-answer r state request.Flush txn is = absurd (cc is)
one-answer r state (request.Show table key) txn is = absurd (cc is)
one-answer r state request.Save txn is = absurd (cc is)
one-answer r state request.Stop txn is = absurd (cc is)
one-answer r state (request.Refused fault) txn is = absurd (cc is)

-- a group that has no room has a transaction
has-some : (txns : List Txn) (txn : Txn) → lacks_room txns (Some txn) ≡ true → lacks_room [] (Some txn) ≡ false → 0 < length txns
has-some [] txn full alone = let no : true ≡ false = sym full ∙ alone in absurd cc
has-some (t ∷ ts) txn full alone = omega arith

module _ (e : EngineParts) (live : IsLive e) (asked : Request) (txn : Txn) (asks_txn : txn_of asked ≡ Some txn) (full : lacks_room e.session.txns (Some txn) ≡ true) (alone : lacks_room [] (Some txn) ≡ false)
    (start : SessionState) (group : List Request) (within : IsInGroup start group e.session) where
  not-full : (n : ℕ) → n ≤ 1 → nat_le e.session.most n ≡ false
  not-full n le =
      let some : 0 < length e.session.txns = has-some e.session.txns txn full alone in
      let above : n < e.session.most = omega (arith, le, some, live.working.fewer, live.unfull) in
      grind (arith, nat_tests)

  anew-cut : cut_one (rules_of e.session) start group asked ≡ record { closed = group ∷ []; rest = asked ∷ [] }
  anew-cut = cut-before (rules_of e.session) start group asked (ap (λ (l : List Txn). lacks_room l (txn_of asked)) (sym within.body) ∙ ap (λ (o : Option Txn). lacks_room e.session.txns o) asks_txn ∙ full)
      (ap (λ (b : Bool). b || nat_le e.session.most (length (replies (rules_of e.session) (ends (rules_of e.session) start (group ++ [])) (asked ∷ [])))) (not-closing asked txn asks_txn)
      ∙ not-full (length (replies (rules_of e.session) (ends (rules_of e.session) start (group ++ [])) (asked ∷ []))) (one-answer (rules_of e.session) (ends (rules_of e.session) start (group ++ [])) asked txn asks_txn))

  pub anew-closes : (given : List Reply) (new : EngineParts) → given ≡ e.session.held → new ≡ with_request asked (committed_parts e) → HasRoomAt e.log.gate.place e.session.txns
      → Closes (rules_of e.session) (spot_of e) start (cut_one (rules_of e.session) start group asked) given new
  anew-closes given new gave becomes room = closes-before e start group within room asked (cut_one (rules_of e.session) start group asked) given new (txn-no-save asked txn asks_txn) anew-cut gave becomes

  pub anew-stops : (cause : EngineCause) (given : List Reply) → given ≡ [] → ((bytes : ℕ) → cause ≡ TooLarge bytes → ⊥) → (cause ≡ Ended → ⊥) → ((need : ℕ) → cause ≡ LogFull need → IsOverFull e.log.gate.place e.session.txns need) → (cause ≡ DiskFault → IsCalledFor e.log.gate.place e.session.txns)
      → StopsAt (rules_of e.session) (spot_of e) start (cut_one (rules_of e.session) start group asked).closed given cause
  anew-stops = close-stops (rules_of e.session) (spot_of e) start (cut_one (rules_of e.session) start group asked).closed group (ap (λ (cut : GroupCut). cut.closed) anew-cut) e.session.txns within.body

  pub anew-unrun : (given : List Reply) → given ≡ e.session.held → HasRoomAt e.log.gate.place e.session.txns → StopsAt (rules_of e.session) (spot_of e) start (cut_one (rules_of e.session) start group asked).closed given NoMemory
  anew-unrun given gave room = closed-stops (rules_of e.session) (spot_of e) start (cut_one (rules_of e.session) start group asked).closed group (ap (λ (cut : GroupCut). cut.closed) anew-cut) e.session.txns within.body given (gave ∙ within.answers) room

  pub anew-gate : IsGateUnsaved (rules_of e.session) (spot_of e) start (cut_one (rules_of e.session) start group asked).closed (gate_past e.session.txns e.log.gate)
  anew-gate = gate-closed e live.working.counted start group within.here within.body (cut_one (rules_of e.session) start group asked).closed (ap (λ (cut : GroupCut). cut.closed) anew-cut)

-- a transaction that was run, as a request
pub ran-parts : (e mid : EngineParts) (ran : Open) (asked : Request) (txn : Txn) → txn_of asked ≡ Some txn → mid ≡ committed_parts e → ran ≡ with_run txn mid.session → with_session ran mid ≡ with_request asked (committed_parts e)
ran-parts e mid ran asked txn asks_txn closed is = ap (λ (now : Open). with_session now mid) (is ∙ run-asked asked mid.session txn asks_txn) ∙ ap (λ (p : EngineParts). with_request asked p) closed

-- a request that asks for no transaction, and one that asks for this
pub none-fits : (e : EngineParts) (asked : Request) → txn_of asked ≡ None → (txn : Txn) → txn_of asked ≡ Some txn → TxnFits e.session.catalogue txn
none-fits e asked none txn is = let no : None ≡ Some txn = sym none ∙ is in absurd cc

pub same-fits : (e : EngineParts) (asked : Request) (txn : Txn) → txn_of asked ≡ Some txn → TxnFits e.session.catalogue txn → (other : Txn) → txn_of asked ≡ Some other → TxnFits e.session.catalogue other
same-fits e asked txn asks_txn fits other is = let same : Some txn ≡ Some other = sym asks_txn ∙ is in let here : txn ≡ other = cc in subst (λ (t : Txn). TxnFits e.session.catalogue t) here fits

-- ---- a save

-- replies that were given out, and that of the save
pub known-saved : (e new : EngineParts) (replies given : List Reply) → saved_of e ≤ durable_of e + 1 → AllByRecursion (IsHeldBy e.log.gate.txns) replies → new ≡ saved_parts e → given ≡ replies ++ reply.Saved e.log.gate.txns ∷ [] → AllByRecursion (IsKept new) given
known-saved e new replies given within held becomes known =
    subst (λ (p : EngineParts). AllByRecursion (IsKept p) given) (sym becomes) (subst (λ (l : List Reply). AllByRecursion (IsKept (saved_parts e)) l) (sym known)
    (kept-and-saved (saved_parts e) e.log.gate.txns replies (saves-all e within) (all-held-kept (saved_parts e) e.log.gate.txns (omega (arith, saved-durable e)) replies held)))

pub unknown-saved : (e new : EngineParts) (replies given : List Reply) → AllByRecursion (IsHeldBy e.log.gate.txns) replies → durable_of new ≡ e.log.gate.txns → given ≡ replies → AllByRecursion (IsKept new) given
unknown-saved e new replies given held durable unknown = subst (λ (l : List Reply). AllByRecursion (IsKept new) l) (sym unknown) (all-held-kept new e.log.gate.txns (omega (arith, durable)) replies held)

module _ (e : EngineParts) (working : IsWorking e) (start : SessionState) (group : List Request) (within : IsInGroup start group e.session) where
  save-cut : cut_one (rules_of e.session) start group request.Save ≡ record { closed = (group ++ request.Save ∷ []) ∷ []; rest = [] }
  save-cut = cut-closed (rules_of e.session) start group request.Save refl refl

  pub checkpoint-closes : HasRoomAt e.log.gate.place e.session.txns → (mid new : EngineParts) (replies given : List Reply) → mid ≡ committed_parts e → new ≡ saved_parts mid → replies ≡ e.session.held → given ≡ replies ++ reply.Saved mid.log.gate.txns ∷ []
      → Closes (rules_of e.session) (spot_of e) start (cut_one (rules_of e.session) start group request.Save) given new
  checkpoint-closes room mid new replies given closed saved gave known =
      let number : mid.log.gate.txns ≡ e.session.before + length e.session.txns = ap (λ (p : EngineParts). p.log.gate.txns) closed ∙ txns-after e.session.txns e.log.gate ∙ ap (λ (n : ℕ). n + length e.session.txns) working.counted in
      closes-saved e working.counted working.saved start group within room (cut_one (rules_of e.session) start group request.Save) given mid.log.gate.txns new save-cut
      (known ∙ ap (λ (l : List Reply). l ++ reply.Saved mid.log.gate.txns ∷ []) gave) number (saved ∙ ap saved_parts closed)

  pub checkpoint-stops : (cause : EngineCause) (given : List Reply) → given ≡ [] → ((bytes : ℕ) → cause ≡ TooLarge bytes → ⊥) → (cause ≡ Ended → ⊥) → ((need : ℕ) → cause ≡ LogFull need → IsOverFull e.log.gate.place e.session.txns need) → (cause ≡ DiskFault → IsCalledFor e.log.gate.place e.session.txns)
      → StopsAt (rules_of e.session) (spot_of e) start (cut_one (rules_of e.session) start group request.Save).closed given cause
  checkpoint-stops = close-stops (rules_of e.session) (spot_of e) start (cut_one (rules_of e.session) start group request.Save).closed (group ++ request.Save ∷ []) (ap (λ (cut : GroupCut). cut.closed) save-cut)
      e.session.txns (within.body ∙ sym (save-commits (rules_of e.session) start group))

  -- the group's replies were given out, but not that of the save
  pub checkpoint-unsaved : HasRoomAt e.log.gate.place e.session.txns → (mid : EngineParts) (replies given : List Reply) → mid ≡ committed_parts e → replies ≡ e.session.held → given ≡ replies
      → (cause : EngineCause) → (cause ≡ Ended → ⊥) → ((need : ℕ) → cause ≡ LogFull need → ⊥) → (cause ≡ DiskFault → saves_anew (saved_of mid) (durable_of mid) ≡ true)
      → ((bytes : ℕ) → cause ≡ TooLarge bytes → (saves_anew (saved_of mid) (durable_of mid) ≡ true) × (bytes ≡ slot_len (rules_of mid.session) (state_now mid.session)) × (MAX_SLOT_LEN < bytes))
      → StopsAt (rules_of e.session) (spot_of e) start (cut_one (rules_of e.session) start group request.Save).closed given cause
  checkpoint-unsaved room mid replies given closed gave unknown cause on full writes large =
      let here : saves_anew (saved_of mid) (durable_of mid) ≡ saves_anew (saved_of e) (durable_of (committed_parts e)) = ap (λ (m : EngineParts). saves_anew (saved_of m) (durable_of m)) closed in
      save-stops e working.counted working.saved start group within room (cut_one (rules_of e.session) start group request.Save).closed (ap (λ (cut : GroupCut). cut.closed) save-cut) given (unknown ∙ gave) cause on full
      (λ is. sym here ∙ writes is)
      (λ bytes is. let much = large bytes is in (sym here ∙ much.0, much.1 ∙ ap (λ (m : EngineParts). slot_len (rules_of m.session) (state_now m.session)) closed, much.2))

-- the log's gate after the group that a save ends, before the save
pub checkpoint-past : (e : EngineParts) → e.log.gate.txns ≡ e.session.before → (start : SessionState) (group : List Request) → IsInGroup start group e.session
    → IsGateUnsaved (rules_of e.session) (spot_of e) start (cut_one (rules_of e.session) start group request.Save).closed (gate_past e.session.txns e.log.gate)
checkpoint-past e counted start group within = gate-closed e counted start (group ++ request.Save ∷ []) (save-here (rules_of e.session) start group ∙ within.here) (within.body ∙ sym (save-commits (rules_of e.session) start group))
    (cut_one (rules_of e.session) start group request.Save).closed (ap (λ (cut : GroupCut). cut.closed) (cut-closed (rules_of e.session) start group request.Save refl refl))

-- a save that was handled has room in a slot, where it writes
pub checkpoint-small : {T E : Type 0} (result : Result T E) (e mid : EngineParts) → mid ≡ committed_parts e → e.log.gate.txns ≡ e.session.before
    → (saves_anew (saved_of mid) (durable_of mid) ≡ true → OnOk result (slot_len (rules_of mid.session) (state_now mid.session) ≤ MAX_SLOT_LEN))
    → saves_anew (saved_of e) (state_now e.session).number ≡ true → OnOk result (slot_len (rules_of e.session) (state_now e.session) ≤ MAX_SLOT_LEN)
checkpoint-small result e mid closed counted small anew =
    let here = small (ap (λ (m : EngineParts). saves_anew (saved_of m) (durable_of m)) closed ∙ ap (λ (n : ℕ). saves_anew (saved_of e) n) (txns-after e.session.txns e.log.gate ∙ ap (λ (n : ℕ). n + length e.session.txns) counted) ∙ anew) in
    subst (λ (s : SessionState). OnOk result (slot_len (rules_of e.session) s ≤ MAX_SLOT_LEN)) (closed-state e.session)
    (subst (λ (m : EngineParts). OnOk result (slot_len (rules_of m.session) (state_now m.session) ≤ MAX_SLOT_LEN)) closed here)

module _ (text : List ℕ) (history : List Txn) (e mid new : EngineParts) (closed : mid ≡ committed_parts e) (x y z : Option (Devices DiskHistory)) (stands : WhileKnown (StandsOn text history e) (λ was is. StandsOn text (history ++ []) mid is) x y) where
  pub checkpoint-keeps : WhileKnown (StandsOn text history e) (KeepsHistory text (history ++ []) e mid) x y → WhileKnown (StandsOn text (history ++ []) mid) (KeepsHistory text ((history ++ []) ++ []) mid new) y z
      → WhileKnown (StandsOn text history e) (KeepsHistory text (history ++ []) e new) x z
  checkpoint-keeps first second = known-then (StandsOn text history e) (StandsOn text (history ++ []) mid) (KeepsHistory text (history ++ []) e mid) (KeepsHistory text ((history ++ []) ++ []) mid new) (KeepsHistory text (history ++ []) e new)
      (λ u v w p r q s. keeps-then text (history ++ []) e mid new u v w (ap (λ (m : EngineParts). m.session.catalogue) closed)
      (omega (arith, ap (λ (m : EngineParts). m.log.gate.txns) closed, txns-after e.session.txns e.log.gate)) (omega (arith, ap saved_of closed)) r (subst (λ (h : List Txn). KeepsHistory text h mid new v w) (append-nil (history ++ [])) s))
      x y z first stands second

  pub checkpoint-stands : WhileKnown (StandsOn text (history ++ []) mid) (λ was is. StandsOn text ((history ++ []) ++ []) new is) y z → WhileKnown (StandsOn text history e) (λ was is. StandsOn text (history ++ []) new is) x z
  checkpoint-stands second = known-then (StandsOn text history e) (StandsOn text (history ++ []) mid) (λ was is. StandsOn text (history ++ []) mid is) (λ was is. StandsOn text ((history ++ []) ++ []) new is) (λ was is. StandsOn text (history ++ []) new is)
      (λ u v w p r q s. subst (λ (h : List Txn). StandsOn text h new w) (append-nil (history ++ [])) s) x y z stands stands second

-- ---- the flag of an engine

module _ {D : Type 0} (known : D → Option DiskHistory) (asked : Request) (inside e mid : EngineParts) (same : inside ≡ e) (old new : Devices D) where
  pub flag-keeps : (now : EngineParts) → durable_of now ≡ durable_of mid → saved_of now ≡ saved_of mid → KeepsMore known (commits (rules_of inside.session) (state_now inside.session) asked) inside mid old new
      → KeepsMore known (commits (rules_of e.session) (state_now e.session) asked) e now old new
  flag-keeps now durable saved keeps = λ text history.
      let here : KeepsMore known (commits (rules_of e.session) (state_now e.session) asked) e mid old new = subst (λ (p : EngineParts). KeepsMore known (commits (rules_of p.session) (state_now p.session) asked) p mid old new) same keeps in
      known-weaken (StandsOn text history e) (StandsOn text history e) (KeepsHistory text (history ++ commits (rules_of e.session) (state_now e.session) asked) e mid) (KeepsHistory text (history ++ commits (rules_of e.session) (state_now e.session) asked) e now)
      (λ u is. is) (λ u v is k. keeps-as text (history ++ commits (rules_of e.session) (state_now e.session) asked) e mid now u v durable saved k) (all_known (each known old)) (all_known (each known new)) (here text history)

  pub flag-stands : (flag : Bool) → StandsForMore known (commits (rules_of inside.session) (state_now inside.session) asked) inside mid old new
      → StandsForMore known (commits (rules_of e.session) (state_now e.session) asked) e (record mid { ended = flag }) old new
  flag-stands flag stands = λ text history.
      let here : StandsForMore known (commits (rules_of e.session) (state_now e.session) asked) e mid old new = subst (λ (p : EngineParts). StandsForMore known (commits (rules_of p.session) (state_now p.session) asked) p mid old new) same stands in
      known-weaken (StandsOn text history e) (StandsOn text history e) (λ was is. StandsOn text (history ++ commits (rules_of e.session) (state_now e.session) asked) mid is)
      (λ was is. StandsOn text (history ++ commits (rules_of e.session) (state_now e.session) asked) (record mid { ended = flag }) is) (λ u is. is)
      (λ u v is s. flagged text (history ++ commits (rules_of e.session) (state_now e.session) asked) v s) (all_known (each known old)) (all_known (each known new)) (here text history)
    where
      flagged : (text : List ℕ) (history : List Txn) (devices : Devices DiskHistory) → StandsOn text history mid devices → StandsOn text history (record mid { ended = flag }) devices
      flagged text history devices is = record { form = is.form; batches = is.batches; still = is.still; after = is.after; later = is.later; ends = is.ends }
