-- An engine that is opened over devices that stand for a history.
use Rattle.std.proofs.Common.{◌≡◌, ◌∙◌, ℕ, ◌<◌, ◌≤◌, List, [], ◌++◌, length, take, Result, Ok, sym, ap, ap₂, subst, arith, append_assoc, length-append}
use Rattle.std.proofs.lemmas.List.{append-nil, take_at, take-take}
use Rattle.std.proofs.lemmas.List.Elements.{All-take}
use Rattle.pac_ops.specs.declared.transaction.Txn.{Txn}
use Rattle.pac_outside.specs.Devices.{log_at}
use Rattle.pac_outside.specs.Disk.{DiskHistory}
use Rattle.pac_outside.specs.Parts.{reads_of}
use Rattle.pac_outside.specs.declared.devices.Devices.{Devices}
use Rattle.pac_outside.specs.declared.devices.LogName.{LogName}
use Rattle.pac_types.specs.Fits.{TxnFits}
use Rattle.pac_types.specs.Typing.{CatalogueState}
use Rattle.pac_log.specs.declared.header.Header.{Header}
use Rattle.pac_log.specs.Logs.{HoldsLog, all_txns, header_with, number_after}
use Rattle.pac_log.specs.Places.{IsAfter}
use Rattle.pac_log.proofs.OneLog.{one_log}
use Rattle.pac_check.specs.declared.damage.SlotFault.{SlotFault}
use Rattle.pac_check.specs.declared.state.SlotState.{SlotState}
use Rattle.pac_check.specs.declared.state.SlotState.TheVariants.{Empty, Closed, Open}
use Rattle.pac_check.specs.SlotStates.{active_of, newest_among}
use Rattle.pac_store.specs.Stands.{EndsWith, IsShutOrPrefix, StandsFor}
use Rattle.pac_store.specs.Stored.{active_among, IsPlaced}
use Rattle.pac_store.proofs.StandsLemmas.{few-tables, read-state}
use Rattle.pac_engine.specs.declared.parts.EngineParts.{EngineParts}
use Rattle.pac_engine.specs.Standing.{IsOpenedOn, StandsOn}
use Rattle.pac_engine.proofs.DeviceLemmas.{log-each}

same-state : (a b : SlotState) → ◌≡◌ {A = Result SlotState SlotFault} (Ok a) (Ok b) → a ≡ b
same-state a b e = cc

-- a checkpoint of a prefix is one of a prefix that reaches as far
prefix-taken : (catalogue : CatalogueState) (history : List Txn) (most number : ℕ) (state : SlotState) (image : List ℕ) → most ≤ number → IsShutOrPrefix catalogue history most state image → IsShutOrPrefix catalogue (take number history) most state image
prefix-taken catalogue history most number Empty image le is = is
prefix-taken catalogue history most number Closed image le is = is
prefix-taken catalogue history most number (Open head) image le is = record {
  held = is.held;
  fit = is.fit;
  rows = is.rows;
  within = is.within;
  ends = subst (λ (l : List Txn). EndsWith catalogue l is.held) (sym (take-take head.txns number history (omega (arith, is.within, le)))) is.ends;
}

module _ (text : List ℕ) (history : List Txn) (least : ℕ) (engine : EngineParts) (devices : Devices DiskHistory) (stands : StandsFor text engine.session.catalogue history least (reads_of devices)) (opened : IsOpenedOn history engine devices) where
  abbrev cat : CatalogueState
  cat = engine.session.catalogue

  abbrev header : Header
  header = header_with stands.form text

  few : length cat.tables < 65536
  few = few-tables text cat stands.log.log.accepted.has

  same-a : stands.a ≡ engine.slots.a
  same-a = same-state stands.a engine.slots.a (sym (read-state cat few history (number_after header stands.batches) stands.a devices.slot_a.now.seen stands.slot_a) ∙ opened.known_a)

  same-b : stands.b ≡ engine.slots.b
  same-b = same-state stands.b engine.slots.b (sym (read-state cat few history (number_after header stands.batches) stands.b devices.slot_b.now.seen stands.slot_b) ∙ opened.known_b)

  same-active : active_among stands.a stands.b ≡ active_of engine.slots
  same-active = ap₂ active_among same-a same-b

  log-here : HoldsLog header cat stands.batches (log_at (active_of engine.slots) devices).now.seen
  log-here = subst (λ (i : List ℕ). HoldsLog header cat stands.batches i) (log-each (λ device. device.now.seen) (active_of engine.slots) devices)
      (subst (λ (name : LogName). HoldsLog header cat stands.batches (log_at name (reads_of devices))) same-active stands.log)

  one : (engine.log.gate.header ≡ header) × (cat ≡ cat) × (opened.batches ≡ stands.batches)
  one = one_log engine.log.gate.header header cat cat opened.batches stands.batches (log_at (active_of engine.slots) devices).now.seen opened.log log-here

  after : IsAfter header stands.batches engine.log.gate
  after = subst (λ (bs : List (List Txn)). IsAfter header bs engine.log.gate) one.2 (subst (λ (h : Header). IsAfter h opened.batches engine.log.gate) one.0 opened.after)

  abbrev taken : List Txn
  taken = take engine.log.gate.txns history

  parts : taken ≡ stands.earlier ++ (all_txns stands.batches ++ [])
  parts = ap (λ (h : List Txn). take engine.log.gate.txns h) (stands.split ∙ sym (append_assoc stands.earlier (all_txns stands.batches) stands.later))
      ∙ take_at (stands.earlier ++ all_txns stands.batches) stands.later engine.log.gate.txns (omega (arith, after.txns, stands.before, length-append stands.earlier (all_txns stands.batches)))
      ∙ ap (λ (t : List Txn). stands.earlier ++ t) (sym (append-nil (all_txns stands.batches)))

  prefix-here : (state other : SlotState) (image : List ℕ) → state ≡ other → IsShutOrPrefix cat history (number_after header stands.batches) state image → IsShutOrPrefix cat taken (number_after header stands.batches) other image
  prefix-here state other image same is = subst (λ (s : SlotState). IsShutOrPrefix cat taken (number_after header stands.batches) s image) same (prefix-taken cat history (number_after header stands.batches) engine.log.gate.txns state image (omega (arith, after.txns)) is)

  pub opened-stands : StandsOn text (take engine.log.gate.txns history) engine devices
  opened-stands = record {
    form = stands.form;
    batches = stands.batches;
    still = record {
      executes = record { fit = All-take (TxnFits cat) engine.log.gate.txns history stands.executes.fit; held = engine.session.tables; ends = opened.ends };
      slot_a = record { one = opened.a_settled; has = prefix-here stands.a engine.slots.a devices.slot_a.now.seen same-a stands.slot_a };
      slot_b = record { one = opened.b_settled; has = prefix-here stands.b engine.slots.b devices.slot_b.now.seen same-b stands.slot_b };
      log = record { one = opened.log_settled; has = log-here };
      placed = subst (λ (b : SlotState). IsPlaced header stands.batches (newest_among engine.slots.a b)) same-b (subst (λ (a : SlotState). IsPlaced header stands.batches (newest_among a stands.b)) same-a stands.placed);
      earlier = stands.earlier;
      later = [];
      before = stands.before;
      split = parts;
    };
    after = after;
    later = sym opened.none;
    ends = opened.ends;
  }
