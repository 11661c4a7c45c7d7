-- A log whose next gate is opened.
use Rattle.std.proofs.Common.{◌≡◌, ◌∙◌, ◌⊎◌, inl, inr, ⊎_elim, ℕ, zero, suc, ◌+◌, ◌*◌, ◌≤◌, List, [], ◌∷◌, ◌++◌, length, Option, Some, None, refl, sym, ap, subst, arith, append_assoc}
use Rattle.std.proofs.lemmas.List.Concat.{flat_map-cons}
use Rattle.std.proofs.lemmas.List.{append-nil, length-append}
use Rattle.std.proofs.lemmas.List.Elements.{All-append, All-cons, All-nil}
use Rattle.std.specs.Int.{w32, to_le_bytes}
use Rattle.pac_ops.specs.declared.transaction.Txn.{Txn}
use Rattle.pac_ops.specs.declared.transaction.Txn.TheVariants.{Call, AdHoc}
use Rattle.pac_bytes.proofs.Numbers.{width32}
use Rattle.pac_entry.specs.Entries.{txn_bytes}
use Rattle.pac_types.specs.Typing.{CatalogueState}
use Rattle.pac_outside.specs.Disk.{DiskHistory, IfKnown, BothKnown, settled}
use Rattle.pac_outside.specs.GateByte.{IsShut, IsOpen, OneImage, ShutOrOpen, Opens}
use Rattle.pac_outside.proofs.Histories.{both, last_leaves, weaken}
use Rattle.pac_log.specs.declared.header.Header.{Header}
use Rattle.pac_log.specs.declared.position.NextGate.{NextGate}
use Rattle.pac_log.specs.declared.log.Stage.{Stage}
use Rattle.pac_log.specs.declared.log.Stage.TheVariants.{Ready}
use Rattle.pac_log.specs.Bodies.{entries_bytes, body_bytes, IsBody}
use Rattle.pac_log.specs.Logs.{header_bytes, open_bodies, log_prefix, all_txns, AreBatches, HoldsLog, KeepsOrAdds, AddsBatch}
use Rattle.pac_log.specs.Gates.{gate_after}
use Rattle.pac_log.specs.Places.{IsAfter, LogEndsAt}
use Rattle.pac_log.specs.Torn.{LogEndsAtEither}

open_bodies-append : (a b : List (List Txn)) → open_bodies (a ++ b) ≡ open_bodies a ++ open_bodies b
open_bodies-append [] b = refl
open_bodies-append (txns ∷ a) b = ap (λ (l : List ℕ). 1 ∷ l) (ap (λ (l : List ℕ). body_bytes txns ++ l) (open_bodies-append a b) ∙ sym (append_assoc (body_bytes txns) (open_bodies a) (open_bodies b)))

pub log_prefix-append : (header : Header) (a b : List (List Txn)) → log_prefix header (a ++ b) ≡ log_prefix header a ++ open_bodies b
log_prefix-append header a b = ap (λ (l : List ℕ). header_bytes header ++ l) (open_bodies-append a b) ∙ sym (append_assoc (header_bytes header) (open_bodies a) (open_bodies b))

-- with one batch more, its open gate and its body stand after the others
pub prefix_pushed : (header : Header) (batches : List (List Txn)) (txns : List Txn) (rest : List ℕ) → log_prefix header (batches ++ txns ∷ []) ++ rest ≡ log_prefix header batches ++ (1 ∷ (body_bytes txns ++ rest))
prefix_pushed header batches txns rest =
    ap (λ (l : List ℕ). l ++ rest) (log_prefix-append header batches (txns ∷ [])) ∙ append_assoc (log_prefix header batches) (1 ∷ (body_bytes txns ++ [])) rest
    ∙ ap (λ (l : List ℕ). log_prefix header batches ++ (1 ∷ (l ++ rest))) (append-nil (body_bytes txns))

pub all_txns-append : (a b : List (List Txn)) → all_txns (a ++ b) ≡ all_txns a ++ all_txns b
all_txns-append [] b = refl
all_txns-append (x ∷ a) b = ap (λ (l : List Txn). x ++ l) (all_txns-append a b) ∙ sym (append_assoc x (all_txns a) (all_txns b))

counted_more : (batches : List (List Txn)) (txns : List Txn) → length (all_txns (batches ++ txns ∷ [])) ≡ length (all_txns batches) + length txns
counted_more batches txns = omega (arith, ap (λ (l : List Txn). length l) (all_txns-append batches (txns ∷ [])), length-append (all_txns batches) (txns ++ []), length-append txns [])

pub with_batch : (header : Header) (catalogue : CatalogueState) (batches : List (List Txn)) (txns : List Txn) → AreBatches header catalogue batches → IsBody catalogue txns → AreBatches header catalogue (batches ++ txns ∷ [])
with_batch header catalogue batches txns are is = record {
  accepted = are.accepted;
  base = are.base;
  each = All-append (IsBody catalogue) batches (txns ∷ []) are.each (All-cons (IsBody catalogue) txns [] is (All-nil (IsBody catalogue)));
}

-- the gate that comes after one batch more
pub after_more : (header : Header) (batches : List (List Txn)) (txns : List Txn) (gate : NextGate) → IsAfter header batches gate
    → IsAfter header (batches ++ txns ∷ []) (gate_after (length txns) (1 + length (body_bytes txns)) gate)
after_more header batches txns gate is =
    let lens : length (log_prefix header (batches ++ txns ∷ [])) ≡ length (log_prefix header batches ++ (1 ∷ (body_bytes txns ++ [])))
    = ap (λ (l : List ℕ). length l) (sym (append-nil (log_prefix header (batches ++ txns ∷ []))) ∙ prefix_pushed header batches txns []) in
    record {
      headed = is.headed;
      place = omega (arith, is.place, lens, length-append (log_prefix header batches) (1 ∷ (body_bytes txns ++ [])), length-append (body_bytes txns) []);
      txns = omega (arith, is.txns, counted_more batches txns);
    }

module _ (header : Header) (catalogue : CatalogueState) (batches : List (List Txn)) (txns : List Txn) (piece : List ℕ) (framed : piece ≡ body_bytes txns ++ (0 ∷ [])) (body : IsBody catalogue txns) where
  -- an open gate with the body and a shut gate after it is one batch more
  one_more : (image : List ℕ) → AreBatches header catalogue batches → IsOpen (log_prefix header batches) piece image → HoldsLog header catalogue (batches ++ txns ∷ []) image
  one_more image are is = record {
    log = with_batch header catalogue batches txns are body;
    shut = record {
      gate = 0;
      rest = is.rest;
      split = is.split ∙ ap (λ (p : List ℕ). log_prefix header batches ++ (1 ∷ (p ++ is.rest))) framed ∙ ap (λ (l : List ℕ). log_prefix header batches ++ (1 ∷ l)) (append_assoc (body_bytes txns) (0 ∷ []) is.rest) ∙ sym (prefix_pushed header batches txns (0 ∷ is.rest));
      shut = omega arith;
    };
  }

  keeps : (a b : DiskHistory) → ShutOrOpen (log_prefix header batches) piece a b → KeepsOrAdds header catalogue batches txns a b
  keeps a b run alone = weaken (λ image. IsShut (log_prefix header batches) image ⊎ IsOpen (log_prefix header batches) piece image) (λ image. HoldsLog header catalogue batches image ⊎ HoldsLog header catalogue (batches ++ txns ∷ []) image) a b
      (λ image is. ⊎_elim (λ shut. inl (record { log = alone.has.log; shut = shut })) (λ opened. inr (one_more image alone.has.log opened)) is)
      (run (record { one = alone.one; has = alone.has.shut }))

  adds : (a b : DiskHistory) → Opens (log_prefix header batches) piece a b → AddsBatch header catalogue batches txns a b
  adds a b run alone = let opened = run (record { one = alone.one; has = alone.has.shut }) in record { one = opened.one; has = one_more b.now.seen alone.has.log opened.has }

  pub keeps_or_adds : (a b : Option DiskHistory) → BothKnown (ShutOrOpen (log_prefix header batches) piece) a b → BothKnown (KeepsOrAdds header catalogue batches txns) a b
  keeps_or_adds = both (ShutOrOpen (log_prefix header batches) piece) (KeepsOrAdds header catalogue batches txns) keeps

  pub adds_batch : (a b : Option DiskHistory) → BothKnown (Opens (log_prefix header batches) piece) a b → BothKnown (AddsBatch header catalogue batches txns) a b
  adds_batch = both (Opens (log_prefix header batches) piece) (AddsBatch header catalogue batches txns) adds

-- ---- what stands ready

entry_long : (txn : Txn) → 2 ≤ length (txn_bytes txn)
entry_long (Call call) = omega arith
entry_long (AdHoc records) = omega arith

entries_long : (txns : List Txn) → 2 * length txns ≤ length (entries_bytes txns)
entries_long [] = omega arith
entries_long (txn ∷ txns) =
    let parts : length (entries_bytes (txn ∷ txns)) ≡ length (txn_bytes txn ++ entries_bytes txns) = ap (λ (x : List ℕ). length x) (flat_map-cons txn_bytes txn txns) in
    omega (arith, parts, length-append (txn_bytes txn) (entries_bytes txns), entry_long txn, entries_long txns)

-- each transaction takes two bytes or more of a body
pub body_long : (txns : List Txn) → 2 * length txns + 8 ≤ length (body_bytes txns)
body_long txns =
    let count = to_le_bytes w32 (length txns) in
    let len = to_le_bytes w32 (length (entries_bytes txns)) in
    omega (arith, length-append count (len ++ entries_bytes txns), length-append len (entries_bytes txns), width32.len (length txns), width32.len (length (entries_bytes txns)), entries_long txns)

ready_same : (a b : List ℕ) (m n : ℕ) → Ready a m ≡ Ready b n → (a ≡ b) × (m ≡ n)
ready_same a b m n e = (ready_piece e, ready_count e)
  where
    ready_piece : Ready a m ≡ Ready b n → a ≡ b
    ready_piece h = cc

    ready_count : Ready a m ≡ Ready b n → m ≡ n
    ready_count h = cc

-- what is ready is the body and a closed gate
pub ready_parts : (stage other : Stage) (piece body : List ℕ) (m n : ℕ) → stage ≡ Ready piece m → stage ≡ other → other ≡ Ready body n → (piece ≡ body) × (m ≡ n)
ready_parts stage other piece body m n is view there = ready_same piece body m n (sym is ∙ view ∙ there)

pub after_so : (header : Header) (batches : List (List Txn)) (txns : List Txn) (gate new : NextGate) (count len : ℕ) → count ≡ length txns → len ≡ 1 + length (body_bytes txns) → new ≡ gate_after count len gate
    → IsAfter header batches gate → IsAfter header (batches ++ txns ∷ []) new
after_so header batches txns gate new count len counted long e is =
    let there : IsAfter header (batches ++ txns ∷ []) (gate_after (length txns) (1 + length (body_bytes txns)) gate) = after_more header batches txns gate is in
    let with_count : IsAfter header (batches ++ txns ∷ []) (gate_after count (1 + length (body_bytes txns)) gate) = subst (λ (n : ℕ). IsAfter header (batches ++ txns ∷ []) (gate_after n (1 + length (body_bytes txns)) gate)) (sym counted) there in
    let with_len : IsAfter header (batches ++ txns ∷ []) (gate_after count len gate) = subst (λ (n : ℕ). IsAfter header (batches ++ txns ∷ []) (gate_after count n gate)) (sym long) with_count in
    subst (λ (g : NextGate). IsAfter header (batches ++ txns ∷ []) g) (sym e) with_len

-- the gate after what was ready
pub gate_so : (txns : List Txn) (inside old new : NextGate) (count len : ℕ) → count ≡ length txns → len ≡ 1 + length (body_bytes txns) → new ≡ gate_after count len inside → inside ≡ old
    → new ≡ gate_after (length txns) (1 + length (body_bytes txns)) old
gate_so txns inside old new count len counted long e same =
    e ∙ ap (λ (n : ℕ). gate_after n len inside) counted ∙ ap (λ (n : ℕ). gate_after (length txns) n inside) long ∙ ap (λ (g : NextGate). gate_after (length txns) (1 + length (body_bytes txns)) g) same

-- a log that ended at its gate ends at the next one, when a batch was added
pub ends_again : (R : DiskHistory → DiskHistory → Type 0) (old new : NextGate) (before after : Option DiskHistory) (txns : List Txn) → BothKnown R before after → IfKnown (λ h. LogEndsAt old h.now) before
    → ((header : Header) (batches : List (List Txn)) → IsAfter header batches old → BothKnown (AddsBatch header old.catalogue batches txns) before after)
    → ((header : Header) (batches : List (List Txn)) → IsAfter header batches old → IsAfter header (batches ++ txns ∷ []) new) → new.catalogue ≡ old.catalogue → IfKnown (λ h. LogEndsAt new h.now) after
ends_again R old new None None txns both ends adds following same = tt
ends_again R old new None (Some b) txns both ends adds following same = absurd both
ends_again R old new (Some a) None txns both ends adds following same = absurd both
ends_again R old new (Some a) (Some b) txns both ends adds following same = record {
  header = ends.header;
  batches = ends.batches ++ txns ∷ [];
  holds = subst (λ (c : CatalogueState). OneImage (HoldsLog ends.header c (ends.batches ++ txns ∷ [])) b.now) (sym same) (adds ends.header ends.batches ends.after ends.holds);
  after = following ends.header ends.batches ends.after;
}

-- there are bytes up to each offset
pub up_to : (offset : ℕ) → (prefix : List ℕ) × (offset ≡ length prefix)
up_to zero = ([], refl)
up_to (suc offset) = let before = up_to offset in (0 ∷ before.0, omega (arith, before.1))

-- and if adding it failed, each image ends at the gate, or after the batch
pub ends_torn : (R : DiskHistory → DiskHistory → Type 0) (gate : NextGate) (before after : Option DiskHistory) (txns : List Txn) → BothKnown R before after → IfKnown (λ h. LogEndsAt gate h.now) before
    → ((header : Header) (batches : List (List Txn)) → IsAfter header batches gate → BothKnown (KeepsOrAdds header gate.catalogue batches txns) before after)
    → IfKnown (λ h. LogEndsAtEither gate (gate_after (length txns) (1 + length (body_bytes txns)) gate) h.now) after
ends_torn R gate None None txns both at keeps = tt
ends_torn R gate None (Some b) txns both at keeps = absurd both
ends_torn R gate (Some a) None txns both at keeps = absurd both
ends_torn R gate (Some a) (Some b) txns both at keeps = λ image is. either image (last_leaves (λ i. HoldsLog at.header gate.catalogue at.batches i ⊎ HoldsLog at.header gate.catalogue (at.batches ++ txns ∷ []) i) a b (keeps at.header at.batches at.after at.holds) image is)
  where
    either : (image : List ℕ) → HoldsLog at.header gate.catalogue at.batches image ⊎ HoldsLog at.header gate.catalogue (at.batches ++ txns ∷ []) image → LogEndsAt gate (settled image) ⊎ LogEndsAt (gate_after (length txns) (1 + length (body_bytes txns)) gate) (settled image)
    either image (inl holds) = inl (record { header = at.header; batches = at.batches; holds = record { one = refl; has = holds }; after = at.after })
    either image (inr holds) = inr (record { header = at.header; batches = at.batches ++ txns ∷ []; holds = record { one = refl; has = holds }; after = after_more at.header at.batches txns gate at.after })
