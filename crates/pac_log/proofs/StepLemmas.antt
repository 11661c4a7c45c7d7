-- What a reader's answer at a gate says of the batches in an image.
use Rattle.std.proofs.Common.{◌≡◌, ◌∙◌, ℕ, ◌+◌, List, [], ◌∷◌, ◌++◌, length, drop, Option, Some, None, Result, Ok, Err, refl, sym, ap, subst, append_assoc}
use Rattle.std.specs.Prelude.{IfOk, IfSome}
use Rattle.std.proofs.lemmas.List.{drop_at}
use Rattle.pac_ops.specs.declared.batch.Batch.{Batch}
use Rattle.pac_ops.specs.declared.transaction.Txn.{Txn}
use Rattle.pac_bytes.specs.Reading.{reported_as}
use Rattle.pac_outside.specs.Disk.{DiskHistory, IfKnown}
use Rattle.pac_log.specs.declared.header.Header.{Header}
use Rattle.pac_log.specs.declared.damage.LinkFault.{LinkFault}
use Rattle.pac_log.specs.declared.errors.LogError.{LogError}
use Rattle.pac_log.specs.declared.errors.LogError.TheVariants as error
use Rattle.pac_log.specs.declared.position.NextGate.{NextGate}
use Rattle.pac_log.specs.Bodies.{body_bytes, IsBody}
use Rattle.pac_log.specs.Gates.{gate_after}
use Rattle.pac_log.specs.Logs.{log_prefix, HoldsLog}
use Rattle.pac_log.specs.Places.{IsAfter}
use Rattle.pac_log.specs.Looked.{IsSpelled, IsLookedAt}
use Rattle.pac_log.specs.Reading.{StandsAfter, ReportsHeld, ReportsOfImage, IsDamaged, IsNextBatch, after_gate, at_gate, first_batch, further}
use Rattle.pac_log.proofs.LogLemmas.{prefix_pushed, with_batch, after_more}
use Rattle.pac_log.proofs.GateLemmas.{at_prefix, held, held_none, held_fault}

-- ---- after batches that stand in the image

module _ (header : Header) (batches : List (List Txn)) (old : NextGate) (image : List ℕ) (stands : StandsAfter header batches old image) where
  here : at_gate old.catalogue image old.place ≡ reported_as (further old.place) (after_gate old.catalogue (stands.byte ∷ stands.rest))
  here = subst (λ (n : ℕ). at_gate old.catalogue image n ≡ reported_as (further n) (after_gate old.catalogue (stands.byte ∷ stands.rest))) (sym stands.after.place) (at_prefix old.catalogue image (log_prefix header batches) (stands.byte ∷ stands.rest) stands.split)

  ok_inside : (r : Result (Option (List Txn)) LinkFault) (place : ℕ) → reported_as (further place) r ≡ Ok None → r ≡ Ok None
  ok_inside (Ok x) place e = cc
  ok_inside (Err fault) place e = absurd cc

  err_inside : (r : Result (Option (List Txn)) LinkFault) (place : ℕ) (fault : LinkFault) → reported_as (further place) r ≡ Err fault → (f : LinkFault) × (r ≡ Err f)
  err_inside (Ok x) place fault e = absurd cc
  err_inside (Err f) place fault e = (f, refl)

  -- no batch is held there: these are all
  all_held : at_gate old.catalogue image old.place ≡ Ok None → HoldsLog header old.catalogue batches image
  all_held e = record {
    log = stands.log;
    shut = record {
      gate = stands.byte;
      rest = stands.rest;
      split = stands.split;
      shut = held_none old.catalogue stands.byte stands.rest (ok_inside _ old.place (sym here ∙ e));
    };
  }

  -- there is a fault: the image is damaged
  damaged : (fault : LinkFault) → at_gate old.catalogue image old.place ≡ Err fault → IsDamaged header old.catalogue batches fault image
  damaged fault e =
      let inside = err_inside _ old.place fault (sym here ∙ e) in
      let open_gate : stands.byte ≡ 1 = held_fault old.catalogue stands.byte stands.rest inside.0 inside.1 in
      record {
        log = stands.log;
        rest = stands.rest;
        split = stands.split ∙ ap (λ (g : ℕ). log_prefix header batches ++ (g ∷ stands.rest)) open_gate;
        first = subst (λ (n : ℕ). at_gate old.catalogue image n ≡ Err fault) stands.after.place e;
      }

  -- with one batch more the next gate is reached
  one_more : (txns : List Txn) (gate : ℕ) (rest : List ℕ) → stands.byte ∷ stands.rest ≡ 1 ∷ (body_bytes txns ++ (gate ∷ rest)) → IsBody old.catalogue txns
      → StandsAfter header (batches ++ txns ∷ []) (gate_after (length txns) (1 + length (body_bytes txns)) old) image
  one_more txns gate rest spelled body = record {
    log = with_batch header old.catalogue batches txns stands.log body;
    after = after_more header batches txns old stands.after;
    byte = gate;
    rest = rest;
    split = stands.split ∙ ap (λ (l : List ℕ). log_prefix header batches ++ l) spelled ∙ sym (prefix_pushed header batches txns (gate ∷ rest));
  }

-- what is spelled at the gate
there : (header : Header) (batches : List (List Txn)) (old : NextGate) (image : List ℕ) (stands : StandsAfter header batches old image) (txns : List Txn) → (is : IsSpelled txns (drop old.place image))
    → stands.byte ∷ stands.rest ≡ 1 ∷ (body_bytes txns ++ (is.gate ∷ is.rest))
there header batches old image stands txns is =
    sym (ap (λ (l : List ℕ). drop old.place l) stands.split ∙ drop_at (log_prefix header batches) (stands.byte ∷ stands.rest) old.place (sym stands.after.place)) ∙ is.split

reads_on : (header : Header) (batches : List (List Txn)) (old new : NextGate) (image : List ℕ) (result : Result (Option Batch) LogError)
    → ReportsHeld result (at_gate old.catalogue image old.place) → IfOk result (λ found. IfSome found (λ batch. IsSpelled batch.txns (drop old.place image))) → IfOk result (λ found. IfSome found (IsNextBatch old new))
    → StandsAfter header batches old image → ReportsOfImage header batches old new image result
reads_on header batches old new image (Ok None) exact spelled next stands = all_held header batches old image stands exact
reads_on header batches old new image (Ok (Some batch)) exact spelled next stands =
    subst (λ (gate : NextGate). StandsAfter header (batches ++ batch.txns ∷ []) gate image) (sym next.gate) (one_more header batches old image stands batch.txns spelled.gate spelled.rest (there header batches old image stands batch.txns spelled) next.body)
reads_on header batches old new image (Err error.NoStore) exact spelled next stands = exact
reads_on header batches old new image (Err (error.Damaged at kind)) exact spelled next stands = damaged header batches old image stands (record { at = at; kind = kind }) exact
reads_on header batches old new image (Err error.DiskFault) exact spelled next stands = tt
reads_on header batches old new image (Err error.NoMemory) exact spelled next stands = tt

pub known_on : (header : Header) (batches : List (List Txn)) (old new : NextGate) (result : Result (Option Batch) LogError) (known : Option DiskHistory)
    → IfKnown (λ h. ReportsHeld result (at_gate old.catalogue h.now.seen old.place)) known → IfOk result (λ found. IfSome found (λ batch. IfKnown (λ h. IsSpelled batch.txns (drop old.place h.now.seen)) known)) → IfOk result (λ found. IfSome found (IsNextBatch old new))
    → IfKnown (λ h. StandsAfter header batches old h.now.seen → ReportsOfImage header batches old new h.now.seen result) known
known_on header batches old new result None exact spelled next = tt
known_on header batches old new result (Some h) exact spelled next = reads_on header batches old new h.now.seen result exact spelled next

-- what a piece begins with, all begins with
in_all : (piece all : List ℕ) (txns : List Txn) → IsLookedAt piece all → IsSpelled txns piece → IsSpelled txns all
in_all piece all txns is spelled = record {
  gate = spelled.gate;
  rest = spelled.rest ++ is.rest;
  split = is.split ∙ ap (λ (l : List ℕ). l ++ is.rest) spelled.split ∙ ap (λ (l : List ℕ). 1 ∷ l) (append_assoc (body_bytes txns) (spelled.gate ∷ spelled.rest) is.rest);
}

pub known_spelled : (piece : List ℕ) (place : ℕ) (result : Result (Option Batch) LogError) (known : Option DiskHistory) → IfKnown (λ old. IsLookedAt piece (drop place old.now.seen)) known
    → IfOk result (λ found. IfSome found (λ batch. IsSpelled batch.txns piece)) → IfOk result (λ found. IfSome found (λ batch. IfKnown (λ old. IsSpelled batch.txns (drop place old.now.seen)) known))
known_spelled piece place (Ok (Some batch)) None looked spelled = tt
known_spelled piece place (Ok (Some batch)) (Some old) looked spelled = in_all piece (drop place old.now.seen) batch.txns looked spelled
known_spelled piece place (Ok None) known looked spelled = tt
known_spelled piece place (Err error) known looked spelled = tt

-- ---- what was written is read again

pub known_again : (header : Header) (before after : List (List Txn)) (gate : NextGate) (result : Result (Option Batch) LogError) (known : Option DiskHistory) → IfKnown (λ old. ReportsHeld result (at_gate gate.catalogue old.now.seen gate.place)) known
    → IfKnown (λ old. HoldsLog header gate.catalogue (before ++ after) old.now.seen → IsAfter header before gate → ReportsHeld result (Ok (first_batch after))) known
known_again header before after gate result None exact = tt
known_again header before after gate result (Some old) exact = λ holds following.
    let there : at_gate gate.catalogue old.now.seen gate.place ≡ Ok (first_batch after) = ap (λ (n : ℕ). at_gate gate.catalogue old.now.seen n) following.place ∙ held header gate.catalogue old.now.seen before after holds in
    subst (λ r. ReportsHeld result r) there exact
