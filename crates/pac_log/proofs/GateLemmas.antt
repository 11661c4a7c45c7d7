-- What an image of a log holds at each gate: the next of its batches, or none, or the first damage.
use Rattle.std.proofs.Common.{◌≡◌, ◌≢◌, ◌∙◌, ℕ, ◌+◌, Bool, true, false, eqb, List, [], ◌∷◌, ◌++◌, length, drop, Option, Some, None, Result, Ok, Err, refl, sym, ap, subst, arith, append_assoc}
use Rattle.std.specs.List.{All}
use Rattle.std.proofs.lemmas.Bool.{eqb-true, eqb-false, ne_eqb}
use Rattle.std.proofs.lemmas.List.{append-nil, drop_at}
use Rattle.std.proofs.lemmas.List.Elements.{All-head, All-tail}
use Rattle.pac_value.specs.Expressions.{◌>>=◌}
use Rattle.pac_ops.specs.declared.transaction.Txn.{Txn}
use Rattle.pac_types.specs.Typing.{CatalogueState, IsCatalogue}
use Rattle.pac_types.proofs.TypingLemmas.{tables_few, tables_well_formed, procs_few, procs_well_formed}
use Rattle.pac_bytes.specs.Reading.{Rest, reported_as}
use Rattle.pac_bytes.proofs.Codec.{IsCodec}
use Rattle.pac_entry.proofs.EntryLemmas.{entry_codec}
use Rattle.pac_entry.proofs.ReadingLemmas.{few_tables, few_procs}
use Rattle.pac_outside.specs.GateByte.{IsShut}
use Rattle.pac_log.specs.declared.header.Header.{Header}
use Rattle.pac_log.specs.declared.damage.LinkFault.{LinkFault}
use Rattle.pac_log.specs.declared.link.Link.{Link}
use Rattle.pac_log.specs.Bodies.{body_bytes, IsBody, link_bytes, IsLogLink}
use Rattle.pac_log.specs.BodyReading.{next_link}
use Rattle.pac_log.specs.Logs.{open_bodies, log_prefix, AreBatches, HoldsLog}
use Rattle.pac_types.specs.Accepted.{IsAccepted}
use Rattle.pac_log.specs.Reading.{after_gate, at_gate, first_batch, further}
use Rattle.pac_log.proofs.LinkLemmas.{link_codec}
use Rattle.pac_log.proofs.LogLemmas.{log_prefix-append}

-- ---- from a gate on

-- bodies of a text's catalogue are a codec
codec_of : (text : List ℕ) (catalogue : CatalogueState) → IsAccepted text catalogue → IsCodec (IsLogLink catalogue) link_bytes (next_link catalogue)
codec_of text catalogue accepted =
    let is : IsCatalogue catalogue = (accepted.has.tree, (text, accepted.has.reads), accepted.has.typed) in
    link_codec catalogue
    (entry_codec catalogue (few_tables catalogue.tables (omega (arith, tables_few catalogue is)) (tables_well_formed catalogue is))
    (few_procs catalogue.tables catalogue.procs (omega (arith, procs_few catalogue is)) (procs_well_formed catalogue is)))

-- a batch stands after the open gate, whatever follows its own gate
open_holds : (text : List ℕ) (catalogue : CatalogueState) (txns : List Txn) (gate : ℕ) (more : List ℕ) → IsAccepted text catalogue → IsBody catalogue txns → after_gate catalogue (1 ∷ (body_bytes txns ++ (gate ∷ more))) ≡ Ok (Some txns)
open_holds text catalogue txns gate more accepted body =
    let link : Link = record { txns = txns; gate = gate } in
    let read : next_link catalogue (record { at = 1; bytes = body_bytes txns ++ (gate ∷ more) }) ≡ Ok (link, record { at = 1 + length (link_bytes link); bytes = more })
    = ap (λ (b : List ℕ). next_link catalogue (record { at = 1; bytes = b })) (sym (append_assoc (body_bytes txns) (gate ∷ []) more)) ∙ (codec_of text catalogue accepted).again link 1 more body in
    rw read refl

shut_holds : (catalogue : CatalogueState) (gate : ℕ) (more : List ℕ) → gate ≢ 1 → after_gate catalogue (gate ∷ more) ≡ Ok None
shut_holds catalogue gate more shut = rw (ne_eqb gate 1 shut) refl

abbrev held_after : Result (Link × Rest) LinkFault → Result (Option (List Txn)) LinkFault
held_after r = r >>= λ link. Ok (Some link.0.txns)

some_after : (r : Result (Link × Rest) LinkFault) → held_after r ≡ Ok None → ⊥
some_after (Ok link) e = cc
some_after (Err fault) e = cc

-- a gate at which nothing is held is shut
pub held_none : (catalogue : CatalogueState) (gate : ℕ) (more : List ℕ) → after_gate catalogue (gate ∷ more) ≡ Ok None → gate ≢ 1
held_none catalogue gate more e is = some_after (next_link catalogue (record { at = 1; bytes = more })) (subst (λ (g : ℕ). after_gate catalogue (g ∷ more) ≡ Ok None) is e)

-- a gate at which there is a fault is open
pub held_fault : (catalogue : CatalogueState) (gate : ℕ) (more : List ℕ) (fault : LinkFault) → after_gate catalogue (gate ∷ more) ≡ Err fault → gate ≡ 1
held_fault catalogue gate more fault e = by (eqb gate 1) refl
  where
    no_fault : (f : LinkFault) → ◌≡◌ {A = Result (Option (List Txn)) LinkFault} (Ok None) (Err f) → ⊥
    no_fault f h = cc

    by : (b : Bool) → eqb gate 1 ≡ b → gate ≡ 1
    by true is = eqb-true _ _ is
    by false is = absurd (no_fault fault (sym (shut_holds catalogue gate more (eqb-false _ _ is)) ∙ e))

-- ---- in an image

-- what stands after a prefix
after_prefix : (image prefix rest : List ℕ) → image ≡ prefix ++ rest → drop (length prefix) image ≡ rest
after_prefix image prefix rest e = ap (λ (l : List ℕ). drop (length prefix) l) e ∙ drop_at prefix rest (length prefix) refl

pub at_prefix : (catalogue : CatalogueState) (image prefix rest : List ℕ) → image ≡ prefix ++ rest → at_gate catalogue image (length prefix) ≡ reported_as (further (length prefix)) (after_gate catalogue rest)
at_prefix catalogue image prefix rest e = ap (λ (l : List ℕ). reported_as (further (length prefix)) (after_gate catalogue l)) (after_prefix image prefix rest e)

body_in : (P : List Txn → Type 0) (before after : List (List Txn)) (txns : List Txn) → All P (before ++ (txns ∷ after)) → P txns
body_in P [] after txns h = All-head P txns after h
body_in P (b ∷ before) after txns h = body_in P before after txns (All-tail P b (before ++ (txns ∷ after)) h)

-- some byte comes first
pub headed : (after : List (List Txn)) (gate : ℕ) (rest : List ℕ) → (first : ℕ) × (more : List ℕ) × (open_bodies after ++ (gate ∷ rest) ≡ first ∷ more)
headed [] gate rest = (gate, rest, refl)
headed (txns ∷ after) gate rest = (1, (body_bytes txns ++ open_bodies after) ++ (gate ∷ rest), refl)

module _ (header : Header) (catalogue : CatalogueState) (image : List ℕ) where
  -- the next batch is held at the gate after those before it
  pub next_held : (before after : List (List Txn)) (txns : List Txn) (gate : ℕ) (rest : List ℕ) → AreBatches header catalogue (before ++ (txns ∷ after)) → image ≡ log_prefix header (before ++ (txns ∷ after)) ++ (gate ∷ rest)
      → at_gate catalogue image (length (log_prefix header before)) ≡ Ok (Some txns)
  next_held before after txns gate rest are split =
      let more = headed after gate rest in
      let parts : image ≡ log_prefix header before ++ (1 ∷ (body_bytes txns ++ (more.0 ∷ more.1)))
      = split ∙ ap (λ (l : List ℕ). l ++ (gate ∷ rest)) (log_prefix-append header before (txns ∷ after)) ∙ append_assoc (log_prefix header before) (open_bodies (txns ∷ after)) (gate ∷ rest)
      ∙ ap (λ (l : List ℕ). log_prefix header before ++ (1 ∷ l)) (append_assoc (body_bytes txns) (open_bodies after) (gate ∷ rest) ∙ ap (λ (l : List ℕ). body_bytes txns ++ l) more.2) in
      at_prefix catalogue image (log_prefix header before) (1 ∷ (body_bytes txns ++ (more.0 ∷ more.1))) parts
      ∙ ap (λ r. reported_as (further (length (log_prefix header before))) r) (open_holds header.text catalogue txns more.0 more.1 are.accepted (body_in (IsBody catalogue) before after txns are.each))

  -- at the gate after all, nothing
  pub last_held : (batches : List (List Txn)) → IsShut (log_prefix header batches) image → at_gate catalogue image (length (log_prefix header batches)) ≡ Ok None
  last_held batches is =
      at_prefix catalogue image (log_prefix header batches) (is.gate ∷ is.rest) is.split ∙ ap (λ r. reported_as (further (length (log_prefix header batches))) r) (shut_holds catalogue is.gate is.rest is.shut)

  -- so a log's batches are read again
  pub held : (before after : List (List Txn)) → HoldsLog header catalogue (before ++ after) image → at_gate catalogue image (length (log_prefix header before)) ≡ Ok (first_batch after)
  held before [] holds = last_held before (subst (λ (l : List (List Txn)). IsShut (log_prefix header l) image) (append-nil before) holds.shut)
  held before (txns ∷ after) holds = next_held before after txns holds.shut.gate holds.shut.rest holds.log holds.shut.split
