-- What reading gives is what is spelled.
use Rattle.std.proofs.Common.{arith}
use Rattle.pac_bytes.proofs.Codec.{IsCodec}
use Rattle.pac_bytes.proofs.Laws.{codec_finds_unless_memory, codec_finds_spelled_unless_memory}
use Rattle.pac_entry.proofs.EntryLemmas.{entry_codec}
use Rattle.pac_entry.proofs.ReadingLemmas.{few_tables, few_procs}
use Rattle.pac_log.specs.Bodies.{link_bytes, IsBody, IsLogLink}
use Rattle.pac_log.specs.BodyReading.{next_link}
use Rattle.std.specs.Prelude.{IfOk}
use Rattle.pac_log.proofs.LinkLemmas.{link_codec}
use Rattle.pac_log.proofs.FoundLemmas.{body_found, body_fits, body_short}
use Rattle.pac_log.proofs.link.read_link.Goals as goal

codec : (c : goal.After-link_at) → IsCodec (IsLogLink c.args.cat.now) link_bytes (next_link c.args.cat.now)
codec c = link_codec c.args.cat.now
    (entry_codec c.args.cat.now (few_tables c.args.cat.now.tables (omega (arith, c.tables-tables.ensures.few)) c.tables-tables.ensures.well_formed)
    (few_procs c.args.cat.now.tables c.args.cat.now.procs (omega (arith, c.procs-procs.ensures.few)) c.procs-procs.ensures.well_formed))

pub returns-clause-found : goal.returns-clause-found
returns-clause-found c = codec_finds_unless_memory (codec c) _ _ _ (λ i. omega (arith, c.type_inv.bytes i)) c.link_at.ensures

pub returns-clause-again : goal.returns-clause-again
returns-clause-again c = codec_finds_spelled_unless_memory (codec c) _ _ _ c.link_at.ensures

-- what is found is a body of the catalogue
is_body : (c : goal.After-link_at) → IfOk c.link_at.result (λ found. IsBody c.args.cat.now found.0.txns)
is_body c = body_found c.args.cat.now c.args.bytes.now c.args.at c.link_at.result (returns-clause-found c)

pub returns-clause-fits : goal.returns-clause-fits
returns-clause-fits c = body_fits c.args.cat.now c.link_at.result (is_body c)

pub returns-clause-short : goal.returns-clause-short
returns-clause-short c = body_short c.args.cat.now c.link_at.result (is_body c)
