-- What reading gives is what is spelled.
use Rattle.std.proofs.Common.{arith, subst}
use Rattle.pac_types.specs.Typing.{CatalogueState}
use Rattle.pac_bytes.specs.Reading.{from}
use Rattle.pac_bytes.specs.Readers.{AnswersUnlessMemory, Finds}
use Rattle.pac_bytes.proofs.Codec.{IsCodec}
use Rattle.pac_bytes.proofs.Laws.{codec_finds_unless_memory, codec_finds_spelled_unless_memory}
use Rattle.pac_entry.specs.Entries.{txn_bytes, IsEntry}
use Rattle.pac_entry.specs.EntryReading.{next_entry}
use Rattle.pac_entry.proofs.EntryLemmas.{entry_codec}
use Rattle.pac_entry.proofs.ReadingLemmas.{same_catalogue, few_tables, few_procs, found_inside}
use Rattle.pac_entry.proofs.reading.read_entry.Goals as goal

codec : (c : goal.After-entry_at) → IsCodec (IsEntry c.args.cat.now) txn_bytes (next_entry c.args.cat.now)
codec c =
    entry_codec c.args.cat.now (few_tables c.args.cat.now.tables (omega (arith, c.tables-tables.ensures.few)) c.tables-tables.ensures.well_formed)
    (few_procs c.args.cat.now.tables c.args.cat.now.procs (omega (arith, c.procs-procs.ensures.few)) c.procs-procs.ensures.well_formed)

exact : (c : goal.After-entry_at) → AnswersUnlessMemory c.args.bytes.now c.entry_at.result (next_entry c.args.cat.now (from c.args.bytes.now c.args.at))
exact c = subst (λ (catalogue : CatalogueState). AnswersUnlessMemory c.args.bytes.now c.entry_at.result (next_entry catalogue (from c.args.bytes.now c.args.at)))
    (same_catalogue c.args.cat.now _ _ c.tables-tables.ensures.value c.procs-procs.ensures.value) c.entry_at.ensures

found : (c : goal.After-entry_at) → Finds (IsEntry c.args.cat.now) txn_bytes c.args.bytes.now c.args.at c.entry_at.result
found c = codec_finds_unless_memory (codec c) _ _ _ (λ i. omega (arith, c.type_inv.bytes i)) (exact c)

pub returns-clause-found : goal.returns-clause-found
returns-clause-found c = found c

pub returns-clause-again : goal.returns-clause-again
returns-clause-again c = codec_finds_spelled_unless_memory (codec c) _ _ _ (exact c)

pub returns-clause-inside : goal.returns-clause-inside
returns-clause-inside c = found_inside c.args.cat.now c.args.bytes.now c.args.at c.entry_at.result (found c)
