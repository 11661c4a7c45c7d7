-- What reading gives is what is spelled.
use Rattle.std.proofs.Common.{arith, subst}
use Rattle.pac_types.specs.declared.table.Table.{Table}
use Rattle.std.specs.Prelude.{List}
use Rattle.pac_bytes.specs.Reading.{from}
use Rattle.pac_bytes.specs.Readers.{AnswersUnlessMemory, Finds}
use Rattle.pac_bytes.proofs.Codec.{IsCodec}
use Rattle.pac_bytes.proofs.Laws.{codec_finds_unless_memory, codec_finds_spelled_unless_memory}
use Rattle.pac_entry.specs.Entries.{change_bytes, IsRecord}
use Rattle.pac_entry.specs.EntryReading.{next_change}
use Rattle.pac_entry.proofs.ChangeLemmas.{change_codec}
use Rattle.pac_entry.proofs.ReadingLemmas.{few_tables}
use Rattle.pac_entry.proofs.reading.change_at.Goals as goal

codec : (c : goal.After-one_change_at) → IsCodec (IsRecord c.args.cat.now.tables) change_bytes (next_change c.args.cat.now.tables)
codec c = change_codec c.args.cat.now.tables (few_tables c.args.cat.now.tables (omega (arith, c.tables-tables.ensures.few)) c.tables-tables.ensures.well_formed)

exact : (c : goal.After-one_change_at) → AnswersUnlessMemory c.args.bytes.now c.one_change_at.result (next_change c.args.cat.now.tables (from c.args.bytes.now c.args.at))
exact c = subst (λ (tables : List Table). AnswersUnlessMemory c.args.bytes.now c.one_change_at.result (next_change tables (from c.args.bytes.now c.args.at)))
    c.tables-tables.ensures.value c.one_change_at.ensures

pub returns-clause-found : goal.returns-clause-found
returns-clause-found c = codec_finds_unless_memory (codec c) _ _ _ (λ i. omega (arith, c.type_inv.bytes i)) (exact c)

pub returns-clause-again : goal.returns-clause-again
returns-clause-again c = codec_finds_spelled_unless_memory (codec c) _ _ _ (exact c)
