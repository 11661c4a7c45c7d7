-- What reading gives is what is spelled.
use Rattle.std.proofs.Common.{arith}
use Rattle.pac_bytes.proofs.Codec.{IsCodec}
use Rattle.pac_bytes.proofs.Laws.{codec_finds_unless_memory, codec_finds_spelled_unless_memory}
use Rattle.pac_entry.proofs.ReadingLemmas.{few_tables}
use Rattle.pac_tuple.specs.Images.{images_bytes, AreTxnImagesOf}
use Rattle.pac_tuple.specs.ImageReading.{next_images}
use Rattle.pac_tuple.proofs.ImageLemmas.{images_codec}
use Rattle.pac_tuple.proofs.reading.images_at.Goals as goal

codec : (c : goal.After-list_at) → IsCodec (AreTxnImagesOf c.args.cat.now.tables) images_bytes (next_images c.args.cat.now.tables)
codec c = images_codec c.args.cat.now.tables (few_tables c.args.cat.now.tables (omega (arith, c.tables-tables.ensures.few)) c.tables-tables.ensures.well_formed)

pub returns-clause-found : goal.returns-clause-found
returns-clause-found c = codec_finds_unless_memory (codec c) _ _ _ (λ i. omega (arith, c.type_inv.bytes i)) c.list_at.ensures

pub returns-clause-again : goal.returns-clause-again
returns-clause-again c = codec_finds_spelled_unless_memory (codec c) _ _ _ c.list_at.ensures
