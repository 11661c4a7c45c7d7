-- What reading gives is what is spelled.
use Rattle.std.proofs.Common.{arith}
use Rattle.pac_types.specs.WellFormed.{types}
use Rattle.pac_bytes.proofs.Laws.{codec_finds_unless_memory, codec_finds_spelled_unless_memory}
use Rattle.pac_bytes.proofs.TypedLemmas.{values_codec}
use Rattle.pac_entry.proofs.row.args_at.Goals as goal

pub returns-clause-found : goal.returns-clause-found
returns-clause-found c = codec_finds_unless_memory (values_codec (types c.args.params.now)) _ _ _ (λ i. omega (arith, c.type_inv.bytes i)) c.read_args.ensures

pub returns-clause-again : goal.returns-clause-again
returns-clause-again c = codec_finds_spelled_unless_memory (values_codec (types c.args.params.now)) _ _ _ c.read_args.ensures
