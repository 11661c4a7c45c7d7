-- What reading gives is what is spelled.
use Rattle.std.proofs.Common.{arith}
use Rattle.pac_bytes.proofs.Laws.{codec_finds, codec_finds_spelled}
use Rattle.pac_bytes.proofs.TypedLemmas.{key_codec}
use Rattle.pac_bytes.proofs.keys.key_at.Goals as goal

pub returns-clause-found : goal.returns-clause-found
returns-clause-found c = codec_finds (key_codec c.args.ty) _ _ _ (λ i. omega (arith, c.type_inv.bytes i)) c.read_key.ensures.exact

pub returns-clause-again : goal.returns-clause-again
returns-clause-again c = codec_finds_spelled (key_codec c.args.ty) _ _ _ c.read_key.ensures.exact
