use Rattle.pac_piece.proofs.GivenLemmas.{gives_as_meant}
use Rattle.pac_piece.proofs.laws.gives_as_meant.Goals as goal

pub returns : goal.returns
returns c = gives_as_meant
