-- Words that are 0 have no bit.
use Rattle.std.proofs.Common.{◌≡◌, replicate, ◌*◌, refl, subst, ℕ, List, arith}
use Rattle.std.proofs.lemmas.Grind.{common_steps}
use Rattle.pac_graph.specs.Matrix.{HasBit}
use Rattle.pac_graph.proofs.MatrixLemmas.{no_bit, IsBit}
use Rattle.pac_graph.proofs.matrix.Matrix.new.Goals as goal

pub returns-clause-empty : goal.returns-clause-empty
unfolding HasBit
returns-clause-empty c = let n : ℕ = c.args.nodes in
    let width : ℕ = c.div_ceil-width.result in
    let e : c.in_ok-words.words.items ≡ replicate (n * width) 0 = grind (arith, common_steps) in
    λ a b h. no_bit n width (n * width) a b (omega (arith, c.div_ceil-width.ensures)) refl (let P : List ℕ → Type 0 = λ words. IsBit n width words a b in subst P e h)
