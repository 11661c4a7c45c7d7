-- One bit of one word is set.
use Rattle.std.proofs.Common.{◌≡◌, ◌⊎◌, ◌↔◌, ◌*◌, ◌^◌, ◌%◌, ℕ, length, get_or, set, bit_or, refl, sym, subst, arith}
use Rattle.pac_graph.specs.Matrix.{HasBit}
use Rattle.pac_graph.proofs.MatrixLemmas.{IsBit, set_bit}
use Rattle.pac_graph.proofs.matrix.Matrix.set.Goals as goal

pub returns-clause-bits : goal.returns-clause-bits
unfolding HasBit
returns-clause-bits c = let m = c.args.self.now in
    let from : ℕ = c.args.from in
    let to : ℕ = c.args.to in
    let x : ℕ = c.index_mut.result.now in
    let y : ℕ = bit_or x (1 * 2 ^ (to % 64) % 2 ^ 64) in
    let rows : length m.words.items ≡ m.nodes * m.width = omega (arith, m.rows, m.words.ok) in
    subst (λ at. (x ≡ get_or m.words.items at x) → (a b : ℕ) → IsBit m.nodes m.width (set m.words.items at y) a b ↔ (IsBit m.nodes m.width m.words.items a b ⊎ ((a ≡ from) × (b ≡ to)))) (sym c.word_of-word.ensures.offset) (λ read. set_bit m.nodes m.width m.words.items from to x y m.wide rows c.requires.from c.requires.to read refl) c.index_mut.ensures.value
