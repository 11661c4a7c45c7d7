-- Runs of the reading over tokens with their roles, without the limits.
use Rattle.std.proofs.Common.{◌≡◌, List, [], ◌∷◌, Some}
use Rattle.pac_syntax.specs.declared.tree.Tree.{Tree}
use Rattle.pac_syntax.specs.Grammar.{Marked}
use Rattle.pac_syntax.specs.Machine.{Steps, Next, feed, finish}

-- these tokens lead from k to the tree, and have these roles there
abbrev pub Runs : Steps → List Marked → Tree → Type 0
Runs k [] tree = finish k ≡ Some tree
Runs k (m ∷ ms) tree = (n : Next) × (feed k m.token ≡ Some n) × (n.role ≡ m.role) × Runs n.steps ms tree
