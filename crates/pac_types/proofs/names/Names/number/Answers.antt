-- A index among the names is below their number.
use Rattle.std.proofs.Common.{◌<◌, ℕ, Option, length, subst, sym}
use Rattle.std.specs.Prelude.{IfSome}
use Rattle.pac_types.proofs.NameLemmas.{number-within}
use Rattle.pac_types.proofs.names.Names.number.Goals as goal

pub returns-clause-within : goal.returns-clause-within
returns-clause-within c = subst (λ (number : Option ℕ). IfSome number (λ n. n < length c.args.self.now)) (sym c.look_up.ensures) (number-within c.args.self.now c.args.name.now)
