-- A tree has one catalogue, and is typed where no fault stands in it.
use Rattle.std.proofs.Common.{◌≡◌}
use Rattle.std.proofs.lemmas.Result.{IfOk-weaker}
use Rattle.pac_types.specs.Typing.{CatalogueState, Types}
use Rattle.pac_syntax.proofs.Trees.{tree-within, tree-ordered}
use Rattle.pac_types.proofs.TypingLemmas.{one_catalogue}
use Rattle.pac_types.proofs.TypedLemmas.{typed_both}
use Rattle.pac_types.proofs.checker.check.Goals as goal

pub returns-clause-one : goal.returns-clause-one
returns-clause-one c =
    IfOk-weaker c.check_tree.result (λ catalogue. Types c.args.tree catalogue) (λ catalogue. (other : CatalogueState) → Types c.args.tree other → other ≡ catalogue)
    (λ catalogue types other others. one_catalogue c.args.tree other catalogue others types) c.check_tree.ensures.ok

pub returns-clause-typed : goal.returns-clause-typed
returns-clause-typed c = typed_both c.args.tree (tree-within c.args.tree c.requires) (tree-ordered c.args.tree c.requires)

pub returns-clause-only : goal.returns-clause-only
returns-clause-only c = λ typed fault reported. (typed_both c.args.tree (tree-within c.args.tree c.requires) (tree-ordered c.args.tree c.requires)).0 typed fault (c.check_tree.ensures.fault fault reported).stands
