-- All cells that the touches name are there, in order.
use Rattle.std.proofs.Common.{◌≡◌, List, ◌++◌, map, sym, ap, subst, ◌∙◌}
use Rattle.std.specs.Prelude.{Contains}
use Rattle.std.proofs.lemmas.List.{append-nil, drop_all}
use Rattle.pac_value.specs.State.{Cell}
use Rattle.pac_plan.specs.declared.access.Access.{Access}
use Rattle.pac_plan.specs.declared.access.Touch.{Touch}
use Rattle.pac_plan.specs.declared.access.Access.TheVariants.{Keys, Whole}
use Rattle.pac_plan.specs.Pieces.{named_cell}
use Rattle.pac_core.proofs.TouchedCells.{covered_named, named_covered}
use Rattle.pac_core.proofs.cells.touched.Goals as goal

not_whole : (touches : List Touch) → ◌≡◌ {A = Access} (Keys touches) Whole → ⊥
not_whole touches e = cc

pub returns : goal.returns
returns c =
    let touches = c.args.touches.now in
    let cells = c.loop-touch.cells.items in
    let all : cells ≡ map named_cell touches =
    sym (append-nil cells) ∙ ap (λ l. cells ++ map named_cell l) (sym (drop_all c.loop-touch.touch-index touches c.loop-touch-test.false)) ∙ c.loop-touch.invariant.all in
    record {
      keys = not_whole touches;
      each = λ a. (
        (λ h. named_covered touches a (subst (λ (l : List Cell). Contains l a) all ((c.order.ensures.same a).0 h))),
        (λ h. (c.order.ensures.same a).1 (subst (λ (l : List Cell). Contains l a) (sym all) (covered_named touches a h))),
      );
      ascending = c.order.ensures.ascending;
    }
