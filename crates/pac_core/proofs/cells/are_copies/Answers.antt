-- One copy more is equal.
use Rattle.std.proofs.Common.{◌≡◌, ℕ, zero, suc, ◌<◌, List, [], ◌∷◌, map, length, get_or, refl, sym, ap, subst, ◌∙◌, arith}
use Rattle.std.proofs.lemmas.List.{length-map, take_more_same}
use Rattle.pac_core.specs.Cells.{copies_at, copy_at}
use Rattle.pac_core.proofs.cells.are_copies.Goals as goal

get_map : {A B : Type 0} (f : A → B) (xs : List A) (i : ℕ) (d : B) (e : A) → i < length xs → get_or (map f xs) i d ≡ f (get_or xs i e)
get_map f [] i d e lt = absurd (omega (arith, lt))
get_map f (x ∷ xs) zero d e lt = refl
get_map f (x ∷ xs) (suc i) d e lt = get_map f xs i d e (omega (arith, lt))

pub loop-i-preserved : goal.loop-i-preserved
loop-i-preserved g c =
    let tables = g.R.Rows.held c.args.rows.now in
    let cells = c.args.cells.now in
    let i = c.loop-i.i in
    let w = c.index-writes-i.result in
    let a = c.index-cells-i.result in
    let lt = c.loop-i-test.true in
    let len = c.loop-i.invariant.equal in
    let is : w ≡ copy_at tables a = c.is_copy.ensures.0 c.if-not-is_copy.false in
    record {
      equal = len;
      so_far = take_more_same c.args.writes.now (copies_at tables cells) i w (omega (arith, lt, len)) (subst (λ n. i < n) (sym (length-map cells (copy_at tables))) lt) c.loop-i.invariant.so_far
          (sym c.index-writes-i.is ∙ is ∙ ap (copy_at tables) c.index-cells-i.is ∙ sym (get_map (copy_at tables) cells i w a lt));
    }
