-- The block of the next set is one of those that are known, and its front is seen.
use Rattle.std.proofs.Common.{◌≡◌, ◌<◌, ℕ, length, sym, ap, ◌∙◌, subst, arith, rules}
use Rattle.std.specs.Prelude.{vec_len}
use Rattle.std.proofs.lemmas.List.{length-set}
use Rattle.pac_sets.specs.Sets.{Kept}
use Rattle.pac_sets.proofs.KeptLemmas.{left_block, fronts_next}
use Rattle.pac_sets.proofs.sets.note_fronts.Goals as goal

pub index-requires : goal.index-requires
index-requires g c =
    let e = c.index-sets-at.result in
    let of = c.from-block.ensures ∙ ap (λ (x : Kept g.row.P.Denot). x.0.block) (sym c.index-sets-at.is) in
    let inside = left_block (length c.args.fronts.now.items) c.args.sets.now c.args.from c.loop-at.at e c.from-block.result c.requires.each c.loop-at.auto.at c.loop-at-test.true c.index-sets-at.is of in
    let len : vec_len c.loop-at.fronts ≡ length c.args.fronts.now.items = search rules in
    subst (λ (n : ℕ). c.from-block.result < n) (sym len) inside

pub index_mut-requires : goal.index_mut-requires
index_mut-requires g c =
    let e = c.index-sets-at.result in
    let of = c.from-block.ensures ∙ ap (λ (x : Kept g.row.P.Denot). x.0.block) (sym c.index-sets-at.is) in
    let inside = left_block (length c.args.fronts.now.items) c.args.sets.now c.args.from c.loop-at.at e c.from-block.result c.requires.each c.loop-at.auto.at c.loop-at-test.true c.index-sets-at.is of in
    let len : vec_len c.loop-at.fronts ≡ length c.args.fronts.now.items = search rules in
    subst (λ (n : ℕ). c.from-block.result < n) (sym len) inside

pub loop-at-preserved : goal.loop-at-preserved
loop-at-preserved g c =
    let e = c.index-sets-at.result in
    let of = c.from-block.ensures ∙ ap (λ (x : Kept g.row.P.Denot). x.0.block) (sym c.index-sets-at.is) in
    record {
      len = length-set c.loop-at.fronts.items c.from-block.result c.front_or.result ∙ c.loop-at.invariant.len;
      past = omega arith;
      seen = fronts_next (length c.args.fronts.now.items) c.loop-at.fronts.items c.args.sets.now c.args.from c.loop-at.at e c.from-block.result c.index.result.now c.front_or.result
          c.loop-at.invariant.seen c.loop-at-test.true c.loop-at.auto.at c.requires.each c.index-sets-at.is of c.index.ensures c.front_or.ensures;
    }
