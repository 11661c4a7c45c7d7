-- Each share that is joined is made, from the last one on.
use Rattle.std.proofs.Common.{◌∙◌, length, sym, subst, arith}
use Rattle.pac_tuple.specs.Shares.{AreRowsWithin}
use Rattle.pac_tuple.proofs.LayLemmas.{AreLaidFrom, one_made, all_made, found-within, one_fewer, last_found, others_found}
use Rattle.pac_tuple.proofs.laying.lay.Goals as goal

pub make-requires : goal.make-requires
make-requires g c =
    let inv = c.loop-last.invariant in
    let found = last_found c.from-count.result c.args.images.now c.loop-last.found.items c.pop.new.self.items c.in-Some.last c.in-Some.ensures.items c.in_ok-last.field-0 c.in_ok-last.was inv.shares in
    subst (λ n. AreRowsWithin n c.in_ok-last.field-0) (sym inv.tables)
    (found-within (g.R.Rows.tables c.args.rows) (record { count = c.from-count.result; number = length c.pop.new.self.items }) c.args.images.now c.in_ok-last.field-0 c.requires.within found)

pub loop-last-preserved : goal.loop-last-preserved
loop-last-preserved g c =
    let inv = c.loop-last.invariant in
    let count = c.from-count.result in
    let lists = c.args.images.now in
    let before = g.R.Rows.held c.args.rows in
    let now = g.R.Rows.held c.loop-last.rows in
    let fewer = one_fewer count lists c.loop-last.found.items c.pop.new.self.items c.in-Some.last c.in-Some.ensures.items in
    let found = last_found count lists c.loop-last.found.items c.pop.new.self.items c.in-Some.last c.in-Some.ensures.items c.in_ok-last.field-0 c.in_ok-last.was inv.shares in
    record {
      rows =
          one_made count lists before (length c.pop.new.self.items) c.in_ok-last.field-0 now (g.R.Rows.held c.make.new.rows) found c.in_ok-make.ensures.rows
          (subst (λ n. AreLaidFrom count n lists before now) fewer inv.rows);
      shares = others_found count lists c.loop-last.found.items c.pop.new.self.items c.in-Some.last c.in-Some.ensures.items inv.shares;
      tables = c.in_ok-make.ensures.tables ∙ inv.tables;
    }

pub returns-clause-rows : goal.returns-clause-rows
returns-clause-rows g c =
    let none = c.in_default.ensures.cases.0 in
    all_made c.from-count.result c.args.images.now (g.R.Rows.held c.args.rows) (length c.loop-last.found.items) (g.R.Rows.held c.loop-last.rows) (omega (arith, none)) c.loop-last.invariant.rows
