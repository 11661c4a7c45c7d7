-- The last of what is left is made.
use Rattle.std.proofs.Common.{◌≡◌, ◌++◌, ◌∷◌, [], refl, sym, ap, subst, ◌∙◌}
use Rattle.std.specs.List.{AllByRecursion}
use Rattle.std.proofs.lemmas.List.Elements.{recursion_from_All}
use Rattle.pac_tables.specs.Written.{IsOnce, written}
use Rattle.pac_tables.specs.Room.{IsReady}
use Rattle.pac_tables.proofs.WriteLemmas.{written-last}
use Rattle.pac_tables.proofs.RoomLemmas.{ready-others}
use Rattle.pac_tables.proofs.writes.make_all.Goals as goal

pub loop-write-init : goal.loop-write-init
loop-write-init g c = record {
  ready = recursion_from_All _ _ c.requires.ready;
  once = c.requires.once;
  rest = refl;
  tables = refl;
}

pub make-requires : goal.make-requires
make-requires g c =
    let t = g.R.Rows.held c.loop-write.rows in
    let n = g.R.Rows.tables c.loop-write.rows in
    let items : c.loop-write.writes.items ≡ c.pop.new.self.items ++ c.in-Some.write ∷ [] = c.in-Some.ensures.items in
    (ready-others n t c.pop.new.self.items c.in-Some.write (subst (AllByRecursion (IsReady n t)) items c.loop-write.invariant.ready) (subst IsOnce items c.loop-write.invariant.once)).0

pub loop-write-preserved : goal.loop-write-preserved
loop-write-preserved g c =
    let t = g.R.Rows.held c.loop-write.rows in
    let n = g.R.Rows.tables c.loop-write.rows in
    let items : c.loop-write.writes.items ≡ c.pop.new.self.items ++ c.in-Some.write ∷ [] = c.in-Some.ensures.items in
    let others = ready-others n t c.pop.new.self.items c.in-Some.write (subst (AllByRecursion (IsReady n t)) items c.loop-write.invariant.ready) (subst IsOnce items c.loop-write.invariant.once) in
    record {
      ready =
          subst (λ m. AllByRecursion (IsReady m (g.R.Rows.held c.make.new.rows)) c.pop.new.self.items) (sym c.make.ensures.tables)
          (subst (λ m. AllByRecursion (IsReady n m) c.pop.new.self.items) (sym c.make.ensures.rows) others.1.0);
      once = others.1.1;
      rest =
          ap (λ m. written m c.pop.new.self.items) c.make.ensures.rows
          ∙ sym (written-last t c.pop.new.self.items c.in-Some.write)
          ∙ sym (ap (written t) items)
          ∙ c.loop-write.invariant.rest;
      tables = c.make.ensures.tables ∙ c.loop-write.invariant.tables;
    }
