-- The last of what is left is made.
use Rattle.std.proofs.Common.{◌≡◌, ◌++◌, ◌∷◌, [], refl, sym, ap, subst, ◌∙◌}
use Rattle.pac_tables.specs.Written.{written}
use Rattle.pac_tables.proofs.WriteLemmas.{written-last}
use Rattle.pac_piece.specs.InPlace.{HaveCellRoom}
use Rattle.pac_piece.proofs.PlaceLemmas.{room-last}
use Rattle.pac_piece.proofs.ground.make_all.Goals as goal

pub loop-write-init : goal.loop-write-init
loop-write-init g c = record { room = c.requires; rest = refl; tables = refl }

pub make-requires : goal.make-requires
make-requires g c =
    let items : c.loop-write.writes.items ≡ c.pop.new.self.items ++ c.in-Some.write ∷ [] = c.in-Some.ensures.items in
    let n = g.R.Rows.tables c.loop-write.rows in
    let t = g.R.Rows.held c.loop-write.rows in
    (room-last n t c.pop.new.self.items c.in-Some.write (subst (HaveCellRoom n t) items c.loop-write.invariant.room)).0

pub loop-write-preserved : goal.loop-write-preserved
loop-write-preserved g c =
    let t = g.R.Rows.held c.loop-write.rows in
    let n = g.R.Rows.tables c.loop-write.rows in
    let items : c.loop-write.writes.items ≡ c.pop.new.self.items ++ c.in-Some.write ∷ [] = c.in-Some.ensures.items in
    let others = room-last n t c.pop.new.self.items c.in-Some.write (subst (HaveCellRoom n t) items c.loop-write.invariant.room) in
    record {
      room =
          subst (λ m. HaveCellRoom m (g.R.Rows.held c.make.new.rows) c.pop.new.self.items) (sym c.make.ensures.tables)
          (subst (λ m. HaveCellRoom n m c.pop.new.self.items) (sym c.make.ensures.rows) others.1);
      rest =
          ap (λ m. written m c.pop.new.self.items) c.make.ensures.rows
          ∙ sym (written-last t c.pop.new.self.items c.in-Some.write)
          ∙ sym (ap (written t) items)
          ∙ c.loop-write.invariant.rest;
      tables = c.make.ensures.tables ∙ c.loop-write.invariant.tables;
    }
