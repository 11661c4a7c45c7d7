-- What stands at the place.
use Rattle.std.proofs.Common.{◌≡◌, ◌<◌, length, refl, sym, subst, arith}
use Rattle.std.proofs.lemmas.Option.{slice_get_read}
use Rattle.pac_core.specs.declared.stage.OpenSet.{OpenSet}
use Rattle.pac_core.proofs.PlacedPieces.{cells_len}
use Rattle.pac_core.proofs.ReadyPlaces.{same_open}
use Rattle.pac_core.proofs.progress.Progress.cells_at.Goals as goal

pub index-requires : goal.index-requires
index-requires c =
    let p = c.args.self.now in
    let at = c.requires.place.1 in
    let o : c.open_at.result.now ≡ at.stands.opening = same_open p c.args.place.at at.stands.set at.stands.opening c.open_at.result.now at.stands.there c.open_at.ensures in
    let lt : c.args.place.position < length c.open_at.result.now.cells.items =
    subst (λ (x : OpenSet). c.args.place.position < length x.cells.items) (sym o) (cells_len c.requires.kept.job p c.requires.kept.keeps c.args.place c.args.piece c.requires.place.0 at) in
    omega (arith, lt, c.open_at.result.now.cells.ok.0)

pub returns : goal.returns
returns c =
    let p = c.args.self.now in
    let at = c.requires.place.1 in
    let o : c.open_at.result.now ≡ at.stands.opening = same_open p c.args.place.at at.stands.set at.stands.opening c.open_at.result.now at.stands.there c.open_at.ensures in
    let lt : c.args.place.position < length c.open_at.result.now.cells.items =
    subst (λ (x : OpenSet). c.args.place.position < length x.cells.items) (sym o) (cells_len c.requires.kept.job p c.requires.kept.keeps c.args.place c.args.piece c.requires.place.0 at) in (
      c.open_at.ensures.0,
      c.open_at.result.now,
      c.open_at.ensures.1,
      slice_get_read c.open_at.result.now.cells.items (length c.open_at.result.now.cells.items) c.args.place.position c.index.result.now refl lt c.index.ensures,
    )
