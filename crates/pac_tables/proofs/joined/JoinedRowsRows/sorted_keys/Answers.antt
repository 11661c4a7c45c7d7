-- The keys of the table.
use Rattle.std.proofs.Common.{ap, sym, ◌∙◌, arith}
use Rattle.std.proofs.lemmas.Result.{IfOk-weaker}
use Rattle.pac_value.specs.State.{keys_of}
use Rattle.pac_tables.proofs.JoinedLemmas.{keys-of}
use Rattle.pac_tables.proofs.joined.JoinedRowsRows.sorted_keys.Goals as goal

pub returns : goal.returns
returns g c =
    let count = ap (λ h. h.tables) c.self.view_is in
    let keys = keys-of g.T.TableRows.rows c.self.inside.tables.items c.from.result c.args.table c.index.result.now c.from.ensures (omega (arith, count, c.requires)) c.index.ensures in
    IfOk-weaker c.sorted_keys.result _ _ (λ found is. is ∙ sym keys ∙ ap (λ h. keys_of h.rows c.args.table) c.self.view_is) c.sorted_keys.ensures
