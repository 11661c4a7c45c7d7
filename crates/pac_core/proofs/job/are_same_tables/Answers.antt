-- One table more is the same.
use Rattle.std.proofs.Common.{◌≡◌, ◌<◌, length, sym, ◌∙◌, arith}
use Rattle.std.proofs.lemmas.List.{take_more_same}
use Rattle.std.proofs.lemmas.Option.{slice_get_within}
use Rattle.pac_core.proofs.SameLists.{item_is}
use Rattle.pac_core.proofs.job.are_same_tables.Goals as goal

pub loop-table-preserved : goal.loop-table-preserved
loop-table-preserved c =
    let tables = c.args.plan.now.tables in
    let others = c.args.other.now.tables in
    let i = c.loop-table.table in
    let x = c.table_types.result.now in
    let len = c.loop-table.invariant.equal in
    let here : i < length tables = slice_get_within tables i x c.table_types.ensures in
    let same : x ≡ c.table_types-in-loop-table.result.now = c.same.ensures.0 c.if-not-same.false in
    record {
      equal = len;
      so_far = take_more_same tables others i x here (omega (arith, here, len)) c.loop-table.invariant.so_far
          (item_is tables i x x c.table_types.ensures ∙ same ∙ sym (item_is others i x c.table_types-in-loop-table.result.now c.table_types-in-loop-table.ensures));
    }
