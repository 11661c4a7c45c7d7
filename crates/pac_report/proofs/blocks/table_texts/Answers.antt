-- A table more stands in the text of its home.
use Rattle.std.proofs.Common.{◌≡◌, ◌<◌, ℕ, ◌++◌, List, Vec, Global, map, length, codes, sym, ap, subst, ◌∙◌, arith, Some, refl, set, slice_get}
use Rattle.std.specs.List.{range_with_len}
use Rattle.std.proofs.lemmas.Option.{slice_get_read}
use Rattle.pac_types.specs.declared.table.Table.{Table}
use Rattle.pac_plan.specs.Nodes.{Node, VirtualWrite}
use Rattle.pac_report.specs.GroupTexts.{Hold, listed_members, with_listed}
use Rattle.pac_report.proofs.GroupLemmas.{hold_at, hold_count}
use Rattle.pac_report.proofs.BlockLemmas.{node_put, tables_more, table_name}
use Rattle.pac_report.proofs.blocks.table_texts.Goals as goal

pub index_mut-requires : goal.index_mut-requires
index_mut-requires c =
    let cat = c.args.cat.now in
    let plan = c.args.plan.now in
    let l = c.loop-t in
    let within : l.t < length plan.tables = omega (arith, c.loop-t-test.true, ap length c.tables-tables.ensures.value, c.requires) in
    omega (arith, hold_count l.texts.items (listed_members cat plan (map VirtualWrite (range_with_len 0 l.t))) plan.blocks l.invariant, c.is_plan.ensures.analysis.groups.below (VirtualWrite l.t) within, c.home_of-home.ensures, c.from-in-loop-t.ensures)

pub loop-t-preserved : goal.loop-t-preserved
loop-t-preserved c =
    let cat = c.args.cat.now in
    let plan = c.args.plan.now in
    let l = c.loop-t in
    let home = c.from-in-loop-t.result in
    let table = c.index-tables-t.result in
    let seen = c.tables-tables.result.now in
    let nodes : List Node = map VirtualWrite (range_with_len 0 l.t) in
    let within : l.t < length plan.tables = omega (arith, c.loop-t-test.true, ap length c.tables-tables.ensures.value, c.requires) in
    let is : home ≡ c.home_of-home.result = c.from-in-loop-t.ensures in
    let lt : home < plan.blocks = omega (arith, c.is_plan.ensures.analysis.groups.below (VirtualWrite l.t) within, c.home_of-home.ensures, is) in
    let read : slice_get seen l.t ≡ Some table = slice_get_read seen (length seen) l.t table refl c.loop-t-test.true c.index-tables-t.is in
    let at : slice_get cat.tables l.t ≡ Some table = ap (λ (ts : List Table). slice_get ts l.t) (sym c.tables-tables.ensures.value) ∙ read in
    let before : c.index_mut.result.now.items ≡ listed_members cat plan nodes home =
    ap (λ (v : Vec ℕ Global). v.items) c.index_mut.ensures.value ∙ hold_at l.texts.items (listed_members cat plan nodes) plan.blocks home c.index_mut.result.now l.invariant lt in
    subst (λ (ns : List Node). Hold (set l.texts.items home c.push_table.new.text) (listed_members cat plan ns) plan.blocks) (sym (tables_more l.t))
    (node_put cat plan nodes (VirtualWrite l.t) l.texts.items plan.blocks home c.push_table.new.text l.invariant (is ∙ c.home_of-home.ensures) lt
    (c.in_ok-push_table.ensures ∙ ap (λ (x : Table). with_listed c.index_mut.result.now.items (codes "table " ++ x.name)) (sym c.index-tables-t.is)
    ∙ ap (λ (bs : List ℕ). with_listed bs (codes "table " ++ table.name)) before
    ∙ ap (λ (name : List ℕ). with_listed (listed_members cat plan nodes home) (codes "table " ++ name)) (sym (table_name cat.tables l.t table at))))
