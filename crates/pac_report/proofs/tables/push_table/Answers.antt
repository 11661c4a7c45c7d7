-- The rows that are listed are those of the table's lines.
use Rattle.std.proofs.Common.{◌≡◌, ◌++◌, length, sym, ap, subst, arith}
use Rattle.std.specs.Prelude.{flat_map}
use Rattle.std.proofs.lemmas.List.{length-map}
use Rattle.pac_value.specs.State.{keys_of}
use Rattle.pac_report.specs.Dump.{table_dump}
use Rattle.pac_report.proofs.DumpLemmas.{line, lines, after-head}
use Rattle.pac_report.proofs.tables.push_table.Goals as goal

pub loop-entry-init : goal.loop-entry-init
loop-entry-init g c =
    let held = g.R.Rows.held c.args.rows.now in
    let found = c.in_ok-found.found.items in
    let keys = keys_of held c.args.table in
    let body = lines held c.args.table (λ e. e.0.now) (λ e. e.1.now) found keys c.in_ok-found.ensures.keys c.in_ok-found.ensures.rows in
    let count : c.len.result ≡ length keys = omega (arith, c.len.ensures, c.in_ok-found.found.ok, length-map found (λ e. e.0.now), ap (λ ks. length ks) c.in_ok-found.ensures.keys) in
    subst (λ es. c.push_head.new.out.items ++ flat_map (λ e. line e.0.now e.1.now) es ≡ c.args.out.now.items ++ table_dump held c.args.table c.args.name) (sym c.deref-entry-items.ensures.value)
    (after-head c.args.out.now.items c.push_head.new.out.items c.args.name c.len.result held c.args.table (flat_map (λ e. line e.0.now e.1.now) found) c.in_ok-push_head.ensures count body)
