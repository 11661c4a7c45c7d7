-- A table over the limit is one of the catalogue's.
use Rattle.std.proofs.Common.{◌≡◌, ◌<◌, ℕ, List, length, slice_get, get_or, Some, Result, Err, refl, sym, ap, subst, ◌∙◌, arith}
use Rattle.std.specs.Option.{option_map}
use Rattle.std.proofs.lemmas.Option.{slice_get-get_or}
use Rattle.pac_types.specs.declared.table.Table.{Table}
use Rattle.pac_value.specs.State.{Tables}
use Rattle.pac_types.specs.Execution.{first_over}
use Rattle.pac_restore.specs.declared.limit.TooManyRows.{TooManyRows}
use Rattle.pac_restore.specs.Limits.{IsFirstOver}
use Rattle.pac_restore.proofs.OverLemmas.{over_within}
use Rattle.pac_restore.proofs.limit.test_rows.Goals as goal

named : (tables shown : List Table) (n k : ℕ) (table : Table) → shown ≡ tables → k ≡ n → n < length tables → option_map (λ (t : Table). t.name) (slice_get tables n) ≡ Some (get_or shown k table).name
named tables shown n k table same at within = ap (option_map (λ (t : Table). t.name)) (slice_get-get_or tables n table within)
    ∙ sym (ap (λ (xs : List Table). Some (get_or xs k table).name) same ∙ ap (λ (i : ℕ). Some (get_or tables i table).name) at)

-- the table that was found is the first over the limit
found : (limit number count : ℕ) (tables : List Table) (held : Tables) (k rows : ℕ) → number ≡ limit → count ≡ length tables → Some (k, rows) ≡ first_over number count held → first_over limit (length tables) held ≡ Some (k, rows)
found limit number count tables held k rows e f is = ap (λ n. first_over n (length tables) held) (sym e) ∙ ap (λ n. first_over number n held) (sym f) ∙ sym is

inside : (tables shown : List Table) (limit k i rows : ℕ) (held : Tables) → shown ≡ tables → i ≡ k → first_over limit (length tables) held ≡ Some (k, rows) → i < length shown
inside tables shown limit k i rows held same at first =
    let lt : k < length tables = over_within limit (length tables) held k rows first in
    let long : length shown ≡ length tables = ap length same in
    omega (arith, lt, at, long)

pub bounds-tables-from : goal.bounds-tables-from
bounds-tables-from g c =
    let tables = c.args.cat.now.tables in
    let held = g.R.Rows.held c.args.rows.now in
    inside tables c.tables.result.now c.args.limit c.in-Some.table c.from.result c.in-Some.rows held c.tables.ensures.value c.from.ensures
    (found c.args.limit c.args.limit (g.R.Rows.tables c.args.rows.now) tables held c.in-Some.table c.in-Some.rows refl c.requires c.in-Some.ensures)

the_excess : (excess other : TooManyRows) → ◌≡◌ {A = Result (Unit {0}) TooManyRows} (Err excess) (Err other) → excess ≡ other
the_excess excess other e = cc

pub returns-in-Some-clause-over : goal.returns-in-Some-clause-over
returns-in-Some-clause-over g c = λ excess is.
    let tables = c.args.cat.now.tables in
    let held = g.R.Rows.held c.args.rows.now in
    let first = found c.args.limit c.args.limit (g.R.Rows.tables c.args.rows.now) tables held c.in-Some.table c.in-Some.rows refl c.requires c.in-Some.ensures in
    subst (λ (x : TooManyRows). IsFirstOver c.args.limit tables held x.table x.rows × (x.limit ≡ c.args.limit)) (the_excess _ excess is) (
      (
        c.in-Some.table,
        first,
        named tables c.tables.result.now c.in-Some.table c.from.result c.index-tables-from.result c.tables.ensures.value c.from.ensures (over_within c.args.limit (length tables) held c.in-Some.table c.in-Some.rows first),
      ),
      refl,
    )

pub bounds-tables-from-in-Some : goal.bounds-tables-from-in-Some
bounds-tables-from-in-Some g c = bounds-tables-from g c
