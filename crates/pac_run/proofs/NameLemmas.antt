-- The names of the tables of a catalogue that a text has.
use Rattle.std.proofs.Common.{◌≡◌, ◌∙◌, ℕ, suc, List, map, sym, ap, subst}
use Rattle.std.specs.List.{AllByRecursion, list_all}
use Rattle.std.specs.Prelude.{true}
use Rattle.pac_tokens.specs.declared.token.Spanned.{Spanned}
use Rattle.pac_tokens.specs.Tokens.{is_name}
use Rattle.pac_tokens.proofs.Spelled.{word_names}
use Rattle.pac_syntax.specs.declared.tree.Tree.{Tree}
use Rattle.pac_syntax.specs.Grammar.{Marked, TablesForm, NoTable, ATable, marks_of, table_nodes, tokens_of}
use Rattle.pac_print.proofs.Proper.{AreProperTables, IsFine, all_fine, fine_catalogue}
use Rattle.pac_print.proofs.TokenFacts.{IsToken, all_tokens}
use Rattle.pac_types.specs.declared.table.Table.{Table}
use Rattle.pac_types.specs.CatalogueText.{HasCatalogue}
use Rattle.pac_types.specs.Numbering.{table_of}
use Rattle.pac_types.specs.Typing.{CatalogueState}

-- each table has a name of letters, digits and `_`
abbrev pub AreNamed : List Table → Type 0
AreNamed tables = AllByRecursion (λ table. list_all is_name table.name ≡ true) tables

abbrev AreTokens : List Spanned → Type 0
AreTokens ts = AllByRecursion (λ t. IsToken t.token) ts

proper-names : (i : ℕ) (form : TablesForm) → AreProperTables i form → AreNamed (map table_of (table_nodes form))
proper-names i NoTable proper = tt
proper-names i (ATable p0 n p1 p2 k p3 c t cs p4 p5 ts) proper = (word_names n.name proper.1.0, proper-names (suc i) ts proper.4)

pub names-of : (text : List ℕ) (catalogue : CatalogueState) → HasCatalogue text catalogue → AreNamed catalogue.tables
names-of text catalogue has =
    let reads = has.reads in
    let whole = reads.parsed.1 in
    let tokens : AreTokens (tokens_of reads.parsed.0) = subst AreTokens (sym reads.parsed.2) (all_tokens _ 0 text reads.tokens _ reads.lexed) in
    let fine : AllByRecursion IsFine (marks_of whole.form) = subst (λ (ms : List Marked). AllByRecursion IsFine ms) (sym whole.spells) (all_fine reads.parsed.0 reads.parsed.3 tokens) in
    let proper = fine_catalogue whole.form whole.levels fine in
    let same : catalogue.tables ≡ map table_of (table_nodes whole.form.tables) = has.typed.tables ∙ ap (λ (t : Tree). map table_of t.tables) (sym whole.is_tree) in
    subst (λ (l : List Table). AreNamed l) (sym same) (proper-names 0 whole.form.tables proper.tables)
