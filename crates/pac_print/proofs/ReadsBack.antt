-- The canonical text of a tree that is read reads as the same tree again, whose text it is.
use Rattle.std.proofs.Common.{◌≡◌, ◌≤◌, ℕ, List, length, refl, sym, ap, subst, ◌∙◌}
use Rattle.std.specs.List.{AllByRecursion}
use Rattle.pac_tokens.specs.declared.token.Spanned.{Spanned}
use Rattle.pac_syntax.specs.declared.tree.Tree.{Tree}
use Rattle.pac_syntax.specs.Grammar.{CatalogueForm, Marked, tree_of, marks_of, tokens_of}
use Rattle.pac_syntax.specs.Faults.{ReadsTokens}
use Rattle.pac_print.specs.Unplaced.{ReadsButForOffsets}
use Rattle.pac_syntax.specs.Reading.{Reads, IsTree}
use Rattle.pac_print.specs.Canonical.{canonical}
use Rattle.pac_print.specs.Unplaced.{without_offsets}
use Rattle.pac_syntax.proofs.OneReading.{reads_once}
use Rattle.pac_print.proofs.PrintedTrees.{catalogue}
use Rattle.pac_print.proofs.Proper.{IsProperCatalogue, IsFine, all_fine, fine_catalogue}
use Rattle.pac_print.proofs.ProperWithin.{catalogue_within, catalogue_levels}
use Rattle.pac_print.proofs.SameText.{same_text}
use Rattle.pac_print.proofs.TokenFacts.{IsToken, all_tokens}

abbrev AreTokens : List Spanned → Type 0
AreTokens ts = AllByRecursion (λ t. IsToken t.token) ts

-- a derivation's canonical text is spelled by one of the same tree
derivation_back : (form : CatalogueForm) → IsProperCatalogue form → length (canonical (tree_of form)) ≤ 65536 → ReadsButForOffsets (canonical (tree_of form)) (tree_of form)
derivation_back form p short =
    let w = catalogue form p in
    let parsed : ReadsTokens (tokens_of (marks_of w.again)) (tree_of w.again) =
    (marks_of w.again, record { form = w.again; levels = catalogue_levels w.again w.proper; spells = refl; is_tree = refl }, refl, catalogue_within w.again w.proper) in
    (tree_of w.again, record { short = short; tokens = tokens_of (marks_of w.again); lexed = w.lexed; parsed = parsed }, w.same)

reads_back : (tree : Tree) → IsTree tree → length (canonical tree) ≤ 65536 → ReadsButForOffsets (canonical tree) tree
reads_back tree is short =
    let reads = is.1 in
    let whole = reads.parsed.1 in
    let tokens : AreTokens (tokens_of reads.parsed.0) = subst AreTokens (sym reads.parsed.2) (all_tokens _ 0 is.0 reads.tokens _ reads.lexed) in
    let fine : AllByRecursion IsFine (marks_of whole.form) = subst (λ (ms : List Marked). AllByRecursion IsFine ms) (sym whole.spells) (all_fine reads.parsed.0 reads.parsed.3 tokens) in
    let short_form : length (canonical (tree_of whole.form)) ≤ 65536 = subst (λ (t : Tree). length (canonical t) ≤ 65536) (sym whole.is_tree) short in
    subst (λ (t : Tree). ReadsButForOffsets (canonical t) t) whole.is_tree (derivation_back whole.form (fine_catalogue whole.form whole.levels fine) short_form)

-- ---- what is written of a tree

-- what is its canonical text reads as it
pub written_reads : (text : List ℕ) (tree : Tree) → text ≡ canonical tree → IsTree tree → length text ≤ 65536 → ReadsButForOffsets text tree
written_reads text tree e is short = subst (λ (x : List ℕ). ReadsButForOffsets x tree) (sym e) (reads_back tree is (subst (λ (x : List ℕ). length x ≤ 65536) e short))

-- what it reads as has that text again
pub written_again : (text : List ℕ) (tree other : Tree) → text ≡ canonical tree → IsTree tree → Reads text other → text ≡ canonical other
written_again text tree other e is reads =
    let back = written_reads text tree e is reads.short in
    let same : back.0 ≡ other = reads_once text back.0 other back.1 reads in
    e ∙ same_text tree other (sym back.2 ∙ ap without_offsets same)
