-- A text has one explanation: it has one tree and that one catalogue, whose procedures have one local graph each and one plan.
use Rattle.std.proofs.Common.{◌≡◌, ℕ, Bool, List, [], ◌∷◌, ◌++◌, map, Option, Some, None, IfSome, refl, sym, ap, ◌∙◌, subst}
use Rattle.std.specs.Prelude.{if◌then◌else◌}
use Rattle.pac_syntax.specs.declared.tree.Tree.{Tree}
use Rattle.pac_syntax.proofs.OneReading.{reads_once}
use Rattle.pac_print.specs.Canonical.{canonical}
use Rattle.pac_types.specs.Typing.{CatalogueState}
use Rattle.pac_types.specs.Fits.{shape}
use Rattle.pac_types.proofs.TypingLemmas.{one_catalogue}
use Rattle.pac_flat.specs.FlatForm.{program_of}
use Rattle.pac_ops.specs.declared.program.Program.{Program}
use Rattle.pac_slice.specs.declared.local_graph.LocalGraph.{LocalGraph}
use Rattle.pac_slice.proofs.OneLocalGraph.{one_local_graph}
use Rattle.pac_plan.specs.declared.parts.PlanParts.{PlanParts}
use Rattle.pac_plan.proofs.OnePlan.{one_plan}
use Rattle.pac_report.specs.Explain.{explain_text}
use Rattle.pac_main.specs.Explained.{AreSlicesOf, IsGraph, IsGraphText, IsTreeExplanation, IsExplanation, IsTheExplanation}

same_slices : (programs : List Program) (graphs others : List LocalGraph) → AreSlicesOf programs graphs → AreSlicesOf programs others → graphs ≡ others
same_slices [] [] [] are other = refl
same_slices [] [] (h ∷ hs) are other = absurd other
same_slices [] (g ∷ gs) others are other = absurd are
same_slices (p ∷ ps) [] others are other = absurd are
same_slices (p ∷ ps) (g ∷ gs) [] are other = absurd other
same_slices (p ∷ ps) (g ∷ gs) (h ∷ hs) are other =
    ap (λ (x : LocalGraph). x ∷ gs) (one_local_graph p.ops g h are.0 other.0) ∙ ap (λ (xs : List LocalGraph). h ∷ xs) (same_slices ps gs hs are.1 other.1)

same_plan : (catalogue : CatalogueState) (graphs others : List LocalGraph) (p q : PlanParts) → IsGraph catalogue graphs p → IsGraph catalogue others q → p ≡ q
same_plan catalogue graphs others p q are other = one_plan (map program_of catalogue.procs) (map shape catalogue.tables)
    (record { parts = p; analysis = are.is_plan.analysis; same_programs = are.programs; same_tables = are.tables })
    (record { parts = q; analysis = other.is_plan.analysis; same_programs = other.programs; same_tables = other.tables })

same_graph_text : (catalogue : CatalogueState) (text other : List ℕ) → IsGraphText catalogue text → IsGraphText catalogue other → other ≡ text
same_graph_text catalogue text other (graphs, plan, are, is) (graphs', plan', are', is') =
    let slices = same_slices plan.programs graphs graphs' are.slices (subst (λ (ps : List Program). AreSlicesOf ps graphs') (are'.programs ∙ sym are.programs) are'.slices) in
    is' ∙ ap (λ (gs : List LocalGraph). explain_text catalogue gs plan') (sym slices)
    ∙ ap (λ (p : PlanParts). explain_text catalogue graphs p) (sym (same_plan catalogue graphs graphs' plan plan' are are')) ∙ sym is

same_explanation : (with_text : Bool) (tree : Tree) (written other : List ℕ) → IsTreeExplanation with_text tree written → IsTreeExplanation with_text tree other → other ≡ written
same_explanation with_text tree written other a b =
    let catalogues = one_catalogue tree b.catalogue a.catalogue b.typed a.typed in
    b.is ∙ ap (λ (graph : List ℕ). (if with_text then canonical tree else []) ++ graph)
    (same_graph_text a.catalogue a.graph b.graph a.is_graph (subst (λ (c : CatalogueState). IsGraphText c b.graph) catalogues b.is_graph)) ∙ sym a.is

only-one : (with_text : Bool) (text written other : List ℕ) → IsExplanation with_text text written → IsExplanation with_text text other → other ≡ written
only-one with_text text written other (tree, reads, is) (tree', reads', is') =
    same_explanation with_text tree written other is (subst (λ (t : Tree). IsTreeExplanation with_text t other) (reads_once text tree' tree reads' reads) is')

-- what explains a known input is the one that does
pub the-explanation : (with_text : Bool) (input : Option (List ℕ)) (written : List ℕ) → IfSome input (λ text. IsExplanation with_text text written) → IfSome input (λ text. IsTheExplanation with_text text written)
the-explanation with_text None written is = tt
the-explanation with_text (Some text) written is = record { is = is; only = λ other has. only-one with_text text written other is has }
