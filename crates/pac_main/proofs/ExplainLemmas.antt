-- What is said of a tree, and of the bytes that were read, is said of the text and of the input.
use Rattle.std.proofs.Common.{◌≡◌, ◌≤◌, ◌<◌, ◌+◌, ℕ, add-one, take, get_or, Bool, List, [], ◌∷◌, ◌++◌, length, Option, Some, None, Result, Ok, Err, Vec, Global, IfOk, IfSome, refl, sym, ap, subst, ◌∙◌, arith, length-append, append-nil, inl, inr}
use Rattle.std.specs.List.{AllZip}
use Rattle.std.proofs.Math.Seq.{take-suc}
use Rattle.std.specs.Io.KnownBytes.{prepend_known}
use Rattle.pac_outside.specs.Content.{Gave, IsAtEnd}
use Rattle.pac_ops.specs.declared.program.Program.{Program}
use Rattle.pac_slice.specs.declared.local_graph.LocalGraph.{LocalGraph}
use Rattle.pac_slice.specs.Slices.{AreSlices}
use Rattle.pac_syntax.specs.declared.tree.Tree.{Tree}
use Rattle.pac_syntax.specs.Reading.{Reads}
use Rattle.pac_types.specs.declared.text.CatalogueFault.TheVariants.{Syntax, Typing}
use Rattle.pac_types.specs.Typing.{CatalogueState, Types}
use Rattle.pac_types.specs.CatalogueText.{HasCatalogue}
use Rattle.pac_base.specs.declared.refusal.Refusal.{Refusal}
use Rattle.pac_base.specs.declared.refusal.Refusal.TheVariants as refusal
use Rattle.pac_outside.specs.declared.failed.ReadError.{ReadError}
use Rattle.pac_outside.specs.declared.failed.ReadError.TheVariants as read
use Rattle.pac_flat.specs.declared.acceptance.AcceptFault.{AcceptFault}
use Rattle.pac_flat.specs.declared.acceptance.AcceptFault.TheVariants.{Catalogue, TooManyOps}
use Rattle.pac_flat.specs.Unaccepted.{IsExcessFault, IsUnaccepted}
use Rattle.pac_flat.proofs.OneAcceptance.{accepted_or_not, one_unaccepted}
use Rattle.pac_main.specs.Causes.{GivesNoExplanation}
use Rattle.pac_main.specs.Inputs.{input_of_accept, input_of_read}
use Rattle.pac_main.specs.Streams.{Observed, AnyFaulted}
use Rattle.pac_main.specs.Explained.{AreSlicesOf, IsTreeExplanation, IsExplanation, IsUnexplainedTree, IsTheCause, IsUnexplainedAs}

-- ---- a tree and its text

pub explained_text : {F : Type 0} (with_text : Bool) (text : List ℕ) (tree : Tree) (r : Result (Vec ℕ Global) F) → Reads text tree → IfOk r (λ written. IsTreeExplanation with_text tree written.items) → IfOk r (λ written. IsExplanation with_text text written.items)
explained_text {F} with_text text tree (Ok written) reads is = (tree, reads, is)
explained_text {F} with_text text tree (Err e) reads is = tt

pub unexplained_text : (text : List ℕ) (tree : Tree) (fault : AcceptFault) → Reads text tree → IsUnexplainedTree tree fault → IsUnaccepted text fault
unexplained_text text tree (Catalogue (Syntax f)) reads is = absurd is
unexplained_text text tree (Catalogue (Typing f)) reads is = record { tree = tree; reads = reads; first = is }
unexplained_text text tree (TooManyOps name count) reads is = (is.0, record { tree = tree; reads = reads; typed = is.1 }, is.2)

-- ---- what was read and the input

explained_known : (with_text : Bool) (items written : List ℕ) (new : Option (List ℕ)) → (length items ≤ 65536 → IsAtEnd new) → IsExplanation with_text items written → IfSome (prepend_known items new) (λ text. IsExplanation with_text text written)
explained_known with_text items written None at_end is = tt
explained_known with_text items written (Some rest) at_end is =
    subst (λ (text : List ℕ). IsExplanation with_text text written) (sym (ap (λ (r : List ℕ). items ++ r) (at_end is.1.short) ∙ append-nil items)) is

pub input-explained : (with_text : Bool) (old new : Option (List ℕ)) (items written : List ℕ) → Gave old items new → (length items ≤ 65536 → IsAtEnd new) → IsExplanation with_text items written → IfSome old (λ text. IsExplanation with_text text written)
input-explained with_text old new items written gave at_end is =
    subst (λ (o : Option (List ℕ)). IfSome o (λ text. IsExplanation with_text text written)) (sym gave) (explained_known with_text items written new at_end is)

same_text : (items rest : List ℕ) (fault : AcceptFault) → rest ≡ [] → IsUnaccepted items fault → IsUnaccepted (items ++ rest) fault
same_text items rest fault end is = subst (λ (text : List ℕ). IsUnaccepted text fault) (sym (ap (λ (r : List ℕ). items ++ r) end ∙ append-nil items)) is

pub unexplained_longer : (items rest : List ℕ) (fault : AcceptFault) → (length items ≤ 65536 → rest ≡ []) → IsUnaccepted items fault → IsUnaccepted (items ++ rest) fault
unexplained_longer items rest (Catalogue (Syntax f)) at_end (inl long) = inl (omega (arith, length-append items rest, long.0), long.1)
unexplained_longer items rest (Catalogue (Syntax f)) at_end (inr h) = same_text items rest (Catalogue (Syntax f)) (at_end h.0) (inr h)
unexplained_longer items rest (Catalogue (Typing f)) at_end h = same_text items rest (Catalogue (Typing f)) (at_end h.reads.short) h
unexplained_longer items rest (TooManyOps name count) at_end h = same_text items rest (TooManyOps name count) (at_end h.1.reads.short) h

-- ---- one cause

has_catalogue : (with_text : Bool) (text written : List ℕ) (e : IsExplanation with_text text written) → HasCatalogue text e.2.catalogue
has_catalogue with_text text written e = record { tree = e.0; reads = e.1; typed = e.2.typed }

not_explained : (text : List ℕ) (fault : AcceptFault) (with_text : Bool) (written : List ℕ) → IsUnaccepted text fault → IsExplanation with_text text written → ⊥
not_explained text fault with_text written h e = accepted_or_not text e.2.catalogue fault (record { has = has_catalogue with_text text written e; few = e.2.is_graph.2.few }) h

pub the_cause : (text : List ℕ) (fault : AcceptFault) → IsUnaccepted text fault → IsTheCause text fault
the_cause text fault h = record {
  is = h;
  only = λ other k. one_unaccepted text other fault k h;
  none = λ with_text written e. not_explained text fault with_text written h e;
}

unexplained_known : (items : List ℕ) (new : Option (List ℕ)) (fault : AcceptFault) → (length items ≤ 65536 → IsAtEnd new) → IsUnaccepted items fault → IsUnexplainedAs (prepend_known items new) fault
unexplained_known items None fault at_end is = tt
unexplained_known items (Some rest) fault at_end is = the_cause (items ++ rest) fault (unexplained_longer items rest fault at_end is)

input-unexplained : (old new : Option (List ℕ)) (items : List ℕ) (fault : AcceptFault) → Gave old items new → (length items ≤ 65536 → IsAtEnd new) → IsUnaccepted items fault → IsUnexplainedAs old fault
input-unexplained old new items fault gave at_end is = subst (λ (o : Option (List ℕ)). IsUnexplainedAs o fault) (sym gave) (unexplained_known items new fault at_end is)

-- ---- why nothing is explained

pub catalogue-unread : {T : Type 0} (source : Observed) (error : ReadError) → (◌≡◌ {A = Result T ReadError} (Err error) (Err read.Failed) → AnyFaulted source) → GivesNoExplanation source (input_of_read error)
catalogue-unread source read.Failed faulted = faulted refl
catalogue-unread source read.NoMemory faulted = tt

pub no-explanation : {T : Type 0} (source : Observed) (new : Option (List ℕ)) (items : List ℕ) (error : Refusal AcceptFault) → Gave source.before items new → (length items ≤ 65536 → IsAtEnd new)
    → ((fault : AcceptFault) → ◌≡◌ {A = Result T (Refusal AcceptFault)} (Err error) (Err (refusal.Fault fault)) → IsUnaccepted items fault) → GivesNoExplanation source (input_of_accept error)
no-explanation source new items (refusal.Fault fault) gave at_end is = input-unexplained source.before new items fault gave at_end (is fault refl)
no-explanation source new items refusal.NoMemory gave at_end is = tt

-- ---- the slices of programs, one program more at the end

zip_push : {A B : Type 0} (R : A → B → Type 0) (xs : List A) (ys : List B) (x : A) (y : B) → AllZip R xs ys → R x y → AllZip R (xs ++ x ∷ []) (ys ++ y ∷ [])
zip_push R [] [] x y all r = (r, tt)
zip_push R [] (b ∷ bs) x y all r = absurd all
zip_push R (a ∷ others) [] x y all r = absurd all
zip_push R (a ∷ others) (b ∷ bs) x y all r = (all.0, zip_push R others bs x y all.1 r)

one_more : (programs : List Program) (i : ℕ) (program : Program) → i < length programs → program ≡ get_or programs i program → take (i + 1) programs ≡ take i programs ++ program ∷ []
one_more programs i program within at = rw add-one (take-suc programs i program within ∙ ap (λ (p : Program). take i programs ++ p ∷ []) (sym at))

pub slices_push : (programs : List Program) (graphs : List LocalGraph) (i : ℕ) (program : Program) (graph : LocalGraph) → i < length programs → program ≡ get_or programs i program → AreSlicesOf (take i programs) graphs → AreSlices program.ops graph → AreSlicesOf (take (i + 1) programs) (graphs ++ graph ∷ [])
slices_push programs graphs i program graph within at so_far slices =
    subst (λ (prefix : List Program). AreSlicesOf prefix (graphs ++ graph ∷ [])) (sym (one_more programs i program within at))
    (zip_push (λ (p : Program) (g : LocalGraph). AreSlices p.ops g) (take i programs) graphs program graph so_far slices)

-- ---- too many operations

pub tree_excess : (tree : Tree) (catalogue : CatalogueState) (fault : AcceptFault) → Types tree catalogue → IsExcessFault catalogue fault → IsUnexplainedTree tree fault
tree_excess tree catalogue (TooManyOps name count) typed is = (catalogue, typed, is)
tree_excess tree catalogue (Catalogue fault) typed is = absurd is
