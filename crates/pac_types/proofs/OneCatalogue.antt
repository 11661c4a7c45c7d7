-- A text has one catalogue, or one first fault.
use Rattle.std.proofs.Common.{◌≡◌, ℕ, List, Result, Ok, Err, refl, sym, ap, subst, arith}
use Rattle.std.specs.Prelude.{IfOk}
use Rattle.pac_base.specs.declared.refusal.Refusal.{Refusal}
use Rattle.pac_base.specs.declared.refusal.Refusal.TheVariants as error
use Rattle.pac_base.specs.Refusals.{Only}
use Rattle.pac_syntax.specs.declared.tree.Tree.{Tree}
use Rattle.pac_tokens.specs.declared.fault.Fault.{Fault}
use Rattle.pac_syntax.specs.Reading.{Reads}
use Rattle.pac_syntax.proofs.OneReading.{one_fault, no_fault, reads_once}
use Rattle.pac_syntax.proofs.Trees.{tree-within, tree-ordered}
use Rattle.pac_types.specs.declared.type_error.TypeFault.{TypeFault}
use Rattle.pac_types.specs.declared.text.CatalogueFault.{CatalogueFault}
use Rattle.pac_types.specs.declared.text.CatalogueFault.TheVariants.{Syntax, Typing}
use Rattle.pac_types.specs.Typing.{CatalogueState, Types}
use Rattle.pac_types.specs.Faults.{Stands, IsFirstTypeFault}
use Rattle.pac_types.specs.CatalogueText.{HasCatalogue, IsCatalogueFault}
use Rattle.pac_types.proofs.TypedLemmas.{typed_both}

-- a tree that has a catalogue has no fault
not_typed : (text : List ℕ) (tree : Tree) (catalogue : CatalogueState) (fault : TypeFault) → Reads text tree → Types tree catalogue → Stands tree fault → ⊥
not_typed text tree catalogue fault reads typed stands =
    (typed_both tree (tree-within tree (text, reads)) (tree-ordered tree (text, reads))).0 (catalogue, typed) fault stands

-- the faults of a text that is read are those of its one tree
first_once : (text : List ℕ) (a b : Tree) (f g : TypeFault) → Reads text a → Reads text b → IsFirstTypeFault a f → IsFirstTypeFault b g → f ≡ g
first_once text a b f g h k first other =
    let same : b ≡ a = reads_once text b a k h in
    let second : IsFirstTypeFault a g = subst (λ (t : Tree). IsFirstTypeFault t g) same other in
    second.alone f first.stands (omega (arith, first.least g second.stands, second.least f first.stands))

-- a text has one first fault
pub one_catalogue_fault : (text : List ℕ) (f g : CatalogueFault) → IsCatalogueFault text f → IsCatalogueFault text g → f ≡ g
one_catalogue_fault text (Syntax f) (Syntax g) h k = ap (λ (x : Fault). Syntax x) (one_fault text f g h k)
one_catalogue_fault text (Syntax f) (Typing g) h k = absurd (no_fault text k.tree f k.reads h)
one_catalogue_fault text (Typing f) (Syntax g) h k = absurd (no_fault text h.tree g h.reads k)
one_catalogue_fault text (Typing f) (Typing g) h k = ap (λ (x : TypeFault). Typing x) (first_once text h.tree k.tree f g h.reads k.reads h.first k.first)

-- a text that has a catalogue has no fault
pub catalogue_or_fault : (text : List ℕ) (catalogue : CatalogueState) (f : CatalogueFault) → HasCatalogue text catalogue → IsCatalogueFault text f → ⊥
catalogue_or_fault text catalogue (Syntax f) has h = no_fault text has.tree f has.reads h
catalogue_or_fault text catalogue (Typing f) has h =
    let same : h.tree ≡ has.tree = reads_once text h.tree has.tree h.reads has.reads in
    not_typed text has.tree catalogue f has.reads has.typed (subst (λ (t : Tree). Stands t f) same h.first.stands)

-- the same tree has the same catalogue
pub same_tree : (a b : Tree) (catalogue : CatalogueState) → a ≡ b → Types b catalogue → Types a catalogue
same_tree a b catalogue same typed = subst (λ (tree : Tree). Types tree catalogue) (sym same) typed

-- a tree's one catalogue is the one catalogue of its text
pub catalogue_of_text : (text : List ℕ) (tree : Tree) (r : Result CatalogueState (Refusal CatalogueFault)) → Reads text tree
    → IfOk r (λ c. Types tree c × ((other : CatalogueState) → Types tree other → other ≡ c))
    → IfOk r (λ c. HasCatalogue text c × ((other : CatalogueState) → HasCatalogue text other → c ≡ other))
catalogue_of_text text tree (Ok c) reads h =
    (record { tree = tree; reads = reads; typed = h.0 }, λ other has. sym (h.1 other (same_tree tree has.tree other (reads_once text tree has.tree reads has.reads) has.typed)))
catalogue_of_text text tree (Err e) reads h = tt

-- a text that has a catalogue is read as it, unless memory runs out
pub only_catalogue : (text : List ℕ) (r : Result CatalogueState (Refusal CatalogueFault))
    → IfOk r (λ c. HasCatalogue text c × ((other : CatalogueState) → HasCatalogue text other → c ≡ other))
    → ((fault : CatalogueFault) → r ≡ Err (error.Fault fault) → IsCatalogueFault text fault) → (catalogue : CatalogueState) → HasCatalogue text catalogue → Only r catalogue
only_catalogue text (Ok c) ok fault catalogue has = ok.1 catalogue has
only_catalogue text (Err (error.Fault f)) ok fault catalogue has = absurd (catalogue_or_fault text catalogue f has (fault f refl))
only_catalogue text (Err error.NoMemory) ok fault catalogue has = refl

abbrev reported : CatalogueFault → Result CatalogueState (Refusal CatalogueFault)
reported fault = Err (error.Fault fault)

-- the fault that is reported is that which was found
pub reported_is : (f g : CatalogueFault) → reported f ≡ reported g → g ≡ f
reported_is f g h = cc
