-- A text is accepted with one catalogue, or not accepted for one reason.
use Rattle.std.proofs.Common.{◌≡◌, ◌∙◌, ℕ, List, Option, Some, Result, Ok, Err, refl, sym, ap, subst}
use Rattle.std.specs.Prelude.{slice_get, IfOk}
use Rattle.pac_base.specs.Refusals.{Only}
use Rattle.pac_base.specs.declared.refusal.Refusal.{Refusal}
use Rattle.pac_base.specs.declared.refusal.Refusal.TheVariants as refusal
use Rattle.std.specs.Option.{option_map}
use Rattle.pac_syntax.proofs.OneReading.{reads_once}
use Rattle.pac_types.specs.Accepted.{IsAccepted}
use Rattle.pac_types.specs.CatalogueText.{HasCatalogue}
use Rattle.pac_types.specs.OperationLimits.{HasFewOperations, excess_at}
use Rattle.pac_types.specs.Typing.{CatalogueState}
use Rattle.pac_types.specs.declared.procedure.Proc.{Proc}
use Rattle.pac_types.specs.declared.text.CatalogueFault.{CatalogueFault}
use Rattle.pac_types.proofs.OneCatalogue.{one_catalogue_fault, catalogue_or_fault, same_tree}
use Rattle.pac_types.proofs.TypingLemmas.{one_catalogue as one_typed}
use Rattle.pac_flat.specs.declared.acceptance.AcceptFault.{AcceptFault}
use Rattle.pac_flat.specs.declared.acceptance.AcceptFault.TheVariants.{Catalogue, TooManyOps}
use Rattle.pac_flat.specs.Unaccepted.{IsExcess, IsUnaccepted}
use Rattle.pac_flat.proofs.ExcessLemmas.{first_once, within-none}

pub one_catalogue : (text : List ℕ) (a b : CatalogueState) → HasCatalogue text a → HasCatalogue text b → a ≡ b
one_catalogue text a b h k = one_typed h.tree a b h.typed (same_tree h.tree k.tree b (reads_once text h.tree k.tree h.reads k.reads) k.typed)

same_name : (procs : List Proc) (m n : ℕ) (f g : List ℕ) → m ≡ n → option_map (λ (p : Proc). p.name) (slice_get procs m) ≡ Some f → option_map (λ (p : Proc). p.name) (slice_get procs n) ≡ Some g → f ≡ g
same_name procs m n f g same h k = let both : Some f ≡ Some g = sym h ∙ ap (λ (i : ℕ). option_map (λ (p : Proc). p.name) (slice_get procs i)) same ∙ k in cc

same_count : (procs : List Proc) (m n a b : ℕ) → m ≡ n → excess_at procs m ≡ Some a → excess_at procs n ≡ Some b → a ≡ b
same_count procs m n a b same h k = let both : Some a ≡ Some b = sym h ∙ ap (excess_at procs) same ∙ k in cc

-- procedures have one first excess
one_excess : (procs : List Proc) (f g : List ℕ) (a b : ℕ) → IsExcess procs f a → IsExcess procs g b → ◌≡◌ {A = AcceptFault} (TooManyOps f a) (TooManyOps g b)
one_excess procs f g a b h k =
    let same : h.number ≡ k.number = first_once procs h.number k.number a b h.first k.first in
    let names : f ≡ g = same_name procs h.number k.number f g same h.named k.named in
    let counts : a ≡ b = same_count procs h.number k.number a b same h.first.here k.first.here in
    λ i. TooManyOps (names i) (counts i)

-- an excess is none of the same catalogue where operations are few
few_or_excess : (text : List ℕ) (c d : CatalogueState) (name : List ℕ) (count : ℕ) → HasCatalogue text c → HasFewOperations c.procs → HasCatalogue text d → IsExcess d.procs name count → ⊥
few_or_excess text c d name count h few k e = within-none d.procs e.number count (subst (λ (x : CatalogueState). HasFewOperations x.procs) (one_catalogue text c d h k) few) e.first.here

-- an accepted text has no fault
pub accepted_or_not : (text : List ℕ) (catalogue : CatalogueState) (fault : AcceptFault) → IsAccepted text catalogue → IsUnaccepted text fault → ⊥
accepted_or_not text catalogue (Catalogue fault) is not = catalogue_or_fault text catalogue fault is.has not
accepted_or_not text catalogue (TooManyOps name count) is not = few_or_excess text catalogue not.0 name count is.has is.few not.1 not.2

-- a text has one fault
pub one_unaccepted : (text : List ℕ) (f g : AcceptFault) → IsUnaccepted text f → IsUnaccepted text g → f ≡ g
one_unaccepted text (Catalogue f) (Catalogue g) h k = ap (λ (x : CatalogueFault). Catalogue x) (one_catalogue_fault text f g h k)
one_unaccepted text (Catalogue f) (TooManyOps name count) h k = absurd (catalogue_or_fault text k.0 f k.1 h)
one_unaccepted text (TooManyOps name count) (Catalogue g) h k = absurd (catalogue_or_fault text h.0 g h.1 k)
one_unaccepted text (TooManyOps f a) (TooManyOps g b) h k = one_excess k.0.procs f g a b (subst (λ (x : CatalogueState). IsExcess x.procs f a) (one_catalogue text h.0 k.0 h.1 k.1) h.2) k.2

-- who reads an accepted text gets its catalogue, or finds no memory
pub only_accepted : (text : List ℕ) (read : Result CatalogueState (Refusal AcceptFault)) → IfOk read (IsAccepted text) → ((fault : AcceptFault) → read ≡ Err (refusal.Fault fault) → IsUnaccepted text fault)
    → (catalogue : CatalogueState) → IsAccepted text catalogue → Only read catalogue
only_accepted text (Ok found) ok fault catalogue is = one_catalogue text found catalogue ok.has is.has
only_accepted text (Err (refusal.Fault f)) ok fault catalogue is = absurd (accepted_or_not text catalogue f is (fault f refl))
only_accepted text (Err refusal.NoMemory) ok fault catalogue is = refl
