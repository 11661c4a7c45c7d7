-- An image is that of one log: one header, one catalogue, one list of batches, and no damage or one first damage.
use Rattle.std.proofs.Common.{◌≡◌, ◌∙◌, ◌≤◌, ℕ, List, [], ◌∷◌, ◌++◌, length, take, Option, Some, None, Result, Ok, Err, refl, sym, ap, ap₂, subst, append_assoc}
use Rattle.std.proofs.lemmas.List.{append-nil, append_cancel_left, take_at}
use Rattle.pac_ops.specs.declared.transaction.Txn.{Txn}
use Rattle.pac_syntax.proofs.OneReading.{reads_once}
use Rattle.pac_syntax.specs.declared.tree.Tree.{Tree}
use Rattle.pac_types.specs.CatalogueText.{HasCatalogue}
use Rattle.pac_types.specs.Typing.{CatalogueState, Types}
use Rattle.pac_types.proofs.TypingLemmas.{one_catalogue}
use Rattle.pac_log.specs.declared.header.Header.{Header}
use Rattle.pac_log.specs.declared.header.HeaderForm.{HeaderForm}
use Rattle.pac_log.specs.declared.limits.TheConstants.{MAX_BASE}
use Rattle.pac_log.specs.declared.damage.LinkFault.{LinkFault}
use Rattle.pac_log.specs.Logs.{base_of, start_bytes, header_bytes, header_with, open_bodies, log_prefix, AreBatches, HoldsLog}
use Rattle.pac_types.specs.Accepted.{IsAccepted}
use Rattle.pac_log.specs.Reading.{IsStore, IsDamaged, at_gate}
use Rattle.pac_log.proofs.HeaderLemmas.{header_parts, one_head}
use Rattle.pac_log.proofs.GateLemmas.{headed, next_held, last_held}

-- ---- one header

-- a text's one catalogue
catalogue_once : (text : List ℕ) (a b : CatalogueState) → HasCatalogue text a → HasCatalogue text b → a ≡ b
catalogue_once text a b has other =
    let same : other.tree ≡ has.tree = reads_once text other.tree has.tree other.reads has.reads in
    one_catalogue has.tree a b has.typed (subst (λ (t : Tree). Types t b) same other.typed)

-- the image begins with one header
pub one_header : (s t : Header) (c d : CatalogueState) (image : List ℕ) → IsStore s c image → IsStore t d image → s ≡ t
one_header s t c d image is other = ap₂ (λ (f : HeaderForm) (x : List ℕ). header_with f x) same.0 texts
  where
    whole : start_bytes s.form (length s.text) ++ (s.text ++ (is.gate ∷ is.rest)) ≡ start_bytes t.form (length t.text) ++ (t.text ++ (other.gate ∷ other.rest))
    whole = sym (is.split ∙ header_parts s (is.gate ∷ is.rest)) ∙ (other.split ∙ header_parts t (other.gate ∷ other.rest))

    same : (s.form ≡ t.form) × (length s.text ≡ length t.text)
    same = one_head s.form t.form (length s.text) (length t.text) (s.text ++ (is.gate ∷ is.rest)) (t.text ++ (other.gate ∷ other.rest)) is.base other.base is.accepted.has.reads.short other.accepted.has.reads.short whole

    after : s.text ++ (is.gate ∷ is.rest) ≡ t.text ++ (other.gate ∷ other.rest)
    after = append_cancel_left (start_bytes s.form (length s.text)) (s.text ++ (is.gate ∷ is.rest)) (t.text ++ (other.gate ∷ other.rest)) (whole ∙ ap₂ (λ (f : HeaderForm) (n : ℕ). start_bytes f n ++ (t.text ++ (other.gate ∷ other.rest))) (sym same.0) (sym same.1))

    texts : s.text ≡ t.text
    texts = sym (take_at s.text (is.gate ∷ is.rest) (length s.text) refl) ∙ ap (λ (l : List ℕ). take (length s.text) l) after ∙ take_at t.text (other.gate ∷ other.rest) (length s.text) (sym same.1)

-- after the header of a log's prefix stands a byte
pub store_of : (header : Header) (catalogue : CatalogueState) (batches : List (List Txn)) (gate : ℕ) (rest image : List ℕ) → IsAccepted header.text catalogue → base_of header ≤ MAX_BASE → image ≡ log_prefix header batches ++ (gate ∷ rest) → IsStore header catalogue image
store_of header catalogue batches gate rest image accepted few split =
    let first = headed batches gate rest in
    record {
      accepted = accepted;
      base = few;
      gate = first.0;
      rest = first.1;
      split = split ∙ append_assoc (header_bytes header) (open_bodies batches) (gate ∷ rest) ∙ ap (λ (l : List ℕ). header_bytes header ++ l) first.2;
    }

-- ---- one list

-- the image begins with these batches, the byte of a gate stands after them, and that holds no batch
record EndsAfter (header : Header) (catalogue : CatalogueState) (batches : List (List Txn)) (image : List ℕ) : Type 0 where
  log : AreBatches header catalogue batches
  gate : ℕ
  rest : List ℕ
  split : image ≡ log_prefix header batches ++ (gate ∷ rest)
  none : (txns : List Txn) → at_gate catalogue image (length (log_prefix header batches)) ≡ Ok (Some txns) → ⊥

no_some : (txns : List Txn) → ◌≡◌ {A = Result (Option (List Txn)) LinkFault} (Ok None) (Ok (Some txns)) → ⊥
no_some txns e = cc

no_fault : (fault : LinkFault) (held : Option (List Txn)) → ◌≡◌ {A = Result (Option (List Txn)) LinkFault} (Err fault) (Ok held) → ⊥
no_fault fault held e = cc

some_same : (x y : List Txn) → ◌≡◌ {A = Result (Option (List Txn)) LinkFault} (Ok (Some x)) (Ok (Some y)) → x ≡ y
some_same x y e = cc

fault_same : (f g : LinkFault) → ◌≡◌ {A = Result (Option (List Txn)) LinkFault} (Err f) (Err g) → f ≡ g
fault_same f g e = cc

ends_of_log : (header : Header) (catalogue : CatalogueState) (batches : List (List Txn)) (image : List ℕ) → HoldsLog header catalogue batches image → EndsAfter header catalogue batches image
ends_of_log header catalogue batches image holds = record {
  log = holds.log;
  gate = holds.shut.gate;
  rest = holds.shut.rest;
  split = holds.shut.split;
  none = λ txns e. no_some txns (sym (last_held header catalogue image batches holds.shut) ∙ e);
}

ends_of_damage : (header : Header) (catalogue : CatalogueState) (batches : List (List Txn)) (fault : LinkFault) (image : List ℕ) → IsDamaged header catalogue batches fault image → EndsAfter header catalogue batches image
ends_of_damage header catalogue batches fault image is = record {
  log = is.log;
  gate = 1;
  rest = is.rest;
  split = is.split;
  none = λ txns e. no_fault fault (Some txns) (sym is.first ∙ e);
}

module _ (header : Header) (catalogue : CatalogueState) (image : List ℕ) where
  from_here : (before a b : List (List Txn)) → EndsAfter header catalogue (before ++ a) image → EndsAfter header catalogue (before ++ b) image → a ≡ b
  from_here before [] [] is other = refl
  from_here before [] (y ∷ b) is other =
      let here = subst (λ (l : List (List Txn)). EndsAfter header catalogue l image) (append-nil before) is in
      absurd (here.none y (next_held header catalogue image before b y other.gate other.rest other.log other.split))
  from_here before (x ∷ a) [] is other =
      let here = subst (λ (l : List (List Txn)). EndsAfter header catalogue l image) (append-nil before) other in
      absurd (here.none x (next_held header catalogue image before a x is.gate is.rest is.log is.split))
  from_here before (x ∷ a) (y ∷ b) is other =
      let one : x ≡ y = some_same x y (sym (next_held header catalogue image before a x is.gate is.rest is.log is.split) ∙ next_held header catalogue image before b y other.gate other.rest other.log other.split) in
      let with_x = subst (λ (l : List (List Txn)). EndsAfter header catalogue l image) (sym (append_assoc before (x ∷ []) a)) is in
      let with_y = subst (λ (l : List (List Txn)). EndsAfter header catalogue l image) (ap (λ (t : List Txn). before ++ (t ∷ b)) (sym one) ∙ sym (append_assoc before (x ∷ []) b)) other in
      ap₂ (λ (t : List Txn) (ts : List (List Txn)). t ∷ ts) one (from_here (before ++ (x ∷ [])) a b with_x with_y)

-- two such prefixes of an image are one
one_end : (s t : Header) (c d : CatalogueState) (a b : List (List Txn)) (image : List ℕ) → EndsAfter s c a image → EndsAfter t d b image → (s ≡ t) × (c ≡ d) × (a ≡ b)
one_end s t c d a b image is other =
    let headers : t ≡ s = one_header t s d c image (store_of t d b other.gate other.rest image other.log.accepted other.log.base other.split) (store_of s c a is.gate is.rest image is.log.accepted is.log.base is.split) in
    let moved = subst (λ (x : Header). EndsAfter x d b image) headers other in
    let catalogue : d ≡ c = catalogue_once s.text d c moved.log.accepted.has is.log.accepted.has in
    let here = subst (λ (k : CatalogueState). EndsAfter s k b image) catalogue moved in
    (sym headers, sym catalogue, from_here s c image [] a b is here)

pub one_log : (s t : Header) (c d : CatalogueState) (a b : List (List Txn)) (image : List ℕ) → HoldsLog s c a image → HoldsLog t d b image → (s ≡ t) × (c ≡ d) × (a ≡ b)
one_log s t c d a b image is other = one_end s t c d a b image (ends_of_log s c a image is) (ends_of_log t d b image other)

-- an image that holds batches isn't damaged
pub no_damage : (s t : Header) (c d : CatalogueState) (a b : List (List Txn)) (fault : LinkFault) (image : List ℕ) → HoldsLog s c a image → IsDamaged t d b fault image → ⊥
no_damage s t c d a b fault image is damaged =
    let one = one_end s t c d a b image (ends_of_log s c a image is) (ends_of_damage t d b fault image damaged) in
    let here : at_gate d image (length (log_prefix t b)) ≡ Ok None
    = subst (λ (k : CatalogueState). at_gate k image (length (log_prefix t b)) ≡ Ok None) one.1 (subst (λ (l : List ℕ). at_gate c image (length l) ≡ Ok None) (ap₂ (λ (x : Header) (l : List (List Txn)). log_prefix x l) one.0 one.2) (last_held s c image a is.shut)) in
    no_fault fault None (sym damaged.first ∙ here)

-- and else its first damage is one
pub one_damage : (s t : Header) (c d : CatalogueState) (a b : List (List Txn)) (f g : LinkFault) (image : List ℕ) → IsDamaged s c a f image → IsDamaged t d b g image → (a ≡ b) × (f ≡ g)
one_damage s t c d a b f g image is other =
    let one = one_end s t c d a b image (ends_of_damage s c a f image is) (ends_of_damage t d b g image other) in
    let here : at_gate d image (length (log_prefix t b)) ≡ Err f
    = subst (λ (k : CatalogueState). at_gate k image (length (log_prefix t b)) ≡ Err f) one.1 (subst (λ (l : List ℕ). at_gate c image (length l) ≡ Err f) (ap₂ (λ (x : Header) (l : List (List Txn)). log_prefix x l) one.0 one.2) is.first) in
    (one.2, fault_same f g (sym here ∙ other.first))
