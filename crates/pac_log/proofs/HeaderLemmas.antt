-- A header and what stands after it: its parts are found at their offsets.
use Rattle.std.proofs.Common.{◌≡◌, ◌∙◌, ℕ, ◌+◌, ◌-◌, ◌<◌, ◌≤◌, ◌^◌, Bool, true, false, ◌&&◌, eqb, Result, Ok, List, [], ◌∷◌, ◌++◌, length, take, drop, Option, Some, None, refl, sym, ap, ap₂, subst, arith, append_assoc}
use Rattle.std.specs.Prelude.{slice_index_or, codes, nat_eq}
use Rattle.std.specs.Cmp.Lexicographic.{pointwise}
use Rattle.std.proofs.lemmas.Bool.{eqb-true}
use Rattle.std.specs.Int.{w32, w64, to_le_bytes, from_le_bytes}
use Rattle.std.proofs.lemmas.List.{length-append, length-take, take_at, drop_at, length-drop, take-append-drop, take-take, append-nil, append_cancel_left}
use Rattle.std.proofs.lemmas.List.Elements.{All-nil}
use Rattle.std.proofs.Math.Seq.{take-append-add}
use Rattle.pac_base.specs.declared.refusal.Refusal.{Refusal}
use Rattle.pac_base.specs.declared.refusal.Refusal.TheVariants.{Fault, NoMemory}
use Rattle.pac_bytes.specs.declared.fault.Short.{Short}
use Rattle.pac_bytes.specs.Reading.{from}
use Rattle.pac_bytes.specs.Readers.{IsAtStart}
use Rattle.pac_bytes.proofs.Numbers.{width32, width64}
use Rattle.pac_outside.specs.Disk.{DiskHistory, IfKnown}
use Rattle.pac_syntax.specs.declared.limits.TheConstants.{MAX_CATALOGUE}
use Rattle.pac_types.specs.Typing.{CatalogueState}
use Rattle.pac_log.specs.declared.header.Header.{Header}
use Rattle.pac_log.specs.declared.header.HeaderForm.{HeaderForm}
use Rattle.pac_log.specs.declared.header.HeaderForm.TheVariants.{First, Later}
use Rattle.pac_log.specs.declared.limits.TheConstants.{MAX_BASE}
use Rattle.pac_log.specs.declared.position.NextGate.{NextGate}
use Rattle.pac_log.specs.Logs.{base_in, base_of, form_bytes, start_bytes, header_bytes, header_with}
use Rattle.pac_types.specs.Accepted.{IsAccepted}
use Rattle.pac_log.specs.Reading.{IsStore, StandsAfter}

-- ---- the length of a head

pub form_long : (base : ℕ) → length (form_bytes (Later base)) ≡ 16
form_long base = omega (arith, length-append (codes "PACMLOG2") (to_le_bytes w64 base), width64.len base)

pub head_long : (form : HeaderForm) (len : ℕ) → length (start_bytes form len) ≡ length (form_bytes form) + 4
head_long form len = omega (arith, length-append (form_bytes form) (to_le_bytes w32 len), width32.len len)

pub few_form : (form : HeaderForm) → length (form_bytes form) ≤ 16
few_form First = omega arith
few_form (Later base) = omega (arith, form_long base)

pub head_few : (form : HeaderForm) (len : ℕ) → length (start_bytes form len) ≤ 20
head_few form len = omega (arith, head_long form len, few_form form)

-- ---- one head

eighth : (xs ys : List ℕ) → xs ≡ ys → slice_index_or xs 7 0 ≡ slice_index_or ys 7 0
eighth xs ys e = ap (λ (l : List ℕ). slice_index_or l 7 0) e

one_base : (a b : ℕ) (xs ys : List ℕ) → a ≤ MAX_BASE → b ≤ MAX_BASE → form_bytes (Later a) ++ xs ≡ form_bytes (Later b) ++ ys → a ≡ b
one_base a b xs ys few few' e =
    let number : (n : ℕ) → n ≤ MAX_BASE → from_le_bytes w64 (to_le_bytes w64 n) ≡ n = λ n le. width64.number_of_bytes n (omega (arith, le)) in
    let parts : (n : ℕ) (zs : List ℕ) → take 8 (drop 8 (form_bytes (Later n) ++ zs)) ≡ to_le_bytes w64 n = λ n zs. take_at (to_le_bytes w64 n) zs 8 (width64.len n) in
    sym (number a few) ∙ ap (λ (x : List ℕ). from_le_bytes w64 x) (sym (parts a xs) ∙ ap (λ (x : List ℕ). take 8 (drop 8 x)) e ∙ parts b ys) ∙ number b few'

pub one_form : (f g : HeaderForm) (xs ys : List ℕ) → base_in f ≤ MAX_BASE → base_in g ≤ MAX_BASE → form_bytes f ++ xs ≡ form_bytes g ++ ys → f ≡ g
one_form First First xs ys few few' e = refl
one_form First (Later b) xs ys few few' e = let no : 49 ≡ 50 = eighth (form_bytes First ++ xs) (form_bytes (Later b) ++ ys) e in absurd (omega (arith, no))
one_form (Later a) First xs ys few few' e = let no : 50 ≡ 49 = eighth (form_bytes (Later a) ++ xs) (form_bytes First ++ ys) e in absurd (omega (arith, no))
one_form (Later a) (Later b) xs ys few few' e = ap Later (one_base a b xs ys few few' e)

pub one_head : (f g : HeaderForm) (m n : ℕ) (xs ys : List ℕ) → base_in f ≤ MAX_BASE → base_in g ≤ MAX_BASE → m ≤ MAX_CATALOGUE → n ≤ MAX_CATALOGUE → start_bytes f m ++ xs ≡ start_bytes g n ++ ys → (f ≡ g) × (m ≡ n)
one_head f g m n xs ys few few' short short' e = (form, sym (number m short) ∙ ap (λ (x : List ℕ). from_le_bytes w32 x) (sym (take_at (to_le_bytes w32 m) xs 4 (width32.len m)) ∙ ap (λ (x : List ℕ). take 4 x) rest ∙ take_at (to_le_bytes w32 n) ys 4 (width32.len n)) ∙ number n short')
  where
    whole : form_bytes f ++ (to_le_bytes w32 m ++ xs) ≡ form_bytes g ++ (to_le_bytes w32 n ++ ys)
    whole = sym (append_assoc (form_bytes f) (to_le_bytes w32 m) xs) ∙ e ∙ append_assoc (form_bytes g) (to_le_bytes w32 n) ys

    form : f ≡ g
    form = one_form f g (to_le_bytes w32 m ++ xs) (to_le_bytes w32 n ++ ys) few few' whole

    rest : to_le_bytes w32 m ++ xs ≡ to_le_bytes w32 n ++ ys
    rest = append_cancel_left (form_bytes f) (to_le_bytes w32 m ++ xs) (to_le_bytes w32 n ++ ys) (whole ∙ ap (λ (k : HeaderForm). form_bytes k ++ (to_le_bytes w32 n ++ ys)) (sym form))

    number : (k : ℕ) → k ≤ MAX_CATALOGUE → from_le_bytes w32 (to_le_bytes w32 k) ≡ k
    number k le = width32.number_of_bytes k (omega (arith, le))

-- ---- a head is read

-- bytes that pass the test are these
same_bytes : (a b : List ℕ) → pointwise nat_eq a b ≡ true → a ≡ b
same_bytes [] [] h = refl
same_bytes [] (y ∷ ys) h = absurd cc
same_bytes (x ∷ xs) [] h = absurd cc
same_bytes (x ∷ xs) (y ∷ ys) h = go (λ rest. same_bytes xs ys rest) (eqb x y) refl h
  where
    go : (pointwise nat_eq xs ys ≡ true → xs ≡ ys) → (b : Bool) → eqb x y ≡ b → (b && pointwise nat_eq xs ys) ≡ true → x ∷ xs ≡ y ∷ ys
    go others true e rest = ap₂ (λ (n : ℕ) (ns : List ℕ). n ∷ ns) (eqb-true _ _ e) (others rest)
    go others false e rest = absurd cc

pub later_found : (start after : List ℕ) (base end : ℕ) → pointwise nat_eq (take 8 start) (codes "PACMLOG2") ≡ true → after ≡ drop 8 start → IsAtStart (λ n. n < 2 ^ 64) (to_le_bytes w64) (from after 0) base (from after end)
    → (rest : List ℕ) × (start ≡ form_bytes (Later base) ++ rest) × (8 + end ≡ length (form_bytes (Later base)))
later_found start after base end test left is = (
  drop end after,
  sym (take-append-drop 8 start) ∙ ap₂ (λ (a b : List ℕ). a ++ b) (same_bytes (take 8 start) (codes "PACMLOG2") test) (sym left ∙ is.bytes) ∙ sym (append_assoc (codes "PACMLOG2") (to_le_bytes w64 base) (drop end after)),
  omega (arith, is.offset, width64.len base, form_long base),
)

pub later_again : (start after : List ℕ) (base end : ℕ) → pointwise nat_eq (take 8 start) (codes "PACMLOG1") ≡ false → after ≡ drop 8 start
    → ((meant : ℕ) (more : List ℕ) → meant < 2 ^ 64 → drop 0 after ≡ to_le_bytes w64 meant ++ more → ◌≡◌ {A = Result (ℕ × ℕ) Short} (Ok (base, end)) (Ok (meant, 0 + length (to_le_bytes w64 meant))))
    → (form : HeaderForm) (rest : List ℕ) → base_in form ≤ MAX_BASE → start ≡ form_bytes form ++ rest → ◌≡◌ {A = Option (HeaderForm × ℕ)} (Some (Later base, 8 + end)) (Some (form, length (form_bytes form)))
later_again start after base end other left again First rest few e = absurd (no (ap (λ (l : List ℕ). pointwise nat_eq (take 8 l) (codes "PACMLOG1")) (sym e) ∙ other))
  where
    no : true ≡ false → ⊥
    no h = cc
later_again start after base end other left again (Later b) rest few e =
    let there : after ≡ to_le_bytes w64 b ++ rest = left ∙ ap (λ (l : List ℕ). drop 8 l) (e ∙ append_assoc (codes "PACMLOG2") (to_le_bytes w64 b) rest) in
    let same = pair (base, end) (b, 0 + length (to_le_bytes w64 b)) (again b rest (omega (arith, few)) there) in
    ap₂ (λ (m n : ℕ). found m n) (ap (λ (p : ℕ × ℕ). p.0) same) (ap (λ (p : ℕ × ℕ). 8 + p.1) same ∙ long)
  where
    found : ℕ → ℕ → Option (HeaderForm × ℕ)
    found m n = Some (Later m, n)

    pair : (p q : ℕ × ℕ) → ◌≡◌ {A = Result (ℕ × ℕ) Short} (Ok p) (Ok q) → p ≡ q
    pair p q h = cc

    long : 8 + (0 + length (to_le_bytes w64 b)) ≡ length (form_bytes (Later b))
    long = omega (arith, width64.len b, form_long b)

pub head_found : (start : List ℕ) (form : HeaderForm) (len after end : ℕ) (rest : List ℕ) → start ≡ form_bytes form ++ rest → after ≡ length (form_bytes form) → IsAtStart (λ n. n < 2 ^ 32) (to_le_bytes w32) (from start after) len (from start end)
    → (x : List ℕ) × (start ≡ start_bytes form len ++ x)
head_found start form len after end rest front long is =
    let left : drop after start ≡ rest = ap (λ (l : List ℕ). drop after l) front ∙ drop_at (form_bytes form) rest after (sym long) in
    (drop end start, front ∙ ap (λ (l : List ℕ). form_bytes form ++ l) (sym left ∙ is.bytes) ∙ sym (append_assoc (form_bytes form) (to_le_bytes w32 len) (drop end start)))

-- ---- an image with a header

pub header_parts : (header : Header) (rest : List ℕ) → header_bytes header ++ rest ≡ start_bytes header.form (length header.text) ++ (header.text ++ rest)
header_parts header rest = append_assoc (start_bytes header.form (length header.text)) header.text rest

-- what is read of the start of a store begins with its head
pub head_of_store : (header : Header) (catalogue : CatalogueState) (image : List ℕ) → IsStore header catalogue image → (rest : List ℕ) × (take 20 image ≡ start_bytes header.form (length header.text) ++ rest)
head_of_store header catalogue image is =
    let head : List ℕ = start_bytes header.form (length header.text) in
    let after : List ℕ = header.text ++ (is.gate ∷ is.rest) in
    let n : ℕ = 20 - length head in (
      take n after,
      ap (λ (x : List ℕ). take 20 x) (is.split ∙ header_parts header (is.gate ∷ is.rest))
          ∙ ap (λ (k : ℕ). take k (head ++ after)) whole ∙ take-append-add head after n,
    )
  where
    whole : 20 ≡ length (start_bytes header.form (length header.text)) + (20 - length (start_bytes header.form (length header.text)))
    whole = omega (arith, head_few header.form (length header.text))

-- where the start begins with a head, the image does
pub image_of_head : (image head rest : List ℕ) → take 20 image ≡ head ++ rest → image ≡ head ++ drop (length head) image
image_of_head image head rest e =
    let whole : image ≡ head ++ (rest ++ drop 20 image) = sym (take-append-drop 20 image) ∙ ap (λ (x : List ℕ). x ++ drop 20 image) e ∙ append_assoc head rest (drop 20 image) in
    whole ∙ ap (λ (x : List ℕ). head ++ x) (sym (ap (λ (x : List ℕ). drop (length head) x) whole ∙ drop_at head (rest ++ drop 20 image) (length head) refl))

-- what is read of a store after its head: a byte more than the text, which comes first
pub text_of_store : (header : Header) (catalogue : CatalogueState) (image : List ℕ) (form : HeaderForm) (len : ℕ) (rest : List ℕ) → IsStore header catalogue image → base_in form ≤ MAX_BASE → len ≤ MAX_CATALOGUE → take 20 image ≡ start_bytes form len ++ rest
    → (len < length (take (len + 1) (drop (length (start_bytes form len)) image))) × (take len (take (len + 1) (drop (length (start_bytes form len)) image)) ≡ header.text)
text_of_store header catalogue image form len rest is few short e =
    (omega (arith, length-take (len + 1) after, long), take-take len (len + 1) after (omega arith) ∙ ap (λ (x : List ℕ). take len x) is_after ∙ take_at header.text (is.gate ∷ is.rest) len same.1)
  where
    after : List ℕ
    after = drop (length (start_bytes form len)) image

    head : List ℕ
    head = start_bytes header.form (length header.text)

    whole : image ≡ head ++ (header.text ++ (is.gate ∷ is.rest))
    whole = is.split ∙ header_parts header (is.gate ∷ is.rest)

    same : (header.form ≡ form) × (length header.text ≡ len)
    same = one_head header.form form (length header.text) len (header.text ++ (is.gate ∷ is.rest)) (drop (length (start_bytes form len)) image) is.base few is.accepted.has.reads.short short (sym whole ∙ image_of_head image (start_bytes form len) rest e)

    is_after : after ≡ header.text ++ (is.gate ∷ is.rest)
    is_after = ap₂ (λ (f : HeaderForm) (n : ℕ). drop (length (start_bytes f n)) image) (sym same.0) (sym same.1) ∙ ap (λ (x : List ℕ). drop (length head) x) whole ∙ drop_at head (header.text ++ (is.gate ∷ is.rest)) (length head) refl

    long : len + 1 ≤ length after
    long = omega (arith, ap (λ (x : List ℕ). length x) is_after, length-append header.text (is.gate ∷ is.rest), same.1)

gate_there : (image : List ℕ) (len : ℕ) → len < length (take (len + 1) image) → (gate : ℕ) × (more : List ℕ) × (drop len image ≡ gate ∷ more)
gate_there image len long = by (drop len image) refl
  where
    by : (after : List ℕ) → drop len image ≡ after → (gate : ℕ) × (more : List ℕ) × (drop len image ≡ gate ∷ more)
    by [] e = absurd (omega (arith, long, length-take (len + 1) image, length-drop len image, ap (λ (x : List ℕ). length x) e))
    by (gate ∷ more) e = (gate, more, e)

-- a header is there by its parts
pub store_there : (catalogue : CatalogueState) (image : List ℕ) (form : HeaderForm) (len : ℕ) (rest text : List ℕ) → base_in form ≤ MAX_BASE → take 20 image ≡ start_bytes form len ++ rest
    → len < length (take (len + 1) (drop (length (start_bytes form len)) image)) → text ≡ take len (take (len + 1) (drop (length (start_bytes form len)) image)) → IsAccepted text catalogue
    → IsStore (header_with form text) catalogue image
store_there catalogue image form len rest text few head long is_text accepted =
    let after : List ℕ = drop (length (start_bytes form len)) image in
    let there = gate_there after len long in
    let front : text ≡ take len after = is_text ∙ take-take len (len + 1) after (omega arith) in
    let lens : length text ≡ len = omega (arith, ap (λ (x : List ℕ). length x) is_text, length-take len (take (len + 1) after), long) in
    record {
      accepted = accepted;
      base = few;
      gate = there.0;
      rest = there.1;
      split =
          image_of_head image (start_bytes form len) rest head
          ∙ ap₂ (λ (a b : List ℕ). a ++ b) (ap (start_bytes form) (sym lens)) (sym (take-append-drop len after) ∙ ap₂ (λ (a b : List ℕ). a ++ b) (sym front) there.2)
          ∙ sym (header_parts (header_with form text) (there.0 ∷ there.1));
    }

-- the reader of a header stands after no batch
pub first_stands : (header : Header) (gate : NextGate) (image : List ℕ) → IsStore header gate.catalogue image → gate.header ≡ header → gate.place ≡ length (header_bytes header) → gate.txns ≡ base_of header → StandsAfter header [] gate image
first_stands header gate image is headed placed none = record {
  log = record { accepted = is.accepted; base = is.base; each = All-nil _ };
  after = record {
    headed = headed;
    place = omega (arith, placed, length-append (header_bytes header) []);
    txns = omega (arith, none);
  };
  byte = is.gate;
  rest = is.rest;
  split = is.split ∙ ap (λ (x : List ℕ). x ++ (is.gate ∷ is.rest)) (sym (append-nil (header_bytes header)));
}

-- a fault is no running out of memory
pub no_want : {F : Type 0} (refusal : Refusal F) (fault : F) → refusal ≡ Fault fault → refusal ≡ NoMemory → ⊥
no_want {F} refusal fault is want = no_same (sym is ∙ want)
  where
    no_same : ◌≡◌ {A = Refusal F} (Fault fault) NoMemory → ⊥
    no_same e = cc

-- ---- over what is known of a disk

-- a reader that found a header stands after it
pub attached : (known : Option DiskHistory) (start read text : List ℕ) (form : HeaderForm) (len : ℕ) (rest : List ℕ) (gate : NextGate) → start ≡ start_bytes form len ++ rest → base_in form ≤ MAX_BASE → len < length read → text ≡ take len read → IsAccepted text gate.catalogue
    → gate.header ≡ header_with form text → gate.place ≡ length (header_bytes gate.header) → gate.txns ≡ base_of gate.header
    → IfKnown (λ old. start ≡ take 20 (drop 0 old.now.seen)) known → IfKnown (λ old. read ≡ take (len + 1) (drop (length (start_bytes form len)) old.now.seen)) known
    → IfKnown (λ old. IsStore gate.header gate.catalogue old.now.seen × StandsAfter gate.header [] gate old.now.seen) known
attached None start read text form len rest gate head few long is_text accepted headed placed none prefix after = tt
attached (Some old) start read text form len rest gate head few long is_text accepted headed placed none prefix after =
    let image : List ℕ = old.now.seen in
    let store : IsStore (header_with form text) gate.catalogue image
    = store_there gate.catalogue image form len rest text few (sym prefix ∙ head) (subst (λ (t : List ℕ). len < length t) after long) (is_text ∙ ap (λ (t : List ℕ). take len t) after) accepted in
    let here : IsStore gate.header gate.catalogue image = subst (λ (h : Header). IsStore h gate.catalogue image) (sym headed) store in
    (here, first_stands gate.header gate image here refl placed none)

-- without a head there is no store
pub no_head : (known : Option DiskHistory) (start : List ℕ) → IfKnown (λ old. start ≡ take 20 (drop 0 old.now.seen)) known
    → ((form : HeaderForm) (len : ℕ) (rest : List ℕ) → base_in form ≤ MAX_BASE → len ≤ MAX_CATALOGUE → start ≡ start_bytes form len ++ rest → ⊥)
    → IfKnown (λ old. (header : Header) (catalogue : CatalogueState) → IsStore header catalogue old.now.seen → ⊥) known
no_head None start prefix none = tt
no_head (Some old) start prefix none = λ header catalogue is.
    let head = head_of_store header catalogue old.now.seen is in
    none header.form (length header.text) head.0 is.base is.accepted.has.reads.short (prefix ∙ head.1)

-- nor is there without a text and a byte after it, or where the text isn't accepted
pub no_text : (known : Option DiskHistory) (start read : List ℕ) (form : HeaderForm) (len : ℕ) (rest : List ℕ) → start ≡ start_bytes form len ++ rest → base_in form ≤ MAX_BASE → len ≤ MAX_CATALOGUE
    → IfKnown (λ old. start ≡ take 20 (drop 0 old.now.seen)) known → IfKnown (λ old. read ≡ take (len + 1) (drop (length (start_bytes form len)) old.now.seen)) known
    → (len < length read → (catalogue : CatalogueState) → IsAccepted (take len read) catalogue → ⊥)
    → IfKnown (λ old. (header : Header) (catalogue : CatalogueState) → IsStore header catalogue old.now.seen → ⊥) known
no_text None start read form len rest head few short prefix after none = tt
no_text (Some old) start read form len rest head few short prefix after none = λ header catalogue is.
    let found = text_of_store header catalogue old.now.seen form len rest is few short (sym prefix ∙ head) in
    none (subst (λ (t : List ℕ). len < length t) (sym after) found.0) catalogue (subst (λ (t : List ℕ). IsAccepted t catalogue) (sym (ap (λ (t : List ℕ). take len t) after ∙ found.1)) is.accepted)
