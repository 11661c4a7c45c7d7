-- The header and a closed gate on a device are a log without a batch.
use Rattle.std.proofs.Common.{◌≡◌, ◌∙◌, ◌≤◌, ℕ, ◌+◌, List, [], ◌∷◌, ◌++◌, length, drop, Option, Some, None, refl, sym, ap, subst, arith, append_assoc}
use Rattle.std.proofs.lemmas.List.{append-nil, drop_all, nil_from_length}
use Rattle.std.proofs.lemmas.List.Elements.{All-nil}
use Rattle.pac_types.specs.Typing.{CatalogueState}
use Rattle.pac_outside.specs.Disk.{DiskState, DiskHistory, IfKnown, BothKnown, IsDurable, settled, spliced}
use Rattle.pac_outside.specs.GateByte.{OneImage}
use Rattle.pac_log.specs.declared.header.Header.{Header}
use Rattle.pac_log.specs.declared.limits.TheConstants.{MAX_BASE}
use Rattle.pac_log.specs.declared.position.NextGate.{NextGate}
use Rattle.pac_log.specs.Gates.{first_gate}
use Rattle.pac_log.specs.Logs.{base_of, header_bytes, HoldsLog}
use Rattle.pac_log.specs.Places.{LogEndsAt}
use Rattle.pac_types.specs.Accepted.{IsAccepted}

module _ (header : Header) (piece : List ℕ) (framed : piece ≡ header_bytes header ++ (0 ∷ [])) where
  -- on an empty device the piece is all there is
  alone : (state : DiskState) (seen : List ℕ) → length seen ≡ 0 → state ≡ settled (spliced 0 piece seen) → state ≡ settled (header_bytes header ++ (0 ∷ []))
  alone state seen none e =
      let bytes : spliced 0 piece seen ≡ piece = ap (λ (x : List ℕ). spliced 0 piece x) (nil_from_length seen none) ∙ ap (λ (x : List ℕ). piece ++ x) (drop_all (0 + length piece) [] (omega arith)) ∙ append-nil piece in
      e ∙ ap settled (bytes ∙ framed)

  pub written : (a b : Option DiskHistory) → IfKnown (λ old. length old.now.seen ≡ 0) a → BothKnown (IsDurable 0 piece) a b → BothKnown (λ old new. new.now ≡ settled (header_bytes header ++ (0 ∷ []))) a b
  written None None empty run = tt
  written None (Some b) empty run = absurd run
  written (Some a) None empty run = absurd run
  written (Some a) (Some b) empty run = alone b.now a.now.seen empty run

-- these bytes are a log without a batch, whatever follows
pub holds : (header : Header) (catalogue : CatalogueState) (rest : List ℕ) → IsAccepted header.text catalogue → base_of header ≤ MAX_BASE → HoldsLog header catalogue [] (header_bytes header ++ (0 ∷ rest))
holds header catalogue rest accepted few = record {
  log = record { accepted = accepted; base = few; each = All-nil _ };
  shut = record { gate = 0; rest = rest; split = ap (λ (x : List ℕ). x ++ (0 ∷ rest)) (sym (append-nil (header_bytes header))); shut = omega arith };
}

pub made : (header : Header) (catalogue : CatalogueState) → IsAccepted header.text catalogue → base_of header ≤ MAX_BASE → (a b : Option DiskHistory) → BothKnown (λ old new. new.now ≡ settled (header_bytes header ++ (0 ∷ []))) a b
    → BothKnown (λ old new. OneImage (HoldsLog header catalogue []) new.now) a b
made header catalogue accepted few None None is = tt
made header catalogue accepted few None (Some b) is = absurd is
made header catalogue accepted few (Some a) None is = absurd is
made header catalogue accepted few (Some a) (Some b) is = subst (λ (s : DiskState). OneImage (HoldsLog header catalogue []) s) (sym is) (record { one = refl; has = holds header catalogue [] accepted few })

-- the same over what stood on the device
pub begun : (header : Header) (catalogue : CatalogueState) → IsAccepted header.text catalogue → base_of header ≤ MAX_BASE → (a b : Option DiskHistory) → BothKnown (IsDurable 0 (header_bytes header ++ (0 ∷ []))) a b
    → BothKnown (λ old new. OneImage (HoldsLog header catalogue []) new.now) a b
begun header catalogue accepted few None None is = tt
begun header catalogue accepted few None (Some b) is = absurd is
begun header catalogue accepted few (Some a) None is = absurd is
begun header catalogue accepted few (Some a) (Some b) is =
    let piece : List ℕ = header_bytes header ++ (0 ∷ []) in
    let after : List ℕ = drop (0 + length piece) a.now.seen in
    let bytes : spliced 0 piece a.now.seen ≡ header_bytes header ++ (0 ∷ after) = append_assoc (header_bytes header) (0 ∷ []) after in
    subst (λ (s : DiskState). OneImage (HoldsLog header catalogue []) s) (sym (is ∙ ap settled bytes)) (record { one = refl; has = holds header catalogue after accepted few })

pub where_known : (P Q : DiskHistory → Type 0) → ((h : DiskHistory) → P h → Q h) → (known : Option DiskHistory) → IfKnown P known → IfKnown Q known
where_known P Q step None here = tt
where_known P Q step (Some h) here = step h here

-- what is said of the state after a call
pub then_known : (R : DiskHistory → DiskHistory → Type 0) (Q : DiskHistory → Type 0) → ((a b : DiskHistory) → R a b → Q b) → (old new : Option DiskHistory) → BothKnown R old new → IfKnown Q new
then_known R Q step None None both = tt
then_known R Q step None (Some b) both = absurd both
then_known R Q step (Some a) None both = absurd both
then_known R Q step (Some a) (Some b) both = step a b both

-- a log that stands at its first gate ends there, where it has no batch
pub ends_at : (gate : NextGate) (state : DiskState) → gate ≡ first_gate gate → OneImage (HoldsLog gate.header gate.catalogue []) state → LogEndsAt gate state
ends_at gate state first holds = record {
  header = gate.header;
  batches = [];
  holds = holds;
  after = record {
    headed = refl;
    place = ap (λ (g : NextGate). g.place) first ∙ ap (λ (l : List ℕ). length l) (sym (append-nil (header_bytes gate.header)));
    txns = omega (arith, ap (λ (g : NextGate). g.txns) first);
  };
}
