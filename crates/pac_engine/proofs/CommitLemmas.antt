-- A log to which the transactions of a group are added, where there are any.
use Rattle.std.proofs.Common.{◌≡◌, ◌⊎◌, inl, ◌∙◌, ℕ, ◌+◌, ◌<◌, List, [], ◌∷◌, ◌++◌, length, Option, Some, None, refl, sym, ap, subst, arith}
use Rattle.pac_ops.specs.declared.transaction.Txn.{Txn}
use Rattle.pac_outside.specs.Disk.{BothKnown, DiskState, DiskHistory, IsImage, Leaves, LeavesOnly}
use Rattle.pac_outside.specs.GateByte.{OneImage}
use Rattle.pac_outside.proofs.Histories.{stays}
use Rattle.pac_outside.proofs.Images.{one_image}
use Rattle.pac_types.specs.Typing.{CatalogueState}
use Rattle.pac_log.specs.declared.header.Header.{Header}
use Rattle.pac_log.specs.declared.position.NextGate.{NextGate}
use Rattle.pac_log.specs.Bodies.{body_bytes}
use Rattle.pac_log.specs.Gates.{gate_after}
use Rattle.pac_log.specs.Logs.{AddsBatch, HoldsLog, KeepsOrAdds}
use Rattle.pac_log.specs.Places.{IsAfter}
use Rattle.pac_engine.specs.Committing.{HasAdded, MayAdd, gate_past, with_batch}

-- where a crash leaves one image, it leaves that
one_leaves : (P Q : List ℕ → Type 0) → ((image : List ℕ) → P image → Q image) → (state : DiskState) → OneImage P state → Leaves Q state
one_leaves P Q f state one image is = subst Q (sym (one_image state.seen image (subst (λ (s : DiskState). IsImage s image) one.one is))) (f state.seen one.has)

-- a device that isn't called leaves what it left
pub rests : (P Q : List ℕ → Type 0) → ((image : List ℕ) → P image → Q image) → (h : DiskHistory) → OneImage P h.now → LeavesOnly Q h h
rests P Q f h one = stays Q h (one_leaves P Q f h.now one)

pub nothing_added : (header : Header) (catalogue : CatalogueState) (batches : List (List Txn)) (txns : List Txn) (known : Option DiskHistory) → BothKnown (MayAdd header catalogue batches txns) known known
nothing_added header catalogue batches txns None = tt
nothing_added header catalogue batches txns (Some h) = λ one. rests (HoldsLog header catalogue batches) (λ image. HoldsLog header catalogue batches image ⊎ HoldsLog header catalogue (with_batch batches txns) image) (λ image holds. inl holds) h one

with_some : (batches : List (List Txn)) (txns : List Txn) → 0 < length txns → with_batch batches txns ≡ batches ++ txns ∷ []
with_some batches [] some = absurd (omega (arith, some))
with_some batches (txn ∷ txns) some = refl

pub some_gate : (txns : List Txn) (old now new : NextGate) → 0 < length txns → now ≡ old → new ≡ gate_after (length txns) (1 + length (body_bytes txns)) now → new ≡ gate_past txns old
some_gate [] old now new some same is = absurd (omega (arith, some))
some_gate (txn ∷ txns) old now new some same is = is ∙ ap (λ (g : NextGate). gate_past (txn ∷ txns) g) same

module _ (header : Header) (batches : List (List Txn)) (txns : List Txn) (some : 0 < length txns) (old now : NextGate) (same : now ≡ old) where
  pub may_add : (a b : Option DiskHistory) → BothKnown (KeepsOrAdds header now.catalogue batches txns) a b → BothKnown (MayAdd header old.catalogue batches txns) a b
  may_add a b known =
      subst (λ (g : NextGate). BothKnown (MayAdd header g.catalogue batches txns) a b) same
      (subst (λ (bs : List (List Txn)). BothKnown (λ x y. OneImage (HoldsLog header now.catalogue batches) x.now → LeavesOnly (λ image. HoldsLog header now.catalogue batches image ⊎ HoldsLog header now.catalogue bs image) x y) a b) (sym (with_some batches txns some)) known)

  pub has_added : (a b : Option DiskHistory) → BothKnown (AddsBatch header now.catalogue batches txns) a b → BothKnown (HasAdded header old.catalogue batches txns) a b
  has_added a b known =
      subst (λ (g : NextGate). BothKnown (HasAdded header g.catalogue batches txns) a b) same
      (subst (λ (bs : List (List Txn)). BothKnown (λ x y. OneImage (HoldsLog header now.catalogue batches) x.now → OneImage (HoldsLog header now.catalogue bs) y.now) a b) (sym (with_some batches txns some)) known)

  pub still_after : IsAfter header batches old → IsAfter header batches now
  still_after is = subst (λ (g : NextGate). IsAfter header batches g) (sym same) is

  pub after_some : (new : NextGate) → IsAfter header (batches ++ txns ∷ []) new → IsAfter header (with_batch batches txns) new
  after_some new is = subst (λ (bs : List (List Txn)). IsAfter header bs new) (sym (with_some batches txns some)) is
