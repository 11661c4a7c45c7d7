-- The laws of partial replay: which piece may come last, which inputs it finds, and what all pieces leave.
use Rattle.std.specs.Prelude.{◌≡◌, ℕ, Bool, true, false, ◌&&◌, ◌==◌, List, ◌∷◌, ◌++◌}
use Rattle.pac_value.specs.Expressions.{Values}
use Rattle.pac_ops.specs.declared.piece.PieceId.{PieceId}
use Rattle.pac_base.specs.Members.{Mem}
use Rattle.pac_plan.specs.Pieces.{Present, Location, at_location, World, precedes, needs, partial, apply, HasInputs, adds, pieces, replayed_in, touches}

-- the environments that the whole replay leaves
abbrev pub env_after : World → List ℕ → Present → ℕ → Values
env_after w ts s = (replayed_in w ts s).envs

-- F holds the predecessors of each of its pieces
abbrev pub HoldsPreds : World → (ℕ → Values) → List PieceId → (PieceId → Bool) → Type 0
HoldsPreds w env L F = (p q : PieceId) → Mem p L → Mem q L → precedes w env p q ≡ true → F q ≡ true → F p ≡ true

-- the weaker: F holds what each of its pieces needs
abbrev pub HoldsNeeds : World → (ℕ → Values) → List PieceId → (PieceId → Bool) → Type 0
HoldsNeeds w env L F = (p q : PieceId) → Mem p L → Mem q L → needs w env p q ≡ true → F q ≡ true → F p ≡ true

-- a piece that has what it needs may come last, and finds its inputs
abbrev pub ExchangeByNeeds : World → List ℕ → List ℕ → Type 0
ExchangeByNeeds w ts bs =
    (s : Present) (F : PieceId → Bool) (p : PieceId) → Mem p (pieces w ts bs) → F p ≡ false
    → HoldsNeeds w (env_after w ts s) (pieces w ts bs) F
    → ((q : PieceId) → Mem q (pieces w ts bs) → needs w (env_after w ts s) q p ≡ true → F q ≡ true)
    → (partial w (adds F p) (pieces w ts bs) s ≡ apply w p (partial w F (pieces w ts bs) s))
    × HasInputs w (env_after w ts s) p (partial w F (pieces w ts bs) s)

-- a piece whose predecessors are in F may come last
abbrev pub Exchange : World → List ℕ → List ℕ → Type 0
Exchange w ts bs =
    (s : Present) (F : PieceId → Bool) (p : PieceId) → Mem p (pieces w ts bs) → F p ≡ false
    → HoldsPreds w (env_after w ts s) (pieces w ts bs) F
    → ((q : PieceId) → Mem q (pieces w ts bs) → precedes w (env_after w ts s) q p ≡ true → F q ≡ true)
    → (partial w (adds F p) (pieces w ts bs) s ≡ apply w p (partial w F (pieces w ts bs) s))
    × HasInputs w (env_after w ts s) p (partial w F (pieces w ts bs) s)

-- with every piece, the partial replay is the whole one
abbrev pub End : World → List ℕ → List ℕ → Type 0
End w ts bs = (s : Present) (F : PieceId → Bool) → ((p : PieceId) → Mem p (pieces w ts bs) → F p ≡ true) → partial w F (pieces w ts bs) s ≡ replayed_in w ts s

-- the inputs are known as soon as the pieces of the transaction that lead to the piece are in F
abbrev pub InputsKnown : World → List ℕ → List ℕ → Type 0
InputsKnown w ts bs =
    (s : Present) (F : PieceId → Bool) (p : PieceId) → HoldsNeeds w (env_after w ts s) (pieces w ts bs) F
    → ((q : PieceId) → Mem q (pieces w ts bs) → (q.txn == p.txn && w.edge q.block p.block) ≡ true → F q ≡ true)
    → HasInputs w (env_after w ts s) p (partial w F (pieces w ts bs) s)

-- and each piece of F has them at its turn, once those pieces of F have been applied that come before it
abbrev pub InputsAtTurns : World → List ℕ → List ℕ → Type 0
InputsAtTurns w ts bs =
    (s : Present) (F : PieceId → Bool) → HoldsNeeds w (env_after w ts s) (pieces w ts bs) F
    → (before after : List PieceId) (p : PieceId) → pieces w ts bs ≡ before ++ p ∷ after → F p ≡ true
    → HasInputs w (env_after w ts s) p (partial w F before s)

-- while p waits for nothing, another such piece leaves what p touches as it was
abbrev pub Undisturbed : World → List ℕ → List ℕ → Type 0
Undisturbed w ts bs =
    (s : Present) (F : PieceId → Bool) (p q : PieceId) → Mem p (pieces w ts bs) → Mem q (pieces w ts bs) → (p ≡ q → ⊥) → F p ≡ false → F q ≡ false
    → HoldsNeeds w (env_after w ts s) (pieces w ts bs) F
    → ((r : PieceId) → Mem r (pieces w ts bs) → needs w (env_after w ts s) r p ≡ true → F r ≡ true)
    → ((r : PieceId) → Mem r (pieces w ts bs) → needs w (env_after w ts s) r q ≡ true → F r ≡ true)
    → (c : Location) → touches w (env_after w ts s) p c ≡ true → at_location (partial w (adds F q) (pieces w ts bs) s) c ≡ at_location (partial w F (pieces w ts bs) s) c
