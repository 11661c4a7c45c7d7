-- Puts at numbers that fall are at cells of their own.
use Rattle.std.proofs.Common.{◌≡◌, ℕ, zero, suc, ◌<◌, ◌+◌, Bool, true, false, ◌||◌, List, [], ◌∷◌, pos, refl, sym, ap, ◌∙◌, arith}
use Rattle.std.specs.List.{AllByRecursion}
use Rattle.std.specs.Ordering.{eq_by_cmp}
use Rattle.pac_value.specs.declared.values.Key.TheVariants.{Int}
use Rattle.pac_value.specs.State.{Cell, cell_cmp}
use Rattle.pac_value.proofs.CellLemmas.{tied_same}
use Rattle.pac_tables.specs.declared.writes.Write.{Write}
use Rattle.pac_tables.specs.Written.{AreWithin, cell_written, is_written}

-- the write is at a number below this one
pub record IsBelow (most : ℕ) (write : Write) : Type 0 where
  pub number : ℕ
  pub less : number < most
  pub at : write.key ≡ Int (pos number)

pub below-more : (n : ℕ) (ws : List Write) → AllByRecursion (IsBelow n) ws → AllByRecursion (IsBelow (n + 1)) ws
below-more n [] all = tt
below-more n (w ∷ ws) all = (record { number = all.0.number; less = omega (arith, all.0.less); at = all.0.at }, below-more n ws all.1)

other-cell : (n : ℕ) (w v : Write) → w.key ≡ Int (pos n) → IsBelow n v → eq_by_cmp cell_cmp (cell_written w) (cell_written v) ≡ true → ⊥
other-cell n w v at is tied =
    let same : w.key ≡ v.key = ap (λ (c : Cell). c.1) (tied_same (cell_written w) (cell_written v) tied) in
    let numbers : n ≡ is.number = number_of n is.number (sym at ∙ same ∙ is.at) in
    absurd (omega (arith, is.less, numbers))
  where
    number_of : (a b : ℕ) → Int (pos a) ≡ Int (pos b) → a ≡ b
    number_of a b e = cc

pub not-written : (n : ℕ) (w : Write) (ws : List Write) → w.key ≡ Int (pos n) → AllByRecursion (IsBelow n) ws → is_written ws (cell_written w) ≡ false
not-written n w [] at all = refl
not-written n w (v ∷ ws) at all = go (eq_by_cmp cell_cmp (cell_written w) (cell_written v)) refl (not-written n w ws at all.1)
  where
    go : (b : Bool) → eq_by_cmp cell_cmp (cell_written w) (cell_written v) ≡ b → is_written ws (cell_written w) ≡ false → (b || is_written ws (cell_written w)) ≡ false
    go true tied rest = absurd (other-cell n w v at all.0 tied)
    go false other rest = rest

pub within-more : (w : Write) (ws : List Write) → w.table ≡ 0 → AreWithin 1 ws → AreWithin 1 (w ∷ ws)
within-more w ws at all zero d lt = omega (arith, at)
within-more w ws at all (suc k) d lt = all k d (omega arith)
