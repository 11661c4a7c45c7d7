-- The lists are equal exactly where the maps are.
use Rattle.std.proofs.Common.{◌≡◌, ℕ, Bool, true, false, ◌&&◌, nat_eq, refl, ap, sym, ◌∙◌, arith}
use Rattle.std.specs.Bool.{Decides}
use Rattle.std.proofs.lemmas.Slice.Eq.{slice_eq-Decides}
use Rattle.std.proofs.lemmas.Bool.Decides.{nat_tests}
use Rattle.std.specs.Bool.{IsTrue}
use Rattle.pac_value.specs.declared.values.Value.{Value}
use Rattle.pac_value.specs.contracts.values.ValuePartialEq.TheImpl.{ghosts}
use Rattle.pac_value.proofs.ValueLemmas.{value_decides}
use Rattle.pac_value.proofs.SortedLemmas.{sorted_decide}
use Rattle.pac_value.proofs.env.EnvSame.same.Goals as goal

entry_decides : (a b : ℕ × Value) → Decides (nat_eq a.0 b.0 && (ghosts).eq a.1 b.1) (a ≡ b)
entry_decides a b = go (nat_eq a.0 b.0) refl ((ghosts).eq a.1 b.1) (value_decides a.1 b.1)
  where
    go : (n : Bool) → nat_eq a.0 b.0 ≡ n → (v : Bool) → Decides v (a.1 ≡ b.1) → Decides (n && v) (a ≡ b)
    go true e v d =
        let number : a.0 ≡ b.0 = grind (arith, nat_tests) in
        (λ h. λ i. (number i, d.0 h i), λ same. d.1 (ap (λ (x : ℕ × Value). x.1) same))
    go false e v d =
        (λ (h : IsTrue false). cc, λ same. let number : a.0 ≡ b.0 = ap (λ (x : ℕ × Value). x.0) same in absurd (grind (arith, nat_tests)))

pub returns : goal.returns
returns c =
    let lists = slice_eq-Decides entry_decides c.self.inside.values.items c.other.inside.values.items c.eq.result c.eq.ensures in
    let maps = sorted_decide c.self.inside.values.items c.other.inside.values.items c.self.invariant c.other.invariant c.eq.result lists in
    (λ h. sym c.self.view_is ∙ maps.0 h ∙ c.other.view_is, λ e. maps.1 (c.self.view_is ∙ e ∙ sym c.other.view_is))
