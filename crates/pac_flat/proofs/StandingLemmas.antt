-- What variables stand for, as a list that grows and changes says it.
use Rattle.std.proofs.Common.{◌≡◌, ◌<◌, ℕ, zero, suc, ◌+◌, ◌==◌, Bool, true, false, List, [], ◌∷◌, ◌++◌, length, set, refl, sym, ap, ◌∙◌, arith}
use Rattle.std.specs.Prelude.{slice_get, unwrap_or, if◌then◌else◌}
use Rattle.std.proofs.lemmas.Bool.Decides.{nat_tests}
use Rattle.std.proofs.lemmas.Grind.{get_or-set_at}
use Rattle.std.proofs.lemmas.List.{get_or-set_other}
use Rattle.std.proofs.lemmas.Option.{unwrap_or-slice_get}
use Rattle.pac_value.specs.declared.expr.Expr.{Expr, Var}
use Rattle.pac_types.specs.Unrolled.{renaming}
use Rattle.pac_types.proofs.PartLemmas.{equal}
use Rattle.pac_flat.specs.Names.{standing}

-- one more variable that stands for itself
pub standing_itself : (es : List Expr) → standing (es ++ Var (length es) ∷ []) ≡ standing es
standing_itself es i y = ((λ j. unwrap_or (slice_get (es ++ Var (none (length es) j) ∷ []) y) (Var (none y j))) ∙ go es 0 y ∙ (λ j. unwrap_or (slice_get es y) (Var (sym (none y) j)))) i
  where
    none : (n : ℕ) → n ≡ 0 + n
    none n = omega arith

    go : (es : List Expr) (n y : ℕ) → unwrap_or (slice_get (es ++ Var (n + length es) ∷ []) y) (Var (n + y)) ≡ unwrap_or (slice_get es y) (Var (n + y))
    go [] n zero = refl
    go [] n (suc y) = refl
    go (e ∷ es) n zero = refl
    go (e ∷ es) n (suc y) =
        let long : n + length (e ∷ es) ≡ suc n + length es = omega arith in
        let next : n + suc y ≡ suc n + y = omega arith in
        (λ i. unwrap_or (slice_get (es ++ Var (long i) ∷ []) y) (Var (next i))) ∙ go es (suc n) y ∙ (λ i. unwrap_or (slice_get es y) (Var (sym next i)))

-- a variable that stands for something else
pub standing_set : (es : List Expr) (x : ℕ) (e : Expr) → x < length es → standing (set es x e) ≡ renaming (standing es) x e
standing_set es x e inside i y = go (y == x) refl i
  where
    apart : (y x : ℕ) → (y == x) ≡ false → y ≡ x → ⊥
    apart y x h is = let wrong : (y == x) ≡ true = grind (arith, nat_tests) in absurd cc

    go : (b : Bool) → (y == x) ≡ b → standing (set es x e) y ≡ (if y == x then e else standing es y)
    go true h = unwrap_or-slice_get (set es x e) y (Var y) ∙ get_or-set_at es x y e (Var y) (equal y x h) inside ∙ ap (λ b. if b then e else standing es y) (sym h)
    go false h = unwrap_or-slice_get (set es x e) y (Var y) ∙ get_or-set_other es x y e (Var y) (apart y x h) ∙ sym (unwrap_or-slice_get es y (Var y)) ∙ ap (λ b. if b then e else standing es y) (sym h)
