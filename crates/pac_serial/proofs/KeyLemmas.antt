-- The key of a table operation, by what an expression gives.
use Rattle.std.proofs.Common.{◌≡◌, ℕ, true, Option, Some, None, Result, Ok, Err, IfOk, IfErr, refl, sym, subst}
use Rattle.pac_value.specs.declared.values.Ty.{Ty}
use Rattle.pac_value.specs.declared.values.Ty.TheVariants.{Bool as BoolTy}
use Rattle.pac_value.specs.declared.values.Key.{Key}
use Rattle.pac_value.specs.declared.values.Value.{Value}
use Rattle.pac_value.specs.declared.expr.Expr.{Expr}
use Rattle.pac_value.specs.declared.expr.Trap.{Trap}
use Rattle.pac_value.specs.Values.{type_of, key_value, as_key}
use Rattle.pac_value.specs.Expressions.{Values, value, ◌>>=◌}
use Rattle.pac_value.specs.Forms.{key_given}
use Rattle.pac_value.specs.Scopes.{is_wanted}
use Rattle.pac_ops.specs.Operations.{cell_at}
use Rattle.pac_serial.proofs.FitLemmas.{wanted_is}

pub wanted-no-bool : (a b : Option Ty) → is_wanted a b ≡ true → a ≡ Some BoolTy → ⊥
wanted-no-bool a b h e = go b (subst (λ (o : Option Ty). is_wanted o b ≡ true) e h)
  where
    go : (b : Option Ty) → is_wanted (Some BoolTy) b ≡ true → ⊥
    go None h = cc
    go (Some ty) h = cc

-- the cell of a key that is given
pub key-cell : (t : ℕ) (e : Expr) (env : Values) (r : Result Key Trap) → r ≡ key_given e env → IfOk r (λ k. cell_at t e env ≡ Ok (Some (t, k)))
key-cell t e env r is = subst (λ (q : Result Key Trap). IfOk q (λ k. cell_at t e env ≡ Ok (Some (t, k)))) (sym is) (go (value e env))
  where
    go : (v : Result Value Trap) → IfOk (v >>= λ x. Ok (as_key x)) (λ k. (◌>>=◌ {B = Option (ℕ × Key)} v (λ x. Ok (Some (t, as_key x)))) ≡ Ok (Some (t, k)))
    go (Ok v) = refl
    go (Err trap) = tt

-- the trap in place of a key
pub key-trap : (t : ℕ) (e : Expr) (env : Values) (r : Result Key Trap) → r ≡ key_given e env → IfErr r (λ trap. cell_at t e env ≡ Err trap)
key-trap t e env r is = subst (λ (q : Result Key Trap). IfErr q (λ trap. cell_at t e env ≡ Err trap)) (sym is) (go (value e env))
  where
    go : (v : Result Value Trap) → IfErr (v >>= λ x. Ok (as_key x)) (λ trap. (◌>>=◌ {B = Option (ℕ × Key)} v (λ x. Ok (Some (t, as_key x)))) ≡ Err trap)
    go (Ok v) = tt
    go (Err trap) = refl

-- it has the type that the table wants
pub key-typed : (a b : Option Ty) (r : Result Key Trap) → is_wanted a b ≡ true → IfOk r (λ k. a ≡ Some (type_of (key_value k))) → IfOk r (λ k. b ≡ Some (type_of (key_value k)))
key-typed a b (Ok k) wanted is = wanted_is a b (type_of (key_value k)) is wanted
key-typed a b (Err trap) wanted is = tt
