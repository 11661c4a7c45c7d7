-- The values of a row, one expression after another.
use Rattle.std.proofs.Common.{◌≡◌, ℕ, ◌+◌, ◌<◌, ◌≤◌, true, List, [], ◌∷◌, ◌++◌, map, length, get_or, take, drop, Option, Some, None, Result, Ok, Err, IsSome, refl, sym, ap, ◌∙◌, subst, append_assoc, arith}
use Rattle.std.specs.Prelude.{slice_get}
use Rattle.std.specs.List.{list_all}
use Rattle.std.proofs.lemmas.List.{get_or-map, drop_more, take_more, take_all, map-append, length-map}
use Rattle.std.proofs.lemmas.List.Folds.{list_all-append}
use Rattle.std.proofs.lemmas.Option.{slice_get_within, get_or_from_slice_get}
use Rattle.pac_value.specs.declared.values.Ty.{Ty}
use Rattle.pac_value.specs.declared.values.Value.{Value}
use Rattle.pac_value.specs.declared.values.Value.TheVariants.{Int, Text, Bool as Truth}
use Rattle.pac_value.specs.declared.expr.Expr.{Expr}
use Rattle.pac_value.specs.declared.expr.Trap.{Trap}
use Rattle.pac_value.specs.Values.{type_of, is_stored}
use Rattle.pac_value.specs.Expressions.{Values, value, type_in, ◌>>=◌}
use Rattle.pac_value.specs.State.{RowValues}
use Rattle.pac_value.specs.Scopes.{Scope, is_wanted, are_wanted}
use Rattle.pac_ops.specs.Operations.{values}
use Rattle.pac_serial.proofs.FitLemmas.{wanted_at, wanted-length, wanted_is, and-both}

-- the expression at hand wants its column's type
pub wanted_item : (types : Scope) (es : List Expr) (tys : List Ty) (i : ℕ) (e : Expr) → are_wanted (map (type_in types) es) tys ≡ true → i < length es → e ≡ get_or es i e → is_wanted (type_in types e) (slice_get tys i) ≡ true
wanted_item types es tys i e h inside is =
    let within : i < length (map (type_in types) es) = rw length-map inside in
    subst (λ (z : Expr). is_wanted (type_in types z) (slice_get tys i) ≡ true) (sym is)
    (subst (λ (o : Option Ty). is_wanted o (slice_get tys i) ≡ true) (get_or-map (type_in types) es i e None inside) (wanted_at (map (type_in types) es) tys i h within))

pub wanted-some : (a b : Option Ty) → is_wanted a b ≡ true → IsSome a
wanted-some None b h = cc
wanted-some (Some ty) b h = refl

wanted-stored : (v : Value) (b : Option Ty) → is_wanted (Some (type_of v)) b ≡ true → is_stored v ≡ true
wanted-stored (Int n) b h = refl
wanted-stored (Text t) b h = refl
wanted-stored (Truth b) None h = cc
wanted-stored (Truth b) (Some ty) h = cc

-- a trap stops the row
pub values-stop : (env : Values) (es : List Expr) (i : ℕ) (e : Expr) (row : RowValues) (trap : Trap) → i < length es → e ≡ get_or es i e
    → (values (drop i es) env >>= λ vs. Ok (row ++ vs)) ≡ values es env → value e env ≡ Err trap → values es env ≡ Err trap
values-stop env es i e row trap inside is so_far h =
    sym so_far ∙ ap (λ (xs : List Expr). values xs env >>= λ vs. Ok (row ++ vs)) (drop_more es i e inside ∙ ap (λ z. z ∷ drop (i + 1) es) (sym is))
    ∙ ap (λ (r : Result Value Trap). (r >>= λ v. values (drop (i + 1) es) env >>= λ vs. Ok (v ∷ vs)) >>= λ vs. Ok (row ++ vs)) h

moved : (row : RowValues) (v : Value) (r : Result RowValues Trap) → ((r >>= λ vs. Ok (v ∷ vs)) >>= λ vs. Ok (row ++ vs)) ≡ (r >>= λ vs. Ok ((row ++ v ∷ []) ++ vs))
moved row v (Ok vs) = ap Ok (sym (append_assoc row (v ∷ []) vs))
moved row v (Err trap) = refl

-- a value goes on
pub values-go : (env : Values) (es : List Expr) (i : ℕ) (e : Expr) (row : RowValues) (v : Value) → i < length es → e ≡ get_or es i e
    → (values (drop i es) env >>= λ vs. Ok (row ++ vs)) ≡ values es env → value e env ≡ Ok v
    → (values (drop (i + 1) es) env >>= λ vs. Ok ((row ++ v ∷ []) ++ vs)) ≡ values es env
values-go env es i e row v inside is so_far h =
    sym (moved row v (values (drop (i + 1) es) env))
    ∙ sym (ap (λ (r : Result Value Trap). (r >>= λ v. values (drop (i + 1) es) env >>= λ vs. Ok (v ∷ vs)) >>= λ vs. Ok (row ++ vs)) h)
    ∙ sym (ap (λ (xs : List Expr). values xs env >>= λ vs. Ok (row ++ vs)) (drop_more es i e inside ∙ ap (λ z. z ∷ drop (i + 1) es) (sym is)))
    ∙ so_far

pub types-go : (row : RowValues) (tys : List Ty) (i : ℕ) (v : Value) → map type_of row ≡ take i tys → is_wanted (Some (type_of v)) (slice_get tys i) ≡ true → map type_of (row ++ v ∷ []) ≡ take (i + 1) tys
types-go row tys i v e h =
    let found : slice_get tys i ≡ Some (type_of v) = wanted_is (Some (type_of v)) (slice_get tys i) (type_of v) refl h in
    map-append type_of row (v ∷ [])
    ∙ ap (λ ts. ts ++ type_of v ∷ []) e
    ∙ ap (λ t. take i tys ++ t ∷ []) (sym (get_or_from_slice_get tys i (type_of v) (type_of v) found))
    ∙ sym (take_more tys i (type_of v) (slice_get_within tys i (type_of v) found))

pub stored-go : (row : RowValues) (v : Value) (b : Option Ty) → list_all is_stored row ≡ true → is_wanted (Some (type_of v)) b ≡ true → list_all is_stored (row ++ v ∷ []) ≡ true
stored-go row v b all h = list_all-append is_stored row (v ∷ []) ∙ and-both (list_all is_stored row) (list_all is_stored (v ∷ [])) all (and-both (is_stored v) true (wanted-stored v b h) refl)

-- all columns have values
pub types-end : (types : Scope) (es : List Expr) (tys : List Ty) (row : RowValues) (i : ℕ) → are_wanted (map (type_in types) es) tys ≡ true → length es ≤ i → map type_of row ≡ take i tys → map type_of row ≡ tys
types-end types es tys row i h over e =
    let count : length (map (type_in types) es) ≡ length tys = wanted-length (map (type_in types) es) tys h in
    let same : length (map (type_in types) es) ≡ length es = length-map es (type_in types) in
    let all : length tys ≤ i = omega arith in
    e ∙ take_all i tys all
