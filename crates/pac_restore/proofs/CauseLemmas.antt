-- What an error that was handed on says of its cause.
use Rattle.std.proofs.Common.{◌≡◌, ◌∙◌, Result, Ok, Err, Option, Some, sym, ap, subst}
use Rattle.std.specs.Prelude.{IfSome, IsErrOf}

-- the error of an answer is the one that it is said to be
pub the-error : {T E : Type 0} (result : Result T E) (error said : E) → result ≡ Err error → IsErrOf result said → error ≡ said
the-error (Ok x) error said is known = absurd cc
the-error (Err other) error said is known = cc

-- the same of an error that was handed on as it was
pub the-cause : {T E : Type 0} (result : Result T E) (error cause said : E) → result ≡ Err error → error ≡ cause → IsErrOf result said → cause ≡ said
the-cause result error cause said is from known = sym from ∙ the-error result error said is known

-- an answer with this error is one with the error that it is
pub as-error : {T E : Type 0} (cause said : E) → cause ≡ said → IsErrOf {T = T} (Err cause) said
as-error cause said same = ap (λ e. Err e) same

-- two answers that are the same have the same error
pub same-error : {T E : Type 0} (error other : E) → ◌≡◌ {A = Result T E} (Err error) (Err other) → error ≡ other
same-error error other e = cc

-- an answer without an error has none
pub no-error : {T E : Type 0} (x : T) (error : E) → ◌≡◌ {A = Result T E} (Ok x) (Err error) → ⊥
no-error x error e = cc

-- what holds where there is something holds of it
pub at-some : {A : Type 0} (P : A → Type 0) (found : Option A) (x : A) → found ≡ Some x → IfSome found P → P x
at-some P found x is holds = subst (λ (o : Option _). IfSome o P) is holds
