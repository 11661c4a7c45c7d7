-- The bounds are read one after the other, and the second one settles the loop's limit.
use Rattle.std.proofs.Common.{◌∙◌, ℕ, ℤ, w64, SFits, None, refl, rules}
use Rattle.std.proofs.lemmas.Int.{to_z-of_z}
use Rattle.std.proofs.lemmas.Result.{err_from_is_err_and}
use Rattle.pac_tokens.specs.declared.token.Symbol.TheVariants as symbol
use Rattle.pac_syntax.specs.declared.limits.Around.{Around}
use Rattle.pac_syntax.specs.Grammar.{Plain, last_bound, in_loop}
use Rattle.pac_syntax.specs.Faults.{over_role}
use Rattle.pac_syntax.specs.Machine.{Steps, WantBound, want_symbol, run}
use Rattle.pac_syntax.proofs.Stepping.{few_turns, many_turns, fails_along}
use Rattle.pac_syntax.proofs.parse.parser.Parser.bounds.Goals as goal

-- what is to come after the first bound, and after the second
abbrev after_second : Around → (ℤ → ℤ → Around → Steps) → ℤ → ℤ → Steps
after_second d k from to = k from to (in_loop d from to)

abbrev after_first : Around → ℕ → (ℤ → ℤ → Around → Steps) → ℤ → Steps
after_first d at k from = want_symbol symbol.Range (WantBound (λ to. last_bound d at from to) (after_second d k from))

pub returns-in_err-from-clause-run : goal.returns-in_err-from-clause-run
returns-in_err-from-clause-run c =
    let p = err_from_is_err_and c.from_residual.result c.from_residual.ensures.1 in
    λ k. rw (p.1, p.2) (c.in_err-from.ensures.run (λ from. Plain) (λ z. None) (after_first c.args.around c.args.at k) (λ z at. refl))

pub returns-in_err-symbol-clause-run : goal.returns-in_err-symbol-clause-run
returns-in_err-symbol-clause-run c =
    let p = err_from_is_err_and c.from_residual-in_err-symbol.result c.from_residual-in_err-symbol.ensures.1 in
    λ k. rw (p.1, p.2) (fails_along _ _ _
    (c.in_ok-from.ensures.run (λ from. Plain) (λ z. None) (after_first c.args.around c.args.at k) (λ z at. refl))
    (c.in_err-symbol.ensures.run _))

pub returns-in_err-to-clause-run : goal.returns-in_err-to-clause-run
returns-in_err-to-clause-run c =
    let p = err_from_is_err_and c.from_residual-in_err-to.result c.from_residual-in_err-to.ensures.1 in
    let d = c.args.around in
    let from = c.in_ok-from.from in
    λ k. rw (p.1, p.2) (fails_along _ _ _
    (c.in_ok-from.ensures.run (λ from. Plain) (λ z. None) (after_first d c.args.at k) (λ z at. refl) ∙ c.in_ok-symbol.ensures.run _)
    (c.in_err-to.ensures.run (λ to. last_bound d c.args.at from to) (λ to. over_role (last_bound d c.args.at from to) 0) (after_second d k from) (λ z at. refl)))

pub returns-in-Some-clause-run : goal.returns-in-Some-clause-run
returns-in-Some-clause-run c =
    let d = c.args.around in
    let from = c.in_ok-from.from in
    let to = c.in_ok-to.to in
    let fits_from : SFits w64 from = search rules in
    let fits_to : SFits w64 to = search rules in
    λ k. rw (to_z-of_z w64 from fits_from, to_z-of_z w64 to fits_to) (
    c.in_ok-from.ensures.run (λ from. Plain) (λ z. None) (after_first d c.args.at k) (λ z at. refl) ∙ c.in_ok-symbol.ensures.run _
    ∙ c.in_ok-to.ensures.run (λ to. last_bound d c.args.at from to) (λ to. over_role (last_bound d c.args.at from to) 0) (after_second d k from) (λ z at. refl)
    ∙ few_turns d c.in-Some.inner c.args.at from to c.in_loop.result (λ inner. run c.bound-2.new.self.end (k from to inner) c.bound-2.new.self.rest.now)
    (rw (to_z-of_z w64 from fits_from, to_z-of_z w64 to fits_to) at c.in_loop.ensures) c.in-Some.is)

pub returns-in-None-clause-run : goal.returns-in-None-clause-run
returns-in-None-clause-run c =
    let d = c.args.around in
    let from = c.in_ok-from.from in
    let to = c.in_ok-to.to in
    let fits_from : SFits w64 from = search rules in
    let fits_to : SFits w64 to = search rules in
    λ k. c.in_ok-from.ensures.run (λ from. Plain) (λ z. None) (after_first d c.args.at k) (λ z at. refl) ∙ c.in_ok-symbol.ensures.run _
    ∙ c.in_ok-to.ensures.run (λ to. last_bound d c.args.at from to) (λ to. over_role (last_bound d c.args.at from to) 0) (after_second d k from) (λ z at. refl)
    ∙ many_turns d c.args.at from to c.in_loop.result _ (rw (to_z-of_z w64 from fits_from, to_z-of_z w64 to fits_to) at c.in_loop.ensures) c.in-None.is
