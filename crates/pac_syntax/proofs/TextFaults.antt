-- The fault of a text is that of its tokens or of a token, whichever stands first.
use Rattle.std.proofs.Common.{◌≡◌, ◌≤◌, ◌<◌, ℕ, Bool, true, false, List, Some, Result, Ok, Err, refl, sym, subst, inl, inr, if◌then◌else◌, nat_lt}
use Rattle.std.proofs.lemmas.Bool.{ltb-true, ltb-false}
use Rattle.std.specs.Prelude.{IfOk, IsErrOf}
use Rattle.pac_tokens.specs.declared.token.Spanned.{Spanned}
use Rattle.pac_syntax.specs.declared.tree.Tree.{Tree}
use Rattle.pac_tokens.specs.declared.fault.Fault.{Fault}
use Rattle.pac_base.specs.declared.refusal.Refusal.{Refusal}
use Rattle.pac_base.specs.declared.refusal.Refusal.TheVariants as error
use Rattle.pac_syntax.specs.Faults.{ReadsTokens, IsFirstFault}
use Rattle.pac_syntax.specs.Reading.{IsFirstOf, reported_of}

abbrev a_fault : Fault → Refusal Fault
a_fault f = error.Fault f

fault_is : (f g : Fault) → a_fault f ≡ a_fault g → f ≡ g
fault_is f g e = cc

earlier : (end : ℕ) (ts : List Spanned) (first lexical fault : Fault) (b : Bool) → nat_lt first.at lexical.at ≡ b
    → IsFirstFault lexical.at ts first → (if b then a_fault first else a_fault lexical) ≡ a_fault fault → IsFirstOf end ts (Some lexical) fault
earlier end ts first lexical fault true is h e =
    let before : first.at < lexical.at = ltb-true first.at lexical.at is in
    inl (subst (λ (f : Fault). IsFirstFault lexical.at ts f × (f.at < lexical.at)) (fault_is first fault e) (h, before))
earlier end ts first lexical fault false is h e =
    let after : lexical.at ≤ first.at = ltb-false first.at lexical.at is in
    inr (sym (fault_is lexical fault e), inr (first, h, after))

pub reports_first : (end : ℕ) (ts : List Spanned) (lexical fault : Fault) (r : Result Tree (Refusal Fault)) → IfOk r (λ tree. ReadsTokens ts tree)
    → ((f : Fault) → IsErrOf r (error.Fault f) → IsFirstFault lexical.at ts f) → reported_of r lexical ≡ error.Fault fault → IsFirstOf end ts (Some lexical) fault
reports_first end ts lexical fault (Ok tree) reads first e = inr (sym (fault_is lexical fault e), inl (tree, reads))
reports_first end ts lexical fault (Err error.NoMemory) reads first e = absurd cc
reports_first end ts lexical fault (Err (error.Fault f)) reads first e = earlier end ts f lexical fault (nat_lt f.at lexical.at) refl (first f refl) e

abbrev err_of : Refusal Fault → Result Tree (Refusal Fault)
err_of e = Err e

-- the error of a result is the one that it is made of
pub error_is : (e : Refusal Fault) (f : Fault) → IsErrOf (err_of e) (error.Fault f) → e ≡ error.Fault f
error_is e f h = cc
