-- What the parser's answer says of the grammar.
use Rattle.std.proofs.Common.{◌≡◌, ℕ, List, Result, Ok, Err, refl, sym, ap, subst, ◌∙◌}
use Rattle.std.specs.Prelude.{IfOk, IsErrOf}
use Rattle.pac_base.specs.Refusals.{Gives, Only}
use Rattle.pac_tokens.specs.declared.token.Spanned.{Spanned}
use Rattle.pac_syntax.specs.declared.tree.Tree.{Tree}
use Rattle.pac_tokens.specs.declared.fault.Fault.{Fault}
use Rattle.pac_base.specs.declared.refusal.Refusal.{Refusal}
use Rattle.pac_base.specs.declared.refusal.Refusal.TheVariants as error
use Rattle.pac_syntax.specs.Faults.{ReadsTokens, IsFirstFault}
use Rattle.pac_syntax.specs.Machine.{Stop, run, scan, reported, start}
use Rattle.pac_syntax.proofs.Meets.{reads_ok, ok_reads, first_fault}

abbrev Answer : Type 0
Answer = Result Tree (Refusal Fault)

abbrev ok_read : Tree → Result Tree Fault
ok_read x = Ok x

abbrev err_read : Fault → Result Tree Fault
err_read x = Err x

ok_is : (x y : Tree) → ok_read x ≡ ok_read y → x ≡ y
ok_is x y e = cc

err_is : (x y : Fault) → err_read x ≡ err_read y → x ≡ y
err_is x y e = cc

read_is : (r : Result Tree Stop) (t : Tree) → reported r ≡ Ok t → r ≡ Ok t
read_is (Ok x) t e = ap (λ y. Ok y) (ok_is x t e)
read_is (Err s) t e = absurd cc

abbrev Given : Answer → ℕ → List Spanned → Type 0
Given r end ts = Gives ok_read r (run end start ts)

pub top_reads : (r : Answer) (end : ℕ) (ts : List Spanned) → Given r end ts → IfOk r (λ tree. ReadsTokens ts tree)
unfolding run
top_reads (Ok x) end ts g = reads_ok end ts x (read_is (scan end start ts) x g)
top_reads (Err e) end ts g = tt

pub top_only : (r : Answer) (end : ℕ) (ts : List Spanned) → Given r end ts → (tree : Tree) → ReadsTokens ts tree → Only r tree
unfolding run
top_only (Ok x) end ts g tree h = ok_is x tree (sym g ∙ ap reported (ok_reads end ts tree h))
top_only (Err error.NoMemory) end ts g tree h = refl
top_only (Err (error.Fault f)) end ts g tree h = let e : err_read f ≡ ok_read tree = sym g ∙ ap reported (ok_reads end ts tree h) in absurd cc

by_stop : (end : ℕ) (ts : List Spanned) (f : Fault) (r : Result Tree Stop) → scan end start ts ≡ r → reported r ≡ Err f → IsFirstFault end ts f
by_stop end ts f (Ok x) is e = absurd cc
by_stop end ts f (Err s) is e =
    let first = first_fault end ts s is in
    subst (λ (f : Fault). IsFirstFault end ts f) (err_is s.fault f e) (first.0, s.rest, first.1)

abbrev err_of : Refusal Fault → Answer
err_of e = Err e

fault_is : (e : Refusal Fault) (f : Fault) → err_of e ≡ err_of (error.Fault f) → e ≡ error.Fault f
fault_is e f h = cc

of_fault : (end : ℕ) (ts : List Spanned) (f : Fault) → Given (Err (error.Fault f)) end ts → IsFirstFault end ts f
unfolding run
of_fault end ts f g = by_stop end ts f (scan end start ts) refl g

pub top_fault : (r : Answer) (end : ℕ) (ts : List Spanned) → Given r end ts → (f : Fault) → IsErrOf r (error.Fault f) → IsFirstFault end ts f
top_fault r end ts g f h = of_fault end ts f (subst (λ (r : Answer). Given r end ts) h g)
