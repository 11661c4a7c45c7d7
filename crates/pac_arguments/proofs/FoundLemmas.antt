-- What clap's clauses come to for a simple command.
use Rattle.std.proofs.Common.{◌≡◌, ◌∙◌, true, false, cond, List, [], ◌∷◌, Option, Some, None, option_map, refl, sym, ap, inl, inr, eqb, length, arith}
use Rattle.std.specs.Prelude.{option_and_then}
use Rattle.std.proofs.lemmas.Bool.{ne_eqb}
use Rattle.std.specs.Borrow.{Bor}
use Rattle.clap.specs.Words.{App, Row, Text, HasKind, HasMatchesOf, IsAmong, Kinds, fault_of, matches_of, first_value, first_of, rows_of, found_of, is_simple_and_free, kind_of}
use Rattle.clap.specs.Walk.{is_empty}
use Rattle.clap.specs.declared.error.Error.{Error}
use Rattle.clap.specs.declared.error.kind.ErrorKind.{ErrorKind}
use Rattle.clap.specs.declared.error.kind.ErrorKind.TheVariants.{OutOfMemory}
use Rattle.clap.specs.declared.parser.matches.ArgMatches.{ArgMatches}
use Rattle.clap.specs.declared.parser.matches.Found.{Found}
use Rattle.clap.proofs.WalkLemmas.{both, first_value-rows}
use Rattle.pac_arguments.specs.Found.{found_rows}

taken_by : (kinds : Kinds) (rows : List Row) → kinds ≡ [] → cond (is_empty kinds) (Some rows) None ≡ Some rows
taken_by kinds rows e = rw e refl

refused_by : (kinds : Kinds) (k : ErrorKind) (rows : List Row) → IsAmong k kinds → cond (is_empty kinds) (Some rows) None ≡ None
refused_by [] k rows among = absurd among
refused_by (x ∷ xs) k rows among = let some : eqb (length (x ∷ xs)) 0 ≡ false = ne_eqb _ _ (λ e. omega arith) in rw some refl

pub is_taken : (app : App) (arguments : List Text) (m : ArgMatches) → is_simple_and_free app ≡ true → fault_of app arguments ≡ [] → HasMatchesOf app arguments m
    → Some (rows_of (found_of m)) ≡ found_rows app arguments
unfolding found_rows
is_taken app arguments m free none has =
    let rows : rows_of (found_of m) ≡ matches_of app arguments = (has (both _ _ free).0).0 in
    ap (λ (r : List Row). Some r) rows ∙ sym (taken_by (fault_of app arguments) (matches_of app arguments) none)

pub is_refused : (app : App) (arguments : List Text) (e : Error) → (kind_of e ≡ OutOfMemory → ⊥) → HasKind (fault_of app arguments) e → None ≡ found_rows app arguments
unfolding found_rows
is_refused app arguments e other has = elim has [
  | inl memory ↦ absurd (other memory)
  | inr among ↦ sym (refused_by (fault_of app arguments) (kind_of e) (matches_of app arguments) among)
]

pub first_said : (f : Found) (id : Text) (o : Option (Bor Text)) → option_map (λ s. s.now) o ≡ first_value f id → first_of id (rows_of f) ≡ option_map (λ s. s.now) o
first_said f id o e = sym (first_value-rows f id) ∙ sym e

pub said_some : (f : Found) (id : Text) (o : Option (Bor Text)) (t : Bor Text) → option_map (λ s. s.now) o ≡ first_value f id → o ≡ Some t → first_of id (rows_of f) ≡ Some t.now
said_some f id o t e is = first_said f id o e ∙ ap (λ (x : Option (Bor Text)). option_map (λ s. s.now) x) is

pub said_none : (f : Found) (id : Text) (o : Option (Bor Text)) → option_map (λ s. s.now) o ≡ first_value f id → o ≡ None → first_of id (rows_of f) ≡ None
said_none f id o e is = first_said f id o e ∙ ap (λ (x : Option (Bor Text)). option_map (λ s. s.now) x) is

abbrev rows_in : Option ArgMatches → Option (List Row)
rows_in o = option_map (λ m. rows_of (found_of m)) o

-- what is made of the rows that clap found
pub made_some : {X : Type 0} (make : List Row → Option X) (o : Option ArgMatches) (m : ArgMatches) (r : Option (List Row)) → rows_in o ≡ r → o ≡ Some m → make (rows_of (found_of m)) ≡ option_and_then make r
made_some {X} make o m r e is = ap (λ (x : Option (List Row)). option_and_then make x) (sym (ap rows_in is) ∙ e)

pub made_none : {X : Type 0} (make : List Row → Option X) (o : Option ArgMatches) (r : Option (List Row)) → rows_in o ≡ r → o ≡ None → None ≡ option_and_then make r
made_none {X} make o r e is = ap (λ (x : Option (List Row)). option_and_then make x) (sym (ap rows_in is) ∙ e)
