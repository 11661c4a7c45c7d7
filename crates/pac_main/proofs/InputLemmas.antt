-- What the bytes that were read say of the input.
use Rattle.std.proofs.Common.{◌≡◌, ◌≤◌, ℕ, List, ◌++◌, length, Option, Some, None, Result, Ok, Err, refl, sym, ap, subst, ◌∙◌}
use Rattle.std.specs.Prelude.{IfSome, IsSomeAnd, IfOk, IfErr}
use Rattle.std.specs.Io.KnownBytes.{prepend_known}
use Rattle.std.proofs.lemmas.List.{append-nil}
use Rattle.pac_base.specs.declared.refusal.Refusal.{Refusal}
use Rattle.pac_base.specs.declared.refusal.Refusal.TheVariants as refusal
use Rattle.pac_outside.specs.Content.{Gave, IsAtEnd}
use Rattle.pac_outside.specs.declared.failed.ReadError.{ReadError}
use Rattle.pac_outside.specs.declared.failed.ReadError.TheVariants as read
use Rattle.pac_request.specs.Answers.{AnswersBy}
use Rattle.pac_script.specs.Script.{ScriptSays}
use Rattle.pac_script.specs.declared.script.Script.{Script}
use Rattle.pac_script.specs.declared.script_fault.ScriptFault.{ScriptFault}
use Rattle.pac_script.proofs.OneScript.{script_once}
use Rattle.pac_main.specs.Causes.{GivesNoScript, IsNoScript, IsUnread}
use Rattle.pac_main.specs.declared.input.InputError.{InputError}
use Rattle.pac_main.specs.declared.input.InputError.TheVariants as input
use Rattle.pac_main.specs.Inputs.{input_of_read, input_of_script}
use Rattle.pac_restore.specs.Batches.{RunOn}
use Rattle.pac_main.specs.Replay.{IsReadAs, IsScriptOf}
use Rattle.pac_main.specs.Streams.{Observed, AnyFaulted}
use Rattle.pac_main.proofs.BatchLemmas.{running-batches}

-- a result holds one error
pub err_is : {T E : Type 0} (r : Result T E) (x y : E) → r ≡ Err x → r ≡ Err y → x ≡ y
err_is {T} {E} (Ok t) x y a b = absurd cc
err_is {T} {E} (Err e) x y a b = sym (error_same e x a) ∙ error_same e y b
  where
    error_same : (m n : E) → ◌≡◌ {A = Result T E} (Err m) (Err n) → m ≡ n
    error_same m n is = cc

-- an error that came has its cause
pub if_err : {T E : Type 0} (P : E → Type 0) (r : Result T E) (error : E) → r ≡ Err error → P error → IfErr r P
if_err {T} {E} P r error is h = subst (λ (q : Result T E). IfErr q P) (sym is) h

-- what an option holds of which this is so
pub some_is : {A : Type 0} (P : A → Type 0) (option : Option A) → IsSomeAnd option P → (held : A) × (option ≡ Some held) × P held
some_is P None has = absurd has
some_is P (Some held) has = (held, refl, has)

-- ---- the bytes that were read are the whole input, or more than it may have

known_whole : (items : List ℕ) (new : Option (List ℕ)) → IsAtEnd new → IfSome (prepend_known items new) (λ all. all ≡ items)
known_whole items None end = tt
known_whole items (Some rest) end = ap (λ (r : List ℕ). items ++ r) end ∙ append-nil items

pub whole-input : (old new : Option (List ℕ)) (items : List ℕ) → Gave old items new → IsAtEnd new → IfSome old (λ all. all ≡ items)
whole-input old new items gave end = subst (λ (o : Option (List ℕ)). IfSome o (λ all. all ≡ items)) (sym gave) (known_whole items new end)

-- what is said of the whole input's text
pub of-input : (P : List ℕ → Type 0) (old : Option (List ℕ)) (items : List ℕ) → IfSome old (λ all. all ≡ items) → P items → IfSome old P
of-input P None items whole h = tt
of-input P (Some all) items whole h = subst P (sym whole) h

-- an input that wasn't read has failed, or there was no memory for it
pub not-read : {T : Type 0} (source : Observed) (error : ReadError) → (◌≡◌ {A = Result T ReadError} (Err error) (Err read.Failed) → AnyFaulted source) → IsUnread source (input_of_read error)
not-read source read.Failed faulted = faulted refl
not-read source read.NoMemory faulted = tt

-- an input that isn't read gives no script
pub unread-script : (source : Observed) (error : InputError) → IsUnread source error → GivesNoScript source error
unread-script source input.Failed h = h
unread-script source input.TooLong h = h
unread-script source (input.Script fault) h = absurd h
unread-script source input.NoMemory h = h

-- ---- a script is what the whole input is read as

pub the-reading : (text : List ℕ) (answer : Result Script ScriptFault) → length text ≤ 67108864 → ScriptSays text answer → IsReadAs text answer
the-reading text answer short says = record { short = short; says = says; only = λ other h. script_once text other answer h says }

pub no-script : (text : List ℕ) (error : Refusal ScriptFault) → length text ≤ 67108864 → AnswersBy {X = Script} (ScriptSays text) (Err error) → IsNoScript text (input_of_script error)
no-script text (refusal.Fault fault) short says = the-reading text (Err fault) short says
no-script text refusal.NoMemory short says = tt

-- what is said of the text that was read is said of the input
module _ (source : Observed) (text : List ℕ) (whole : IfSome source.before (λ all. all ≡ text)) where
  pub script-of-input : (read : Result Script InputError) → IfOk read (λ script. IsReadAs text (Ok script)) → IfOk read (λ script. IsScriptOf script source.before)
  script-of-input (Ok script) h = of-input (λ (t : List ℕ). IsReadAs t (Ok script)) source.before text whole h
  script-of-input (Err error) h = tt

  pub no-script-input : (error : InputError) → IsNoScript text error → GivesNoScript source error
  no-script-input input.Failed h = absurd h
  no-script-input input.TooLong h = absurd h
  no-script-input (input.Script fault) h = of-input (λ (t : List ℕ). IsReadAs t (Err fault)) source.before text whole h
  no-script-input input.NoMemory h = tt

  pub stops-of-input : (read : Result Script InputError) → IfErr read (IsNoScript text) → IfErr read (GivesNoScript source)
  stops-of-input (Ok script) h = tt
  stops-of-input (Err error) h = no-script-input error h

-- the batches of a script run on from the first transaction
pub script-runs : (text : List ℕ) (script : Script) → ScriptSays text (Ok script) → RunOn 0 script.batches
script-runs text script says = running-batches _ script.batches says.parts.batches.cut.are
