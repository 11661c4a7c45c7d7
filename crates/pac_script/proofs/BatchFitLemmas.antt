-- The batches of a script fit its catalogue, and their transactions have numbers of 64 bits.
use Rattle.std.proofs.Common.{◌≡◌, ◌≤◌, ◌<◌, ◌+◌, ◌^◌, ℕ, Bool, true, false, cond, eqb, List, [], ◌∷◌, ◌++◌, length, Option, Some, None, Result, Ok, Err, refl, sym, ap, subst, arith}
use Rattle.std.specs.Prelude.{IfOk}
use Rattle.std.specs.List.{AllByRecursion, AllZip}
use Rattle.std.proofs.lemmas.List.{length-append, length-drop}
use Rattle.pac_base.specs.declared.refusal.Refusal.{Refusal}
use Rattle.pac_ops.specs.declared.batch.Batch.{Batch}
use Rattle.pac_ops.specs.declared.transaction.Txn.{Txn}
use Rattle.pac_types.specs.Fits.{TxnFits}
use Rattle.pac_types.specs.Typing.{CatalogueState}
use Rattle.pac_request.specs.Answers.{AnswersBy}
use Rattle.pac_script.specs.Batches.{asked_in, steps, first_run, other_runs, flush_runs, AreLongest, as_batches}
use Rattle.pac_script.specs.Lines.{lines, with_first}
use Rattle.pac_request.specs.RequestFits.{AskedFits}
use Rattle.pac_script.specs.BatchFits.{BatchesFit, BatchesHaveNumbers}
use Rattle.pac_script.specs.Script.{text_after, lines_after, Accepts, HasBatches, ScriptSays}
use Rattle.pac_request.specs.declared.request.Request.{Request}
use Rattle.pac_request.specs.declared.request.Request.TheVariants as request
use Rattle.pac_script.specs.declared.script.Script.{Script}
use Rattle.pac_script.specs.declared.script_fault.ScriptFault.{ScriptFault}
use Rattle.pac_script.specs.declared.step.ScriptStep.{ScriptStep}
use Rattle.pac_script.specs.declared.step.ScriptStep.TheVariants.{Add, Flush}
use Rattle.pac_script.proofs.CutLemmas.{Parts, all_of, one_part}
use Rattle.pac_request.proofs.LineFits.{line_fits}

-- ---- steps

abbrev StepFits : CatalogueState → ScriptStep → Type 0
StepFits catalogue (Add txn) = TxnFits catalogue txn
StepFits catalogue Flush = Unit {0}

abbrev StepsFit : CatalogueState → List ScriptStep → Type 0
StepsFit catalogue all = AllByRecursion (StepFits catalogue) all

abbrev AllFit : CatalogueState → List Txn → Type 0
AllFit catalogue txns = AllByRecursion (TxnFits catalogue) txns

abbrev PartsFit : CatalogueState → Parts → Type 0
PartsFit catalogue parts = AllByRecursion (AllFit catalogue) parts

asked_fit : (catalogue : CatalogueState) (asked : Option Request) (more : List ScriptStep) → AskedFits catalogue asked → StepsFit catalogue more → StepsFit catalogue (asked_in asked more)
asked_fit catalogue None more h rest = rest
asked_fit catalogue (Some (request.Call call)) more h rest = (h, rest)
asked_fit catalogue (Some (request.AdHoc records)) more h rest = (h, rest)
asked_fit catalogue (Some request.Flush) more h rest = (tt, rest)
asked_fit catalogue (Some (request.Show table key)) more h rest = rest
asked_fit catalogue (Some request.Save) more h rest = rest
asked_fit catalogue (Some request.Stop) more h rest = rest
asked_fit catalogue (Some (request.Refused fault)) more h rest = rest

steps_fit : (catalogue : CatalogueState) (ls : List (List ℕ)) (said : List (Option Request)) → Accepts catalogue ls said → StepsFit catalogue (steps said)
steps_fit catalogue [] [] all = tt
steps_fit catalogue [] (s ∷ ss) all = absurd all
steps_fit catalogue (l ∷ ls) [] all = absurd all
steps_fit catalogue (l ∷ ls) (s ∷ ss) all = asked_fit catalogue s (steps ss) (line_fits catalogue l s all.0) (steps_fit catalogue ls ss all.1)

first_fits : (catalogue : CatalogueState) (all : List ScriptStep) → StepsFit catalogue all → AllFit catalogue (first_run all)
first_fits catalogue [] h = tt
first_fits catalogue (Add txn ∷ more) h = (h.0, first_fits catalogue more h.1)
first_fits catalogue (Flush ∷ more) h = tt

others_fit : (catalogue : CatalogueState) (all : List ScriptStep) → StepsFit catalogue all → PartsFit catalogue (other_runs all)
others_fit catalogue [] h = tt
others_fit catalogue (Add txn ∷ more) h = others_fit catalogue more h.1
others_fit catalogue (Flush ∷ more) h = (first_fits catalogue more h.1, others_fit catalogue more h.1)

-- ---- batches

-- what holds of all items of two lists
two_prefixes : {A : Type 0} (P : A → Type 0) (xs ys : List A) → AllByRecursion P (xs ++ ys) → AllByRecursion P xs × AllByRecursion P ys
two_prefixes P [] ys h = (tt, h)
two_prefixes P (x ∷ xs) ys h = let more = two_prefixes P xs ys h.1 in ((h.0, more.0), more.1)

both_hold : {A : Type 0} (P : A → Type 0) (xs ys : List A) → AllByRecursion P xs → AllByRecursion P ys → AllByRecursion P (xs ++ ys)
both_hold P [] ys h k = k
both_hold P (x ∷ xs) ys h k = (h.0, both_hold P xs ys h.1 k)

longest_fit : (catalogue : CatalogueState) (txns : List Txn) (parts : Parts) → AreLongest txns parts → AllFit catalogue txns → PartsFit catalogue parts
longest_fit catalogue txns [] longest h = tt
longest_fit catalogue txns (part ∷ parts) longest h =
    let two = two_prefixes (TxnFits catalogue) part longest.0 (subst (AllFit catalogue) longest.1 h) in
    (two.0, longest_fit catalogue longest.0 parts longest.5 two.1)

all_parts_fit : (catalogue : CatalogueState) (runs : List (List Txn)) (parts : List Parts) → AllZip AreLongest runs parts → PartsFit catalogue runs → PartsFit catalogue (all_of parts)
all_parts_fit catalogue [] [] each h = tt
all_parts_fit catalogue [] (p ∷ ps) each h = absurd each
all_parts_fit catalogue (r ∷ rs) [] each h = absurd each
all_parts_fit catalogue (r ∷ rs) (p ∷ ps) each h =
    subst (PartsFit catalogue) (sym (one_part p ps)) (both_hold (AllFit catalogue) p (all_of ps) (longest_fit catalogue r p each.0 h.0) (all_parts_fit catalogue rs ps each.1 h.1))

batches_of_parts : (catalogue : CatalogueState) (first : ℕ) (parts : Parts) → PartsFit catalogue parts → BatchesFit catalogue (as_batches first parts)
batches_of_parts catalogue first [] h = tt
batches_of_parts catalogue first (part ∷ parts) h = (h.0, batches_of_parts catalogue (first + length part) parts h.1)

batches_fit : (catalogue : CatalogueState) (ls : List (List ℕ)) (made : List Batch) → HasBatches catalogue ls made → BatchesFit catalogue made
batches_fit catalogue ls made h =
    let fit = steps_fit catalogue ls h.said h.accepted in
    let parts = all_parts_fit catalogue (flush_runs (steps h.said)) h.cut.parts h.cut.each (first_fits catalogue (steps h.said) fit, others_fit catalogue (steps h.said) fit) in
    subst (BatchesFit catalogue) h.cut.are (batches_of_parts catalogue 1 (all_of h.cut.parts) parts)

pub script_fits : (text : List ℕ) (r : Result Script (Refusal ScriptFault)) → AnswersBy (ScriptSays text) r → IfOk r (λ script. BatchesFit script.catalogue script.batches)
script_fits text (Ok script) h = batches_fit script.catalogue (lines_after (text_after text h.mark)) script.batches h.parts.batches
script_fits text (Err e) h = tt

-- ---- numbers

-- how many transactions parts have
total : Parts → ℕ
total [] = 0
total (part ∷ parts) = length part + total parts

total-append : (xs ys : Parts) → total (xs ++ ys) ≡ total xs + total ys
unfolding total
total-append [] ys = omega arith
total-append (x ∷ xs) ys = let more = total-append xs ys in omega (arith, more)

longest_total : (txns : List Txn) (parts : Parts) → AreLongest txns parts → total parts ≡ length txns
unfolding total
longest_total txns [] longest = sym (ap (λ (ts : List Txn). length ts) longest)
longest_total txns (part ∷ parts) longest =
    let more = longest_total longest.0 parts longest.5 in
    let long : length txns ≡ length (part ++ longest.0) = ap (λ (ts : List Txn). length ts) longest.1 in
    omega (arith, more, long, length-append part longest.0)

parts_total : (runs : List (List Txn)) (parts : List Parts) → AllZip AreLongest runs parts → total (all_of parts) ≡ total runs
unfolding total
parts_total [] [] each = refl
parts_total [] (p ∷ ps) each = absurd each
parts_total (r ∷ rs) [] each = absurd each
parts_total (r ∷ rs) (p ∷ ps) each =
    let split : total (all_of (p ∷ ps)) ≡ total (p ++ all_of ps) = ap total (one_part p ps) in
    omega (arith, split, total-append p (all_of ps), longest_total r p each.0, parts_total rs ps each.1)

runs_total : (all : List ScriptStep) → length (first_run all) + total (other_runs all) ≤ length all
unfolding total
runs_total [] = omega arith
runs_total (Add txn ∷ more) = let rest = runs_total more in omega (arith, rest)
runs_total (Flush ∷ more) = let rest = runs_total more in omega (arith, rest)

asked_few : (asked : Option Request) (more : List ScriptStep) → length (asked_in asked more) ≤ length more + 1
asked_few None more = omega arith
asked_few (Some (request.Call call)) more = omega arith
asked_few (Some (request.AdHoc records)) more = omega arith
asked_few (Some request.Flush) more = omega arith
asked_few (Some (request.Show table key)) more = omega arith
asked_few (Some request.Save) more = omega arith
asked_few (Some request.Stop) more = omega arith
asked_few (Some (request.Refused fault)) more = omega arith

steps_few : (catalogue : CatalogueState) (ls : List (List ℕ)) (said : List (Option Request)) → Accepts catalogue ls said → length (steps said) ≤ length ls
steps_few catalogue [] [] all = omega arith
steps_few catalogue [] (s ∷ ss) all = absurd all
steps_few catalogue (l ∷ ls) [] all = absurd all
steps_few catalogue (l ∷ ls) (s ∷ ss) all = let rest = steps_few catalogue ls ss all.1 in omega (arith, rest, asked_few s (steps ss))

with_first_few : (b : ℕ) (ls : List (List ℕ)) (n : ℕ) → length ls ≤ n → 1 ≤ n → length (with_first b ls) ≤ n
with_first_few b [] n few some = omega (arith, some)
with_first_few b (l ∷ ls) n few some = omega (arith, few)

lines_few : (text : List ℕ) → length (lines text) ≤ length text + 1
lines_few [] = omega arith
lines_few (b ∷ bs) = by (eqb b 10) (lines_few bs)
  where
    by : (e : Bool) → length (lines bs) ≤ length bs + 1 → length (cond e ([] ∷ lines bs) (with_first b (lines bs))) ≤ length (b ∷ bs) + 1
    by true few = omega (arith, few)
    by false few = with_first_few b (lines bs) (length (b ∷ bs) + 1) (omega (arith, few)) (omega arith)

after_few : (after : List ℕ) → length (lines_after after) ≤ length after
after_few [] = omega arith
after_few (feed ∷ text) = let few = lines_few text in omega (arith, few)

text_few : (text : List ℕ) (mark : Option ℕ) → length (text_after text mark) ≤ length text
text_few text None = omega arith
text_few text (Some at) = omega (arith, length-drop (at + 3) text)

numbered_parts : (first : ℕ) (parts : Parts) → first + total parts < 2 ^ 64 → BatchesHaveNumbers (as_batches first parts)
unfolding total
numbered_parts first [] few = tt
numbered_parts first (part ∷ parts) few = (omega (arith, few), numbered_parts (first + length part) parts (omega (arith, few)))

batches_numbered : (catalogue : CatalogueState) (ls : List (List ℕ)) (made : List Batch) → length ls < 2 ^ 63 → HasBatches catalogue ls made → BatchesHaveNumbers made
unfolding total
batches_numbered catalogue ls made few h =
    let parts = parts_total (flush_runs (steps h.said)) h.cut.parts h.cut.each in
    let most : 1 + total (all_of h.cut.parts) < 2 ^ 64 = omega (arith, parts, runs_total (steps h.said), steps_few catalogue ls h.said h.accepted, few) in
    subst BatchesHaveNumbers h.cut.are (numbered_parts 1 (all_of h.cut.parts) most)

pub script_numbered : (text : List ℕ) (r : Result Script (Refusal ScriptFault)) → length text < 2 ^ 63 → AnswersBy (ScriptSays text) r → IfOk r (λ script. BatchesHaveNumbers script.batches)
script_numbered text (Ok script) short h =
    let after = text_after text h.mark in
    batches_numbered script.catalogue (lines_after after) script.batches (omega (arith, short, after_few after, text_few text h.mark)) h.parts.batches
script_numbered text (Err e) short h = tt
