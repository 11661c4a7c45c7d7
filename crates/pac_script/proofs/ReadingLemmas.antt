-- The lines of a script, read one after another.
use Rattle.std.proofs.Common.{◌≡◌, ◌∙◌, ◌≤◌, ◌<◌, ◌+◌, ℕ, Bool, true, false, cond, List, [], ◌∷◌, ◌++◌, length, drop, Option, Some, None, Result, Ok, Err, refl, sym, ap, subst, append_assoc, arith}
use Rattle.std.specs.Prelude.{MatchOption, IfOk, IsErrOf}
use Rattle.std.proofs.lemmas.List.{append-nil, length-append}
use Rattle.pac_ops.specs.declared.batch.Batch.{Batch}
use Rattle.pac_ops.specs.declared.transaction.Txn.{Txn}
use Rattle.pac_base.specs.declared.refusal.Refusal.{Refusal}
use Rattle.pac_base.specs.declared.refusal.Refusal.TheVariants.{Fault, NoMemory}
use Rattle.pac_types.specs.Typing.{CatalogueState}
use Rattle.pac_request.specs.Answers.{AnswersBy}
use Rattle.pac_script.specs.Lines.{lines}
use Rattle.pac_script.specs.declared.script.Script.{Script}
use Rattle.pac_request.specs.declared.request.Request.{Request}
use Rattle.pac_script.specs.declared.script_fault.ScriptFault.{ScriptFault}
use Rattle.pac_script.specs.declared.script_fault.ScriptFault.TheVariants.{Unaccepted, Line}
use Rattle.pac_script.specs.declared.step.ScriptStep.{ScriptStep}
use Rattle.pac_script.specs.declared.step.ScriptStep.TheVariants.{Add, Flush}
use Rattle.pac_script.specs.Batches.{fits, step_of, steps, AreCutInto}
use Rattle.pac_script.specs.Cutting.{Cut, flushed, with_last, cut_all, nothing_cut, next_txn}
use Rattle.pac_script.specs.Script.{Accepts, HasBatches, IsPartsFault, PartsSay, lines_after}
use Rattle.pac_types.specs.Accepted.{IsAccepted}
use Rattle.pac_request.specs.ScriptLines.{ScriptLineSays}
use Rattle.pac_script.specs.ScriptReading.{step_cut, asked_cut, IsSmallStep, IsSmallAsked, IsLineFault, IsLinesFault}
use Rattle.pac_script.proofs.CutLemmas.{AllSmall, are_batches}

-- ---- what lines ask, one after another

abbrev cut_said : List (Option Request) → Cut → Cut
cut_said [] c = c
cut_said (s ∷ ss) c = cut_said ss (asked_cut s c)

abbrev SmallSaid : List (Option Request) → Type 0
SmallSaid [] = Unit {0}
SmallSaid (s ∷ ss) = IsSmallAsked s × SmallSaid ss

cut_said-last : (ss : List (Option Request)) (s : Option Request) (c : Cut) → cut_said (ss ++ (s ∷ [])) c ≡ asked_cut s (cut_said ss c)
cut_said-last [] s c = refl
cut_said-last (x ∷ ss) s c = cut_said-last ss s (asked_cut x c)

small-last : (ss : List (Option Request)) (s : Option Request) → SmallSaid ss → IsSmallAsked s → SmallSaid (ss ++ (s ∷ []))
small-last [] s all last = (last, tt)
small-last (x ∷ ss) s all last = (all.0, small-last ss s all.1 last)

cut_said-steps : (ss : List (Option Request)) (c : Cut) → cut_said ss c ≡ cut_all (steps ss) c
cut_said-steps [] c = refl
cut_said-steps (None ∷ ss) c = cut_said-steps ss c
cut_said-steps (Some r ∷ ss) c = by (step_of r) refl (λ d. cut_said-steps ss d)
  where
    by : (o : Option ScriptStep) → step_of r ≡ o → ((d : Cut) → cut_said ss d ≡ cut_all (steps ss) d) → cut_said (Some r ∷ ss) c ≡ cut_all (steps (Some r ∷ ss)) c
    by None is more = rw is (more c)
    by (Some step) is more = rw is (more (step_cut (Some step) c))

small-steps : (ss : List (Option Request)) → SmallSaid ss → AllSmall (steps ss)
small-steps [] all = tt
small-steps (None ∷ ss) all = small-steps ss all.1
small-steps (Some r ∷ ss) all = by (step_of r) refl all.0 (small-steps ss all.1)
  where
    by : (o : Option ScriptStep) → step_of r ≡ o → IsSmallStep (step_of r) → AllSmall (steps ss) → AllSmall (steps (Some r ∷ ss))
    by None is first more = rw is more
    by (Some step) is first more = rw is (subst IsSmallStep is first, more)

-- each line takes one number at most
next-more : (s : Option Request) (c : Cut) → next_txn (asked_cut s c) ≤ next_txn c + 1
next-more None c = omega arith
next-more (Some r) c = by_step (step_of r)
  where
    by_fit : (t : Txn) (b : Bool) → next_txn (cond b (with_last t c) (with_last t (flushed c))) ≤ next_txn c + 1
    by_fit t true = omega (arith, length-append c.held (t ∷ []))
    by_fit t false = omega arith

    by_step : (o : Option ScriptStep) → next_txn (step_cut o c) ≤ next_txn c + 1
    by_step None = omega arith
    by_step (Some Flush) = omega arith
    by_step (Some (Add t)) = by_fit t (fits (c.held ++ (t ∷ [])))

pub next-by : (s : Option Request) (c after : Cut) (n : ℕ) → after ≡ asked_cut s c → next_txn c ≤ n → next_txn after ≤ n + 1
next-by s c after n is few = rw is (omega (arith, next-more s c, few))

-- ---- lines

accepts-last : (catalogue : CatalogueState) (ls : List (List ℕ)) (ss : List (Option Request)) (line : List ℕ) (s : Option Request) → Accepts catalogue ls ss → ScriptLineSays catalogue line (Ok s)
    → Accepts catalogue (ls ++ (line ∷ [])) (ss ++ (s ∷ []))
accepts-last catalogue [] [] line s all last = (last, tt)
accepts-last catalogue [] (x ∷ ss) line s all last = absurd all
accepts-last catalogue (l ∷ ls) [] line s all last = absurd all
accepts-last catalogue (l ∷ ls) (x ∷ ss) line s all last = (all.0, accepts-last catalogue ls ss line s all.1 last)

-- the lines before are accepted, and what they ask is cut so
pub record Reading (catalogue : CatalogueState) (all rest : List (List ℕ)) (number : ℕ) (c : Cut) : Type 0 where
  pub before : List (List ℕ)
  pub said : List (Option Request)
  pub parts : all ≡ before ++ rest
  pub counted : number ≡ length before + 1
  pub accepted : Accepts catalogue before said
  pub small : SmallSaid said
  pub cut : c ≡ cut_said said nothing_cut

pub reading-start : (catalogue : CatalogueState) (all : List (List ℕ)) (c : Cut) → c ≡ nothing_cut → Reading catalogue all all 1 c
reading-start catalogue all c is = record { before = []; said = []; parts = refl; counted = refl; accepted = tt; small = tt; cut = is }

pub reading-next : (catalogue : CatalogueState) (all rest others : List (List ℕ)) (line : List ℕ) (number : ℕ) (c after : Cut) (s : Option Request) → Reading catalogue all rest number c → rest ≡ line ∷ others
    → ScriptLineSays catalogue line (Ok s) → IsSmallAsked s → after ≡ asked_cut s c → Reading catalogue all others (number + 1) after
reading-next catalogue all rest others line number c after s r is says small made = record {
  before = r.before ++ (line ∷ []);
  said = r.said ++ (s ∷ []);
  parts = r.parts ∙ ap (λ (ls : List (List ℕ)). r.before ++ ls) is ∙ sym (append_assoc r.before (line ∷ []) others);
  counted = omega (arith, length-append r.before (line ∷ []), r.counted);
  accepted = accepts-last catalogue r.before r.said line s r.accepted says;
  small = small-last r.said s r.small small;
  cut = made ∙ ap (asked_cut s) r.cut ∙ sym (cut_said-last r.said s nothing_cut);
}

-- the first line, and some others
pub first_of : {A : Type 0} (o : Option A) (f : A → List (List ℕ)) (lines : List (List ℕ)) (line : List ℕ) → MatchOption o (lines ≡ line ∷ []) (λ r. lines ≡ line ∷ f r)
    → (rest : List (List ℕ)) × (lines ≡ line ∷ rest)
first_of None f lines line is = ([], is)
first_of (Some r) f lines line is = (f r, is)

pub refused-here : (catalogue : CatalogueState) (all rest others : List (List ℕ)) (line : List ℕ) (number : ℕ) (c : Cut) (fault : ScriptFault) → Reading catalogue all rest number c → rest ≡ line ∷ others
    → IsLineFault catalogue line number fault → IsLinesFault catalogue all fault
refused-here catalogue all rest others line number c (Line reported fault) r is says = record {
  before = r.before;
  line = line;
  after = others;
  parts = r.parts ∙ ap (λ (ls : List (List ℕ)). r.before ++ ls) is;
  counted = says.0 ∙ r.counted;
  said = r.said;
  accepted = r.accepted;
  refused = says.1;
}
refused-here catalogue all rest others line number c (Unaccepted fault) r is says = absurd says

pub all-read : (catalogue : CatalogueState) (all : List (List ℕ)) (number : ℕ) (c : Cut) (made : List Batch) → Reading catalogue all [] number c → made ≡ (flushed c).closed → HasBatches catalogue all made
all-read catalogue all number c made r is = record {
  said = r.said;
  accepted = subst (λ (ls : List (List ℕ)). Accepts catalogue ls r.said) (sym (append-nil r.before) ∙ sym r.parts) r.accepted;
  cut = subst (λ (b : List Batch). AreCutInto (steps r.said) b) (sym (is ∙ ap (λ (d : Cut). (flushed d).closed) (r.cut ∙ cut_said-steps r.said nothing_cut))) (are_batches (steps r.said) (small-steps r.said r.small));
}

-- ---- after the mark

-- no lines have no batches
pub none-after : (catalogue : CatalogueState) (text : List ℕ) (made : List Batch) → length text < 1 → made ≡ [] → HasBatches catalogue (lines_after text) made
none-after catalogue [] made few none = record {
  said = [];
  accepted = tt;
  cut = subst (λ (b : List Batch). AreCutInto [] b) (sym none) (are_batches [] tt);
}
none-after catalogue (b ∷ bs) made few none = absurd (omega (arith, few))

pub some-after : (catalogue : CatalogueState) (text : List ℕ) (fault : ScriptFault) → 1 ≤ length text → IsLinesFault catalogue (lines (drop 1 text)) fault → IsLinesFault catalogue (lines_after text) fault
some-after catalogue [] fault some h = absurd (omega (arith, some))
some-after catalogue (b ∷ bs) fault some h = h

-- ---- the parts of a text

-- the same error of results of two types
pub as_error : {S T : Type 0} (e : Refusal ScriptFault) (fault : ScriptFault) → ◌≡◌ {A = Result S (Refusal ScriptFault)} (Err e) (Err (Fault fault)) → ◌≡◌ {A = Result T (Refusal ScriptFault)} (Err e) (Err (Fault fault))
as_error {S} {T} e fault is = ap failed (error_is is)
  where
    failed : Refusal ScriptFault → Result T (Refusal ScriptFault)
    failed x = Err x

    error_is : ◌≡◌ {A = Result S (Refusal ScriptFault)} (Err e) (Err (Fault fault)) → e ≡ Fault fault
    error_is h = cc

line-parts : (prefix following : List ℕ) (catalogue : CatalogueState) (fault : ScriptFault) → IsAccepted prefix catalogue → IsLinesFault catalogue (lines_after following) fault → IsPartsFault prefix following fault
line-parts prefix following catalogue (Line number fault) few is = (catalogue, few, is)
line-parts prefix following catalogue (Unaccepted fault) few is = absurd is

-- the parts of a text whose catalogue has few operations
pub few-parts : (prefix following : List ℕ) (catalogue : CatalogueState) (r : Result Script (Refusal ScriptFault)) → IsAccepted prefix catalogue
    → IfOk r (λ script. (script.catalogue ≡ catalogue) × HasBatches catalogue (lines_after following) script.batches)
    → ((fault : ScriptFault) → IsErrOf r (Fault fault) → IsLinesFault catalogue (lines_after following) fault) → AnswersBy (PartsSay prefix following) r
few-parts prefix following catalogue (Ok script) few ok refused = record {
  accepted = subst (λ (c : CatalogueState). IsAccepted prefix c) (sym ok.0) few;
  batches = subst (λ (c : CatalogueState). HasBatches c (lines_after following) script.batches) (sym ok.0) ok.1;
}
few-parts prefix following catalogue (Err (Fault fault)) few ok refused = line-parts prefix following catalogue fault few (refused fault refl)
few-parts prefix following catalogue (Err NoMemory) few ok refused = tt
