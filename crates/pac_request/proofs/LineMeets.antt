-- The reading of a line's tokens meets the grammar: what it reads, and the first fault of what it doesn't.
use Rattle.std.proofs.Common.{◌≡◌, ℕ, List, [], ◌∷◌, ◌++◌, ◌⊎◌, inl, inr, Option, Some, None, Result, Ok, Err, refl, sym, ap, subst, ◌∙◌, append_assoc, suc, length, arith}
use Rattle.std.specs.Prelude.{ok_or, IfOk}
use Rattle.pac_base.specs.Refusals.{Reports}
use Rattle.pac_base.specs.declared.refusal.Refusal.{Refusal}
use Rattle.std.proofs.lemmas.List.{append-nil}
use Rattle.pac_tokens.specs.declared.token.Spanned.{Spanned}
use Rattle.pac_tokens.specs.declared.fault.Fault.{Fault}
use Rattle.pac_request.specs.declared.fault.LineFault.{LineFault}
use Rattle.pac_request.specs.declared.fault.LineFaultKind.TheVariants.{Expected}
use Rattle.pac_request.specs.declared.node.LineNode.{LineNode}
use Rattle.pac_request.specs.LineKinds.{line_fault, as_line_fault}
use Rattle.pac_request.specs.LineForms.{LineForm, EmptyForm, CallForm, AdHocForm, ShowForm, FlushForm, SaveForm, StopForm, RecordsForm, NoRecord, OneRecord, records_nodes, records_count, HasFewRecords, IsWritten, line_node}
use Rattle.pac_request.specs.RequestMeaning.{HoldsRecords}
use Rattle.pac_request.specs.LineFaults.{BeginsLine, IsUnexpectedToken, IsNoLine, TokensRead}
use Rattle.pac_request.specs.LineSteps.{LineSteps, AnyLine, steps_after, said_at_end, line_run, reported_at_end, unless_cut, tokens_read}
use Rattle.pac_request.proofs.LineMeaning.{Wants, leads, ends_here, something}
use Rattle.pac_request.proofs.LineRuns.{written_runs}

abbrev Answer : Type 0
Answer = Result LineNode LineFault

no_both : (said : LineNode) (fault : LineFault) → ◌≡◌ {A = Answer} (Ok said) (Err fault) → ⊥
no_both said fault e = cc

err_is : (a b : LineFault) → ◌≡◌ {A = Answer} (Err a) (Err b) → a ≡ b
err_is a b e = cc

-- after these tokens of a line these steps are to come
record After (p : List Spanned) (k : LineSteps) : Type 0 where
  goes : (end : LineFault) (q : List Spanned) → line_run end AnyLine (p ++ q) ≡ line_run end k q
  wants : (q : List Spanned) (said : LineNode) → Wants k q said → IsWritten (p ++ q) said

nothing_after : After [] AnyLine
nothing_after = record { goes = λ end q. refl; wants = λ q said m. m }

next_run : (end : LineFault) (k next : LineSteps) (t : Spanned) (q : List Spanned) → steps_after k t ≡ Some next → line_run end k (t ∷ q) ≡ line_run end next q
unfolding line_run
next_run end k next t q is = rw is refl

none_run : (end : LineFault) (k : LineSteps) (t : Spanned) (q : List Spanned) → steps_after k t ≡ None → line_run end k (t ∷ q) ≡ Err (line_fault Expected t.at)
unfolding line_run
none_run end k t q is = rw is refl

end_run : (end : LineFault) (k : LineSteps) (o : Option LineNode) → said_at_end k ≡ o → line_run end k [] ≡ ok_or o end
unfolding line_run
end_run end k o is = rw is refl

one_after : (p : List Spanned) (k next : LineSteps) (t : Spanned) → After p k → steps_after k t ≡ Some next → After (p ++ (t ∷ [])) next
one_after p k next t b is = record {
  goes = λ end q. ap (line_run end AnyLine) (append_assoc p (t ∷ []) q) ∙ b.goes end (t ∷ q) ∙ next_run end k next t q is;
  wants = λ q said m. subst (λ (x : List Spanned). IsWritten x said) (sym (append_assoc p (t ∷ []) q)) (b.wants (t ∷ q) said (leads k next t q said is m));
}

begins : (p : List Spanned) (k : LineSteps) → After p k → BeginsLine p
begins p k b =
    let w = something k in
    let all = b.wants w.tokens w.said w.wanted in
    record { form = all.form; few = all.few; more = w.tokens; text = all.text }

begun_written : (p : List Spanned) (b : BeginsLine p) → IsWritten (p ++ b.more) (line_node b.form)
begun_written p b = record { form = b.form; few = b.few; text = b.text; says = refl }

-- ---- what is read

taken_end : (end : LineFault) (k : LineSteps) (said : LineNode) (o : Option LineNode) → said_at_end k ≡ o → ok_or o end ≡ Ok said → Wants k [] said
taken_end end k said None is e = absurd (no_both said end (sym e))
taken_end end k said (Some node) is e = ends_here k said (is ∙ same node e)
  where
    same : (node : LineNode) → ◌≡◌ {A = Answer} (Ok node) (Ok said) → Some node ≡ Some said
    same node e = cc

taken : (end : LineFault) (ts : List Spanned) (k : LineSteps) (said : LineNode) → line_run end k ts ≡ Ok said → Wants k ts said
taken end [] k said e = taken_end end k said (said_at_end k) refl (sym (end_run end k _ refl) ∙ e)
taken end (t ∷ ts) k said e = by (steps_after k t) refl (λ next h. taken end ts next said h)
  where
    by : (o : Option LineSteps) → steps_after k t ≡ o → ((next : LineSteps) → line_run end next ts ≡ Ok said → Wants next ts said) → Wants k (t ∷ ts) said
    by None is more = absurd (no_both said (line_fault Expected t.at) (sym e ∙ none_run end k t ts is))
    by (Some next) is more = leads k next t ts said is (more next (sym (next_run end k next t ts is) ∙ e))

-- ---- the first fault

abbrev Stopped : LineFault → List Spanned → LineFault → Type 0
Stopped end ts fault = IsUnexpectedToken ts fault ⊎ (BeginsLine ts × IsNoLine ts × (fault ≡ end))

stopped_end : (end : LineFault) (p : List Spanned) (k : LineSteps) (fault : LineFault) (o : Option LineNode) → After p k → said_at_end k ≡ o → ok_or o end ≡ Err fault → Stopped end (p ++ []) fault
stopped_end end p k fault (Some node) b is e = absurd (no_both node fault e)
stopped_end end p k fault None b is e = subst (λ (x : List Spanned). Stopped end x fault) (sym (append-nil p)) (inr (begins p k b, none, sym (err_is end fault e)))
  where
    none : IsNoLine p
    none said w = no_both said end (sym (written_runs end p said w) ∙ ap (line_run end AnyLine) (sym (append-nil p)) ∙ b.goes end [] ∙ end_run end k None is)

stopped : (end : LineFault) (p ts : List Spanned) (k : LineSteps) (fault : LineFault) → After p k → line_run end k ts ≡ Err fault → Stopped end (p ++ ts) fault
stopped end p [] k fault b e = stopped_end end p k fault (said_at_end k) b refl (sym (end_run end k _ refl) ∙ e)
stopped end p (t ∷ ts) k fault b e = by (steps_after k t) refl (λ next c h. stopped end (p ++ (t ∷ [])) ts next fault c h)
  where
    by : (o : Option LineSteps) → steps_after k t ≡ o → ((next : LineSteps) → After (p ++ (t ∷ [])) next → line_run end next ts ≡ Err fault → Stopped end ((p ++ (t ∷ [])) ++ ts) fault) → Stopped end (p ++ (t ∷ ts)) fault
    by (Some next) is more = subst (λ (x : List Spanned). Stopped end x fault) (append_assoc p (t ∷ []) ts) (more next (one_after p k next t b is) (sym (next_run end k next t ts is) ∙ e))
    by None is more = inl (record {
      before = p;
      token = t;
      rest = ts;
      parts = refl;
      begins = begins p k b;
      ends = λ g. no_both (line_node g.form) (line_fault Expected t.at) (sym (written_runs end _ _ (begun_written _ g)) ∙ ap (line_run end AnyLine) (append_assoc p (t ∷ []) g.more) ∙ b.goes end (t ∷ g.more) ∙ none_run end k t g.more is);
      reported = err_is fault (line_fault Expected t.at) (sym e ∙ none_run end k t ts is);
    })

-- ---- what begins a line leads on

record Alive (p : List Spanned) : Type 0 where
  steps : LineSteps
  after : After p steps

alive : (end : LineFault) (before p more : List Spanned) (k : LineSteps) (said : LineNode) → After before k → line_run end k (p ++ more) ≡ Ok said → Alive (before ++ p)
alive end before [] more k said b e = subst Alive (sym (append-nil before)) (record { steps = k; after = b })
alive end before (t ∷ p) more k said b e = by (steps_after k t) refl (λ next c h. alive end (before ++ (t ∷ [])) p more next said c h)
  where
    by : (o : Option LineSteps) → steps_after k t ≡ o → ((next : LineSteps) → After (before ++ (t ∷ [])) next → line_run end next (p ++ more) ≡ Ok said → Alive ((before ++ (t ∷ [])) ++ p)) → Alive (before ++ (t ∷ p))
    by None is go = absurd (no_both said (line_fault Expected t.at) (sym e ∙ none_run end k t (p ++ more) is))
    by (Some next) is go = subst Alive (append_assoc before (t ∷ []) p) (go next (one_after before k next t b is) (sym (next_run end k next t (p ++ more) is) ∙ e))

begun_alive : (p : List Spanned) (b : BeginsLine p) → Alive p
begun_alive p b = alive (line_fault Expected 0) [] p b.more AnyLine (line_node b.form) nothing_after (written_runs _ _ _ (begun_written p b))

unexpected_run : (end : LineFault) (ts : List Spanned) (fault : LineFault) → IsUnexpectedToken ts fault → line_run end AnyLine ts ≡ Err fault
unexpected_run end ts fault u = ap (line_run end AnyLine) u.parts ∙ a.after.goes end (u.token ∷ u.rest) ∙ by (steps_after a.steps u.token) refl ∙ ap (λ (f : LineFault). Err f) (sym u.reported)
  where
    a : Alive u.before
    a = begun_alive u.before u.begins

    by : (o : Option LineSteps) → steps_after a.steps u.token ≡ o → line_run end a.steps (u.token ∷ u.rest) ≡ Err (line_fault Expected u.token.at)
    by None is = none_run end a.steps u.token u.rest is
    by (Some next) is = absurd (u.ends (begins _ next (one_after u.before a.steps next u.token a.after is)))

-- what begins a line is one, or ends too early
begun_run : (end : LineFault) (ts : List Spanned) → BeginsLine ts → ((said : LineNode) × (line_run end AnyLine ts ≡ Ok said)) ⊎ (line_run end AnyLine ts ≡ Err end)
begun_run end ts b = by (said_at_end a.steps) refl
  where
    a : Alive ts
    a = begun_alive ts b

    all : line_run end AnyLine ts ≡ line_run end a.steps []
    all = ap (line_run end AnyLine) (sym (append-nil ts)) ∙ a.after.goes end []

    by : (o : Option LineNode) → said_at_end a.steps ≡ o → ((said : LineNode) × (line_run end AnyLine ts ≡ Ok said)) ⊎ (line_run end AnyLine ts ≡ Err end)
    by None is = inr (all ∙ end_run end a.steps None is)
    by (Some node) is = inl (node, all ∙ end_run end a.steps (Some node) is)

-- ---- all tokens of a line

reported : (end : ℕ) (ts : List Spanned) (lexical : Option Fault) (r : Answer) → line_run (reported_at_end end lexical) AnyLine ts ≡ r → TokensRead end ts lexical (unless_cut lexical r)
reported end ts None (Ok said) e = (refl, taken _ ts AnyLine said e)
reported end ts (Some lexical) (Ok said) e =
    let w = taken _ ts AnyLine said e in
    inr (record { form = w.form; few = w.few; more = []; text = w.text ∙ sym (append-nil ts) }, refl)
reported end ts lexical (Err fault) e = by lexical (stopped (reported_at_end end lexical) [] ts AnyLine fault nothing_after e)
  where
    by : (lexical : Option Fault) → Stopped (reported_at_end end lexical) ts fault → TokensRead end ts lexical (unless_cut lexical (Err fault))
    by None (inl u) = inl u
    by None (inr (b, none, is)) = inr (b, (none, is))
    by (Some f) (inl u) = inl u
    by (Some f) (inr (b, none, is)) = inr (b, is)

pub tokens_reported : (end : ℕ) (ts : List Spanned) (lexical : Option Fault) → TokensRead end ts lexical (tokens_read end ts lexical)
tokens_reported end ts lexical = reported end ts lexical (line_run (reported_at_end end lexical) AnyLine ts) refl

cut_err : (lexical : Option Fault) (fault : LineFault) (r : Answer) → r ≡ Err fault → unless_cut lexical r ≡ Err fault
cut_err None fault r e = e
cut_err (Some f) fault r e = ap (unless_cut (Some f)) e

pub tokens_once : (end : ℕ) (ts : List Spanned) (lexical : Option Fault) (r : Answer) → TokensRead end ts lexical r → r ≡ tokens_read end ts lexical
tokens_once end ts lexical (Ok said) (none, w) = rw none (sym (written_runs (line_fault Expected end) ts said w))
tokens_once end ts lexical (Err fault) (inl u) = sym (cut_err lexical fault _ (unexpected_run (reported_at_end end lexical) ts fault u))
tokens_once end ts None (Err fault) (inr (b, (none, is))) = by (begun_run (line_fault Expected end) ts b)
  where
    by : ((said : LineNode) × (line_run (line_fault Expected end) AnyLine ts ≡ Ok said)) ⊎ (line_run (line_fault Expected end) AnyLine ts ≡ Err (line_fault Expected end)) → Err fault ≡ line_run (line_fault Expected end) AnyLine ts
    by (inl (said, e)) = absurd (none said (taken _ ts AnyLine said e))
    by (inr e) = ap (λ (f : LineFault). Err f) is ∙ sym e
tokens_once end ts (Some f) (Err fault) (inr (b, is)) = by (begun_run (as_line_fault f) ts b)
  where
    by : ((said : LineNode) × (line_run (as_line_fault f) AnyLine ts ≡ Ok said)) ⊎ (line_run (as_line_fault f) AnyLine ts ≡ Err (as_line_fault f)) → Err fault ≡ unless_cut (Some f) (line_run (as_line_fault f) AnyLine ts)
    by (inl (said, e)) = rw (is, e) refl
    by (inr e) = rw (is, e) refl

-- ---- the records of what is read

holds : (form : LineForm) → HasFewRecords form → HoldsRecords (line_node form)
holds EmptyForm few = tt
holds (CallForm p0 name p1 args p2) few = tt
holds (AdHocForm p0 r rs) few = (omega arith, omega (arith, few, counted rs))
  where
    counted : (rs : RecordsForm) → length (records_nodes rs) ≡ records_count rs
    counted NoRecord = refl
    counted (OneRecord semicolon r rs) = ap (λ (n : ℕ). suc n) (counted rs)
holds (ShowForm p0 name p1 key p2) few = tt
holds (FlushForm p0) few = tt
holds (SaveForm p0) few = tt
holds (StopForm p0) few = tt

read_holds : (end : ℕ) (ts : List Spanned) (lexical : Option Fault) (node : LineNode) → TokensRead end ts lexical (Ok node) → HoldsRecords node
read_holds end ts lexical node (none, w) = subst HoldsRecords w.says (holds w.form w.few)

pub records_held : (end : ℕ) (ts : List Spanned) (lexical : Option Fault) (result : Result LineNode (Refusal LineFault)) → Reports (λ node. node) result (tokens_read end ts lexical) → IfOk result HoldsRecords
records_held end ts lexical (Ok node) e = read_holds end ts lexical node (subst (λ (r : Answer). TokensRead end ts lexical r) e (tokens_reported end ts lexical))
records_held end ts lexical (Err refusal) e = tt
