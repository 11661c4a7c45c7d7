-- The reading meets the grammar: what it reads, and the first fault of what it doesn't.
use Rattle.std.proofs.Common.{◌≡◌, suc, ◌+◌, ◌<◌, ◌≤◌, ℕ, Bool, true, false, cond, ltb, List, [], ◌∷◌, ◌++◌, length, Option, Some, None, Result, Ok, Err, refl, sym, ap, subst, ◌∙◌, append_assoc, arith, inl, inr, ◌⊎◌}
use Rattle.std.specs.List.{AllByRecursion}
use Rattle.std.proofs.lemmas.Bool.{cases_lt}
use Rattle.std.proofs.lemmas.List.{append-nil, length-append}
use Rattle.pac_tokens.specs.declared.token.Spanned.{Spanned}
use Rattle.pac_tokens.specs.declared.fault.FaultKind.{FaultKind}
use Rattle.pac_tokens.specs.declared.fault.FaultKind.TheVariants.{Expected, TooDeep, TooMany}
use Rattle.pac_tokens.specs.declared.fault.Fault.{Fault}
use Rattle.pac_syntax.specs.declared.tree.Tree.{Tree}
use Rattle.pac_syntax.specs.Grammar.{Role, Plain, TableWord, ProcWord, ColumnName, ParamName, Operator, Paren, Nested, LastBound, Marked, Whole, tokens_of}
use Rattle.pac_syntax.specs.Faults.{fault_of, over_role, over, IsWithin, ReadsTokens, IsViable, IsUnexpected, IsOverAt, FaultAt, IsFirst, offset, rank}
use Rattle.pac_syntax.specs.Machine.{Steps, Next, Stop, scan, finish, feed, unexpected, ended, bar, go, start}
use Rattle.pac_syntax.proofs.Running.{Runs}
use Rattle.pac_syntax.proofs.Words.{whole_runs}
use Rattle.pac_syntax.proofs.Ends.{Finishes, can_end, feeds, finish_ends, finishes_whole}

abbrev stopped : Stop → Result Tree Stop
stopped s = Err s

abbrev some_fault : Fault → Option Fault
some_fault f = Some f

abbrev read : Tree → Result Tree Stop
read r = Ok r

stop_is : (s u : Stop) → stopped s ≡ stopped u → s ≡ u
stop_is s u e = cc

fault_is : (f g : Fault) → some_fault f ≡ some_fault g → f ≡ g
fault_is f g e = cc

tree_is : (r t : Tree) → read r ≡ read t → r ≡ t
tree_is r t e = cc

tokens_append : (a b : List Marked) → tokens_of (a ++ b) ≡ tokens_of a ++ tokens_of b
tokens_append [] b = refl
tokens_append (m ∷ a) b = ap (λ x. m.token ∷ x) (tokens_append a b)

-- ---- what runs is read, up to the first token over a limit

-- the first token over a limit stops the reading
abbrev guard : List Marked → Result Tree Stop → Result Tree Stop
guard [] r = r
guard (m ∷ ms) r = bar (over m) (m.token ∷ tokens_of ms) (guard ms r)

scan_runs : (end : ℕ) (ms : List Marked) (k : Steps) (r : Tree) → Runs k ms r → scan end k (tokens_of ms) ≡ guard ms (Ok r)
unfolding scan
scan_runs end [] k r h = rw h refl
scan_runs end (m ∷ ms) k r h = rw h.1 (rw h.2 (ap (bar (over m) (m.token ∷ tokens_of ms)) (scan_runs end ms h.0.steps r h.3)))

scan_whole : (end : ℕ) (ms : List Marked) (r : Tree) → Whole ms r → scan end start (tokens_of ms) ≡ guard ms (Ok r)
scan_whole end ms r w = scan_runs end ms start r (whole_runs ms r w)

-- ---- what was read

record Taken (k : Steps) (ts : List Spanned) (r : Tree) : Type 0 where
  marks : List Marked
  text : tokens_of marks ≡ ts
  within : AllByRecursion IsWithin marks
  ends : Finishes k marks r

taken_end : (end : ℕ) (k : Steps) (r : Tree) (o : Option Tree) → finish k ≡ o → ended end o ≡ Ok r → Taken k [] r
taken_end end k r None is e = absurd cc
taken_end end k r (Some t) is e = record { marks = []; text = refl; within = tt; ends = finish_ends k r (is ∙ ap (λ t. Some t) (tree_is t r e)) }

taken_go : (end : ℕ) (o : Option Next) (k : Steps) (t : Spanned) (ts : List Spanned) (r : Tree) → feed k t ≡ o
    → ((n : Next) → scan end n.steps ts ≡ Ok r → Taken n.steps ts r)
    → go end o t ts (λ n. scan end n.steps ts) ≡ Ok r → Taken k (t ∷ ts) r
taken_go end None k t ts r is more e = absurd cc
taken_go end (Some n) k t ts r is more e = by_bar (over_role n.role t.at) refl e
  where
    by_bar : (b : Option Fault) → over_role n.role t.at ≡ b → bar b (t ∷ ts) (scan end n.steps ts) ≡ Ok r → Taken k (t ∷ ts) r
    by_bar (Some fault) h e = absurd cc
    by_bar None h e = let m = more n e in record {
      marks = record { token = t; role = n.role } ∷ m.marks;
      text = ap (λ x. t ∷ x) m.text;
      within = (h, m.within);
      ends = feeds k t n is m.marks r m.ends;
    }

taken : (end : ℕ) (ts : List Spanned) (k : Steps) (r : Tree) → scan end k ts ≡ Ok r → Taken k ts r
unfolding scan
taken end [] k r e = taken_end end k r (finish k) refl e
taken end (t ∷ ts) k r e = taken_go end (feed k t) k t ts r refl (λ n h. taken end ts n.steps r h) e

guard_within : (ms : List Marked) (r : Result Tree Stop) → AllByRecursion IsWithin ms → guard ms r ≡ r
guard_within [] r h = refl
guard_within (m ∷ ms) r h = rw h.0 (guard_within ms r h.1)

pub reads_ok : (end : ℕ) (ts : List Spanned) (r : Tree) → scan end start ts ≡ Ok r → ReadsTokens ts r
reads_ok end ts r e = let t = taken end ts start r e in (t.marks, finishes_whole t.marks r t.ends, t.text, t.within)

pub ok_reads : (end : ℕ) (ts : List Spanned) (r : Tree) → ReadsTokens ts r → scan end start ts ≡ Ok r
ok_reads end ts r h = ap (scan end start) (sym h.2) ∙ scan_whole end h.0 r h.1 ∙ guard_within h.0 (Ok r) h.3

-- ---- where it stopped

-- a token over a limit, in what ends so
OverEnds : Steps → List Marked → List Spanned → Fault → Type 0
OverEnds k ms [] fault = ⊥
OverEnds k ms (t ∷ ts) fault = (after : List Marked) × (role : Role) × (r : Tree) × Finishes k (ms ++ (record { token = t; role = role } ∷ after)) r × (over_role role t.at ≡ Some fault)

abbrev CanGoOn : Steps → List Marked → Type 0
CanGoOn k ms = (z : List Marked) × (r : Tree) × Finishes k (ms ++ z) r

-- why it stopped: the token, or the end, can't follow; or the token is over a limit
abbrev Reason : ℕ → Steps → List Marked → Stop → Type 0
Reason end k ms s = (s.fault ≡ fault_of Expected (offset end s.rest)) ⊎ OverEnds k ms s.rest s.fault

record StopsAt (end : ℕ) (k : Steps) (ts : List Spanned) (s : Stop) : Type 0 where
  marks : List Marked
  parts : ts ≡ tokens_of marks ++ s.rest
  goes_on : CanGoOn k marks
  reason : Reason end k marks s

-- a limit's fault is none of a token or of what can follow
past_limit : (b : Bool) (kind : FaultKind) (at : ℕ) (fault : Fault) → cond b (some_fault (fault_of kind at)) None ≡ Some fault → fault.kind ≡ kind
past_limit true kind at fault e = ap (λ f. f.kind) (fault_is fault (fault_of kind at) (sym e))
past_limit false kind at fault e = absurd cc

abbrev IsLimit : FaultKind → Type 0
IsLimit kind = (kind ≡ TooDeep) ⊎ (kind ≡ TooMany)

over_limit : (role : Role) (at : ℕ) (fault : Fault) → over_role role at ≡ Some fault → IsLimit fault.kind
over_limit Plain at fault e = absurd cc
over_limit (TableWord n) at fault e = inr (past_limit (ltb 64 n) TooMany at fault e)
over_limit (ProcWord n) at fault e = inr (past_limit (ltb 64 n) TooMany at fault e)
over_limit (ColumnName n) at fault e = inr (past_limit (ltb 8 n) TooMany at fault e)
over_limit (ParamName n) at fault e = inr (past_limit (ltb 16 n) TooMany at fault e)
over_limit (Operator n) at fault e = inr (past_limit (ltb 64 n) TooMany at fault e)
over_limit (Paren n) at fault e = inl (past_limit (ltb 16 n) TooDeep at fault e)
over_limit (Nested n) at fault e = inl (past_limit (ltb 16 n) TooDeep at fault e)
over_limit (LastBound n loop) at fault e = inr (past_limit (ltb 256 n) TooMany loop fault e)

abbrev a_kind : FaultKind → FaultKind
a_kind k = k

not_deep : a_kind Expected ≡ a_kind TooDeep → ⊥
not_deep e = absurd cc

not_many : a_kind Expected ≡ a_kind TooMany → ⊥
not_many e = absurd cc

limit_expected : (kind : FaultKind) → IsLimit kind → kind ≡ Expected → ⊥
limit_expected kind (inl deep) e = not_deep (sym e ∙ deep)
limit_expected kind (inr many) e = not_many (sym e ∙ many)

-- a stop before any token was taken
at_once : (end : ℕ) (k : Steps) (ts : List Spanned) → StopsAt end k ts (unexpected end ts)
at_once end k ts = record { marks = []; parts = refl; goes_on = can_end k; reason = inl refl }

over_now : (k : Steps) (t : Spanned) (ts : List Spanned) (role : Role) (fault : Fault) (after : List Marked) (r : Tree) → over_role role t.at ≡ Some fault → Finishes k (record { token = t; role = role } ∷ after) r → OverEnds k [] (t ∷ ts) fault
unfolding OverEnds
over_now k t ts role fault after r h f = (after, role, r, f, h)

over_later : (k : Steps) (t : Spanned) (n : Next) (ms : List Marked) (rest : List Spanned) (fault : Fault) → feed k t ≡ Some n → OverEnds n.steps ms rest fault → OverEnds k (record { token = t; role = n.role } ∷ ms) rest fault
unfolding OverEnds
over_later k t n ms [] fault is h = h
over_later k t n ms (u ∷ us) fault is h = (h.0, h.1, h.2, feeds k t n is _ h.2 h.3, h.4)

reason_later : (end : ℕ) (k : Steps) (t : Spanned) (n : Next) (ms : List Marked) (s : Stop) → feed k t ≡ Some n → Reason end n.steps ms s → Reason end k (record { token = t; role = n.role } ∷ ms) s
reason_later end k t n ms s is (inl e) = inl e
reason_later end k t n ms s is (inr h) = inr (over_later k t n ms s.rest s.fault is h)

stops_end : (end : ℕ) (k : Steps) (s : Stop) (o : Option Tree) → ended end o ≡ Err s → StopsAt end k [] s
stops_end end k s (Some t) e = absurd cc
stops_end end k s None e = subst (λ (s : Stop). StopsAt end k [] s) (stop_is (unexpected end []) s e) (at_once end k [])

stops_go : (end : ℕ) (o : Option Next) (k : Steps) (t : Spanned) (ts : List Spanned) (s : Stop) → feed k t ≡ o
    → ((n : Next) → scan end n.steps ts ≡ Err s → StopsAt end n.steps ts s)
    → go end o t ts (λ n. scan end n.steps ts) ≡ Err s → StopsAt end k (t ∷ ts) s
stops_go end None k t ts s is more e = subst (λ (s : Stop). StopsAt end k (t ∷ ts) s) (stop_is (unexpected end (t ∷ ts)) s e) (at_once end k (t ∷ ts))
stops_go end (Some n) k t ts s is more e = by_bar (over_role n.role t.at) refl e
  where
    by_bar : (b : Option Fault) → over_role n.role t.at ≡ b → bar b (t ∷ ts) (scan end n.steps ts) ≡ Err s → StopsAt end k (t ∷ ts) s
    by_bar (Some fault) h e =
        let r = can_end n.steps in
        subst (λ (s : Stop). StopsAt end k (t ∷ ts) s) (stop_is (record { rest = t ∷ ts; fault = fault }) s e)
        (record { marks = []; parts = refl; goes_on = can_end k; reason = inr (over_now k t ts n.role fault r.0 r.1 h (feeds k t n is r.0 r.1 r.2)) })
    by_bar None h e = let m = more n e in record {
      marks = record { token = t; role = n.role } ∷ m.marks;
      parts = ap (λ x. t ∷ x) m.parts;
      goes_on = (m.goes_on.0, m.goes_on.1, feeds k t n is _ m.goes_on.1 m.goes_on.2);
      reason = reason_later end k t n m.marks s is m.reason;
    }

stops : (end : ℕ) (ts : List Spanned) (k : Steps) (s : Stop) → scan end k ts ≡ Err s → StopsAt end k ts s
unfolding scan
stops end [] k s e = stops_end end k s (finish k) e
stops end (t ∷ ts) k s e = stops_go end (feed k t) k t ts s refl (λ n h. stops end ts n.steps s h) e

-- ---- a stop within the first tokens doesn't depend on those after

record Within (end : ℕ) (k : Steps) (a x y : List Spanned) (s : Stop) : Type 0 where
  stop : Stop
  is : scan end k (a ++ y) ≡ Err stop
  fault : stop.fault ≡ s.fault
  same : length stop.rest + length x ≡ length s.rest + length y

rest_le : (end : ℕ) (k : Steps) (x : List Spanned) (s : Stop) → scan end k x ≡ Err s → length s.rest ≤ length x
rest_le end k x s e = let m = stops end x k s e in omega (arith, simp length-append at (ap length m.parts))

within_go : (end : ℕ) (o : Option Next) (k : Steps) (t : Spanned) (a x y : List Spanned) (s : Stop) → feed k t ≡ o
    → ((n : Next) → scan end n.steps (a ++ x) ≡ Err s → Within end n.steps a x y s)
    → go end o t (a ++ x) (λ n. scan end n.steps (a ++ x)) ≡ Err s → Within end k (t ∷ a) x y s
unfolding scan
within_go end None k t a x y s is more e =
    subst (λ (s : Stop). Within end k (t ∷ a) x y s) (stop_is (unexpected end (t ∷ (a ++ x))) s e)
    (record { stop = unexpected end (t ∷ (a ++ y)); is = rw is refl; fault = refl; same = omega (arith, length-append a x, length-append a y) })
within_go end (Some n) k t a x y s is more e = by_bar (over_role n.role t.at) refl e
  where
    by_bar : (b : Option Fault) → over_role n.role t.at ≡ b → bar b (t ∷ (a ++ x)) (scan end n.steps (a ++ x)) ≡ Err s → Within end k (t ∷ a) x y s
    by_bar (Some fault) h e =
        subst (λ (s : Stop). Within end k (t ∷ a) x y s) (stop_is (record { rest = t ∷ (a ++ x); fault = fault }) s e)
        (record { stop = record { rest = t ∷ (a ++ y); fault = fault }; is = rw (is, h) refl; fault = refl; same = omega (arith, length-append a x, length-append a y) })
    by_bar None h e = let m = more n e in record { stop = m.stop; is = rw (is, h) m.is; fault = m.fault; same = m.same }

within : (end : ℕ) (a x y : List Spanned) (k : Steps) (s : Stop) → length x < length s.rest → scan end k (a ++ x) ≡ Err s → Within end k a x y s
unfolding scan
within end [] x y k s lt e = absurd (omega (arith, rest_le end k x s e))
within end (t ∷ a) x y k s lt e = within_go end (feed k t) k t a x y s refl (λ n h. within end a x y n.steps s lt h) e

-- ---- the first fault

-- it stops at a token over a limit, or before
record Guards (before after : List Marked) (m : Marked) (fault : Fault) (r : Result Tree Stop) : Type 0 where
  stop : Stop
  is : guard (before ++ (m ∷ after)) r ≡ Err stop
  enough : length (tokens_of after) < length stop.rest
  here : length stop.rest ≡ suc (length (tokens_of after)) → stop.fault ≡ fault

guard_stops : (before after : List Marked) (m : Marked) (fault : Fault) (r : Result Tree Stop) → over m ≡ Some fault → Guards before after m fault r
guard_stops [] after m fault r h = record { stop = record { rest = m.token ∷ tokens_of after; fault = fault }; is = rw h refl; enough = omega arith; here = λ e. refl }
guard_stops (b ∷ before) after m fault r h = by_bar (guard_stops before after m fault r h) (over b) refl
  where
    by_bar : Guards before after m fault r → (o : Option Fault) → over b ≡ o → Guards (b ∷ before) after m fault r
    by_bar g None e = record { stop = g.stop; is = rw e g.is; enough = g.enough; here = g.here }
    by_bar g (Some other) e =
        let len : length (tokens_of (before ++ (m ∷ after))) ≡ length (tokens_of before) + suc (length (tokens_of after)) = ap length (tokens_append before (m ∷ after)) ∙ length-append (tokens_of before) (m.token ∷ tokens_of after) in
        record {
          stop = record { rest = b.token ∷ tokens_of (before ++ (m ∷ after)); fault = other };
          is = rw e refl;
          enough = omega (arith, len);
          here = λ e. absurd (omega (arith, len, e));
        }

viable_prefix : (p q : List Spanned) → IsViable (p ++ q) → IsViable p
viable_prefix p q h = (h.0, h.1, q ++ h.2, h.3, h.4 ∙ append_assoc p q h.2)

viable_at : (ms : List Marked) → CanGoOn start ms → IsViable (tokens_of ms)
viable_at ms g = (ms ++ g.0, g.1, tokens_of g.0, finishes_whole (ms ++ g.0) g.1 g.2, tokens_append ms g.0)

head_is : (a b : Spanned) (x y : List Spanned) → a ∷ x ≡ b ∷ y → a ≡ b
head_is a b x y e = cc

tail_is : (a b : Spanned) (x y : List Spanned) → a ∷ x ≡ b ∷ y → x ≡ y
tail_is a b x y e = cc

longer : (p q : List Spanned) (rest rest' : List Spanned) (t : Spanned) → p ++ rest ≡ q ++ (t ∷ rest') → length q < length p → (more : List Spanned) × (p ≡ (q ++ (t ∷ [])) ++ more)
longer [] q rest rest' t e lt = absurd (omega arith)
longer (u ∷ p) [] rest rest' t e lt = (p, ap (λ x. x ∷ p) (head_is u t (p ++ rest) rest' e))
longer (u ∷ p) (w ∷ q) rest rest' t e lt =
    let l = longer p q rest rest' t (tail_is u w (p ++ rest) (q ++ (t ∷ rest')) e) (omega arith) in
    (l.0, ap (λ x. x ∷ p) (head_is u w (p ++ rest) (q ++ (t ∷ rest')) e) ∙ ap (λ x. w ∷ x) l.1)

-- where a token over a limit stands the reading stops, or before
pub record StopsBy (end : ℕ) (p : List Spanned) (t : Spanned) (r : List Spanned) (fault : Fault) : Type 0 where
  pub stop : Stop
  pub is : scan end start (p ++ (t ∷ r)) ≡ Err stop
  pub enough : length r < length stop.rest
  pub here : length stop.rest ≡ suc (length r) → stop.fault ≡ fault

pub over_stops : (end : ℕ) (p : List Spanned) (t : Spanned) (r : List Spanned) (fault : Fault) → IsOverAt p (t ∷ r) fault → StopsBy end p t r fault
over_stops end p t r fault h =
    let before = h.0 in let after = h.1 in let tree = h.3 in
    let m : Marked = record { token = t; role = h.2 } in
    let g = guard_stops before after m fault (Ok tree) h.6 in
    let text : tokens_of (before ++ (m ∷ after)) ≡ (p ++ (t ∷ [])) ++ tokens_of after = tokens_append before (m ∷ after) ∙ ap (λ x. x ++ (t ∷ tokens_of after)) h.5 ∙ sym (append_assoc p (t ∷ []) (tokens_of after)) in
    let stopped_there : scan end start ((p ++ (t ∷ [])) ++ tokens_of after) ≡ Err g.stop = ap (scan end start) (sym text) ∙ scan_whole end (before ++ (m ∷ after)) tree h.4 ∙ g.is in
    let w = within end (p ++ (t ∷ [])) (tokens_of after) r start g.stop g.enough stopped_there in
    record {
      stop = w.stop;
      is = ap (scan end start) (sym (append_assoc p (t ∷ []) r)) ∙ w.is;
      enough = omega (arith, w.same, g.enough);
      here = λ e. w.fault ∙ g.here (omega (arith, w.same, e));
    }

-- nothing over a limit stands before the stop
pub record Overs (ts : List Spanned) (p' rest' : List Spanned) (fault : Fault) (s : Stop) : Type 0 where
  pub enough : length ts ≤ length p' + length s.rest
  pub here : length ts ≡ length p' + length s.rest → s.fault ≡ fault

pub overs : (end : ℕ) (ts : List Spanned) (p' rest' : List Spanned) (fault : Fault) (s : Stop) → scan end start ts ≡ Err s → ts ≡ p' ++ rest' → IsOverAt p' rest' fault → Overs ts p' rest' fault s
overs end ts p' [] fault s e parts h = absurd h
overs end ts p' (t ∷ r) fault s e parts h =
    let by = over_stops end p' t r fault h in
    let same : by.stop ≡ s = stop_is by.stop s (sym by.is ∙ ap (scan end start) (sym parts) ∙ e) in
    let len : length ts ≡ length p' + suc (length r) = ap length parts ∙ length-append p' (t ∷ r) in
    let rests : length by.stop.rest ≡ length s.rest = ap (λ (u : Stop). length u.rest) same in
    record {
      enough = omega (arith, len, rests, by.enough);
      here = λ h2. ap (λ (u : Stop). u.fault) (sym same) ∙ by.here (omega (arith, len, rests, h2));
    }

least_unexpected : (ts p rest p' rest' : List Spanned) → ts ≡ p ++ rest → IsViable p → ts ≡ p' ++ rest' → IsUnexpected p' rest' → length p ≤ length p'
least_unexpected ts p rest p' [] parts viable parts' f = omega (arith, ap length parts, ap length parts', length-append p rest, length-append p' [])
least_unexpected ts p rest p' (t ∷ r) parts viable parts' f = elim (cases_lt (length p') (length p)) [
  | inl lt ↦ let l = longer p p' rest r t (sym parts ∙ parts') lt in
      absurd (f.1 (viable_prefix (p' ++ (t ∷ [])) l.0 (subst (λ (x : List Spanned). IsViable x) l.1 viable)))
  | inr le ↦ le
]

offset_of : (ts p rest p' : List Spanned) → ts ≡ p ++ rest → length ts ≤ length p' + length rest → length p ≤ length p'
offset_of ts p rest p' parts h = omega (arith, ap length parts, length-append p rest)

least_of : (end : ℕ) (ts : List Spanned) (s : Stop) (p : List Spanned) → scan end start ts ≡ Err s → ts ≡ p ++ s.rest → IsViable p
    → (p' rest' : List Spanned) (fault' : Fault) → ts ≡ p' ++ rest' → FaultAt end p' rest' fault' → length p ≤ length p'
least_of end ts s p e parts viable p' rest' fault' parts' (inl f) = least_unexpected ts p s.rest p' rest' parts viable parts' f.1
least_of end ts s p e parts viable p' rest' fault' parts' (inr f) = offset_of ts p s.rest p' parts (overs end ts p' rest' fault' s e parts' f).enough

guard_limit : (ms : List Marked) (r : Tree) (s : Stop) → guard ms (Ok r) ≡ Err s → IsLimit s.fault.kind
guard_limit [] r s e = absurd cc
guard_limit (m ∷ ms) r s e = by_bar (guard_limit ms r s) (over m) refl e
  where
    by_bar : (guard ms (Ok r) ≡ Err s → IsLimit s.fault.kind) → (o : Option Fault) → over m ≡ o → bar o (m.token ∷ tokens_of ms) (guard ms (Ok r)) ≡ Err s → IsLimit s.fault.kind
    by_bar more None is e = more e
    by_bar more (Some fault) is e = subst (λ (s : Stop). IsLimit s.fault.kind) (stop_is (record { rest = m.token ∷ tokens_of ms; fault = fault }) s e) (over_limit m.role m.token.at fault is)

-- nothing that begins so is read to its end
not_viable : (end : ℕ) (ts : List Spanned) (p : List Spanned) (t : Spanned) (r : List Spanned) → scan end start ts ≡ Err (unexpected end (t ∷ r)) → ts ≡ p ++ (t ∷ r) → IsViable (p ++ (t ∷ [])) → ⊥
not_viable end ts p t r e parts h =
    let a = p ++ (t ∷ []) in
    let whole : ts ≡ a ++ r = parts ∙ sym (append_assoc p (t ∷ []) r) in
    let w = within end a r h.2 start (unexpected end (t ∷ r)) (omega arith) (ap (scan end start) (sym whole) ∙ e) in
    limit_expected w.stop.fault.kind (guard_limit h.0 h.1 w.stop (sym (scan_whole end h.0 h.1 h.3) ∙ ap (scan end start) h.4 ∙ w.is)) (ap (λ f. f.kind) w.fault)

not_ended : (end : ℕ) (ts : List Spanned) → scan end start ts ≡ Err (unexpected end []) → (ms : List Marked) (r : Tree) → Whole ms r → tokens_of ms ≡ ts → ⊥
not_ended end ts e ms r w text = limit_expected Expected (guard_limit ms r (unexpected end []) (sym (scan_whole end ms r w) ∙ ap (scan end start) text ∙ e)) refl

is_unexpected : (end : ℕ) (ts : List Spanned) (rest : List Spanned) (ms : List Marked) → scan end start ts ≡ Err (unexpected end rest) → ts ≡ tokens_of ms ++ rest → CanGoOn start ms → IsUnexpected (tokens_of ms) rest
is_unexpected end ts [] ms e parts g = (viable_at ms g, λ ms' r w text. not_ended end ts e ms' r w (text ∙ sym (append-nil (tokens_of ms)) ∙ sym parts))
is_unexpected end ts (t ∷ r) ms e parts g = (viable_at ms g, not_viable end ts (tokens_of ms) t r e parts)

over_at : (ms : List Marked) (rest : List Spanned) (fault : Fault) → OverEnds start ms rest fault → IsOverAt (tokens_of ms) rest fault
unfolding OverEnds
over_at ms [] fault h = h
over_at ms (t ∷ ts) fault h = (ms, h.0, h.1, h.2, finishes_whole (ms ++ (record { token = t; role = h.1 } ∷ h.0)) h.2 h.3, refl, h.4)

fault_at : (end : ℕ) (ts : List Spanned) (s : Stop) (ms : List Marked) → scan end start ts ≡ Err s → ts ≡ tokens_of ms ++ s.rest → CanGoOn start ms → Reason end start ms s → FaultAt end (tokens_of ms) s.rest s.fault
fault_at end ts s ms e parts g (inl is) =
    let same : s ≡ unexpected end s.rest = ap (λ f. record { rest = s.rest; fault = f }) is in
    inl (is, is_unexpected end ts s.rest ms (e ∙ ap stopped same) parts g)
fault_at end ts s ms e parts g (inr h) = inr (over_at ms s.rest s.fault h)

over_viable : (p : List Spanned) (t : Spanned) (r : List Spanned) (fault : Fault) → IsOverAt p (t ∷ r) fault → IsViable (p ++ (t ∷ []))
over_viable p t r fault h =
    let m : Marked = record { token = t; role = h.2 } in
    (h.0 ++ (m ∷ h.1), h.3, tokens_of h.1, h.4, tokens_append h.0 (m ∷ h.1) ∙ ap (λ x. x ++ (t ∷ tokens_of h.1)) h.5 ∙ sym (append_assoc p (t ∷ []) (tokens_of h.1)))

pub not_both : (p rest : List Spanned) (fault : Fault) → IsOverAt p rest fault → IsUnexpected p rest → ⊥
not_both p [] fault h f = absurd h
not_both p (t ∷ r) fault h f = f.1 (over_viable p t r fault h)

le_refl : (n : ℕ) → n ≤ n
le_refl n = omega arith

kinds : (end : ℕ) (ts : List Spanned) (p : List Spanned) (s : Stop) → scan end start ts ≡ Err s → ts ≡ p ++ s.rest → FaultAt end p s.rest s.fault → (fault' : Fault) → FaultAt end p s.rest fault' → rank s.fault.kind ≤ rank fault'.kind
kinds end ts p s e parts (inl f) fault' (inl f') = rw (ap (λ x. x.kind) f.0, ap (λ x. x.kind) f'.0) (omega arith)
kinds end ts p s e parts (inl f) fault' (inr f') = absurd (not_both p s.rest fault' f' f.1)
kinds end ts p s e parts (inr f) fault' (inl f') = absurd (not_both p s.rest s.fault f f'.1)
kinds end ts p s e parts (inr f) fault' (inr f') =
    let same : s.fault ≡ fault' = (overs end ts p s.rest fault' s e parts f').here (ap length parts ∙ length-append p s.rest) in
    subst (λ (g : Fault). rank s.fault.kind ≤ rank g.kind) same (le_refl (rank s.fault.kind))

-- the reading stops at the first fault
pub first_fault : (end : ℕ) (ts : List Spanned) (s : Stop) → scan end start ts ≡ Err s → (p : List Spanned) × IsFirst end ts p s.rest s.fault
first_fault end ts s e =
    let m = stops end ts start s e in
    let p = tokens_of m.marks in
    let f = fault_at end ts s m.marks e m.parts m.goes_on m.reason in (
      p,
      record {
        parts = m.parts;
        stands = f;
        least = least_of end ts s p e m.parts (viable_at m.marks m.goes_on);
        by_kind = kinds end ts p s e m.parts f;
      },
    )
