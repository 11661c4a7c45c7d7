-- The first fault of tokens has the least offset of all.
use Rattle.std.proofs.Common.{◌≡◌, ℕ, zero, suc, ◌+◌, ◌-◌, ◌≤◌, ◌<◌, Bool, true, false, cond, ltb, List, [], ◌∷◌, ◌++◌, length, drop, Option, Some, None, refl, sym, ap, subst, ◌∙◌, arith, append_assoc, inl, inr, ◌⊎◌, length-append}
use Rattle.std.proofs.lemmas.Bool.{cases_lt}
use Rattle.std.proofs.lemmas.List.{length-drop}
use Rattle.pac_tokens.specs.declared.lexer.Before.{Before}
use Rattle.pac_tokens.specs.declared.token.Spanned.{Spanned}
use Rattle.pac_tokens.specs.declared.fault.FaultKind.{FaultKind}
use Rattle.pac_tokens.specs.declared.fault.FaultKind.TheVariants.{TooDeep, TooMany}
use Rattle.pac_tokens.specs.declared.fault.Fault.{Fault}
use Rattle.pac_tokens.specs.Tokens.{Lexed, IsLexed, EndsAt, gap, after}
use Rattle.pac_tokens.proofs.Spelled.{spells_some}
use Rattle.pac_syntax.specs.declared.tree.Tree.{Tree}
use Rattle.pac_syntax.specs.Grammar.{Role, Plain, TableWord, ProcWord, ColumnName, ParamName, Operator, Paren, Nested, LastBound, Marked, Whole, tokens_of}
use Rattle.pac_syntax.specs.Faults.{fault_of, over_role, over, IsViable, IsOverAt, FaultAt, IsFirstFault, offset}
use Rattle.pac_syntax.specs.Machine.{Steps, Next, start, feed}
use Rattle.pac_syntax.specs.Order.{Climbs}
use Rattle.pac_syntax.specs.Reading.{end_of}
use Rattle.pac_syntax.proofs.Running.{Runs}
use Rattle.pac_syntax.proofs.Words.{whole_runs}
use Rattle.pac_syntax.proofs.LoopHeads.{ArePlain, LoopMark, loop_mark}

abbrev places : List Spanned → List ℕ
places [] = []
places (t ∷ ts) = t.at ∷ places ts

-- the offsets of tokens, and of the end after them, ascend
abbrev Ascend : ℕ → ℕ → List Spanned → Type 0
Ascend low end ts = Climbs low (places ts ++ end ∷ [])

head_is : (a b : Spanned) (x y : List Spanned) → a ∷ x ≡ b ∷ y → a ≡ b
head_is a b x y e = cc

tail_is : (a b : Spanned) (x y : List Spanned) → a ∷ x ≡ b ∷ y → x ≡ y
tail_is a b x y e = cc

-- ---- offsets of what is left

later : (q rest : List Spanned) (end low : ℕ) → Ascend low end (q ++ rest) → low ≤ offset end rest
later [] [] end low h = h.0
later [] (t ∷ r) end low h = h.0
later (t ∷ q) rest end low h = omega (arith, h.0, later q rest end (suc t.at) h.1)

ordered : (q rest : List Spanned) (end low : ℕ) → Ascend low end (q ++ rest) → offset end (q ++ rest) ≤ offset end rest
ordered [] rest end low h = omega arith
ordered (t ∷ q) rest end low h = omega (arith, later q rest end (suc t.at) h.1)

behind : (p rest : List Spanned) (end low : ℕ) → Ascend low end (p ++ rest) → (l : ℕ) × Ascend l end rest
behind [] rest end low h = (low, h)
behind (t ∷ p) rest end low h = behind p rest end (suc t.at) h.1

record Between (p rest p' rest' : List Spanned) : Type 0 where
  middle : List Spanned
  longer : p' ≡ p ++ middle
  left : rest ≡ middle ++ rest'

between : (p rest p' rest' : List Spanned) → p ++ rest ≡ p' ++ rest' → length p ≤ length p' → Between p rest p' rest'
between [] rest p' rest' e le = record { middle = p'; longer = refl; left = e }
between (u ∷ p) rest [] rest' e le = absurd (omega (arith, le))
between (u ∷ p) rest (w ∷ p') rest' e le =
    let b = between p rest p' rest' (tail_is u w (p ++ rest) (p' ++ rest') e) (omega (arith, le)) in
    record { middle = b.middle; longer = λ i. sym (head_is u w (p ++ rest) (p' ++ rest') e) i ∷ b.longer i; left = b.left }

-- what is left after more tokens stands later
place_le : (end : ℕ) (ts p rest p' rest' : List Spanned) → Ascend 0 end ts → ts ≡ p ++ rest → ts ≡ p' ++ rest' → length p ≤ length p' → offset end rest ≤ offset end rest'
place_le end ts p rest p' rest' ascend parts parts' le =
    let b = between p rest p' rest' (sym parts ∙ parts') le in
    let a = behind p rest end 0 (subst (λ (x : List Spanned). Ascend 0 end x) parts ascend) in
    subst (λ (x : List Spanned). offset end x ≤ offset end rest') (sym b.left) (ordered b.middle rest' end a.0 (subst (λ (x : List Spanned). Ascend a.0 end x) b.left a.1))

tokens_append : (a b : List Marked) → tokens_of (a ++ b) ≡ tokens_of a ++ tokens_of b
tokens_append [] b = refl
tokens_append (m ∷ a) b = ap (λ x. m.token ∷ x) (tokens_append a b)

tokens_length : (ms : List Marked) → length (tokens_of ms) ≡ length ms
tokens_length [] = refl
tokens_length (m ∷ ms) = ap suc (tokens_length ms)

-- ---- a token has one role

abbrev some : {A : Type 0} → A → Option A
some x = Some x

next_is : (a b : Next) → some a ≡ some b → a ≡ b
next_is a b e = cc

same_role : (b b' : List Marked) (m m' : Marked) (a a' : List Marked) (k : Steps) (tree tree' : Tree) → tokens_of b ≡ tokens_of b' → m.token ≡ m'.token → Runs k (b ++ (m ∷ a)) tree → Runs k (b' ++ (m' ∷ a')) tree' → m.role ≡ m'.role
same_role [] [] m m' a a' k tree tree' e same r r' =
    let next : r.0 ≡ r'.0 = next_is r.0 r'.0 (sym r.1 ∙ ap (feed k) same ∙ r'.1) in
    sym r.2 ∙ ap (λ (n : Next). n.role) next ∙ r'.2
same_role [] (x ∷ b') m m' a a' k tree tree' e same r r' = absurd cc
same_role (x ∷ b) [] m m' a a' k tree tree' e same r r' = absurd cc
same_role (x ∷ b) (y ∷ b') m m' a a' k tree tree' e same r r' =
    let token : x.token ≡ y.token = head_is x.token y.token (tokens_of b) (tokens_of b') e in
    let next : r.0 ≡ r'.0 = next_is r.0 r'.0 (sym r.1 ∙ ap (feed k) token ∙ r'.1) in
    same_role b b' m m' a a' r'.0.steps tree tree' (tail_is x.token y.token (tokens_of b) (tokens_of b') e) same (subst (λ (n : Next). Runs n.steps (b ++ (m ∷ a)) tree) next r.3) r'.3

-- a fault before a token of a catalogue is that of its role
its_role : (end : ℕ) (b : List Marked) (m : Marked) (a : List Marked) (tree : Tree) (p rest r : List Spanned) (f : Fault) → Whole (b ++ (m ∷ a)) tree → tokens_of b ≡ p → rest ≡ m.token ∷ r → FaultAt end p rest f → over m ≡ Some f
its_role end b m a tree p rest r f w front is stands = go (subst (λ (x : List Spanned). FaultAt end p x f) is stands)
  where
    viable : IsViable (p ++ (m.token ∷ []))
    viable = (b ++ (m ∷ a), tree, tokens_of a, w, tokens_append b (m ∷ a) ∙ ap (λ x. x ++ (m.token ∷ tokens_of a)) front ∙ sym (append_assoc p (m.token ∷ []) (tokens_of a)))

    go : FaultAt end p (m.token ∷ r) f → over m ≡ Some f
    go (inl u) = absurd (u.1.1 viable)
    go (inr h) =
        let same : h.2 ≡ m.role = same_role h.0 b (record { token = m.token; role = h.2 }) m h.1 a start h.3 tree (h.5 ∙ sym front) refl (whole_runs _ h.3 h.4) (whole_runs _ tree w) in
        subst (λ (role : Role). over_role role m.token.at ≡ Some f) same h.6

-- ---- a fault over a limit stands at its token, or at the loop's `for`

fault_is : (f g : Fault) → some f ≡ some g → f ≡ g
fault_is f g e = cc

no_fault : (f : Fault) → ◌≡◌ {A = Option Fault} None (Some f) → ⊥
no_fault f e = absurd cc

past_at : (b : Bool) (kind : FaultKind) (at : ℕ) (f : Fault) → cond b (some (fault_of kind at)) None ≡ Some f → f.at ≡ at
past_at true kind at f e = ap (λ (x : Fault). x.at) (sym (fault_is (fault_of kind at) f e))
past_at false kind at f e = absurd (no_fault f e)

abbrev AtLoop : Role → Fault → Type 0
AtLoop role f = (n loop : ℕ) × (role ≡ LastBound n loop) × (f.at ≡ loop)

role_at : (role : Role) (at : ℕ) (f : Fault) → over_role role at ≡ Some f → (f.at ≡ at) ⊎ AtLoop role f
role_at Plain at f e = absurd (no_fault f e)
role_at (TableWord n) at f e = inl (past_at (ltb 64 n) TooMany at f e)
role_at (ProcWord n) at f e = inl (past_at (ltb 64 n) TooMany at f e)
role_at (ColumnName n) at f e = inl (past_at (ltb 8 n) TooMany at f e)
role_at (ParamName n) at f e = inl (past_at (ltb 16 n) TooMany at f e)
role_at (Operator n) at f e = inl (past_at (ltb 64 n) TooMany at f e)
role_at (Paren n) at f e = inl (past_at (ltb 16 n) TooDeep at f e)
role_at (Nested n) at f e = inl (past_at (ltb 16 n) TooDeep at f e)
role_at (LastBound n loop) at f e = inr (n, loop, refl, past_at (ltb 256 n) TooMany loop f e)

-- the mark of the loop whose second bound this is
the_mark : (p r : List Spanned) (t : Spanned) (f : Fault) (h : IsOverAt p (t ∷ r) f) → (n loop : ℕ) → h.2 ≡ LastBound n loop → LoopMark h.0 loop
the_mark p r t f h n loop is = loop_mark h.0 t n loop h.1 h.3 (subst (λ (role : Role). Whole (h.0 ++ (record { token = t; role = role } ∷ h.1)) h.3) is h.4)

-- the tokens from the mark on
from_mark : (ts p r : List Spanned) (t : Spanned) (before : List Marked) (loop : ℕ) → ts ≡ p ++ (t ∷ r) → tokens_of before ≡ p → (l : LoopMark before loop) → ts ≡ tokens_of l.front ++ (l.mark.token ∷ (tokens_of l.back ++ (t ∷ r)))
from_mark ts p r t before loop parts same l =
    parts ∙ ap (λ x. x ++ (t ∷ r)) (sym same ∙ ap tokens_of l.parts ∙ tokens_append l.front (l.mark ∷ l.back)) ∙ append_assoc (tokens_of l.front) (l.mark.token ∷ tokens_of l.back) (t ∷ r)

marks_long : (p : List Spanned) (before : List Marked) (loop : ℕ) → tokens_of before ≡ p → (l : LoopMark before loop) → length p ≡ length l.front + suc (length l.back)
marks_long p before loop same l = ap length (sym same) ∙ tokens_length before ∙ ap length l.parts ∙ length-append l.front (l.mark ∷ l.back)

-- no fault comes after the first token that is left
not_behind : (end : ℕ) (ts p rest : List Spanned) (f : Fault) → Ascend 0 end ts → ts ≡ p ++ rest → FaultAt end p rest f → f.at ≤ offset end rest
not_behind end ts p rest f ascend parts (inl u) = omega (arith, ap (λ (x : Fault). x.at) u.0)
not_behind end ts p [] f ascend parts (inr h) = absurd h
not_behind end ts p (t ∷ r) f ascend parts (inr h) = go (role_at h.2 t.at f h.6)
  where
    go : (f.at ≡ t.at) ⊎ AtLoop h.2 f → f.at ≤ t.at
    go (inl e) = omega (arith, e)
    go (inr (n, loop, is, e)) =
        let l = the_mark p r t f h n loop is in
        let le : length (tokens_of l.front) ≤ length p = omega (arith, tokens_length l.front, marks_long p h.0 loop h.5 l) in
        let place = place_le end ts (tokens_of l.front) (l.mark.token ∷ (tokens_of l.back ++ (t ∷ r))) p (t ∷ r) ascend (from_mark ts p r t h.0 loop parts h.5 l) parts le in
        omega (arith, place, e, l.stands)

-- ---- the marks of a loop's head

record Picked (back : List Marked) (last : Marked) (tail : List Marked) (j : ℕ) : Type 0 where
  front : List Marked
  mark : Marked
  behind : List Marked
  parts : back ++ (last ∷ tail) ≡ front ++ (mark ∷ behind)
  many : length front ≡ j
  which : (mark.role ≡ Plain) ⊎ (mark ≡ last)

pick : (back : List Marked) (last : Marked) (tail : List Marked) (j : ℕ) → j ≤ length back → ArePlain back → Picked back last tail j
pick [] last tail zero le plain = record { front = []; mark = last; behind = tail; parts = refl; many = refl; which = inr refl }
pick [] last tail (suc j) le plain = absurd (omega (arith, le))
pick (m ∷ back) last tail zero le plain = record { front = []; mark = m; behind = back ++ (last ∷ tail); parts = refl; many = refl; which = inl plain.0 }
pick (m ∷ back) last tail (suc j) le plain =
    let r = pick back last tail j (omega (arith, le)) plain.1 in
    record { front = m ∷ r.front; mark = r.mark; behind = r.behind; parts = ap (λ x. m ∷ x) r.parts; many = ap suc r.many; which = r.which }

record SameFront (p q rest : List Spanned) (y : Spanned) : Type 0 where
  same : q ≡ p
  following : List Spanned
  is : rest ≡ y ∷ following

-- two lists of tokens that are the same up to a token
same_front : (p rest q more p' x z : List Spanned) (y t : Spanned) → p ++ rest ≡ p' ++ (t ∷ x) → q ++ (y ∷ more) ≡ p' ++ (t ∷ z) → length p ≡ length q → length p ≤ length p' → SameFront p q rest y
same_front [] rest [] more [] x z y t e f len le = record { same = refl; following = x; is = e ∙ ap (λ u. u ∷ x) (sym (head_is y t more z f)) }
same_front [] rest [] more (w ∷ p') x z y t e f len le = record { same = refl; following = p' ++ (t ∷ x); is = e ∙ ap (λ u. u ∷ (p' ++ (t ∷ x))) (sym (head_is y w more (p' ++ (t ∷ z)) f)) }
same_front [] rest (v ∷ q) more p' x z y t e f len le = absurd (omega (arith, len))
same_front (u ∷ p) rest [] more p' x z y t e f len le = absurd (omega (arith, len))
same_front (u ∷ p) rest (v ∷ q) more [] x z y t e f len le = absurd (omega (arith, le))
same_front (u ∷ p) rest (v ∷ q) more (w ∷ p') x z y t e f len le =
    let r = same_front p rest q more p' x z y t (tail_is u w (p ++ rest) (p' ++ (t ∷ x)) e) (tail_is v w (q ++ (y ∷ more)) (p' ++ (t ∷ z)) f) (omega (arith, len)) (omega (arith, le)) in
    let one : v ≡ u = head_is v w (q ++ (y ∷ more)) (p' ++ (t ∷ z)) f ∙ sym (head_is u w (p ++ rest) (p' ++ (t ∷ x)) e) in
    record { same = λ i. one i ∷ r.same i; following = r.following; is = r.is }

-- ---- the first fault

module _ (end : ℕ) (ts : List Spanned) (ascend : Ascend 0 end ts) (p rest : List Spanned) (f : Fault) (parts : ts ≡ p ++ rest) (stands : FaultAt end p rest f) where
  here : f.at ≤ offset end rest
  here = not_behind end ts p rest f ascend parts stands

  -- before the fault of a loop whose second bound comes later
  before_loop : (p' r' : List Spanned) (t' : Spanned) (o : Fault) → ts ≡ p' ++ (t' ∷ r') → length p ≤ length p' → (h : IsOverAt p' (t' ∷ r') o) → (n loop : ℕ) → h.2 ≡ LastBound n loop → o.at ≡ loop → f.at ≤ o.at
  before_loop p' r' t' o parts' le h n loop is at = by (cases_lt (length l.front) (length p))
    where
      l : LoopMark h.0 loop
      l = the_mark p' r' t' o h n loop is

      last : Marked
      last = record { token = t'; role = h.2 }

      long : length p' ≡ length l.front + suc (length l.back)
      long = marks_long p' h.0 loop h.5 l

      -- the fault stands in the head
      within : (j : ℕ) → length p ≡ length l.front + suc j → Picked l.back last h.1 j → f.at ≤ o.at
      within j count r = which r.which
        where
          b : List Marked
          b = l.front ++ (l.mark ∷ r.front)

          marks : h.0 ++ (last ∷ h.1) ≡ b ++ (r.mark ∷ r.behind)
          marks = ap (λ x. x ++ (last ∷ h.1)) l.parts ∙ append_assoc l.front (l.mark ∷ l.back) (last ∷ h.1) ∙ ap (λ x. l.front ++ (l.mark ∷ x)) r.parts ∙ sym (append_assoc l.front (l.mark ∷ r.front) (r.mark ∷ r.behind))

          shared : tokens_of b ++ (r.mark.token ∷ tokens_of r.behind) ≡ p' ++ (t' ∷ tokens_of h.1)
          shared = sym (tokens_append b (r.mark ∷ r.behind)) ∙ ap tokens_of (sym marks) ∙ tokens_append h.0 (last ∷ h.1) ∙ ap (λ x. x ++ (t' ∷ tokens_of h.1)) h.5

          same_long : length p ≡ length (tokens_of b)
          same_long = omega (arith, count, tokens_length b, length-append l.front (l.mark ∷ r.front), r.many)

          front : SameFront p (tokens_of b) rest r.mark.token
          front = same_front p rest (tokens_of b) (tokens_of r.behind) p' r' (tokens_of h.1) r.mark.token t' (sym parts ∙ parts') shared same_long le

          role : over r.mark ≡ Some f
          role = its_role end b r.mark r.behind h.3 p rest front.following f (subst (λ (ms : List Marked). Whole ms h.3) marks h.4) front.same front.is stands

          which : (r.mark.role ≡ Plain) ⊎ (r.mark ≡ last) → f.at ≤ o.at
          which (inl plain) = absurd (no_fault f (sym (ap (λ (role : Role). over_role role r.mark.token.at) plain) ∙ role))
          which (inr same) =
              let one : f ≡ o = fault_is f o (sym role ∙ ap over same ∙ h.6) in
              omega (arith, ap (λ (x : Fault). x.at) one)

      by : (length l.front < length p) ⊎ (length p ≤ length l.front) → f.at ≤ o.at
      by (inl lt) =
          let j : ℕ = length p - suc (length l.front) in
          within j (omega (arith, lt)) (pick l.back last h.1 j (omega (arith, lt, le, long)) l.plain)
      by (inr short) =
          let place = place_le end ts p rest (tokens_of l.front) (l.mark.token ∷ (tokens_of l.back ++ (t' ∷ r'))) ascend parts (from_mark ts p' r' t' h.0 loop parts' h.5 l) (omega (arith, short, tokens_length l.front)) in
          omega (arith, here, place, l.stands, at)

  least : (p' rest' : List Spanned) (o : Fault) → ts ≡ p' ++ rest' → FaultAt end p' rest' o → length p ≤ length p' → f.at ≤ o.at
  least p' rest' o parts' (inl u) le = omega (arith, here, place_le end ts p rest p' rest' ascend parts parts' le, ap (λ (x : Fault). x.at) u.0)
  least p' [] o parts' (inr h) le = absurd h
  least p' (t' ∷ r') o parts' (inr h) le = go (role_at h.2 t'.at o h.6)
    where
      go : (o.at ≡ t'.at) ⊎ AtLoop h.2 o → f.at ≤ o.at
      go (inl e) = omega (arith, here, place_le end ts p rest p' (t' ∷ r') ascend parts parts' le, e)
      go (inr (n, loop, is, e)) = before_loop p' r' t' o parts' le h n loop is e

-- ---- a text

climbs_from : (low at : ℕ) (ps : List ℕ) → low ≤ at → Climbs at ps → Climbs low ps
climbs_from low at [] le h = tt
climbs_from low at (p ∷ ps) le h = (omega (arith, h.0, le), h.1)

-- the tokens of a text ascend to its end
lexed_ascend : (before : Before) (at : ℕ) (bytes : List ℕ) (ts : List Spanned) (f : Option Fault) → Lexed before at bytes ts f → Ascend at (end_of (at + length bytes) f) ts
lexed_ascend before at bytes [] f h = (ends (drop (gap bytes) bytes) refl h, tt)
  where
    ends : (rest : List ℕ) → drop (gap bytes) bytes ≡ rest → EndsAt before (at + gap bytes) rest f → at ≤ end_of (at + length bytes) f
    ends [] is h = rw h (omega arith)
    ends (b ∷ bs) is h = rw h.2 (omega arith)
lexed_ascend before at bytes (t ∷ ts) f h =
    let next = h.1 in
    let following = drop (gap bytes) bytes in
    let one = spells_some before t.token next.prefix next.longest.spells in
    let left : length following ≡ length next.prefix + length next.rest = ap length next.longest.parts ∙ length-append next.prefix next.rest in
    let more = lexed_ascend (after before t.token) (at + gap bytes + h.0) (drop h.0 following) ts f h.3 in
    let same : at + gap bytes + h.0 + length (drop h.0 following) ≡ at + length bytes = omega (arith, one, left, next.counted, length-drop h.0 following, length-drop (gap bytes) bytes) in
    (omega (arith, h.2), climbs_from (suc t.at) (at + gap bytes + h.0) _ (omega (arith, h.2, one, next.counted)) (subst (λ n. Ascend (at + gap bytes + h.0) (end_of n f) ts) same more))

pub least_offset : (text : List ℕ) (ts : List Spanned) (lexical : Option Fault) (first : Fault) → IsLexed text ts lexical → IsFirstFault (end_of (length text) lexical) ts first
    → (p rest : List Spanned) (other : Fault) → ts ≡ p ++ rest → FaultAt (end_of (length text) lexical) p rest other → first.at ≤ other.at
least_offset text ts lexical first lexed (q, left, is) p rest other parts stands =
    let same : 0 + length text ≡ length text = omega arith in
    let ascend : Ascend 0 (end_of (length text) lexical) ts = subst (λ n. Ascend 0 (end_of n lexical) ts) same (lexed_ascend _ 0 text ts lexical lexed) in
    least (end_of (length text) lexical) ts ascend q left first is.parts is.stands p rest other parts stands (is.least p rest other parts stands)
