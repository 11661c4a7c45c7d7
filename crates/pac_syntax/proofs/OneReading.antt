-- A text reads as one tree at most, or else has one first fault.
use Rattle.std.proofs.Common.{◌≡◌, ◌≤◌, ◌<◌, ℕ, List, [], ◌∷◌, ◌++◌, length, take, drop, Option, Some, None, Result, Ok, Err, refl, sym, ap, subst, ◌∙◌, append_assoc, arith, inl, inr}
use Rattle.std.proofs.lemmas.List.{append-nil, length-append}
use Rattle.std.proofs.Math.Seq.{take-append_seam, drop-append_seam}
use Rattle.pac_tokens.specs.declared.token.Spanned.{Spanned}
use Rattle.pac_tokens.specs.declared.fault.Fault.{Fault}
use Rattle.pac_syntax.specs.declared.tree.Tree.{Tree}
use Rattle.pac_syntax.specs.Faults.{ReadsTokens, FaultAt, IsFirstFault}
use Rattle.pac_syntax.specs.Reading.{Reads, IsFirstOf, IsFineBefore, IsTextFault}
use Rattle.pac_syntax.specs.Machine.{Stop, scan, start}
use Rattle.pac_tokens.proofs.LexedOnce.{same_tokens, same_fault}
use Rattle.pac_syntax.proofs.Meets.{reads_ok, ok_reads, first_fault, over_stops, overs, not_both}

-- ---- the tokens of a text

-- two prefixes of one length are equal, and so are the rests
prefix_is : (p q rest more : List Spanned) → p ++ rest ≡ q ++ more → length p ≡ length q → p ≡ q
prefix_is p q rest more e len = sym (take-append_seam p rest) ∙ ap (take (length p)) e ∙ ap (λ n. take n (q ++ more)) len ∙ take-append_seam q more

rest_is : (p q rest more : List Spanned) → p ++ rest ≡ q ++ more → length p ≡ length q → rest ≡ more
rest_is p q rest more e len = sym (drop-append_seam p rest) ∙ ap (drop (length p)) e ∙ ap (λ n. drop n (q ++ more)) len ∙ drop-append_seam q more

-- what stands where the reading stops is its fault
stops_there : (end : ℕ) (ts p : List Spanned) (s : Stop) (f : Fault) → scan end start ts ≡ Err s → ts ≡ p ++ s.rest → FaultAt end p s.rest s.fault → FaultAt end p s.rest f → f ≡ s.fault
stops_there end ts p s f e parts (inl stop) (inl here) = here.0 ∙ sym stop.0
stops_there end ts p s f e parts (inl stop) (inr here) = absurd (not_both p s.rest f here stop.1)
stops_there end ts p s f e parts (inr stop) (inl here) = absurd (not_both p s.rest s.fault stop here.1)
stops_there end ts p s f e parts (inr stop) (inr here) = sym ((overs end ts p s.rest f s e parts here).here (ap length parts ∙ length-append p s.rest))

is_stop : (end : ℕ) (ts : List Spanned) (s : Stop) (f : Fault) → scan end start ts ≡ Err s → IsFirstFault end ts f → f ≡ s.fault
is_stop end ts s f e (q, rest, h) =
    let stop = first_fault end ts s e in
    let p = stop.0 in
    let less : length p ≤ length q = stop.1.least q rest f h.parts h.stands in
    let more : length q ≤ length p = h.least p s.rest s.fault stop.1.parts stop.1.stands in
    let len : length q ≡ length p = omega (arith, less, more) in
    let same : q ++ rest ≡ p ++ s.rest = sym h.parts ∙ stop.1.parts in
    let there : FaultAt end p s.rest f = subst (λ (x : List Spanned). FaultAt end x s.rest f) (prefix_is q p rest s.rest same len) (subst (λ (x : List Spanned). FaultAt end q x f) (rest_is q p rest s.rest same len) h.stands) in
    stops_there end ts p s f e stop.1.parts stop.1.stands there

abbrev ok_read : Tree → Result Tree Stop
ok_read tree = Ok tree

abbrev stopped : Stop → Result Tree Stop
stopped s = Err s

ok_stopped : (tree : Tree) (s : Stop) → ok_read tree ≡ stopped s → ⊥
ok_stopped tree s e = absurd cc

-- tokens that are read have no fault
none_at : (end : ℕ) (ts p rest : List Spanned) (tree : Tree) (f : Fault) → ReadsTokens ts tree → ts ≡ p ++ rest → FaultAt end p rest f → ⊥
none_at end ts p [] tree f h parts (inl here) = here.1.1 h.0 tree h.1 (h.2 ∙ parts ∙ append-nil p)
none_at end ts p [] tree f h parts (inr here) = here
none_at end ts p (t ∷ r) tree f h parts (inl here) = here.1.1 (h.0, tree, r, h.1, h.2 ∙ parts ∙ sym (append_assoc p (t ∷ []) r))
none_at end ts p (t ∷ r) tree f h parts (inr here) =
    let by = over_stops end p t r f here in
    ok_stopped tree by.stop (sym (ok_reads end ts tree h) ∙ ap (scan end start) parts ∙ by.is)

none_first : (end : ℕ) (ts : List Spanned) (tree : Tree) (f : Fault) → ReadsTokens ts tree → IsFirstFault end ts f → ⊥
none_first end ts tree f h (p, rest, first) = none_at end ts p rest tree f h first.parts first.stands

-- tokens have one first fault
one_first : (end : ℕ) (ts : List Spanned) (f g : Fault) → IsFirstFault end ts f → IsFirstFault end ts g → f ≡ g
one_first end ts f g h k = by_scan (scan end start ts) refl
  where
    by_scan : (r : Result Tree Stop) → scan end start ts ≡ r → f ≡ g
    by_scan (Ok tree) e = absurd (none_first end ts tree f (reads_ok end ts tree e) h)
    by_scan (Err s) e = is_stop end ts s f e h ∙ sym (is_stop end ts s g e k)

-- ---- a text

-- a fault before a token that is none contradicts that all is fine there
not_fine : (at : ℕ) (ts : List Spanned) (f : Fault) → IsFirstFault at ts f → f.at < at → IsFineBefore at ts → ⊥
not_fine at ts f h before (inl reads) = none_first at ts reads.0 f reads.1 h
not_fine at ts f h before (inr (g, first, after)) = let same : f ≡ g = one_first at ts f g h first in absurd (omega (arith, before, after, ap (λ (x : Fault). x.at) same))

one_first_of : (end : ℕ) (ts : List Spanned) (lexical : Option Fault) (f g : Fault) → IsFirstOf end ts lexical f → IsFirstOf end ts lexical g → f ≡ g
one_first_of end ts None f g h k = one_first end ts f g h k
one_first_of end ts (Some lexical) f g (inl h) (inl k) = one_first lexical.at ts f g h.0 k.0
one_first_of end ts (Some lexical) f g (inl h) (inr k) = absurd (not_fine lexical.at ts f h.0 h.1 k.1)
one_first_of end ts (Some lexical) f g (inr h) (inl k) = absurd (not_fine lexical.at ts g k.0 k.1 h.1)
one_first_of end ts (Some lexical) f g (inr h) (inr k) = h.0 ∙ sym k.0

-- a text has one first fault
pub one_fault : (text : List ℕ) (f g : Fault) → IsTextFault text f → IsTextFault text g → f ≡ g
one_fault text f g (inl h) (inl k) = h.1 ∙ sym k.1
one_fault text f g (inl h) (inr k) = absurd (omega (arith, h.0, k.0))
one_fault text f g (inr h) (inl k) = absurd (omega (arith, h.0, k.0))
one_fault text f g (inr (short, ts, lexical, lexed, h)) (inr (short', us, other, lexed', k)) =
    let tokens : us ≡ ts = same_tokens text us ts other lexical lexed' lexed in
    let ends : other ≡ lexical = same_fault text us ts other lexical lexed' lexed in
    one_first_of (length text) ts lexical f g h (subst (λ (o : Option Fault). IsFirstOf (length text) ts o g) ends (subst (λ (x : List Spanned). IsFirstOf (length text) x other g) tokens k))

-- a text that is read has none
pub no_fault : (text : List ℕ) (tree : Tree) (f : Fault) → Reads text tree → IsTextFault text f → ⊥
no_fault text tree f h (inl long) = absurd (omega (arith, h.short, long.0))
no_fault text tree f h (inr (short, ts, lexical, lexed, first)) =
    let tokens : ts ≡ h.tokens = same_tokens text ts h.tokens lexical _ lexed h.lexed in
    let ends : lexical ≡ None = same_fault text ts h.tokens lexical _ lexed h.lexed in
    none_first (length text) ts tree f (subst (λ (x : List Spanned). ReadsTokens x tree) (sym tokens) h.parsed) (subst (λ (o : Option Fault). IsFirstOf (length text) ts o f) ends first)

ok_is : (a b : Tree) → ok_read a ≡ ok_read b → a ≡ b
ok_is a b e = cc

-- a text reads as one tree
pub reads_once : (text : List ℕ) (a b : Tree) → Reads text a → Reads text b → a ≡ b
reads_once text a b h k =
    let same : h.tokens ≡ k.tokens = same_tokens text h.tokens k.tokens _ _ h.lexed k.lexed in
    ok_is a b (sym (ok_reads 0 h.tokens a h.parsed) ∙ ap (scan 0 start) same ∙ ok_reads 0 k.tokens b k.parsed)
