-- What a prefix of the texts of replies acknowledges.
use Rattle.std.proofs.Common.{◌≡◌, ◌∙◌, ◌⊎◌, inl, inr, ℕ, zero, suc, ◌^◌, ◌<◌, ◌≤◌, Bool, true, false, ◌||◌, List, [], ◌∷◌, ◌++◌, take, map, refl, sym, ap, subst, arith, append_assoc}
use Rattle.std.specs.Prelude.{codes, nat_eq, slice_index_or, if◌then◌else◌}
use Rattle.std.specs.List.{AllByRecursion, list_all}
use Rattle.std.specs.Fmt.{decimal}
use Rattle.std.specs.Cmp.{first_so, second_so}
use Rattle.std.proofs.lemmas.Fmt.{decimal_injective}
use Rattle.pac_tokens.specs.Tokens.{is_name}
use Rattle.pac_lines.specs.Lines.{HasNoFeed, has_feed, lines_of, with_first_byte}
use Rattle.pac_types.specs.declared.table.Table.{Table}
use Rattle.pac_types.specs.Typing.{CatalogueState}
use Rattle.pac_log.specs.declared.limits.TheConstants.{MAX_BASE}
use Rattle.pac_request.specs.declared.request.Reply.{Reply}
use Rattle.pac_request.specs.declared.request.Reply.TheVariants.{Committed, Aborted, AbortedFull, Shown, Refused, Saved}
use Rattle.pac_request.specs.declared.fault.LineFaultKind.{LineFaultKind}
use Rattle.pac_request.specs.declared.fault.LineFaultKind.TheVariants as kind
use Rattle.pac_request.specs.LineKinds.{line_kind_name}
use Rattle.pac_ops.specs.declared.reason.Reason.{Reason}
use Rattle.pac_ops.specs.declared.reason.Reason.TheVariants as reason
use Rattle.pac_ops.specs.Reasons.{reason_name}
use Rattle.pac_value.specs.Literals.{key_text}
use Rattle.pac_report.specs.Replies.{reply_words, shown_row, table_name}
use Rattle.pac_engine.specs.declared.parts.EngineParts.{EngineParts}
use Rattle.pac_engine.specs.Closing.{IsKept}
use Rattle.pac_engine.specs.Standing.{durable_of, saved_of}
use Rattle.pac_run.specs.Acked.{Acknowledges, IsOneOfLines, ReportsSaved, whole_lines}
use Rattle.pac_run.specs.Texts.{IsTextPrefix, IsPlain, texts}
use Rattle.pac_run.proofs.NameLemmas.{AreNamed}
use Rattle.pac_run.proofs.PlainLemmas.{cons_no_feed, decimal_no_feed, no_feed_both}

-- ---- one line, and then more

first-none : (a b : Bool) → (a || b) ≡ false → a ≡ false
first-none true b e = absurd cc
first-none false b e = refl

second-none : (a b : Bool) → (a || b) ≡ false → b ≡ false
second-none true b e = absurd cc
second-none false b e = e

-- a prefix of a line and more has no whole line, or this one and then those of a prefix of the rest
prefix-lines : (line rest : List ℕ) (i : ℕ) → HasNoFeed line → (whole_lines (take i (line ++ 10 ∷ rest)) ≡ []) ⊎ ((j : ℕ) × (whole_lines (take i (line ++ 10 ∷ rest)) ≡ line ∷ whole_lines (take j rest)))
prefix-lines [] rest zero none = inl refl
prefix-lines [] rest (suc i) none = inr (i, refl)
prefix-lines (b ∷ line) rest zero none = inl refl
prefix-lines (b ∷ line) rest (suc i) none = go (nat_eq b 10) refl (prefix-lines line rest i (second-none (nat_eq b 10) (has_feed line) none))
  where
    bytes : List ℕ
    bytes = take i (line ++ 10 ∷ rest)

    first : (w : List (List ℕ)) (r : List ℕ) → w ≡ [] → (with_first_byte b w r).whole ≡ []
    first w r e = ap (λ (x : List (List ℕ)). (with_first_byte b x r).whole) e

    more : (w others : List (List ℕ)) (r : List ℕ) → w ≡ line ∷ others → (with_first_byte b w r).whole ≡ (b ∷ line) ∷ others
    more w others r e = ap (λ (x : List (List ℕ)). (with_first_byte b x r).whole) e

    whole-is : (nat_eq b 10 ≡ false) → whole_lines (b ∷ take i (line ++ 10 ∷ rest)) ≡ (with_first_byte b (lines_of (take i (line ++ 10 ∷ rest))).whole (lines_of (take i (line ++ 10 ∷ rest))).rest).whole
    whole-is e = ap (λ (t : Bool). (if t then record { whole = [] ∷ (lines_of (take i (line ++ 10 ∷ rest))).whole; rest = (lines_of (take i (line ++ 10 ∷ rest))).rest } else with_first_byte b (lines_of (take i (line ++ 10 ∷ rest))).whole (lines_of (take i (line ++ 10 ∷ rest))).rest).whole) e

    go : (t : Bool) → nat_eq b 10 ≡ t → (whole_lines (take i (line ++ 10 ∷ rest)) ≡ []) ⊎ ((j : ℕ) × (whole_lines (take i (line ++ 10 ∷ rest)) ≡ line ∷ whole_lines (take j rest)))
        → (whole_lines (b ∷ take i (line ++ 10 ∷ rest)) ≡ []) ⊎ ((j : ℕ) × (whole_lines (b ∷ take i (line ++ 10 ∷ rest)) ≡ (b ∷ line) ∷ whole_lines (take j rest)))
    go true e is = absurd (wrong (sym e ∙ first-none (nat_eq b 10) (has_feed line) none))
      where
        wrong : ◌≡◌ {A = Bool} true false → ⊥
        wrong x = cc
    go false e (inl is) = inl (whole-is e ∙ first _ _ is)
    go false e (inr is) = inr (is.0, whole-is e ∙ more _ (whole_lines (take is.0 rest)) _ is.1)

module _ (P : List ℕ → Type 0) (catalogue : CatalogueState) where
  -- each whole line of a prefix of the texts is that of one of the replies
  pub each-line : (replies : List Reply) → AllByRecursion (λ r. HasNoFeed (reply_words catalogue r)) replies → AllByRecursion (λ r. P (reply_words catalogue r)) replies → (i : ℕ) → AllByRecursion P (whole_lines (take i (texts catalogue replies)))
  each-line [] plain each zero = tt
  each-line [] plain each (suc i) = tt
  each-line (r ∷ replies) plain each i =
      let text : texts catalogue (r ∷ replies) ≡ reply_words catalogue r ++ 10 ∷ texts catalogue replies = append_assoc (reply_words catalogue r) (10 ∷ []) (texts catalogue replies) in
      subst (λ (t : List ℕ). AllByRecursion P (whole_lines (take i t))) (sym text) (by (λ j. each-line replies plain.1 each.1 j) (prefix-lines (reply_words catalogue r) (texts catalogue replies) i plain.0))
    where
      by : ((j : ℕ) → AllByRecursion P (whole_lines (take j (texts catalogue replies)))) → (whole_lines (take i (reply_words catalogue r ++ 10 ∷ texts catalogue replies)) ≡ []) ⊎ ((j : ℕ) × (whole_lines (take i (reply_words catalogue r ++ 10 ∷ texts catalogue replies)) ≡ reply_words catalogue r ∷ whole_lines (take j (texts catalogue replies))))
          → AllByRecursion P (whole_lines (take i (reply_words catalogue r ++ 10 ∷ texts catalogue replies)))
      by more (inl none) = subst (λ (l : List (List ℕ)). AllByRecursion P l) (sym none) tt
      by more (inr one) = subst (λ (l : List (List ℕ)). AllByRecursion P l) (sym one.1) (each.0, more one.0)

-- ---- names of tables

name-at : (tables : List Table) (t : ℕ) → AllByRecursion (λ table. list_all is_name table.name ≡ true) tables → list_all is_name (slice_index_or (map (λ table. table.name) tables) t []) ≡ true
name-at [] zero all = refl
name-at [] (suc t) all = refl
name-at (x ∷ tables) zero all = all.0
name-at (x ∷ tables) (suc t) all = name-at tables t all.1

pub name-no-feed : (name : List ℕ) → list_all is_name name ≡ true → HasNoFeed name
name-no-feed [] all = refl
name-no-feed (b ∷ name) all = cons_no_feed b name (λ e. wrong (subst (λ (x : ℕ). is_name x ≡ true) e (first_so (is_name b) (list_all is_name name) all))) (name-no-feed name (second_so (is_name b) (list_all is_name name) all))
  where
    wrong : is_name 10 ≡ true → ⊥
    wrong e = cc

-- two names with another byte after each: that is the same one
heads : (x y : ℕ) (xs ys : List ℕ) → ◌≡◌ {A = List ℕ} (x ∷ xs) (y ∷ ys) → x ≡ y
heads x y xs ys same = cc

tails : (x y : ℕ) (xs ys : List ℕ) → ◌≡◌ {A = List ℕ} (x ∷ xs) (y ∷ ys) → xs ≡ ys
tails x y xs ys same = cc

no-bool : ◌≡◌ {A = Bool} true false → ⊥
no-bool x = cc

after-name : (v w : List ℕ) (x y : ℕ) (r s : List ℕ) → list_all is_name v ≡ true → list_all is_name w ≡ true → is_name x ≡ false → is_name y ≡ false → v ++ x ∷ r ≡ w ++ y ∷ s → x ≡ y
after-name [] [] x y r s all other none still same = heads x y r s same
after-name [] (c ∷ w) x y r s all other none still same = absurd (no-bool (sym (first_so (is_name c) (list_all is_name w) other) ∙ ap is_name (sym (heads x c r (w ++ y ∷ s) same)) ∙ none))
after-name (b ∷ v) [] x y r s all other none still same = absurd (no-bool (sym (first_so (is_name b) (list_all is_name v) all) ∙ ap is_name (heads b y (v ++ x ∷ r) s same) ∙ still))
after-name (b ∷ v) (c ∷ w) x y r s all other none still same = after-name v w x y r s (second_so (is_name b) (list_all is_name v) all) (second_so (is_name c) (list_all is_name w) other) none still (tails b c (v ++ x ∷ r) (w ++ y ∷ s) same)

-- ---- what lines say

abbrev pub ReportsOnly : List ℕ → (ℕ → Type 0) → List ℕ → Type 0
ReportsOnly word P line = (number : ℕ) → number < 2 ^ 64 → word ++ decimal number ≡ line → P number

same-number : (prefix : List ℕ) (m n : ℕ) → m < 2 ^ 64 → n < 2 ^ 64 → prefix ++ decimal m ≡ prefix ++ decimal n → m ≡ n
same-number [] m n small small' same = decimal_injective m n small small' same
same-number (x ∷ prefix) m n small small' same = same-number prefix m n small small' (tails x x (prefix ++ decimal m) (prefix ++ decimal n) same)

-- the line of a row that is shown begins with a name and `[`, and not with one and a space
shown-other : (word name more : List ℕ) (number : ℕ) → list_all is_name word ≡ true → list_all is_name name ≡ true → (word ++ 32 ∷ []) ++ decimal number ≡ name ++ 91 ∷ more → ⊥
shown-other word name more number all named same =
    let x : 32 ≡ 91 = after-name word name 32 91 (decimal number) more all named refl refl (sym (append_assoc word (32 ∷ []) (decimal number)) ∙ same) in
    omega (arith, x)

-- the line of a row that is shown is a name, and `[` after it
shown-split : (name key row : List ℕ) → name ++ codes "[" ++ key ++ codes "]" ++ row ≡ name ++ 91 ∷ ((key ++ 93 ∷ []) ++ row)
shown-split name key row = ap (λ (l : List ℕ). (l ++ (93 ∷ [])) ++ row) (append_assoc name (91 ∷ []) key) ∙ ap (λ (l : List ℕ). l ++ row) (append_assoc name (91 ∷ key) (93 ∷ [])) ∙ append_assoc name ((91 ∷ key) ++ (93 ∷ [])) row

kept-knows : (catalogue : CatalogueState) → AreNamed catalogue.tables → (engine : EngineParts) (r : Reply) → IsPlain r → IsKept engine r → ReportsOnly (codes "committed ") (λ n. n ≤ durable_of engine) (reply_words catalogue r)
kept-knows catalogue names engine (Committed txn) plain kept number few same =
    let is = same-number (codes "committed ") number txn few plain same in
    let k : txn ≤ durable_of engine = kept in
    omega (arith, is, k)
kept-knows catalogue names engine (Aborted op reason) plain kept number few same = let h : 99 ≡ 97 = heads _ _ _ _ same in omega (arith, h)
kept-knows catalogue names engine (AbortedFull table) plain kept number few same = let h : 99 ≡ 97 = heads _ _ _ _ same in omega (arith, h)
kept-knows catalogue names engine (Shown table key row) plain kept number few same = absurd (shown-other (codes "committed") (table_name catalogue table) ((key_text key ++ 93 ∷ []) ++ shown_row row) number refl (name-at catalogue.tables table names) (same ∙ shown-split (table_name catalogue table) (key_text key) (shown_row row)))
kept-knows catalogue names engine (Refused fault) plain kept number few same = let h : 99 ≡ 114 = heads _ _ _ _ same in omega (arith, h)
kept-knows catalogue names engine (Saved txns) plain kept number few same = let h : 99 ≡ 115 = heads _ _ _ _ same in omega (arith, h)

kept-saved : (catalogue : CatalogueState) → AreNamed catalogue.tables → (engine : EngineParts) (r : Reply) → IsPlain r → IsKept engine r → ReportsOnly (codes "saved ") (λ n. n ≤ MAX_BASE → n < saved_of engine) (reply_words catalogue r)
kept-saved catalogue names engine (Saved txns) plain kept number few same =
    let is = same-number (codes "saved ") number txns few plain same in
    let k : txns ≤ MAX_BASE → txns < saved_of engine = kept in
    λ small. omega (arith, is, k (omega (arith, is, small)))
kept-saved catalogue names engine (Aborted op reason) plain kept number few same = let h : 115 ≡ 97 = heads _ _ _ _ same in absurd (omega (arith, h))
kept-saved catalogue names engine (AbortedFull table) plain kept number few same = let h : 115 ≡ 97 = heads _ _ _ _ same in absurd (omega (arith, h))
kept-saved catalogue names engine (Shown table key row) plain kept number few same = absurd (shown-other (codes "saved") (table_name catalogue table) ((key_text key ++ 93 ∷ []) ++ shown_row row) number refl (name-at catalogue.tables table names) (same ∙ shown-split (table_name catalogue table) (key_text key) (shown_row row)))
kept-saved catalogue names engine (Refused fault) plain kept number few same = let h : 115 ≡ 114 = heads _ _ _ _ same in absurd (omega (arith, h))
kept-saved catalogue names engine (Committed txn) plain kept number few same = let h : 115 ≡ 99 = heads _ _ _ _ same in absurd (omega (arith, h))

-- ---- a reply is one line

reason-no-feed : (reason : Reason) → HasNoFeed (reason_name reason)
reason-no-feed reason.Asked = refl
reason-no-feed reason.Missing = refl
reason-no-feed reason.Overflow = refl
reason-no-feed reason.DivZero = refl

kind-no-feed : (k : LineFaultKind) → HasNoFeed (line_kind_name k)
kind-no-feed kind.Token = refl
kind-no-feed kind.Expected = refl
kind-no-feed kind.TooLong = refl
kind-no-feed kind.UnknownName = refl
kind-no-feed kind.WrongCount = refl
kind-no-feed kind.WrongType = refl
kind-no-feed kind.NotHere = refl

words-no-feed : (catalogue : CatalogueState) → AreNamed catalogue.tables → (r : Reply) → IsPlain r → HasNoFeed (reply_words catalogue r)
words-no-feed catalogue names (Committed txn) plain = no_feed_both (codes "committed ") (decimal txn) refl (decimal_no_feed txn plain)
words-no-feed catalogue names (Aborted op why) plain = no_feed_both ((codes "aborted " ++ decimal op) ++ codes " ") (reason_name why) (no_feed_both (codes "aborted " ++ decimal op) (codes " ") (no_feed_both (codes "aborted ") (decimal op) refl (decimal_no_feed op plain)) refl) (reason-no-feed why)
words-no-feed catalogue names (AbortedFull table) plain = no_feed_both (codes "aborted Full ") (table_name catalogue table) refl (name-no-feed (table_name catalogue table) (name-at catalogue.tables table names))
words-no-feed catalogue names (Shown table key row) plain =
    let name = table_name catalogue table in
    no_feed_both (((name ++ codes "[") ++ key_text key) ++ codes "]") (shown_row row)
    (no_feed_both ((name ++ codes "[") ++ key_text key) (codes "]") (no_feed_both (name ++ codes "[") (key_text key) (no_feed_both name (codes "[") (name-no-feed name (name-at catalogue.tables table names)) refl) plain.0) refl) plain.1
words-no-feed catalogue names (Refused fault) plain = no_feed_both ((codes "refused " ++ decimal fault.at) ++ codes " ") (line_kind_name fault.kind) (no_feed_both (codes "refused " ++ decimal fault.at) (codes " ") (no_feed_both (codes "refused ") (decimal fault.at) refl (decimal_no_feed fault.at plain)) refl) (kind-no-feed fault.kind)
words-no-feed catalogue names (Saved txns) plain = no_feed_both (codes "saved ") (decimal txns) refl (decimal_no_feed txns plain)

-- ---- an output

each-of : (P Q R : Reply → Type 0) → ((r : Reply) → P r → Q r → R r) → (replies : List Reply) → AllByRecursion P replies → AllByRecursion Q replies → AllByRecursion R replies
each-of P Q R step [] first second = tt
each-of P Q R step (r ∷ replies) first second = (step r first.0 second.0, each-of P Q R step replies first.1 second.1)

one-among : (P : List ℕ → Type 0) (line : List ℕ) (lines : List (List ℕ)) → AllByRecursion P lines → IsOneOfLines line lines → (other : List ℕ) × (line ≡ other) × P other
one-among P line [] each is = absurd is
one-among P line (first ∷ lines) each (inl same) = (first, same, each.0)
one-among P line (first ∷ lines) each (inr is) = one-among P line lines each.1 is

module _ (catalogue : CatalogueState) (names : AreNamed catalogue.tables) (engine : EngineParts) (replies : List Reply) (output : List ℕ) (plain : AllByRecursion IsPlain replies) (kept : AllByRecursion (IsKept engine) replies) (prefix : IsTextPrefix output (texts catalogue replies)) where
  knows : (word : List ℕ) (P : ℕ → Type 0) → AllByRecursion (λ r. ReportsOnly word P (reply_words catalogue r)) replies → (number : ℕ) → (number < 2 ^ 64) × IsOneOfLines (word ++ decimal number) (whole_lines output) → P number
  knows word P each number is =
      let feeds = each-of IsPlain (λ r. Unit {0}) (λ r. HasNoFeed (reply_words catalogue r)) (λ r p u. words-no-feed catalogue names r p) replies plain (all-unit replies) in
      let lines = subst (λ (t : List ℕ). AllByRecursion (ReportsOnly word P) (whole_lines t)) (sym prefix.is) (each-line (ReportsOnly word P) catalogue replies feeds each prefix.count) in
      let one = one-among (ReportsOnly word P) (word ++ decimal number) (whole_lines output) lines is.1 in
      one.2 number is.0 one.1
    where
      all-unit : (rs : List Reply) → AllByRecursion (λ r. Unit {0}) rs
      all-unit [] = tt
      all-unit (r ∷ rs) = (tt, all-unit rs)

  -- an output that is a prefix of the texts of kept replies acknowledges nothing but what is durable
  pub acknowledged : (number : ℕ) → Acknowledges output number → number ≤ durable_of engine
  acknowledged = knows (codes "committed ") (λ n. n ≤ durable_of engine) (each-of IsPlain (IsKept engine) (λ r. ReportsOnly (codes "committed ") (λ n. n ≤ durable_of engine) (reply_words catalogue r)) (λ r p k. kept-knows catalogue names engine r p k) replies plain kept)

  pub known-saved : (number : ℕ) → ReportsSaved output number → number ≤ MAX_BASE → number < saved_of engine
  known-saved = knows (codes "saved ") (λ n. n ≤ MAX_BASE → n < saved_of engine) (each-of IsPlain (IsKept engine) (λ r. ReportsOnly (codes "saved ") (λ n. n ≤ MAX_BASE → n < saved_of engine) (reply_words catalogue r)) (λ r p k. kept-saved catalogue names engine r p k) replies plain kept)
