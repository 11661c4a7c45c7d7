-- The lines of a text: where the first line feed stands, and what the lines are then.
use Rattle.std.proofs.Common.{◌≡◌, ◌≢◌, ◌⊎◌, ◌+◌, ◌-◌, ◌<◌, ◌≤◌, ◌||◌, ℕ, suc, Bool, true, false, cond, not, List, [], ◌∷◌, ◌++◌, take, drop, length, Option, Some, None, eqb, ltb, refl, sym, ap, ◌∙◌, append_assoc, arith, inl, inr}
use Rattle.std.specs.List.{AllByRecursion, flat_map, position_or_len, position}
use Rattle.std.proofs.Math.Seq.{take-add}
use Rattle.std.proofs.lemmas.Bool.{eqb-true, ltb-true, ltb-false}
use Rattle.std.proofs.lemmas.List.{take-append-drop, take_rest, drop-drop}
use Rattle.std.proofs.lemmas.List.Folds.{list_any-append}
use Rattle.pac_value.specs.Ascii.{line_feed}
use Rattle.pac_lines.specs.Lines.{AreLines, HandsOut, HasNoFeed, IsEndedLine, IsLastLine, Lines, all_lines, with_feed, has_feed, last_line, lines_of, with_first_byte}

-- ---- where a line feed stands

pub no_feed-append : (xs ys : List ℕ) → HasNoFeed xs → HasNoFeed ys → HasNoFeed (xs ++ ys)
no_feed-append xs ys p q = list_any-append (λ b. eqb b 10) xs ys ∙ by _ _ p q
  where
    by : (a b : Bool) → a ≡ false → b ≡ false → (a || b) ≡ false
    by a b p q = rw (p, q) refl

no_feed-cons : (b : ℕ) (bs : List ℕ) → eqb b 10 ≡ false → HasNoFeed bs → HasNoFeed (b ∷ bs)
no_feed-cons b bs p q = rw (p, q) refl

abbrev end : List ℕ → ℕ
end text = position_or_len (λ b. eqb b 10) text

none_before-end : (text : List ℕ) → length text ≤ end text → HasNoFeed text
none_before-end [] h = refl
none_before-end (b ∷ bs) h = by (eqb b 10) (none_before-end bs) h
  where
    by : (e : Bool) → (length bs ≤ end bs → HasNoFeed bs) → suc (length bs) ≤ cond (not e) (1 + end bs) 0 → (e || has_feed bs) ≡ false
    by true more h = absurd (omega arith)
    by false more h = more (omega arith)

first_at-end : (text : List ℕ) → end text < length text → IsEndedLine text (take (end text) text) (drop (end text + 1) text)
first_at-end [] h = absurd (omega arith)
first_at-end (b ∷ bs) h = by (eqb b 10) refl (first_at-end bs) h
  where
    by : (e : Bool) → eqb b 10 ≡ e → (end bs < length bs → IsEndedLine bs (take (end bs) bs) (drop (end bs + 1) bs)) → cond (not e) (1 + end bs) 0 < suc (length bs)
        → IsEndedLine (b ∷ bs) (take (cond (not e) (1 + end bs) 0) (b ∷ bs)) (drop (cond (not e) (1 + end bs) 0 + 1) (b ∷ bs))
    by true is more h = let same : b ≡ 10 = eqb-true b 10 is in record { none = refl; split = rw same refl }
    by false is more h =
        let inner = more (omega arith) in
        let one : 1 + end bs ≡ suc (end bs) = omega arith in
        let two : 1 + end bs + 1 ≡ suc (end bs + 1) = omega arith in
        rw (two, one) (record { none = no_feed-cons b (take (end bs) bs) is inner.none; split = ap (λ l. b ∷ l) inner.split })

abbrev no_place : Option ℕ
no_place = None

offset_is : (a b : ℕ) → ◌≡◌ {A = Option ℕ} (Some a) (Some b) → a ≡ b
offset_is a b e = cc

none_in : (text : List ℕ) → None ≡ position (λ b. eqb b 10) text → HasNoFeed text
none_in text e = by (ltb (end text) (length text)) refl e
  where
    by : (t : Bool) → ltb (end text) (length text) ≡ t → no_place ≡ cond t (Some (end text)) None → HasNoFeed text
    by true is e = absurd cc
    by false is e = none_before-end text (ltb-false _ _ is)

first_in : (text : List ℕ) (at : ℕ) → Some at ≡ position (λ b. eqb b 10) text → IsEndedLine text (take at text) (drop (at + 1) text)
first_in text at e = by (ltb (end text) (length text)) refl e
  where
    by : (t : Bool) → ltb (end text) (length text) ≡ t → ◌≡◌ {A = Option ℕ} (Some at) (cond t (Some (end text)) None) → IsEndedLine text (take at text) (drop (at + 1) text)
    by false is e = absurd cc
    by true is e = let same : at ≡ end text = offset_is at (end text) e in rw same (first_at-end text (ltb-true _ _ is))

-- no line feed stands in the bytes that were searched before, and none after them
pub none_in_all : (text : List ℕ) (searched : ℕ) → HasNoFeed (take searched text) → None ≡ position (λ b. eqb b 10) (drop searched text) → HasNoFeed text
none_in_all text searched prefix e = rw (sym (take-append-drop searched text)) (no_feed-append (take searched text) (drop searched text) prefix (none_in (drop searched text) e))

longer : (prefix text line left : List ℕ) → HasNoFeed prefix → IsEndedLine text line left → IsEndedLine (prefix ++ text) (prefix ++ line) left
longer prefix text line left none first = record {
  none = no_feed-append prefix line none first.none;
  split = ap (λ l. prefix ++ l) first.split ∙ sym (append_assoc prefix line _);
}

-- after the bytes that were searched before stands the first line feed
pub first_in_all : (text : List ℕ) (searched at : ℕ) → HasNoFeed (take searched text) → Some at ≡ position (λ b. eqb b 10) (drop searched text)
    → IsEndedLine text (take (searched + at) text) (drop (searched + at + 1) text)
first_in_all text searched at none e =
    let first = longer (take searched text) (drop searched text) _ _ none (first_in (drop searched text) at e) in
    let same : searched + at + 1 ≡ searched + (at + 1) = omega arith in record {
      none = rw (take-add searched at text) first.none;
      split = rw (take-add searched at text, same, sym (drop-drop (at + 1) searched text)) (sym (take-append-drop searched text) ∙ first.split);
    }

-- the same of a copy of a buffer, from the bytes on that were searched before
found_in : (items copy : List ℕ) (next searched : ℕ) (found : Option ℕ) → copy ≡ items
    → found ≡ position (λ b. eqb b 10) (take (length copy - (next + searched)) (drop (next + searched) copy)) → found ≡ position (λ b. eqb b 10) (drop searched (drop next items))
found_in items copy next searched found same offset =
    let of_items : found ≡ position (λ b. eqb b 10) (take (length items - (next + searched)) (drop (next + searched) items)) = rw same at offset in
    let rest : found ≡ position (λ b. eqb b 10) (drop (next + searched) items) = simp take_rest at of_items in
    rw (drop-drop searched next items) rest

pub none_found : (items copy : List ℕ) (next searched : ℕ) (found : Option ℕ) → copy ≡ items
    → found ≡ position (λ b. eqb b 10) (take (length copy - (next + searched)) (drop (next + searched) copy)) → found ≡ None
    → HasNoFeed (take searched (drop next items)) → HasNoFeed (drop next items)
none_found items copy next searched found same offset is prefix = none_in_all (drop next items) searched prefix (sym is ∙ found_in items copy next searched found same offset)

pub one_found : (items copy : List ℕ) (next searched at : ℕ) (found : Option ℕ) → copy ≡ items
    → found ≡ position (λ b. eqb b 10) (take (length copy - (next + searched)) (drop (next + searched) copy)) → found ≡ Some at
    → HasNoFeed (take searched (drop next items)) → IsEndedLine (drop next items) (take (searched + at) (drop next items)) (drop (next + searched + at + 1) items)
one_found items copy next searched at found same offset is prefix =
    let sum : next + (searched + at + 1) ≡ next + searched + at + 1 = omega arith in
    let following : drop (searched + at + 1) (drop next items) ≡ drop (next + searched + at + 1) items = drop-drop (searched + at + 1) next items ∙ ap (λ n. drop n items) sum in
    rw (sym following) (first_in_all (drop next items) searched at prefix (sym is ∙ found_in items copy next searched found same offset))

-- ---- what the lines are

pub lines-ended : (line left : List ℕ) → HasNoFeed line → lines_of (line ++ line_feed ∷ left) ≡ record { whole = line ∷ (lines_of left).whole; rest = (lines_of left).rest }
lines-ended [] left none = refl
lines-ended (b ∷ bs) left none = by (eqb b 10) none (lines-ended bs left)
  where
    by : (e : Bool) → (e || has_feed bs) ≡ false → (HasNoFeed bs → lines_of (bs ++ line_feed ∷ left) ≡ record { whole = bs ∷ (lines_of left).whole; rest = (lines_of left).rest })
        → cond e (record { whole = [] ∷ (lines_of (bs ++ line_feed ∷ left)).whole; rest = (lines_of (bs ++ line_feed ∷ left)).rest }) (with_first_byte b (lines_of (bs ++ line_feed ∷ left)).whole (lines_of (bs ++ line_feed ∷ left)).rest)
        ≡ record { whole = (b ∷ bs) ∷ (lines_of left).whole; rest = (lines_of left).rest }
    by true none more = absurd cc
    by false none more = ap (λ (l : Lines). with_first_byte b l.whole l.rest) (more none)

pub lines-rest : (rest : List ℕ) → HasNoFeed rest → lines_of rest ≡ record { whole = []; rest = rest }
lines-rest [] none = refl
lines-rest (b ∷ bs) none = by (eqb b 10) none (lines-rest bs)
  where
    by : (e : Bool) → (e || has_feed bs) ≡ false → (HasNoFeed bs → lines_of bs ≡ record { whole = []; rest = bs })
        → cond e (record { whole = [] ∷ (lines_of bs).whole; rest = (lines_of bs).rest }) (with_first_byte b (lines_of bs).whole (lines_of bs).rest) ≡ record { whole = []; rest = b ∷ bs }
    by true none more = absurd cc
    by false none more = ap (λ (l : Lines). with_first_byte b l.whole l.rest) (more none)

more_lines : (b : ℕ) (bs : List ℕ) (whole : List (List ℕ)) (rest : List ℕ) → eqb b 10 ≡ false → AreLines bs (record { whole = whole; rest = rest }) → AreLines (b ∷ bs) (with_first_byte b whole rest)
more_lines b bs [] rest is lines = record { split = ap (λ l. b ∷ l) lines.split; whole = lines.whole; rest = no_feed-cons b rest is lines.rest }
more_lines b bs (line ∷ others) rest is lines = record {
  split = ap (λ l. b ∷ l) lines.split;
  whole = (no_feed-cons b line is lines.whole.0, lines.whole.1);
  rest = lines.rest;
}

pub lines_are : (text : List ℕ) → AreLines text (lines_of text)
lines_are [] = record { split = refl; whole = tt; rest = refl }
lines_are (b ∷ bs) = by (eqb b 10) refl (lines_are bs)
  where
    by : (e : Bool) → eqb b 10 ≡ e → AreLines bs (lines_of bs)
        → AreLines (b ∷ bs) (cond e (record { whole = [] ∷ (lines_of bs).whole; rest = (lines_of bs).rest }) (with_first_byte b (lines_of bs).whole (lines_of bs).rest))
    by true is lines = let same : b ≡ 10 = eqb-true b 10 is in rw same (record { split = ap (λ l. 10 ∷ l) lines.split; whole = (refl, lines.whole); rest = lines.rest })
    by false is lines = more_lines b bs _ _ is lines

joined-lines : (whole : List (List ℕ)) (rest : List ℕ) → AllByRecursion HasNoFeed whole → HasNoFeed rest → lines_of (flat_map with_feed whole ++ rest) ≡ record { whole = whole; rest = rest }
joined-lines [] rest none end = lines-rest rest end
joined-lines (line ∷ others) rest none end =
    let more = joined-lines others rest none.1 end in
    let parts : flat_map with_feed (line ∷ others) ++ rest ≡ line ++ line_feed ∷ (flat_map with_feed others ++ rest) = append_assoc (with_feed line) (flat_map with_feed others) rest ∙ append_assoc line (line_feed ∷ []) _ in
    rw parts (lines-ended line _ none.0 ∙ ap (λ (l : Lines). record { whole = line ∷ l.whole; rest = l.rest }) more)

pub only_lines : (text : List ℕ) (lines : Lines) → AreLines text lines → lines ≡ lines_of text
only_lines text lines are = sym (ap lines_of are.split ∙ joined-lines lines.whole lines.rest are.whole are.rest)

-- ---- lines that are handed out

last-line : (line : List ℕ) → line ≢ [] → last_line line ≡ line ∷ []
last-line [] some = absurd (some refl)
last-line (b ∷ bs) some = refl

pub all_lines-first : (text line left : List ℕ) → IsEndedLine text line left ⊎ IsLastLine text line left → all_lines (lines_of text) ≡ line ∷ all_lines (lines_of left)
all_lines-first text line left (inl first) = ap (λ l. all_lines (lines_of l)) first.split ∙ ap all_lines (lines-ended line left first.none)
all_lines-first text line left (inr last) =
    ap (λ l. all_lines (lines_of l)) last.all ∙ ap all_lines (lines-rest line last.none) ∙ last-line line last.some ∙ ap (λ l. line ∷ all_lines (lines_of l)) (sym last.end)

pub all_lines-first_ones : (before after : List ℕ) (lines : List (List ℕ)) → HandsOut before lines after → all_lines (lines_of before) ≡ lines ++ all_lines (lines_of after)
all_lines-first_ones before after [] out = ap (λ l. all_lines (lines_of l)) out
all_lines-first_ones before after (line ∷ lines) out =
    all_lines-first before line out.0 out.1 ∙ ap (λ l. line ∷ l) (all_lines-first_ones out.0 after lines out.2)
