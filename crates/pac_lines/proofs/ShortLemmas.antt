-- A reader that leaves bytes of long lines out does what one does that holds them all.
use Rattle.std.proofs.Common.{◌≡◌, ◌⊎◌, ◌+◌, ◌-◌, ◌<◌, ◌≤◌, ◌||◌, ℕ, zero, suc, Bool, true, false, eqb, ltb, List, [], ◌∷◌, ◌++◌, take, drop, length, min, Option, refl, sym, ap, subst, ◌∙◌, append_assoc, append-nil, length-append, length-take, length-drop, arith, inl, inr}
use Rattle.std.proofs.lemmas.Bool.{ltb-true, ltb-false}
use Rattle.std.proofs.Math.Nat.{min-eq_left, min-eq_right}
use Rattle.std.proofs.Math.Seq.{take-append-add}
use Rattle.std.proofs.lemmas.List.{drop-take, take-append-drop, take-append-le, take_all, take_at}
use Rattle.std.proofs.lemmas.List.Folds.{list_any-append}
use Rattle.pac_value.specs.Ascii.{line_feed}
use Rattle.pac_lines.specs.Lines.{has_feed, HasNoFeed, IsEndedLine}
use Rattle.pac_lines.specs.Reading.{HasNoLine, IsReadAfter}
use Rattle.pac_lines.specs.Short.{IsShort}
use Rattle.pac_lines.proofs.LineLemmas.{no_feed-append}

-- ---- what is held has a line feed where the text has one

feed-append : (xs ys : List ℕ) → has_feed (xs ++ ys) ≡ (has_feed xs || has_feed ys)
feed-append xs ys = list_any-append (λ b. eqb b 10) xs ys

no_feed-left : (xs ys : List ℕ) → HasNoFeed (xs ++ ys) → HasNoFeed xs
no_feed-left xs ys none = by (has_feed xs) (has_feed ys) (sym (feed-append xs ys) ∙ none)
  where
    by : (a b : Bool) → (a || b) ≡ false → a ≡ false
    by false b none = refl
    by true b none = absurd cc

no_feed-right : (xs ys : List ℕ) → HasNoFeed (xs ++ ys) → HasNoFeed ys
no_feed-right xs ys none = by (has_feed xs) (has_feed ys) (sym (feed-append xs ys) ∙ none)
  where
    by : (a b : Bool) → (a || b) ≡ false → b ≡ false
    by false b none = none
    by true b none = absurd cc

feed_behind : (xs ys : List ℕ) → HasNoFeed xs → has_feed (xs ++ ys) ≡ has_feed ys
feed_behind xs ys none = feed-append xs ys ∙ ap (λ (a : Bool). a || has_feed ys) none

pub same_feed : (most : ℕ) (text held : List ℕ) → IsShort most text held → has_feed text ≡ has_feed held
same_feed most text held short =
    ap has_feed (short.text_is ∙ sym (append_assoc short.head short.dropped short.more)) ∙ feed_behind (short.head ++ short.dropped) short.more short.none
    ∙ sym (ap has_feed short.held_is ∙ feed_behind short.head short.more (no_feed-left short.head short.dropped short.none))

-- ---- how it comes to be short

pub all_held : (most : ℕ) (text : List ℕ) → IsShort most text text
all_held most text = record { head = []; dropped = []; more = text; text_is = refl; held_is = refl; none = refl; long = inl refl }

pub more_held : (most : ℕ) (text held given : List ℕ) → IsShort most text held → IsShort most (text ++ given) (held ++ given)
more_held most text held given short = record {
  head = short.head;
  dropped = short.dropped;
  more = short.more ++ given;
  text_is = ap (λ (l : List ℕ). l ++ given) short.text_is ∙ append_assoc short.head (short.dropped ++ short.more) given ∙ ap (λ (l : List ℕ). short.head ++ l) (append_assoc short.dropped short.more given);
  held_is = ap (λ (l : List ℕ). l ++ given) short.held_is ∙ append_assoc short.head short.more given;
  none = short.none;
  long = short.long;
}

-- both have the same first bytes
pub same_front : (most : ℕ) (text held : List ℕ) → IsShort most text held → take (most + 1) text ≡ take (most + 1) held
same_front most text held short = by short.long
  where
    by : (short.dropped ≡ []) ⊎ (most < length short.head) → take (most + 1) text ≡ take (most + 1) held
    by (inl none) = ap (take (most + 1)) (short.text_is ∙ ap (λ (l : List ℕ). short.head ++ (l ++ short.more)) none ∙ sym short.held_is)
    by (inr long) =
        ap (take (most + 1)) short.text_is ∙ take-append-le (most + 1) short.head (short.dropped ++ short.more) (omega (arith, long))
        ∙ sym (ap (take (most + 1)) short.held_is ∙ take-append-le (most + 1) short.head short.more (omega (arith, long)))

empty_rest : (n : ℕ) (xs : List ℕ) → length xs ≤ n → drop n xs ≡ []
empty_rest zero [] few = refl
empty_rest zero (x ∷ xs) few = absurd (omega (arith, few))
empty_rest (suc n) [] few = refl
empty_rest (suc n) (x ∷ xs) few = empty_rest n xs (omega (arith, few))

pub front_held : (most : ℕ) (text held : List ℕ) → IsShort most text held → HasNoFeed held → IsShort most text (take (most + 1) held)
front_held most text held short none = record {
  head = take (most + 1) text;
  dropped = drop (most + 1) text;
  more = [];
  text_is = sym (take-append-drop (most + 1) text) ∙ ap (λ (l : List ℕ). take (most + 1) text ++ l) (sym (append-nil (drop (most + 1) text)));
  held_is = sym (same_front most text held short) ∙ sym (append-nil (take (most + 1) text));
  none = subst HasNoFeed (sym (take-append-drop (most + 1) text)) (same_feed most text held short ∙ none);
  long = by (ltb most (length text)) refl;
}
  where
    by : (over : Bool) → ltb most (length text) ≡ over → (drop (most + 1) text ≡ []) ⊎ (most < length (take (most + 1) text))
    by true is = inr (omega (arith, ltb-true _ _ is, length-take (most + 1) text))
    by false is = inl (empty_rest (most + 1) text (omega (arith, ltb-false _ _ is)))

-- ---- what is handed out

-- a text without line feeds stands before the first one
behind : (head more line rest : List ℕ) → HasNoFeed head → head ++ more ≡ line ++ line_feed ∷ rest → (m : List ℕ) × (line ≡ head ++ m) × (more ≡ m ++ line_feed ∷ rest)
behind [] more line rest none split = (line, refl, split)
behind (h ∷ hs) more [] rest none split = let same : h ≡ 10 = cc in absurd (by h same none)
  where
    by : (b : ℕ) → b ≡ 10 → (eqb b 10 || has_feed hs) ≡ false → ⊥
    by b is other = let yes : (eqb 10 10 || has_feed hs) ≡ false = subst (λ (n : ℕ). (eqb n 10 || has_feed hs) ≡ false) is other in absurd cc
behind (h ∷ hs) more (l ∷ ls) rest none split =
    let first : h ≡ l = cc in
    let others : hs ++ more ≡ ls ++ line_feed ∷ rest = cc in
    let inner = behind hs more ls rest (no_feed-right (h ∷ []) hs none) others in
    (inner.0, ap (λ (b : ℕ). b ∷ ls) (sym first) ∙ ap (λ (l : List ℕ). h ∷ l) inner.1, inner.2)

-- the whole line of one that is ended
pub record IsLineOf (most : ℕ) (text line rest : List ℕ) : Type 0 where
  pub whole : List ℕ
  pub ended : IsEndedLine text whole rest
  pub front : take (most + 1) line ≡ take (most + 1) whole

pub ended_line : (most : ℕ) (text held line rest : List ℕ) → IsShort most text held → IsEndedLine held line rest → IsLineOf most text line rest
ended_line most text held line rest short first =
    let found = behind short.head short.more line rest (no_feed-left short.head short.dropped short.none) (sym short.held_is ∙ first.split) in
    let m = found.0 in
    let whole = short.head ++ (short.dropped ++ m) in
    let none_in : HasNoFeed m = no_feed-right short.head m (subst HasNoFeed found.1 first.none) in
    let as_short : IsShort most whole line = record { head = short.head; dropped = short.dropped; more = m; text_is = refl; held_is = found.1; none = short.none; long = short.long } in record {
      whole = whole;
      ended = record {
        none = subst HasNoFeed (append_assoc short.head short.dropped m) (no_feed-append (short.head ++ short.dropped) m short.none none_in);
        split = short.text_is ∙ ap (λ (l : List ℕ). short.head ++ (short.dropped ++ l)) found.2 ∙ ap (λ (l : List ℕ). short.head ++ l) (sym (append_assoc short.dropped m (line_feed ∷ rest)))
            ∙ sym (append_assoc short.head (short.dropped ++ m) (line_feed ∷ rest));
      };
      front = sym (same_front most whole line as_short);
    }

positive : (n : ℕ) → 0 < n → ltb 0 n ≡ true
positive n some = by (ltb 0 n) refl
  where
    by : (over : Bool) → ltb 0 n ≡ over → ltb 0 n ≡ true
    by true is = is
    by false is = absurd (omega (arith, ltb-false _ _ is, some))

-- one is empty where the other is
pub same_some : (most : ℕ) (text held : List ℕ) → IsShort most text held → ltb 0 (length text) ≡ ltb 0 (length held)
same_some most text held short = by text held (same_front most text held short)
  where
    by : (a b : List ℕ) → take (most + 1) a ≡ take (most + 1) b → ltb 0 (length a) ≡ ltb 0 (length b)
    by [] [] e = refl
    by [] (b ∷ bs) e = let one : most + 1 ≡ suc most = omega arith in let f : take (suc most) [] ≡ take (suc most) (b ∷ bs) = subst (λ (n : ℕ). take n [] ≡ take n (b ∷ bs)) one e in absurd cc
    by (x ∷ xs) [] e = let one : most + 1 ≡ suc most = omega arith in let f : take (suc most) (x ∷ xs) ≡ take (suc most) [] = subst (λ (n : ℕ). take n (x ∷ xs) ≡ take n []) one e in absurd cc
    by (x ∷ xs) (y ∷ ys) e = positive (length (x ∷ xs)) (omega arith) ∙ sym (positive (length (y ∷ ys)) (omega arith))

-- ---- the first bytes of what is ahead

take_min : (n most : ℕ) (xs : List ℕ) → length xs ≡ n → take (min n most) xs ≡ take most xs
take_min n most xs long = by (ltb most n) refl
  where
    by : (over : Bool) → ltb most n ≡ over → take (min n most) xs ≡ take most xs
    by true is = ap (λ (k : ℕ). take k xs) (min-eq_right (omega (arith, ltb-true _ _ is)))
    by false is =
        let few : n ≤ most = ltb-false _ _ is in
        ap (λ (k : ℕ). take k xs) (min-eq_left few) ∙ take_all n xs (omega (arith, long)) ∙ sym (take_all most xs (omega (arith, few, long)))

pub kept_bytes : (items : List ℕ) (len next count most : ℕ) → len ≡ length items → next ≤ len → count ≡ min (len - next) most → drop next (take (next + count) items) ≡ take most (drop next items)
kept_bytes items len next count most long within is =
    drop-take next count items ∙ ap (λ (k : ℕ). take k (drop next items)) is ∙ take_min (len - next) most (drop next items) (omega (arith, length-drop next items, long, within))

pub no_feed-take : (n : ℕ) (xs : List ℕ) → HasNoFeed xs → HasNoFeed (take n xs)
no_feed-take n xs none = no_feed-left (take n xs) (drop n xs) (subst HasNoFeed (sym (take-append-drop n xs)) none)

pub kept_none : (items : List ℕ) (len next count most : ℕ) → len ≡ length items → next ≤ len → count ≡ min (len - next) most → HasNoFeed (drop next items) → HasNoFeed (take count (drop next (take (next + count) items)))
kept_none items len next count most long within is none =
    subst (λ (l : List ℕ). HasNoFeed (take count l)) (sym (kept_bytes items len next count most long within is)) (no_feed-take count (take most (drop next items)) (no_feed-take most (drop next items) none))

-- ---- a text that is too long

-- a byte more, after bytes without line feeds
pub one_byte_more : (old new : List ℕ) (left left' : Option (List ℕ)) (count : ℕ) → IsReadAfter old new left left' count → HasNoFeed old → count ≡ 1 → HasNoLine new
one_byte_more old new left left' count read none one = record {
  some = omega (arith, one, read.counted, ap (λ (l : List ℕ). length l) read.bytes, length-append old read.given);
  prefix = subst HasNoFeed (sym front) none;
}
  where
    most : length new - 1 ≡ length old
    most = omega (arith, one, read.counted, ap (λ (l : List ℕ). length l) read.bytes, length-append old read.given)

    front : take (length new - 1) new ≡ old
    front = ap (λ (k : ℕ). take k new) most ∙ ap (take (length old)) read.bytes ∙ take_at old read.given (length old) refl

pub no_line_whole : (most : ℕ) (text held : List ℕ) → IsShort most text held → HasNoLine held → HasNoLine text
no_line_whole most text held short line = by short.more short.text_is short.held_is
  where
    by : (more : List ℕ) → text ≡ short.head ++ (short.dropped ++ more) → held ≡ short.head ++ more → HasNoLine text
    by [] text_is held_is =
        let front = short.head ++ short.dropped in
        let all : text ≡ front = text_is ∙ ap (λ (l : List ℕ). short.head ++ l) (append-nil short.dropped) in record {
          some = omega (arith, line.some, ap (λ (l : List ℕ). length l) held_is, length-append short.head [], ap (λ (l : List ℕ). length l) all, length-append short.head short.dropped);
          prefix = no_feed-take (length text - 1) text (subst HasNoFeed (sym all) short.none);
        }
    by (m ∷ ms) text_is held_is =
        let front = short.head ++ short.dropped in
        let n = length ms in
        let all : text ≡ front ++ (m ∷ ms) = text_is ∙ sym (append_assoc short.head short.dropped (m ∷ ms)) in
        let held_most : length held - 1 ≡ length short.head + n = omega (arith, ap (λ (l : List ℕ). length l) held_is, length-append short.head (m ∷ ms)) in
        let text_most : length text - 1 ≡ length front + n = omega (arith, ap (λ (l : List ℕ). length l) all, length-append front (m ∷ ms)) in
        let held_front : take (length held - 1) held ≡ short.head ++ take n (m ∷ ms)
        = ap (λ (k : ℕ). take k held) held_most ∙ ap (take (length short.head + n)) held_is ∙ take-append-add short.head (m ∷ ms) n in
        let text_front : take (length text - 1) text ≡ front ++ take n (m ∷ ms)
        = ap (λ (k : ℕ). take k text) text_most ∙ ap (take (length front + n)) all ∙ take-append-add front (m ∷ ms) n in
        let last : HasNoFeed (take n (m ∷ ms)) = no_feed-right short.head (take n (m ∷ ms)) (subst HasNoFeed held_front line.prefix) in record {
          some = omega (arith, ap (λ (l : List ℕ). length l) all, length-append front (m ∷ ms));
          prefix = subst HasNoFeed (sym text_front) (no_feed-append front (take n (m ∷ ms)) short.none last);
        }
