-- A word's, an int's or a text's spelling before what does not go on with it is the next token; blanks at the start are
-- passed over.
use Rattle.std.proofs.Common.{◌≡◌, ◌≤◌, ◌<◌, ◌+◌, ◌^◌, ℕ, suc, pos, neg_ℤ, Bool, true, false, List, [], ◌∷◌, ◌++◌, length, take, drop, decimal, Option, Some, None, Result, Ok, cond, refl, sym, ap, subst, ◌∙◌, arith, nat_eq, append_assoc, length-append, add-zero}
use Rattle.std.specs.Cmp.{first_so, second_so}
use Rattle.std.specs.List.{take_while, list_all}
use Rattle.std.proofs.lemmas.Bool.{cond-true, cond-false, le-ltb, lt-ltb, le-leb}
use Rattle.std.proofs.lemmas.List.Sums.{take_while-cons}
use Rattle.std.proofs.Math.Seq.{drop-append_seam}
use Rattle.pac_value.specs.Texts.{is_printable}
use Rattle.pac_tokens.specs.declared.token.Keyword.{Keyword}
use Rattle.pac_tokens.specs.declared.token.Token.{Token}
use Rattle.pac_tokens.specs.declared.token.Token.TheVariants as token
use Rattle.pac_tokens.specs.declared.token.Spanned.{Spanned}
use Rattle.pac_tokens.specs.declared.lexer.Before.{Before}
use Rattle.pac_tokens.specs.declared.lexer.Before.TheVariants.{Value, Other, LiteralMinus}
use Rattle.pac_tokens.specs.declared.fault.FaultKind.{FaultKind}
use Rattle.pac_tokens.specs.declared.fault.Fault.{Fault}
use Rattle.pac_tokens.specs.Spelling.{keyword_spelling}
use Rattle.pac_value.specs.Literals.{escaped, quoted}
use Rattle.pac_tokens.specs.Tokens.{is_blank, is_letter, is_digit, is_name, digits_value, next_digits, keyword_of, IsWord, IsDigits, gap, IsNext, EndsAt, after, Lexed}
use Rattle.pac_tokens.specs.Lexing.{token_at, word_at, word_token, int_at, text_at, closed_text, closing_in, unescaped, symbol_at, first_symbol}
use Rattle.pac_print.proofs.Decimals.{decimal_is_digits, decimal_has_value}
use Rattle.pac_tokens.proofs.Longest.{prefix_ok}
use Rattle.pac_tokens.proofs.Quoted.{closes, text_of_prefix}
use Rattle.pac_tokens.proofs.Spelled.{first, class, class_by, spells_class, keyword_found, keyword_short, keyword_names, word_names, all_digits}

-- a token at an offset
abbrev pub spanned : Token → ℕ → Spanned
spanned t at = record { token = t; at = at }

-- the first of these bytes, if there is one, does not pass the test
abbrev pub Stops : (ℕ → Bool) → List ℕ → Type 0
Stops p [] = Unit {0}
Stops p (b ∷ bs) = p b ≡ false

-- ---- blanks

-- from bytes whose gap is one byte more, the same tokens come, one byte before
pub blank_first : (before : Before) (at b : ℕ) (rest : List ℕ) (ts : List Spanned) (f : Option Fault) → gap (b ∷ rest) ≡ suc (gap rest) → Lexed before (at + 1) rest ts f → Lexed before at (b ∷ rest) ts f
blank_first before at b rest [] f e h =
    let offset : at + 1 + gap rest ≡ at + suc (gap rest) = omega arith in
    rw e (subst (λ (n : ℕ). EndsAt before n (drop (gap rest) rest) f) offset h)
blank_first before at b rest (t ∷ ts) f e h =
    let offset : at + 1 + gap rest ≡ at + suc (gap rest) = omega arith in
    rw e (h.0, h.1, h.2 ∙ offset, subst (λ (n : ℕ). Lexed (after before t.token) (n + h.0) (drop h.0 (drop (gap rest) rest)) ts f) offset h.3)

-- spaces alone
abbrev pub AreSpaces : List ℕ → Type 0
AreSpaces [] = Unit {0}
AreSpaces (b ∷ bs) = (b ≡ 32) × AreSpaces bs

space_gap : (b : ℕ) (rest : List ℕ) → b ≡ 32 → gap (b ∷ rest) ≡ suc (gap rest)
space_gap b rest e = rw e refl

pub spaces_first : (before : Before) (at : ℕ) (w rest : List ℕ) (ts : List Spanned) (f : Option Fault) → AreSpaces w → Lexed before (at + length w) rest ts f → Lexed before at (w ++ rest) ts f
spaces_first before at [] rest ts f all h = subst (λ (n : ℕ). Lexed before n rest ts f) (add-zero at) h
spaces_first before at (b ∷ w) rest ts f all h =
    let offset : at + length (b ∷ w) ≡ at + 1 + length w = omega arith in
    blank_first before at b (w ++ rest) ts f (space_gap b (w ++ rest) all.0) (spaces_first before (at + 1) w rest ts f all.1 (subst (λ (n : ℕ). Lexed before n rest ts f) offset h))

pub space_first : (before : Before) (at : ℕ) (rest : List ℕ) (ts : List Spanned) (f : Option Fault) → Lexed before (at + 1) rest ts f → Lexed before at (32 ∷ rest) ts f
space_first before at rest ts f h = blank_first before at 32 rest ts f refl h

pub line_first : (before : Before) (at : ℕ) (rest : List ℕ) (ts : List Spanned) (f : Option Fault) → Lexed before (at + 1) rest ts f → Lexed before at (10 ∷ rest) ts f
line_first before at rest ts f h = blank_first before at 10 rest ts f refl h

-- ---- a token

-- what is a token at the start, where no blank stands before it
abbrev FirstToken : Before → ℕ → Token → List ℕ → List Spanned → Option Fault → ℕ → Type 0
FirstToken before at t bytes ts f g = (n : ℕ) × IsNext before (drop g bytes) t n × (at ≡ at + g) × Lexed (after before t) (at + g + n) (drop n (drop g bytes)) ts f

next_first : (before : Before) (at : ℕ) (t : Token) (len : ℕ) (bytes : List ℕ) (ts : List Spanned) (f : Option Fault) → gap bytes ≡ 0 → IsNext before bytes t len → Lexed (after before t) (at + len) (drop len bytes) ts f → Lexed before at bytes (spanned t at ∷ ts) f
next_first before at t len bytes ts f g n h =
    let here : at ≡ at + 0 = omega arith in
    let first : FirstToken before at t bytes ts f 0 = (len, n, here, subst (λ (m : ℕ). Lexed (after before t) (m + len) (drop len bytes) ts f) here h) in
    subst (λ (m : ℕ). FirstToken before at t bytes ts f m) (sym g) first

abbrev pub found : Token → ℕ → Result (Token × ℕ) FaultKind
found t len = Ok (t, len)

-- a token that is found before the bytes that follow it
pub token_first : (before : Before) (at : ℕ) (t : Token) (w rest : List ℕ) (ts : List Spanned) (f : Option Fault) → gap (w ++ rest) ≡ 0 → 1 ≤ length (w ++ rest) → token_at before (w ++ rest) ≡ found t (length w)
    → Lexed (after before t) (at + length w) rest ts f → Lexed before at (w ++ rest) (spanned t at ∷ ts) f
token_first before at t w rest ts f g some is h =
    let next : IsNext before (w ++ rest) t (length w) = prefix_ok before (w ++ rest) (found t (length w)) some (sym is) in
    next_first before at t (length w) (w ++ rest) ts f g next (subst (λ (xs : List ℕ). Lexed (after before t) (at + length w) xs ts f) (sym (drop-append_seam w rest)) h)

-- what passes a test up to where it stops
take_stops : (p : ℕ → Bool) (w rest : List ℕ) → list_all p w ≡ true → Stops p rest → take_while p (w ++ rest) ≡ w
take_stops p [] [] all stops = refl
take_stops p [] (b ∷ rest) all stops = take_while-cons p b rest ∙ cond-false (p b) (b ∷ take_while p rest) [] stops
take_stops p (b ∷ w) rest all stops =
    take_while-cons p b (w ++ rest) ∙ cond-true (p b) (b ∷ take_while p (w ++ rest)) [] (first_so (p b) (list_all p w) all)
    ∙ ap (λ x. b ∷ x) (take_stops p w rest (second_so (p b) (list_all p w) all) stops)

-- ---- words

letter_gap : (b : ℕ) (rest : List ℕ) → is_letter b ≡ true → gap (b ∷ rest) ≡ 0
letter_gap b rest h = let blank : is_blank b ≡ false = grind arith in let mark : nat_eq b 35 ≡ false = grind arith in rw (mark, blank) refl

word_found : (w : List ℕ) (t : Token) → length w ≤ 32 → word_token (keyword_of w) w ≡ t → word_at w ≡ found t (length w)
word_found w t short is = rw (le-ltb 32 (length w) short) (ap (λ x. found x (length w)) is)

word_prefix : (before : Before) (b : ℕ) (w rest : List ℕ) (t : Token) → is_letter b ≡ true → list_all is_name (b ∷ w) ≡ true → length (b ∷ w) ≤ 32 → word_token (keyword_of (b ∷ w)) (b ∷ w) ≡ t → Stops is_name rest → token_at before (b ∷ (w ++ rest)) ≡ found t (length (b ∷ w))
word_prefix before b w rest t letter all short is stops = by_letter (is_letter b) letter
  where
    by_letter : (c : Bool) → c ≡ true → cond c (word_at (take_while is_name (b ∷ (w ++ rest)))) (cond (is_digit b) (int_at before (take_while is_digit (b ∷ (w ++ rest)))) (cond (nat_eq b 34) (text_at (w ++ rest)) (symbol_at before (first_symbol (b ∷ (w ++ rest))) (w ++ rest)))) ≡ found t (length (b ∷ w))
    by_letter true e = ap word_at (take_stops is_name (b ∷ w) rest all stops) ∙ word_found (b ∷ w) t short is
    by_letter false e = absurd cc

word_first : (before : Before) (at : ℕ) (t : Token) (w rest : List ℕ) (ts : List Spanned) (f : Option Fault) → IsWord w → length w ≤ 32 → word_token (keyword_of w) w ≡ t → Stops is_name rest
    → Lexed (after before t) (at + length w) rest ts f → Lexed before at (w ++ rest) (spanned t at ∷ ts) f
word_first before at t [] rest ts f word short is stops h = absurd word
word_first before at t (b ∷ w) rest ts f word short is stops h =
    let all : list_all is_name (b ∷ w) ≡ true = word_names (b ∷ w) word in
    token_first before at t (b ∷ w) rest ts f (letter_gap b (w ++ rest) word.0) (omega arith) (word_prefix before b w rest t word.0 all short is stops) h

-- bytes of names of which the first is a letter
letters : (w : List ℕ) → class (first w) ≡ 0 → list_all is_name w ≡ true → IsWord w
unfolding first
letters [] c all = absurd cc
letters (b ∷ w) c all = (by_letter (is_letter b) (is_digit b) (nat_eq b 34) c, second_so (is_name b) (list_all is_name w) all)
  where
    by_letter : (l d q : Bool) → class_by l d q ≡ 0 → l ≡ true
    by_letter true d q e = refl
    by_letter false true q e = absurd cc
    by_letter false false true e = absurd cc
    by_letter false false false e = absurd cc

-- a keyword
pub keyword_first : (before : Before) (at : ℕ) (k : Keyword) (rest : List ℕ) (ts : List Spanned) (f : Option Fault) → Stops is_name rest
    → Lexed (after before (token.Keyword k)) (at + length (keyword_spelling k)) rest ts f → Lexed before at (keyword_spelling k ++ rest) (spanned (token.Keyword k) at ∷ ts) f
keyword_first before at k rest ts f stops h =
    let word : IsWord (keyword_spelling k) = letters (keyword_spelling k) (spells_class before (token.Keyword k) (keyword_spelling k) refl) (keyword_names k) in
    word_first before at (token.Keyword k) (keyword_spelling k) rest ts f word (keyword_short k) (ap (λ o. word_token o (keyword_spelling k)) (keyword_found k)) stops h

-- a name
pub name_first : (before : Before) (at : ℕ) (n rest : List ℕ) (ts : List Spanned) (f : Option Fault) → IsWord n → keyword_of n ≡ None → length n ≤ 32 → Stops is_name rest
    → Lexed Value (at + length n) rest ts f → Lexed before at (n ++ rest) (spanned (token.Name n) at ∷ ts) f
name_first before at n rest ts f word none short stops h = word_first before at (token.Name n) n rest ts f word short (ap (λ o. word_token o n) none) stops h

-- ---- ints

digit_gap : (b : ℕ) (rest : List ℕ) → is_digit b ≡ true → gap (b ∷ rest) ≡ 0
digit_gap b rest h = let blank : is_blank b ≡ false = grind arith in let mark : nat_eq b 35 ≡ false = grind arith in rw (mark, blank) refl

digits_prefix : (before : Before) (b : ℕ) (ds rest : List ℕ) → is_digit b ≡ true → list_all is_digit (b ∷ ds) ≡ true → Stops is_digit rest → token_at before (b ∷ (ds ++ rest)) ≡ int_at before (b ∷ ds)
digits_prefix before b ds rest digit all stops = by_class (is_letter b) (is_digit b) not_letter digit
  where
    not_letter : is_letter b ≡ false
    not_letter = grind arith

    by_class : (l d : Bool) → l ≡ false → d ≡ true → cond l (word_at (take_while is_name (b ∷ (ds ++ rest)))) (cond d (int_at before (take_while is_digit (b ∷ (ds ++ rest)))) (cond (nat_eq b 34) (text_at (ds ++ rest)) (symbol_at before (first_symbol (b ∷ (ds ++ rest))) (ds ++ rest)))) ≡ int_at before (b ∷ ds)
    by_class true d is_l is_d = absurd cc
    by_class false true is_l is_d = ap (int_at before) (take_stops is_digit (b ∷ ds) rest all stops)
    by_class false false is_l is_d = absurd cc

digits_first : (before : Before) (at : ℕ) (t : Token) (ds rest : List ℕ) (ts : List Spanned) (f : Option Fault) → IsDigits ds → int_at before ds ≡ found t (length ds) → Stops is_digit rest
    → Lexed (after before t) (at + length ds) rest ts f → Lexed before at (ds ++ rest) (spanned t at ∷ ts) f
digits_first before at t [] rest ts f digits is stops h = absurd digits
digits_first before at t (b ∷ ds) rest ts f digits is stops h =
    let all : list_all is_digit (b ∷ ds) ≡ true = all_digits (b ∷ ds) digits in
    token_first before at t (b ∷ ds) rest ts f (digit_gap b (ds ++ rest) digits.0) (omega arith) (digits_prefix before b ds rest digits.0 all stops ∙ is) h

pub name_stops : (rest : List ℕ) → Stops is_name rest → Stops is_digit rest
name_stops [] h = tt
name_stops (b ∷ rest) h = grind arith

-- an int that no `-` of a literal stands before
pub int_first : (at : ℕ) (n : ℕ) (rest : List ℕ) (ts : List Spanned) (f : Option Fault) → n < 2 ^ 63 → Stops is_name rest
    → Lexed Value (at + length (decimal n)) rest ts f → Lexed Other at (decimal n ++ rest) (spanned (token.Int (pos n)) at ∷ ts) f
int_first at n rest ts f small stops h =
    let value : digits_value (decimal n) ≡ n = decimal_has_value n (omega arith) in
    let is : int_at Other (decimal n) ≡ found (token.Int (pos n)) (length (decimal n)) = rw (value, lt-ltb n (2 ^ 63) small) refl in
    digits_first Other at (token.Int (pos n)) (decimal n) rest ts f (decimal_is_digits n (omega arith)) is (name_stops rest stops) h

-- the digits of a literal below zero
pub negative_first : (at : ℕ) (n : ℕ) (rest : List ℕ) (ts : List Spanned) (f : Option Fault) → n ≤ 2 ^ 63 → Stops is_name rest
    → Lexed Value (at + length (decimal n)) rest ts f → Lexed LiteralMinus at (decimal n ++ rest) (spanned (token.Negative (neg_ℤ (pos n))) at ∷ ts) f
negative_first at n rest ts f small stops h =
    let value : digits_value (decimal n) ≡ n = decimal_has_value n (omega arith) in
    let is : int_at LiteralMinus (decimal n) ≡ found (token.Negative (neg_ℤ (pos n))) (length (decimal n)) = rw (value, le-leb n (2 ^ 63) small) refl in
    digits_first LiteralMinus at (token.Negative (neg_ℤ (pos n))) (decimal n) rest ts f (decimal_is_digits n (omega arith)) is (name_stops rest stops) h

-- the digits that come next, where the first does
pub digits_next : (ds rest : List ℕ) → IsDigits ds → Stops is_digit rest → next_digits (ds ++ rest) ≡ ds
digits_next [] rest digits stops = absurd digits
digits_next (b ∷ ds) rest digits stops =
    let all : list_all is_digit (b ∷ ds) ≡ true = all_digits (b ∷ ds) digits in
    ap (λ g. take_while is_digit (drop g (b ∷ (ds ++ rest)))) (digit_gap b (ds ++ rest) digits.0) ∙ take_stops is_digit (b ∷ ds) rest all stops

-- ---- texts

text_found : (x : List ℕ) (n len : ℕ) (following : List ℕ) → length x ≤ 64 → unescaped false (take n following) ≡ x → n + 2 ≡ len → closed_text (Some n) following ≡ found (token.Text x) len
text_found x n len following short text offset = rw (text, le-ltb 64 (length x) short, offset) refl

-- a text between its quotes
pub text_first : (before : Before) (at : ℕ) (x rest : List ℕ) (ts : List Spanned) (f : Option Fault) → list_all is_printable x ≡ true → length x ≤ 64
    → Lexed Value (at + length (quoted x)) rest ts f → Lexed before at (quoted x ++ rest) (spanned (token.Text x) at ∷ ts) f
text_first before at x rest ts f print short h =
    let following : List ℕ = (escaped x ++ (34 ∷ [])) ++ rest in
    let parts : following ≡ escaped x ++ (34 ∷ rest) = append_assoc (escaped x) (34 ∷ []) rest in
    let closing : closing_in false following ≡ Some (length (escaped x)) = ap (closing_in false) parts ∙ closes x rest print in
    let text : unescaped false (take (length (escaped x)) following) ≡ x = (text_of_prefix following x rest (length (escaped x)) print parts closing).1 in
    let len : length (escaped x) + 2 ≡ length (quoted x) = omega (arith, length-append (escaped x) (34 ∷ [])) in
    let is : text_at following ≡ found (token.Text x) (length (quoted x)) = ap (λ o. closed_text o following) closing ∙ text_found x (length (escaped x)) (length (quoted x)) following short text len in
    token_first before at (token.Text x) (quoted x) rest ts f refl (omega arith) is h
