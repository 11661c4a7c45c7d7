-- The token that is found by its first byte is the longest one at the start, or the fault is that of the bytes.
use Rattle.std.proofs.Common.{◌≡◌, ◌≤◌, ◌+◌, ◌^◌, ℕ, zero, suc, pos, neg_ℤ, Bool, true, false, List, [], ◌∷◌, ◌++◌, length, take, drop, Option, Some, None, Result, Ok, Err, cond, refl, sym, ap, subst, ◌∙◌, append_assoc, arith, nat_eq, nat_lt, nat_le, if◌then◌else◌, inl, inr}
use Rattle.std.specs.Prelude.{IfOk}
use Rattle.std.specs.Cmp.{first_so, second_so}
use Rattle.std.specs.List.{take_while, list_all}
use Rattle.std.proofs.lemmas.List.Sums.{take_while-cons}
use Rattle.std.proofs.lemmas.List.{length-append, length-take}
use Rattle.std.proofs.Math.Seq.{take-append_seam}
use Rattle.std.proofs.lemmas.Bool.{cases_lt, cond-true, cond-false, eqb-true, ltb-true}
use Rattle.pac_tokens.specs.declared.token.Keyword.{Keyword}
use Rattle.pac_tokens.specs.declared.token.Symbol.{Symbol}
use Rattle.pac_tokens.specs.declared.token.Symbol.TheVariants as symbol
use Rattle.pac_tokens.specs.declared.token.Token.{Token}
use Rattle.pac_tokens.specs.declared.token.Token.TheVariants as token
use Rattle.pac_tokens.specs.declared.lexer.Before.{Before}
use Rattle.pac_tokens.specs.declared.lexer.Before.TheVariants.{Value, Other, LiteralMinus}
use Rattle.pac_tokens.specs.declared.fault.FaultKind.{FaultKind}
use Rattle.pac_tokens.specs.declared.fault.FaultKind.TheVariants as kind
use Rattle.pac_tokens.specs.Spelling.{symbol_spelling}
use Rattle.pac_value.specs.Literals.{escaped, quoted}
use Rattle.pac_tokens.specs.Tokens.{is_letter, is_digit, is_name, digits_value, keyword_of, IsWord, IsDigits, is_literal_minus, Spells, IsLongest, is_long_minus, IsNext}
use Rattle.pac_tokens.specs.Lexing.{word_token, word_at, int_at, closing_in, unescaped, closed_text, text_at, symbol_of, or_first, first_symbol, symbol_at, token_at, IsFirstToken}
use Rattle.pac_tokens.proofs.Quoted.{Closed, closes, closed, text_of_prefix}
use Rattle.pac_tokens.proofs.Spelled.{keyword_is, symbol_is, symbol_found, keyword_short, symbol_some, symbol_short, first, class, class_by, token_class, spells_class, spells_some, spells_names, spells_digits, spells_quoted, spells_symbol, some_is}

-- ---- the bytes at the start that pass a test

-- what passes at the start, and what is after it
record Passing (p : ℕ → Bool) (s : List ℕ) : Type 0 where
  rest : List ℕ
  parts : s ≡ take_while p s ++ rest
  all : list_all p (take_while p s) ≡ true

passing : (p : ℕ → Bool) (s : List ℕ) → Passing p s
passing p [] = record { rest = []; parts = refl; all = refl }
passing p (b ∷ s) = by (p b) refl (passing p s)
  where
    by : (c : Bool) → p b ≡ c → Passing p s → Passing p (b ∷ s)
    by true e f =
        let is : take_while p (b ∷ s) ≡ b ∷ take_while p s = take_while-cons p b s ∙ cond-true (p b) (b ∷ take_while p s) [] e in
        record {
          rest = f.rest;
          parts = ap (λ x. b ∷ x) f.parts ∙ ap (λ x. x ++ f.rest) (sym is);
          all = ap (list_all p) is ∙ (rw (e, f.all) refl);
        }
    by false e f =
        let is : take_while p (b ∷ s) ≡ [] = take_while-cons p b s ∙ cond-false (p b) (b ∷ take_while p s) [] e in
        record { rest = b ∷ s; parts = ap (λ x. x ++ (b ∷ s)) (sym is); all = ap (list_all p) is }

heads : (a b : ℕ) (x y : List ℕ) → a ∷ x ≡ b ∷ y → a ≡ b
heads a b x y e = cc

tails : (a b : ℕ) (x y : List ℕ) → a ∷ x ≡ b ∷ y → x ≡ y
tails a b x y e = cc

most : (p : ℕ → Bool) (s v after : List ℕ) → s ≡ v ++ after → list_all p v ≡ true → length v ≤ length (take_while p s)
most p s [] after e all = omega arith
most p [] (b ∷ v) after e all = absurd cc
most p (a ∷ s) (b ∷ v) after e all =
    let passes : p a ≡ true = ap p (heads a b s (v ++ after) e) ∙ first_so (p b) (list_all p v) all in
    let is : take_while p (a ∷ s) ≡ a ∷ take_while p s = take_while-cons p a s ∙ cond-true (p a) (a ∷ take_while p s) [] passes in
    omega (arith, ap length is, most p s v after (tails a b s (v ++ after) e) (second_so (p b) (list_all p v) all))

-- ---- the class of what spells a prefix

prefix_class : (before : Before) (b : ℕ) (bs v after : List ℕ) (u : Token) → b ∷ bs ≡ v ++ after → Spells before u v → class b ≡ token_class u
unfolding first
prefix_class before b bs [] after u e h = absurd (omega (arith, spells_some before u [] h))
prefix_class before b bs (c ∷ v) after u e h = ap class (heads b c bs (v ++ after) e) ∙ spells_class before u (c ∷ v) h

-- ---- words

word_letters : (b : ℕ) (s : List ℕ) → is_letter b ≡ true → list_all is_name (take_while is_name (b ∷ s)) ≡ true → IsWord (take_while is_name (b ∷ s))
word_letters b s h all =
    let name : is_name b ≡ true = rw h refl in
    let is : take_while is_name (b ∷ s) ≡ b ∷ take_while is_name s = take_while-cons is_name b s ∙ cond-true (is_name b) (b ∷ take_while is_name s) [] name in
    subst (λ (x : List ℕ). IsWord x) (sym is) (h, second_so (is_name b) (list_all is_name (take_while is_name s)) (sym (ap (list_all is_name) is) ∙ all))

word_longest : (before : Before) (b : ℕ) (bs : List ℕ) → class b ≡ 0 → (t : Token) → Spells before t (take_while is_name (b ∷ bs)) → IsLongest before (b ∷ bs) t (take_while is_name (b ∷ bs)) (passing is_name (b ∷ bs)).rest
word_longest before b bs c t spells = record {
  parts = (passing is_name (b ∷ bs)).parts;
  spells = spells;
  longest = λ v after u e h. most is_name (b ∷ bs) v after e (spells_names before u v (sym (prefix_class before b bs v after u e h) ∙ c) h);
}

word_prefix : (before : Before) (b : ℕ) (bs : List ℕ) → class b ≡ 0 → is_letter b ≡ true → IsFirstToken before (b ∷ bs) (word_at (take_while is_name (b ∷ bs)))
word_prefix before b bs c h =
    by_word before (b ∷ bs) (take_while is_name (b ∷ bs)) (passing is_name (b ∷ bs)).rest (word_longest before b bs c) (word_letters b bs h (passing is_name (b ∷ bs)).all)
    (keyword_of (take_while is_name (b ∷ bs))) (nat_lt 32 (length (take_while is_name (b ∷ bs)))) refl refl
  where
    by_word : (before : Before) (bytes word rest : List ℕ) → ((t : Token) → Spells before t word → IsLongest before bytes t word rest) → IsWord word → (k : Option Keyword) (l : Bool) → keyword_of word ≡ k → nat_lt 32 (length word) ≡ l
        → IsFirstToken before bytes (if l then Err kind.TooLong else Ok (word_token k word, length word))
    by_word before bytes word rest longest letters (Some k) true is_k is_l = absurd (omega (arith, keyword_short k, ap length (keyword_is word k is_k), ltb-true 32 (length word) is_l))
    by_word before bytes word rest longest letters (Some k) false is_k is_l = record { prefix = word; rest = rest; longest = longest (token.Keyword k) (keyword_is word k is_k); short = refl; counted = refl }
    by_word before bytes word rest longest letters None true is_k is_l = record { token = token.Name word; prefix = word; rest = rest; longest = longest (token.Name word) (refl, letters, is_k); long = is_l }
    by_word before bytes word rest longest letters None false is_k is_l = record { prefix = word; rest = rest; longest = longest (token.Name word) (refl, letters, is_k); short = is_l; counted = refl }

-- ---- digits

number_digits : (b : ℕ) (s : List ℕ) → is_digit b ≡ true → list_all is_digit (take_while is_digit (b ∷ s)) ≡ true → IsDigits (take_while is_digit (b ∷ s))
number_digits b s h all =
    let is : take_while is_digit (b ∷ s) ≡ b ∷ take_while is_digit s = take_while-cons is_digit b s ∙ cond-true (is_digit b) (b ∷ take_while is_digit s) [] h in
    subst (λ (x : List ℕ). IsDigits x) (sym is) (h, second_so (is_digit b) (list_all is_digit (take_while is_digit s)) (sym (ap (list_all is_digit) is) ∙ all))

le_lt : (a b : ℕ) (t : Bool) → nat_le a b ≡ t → nat_lt b a ≡ cond t false true
le_lt a b true is = grind arith
le_lt a b false is = grind arith

lt_le : (a b : ℕ) (t : Bool) → nat_lt a b ≡ t → nat_le b a ≡ cond t false true
lt_le a b true is = grind arith
lt_le a b false is = grind arith

digits_longest : (before : Before) (b : ℕ) (bs : List ℕ) → class b ≡ 1 → is_digit b ≡ true → (t : Token) → Spells before t (take_while is_digit (b ∷ bs)) → IsLongest before (b ∷ bs) t (take_while is_digit (b ∷ bs)) (passing is_digit (b ∷ bs)).rest
digits_longest before b bs c h t spells = record {
  parts = (passing is_digit (b ∷ bs)).parts;
  spells = spells;
  longest = λ v after u e h. most is_digit (b ∷ bs) v after e (spells_digits before u v (sym (prefix_class before b bs v after u e h) ∙ c) h);
}

plain_prefix : (before : Before) (b : ℕ) (bs : List ℕ) → class b ≡ 1 → is_digit b ≡ true → is_literal_minus before ≡ false
    → IsFirstToken before (b ∷ bs) (if nat_lt (digits_value (take_while is_digit (b ∷ bs))) (2 ^ 63) then Ok (token.Int (pos (digits_value (take_while is_digit (b ∷ bs)))), length (take_while is_digit (b ∷ bs))) else Err kind.TooLong)
plain_prefix before b bs c h m =
    let word = take_while is_digit (b ∷ bs) in
    let n = digits_value word in
    by_size before (b ∷ bs) word (passing is_digit (b ∷ bs)).rest (digits_longest before b bs c h (token.Int (pos n)) (number_digits b bs h (passing is_digit (b ∷ bs)).all, refl, m)) (nat_lt n (2 ^ 63)) refl
  where
    by_size : (before : Before) (bytes word rest : List ℕ) → IsLongest before bytes (token.Int (pos (digits_value word))) word rest → (t : Bool) → nat_lt (digits_value word) (2 ^ 63) ≡ t
        → IsFirstToken before bytes (if t then Ok (token.Int (pos (digits_value word)), length word) else Err kind.TooLong)
    by_size before bytes word rest longest true is = record { prefix = word; rest = rest; longest = longest; short = lt_le (digits_value word) (2 ^ 63) true is; counted = refl }
    by_size before bytes word rest longest false is = record { token = token.Int (pos (digits_value word)); prefix = word; rest = rest; longest = longest; long = lt_le (digits_value word) (2 ^ 63) false is }

negative_prefix : (b : ℕ) (bs : List ℕ) → class b ≡ 1 → is_digit b ≡ true → IsFirstToken LiteralMinus (b ∷ bs) (int_at LiteralMinus (take_while is_digit (b ∷ bs)))
negative_prefix b bs c h =
    let word = take_while is_digit (b ∷ bs) in
    let n = digits_value word in
    by_size (b ∷ bs) word (passing is_digit (b ∷ bs)).rest (digits_longest LiteralMinus b bs c h (token.Negative (neg_ℤ (pos n))) (number_digits b bs h (passing is_digit (b ∷ bs)).all, refl, refl)) (nat_le n (2 ^ 63)) refl
  where
    by_size : (bytes word rest : List ℕ) → IsLongest LiteralMinus bytes (token.Negative (neg_ℤ (pos (digits_value word)))) word rest → (t : Bool) → nat_le (digits_value word) (2 ^ 63) ≡ t
        → IsFirstToken LiteralMinus bytes (if t then Ok (token.Negative (neg_ℤ (pos (digits_value word))), length word) else Err kind.TooLong)
    by_size bytes word rest longest true is = record { prefix = word; rest = rest; longest = longest; short = le_lt (digits_value word) (2 ^ 63) true is; counted = refl }
    by_size bytes word rest longest false is = record { token = token.Negative (neg_ℤ (pos (digits_value word))); prefix = word; rest = rest; longest = longest; long = le_lt (digits_value word) (2 ^ 63) false is }

int_prefix : (before : Before) (b : ℕ) (bs : List ℕ) → class b ≡ 1 → is_digit b ≡ true → IsFirstToken before (b ∷ bs) (int_at before (take_while is_digit (b ∷ bs)))
int_prefix LiteralMinus b bs c h = negative_prefix b bs c h
int_prefix Value b bs c h = plain_prefix Value b bs c h refl
int_prefix Other b bs c h = plain_prefix Other b bs c h refl

-- ---- texts

quoted_length : (x : List ℕ) → length (quoted x) ≡ length (escaped x) + 2
quoted_length x = omega (arith, length-append (escaped x) (34 ∷ []))

-- a prefix that is a text shows where the bytes close
closes_where : (bs v after : List ℕ) (x : List ℕ) → 34 ∷ bs ≡ v ++ after → v ≡ quoted x → bs ≡ escaped x ++ (34 ∷ after)
closes_where bs v after x e is = tails 34 34 bs ((escaped x ++ (34 ∷ [])) ++ after) (e ∙ ap (λ y. y ++ after) is) ∙ append_assoc (escaped x) (34 ∷ []) after

text_longest : (before : Before) (bs : List ℕ) (n : ℕ) → closing_in false bs ≡ Some n → (k : Closed bs n) → IsLongest before (34 ∷ bs) (token.Text (unescaped false (take n bs))) (quoted (unescaped false (take n bs))) k.rest
text_longest before bs n is k =
    let text = unescaped false (take n bs) in
    record {
      parts = ap (λ y. 34 ∷ y) (k.parts ∙ sym (append_assoc (escaped text) (34 ∷ []) k.rest));
      spells = (refl, k.printable);
      longest = λ v after u e h.
          let q = spells_quoted before u v (sym (prefix_class before 34 bs v after u e h)) h in
          let len = (text_of_prefix bs q.text after n q.printable (closes_where bs v after q.text e q.is) is).0 in
          omega (arith, len, k.counted, ap length q.is, quoted_length q.text, quoted_length text);
    }

text_prefix : (before : Before) (bs : List ℕ) → IsFirstToken before (34 ∷ bs) (text_at bs)
text_prefix before bs = by_close (closing_in false bs) refl
  where
    by_size : (n : ℕ) (text rest : List ℕ) → length (escaped text) ≡ n → IsLongest before (34 ∷ bs) (token.Text text) (quoted text) rest → (t : Bool) → nat_lt 64 (length text) ≡ t
        → IsFirstToken before (34 ∷ bs) (if t then Err kind.TooLong else Ok (token.Text text, n + 2))
    by_size n text rest len longest true size = record { token = token.Text text; prefix = quoted text; rest = rest; longest = longest; long = size }
    by_size n text rest len longest false size = record { prefix = quoted text; rest = rest; longest = longest; short = size; counted = omega (arith, len, quoted_length text) }

    by_close : (o : Option ℕ) → closing_in false bs ≡ o → IsFirstToken before (34 ∷ bs) (closed_text o bs)
    by_close None is = λ v after u e h.
        let q = spells_quoted before u v (sym (prefix_class before 34 bs v after u e h)) h in
        let conflict : ◌≡◌ {A = Option ℕ} None (Some (length (escaped q.text))) = sym is ∙ ap (closing_in false) (closes_where bs v after q.text e q.is) ∙ closes q.text after q.printable in
        absurd cc
    by_close (Some n) is = let k = closed bs n is in by_size n (unescaped false (take n bs)) k.rest k.counted (text_longest before bs n is k) (nat_lt 64 (length (unescaped false (take n bs)))) refl

-- ---- symbols

take_parts : (k : ℕ) (bytes : List ℕ) → bytes ≡ take k bytes ++ drop (length (take k bytes)) bytes
take_parts zero bytes = refl
take_parts (suc k) [] = refl
take_parts (suc k) (b ∷ bs) = ap (λ y. b ∷ y) (take_parts k bs)

-- a prefix of that many bytes
prefix_is : (bytes v after : List ℕ) (n : ℕ) → bytes ≡ v ++ after → length v ≡ n → take n bytes ≡ v
prefix_is bytes v after n e len = rw (e, ← len) (take-append_seam v after)

no_symbol : (w : List ℕ) (s : Symbol) → symbol_of w ≡ None → w ≡ symbol_spelling s → ⊥
no_symbol w s none is = let conflict : ◌≡◌ {A = Option Symbol} None (Some s) = sym none ∙ ap symbol_of is ∙ symbol_found s in absurd cc

-- a symbol of two bytes comes first, or one of one byte, or none
record SymbolPrefix (bytes : List ℕ) (s : Symbol) : Type 0 where
  parts : bytes ≡ symbol_spelling s ++ drop (length (symbol_spelling s)) bytes
  longest : (v after : List ℕ) (u : Symbol) → bytes ≡ v ++ after → v ≡ symbol_spelling u → length v ≤ length (symbol_spelling s)

symbol_prefix : (b : ℕ) (bs : List ℕ) (two one : Option Symbol) (s : Symbol) → symbol_of (take 2 (b ∷ bs)) ≡ two → symbol_of (take 1 (b ∷ bs)) ≡ one → or_first two one ≡ Some s → SymbolPrefix (b ∷ bs) s
symbol_prefix b bs (Some t) one s is_two is_one h =
    let same : t ≡ s = some_is {A = Symbol} t s h in
    let w : take 2 (b ∷ bs) ≡ symbol_spelling s = symbol_is (take 2 (b ∷ bs)) t is_two ∙ ap symbol_spelling same in
    record {
      parts = take_parts 2 (b ∷ bs) ∙ ap (λ y. y ++ drop (length y) (b ∷ bs)) w;
      longest = λ v after u e is. omega (arith, ap length w, length-take 2 (b ∷ bs), ap length e, length-append v after, ap length is, symbol_short u);
    }
symbol_prefix b bs None (Some t) s is_two is_one h =
    let same : t ≡ s = some_is {A = Symbol} t s h in
    let w : take 1 (b ∷ bs) ≡ symbol_spelling s = symbol_is (take 1 (b ∷ bs)) t is_one ∙ ap symbol_spelling same in
    record {
      parts = take_parts 1 (b ∷ bs) ∙ ap (λ y. y ++ drop (length y) (b ∷ bs)) w;
      longest = λ v after u e is. elim (cases_lt (length v) 2) [
        | inl lt ↦ omega (arith, symbol_some s)
        | inr ge ↦ absurd (no_symbol (take 2 (b ∷ bs)) u is_two (prefix_is (b ∷ bs) v after 2 e (omega (arith, ap length is, symbol_short u)) ∙ is))
      ];
    }
symbol_prefix b bs None None s is_two is_one h = absurd cc

no_symbol_prefix : (b : ℕ) (bs : List ℕ) (two one : Option Symbol) → symbol_of (take 2 (b ∷ bs)) ≡ two → symbol_of (take 1 (b ∷ bs)) ≡ one → or_first two one ≡ None → (v after : List ℕ) (u : Symbol) → b ∷ bs ≡ v ++ after → v ≡ symbol_spelling u → ⊥
no_symbol_prefix b bs (Some t) one is_two is_one h = absurd cc
no_symbol_prefix b bs None (Some t) is_two is_one h = absurd cc
no_symbol_prefix b bs None None is_two is_one h = λ v after u e is. elim (cases_lt (length v) 2) [
  | inl lt ↦ no_symbol (take 1 (b ∷ bs)) u is_one (prefix_is (b ∷ bs) v after 1 e (omega (arith, ap length is, symbol_some u)) ∙ is)
  | inr ge ↦ no_symbol (take 2 (b ∷ bs)) u is_two (prefix_is (b ∷ bs) v after 2 e (omega (arith, ap length is, symbol_short u)) ∙ is)
]

symbol_longest : (before : Before) (b : ℕ) (bs : List ℕ) (s : Symbol) → class b ≡ 3 → SymbolPrefix (b ∷ bs) s → IsLongest before (b ∷ bs) (token.Symbol s) (symbol_spelling s) (drop (length (symbol_spelling s)) (b ∷ bs))
symbol_longest before b bs s c f = record {
  parts = f.parts;
  spells = refl;
  longest = λ v after u e h. let g = spells_symbol before u v (sym (prefix_class before b bs v after u e h) ∙ c) h in f.longest v after g.sign e g.is;
}

symbol_token : (before : Before) (b : ℕ) (bs : List ℕ) (s : Symbol) → IsLongest before (b ∷ bs) (token.Symbol s) (symbol_spelling s) (drop (length (symbol_spelling s)) (b ∷ bs)) → IsFirstToken before (b ∷ bs) (symbol_at before (Some s) bs)
symbol_token before b bs symbol.Minus l = by_size (is_long_minus before bs) refl
  where
    by_size : (t : Bool) → is_long_minus before bs ≡ t → IsFirstToken before (b ∷ bs) (if t then Err kind.TooLong else Ok (token.Symbol symbol.Minus, 1))
    by_size true is = record { token = token.Symbol symbol.Minus; prefix = symbol_spelling symbol.Minus; rest = bs; longest = l; long = is }
    by_size false is = record { prefix = symbol_spelling symbol.Minus; rest = bs; longest = l; short = is; counted = refl }
symbol_token before b bs s l = record { prefix = symbol_spelling s; rest = drop (length (symbol_spelling s)) (b ∷ bs); longest = l; short = refl; counted = refl }

first_symbol_is : (before : Before) (b : ℕ) (bs : List ℕ) → class b ≡ 3 → IsFirstToken before (b ∷ bs) (symbol_at before (first_symbol (b ∷ bs)) bs)
first_symbol_is before b bs c = by_symbol (first_symbol (b ∷ bs)) refl
  where
    by_symbol : (o : Option Symbol) → first_symbol (b ∷ bs) ≡ o → IsFirstToken before (b ∷ bs) (symbol_at before o bs)
    by_symbol (Some s) is = symbol_token before b bs s (symbol_longest before b bs s c (symbol_prefix b bs (symbol_of (take 2 (b ∷ bs))) (symbol_of (take 1 (b ∷ bs))) s refl refl is))
    by_symbol None is = λ v after u e h.
        let g = spells_symbol before u v (sym (prefix_class before b bs v after u e h) ∙ c) h in
        no_symbol_prefix b bs (symbol_of (take 2 (b ∷ bs))) (symbol_of (take 1 (b ∷ bs))) refl refl is v after g.sign e g.is

-- ---- any token

pub prefix_of : (before : Before) (bytes : List ℕ) → 1 ≤ length bytes → IsFirstToken before bytes (token_at before bytes)
prefix_of before [] some = absurd (omega (arith, some))
prefix_of before (b ∷ bs) some = by_first (is_letter b) (is_digit b) (nat_eq b 34) refl refl refl
  where
    by_first : (letter digit quote : Bool) → is_letter b ≡ letter → is_digit b ≡ digit → nat_eq b 34 ≡ quote
        → IsFirstToken before (b ∷ bs) (if letter then word_at (take_while is_name (b ∷ bs)) else (if digit then int_at before (take_while is_digit (b ∷ bs)) else (if quote then text_at bs else symbol_at before (first_symbol (b ∷ bs)) bs)))
    by_first true digit quote is_l is_d is_q = word_prefix before b bs (ap (λ l. class_by l (is_digit b) (nat_eq b 34)) is_l) is_l
    by_first false true quote is_l is_d is_q = int_prefix before b bs (rw (is_l, is_d) refl) is_d
    by_first false false true is_l is_d is_q = rw (eqb-true b 34 is_q) (text_prefix before bs)
    by_first false false false is_l is_d is_q = first_symbol_is before b bs (rw (is_l, is_d, is_q) refl)

-- the same of a result that is the token
pub prefix_ok : (before : Before) (bytes : List ℕ) (r : Result (Token × ℕ) FaultKind) → 1 ≤ length bytes → r ≡ token_at before bytes → IfOk r (λ p. IsNext before bytes p.0 p.1)
prefix_ok before bytes (Ok p) some is = subst (λ (r : Result (Token × ℕ) FaultKind). IsFirstToken before bytes r) (sym is) (prefix_of before bytes some)
prefix_ok before bytes (Err f) some is = tt
