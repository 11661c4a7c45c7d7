-- A text has one list of tokens, and ends in one way.
use Rattle.std.proofs.Common.{◌≡◌, ℕ, ◌+◌, List, [], ◌∷◌, ◌++◌, length, take, drop, Option, Some, None, refl, sym, ap, subst, ◌∙◌, arith}
use Rattle.std.proofs.Math.Seq.{take-append_seam, drop-append_seam}
use Rattle.pac_tokens.specs.declared.lexer.Before.{Before}
use Rattle.pac_tokens.specs.declared.token.Token.{Token}
use Rattle.pac_tokens.specs.declared.token.Spanned.{Spanned}
use Rattle.pac_tokens.specs.declared.fault.Fault.{Fault}
use Rattle.pac_tokens.specs.declared.fault.FaultKind.{FaultKind}
use Rattle.pac_tokens.specs.declared.fault.FaultKind.TheVariants as kind
use Rattle.pac_tokens.specs.Tokens.{Lexed, IsLexed, EndsAt, gap, after, Spells, IsLongest, IsNext, IsTooLong, IsBad, is_long}
use Rattle.pac_tokens.proofs.Spelled.{flags, spells_one, spells_some}

-- ---- there is one longest token

record SamePrefix (t u : Token) (w v r q : List ℕ) : Type 0 where
  token : t ≡ u
  prefix : w ≡ v
  rest : r ≡ q

longest_once : (before : Before) (bytes : List ℕ) (t u : Token) (w v r q : List ℕ) → IsLongest before bytes t w r → IsLongest before bytes u v q → SamePrefix t u w v r q
longest_once before bytes t u w v r q h k =
    let more = h.longest v q u k.parts k.spells in
    let less = k.longest w r t h.parts h.spells in
    let len : length w ≡ length v = omega (arith, more, less) in
    let prefix : w ≡ v = sym (take-append_seam w r) ∙ ap (take (length w)) (sym h.parts) ∙ ap (λ n. take n bytes) len ∙ ap (take (length v)) k.parts ∙ take-append_seam v q in
    record {
      token = spells_one before t u w h.spells (subst (λ (x : List ℕ). Spells before u x) (sym prefix) k.spells);
      prefix = prefix;
      rest = sym (drop-append_seam w r) ∙ ap (drop (length w)) (sym h.parts) ∙ ap (λ n. drop n bytes) len ∙ ap (drop (length v)) k.parts ∙ drop-append_seam v q;
    }

-- a token that is too long is none that is short enough
long_short : (before : Before) (bytes : List ℕ) (t : Token) (n : ℕ) → IsNext before bytes t n → IsTooLong before bytes → ⊥
long_short before bytes t n h k =
    let same = longest_once before bytes t k.token h.prefix k.prefix h.rest k.rest h.longest k.longest in
    flags (is_long before k.token k.prefix k.rest) k.long (sym (rw (same.token, same.prefix, same.rest) refl) ∙ h.short)

next_bad : (before : Before) (bytes : List ℕ) (t : Token) (n : ℕ) (f : FaultKind) → IsNext before bytes t n → IsBad before bytes f → ⊥
next_bad before bytes t n kind.Token h k = k h.prefix h.rest t h.longest.parts h.longest.spells
next_bad before bytes t n kind.TooLong h k = long_short before bytes t n h k
next_bad before bytes t n _ h k = k

bad_once : (before : Before) (bytes : List ℕ) (f g : FaultKind) → IsBad before bytes f → IsBad before bytes g → f ≡ g
bad_once before bytes kind.Token kind.Token h k = refl
bad_once before bytes kind.TooLong kind.TooLong h k = refl
bad_once before bytes kind.Token kind.TooLong h k = absurd (h k.prefix k.rest k.token k.longest.parts k.longest.spells)
bad_once before bytes kind.TooLong kind.Token h k = absurd (k h.prefix h.rest h.token h.longest.parts h.longest.spells)
bad_once before bytes kind.Token _ h k = absurd k
bad_once before bytes kind.TooLong _ h k = absurd k
bad_once before bytes _ g h k = absurd h

-- ---- all tokens

abbrev fault_at : ℕ → FaultKind → Fault
fault_at at kind = record { at = at; kind = kind }

ends_once : (before : Before) (at : ℕ) (bytes : List ℕ) (f g : Option Fault) → EndsAt before at bytes f → EndsAt before at bytes g → f ≡ g
ends_once before at [] f g h k = h ∙ sym k
ends_once before at (b ∷ bs) f g h k = h.2 ∙ ap (λ kind. Some (fault_at at kind)) (bad_once before (b ∷ bs) h.0 k.0 h.1 k.1) ∙ sym k.2

-- where the tokens end no token stands
no_more : (before : Before) (at : ℕ) (bytes : List ℕ) (f : Option Fault) (t : Token) (n : ℕ) → EndsAt before at bytes f → IsNext before bytes t n → ⊥
no_more before at [] f t n h k = no_prefix k.prefix k.rest t k.longest.parts k.longest.spells
  where
    no_prefix : (v rest : List ℕ) (t : Token) → [] ≡ v ++ rest → Spells before t v → ⊥
    no_prefix [] rest t e h = omega (arith, spells_some before t [] h)
    no_prefix (b ∷ v) rest t e h = absurd cc
no_more before at (b ∷ bs) f t n h k = next_bad before (b ∷ bs) t n h.0 k h.1

record Once (ts us : List Spanned) (f g : Option Fault) : Type 0 where
  pub tokens : ts ≡ us
  pub fault : f ≡ g

record SameNext (t u : Token) (m n : ℕ) : Type 0 where
  token : t ≡ u
  len : m ≡ n

next_once : (before : Before) (bytes : List ℕ) (t u : Token) (m n : ℕ) → IsNext before bytes t m → IsNext before bytes u n → SameNext t u m n
next_once before bytes t u m n h k =
    let same = longest_once before bytes t u h.prefix k.prefix h.rest k.rest h.longest k.longest in
    record { token = same.token; len = h.counted ∙ ap length same.prefix ∙ sym k.counted }

lexed_once : (ts us : List Spanned) (before : Before) (at : ℕ) (bytes : List ℕ) (f g : Option Fault) → Lexed before at bytes ts f → Lexed before at bytes us g → Once ts us f g
lexed_once [] [] before at bytes f g h k = record { tokens = refl; fault = ends_once before (at + gap bytes) (drop (gap bytes) bytes) f g h k }
lexed_once [] (u ∷ us) before at bytes f g h k = absurd (no_more before (at + gap bytes) (drop (gap bytes) bytes) f u.token k.0 h k.1)
lexed_once (t ∷ ts) [] before at bytes f g h k = absurd (no_more before (at + gap bytes) (drop (gap bytes) bytes) g t.token h.0 k h.1)
lexed_once (t ∷ ts) (u ∷ us) before at bytes f g h k =
    let same = next_once before (drop (gap bytes) bytes) u.token t.token k.0 h.0 k.1 h.1 in
    let offset : t.at ≡ u.at = h.2 ∙ sym k.2 in
    let rest : Lexed (after before t.token) (at + gap bytes + h.0) (drop h.0 (drop (gap bytes) bytes)) us g =
    subst (λ (n : ℕ). Lexed (after before t.token) (at + gap bytes + n) (drop n (drop (gap bytes) bytes)) us g) same.len
    (subst (λ (x : Token). Lexed (after before x) (at + gap bytes + k.0) (drop k.0 (drop (gap bytes) bytes)) us g) same.token k.3) in
    let more = lexed_once ts us (after before t.token) (at + gap bytes + h.0) (drop h.0 (drop (gap bytes) bytes)) f g h.3 rest in
    let tokens : ◌≡◌ {A = Token} t.token u.token = sym same.token in
    let one : ◌≡◌ {A = Spanned} t u = λ i. record { token = tokens i; at = offset i } in
    record { tokens = (λ i. one i ∷ more.tokens i); fault = more.fault }

pub same_tokens : (text : List ℕ) (ts us : List Spanned) (f g : Option Fault) → IsLexed text ts f → IsLexed text us g → ts ≡ us
same_tokens text ts us f g h k = (lexed_once ts us _ 0 text f g h k).tokens

pub same_fault : (text : List ℕ) (ts us : List Spanned) (f g : Option Fault) → IsLexed text ts f → IsLexed text us g → f ≡ g
same_fault text ts us f g h k = (lexed_once ts us _ 0 text f g h k).fault

abbrev no_fault : Option Fault
no_fault = None

abbrev a_fault : Fault → Option Fault
a_fault f = Some f

pub some_none : (f : Fault) → a_fault f ≡ no_fault → ⊥
some_none f e = absurd cc
