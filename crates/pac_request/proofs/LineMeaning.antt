-- What steps of the reading want, said by derivations; where a token leads to, what is wanted after it is wanted.
use Rattle.std.proofs.Common.{◌≡◌, ◌≤◌, ◌<◌, ◌+◌, ℕ, suc, ℤ, Bool, true, false, cond, Option, List, [], ◌∷◌, ◌++◌, length, Some, None, refl, sym, ap, subst, ◌∙◌, append_assoc, arith, ltb}
use Rattle.std.specs.Prelude.{bytes_eq}
use Rattle.std.specs.Option.{option_map}
use Rattle.std.proofs.lemmas.Bool.{ltb-true}
use Rattle.std.proofs.lemmas.List.{append-nil, length-append}
use Rattle.std.proofs.lemmas.Slice.Eq.{bytes_eq-Decides}
use Rattle.pac_tokens.specs.declared.token.Keyword.TheVariants as keyword
use Rattle.pac_tokens.specs.declared.token.Symbol.{Symbol}
use Rattle.pac_tokens.specs.declared.token.Symbol.TheVariants as symbol
use Rattle.pac_tokens.specs.declared.token.Token.{Token}
use Rattle.pac_tokens.specs.declared.token.Token.TheVariants as token
use Rattle.pac_tokens.specs.declared.token.Spanned.{Spanned}
use Rattle.pac_syntax.specs.declared.tree.NameNode.{NameNode}
use Rattle.pac_request.specs.declared.node.PlacedLiteral.{PlacedLiteral}
use Rattle.pac_syntax.specs.Grammar.{LiteralForm, AnInt, ANegative, AText, ATrue, AFalse}
use Rattle.pac_syntax.specs.Machine.{is_same_keyword_or_symbol, name_in}
use Rattle.pac_syntax.specs.Views.{name_token}
use Rattle.pac_syntax.proofs.Marks.{is_same_keyword_or_symbol-true}
use Rattle.pac_request.specs.declared.node.RecordNode.{RecordNode}
use Rattle.pac_request.specs.declared.node.LineNode.{LineNode}
use Rattle.pac_request.specs.declared.node.LineNode.TheVariants as line
use Rattle.pac_request.specs.declared.node.Verb.{Verb}
use Rattle.pac_request.specs.declared.node.Verb.TheVariants as verb
use Rattle.pac_request.specs.LineForms.{LiteralsForm, NoLiteral, OneLiteral, ArgumentsForm, NoArgument, SomeArguments, RecordForm, PutForm, DeleteForm, RecordsForm, NoRecord, OneRecord, EmptyForm, CallForm, AdHocForm, ShowForm, FlushForm, SaveForm, StopForm, verb_word, verb_token, keyword_token, symbol_token, literal_tokens, literals_before, arguments_before, record_before, records_tokens, literals_nodes, arguments_nodes, record_node, records_nodes, placed_literal, records_count, IsWritten}
use Rattle.pac_request.specs.LineSteps.{LineSteps, LineEnds, ThisSymbol, SomeName, SomeLiteral, SomeNegative, MoreLiterals, AllArguments, SomeRecord, MoreRecords, AnyLine, first_some, literal_steps, placed_int, negative_steps, put_record_steps, delete_record_steps, verb_named, verb_in, verb_steps, record_word, record_steps, steps_after, said_at_end}

-- that many records and these are no more than 64
abbrev pub HasRoom : ℕ → RecordsForm → Type 0
HasRoom n NoRecord = Unit {0}
HasRoom n (OneRecord semicolon r rs) = (n < 64) × HasRoom (suc n) rs

-- the tokens are what these steps want, and the line then says this
abbrev pub Wants : LineSteps → List Spanned → LineNode → Type 0
Wants (LineEnds node) q said = (q ≡ []) × (said ≡ node)
Wants (ThisSymbol s k) q said = (at : ℕ) × (more : List Spanned) × (q ≡ symbol_token s at ∷ more) × Wants k more said
Wants (SomeName k) q said = (name : NameNode) × (more : List Spanned) × (q ≡ name_token name ∷ more) × Wants (k name) more said
Wants (SomeLiteral k) q said = (l : LiteralForm) × (more : List Spanned) × (q ≡ literal_tokens l more) × Wants (k (placed_literal l)) more said
Wants (SomeNegative minus k) q said = (at : ℕ) × (z : ℤ) × (more : List Spanned) × (q ≡ record { token = token.Negative z; at = at } ∷ more) × Wants (k (placed_int minus z)) more said
Wants (MoreLiterals ls k) q said = (m : LiteralsForm) × (close : ℕ) × (more : List Spanned) × (q ≡ literals_before m (symbol_token symbol.CloseParen close ∷ more)) × Wants (k (ls ++ literals_nodes m)) more said
Wants (AllArguments k) q said = (m : ArgumentsForm) × (close : ℕ) × (more : List Spanned) × (q ≡ arguments_before m (symbol_token symbol.CloseParen close ∷ more)) × Wants (k (arguments_nodes m)) more said
Wants (SomeRecord k) q said = (r : RecordForm) × (more : List Spanned) × (q ≡ record_before r more) × Wants (k (record_node r)) more said
Wants (MoreRecords rs) q said = (m : RecordsForm) × HasRoom (length rs) m × (q ≡ records_tokens m) × (said ≡ line.AdHoc (rs ++ records_nodes m))
Wants AnyLine q said = IsWritten q said

some_is : (a b : LineSteps) → ◌≡◌ {A = Option LineSteps} (Some a) (Some b) → a ≡ b
some_is a b e = cc

wants_along : (a b : LineSteps) (q : List Spanned) (said : LineNode) → ◌≡◌ {A = Option LineSteps} (Some a) (Some b) → Wants b q said → Wants a q said
wants_along a b q said e m = subst (λ x. Wants x q said) (sym (some_is a b e)) m

-- ---- room

room_few : (m : RecordsForm) (n : ℕ) → n ≤ 64 → HasRoom n m → records_count m + n ≤ 64
room_few NoRecord n h room = omega (arith, h)
room_few (OneRecord semicolon r rs) n h room = let inner = room_few rs (suc n) (omega (arith, room.0)) room.1 in omega arith

pub few_room : (m : RecordsForm) (n : ℕ) → records_count m + n ≤ 64 → HasRoom n m
few_room NoRecord n h = tt
few_room (OneRecord semicolon r rs) n h = (omega arith, few_room rs (suc n) (omega arith))

-- ---- one token

symbol_leads : (s : Symbol) (t : Token) (at : ℕ) (k next : LineSteps) (q : List Spanned) (said : LineNode) (b : Bool) → is_same_keyword_or_symbol (token.Symbol s) t ≡ b
    → cond b (Some k) None ≡ Some next → Wants next q said → Wants (ThisSymbol s k) (record { token = t; at = at } ∷ q) said
symbol_leads s t at k next q said true is e m = (at, q, ap (λ (x : Token). record { token = x; at = at } ∷ q) (is_same_keyword_or_symbol-true (token.Symbol s) t is), wants_along k next q said e m)
symbol_leads s t at k next q said false is e m = absurd cc

name_leads : (t : Token) (at : ℕ) (k : NameNode → LineSteps) (next : LineSteps) (q : List Spanned) (said : LineNode) → option_map k (name_in t at) ≡ Some next
    → Wants next q said → Wants (SomeName k) (record { token = t; at = at } ∷ q) said
name_leads (token.Name n) at k next q said e m = (record { at = at; name = n }, q, refl, wants_along _ next q said e m)
name_leads _ at k next q said e m = absurd cc

literal_leads : (t : Token) (at : ℕ) (k : PlacedLiteral → LineSteps) (next : LineSteps) (q : List Spanned) (said : LineNode) → literal_steps t at k ≡ Some next
    → Wants next q said → Wants (SomeLiteral k) (record { token = t; at = at } ∷ q) said
literal_leads (token.Int z) at k next q said e m = (AnInt at z, q, refl, wants_along _ next q said e m)
literal_leads (token.Text text) at k next q said e m = (AText at text, q, refl, wants_along _ next q said e m)
literal_leads (token.Keyword keyword.True) at k next q said e m = (ATrue at, q, refl, wants_along _ next q said e m)
literal_leads (token.Keyword keyword.False) at k next q said e m = (AFalse at, q, refl, wants_along _ next q said e m)
literal_leads (token.Symbol symbol.Minus) at k next q said e m =
    let n = wants_along (SomeNegative at k) next q said e m in
    (ANegative at n.0 n.1, n.2, ap (λ (x : List Spanned). symbol_token symbol.Minus at ∷ x) n.3, n.4)
literal_leads _ at k next q said e m = absurd cc

negative_leads : (t : Token) (minus at : ℕ) (k : PlacedLiteral → LineSteps) (next : LineSteps) (q : List Spanned) (said : LineNode) → negative_steps t minus k ≡ Some next
    → Wants next q said → Wants (SomeNegative minus k) (record { token = t; at = at } ∷ q) said
negative_leads (token.Negative z) minus at k next q said e m = (at, z, q, refl, wants_along _ next q said e m)
negative_leads _ minus at k next q said e m = absurd cc

-- a literal after a comma, before the others
comma_wants : (ls : List PlacedLiteral) (k : List PlacedLiteral → LineSteps) (at : ℕ) (q : List Spanned) (said : LineNode)
    → Wants (SomeLiteral (λ l. MoreLiterals (ls ++ (l ∷ [])) k)) q said → Wants (MoreLiterals ls k) (symbol_token symbol.Comma at ∷ q) said
comma_wants ls k at q said m = (
  OneLiteral at m.0 m.3.0,
  m.3.1,
  m.3.2,
  ap (λ (x : List Spanned). symbol_token symbol.Comma at ∷ x) (m.2 ∙ ap (literal_tokens m.0) m.3.3),
  subst (λ (x : List PlacedLiteral). Wants (k x) m.3.2 said) (append_assoc ls (placed_literal m.0 ∷ []) (literals_nodes m.3.0)) m.3.4,
)

close_wants : (ls : List PlacedLiteral) (k : List PlacedLiteral → LineSteps) (at : ℕ) (q : List Spanned) (said : LineNode)
    → Wants (k ls) q said → Wants (MoreLiterals ls k) (symbol_token symbol.CloseParen at ∷ q) said
close_wants ls k at q said m = (NoLiteral, at, q, refl, subst (λ (x : List PlacedLiteral). Wants (k x) q said) (sym (append-nil ls)) m)

literals_lead : (ls : List PlacedLiteral) (k : List PlacedLiteral → LineSteps) (t : Token) (at : ℕ) (next : LineSteps) (q : List Spanned) (said : LineNode) (b c : Bool)
    → is_same_keyword_or_symbol (token.Symbol symbol.Comma) t ≡ b → is_same_keyword_or_symbol (token.Symbol symbol.CloseParen) t ≡ c
    → first_some (cond b (Some (SomeLiteral (λ l. MoreLiterals (ls ++ (l ∷ [])) k))) None) (cond c (Some (k ls)) None) ≡ Some next
    → Wants next q said → Wants (MoreLiterals ls k) (record { token = t; at = at } ∷ q) said
literals_lead ls k t at next q said true c is close e m =
    subst (λ (x : Token). Wants (MoreLiterals ls k) (record { token = x; at = at } ∷ q) said) (sym (is_same_keyword_or_symbol-true (token.Symbol symbol.Comma) t is)) (comma_wants ls k at q said (wants_along _ next q said e m))
literals_lead ls k t at next q said false true is close e m =
    subst (λ (x : Token). Wants (MoreLiterals ls k) (record { token = x; at = at } ∷ q) said) (sym (is_same_keyword_or_symbol-true (token.Symbol symbol.CloseParen) t close)) (close_wants ls k at q said (wants_along _ next q said e m))
literals_lead ls k t at next q said false false is close e m = absurd cc

arguments_lead : (k : List PlacedLiteral → LineSteps) (t : Token) (at : ℕ) (next : LineSteps) (q : List Spanned) (said : LineNode) (b : Bool)
    → is_same_keyword_or_symbol (token.Symbol symbol.CloseParen) t ≡ b
    → first_some (cond b (Some (k [])) None) (literal_steps t at (λ l. MoreLiterals (l ∷ []) k)) ≡ Some next
    → Wants next q said → Wants (AllArguments k) (record { token = t; at = at } ∷ q) said
arguments_lead k t at next q said true is e m =
    subst (λ (x : Token). Wants (AllArguments k) (record { token = x; at = at } ∷ q) said) (sym (is_same_keyword_or_symbol-true (token.Symbol symbol.CloseParen) t is)) (NoArgument, at, q, refl, wants_along _ next q said e m)
arguments_lead k t at next q said false is e m =
    let l = literal_leads t at (λ l. MoreLiterals (l ∷ []) k) next q said e m in
    (SomeArguments l.0 l.3.0, l.3.1, l.3.2, l.2 ∙ ap (literal_tokens l.0) l.3.3, l.3.4)

-- ---- records

put_wants : (k : RecordNode → LineSteps) (at : ℕ) (q : List Spanned) (said : LineNode) → Wants (put_record_steps k) q said → Wants (SomeRecord k) (keyword_token keyword.Put at ∷ q) said
put_wants k at q said (name, q0, e0, (p1, q1, e1, (key, q2, e2, (p2, q3, e3, (p3, q4, e4, (p4, q5, e5, (l, q6, e6, (ls, p5, q7, e7, m)))))))) =
    (PutForm at name p1 key p2 p3 p4 l ls p5, q7, rw (e0, e1, e2, e3, e4, e5, e6, e7) refl, m)

delete_wants : (k : RecordNode → LineSteps) (at : ℕ) (q : List Spanned) (said : LineNode) → Wants (delete_record_steps k) q said → Wants (SomeRecord k) (keyword_token keyword.Delete at ∷ q) said
delete_wants k at q said (name, q0, e0, (p1, q1, e1, (key, q2, e2, (p2, q3, e3, m)))) = (DeleteForm at name p1 key p2, q3, rw (e0, e1, e2, e3) refl, m)

record_leads : (k : RecordNode → LineSteps) (t : Token) (at : ℕ) (next : LineSteps) (q : List Spanned) (said : LineNode) → option_map (record_steps k) (record_word t) ≡ Some next
    → Wants next q said → Wants (SomeRecord k) (record { token = t; at = at } ∷ q) said
record_leads k (token.Keyword keyword.Put) at next q said e m = put_wants k at q said (wants_along _ next q said e m)
record_leads k (token.Keyword keyword.Delete) at next q said e m = delete_wants k at q said (wants_along _ next q said e m)
record_leads k _ at next q said e m = absurd cc

records_lead : (rs : List RecordNode) (t : Token) (at : ℕ) (next : LineSteps) (q : List Spanned) (said : LineNode) (b c : Bool)
    → ltb (length rs) 64 ≡ b → is_same_keyword_or_symbol (token.Symbol symbol.Semicolon) t ≡ c
    → cond b (cond c (Some (SomeRecord (λ r. MoreRecords (rs ++ (r ∷ []))))) None) None ≡ Some next
    → Wants next q said → Wants (MoreRecords rs) (record { token = t; at = at } ∷ q) said
records_lead rs t at next q said true true few is e m =
    let w = wants_along (SomeRecord (λ r. MoreRecords (rs ++ (r ∷ [])))) next q said e m in
    let one_more : length (rs ++ (record_node w.0 ∷ [])) ≡ suc (length rs) = length-append rs (record_node w.0 ∷ []) ∙ omega arith in (
      OneRecord at w.0 w.3.0,
      (ltb-true _ _ few, subst (λ (n : ℕ). HasRoom n w.3.0) one_more w.3.1),
      ap (λ (x : Token). record { token = x; at = at } ∷ q) (is_same_keyword_or_symbol-true (token.Symbol symbol.Semicolon) t is) ∙ ap (λ (x : List Spanned). symbol_token symbol.Semicolon at ∷ x) (w.2 ∙ ap (record_before w.0) w.3.2),
      w.3.3 ∙ ap (λ (x : List RecordNode). line.AdHoc x) (append_assoc rs (record_node w.0 ∷ []) (records_nodes w.3.0)),
    )
records_lead rs t at next q said true false few is e m = absurd cc
records_lead rs t at next q said false c few is e m = absurd cc

-- ---- lines

verb_is : (v w : Verb) → ◌≡◌ {A = Option Verb} (Some v) (Some w) → v ≡ w
verb_is v w e = cc

word_or : (n w : List ℕ) (v u : Verb) (rest : Option Verb) (b : Bool) → bytes_eq n w ≡ b → cond b (Some v) rest ≡ Some u → (w ≡ verb_word v) → (rest ≡ Some u → n ≡ verb_word u) → n ≡ verb_word u
word_or n w v u rest true is e same other = (bytes_eq-Decides n w).0 is ∙ same ∙ ap verb_word (verb_is v u e)
word_or n w v u rest false is e same other = other e

verb_named-Some : (n : List ℕ) (v : Verb) → verb_named n ≡ Some v → n ≡ verb_word v
verb_named-Some n v e =
    word_or n _ verb.Call v _ _ refl e refl (λ e. word_or n _ verb.AdHoc v _ _ refl e refl (λ e. word_or n _ verb.Show v _ _ refl e refl
    (λ e. word_or n _ verb.Flush v _ _ refl e refl (λ e. word_or n _ verb.Save v _ _ refl e refl (λ e. word_or n _ verb.Stop v _ _ refl e refl (λ e. absurd cc))))))

verb_wants : (v : Verb) (at : ℕ) (q : List Spanned) (said : LineNode) → Wants (verb_steps v) q said → IsWritten (verb_token v at ∷ q) said
verb_wants verb.Call at q said (name, q0, e0, (p1, q1, e1, (args, p2, q2, e2, (none, is)))) =
    record { form = CallForm at name p1 args p2; few = tt; text = rw (e0, e1, e2, none) refl; says = sym is }
verb_wants verb.AdHoc at q said (r, q0, e0, (rs, room, e1, is)) =
    record { form = AdHocForm at r rs; few = room_few rs 1 (omega arith) room; text = rw (e0, e1) refl; says = sym is }
verb_wants verb.Show at q said (name, q0, e0, (p1, q1, e1, (key, q2, e2, (p2, q3, e3, (none, is))))) =
    record { form = ShowForm at name p1 key p2; few = tt; text = rw (e0, e1, e2, e3, none) refl; says = sym is }
verb_wants verb.Flush at q said (none, is) = record { form = FlushForm at; few = tt; text = rw none refl; says = sym is }
verb_wants verb.Save at q said (none, is) = record { form = SaveForm at; few = tt; text = rw none refl; says = sym is }
verb_wants verb.Stop at q said (none, is) = record { form = StopForm at; few = tt; text = rw none refl; says = sym is }

line_leads : (t : Token) (at : ℕ) (next : LineSteps) (q : List Spanned) (said : LineNode) → option_map verb_steps (verb_in t) ≡ Some next
    → Wants next q said → IsWritten (record { token = t; at = at } ∷ q) said
line_leads (token.Name n) at next q said e m = by (verb_named n) refl e
  where
    by : (o : Option Verb) → verb_named n ≡ o → option_map verb_steps o ≡ Some next → IsWritten (record { token = token.Name n; at = at } ∷ q) said
    by None is e = absurd cc
    by (Some v) is e = subst (λ (x : List ℕ). IsWritten (record { token = token.Name x; at = at } ∷ q) said) (sym (verb_named-Some n v is)) (verb_wants v at q said (wants_along _ next q said e m))
line_leads _ at next q said e m = absurd cc

-- ---- all

pub leads : (k next : LineSteps) (t : Spanned) (q : List Spanned) (said : LineNode) → steps_after k t ≡ Some next → Wants next q said → Wants k (t ∷ q) said
unfolding steps_after
leads (LineEnds node) next t q said e m = absurd cc
leads (ThisSymbol s k) next t q said e m = symbol_leads s t.token t.at k next q said _ refl e m
leads (SomeName k) next t q said e m = name_leads t.token t.at k next q said e m
leads (SomeLiteral k) next t q said e m = literal_leads t.token t.at k next q said e m
leads (SomeNegative minus k) next t q said e m = negative_leads t.token minus t.at k next q said e m
leads (MoreLiterals ls k) next t q said e m = literals_lead ls k t.token t.at next q said _ _ refl refl e m
leads (AllArguments k) next t q said e m = arguments_lead k t.token t.at next q said _ refl e m
leads (SomeRecord k) next t q said e m = record_leads k t.token t.at next q said e m
leads (MoreRecords rs) next t q said e m = records_lead rs t.token t.at next q said _ _ refl refl e m
leads AnyLine next t q said e m = line_leads t.token t.at next q said e m

node_is : (a b : LineNode) → ◌≡◌ {A = Option LineNode} (Some a) (Some b) → a ≡ b
node_is a b e = cc

-- what may end here wants nothing more
pub ends_here : (k : LineSteps) (said : LineNode) → said_at_end k ≡ Some said → Wants k [] said
unfolding said_at_end
ends_here (LineEnds node) said e = (refl, sym (node_is node said e))
ends_here (MoreRecords rs) said e = (NoRecord, tt, refl, sym (node_is (line.AdHoc rs) said e) ∙ ap (λ (x : List RecordNode). line.AdHoc x) (sym (append-nil rs)))
ends_here AnyLine said e = record { form = EmptyForm; few = tt; text = refl; says = node_is line.Empty said e }
ends_here _ said e = absurd cc

-- there is always something that is wanted
pub record Wanted (k : LineSteps) : Type 0 where
  pub tokens : List Spanned
  pub said : LineNode
  pub wanted : Wants k tokens said

a_name : NameNode
a_name = record { at = 0; name = [] }

a_literal : LiteralForm
a_literal = ATrue 0

pub something : (k : LineSteps) → Wanted k
something (LineEnds node) = record { tokens = []; said = node; wanted = (refl, refl) }
something (ThisSymbol s k) = let w = something k in record { tokens = symbol_token s 0 ∷ w.tokens; said = w.said; wanted = (0, w.tokens, refl, w.wanted) }
something (SomeName k) = let w = something (k a_name) in record { tokens = name_token a_name ∷ w.tokens; said = w.said; wanted = (a_name, w.tokens, refl, w.wanted) }
something (SomeLiteral k) = let w = something (k (placed_literal a_literal)) in record { tokens = literal_tokens a_literal w.tokens; said = w.said; wanted = (a_literal, w.tokens, refl, w.wanted) }
something (SomeNegative minus k) = let w = something (k (placed_int minus (ℤ.pos 0))) in
    record { tokens = record { token = token.Negative (ℤ.pos 0); at = 0 } ∷ w.tokens; said = w.said; wanted = (0, ℤ.pos 0, w.tokens, refl, w.wanted) }
something (MoreLiterals ls k) = let w = something (k (ls ++ [])) in record { tokens = symbol_token symbol.CloseParen 0 ∷ w.tokens; said = w.said; wanted = (NoLiteral, 0, w.tokens, refl, w.wanted) }
something (AllArguments k) = let w = something (k []) in record { tokens = symbol_token symbol.CloseParen 0 ∷ w.tokens; said = w.said; wanted = (NoArgument, 0, w.tokens, refl, w.wanted) }
something (SomeRecord k) =
    let r : RecordForm = DeleteForm 0 a_name 0 a_literal 0 in
    let w = something (k (record_node r)) in record { tokens = record_before r w.tokens; said = w.said; wanted = (r, w.tokens, refl, w.wanted) }
something (MoreRecords rs) = record { tokens = []; said = line.AdHoc (rs ++ []); wanted = (NoRecord, tt, refl, refl) }
something AnyLine = record { tokens = []; said = line.Empty; wanted = record { form = EmptyForm; few = tt; text = refl; says = refl } }
