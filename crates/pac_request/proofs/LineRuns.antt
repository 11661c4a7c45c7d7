-- What a derivation spells is read as what it says.
use Rattle.std.proofs.Common.{◌≡◌, ℕ, suc, List, [], ◌∷◌, ◌++◌, length, Ok, refl, sym, ap, subst, ◌∙◌, append_assoc, arith}
use Rattle.std.proofs.lemmas.Bool.{lt-ltb}
use Rattle.std.proofs.lemmas.List.{append-nil, length-append}
use Rattle.pac_tokens.specs.declared.token.Symbol.TheVariants as symbol
use Rattle.pac_tokens.specs.declared.token.Spanned.{Spanned}
use Rattle.pac_request.specs.declared.node.PlacedLiteral.{PlacedLiteral}
use Rattle.pac_syntax.specs.Grammar.{LiteralForm, AnInt, ANegative, AText, ATrue, AFalse}
use Rattle.pac_request.specs.declared.fault.LineFault.{LineFault}
use Rattle.pac_request.specs.declared.node.RecordNode.{RecordNode}
use Rattle.pac_request.specs.declared.node.LineNode.{LineNode}
use Rattle.pac_request.specs.declared.node.LineNode.TheVariants as line
use Rattle.pac_request.specs.LineForms.{LiteralsForm, NoLiteral, OneLiteral, ArgumentsForm, NoArgument, SomeArguments, RecordForm, PutForm, DeleteForm, RecordsForm, NoRecord, OneRecord, LineForm, EmptyForm, CallForm, AdHocForm, ShowForm, FlushForm, SaveForm, StopForm, symbol_token, literal_tokens, literals_before, arguments_before, record_before, records_tokens, line_tokens, literals_nodes, arguments_nodes, record_node, records_nodes, line_node, placed_literal, HasFewRecords, IsWritten}
use Rattle.pac_request.specs.LineSteps.{LineSteps, LineEnds, SomeLiteral, MoreLiterals, AllArguments, SomeRecord, MoreRecords, AnyLine, steps_after, said_at_end, line_run}
use Rattle.pac_request.proofs.LineMeaning.{HasRoom, few_room}

literal_runs : (end : LineFault) (k : PlacedLiteral → LineSteps) (l : LiteralForm) (rest : List Spanned) → line_run end (SomeLiteral k) (literal_tokens l rest) ≡ line_run end (k (placed_literal l)) rest
unfolding line_run steps_after
literal_runs end k (AnInt at z) rest = refl
literal_runs end k (ANegative minus at z) rest = refl
literal_runs end k (AText at text) rest = refl
literal_runs end k (ATrue at) rest = refl
literal_runs end k (AFalse at) rest = refl

literals_run : (end : LineFault) (m : LiteralsForm) (ls : List PlacedLiteral) (k : List PlacedLiteral → LineSteps) (close : ℕ) (rest : List Spanned)
    → line_run end (MoreLiterals ls k) (literals_before m (symbol_token symbol.CloseParen close ∷ rest)) ≡ line_run end (k (ls ++ literals_nodes m)) rest
unfolding line_run steps_after
literals_run end NoLiteral ls k close rest = ap (λ (x : List PlacedLiteral). line_run end (k x) rest) (sym (append-nil ls))
literals_run end (OneLiteral comma l m) ls k close rest =
    literal_runs end (λ l. MoreLiterals (ls ++ (l ∷ [])) k) l (literals_before m (symbol_token symbol.CloseParen close ∷ rest))
    ∙ literals_run end m (ls ++ (placed_literal l ∷ [])) k close rest
    ∙ ap (λ (x : List PlacedLiteral). line_run end (k x) rest) (append_assoc ls (placed_literal l ∷ []) (literals_nodes m))

first_argument : (end : LineFault) (k : List PlacedLiteral → LineSteps) (l : LiteralForm) (rest : List Spanned) → line_run end (AllArguments k) (literal_tokens l rest) ≡ line_run end (MoreLiterals (placed_literal l ∷ []) k) rest
unfolding line_run steps_after
first_argument end k (AnInt at z) rest = refl
first_argument end k (ANegative minus at z) rest = refl
first_argument end k (AText at text) rest = refl
first_argument end k (ATrue at) rest = refl
first_argument end k (AFalse at) rest = refl

arguments_run : (end : LineFault) (m : ArgumentsForm) (k : List PlacedLiteral → LineSteps) (close : ℕ) (rest : List Spanned)
    → line_run end (AllArguments k) (arguments_before m (symbol_token symbol.CloseParen close ∷ rest)) ≡ line_run end (k (arguments_nodes m)) rest
unfolding line_run steps_after
arguments_run end NoArgument k close rest = refl
arguments_run end (SomeArguments l m) k close rest =
    first_argument end k l (literals_before m (symbol_token symbol.CloseParen close ∷ rest)) ∙ literals_run end m (placed_literal l ∷ []) k close rest

record_runs : (end : LineFault) (r : RecordForm) (k : RecordNode → LineSteps) (rest : List Spanned) → line_run end (SomeRecord k) (record_before r rest) ≡ line_run end (k (record_node r)) rest
unfolding line_run steps_after
record_runs end (PutForm p0 name p1 key p2 p3 p4 l ls p5) k rest =
    literal_runs end _ key _ ∙ literal_runs end _ l _ ∙ literals_run end ls (placed_literal l ∷ []) _ p5 rest
record_runs end (DeleteForm p0 name p1 key p2) k rest = literal_runs end _ key _

records_run : (end : LineFault) (m : RecordsForm) (rs : List RecordNode) → HasRoom (length rs) m → line_run end (MoreRecords rs) (records_tokens m) ≡ Ok (line.AdHoc (rs ++ records_nodes m))
unfolding line_run steps_after said_at_end
records_run end NoRecord rs room = ap (λ (x : List RecordNode). Ok (line.AdHoc x)) (sym (append-nil rs))
records_run end (OneRecord semicolon r m) rs room =
    let one_more : suc (length rs) ≡ length (rs ++ (record_node r ∷ [])) = sym (length-append rs (record_node r ∷ []) ∙ omega arith) in
    rw (lt-ltb _ _ room.0) (record_runs end r (λ r. MoreRecords (rs ++ (r ∷ []))) (records_tokens m)
    ∙ records_run end m (rs ++ (record_node r ∷ [])) (subst (λ (n : ℕ). HasRoom n m) one_more room.1)
    ∙ ap (λ (x : List RecordNode). Ok (line.AdHoc x)) (append_assoc rs (record_node r ∷ []) (records_nodes m)))

line_runs : (end : LineFault) (form : LineForm) → HasFewRecords form → line_run end AnyLine (line_tokens form) ≡ Ok (line_node form)
unfolding line_run steps_after said_at_end
line_runs end EmptyForm few = refl
line_runs end (CallForm p0 name p1 args p2) few = arguments_run end args (λ args. LineEnds (line.Call name args)) p2 []
line_runs end (AdHocForm p0 r rs) few = record_runs end r (λ r. MoreRecords (r ∷ [])) (records_tokens rs) ∙ records_run end rs (record_node r ∷ []) (few_room rs 1 few)
line_runs end (ShowForm p0 name p1 key p2) few = literal_runs end _ key _
line_runs end (FlushForm p0) few = refl
line_runs end (SaveForm p0) few = refl
line_runs end (StopForm p0) few = refl

pub written_runs : (end : LineFault) (ts : List Spanned) (said : LineNode) → IsWritten ts said → line_run end AnyLine ts ≡ Ok said
written_runs end ts said w = ap (line_run end AnyLine) (sym w.text) ∙ line_runs end w.form w.few ∙ ap (λ (x : LineNode). Ok x) w.says
