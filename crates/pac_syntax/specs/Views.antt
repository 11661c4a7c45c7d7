-- What the parser's parts say of the tokens that are left.
use Rattle.std.specs.Prelude.{◌≡◌, ℕ, zero, suc, ℤ, List, [], ◌∷◌, Bool, true, false, nat_le, nat_lt, length, ◌≤◌, ◌<◌, if◌then◌else◌, Option, Some, None, Result, Err, Vec}
use Rattle.std.specs.Global.{Global}
use Rattle.pac_base.specs.Refusals.{Gives}
use Rattle.pac_value.specs.declared.values.Ty.{Ty}
use Rattle.pac_value.specs.declared.limits.TheConstants.{MAX_COLUMNS, MAX_PARAMS}
use Rattle.pac_syntax.specs.declared.limits.TheConstants.{MAX_NESTED}
use Rattle.pac_tokens.specs.declared.token.Token.{Token}
use Rattle.pac_tokens.specs.declared.token.Token.TheVariants as token
use Rattle.pac_tokens.specs.declared.token.Keyword.TheVariants as keyword
use Rattle.pac_tokens.specs.declared.token.Spanned.{Spanned}
use Rattle.pac_syntax.specs.declared.limits.Around.{Around}
use Rattle.pac_syntax.specs.declared.tree.NameNode.{NameNode}
use Rattle.pac_syntax.specs.declared.tree.Tree.{Tree}
use Rattle.pac_syntax.specs.declared.parse.statement.StatementWord.{StatementWord}
use Rattle.pac_syntax.specs.declared.parse.statement.StatementWord.TheVariants as word
use Rattle.pac_syntax.specs.declared.parse.parser.Owner.{Owner}
use Rattle.pac_syntax.specs.declared.parse.parser.Owner.TheVariants as owner
use Rattle.pac_syntax.specs.declared.parse.parser.Operand.{Operand}
use Rattle.pac_syntax.specs.declared.parse.parser.Parser.{Parser}
use Rattle.pac_base.specs.declared.refusal.Refusal.{Refusal}
use Rattle.pac_tokens.specs.declared.fault.Fault.{Fault}
use Rattle.pac_value.specs.declared.expr.BinOp.{BinOp}
use Rattle.pac_syntax.specs.Grammar.{Role, ColumnName, ParamName, precedence}
use Rattle.pac_syntax.specs.Faults.{over_role}
use Rattle.pac_syntax.specs.Machine.{Steps, Rest, run, Begun, begun_name, begun_literal, is_same_keyword_or_symbol, name_in, type_of_token, literal_at}

-- the tokens begin with this word or symbol
pub record Begins (w : Token) (at : ℕ) (ts rest : List Spanned) : Type 0 where
  pub text : ts ≡ record { token = w; at = at } ∷ rest
  pub mark : is_same_keyword_or_symbol w w ≡ true

-- the first token isn't this word or symbol
abbrev pub IsNot : Token → List Spanned → Type 0
IsNot w [] = Unit {0}
IsNot w (t ∷ ts) = is_same_keyword_or_symbol w t.token ≡ false

-- the first token is no name
abbrev pub IsNoName : List Spanned → Type 0
IsNoName [] = Unit {0}
IsNoName (t ∷ ts) = name_in t.token t.at ≡ None

-- the tokens begin with a type
pub record IsType (y : Ty) (ts rest : List Spanned) : Type 0 where
  pub first : Spanned
  pub text : ts ≡ first ∷ rest
  pub is : type_of_token first.token ≡ Some y

-- the first token is no type
abbrev pub IsNoType : List Spanned → Type 0
IsNoType [] = Unit {0}
IsNoType (t ∷ ts) = type_of_token t.token ≡ None

-- whether a token is `true` or `false`
abbrev pub bool_in : Token → Option Bool
bool_in (token.Keyword keyword.True) = Some true
bool_in (token.Keyword keyword.False) = Some false
bool_in _ = None

-- the bytes of the name that a token is
abbrev pub name_part : Token → Option (List ℕ)
name_part (token.Name n) = Some n
name_part _ = None

-- a name as a token
abbrev pub name_token : NameNode → Spanned
name_token n = record { token = token.Name n.name; at = n.at }

-- the role of the names of columns or of parameters
abbrev pub role_of : Owner → ℕ → Role
role_of owner.Table = ColumnName
role_of owner.Procedure = ParamName

-- how many of them there may be
abbrev pub limit_of : Owner → ℕ
limit_of owner.Table = MAX_COLUMNS
limit_of owner.Procedure = MAX_PARAMS

-- an operand in the reading
abbrev pub begun_at : Operand → Begun
begun_at x = record { from = x.from; expr = x.expr }

-- the operator, where its precedence is from one on and below a level
abbrev pub between : ℕ → ℕ → Option BinOp → Option BinOp
between n m None = None
between n m (Some op) = if nat_le n (precedence op) then (if nat_lt (precedence op) m then Some op else None) else None

-- the tightest precedence whose operators may follow after an operator of a precedence and its right operand
abbrev pub next_precedence : ℕ → ℕ
next_precedence (suc (suc zero)) = 3
next_precedence n = n

-- the rests of the precedences from one on and below a level, from the tightest on
abbrev pub rests : ℕ → ℕ → ℕ → (Begun → ℕ → Steps) → Begun → ℕ → Steps
rests d n zero k = k
rests d n (suc m) k = if nat_le n m then rests d n m (λ x o. Rest d m x o k) else k

-- the operand that a name or an int is
abbrev pub operand_in : Token → ℕ → Option Begun
operand_in (token.Name n) at = Some (begun_name (record { at = at; name = n }))
operand_in (token.Int z) at = Some (begun_literal (literal_at at z))
operand_in _ at = None

-- whether a statement that begins with this word is a conditional or loop in too many others
abbrev pub is_too_deep : Around → StatementWord → Bool
is_too_deep d word.If = nat_le MAX_NESTED d.nested
is_too_deep d word.For = nat_le MAX_NESTED d.nested
is_too_deep d _ = false

-- `limit` gives the fault that an int of this role has, wherever it stands
abbrev pub IsLimit : (ℤ → Role) → (ℤ → Option Fault) → Type 0
IsLimit role limit = (z : ℤ) (at : ℕ) → over_role (role z) at ≡ limit z

-- what is read, unless there is a fault
abbrev pub fault_or : Option Fault → Result Tree Fault → Result Tree Fault
fault_or None r = r
fault_or (Some fault) r = Err fault

-- no more tokens are left to the parser than before
abbrev pub NoLonger : Parser → Parser → Type 0
NoLonger old new = length new.rest.now ≤ length old.rest.now

-- fewer tokens are left to it than before
abbrev pub IsShorter : Parser → Parser → Type 0
IsShorter old new = length new.rest.now < length old.rest.now

-- the parser read what these steps want, and gives it: after it the reading goes on where the parser stands now
abbrev pub Goes : {A : Type 0} → ((A → Steps) → Steps) → Parser → Parser → Result A (Refusal Fault) → Type 0
Goes {A} steps old new result = (k : A → Steps) → Gives (λ read. run new.end (k read) new.rest.now) result (run old.end (steps k) old.rest.now)

-- the same, where what it gives is a vector of what these steps want
abbrev pub GoesAll : {A : Type 0} → ((List A → Steps) → Steps) → Parser → Parser → Result (Vec A Global) (Refusal Fault) → Type 0
GoesAll {A} steps old new result = (k : List A → Steps) → Gives (λ read. run new.end (k read.items) new.rest.now) result (run old.end (steps k) old.rest.now)
