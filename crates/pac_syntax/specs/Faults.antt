-- The limits of the grammar, what is read, and the first fault of what isn't.
use Rattle.std.specs.Prelude.{◌≡◌, ◌⊎◌, ℕ, ◌≤◌, List, [], ◌∷◌, ◌++◌, length, Option, Some, None, nat_lt, if◌then◌else◌}
use Rattle.std.specs.List.{AllByRecursion}
use Rattle.pac_value.specs.declared.limits.TheConstants.{MAX_COLUMNS, MAX_PARAMS, MAX_TABLES, MAX_PROCS}
use Rattle.pac_syntax.specs.declared.limits.TheConstants.{MAX_OPERATORS, MAX_PARENS, MAX_NESTED, MAX_TURNS}
use Rattle.pac_tokens.specs.declared.token.Spanned.{Spanned}
use Rattle.pac_tokens.specs.declared.fault.FaultKind.{FaultKind}
use Rattle.pac_tokens.specs.declared.fault.FaultKind.TheVariants.{Token, Expected, TooLong, TooDeep, TooMany}
use Rattle.pac_tokens.specs.declared.fault.Fault.{Fault}
use Rattle.pac_syntax.specs.declared.tree.Tree.{Tree}
use Rattle.pac_syntax.specs.Grammar.{Role, Plain, TableWord, ProcWord, ColumnName, ParamName, Operator, Paren, Nested, LastBound, Marked, Whole, tokens_of}

-- a fault of this kind at this offset
abbrev pub fault_of : FaultKind → ℕ → Fault
fault_of kind at = record { at = at; kind = kind }

-- a fault where a number is over its limit
abbrev pub past : ℕ → ℕ → Fault → Option Fault
past limit n fault = if nat_lt limit n then Some fault else None

-- The fault of a token of this role at this offset, where it is over its limit. It is reported at the token; but that of a
-- loop, which its second bound settles, at the loop's `for`. That the fault that is settled first has the least offset all the
-- same is a law (`the_first_fault_has_the_least_offset`).
abbrev pub over_role : Role → ℕ → Option Fault
over_role Plain at = None
over_role (TableWord n) at = past MAX_TABLES n (fault_of TooMany at)
over_role (ProcWord n) at = past MAX_PROCS n (fault_of TooMany at)
over_role (ColumnName n) at = past MAX_COLUMNS n (fault_of TooMany at)
over_role (ParamName n) at = past MAX_PARAMS n (fault_of TooMany at)
over_role (Operator n) at = past MAX_OPERATORS n (fault_of TooMany at)
over_role (Paren n) at = past MAX_PARENS n (fault_of TooDeep at)
over_role (Nested n) at = past MAX_NESTED n (fault_of TooDeep at)
over_role (LastBound n loop) at = past MAX_TURNS n (fault_of TooMany loop)

-- the fault of a token, where it is over its limit
abbrev pub over : Marked → Option Fault
over m = over_role m.role m.token.at

-- the token is over no limit
abbrev pub IsWithin : Marked → Type 0
IsWithin m = over m ≡ None

-- the tokens are a catalogue's within the limits, and this is its tree
abbrev pub ReadsTokens : List Spanned → Tree → Type 0
ReadsTokens ts tree = (ms : List Marked) × Whole ms tree × (tokens_of ms ≡ ts) × AllByRecursion IsWithin ms

-- a catalogue begins with these tokens, or is these tokens
abbrev pub IsViable : List Spanned → Type 0
IsViable p = (ms : List Marked) × (tree : Tree) × (more : List Spanned) × Whole ms tree × (tokens_of ms ≡ p ++ more)

-- a catalogue may begin with the tokens p, but not with the next token too; or the text ends after p, and p is no catalogue
abbrev pub IsUnexpected : List Spanned → List Spanned → Type 0
IsUnexpected p [] = IsViable p × ((ms : List Marked) (tree : Tree) → Whole ms tree → tokens_of ms ≡ p → ⊥)
IsUnexpected p (t ∷ r) = IsViable p × (IsViable (p ++ (t ∷ [])) → ⊥)

-- in a catalogue that begins so, the token after p is over a limit
abbrev pub IsOverAt : List Spanned → List Spanned → Fault → Type 0
IsOverAt p [] fault = ⊥
IsOverAt p (t ∷ r) fault =
    (before after : List Marked) × (role : Role) × (tree : Tree) × Whole (before ++ (record { token = t; role = role } ∷ after)) tree × (tokens_of before ≡ p) × (over_role role t.at ≡ Some fault)

-- the offset of the first of these tokens, or of the end
abbrev pub offset : ℕ → List Spanned → ℕ
offset end [] = end
offset end (t ∷ r) = t.at

-- A fault of the tokens p ++ r at the first token of r, or at the end of a text that ends there.
abbrev pub FaultAt : ℕ → List Spanned → List Spanned → Fault → Type 0
FaultAt end p r fault = ((fault ≡ fault_of Expected (offset end r)) × IsUnexpected p r) ⊎ IsOverAt p r fault

-- which of several faults at one offset is reported
abbrev pub rank : FaultKind → ℕ
rank Token = 0
rank TooLong = 1
rank Expected = 2
rank TooDeep = 3
rank TooMany = 4

-- no fault stands before that after the tokens p, and there it is the first by rank
pub record IsFirst (end : ℕ) (ts p rest : List Spanned) (fault : Fault) : Type 0 where
  pub parts : ts ≡ p ++ rest
  pub stands : FaultAt end p rest fault
  pub least : (p' rest' : List Spanned) (fault' : Fault) → ts ≡ p' ++ rest' → FaultAt end p' rest' fault' → length p ≤ length p'
  pub by_kind : (fault' : Fault) → FaultAt end p rest fault' → rank fault.kind ≤ rank fault'.kind

-- the first fault of the tokens of a text that ends there
abbrev pub IsFirstFault : ℕ → List Spanned → Fault → Type 0
IsFirstFault end ts fault = (p rest : List Spanned) × IsFirst end ts p rest fault
