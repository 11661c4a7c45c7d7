-- The catalogue of the bank: the tables and procedures that it has.
use Rattle.std.specs.Prelude.{ℕ, List, [], ◌∷◌, codes}
use Rattle.pac_value.specs.declared.values.Ty.TheVariants.{Int as IntTy}
use Rattle.pac_value.specs.declared.expr.BinOp.TheVariants.{Add, Sub, Div, Ne, Gt}
use Rattle.pac_value.specs.declared.expr.Expr.{Lit, Var, Bin}
use Rattle.pac_types.specs.declared.table.Column.{Column}
use Rattle.pac_types.specs.declared.table.Table.{Table}
use Rattle.pac_types.specs.declared.procedure.Proc.{Proc}
use Rattle.pac_types.specs.declared.statement.Stmt.{Read, Put, If}
use Rattle.pac_types.specs.Typing.{CatalogueState}
use Rattle.pac_script.specs.Stress.{number}

-- a column or a parameter of ints
abbrev pub int_named : List ℕ → Column
int_named name = record { name = name; ty = IntTy }

-- a table of ints by ints
abbrev pub ints_by_int : List ℕ → List ℕ → Table
ints_by_int name column = record { name = name; key = IntTy; columns = int_named column ∷ [] }

-- the tables, by their numbers
abbrev pub bank_tables : List Table
bank_tables =
    ints_by_int (codes "Family") (codes "spouse")
    ∷ ints_by_int (codes "Current") (codes "value")
    ∷ ints_by_int (codes "Saving") (codes "value")
    ∷ ints_by_int (codes "Stats") (codes "count")
    ∷ []

-- the first procedure
abbrev pub transfer_proc : Proc
transfer_proc = record {
  name = codes "Transfer";
  params = int_named (codes "src") ∷ int_named (codes "amount") ∷ [];
  body = Read 2 0 (Var 0) 0 (number 0)
      ∷ If 3 (Bin Ne (Var 2) (Lit (number 0)))
      (Read 4 1 (Var 0) 0 (number 0)
      ∷ Put 1 (Var 0) (Bin Sub (Var 4) (Var 1) ∷ [])
      ∷ Read 5 1 (Var 2) 0 (number 0)
      ∷ Put 1 (Var 2) (Bin Add (Var 5) (Var 1) ∷ [])
      ∷ Read 6 2 (Var 0) 0 (number 0)
      ∷ Put 2 (Var 0) (Bin Add (Var 6) (Lit (number 1)) ∷ [])
      ∷ [])
      []
      ∷ [];
}

-- the second
abbrev pub deposit_proc : Proc
deposit_proc = record {
  name = codes "Deposit";
  params = int_named (codes "name") ∷ int_named (codes "amount") ∷ int_named (codes "nation") ∷ [];
  body = Read 3 1 (Var 0) 0 (number 0)
      ∷ Put 1 (Var 0) (Bin Add (Var 3) (Var 1) ∷ [])
      ∷ If 4 (Bin Gt (Bin Add (Var 3) (Var 1)) (Lit (number 10000)))
      (Read 5 2 (Var 0) 0 (number 0)
      ∷ Put 2 (Var 0) (Bin Add (Var 5) (Bin Div (Var 3) (Lit (number 50))) ∷ [])
      ∷ [])
      []
      ∷ Read 6 3 (Var 2) 0 (number 0)
      ∷ Put 3 (Var 2) (Bin Add (Var 6) (Lit (number 1)) ∷ [])
      ∷ [];
}

-- the catalogue
unfoldable pub bank_catalogue : CatalogueState
bank_catalogue = record { tables = bank_tables; procs = transfer_proc ∷ deposit_proc ∷ [] }
