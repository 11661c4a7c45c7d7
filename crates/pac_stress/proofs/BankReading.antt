-- The bank's text is read as this tree: computed from the text.
use Rattle.std.proofs.Common.{◌≡◌, ◌≤◌, ℕ, List, [], ◌∷◌, length, Option, Some, None, Ok, refl, arith}
use Rattle.std.specs.Prelude.{codes}
use Rattle.pac_value.specs.declared.values.Ty.TheVariants.{Int as IntTy}
use Rattle.pac_value.specs.declared.expr.BinOp.TheVariants.{Add, Sub, Div, Ne, Gt}
use Rattle.pac_tokens.specs.declared.token.Spanned.{Spanned}
use Rattle.pac_tokens.specs.declared.lexer.Before.TheVariants.{Other}
use Rattle.pac_tokens.specs.Tokens.{keyword_of}
use Rattle.pac_tokens.specs.Lexing.{symbol_of}
use Rattle.pac_syntax.specs.declared.tree.NameNode.{NameNode}
use Rattle.pac_syntax.specs.declared.tree.LiteralNode.{LiteralNode}
use Rattle.pac_syntax.specs.declared.tree.ColumnNode.{ColumnNode}
use Rattle.pac_syntax.specs.declared.tree.ExprNode.{ExprNode, Literal, Name, Binary}
use Rattle.pac_syntax.specs.declared.tree.StmtNode.{Read, Put, If}
use Rattle.pac_syntax.specs.declared.tree.TableNode.{TableNode}
use Rattle.pac_syntax.specs.declared.tree.ProcNode.{ProcNode}
use Rattle.pac_syntax.specs.declared.tree.Tree.{Tree}
use Rattle.pac_syntax.specs.Machine.{feed, finish, scan, start}
use Rattle.pac_syntax.specs.Reading.{Reads}
use Rattle.pac_syntax.proofs.Meets.{reads_ok}
use Rattle.pac_script.specs.Stress.{number}
use Rattle.pac_script.specs.BankText.{bank_text}
use Rattle.pac_stress.proofs.Tokens.{lexed_as, tokens_from}

-- ---- the tree, by the offset of each name and expression

abbrev pub named : ℕ → List ℕ → NameNode
named at name = record { at = at; name = name }

abbrev pub name_at : ℕ → List ℕ → ExprNode
name_at at name = Name (named at name)

abbrev pub literal_of : ℕ → ℕ → LiteralNode
literal_of at n = record { at = at; value = number n }

abbrev pub number_at : ℕ → ℕ → ExprNode
number_at at n = Literal (literal_of at n)

abbrev pub int_column_at : ℕ → List ℕ → ColumnNode
int_column_at at name = record { name = named at name; ty = IntTy }

abbrev pub table_at : ℕ → List ℕ → ColumnNode → TableNode
table_at at name column = record { name = named at name; key = IntTy; columns = column ∷ [] }

abbrev pub transfer_node : ProcNode
transfer_node = record {
  name = named 142 (codes "Transfer");
  params = int_column_at 151 (codes "src") ∷ int_column_at 160 (codes "amount") ∷ [];
  body = Read (named 181 (codes "dst")) (named 187 (codes "Family")) (name_at 194 (codes "src")) (named 199 (codes "spouse")) (literal_of 214 0)
      ∷ If (Binary 222 Ne (name_at 222 (codes "dst")) (number_at 229 0))
      (Read (named 242 (codes "a")) (named 246 (codes "Current")) (name_at 254 (codes "src")) (named 259 (codes "value")) (literal_of 273 0)
      ∷ Put (named 284 (codes "Current")) (name_at 292 (codes "src")) (Binary 300 Sub (name_at 300 (codes "a")) (name_at 304 (codes "amount")) ∷ [])
      ∷ Read (named 322 (codes "b")) (named 326 (codes "Current")) (name_at 334 (codes "dst")) (named 339 (codes "value")) (literal_of 353 0)
      ∷ Put (named 364 (codes "Current")) (name_at 372 (codes "dst")) (Binary 380 Add (name_at 380 (codes "b")) (name_at 384 (codes "amount")) ∷ [])
      ∷ Read (named 402 (codes "s")) (named 406 (codes "Saving")) (name_at 413 (codes "src")) (named 418 (codes "value")) (literal_of 432 0)
      ∷ Put (named 443 (codes "Saving")) (name_at 450 (codes "src")) (Binary 458 Add (name_at 458 (codes "s")) (number_at 462 1) ∷ [])
      ∷ [])
      []
      ∷ [];
}

abbrev pub deposit_node : ProcNode
deposit_node = record {
  name = named 477 (codes "Deposit");
  params = int_column_at 485 (codes "name") ∷ int_column_at 495 (codes "amount") ∷ int_column_at 507 (codes "nation") ∷ [];
  body = Read (named 528 (codes "v")) (named 532 (codes "Current")) (name_at 540 (codes "name")) (named 546 (codes "value")) (literal_of 560 0)
      ∷ Put (named 569 (codes "Current")) (name_at 577 (codes "name")) (Binary 586 Add (name_at 586 (codes "v")) (name_at 590 (codes "amount")) ∷ [])
      ∷ If (Binary 604 Gt (Binary 604 Add (name_at 604 (codes "v")) (name_at 608 (codes "amount"))) (number_at 617 10000))
      (Read (named 634 (codes "s")) (named 638 (codes "Saving")) (name_at 645 (codes "name")) (named 651 (codes "value")) (literal_of 665 0)
      ∷ Put (named 676 (codes "Saving")) (name_at 683 (codes "name")) (Binary 692 Add (name_at 692 (codes "s")) (Binary 696 Div (name_at 696 (codes "v")) (number_at 700 50)) ∷ [])
      ∷ [])
      []
      ∷ Read (named 716 (codes "n")) (named 720 (codes "Stats")) (name_at 726 (codes "nation")) (named 734 (codes "count")) (literal_of 748 0)
      ∷ Put (named 757 (codes "Stats")) (name_at 763 (codes "nation")) (Binary 774 Add (name_at 774 (codes "n")) (number_at 778 1) ∷ [])
      ∷ [];
}

abbrev pub bank_tree : Tree
bank_tree = record {
  tables = table_at 6 (codes "Family") (int_column_at 22 (codes "spouse"))
      ∷ table_at 41 (codes "Current") (int_column_at 58 (codes "value"))
      ∷ table_at 76 (codes "Saving") (int_column_at 92 (codes "value"))
      ∷ table_at 110 (codes "Stats") (int_column_at 125 (codes "count"))
      ∷ [];
  procs = transfer_node ∷ deposit_node ∷ [];
}

-- ---- it is read

abbrev found_tokens : Option (List Spanned) → List Spanned
found_tokens None = []
found_tokens (Some ts) = ts

-- the tokens of the text, which are fewer than 300
bank_tokens : List Spanned
bank_tokens = found_tokens (tokens_from 300 Other 0 bank_text)

tokens_are : tokens_from 300 Other 0 bank_text ≡ Some bank_tokens
unfolding bank_tokens tokens_from bank_text keyword_of symbol_of
tokens_are = refl

tree_is : scan 784 start bank_tokens ≡ Ok bank_tree
unfolding bank_tokens tokens_from bank_text keyword_of symbol_of scan feed finish
tree_is = refl

text_short : length bank_text ≤ 65536
unfolding bank_text
text_short = omega arith

pub bank_reads : Reads bank_text bank_tree
bank_reads = record {
  short = text_short;
  tokens = bank_tokens;
  lexed = lexed_as 300 Other 0 bank_text bank_tokens tokens_are;
  parsed = reads_ok 784 bank_tokens bank_tree tree_is;
}
