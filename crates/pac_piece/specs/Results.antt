-- What is seen of work that is done.
use Rattle.std.specs.Prelude.{List, Option}
use Rattle.pac_value.specs.Expressions.{Values}
use Rattle.pac_ops.specs.declared.note.Note.{Note}
use Rattle.pac_tables.specs.declared.writes.Write.{Write}
use Rattle.pac_piece.specs.declared.work.Work.{Work}

-- work, the rows that it wrote, the variables that it gave values, and its least note
pub record WorkDone : Type 0 where
  pub work : Work
  pub writes : List Write
  pub outs : Values
  pub note : Option Note
