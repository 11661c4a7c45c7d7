-- The first set that is open is looked at: its first piece comes next, where it waits.
use Rattle.std.proofs.Common.{sym, subst}
use Rattle.pac_core.specs.declared.progress.Progress.{Progress}
use Rattle.pac_core.specs.Links.{ReadyFrom}
use Rattle.pac_core.specs.Moves.{IsNextAt}
use Rattle.pac_core.proofs.FirstMoves.{left_next}
use Rattle.pac_core.proofs.NextReady.{from_open, none_left, seen_keeps}
use Rattle.pac_core.proofs.progress.Progress.next_alone.Goals as goal

pub returns-in_default-clause-next : goal.returns-in_default-clause-next
returns-in_default-clause-next c = λ job keeps seen. none_left job c.args.self.now keeps c.args.self.now.recent seen c.in_default.ensures

pub first_left-requires-clause-keeps : goal.first_left-requires-clause-keeps
first_left-requires-clause-keeps c = record { job = c.requires.job; keeps = seen_keeps c.requires.job c.args.self.now c.in-Some.at c.requires.keeps }

pub returns-in-Some-first_left-clause-sees : goal.returns-in-Some-first_left-clause-sees
returns-in-Some-first_left-clause-sees c = λ job keeps seen. from_open job c.args.self.now keeps c.args.self.now.recent c.in-Some.at seen c.in-Some.ensures

pub returns-in-Some-first_left-clause-next : goal.returns-in-Some-first_left-clause-next
returns-in-Some-first_left-clause-next c = λ job keeps seen.
    let p = c.args.self.now in
    let now : Progress = record p { recent = c.in-Some.at } in
    let from : ReadyFrom job now c.in-Some.at = from_open job p keeps p.recent c.in-Some.at seen c.in-Some.ensures in (
      left_next job now (seen_keeps job p c.in-Some.at keeps) c.in-Some-first_left.place c.in-Some-first_left.piece c.in-Some-first_left.ensures.left
          (subst (ReadyFrom job now) (sym c.in-Some-first_left.ensures.at) from),
      c.in-Some-first_left.ensures.left,
    )

pub next_ready-requires : goal.next_ready-requires
next_ready-requires c = record { job = c.requires.job; keeps = seen_keeps c.requires.job c.args.self.now c.in-Some.at c.requires.keeps }

pub returns-in_err-at-clause-sees : goal.returns-in_err-at-clause-sees
returns-in_err-at-clause-sees c = λ job keeps seen.
    let p = c.args.self.now in
    c.in_err-at.ensures.sees job (seen_keeps job p c.in-Some.at keeps) (from_open job p keeps p.recent c.in-Some.at seen c.in-Some.ensures)

pub returns-in-Some-2-clause-keeps : goal.returns-in-Some-2-clause-keeps
returns-in-Some-2-clause-keeps c = λ job keeps. c.in_ok-at.ensures.keeps job (seen_keeps job c.args.self.now c.in-Some.at keeps)

pub returns-in-Some-2-clause-sees : goal.returns-in-Some-2-clause-sees
returns-in-Some-2-clause-sees c = λ job keeps seen.
    let p = c.args.self.now in
    c.in_ok-at.ensures.sees job (seen_keeps job p c.in-Some.at keeps) (from_open job p keeps p.recent c.in-Some.at seen c.in-Some.ensures)

pub returns-in-Some-2-clause-next : goal.returns-in-Some-2-clause-next
returns-in-Some-2-clause-next c = λ job keeps seen.
    let p = c.args.self.now in
    subst (IsNextAt job c.next_ready.new.self) c.in-Some-2.is
    (c.in_ok-at.ensures.next job (seen_keeps job p c.in-Some.at keeps) (from_open job p keeps p.recent c.in-Some.at seen c.in-Some.ensures))

pub returns-in-None-clause-keeps : goal.returns-in-None-clause-keeps
returns-in-None-clause-keeps c = λ job keeps. c.in_ok-at.ensures.keeps job (seen_keeps job c.args.self.now c.in-Some.at keeps)

pub returns-in-None-clause-sees : goal.returns-in-None-clause-sees
returns-in-None-clause-sees c = λ job keeps seen.
    let p = c.args.self.now in
    c.in_ok-at.ensures.sees job (seen_keeps job p c.in-Some.at keeps) (from_open job p keeps p.recent c.in-Some.at seen c.in-Some.ensures)

pub returns-in-None-clause-next : goal.returns-in-None-clause-next
returns-in-None-clause-next c = λ job keeps seen.
    let p = c.args.self.now in
    subst (IsNextAt job c.next_ready.new.self) c.in-None.is
    (c.in_ok-at.ensures.next job (seen_keeps job p c.in-Some.at keeps) (from_open job p keeps p.recent c.in-Some.at seen c.in-Some.ensures))
