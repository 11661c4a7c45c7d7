-- What is written, and what is left.
use Rattle.std.proofs.Common.{◌≡◌, ◌++◌, drop}
use Rattle.pac_report.specs.Explain.{procs_text}
use Rattle.pac_report.proofs.explain.explain_text.Given as goal

abbrev pub invariant-loop-p : goal.invariant-loop-p
invariant-loop-p l = l.out.items ++ procs_text (drop l.p l.fn.cat.procs) (drop l.p l.fn.graphs) ≡ procs_text l.fn.cat.procs l.fn.graphs
