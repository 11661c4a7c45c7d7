-- The lists so far are in the tables.
use Rattle.std.proofs.Common.{length}
use Rattle.pac_tuple.specs.Laying.{AreLaidWithin}
use Rattle.pac_tuple.proofs.tests.lists_of.Given as goal

abbrev pub invariant-loop : goal.invariant-loop
invariant-loop l = AreLaidWithin (length l.cat.tables) l.images
