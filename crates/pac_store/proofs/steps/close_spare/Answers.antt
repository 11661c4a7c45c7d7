-- The spare slot alone is called.
use Rattle.std.proofs.Common.{subst, sym}
use Rattle.std.proofs.lemmas.Result.{on_ok_weaker}
use Rattle.pac_outside.specs.Disk.{IfKnown}
use Rattle.pac_outside.specs.GateByte.{OneImage}
use Rattle.pac_check.specs.declared.slots.Slots.{Slots}
use Rattle.pac_check.specs.Replacing.{BeginsAs}
use Rattle.pac_store.specs.Writing.{known_with}
use Rattle.pac_store.proofs.StepLemmas.{close-keeps, close-stands, closed-begins, on_both}
use Rattle.pac_store.proofs.steps.close_spare.Goals as goal

pub returns-clause-keeps : goal.returns-clause-keeps
returns-clause-keeps g c = λ text k h form batches. close-keeps text k h (known_with c.args.slots.now form batches) _ _ _ _ _ _ c.close_older.ensures.any_moment c.close_older.ensures.other

pub returns-clause-stands : goal.returns-clause-stands
returns-clause-stands g c = on_ok_weaker c.close_older.result (λ shut. λ text k h form batches. close-stands text k h (known_with c.args.slots.now form batches) _ _ _ _ _ _ shut c.close_older.ensures.other) c.close_older.ensures.closed

pub returns-clause-begins_a : goal.returns-clause-begins_a
returns-clause-begins_a g c = on_both c.close_older.result (λ is shut. subst (λ (s : Slots). IfKnown (λ n. OneImage (BeginsAs s.a) n.now) (g.D.Disk.known c.close_older.new.a)) (sym is) (closed-begins c.args.slots.now _ _ _ _ c.requires.begins_a c.requires.begins_b shut c.close_older.ensures.other).0) c.close_older.ensures.slots c.close_older.ensures.closed

pub returns-clause-begins_b : goal.returns-clause-begins_b
returns-clause-begins_b g c = on_both c.close_older.result (λ is shut. subst (λ (s : Slots). IfKnown (λ n. OneImage (BeginsAs s.b) n.now) (g.D.Disk.known c.close_older.new.b)) (sym is) (closed-begins c.args.slots.now _ _ _ _ c.requires.begins_a c.requires.begins_b shut c.close_older.ensures.other).1) c.close_older.ensures.slots c.close_older.ensures.closed
