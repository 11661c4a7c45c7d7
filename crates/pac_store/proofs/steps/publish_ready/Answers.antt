-- The spare slot alone is called.
use Rattle.std.proofs.Common.{[]}
use Rattle.std.proofs.lemmas.Result.{on_ok_weaker}
use Rattle.pac_outside.specs.GateByte.{IsOpen, OneImage}
use Rattle.pac_store.specs.Writing.{known_with}
use Rattle.pac_store.proofs.StepLemmas.{after-both, publish-keeps, publish-stands}
use Rattle.pac_store.proofs.steps.publish_ready.Goals as goal

pub returns-clause-keeps : goal.returns-clause-keeps
returns-clause-keeps g c = λ text k h form batches held ready is. publish-keeps text k h (known_with c.args.slots.now form batches) held ready _ _ _ _ _ _ (c.publish.ensures.any_moment _ _ is) c.publish.ensures.other

pub returns-clause-stands : goal.returns-clause-stands
returns-clause-stands g c = on_ok_weaker c.publish.result (λ opens. λ text k h form batches held ready is. publish-stands text k h (known_with c.args.slots.now form batches) held ready _ _ _ _ _ _ (opens _ _ is) c.publish.ensures.other) c.publish.ensures.published

pub returns-clause-published : goal.returns-clause-published
returns-clause-published g c = on_ok_weaker c.publish.result (λ opens. λ head text is. after-both (λ n. OneImage (IsOpen [] text) n.now) _ _ (opens head text is)) c.publish.ensures.published
