-- A line that asks nothing is skipped.
use Rattle.std.proofs.Common.{[], false, Option, subst, sym}
use Rattle.pac_outside.specs.Devices.{each}
use Rattle.pac_request.specs.declared.request.Request.{Request}
use Rattle.pac_engine.specs.declared.parts.EngineParts.{EngineParts}
use Rattle.pac_run.specs.Asked.{LineAsks, listed_asked}
use Rattle.pac_run.specs.Serving.{LineServed}
use Rattle.pac_run.proofs.AnswerLemmas.{answered-none, nothing-stands}
use Rattle.pac_run.proofs.ServeLemmas.{took-nothing}
use Rattle.pac_run.proofs.serving.serve_line.Goals as goal

pub returns-in_default-clause-ok : goal.returns-in_default-clause-ok
returns-in_default-clause-ok g c =
    let held = g.O.Sink.held c.args.output.now in
    let known = each g.D.Disk.known c.args.devices.now in
    subst (λ (e : EngineParts). LineServed c.args.catalogue.now c.args.line.now false c.args.engine.now e held held known known) (sym c.spare_args-room.ensures) (record {
      asked = [];
      asks = subst (λ (o : Option Request). LineAsks c.args.catalogue.now c.args.line.now (listed_asked o)) c.in_default.is c.in_ok-asked.ensures.asks;
      stop = tt;
      replied = record { more = []; took = took-nothing _; answered = answered-none c.args.engine.now known (nothing-stands c.args.engine.now known) };
    })
