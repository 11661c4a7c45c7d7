-- Each is the analysis of the same programs and tables.
use Rattle.std.proofs.Common.{refl, sym}
use Rattle.pac_plan.proofs.OnePlan.{one_plan}
use Rattle.pac_plan.proofs.laws.one_plan.Goals as goal

pub returns : goal.returns
returns c = one_plan c.args.plan.now.programs c.args.plan.now.tables
    (record { parts = c.args.plan.now; analysis = c.is_plan.ensures.analysis; same_programs = refl; same_tables = refl })
    (record { parts = c.args.other.now; analysis = c.is_plan-2.ensures.analysis; same_programs = sym c.requires.programs; same_tables = sym c.requires.tables })
