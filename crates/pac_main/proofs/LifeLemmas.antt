-- What is said of a `run` makes it a run of a store's life.
use Rattle.std.proofs.Common.{◌≡◌, ℕ, Option, Some, refl, subst}
use Rattle.pac_outside.specs.Devices.{WhileKnown, all_known}
use Rattle.pac_outside.specs.Disk.{DiskHistory}
use Rattle.pac_outside.specs.declared.devices.Devices.{Devices}
use Rattle.pac_main.specs.Headline.{IsRunThat, OneRun}
use Rattle.pac_main.specs.Histories.{FoundStanding, LeavesHistory}
use Rattle.pac_main.specs.Run.{RunEnds}
use Rattle.pac_main.specs.Streams.{Observed, ObservedDevices}

module _ {group_size limit status : ℕ} {input output errors : Observed} {devices : ObservedDevices} (ends : RunEnds group_size limit status input output errors devices) (entry exit : Devices DiskHistory)
    (known : all_known devices.before ≡ Some entry) (known' : all_known devices.after ≡ Some exit) where
  the-run : OneRun
  the-run = record {
    rules = ends.is.rules;
    start = ends.is.start;
    requests = ends.is.requests;
    out = ends.is.out;
    entry = entry;
    exit = exit;
    leaves = λ text catalogue history least.
        let Found = FoundStanding text catalogue history least in
        let Leaves = LeavesHistory text catalogue history least ends.is.rules ends.is.start ends.is.requests ends.is.out in
        subst (WhileKnown Found Leaves (Some entry)) known' (subst (λ (old : Option (Devices DiskHistory)). WhileKnown Found Leaves old (all_known devices.after)) known (ends.leaves text catalogue history least));
  }

  pub run-of : (run : OneRun) × IsRunThat ends entry exit run
  unfolding the-run
  run-of = (the-run, record { rules = refl; start = refl; requests = refl; entered = refl; left = refl; took = ends.is.took })
