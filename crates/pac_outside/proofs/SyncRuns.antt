-- Devices that are synced one after another leave what they might have left before.
use Rattle.std.proofs.Common.{◌≡◌, ◌∙◌, ℕ, List, Option, ap}
use Rattle.pac_outside.specs.Disk.{DiskHistory, LeavesAsBefore, BothKnown}
use Rattle.pac_outside.specs.declared.devices.Devices.{Devices}
use Rattle.pac_outside.specs.Devices.{AreImages, RunsAsBefore, IfAllKnown, WhichDevice, all_known, device_at, with_device}
use Rattle.pac_outside.specs.Devices.RunLeaves.{rests}
use Rattle.pac_outside.specs.Parts.{known_read, known_reads}
use Rattle.pac_outside.proofs.Runs.{four, run_then, run_end, sync_runs, knows_on, knows_then, log_knows, log_b_knows, a_knows, b_knows}

-- what was as before a call is as before after it
abbrev StaysAsBefore : Devices DiskHistory → Devices DiskHistory → Type 0
StaysAsBefore old new = (start : Devices DiskHistory) → RunsAsBefore start old → RunsAsBefore start new

-- one device more is synced
one_more : (which : WhichDevice) (devices : Devices DiskHistory) (new : DiskHistory) → LeavesAsBefore (device_at which devices) new → StaysAsBefore devices (with_device which new devices)
one_more which devices new run start first = run_then (AreImages start) start devices (with_device which new devices) first
    (sync_runs (AreImages start) which devices new (run_end (AreImages start) start devices first) run)

both_stay : (a b c : Devices (Option DiskHistory)) → IfAllKnown StaysAsBefore a b → IfAllKnown StaysAsBefore b c → IfAllKnown StaysAsBefore a c
both_stay a b c = knows_then StaysAsBefore StaysAsBefore StaysAsBefore (λ x y z first second start run. second start (first start run)) (all_known a) (all_known b) (all_known c)

started : (a b : Devices (Option DiskHistory)) → IfAllKnown StaysAsBefore a b → IfAllKnown RunsAsBefore a b
started a b = knows_on StaysAsBefore RunsAsBefore (λ old new stays. stays old (rests old (λ images are. are))) (all_known a) (all_known b)

module _ (l m k : Option DiskHistory) (first : BothKnown LeavesAsBefore l m) where
  one_stays : (a b : Option DiskHistory) → IfAllKnown StaysAsBefore (four l k a b) (four m k a b)
  one_stays a b = log_knows LeavesAsBefore StaysAsBefore one_more l m k a b first

  pub one_synced : (a b : Option DiskHistory) → IfAllKnown RunsAsBefore (four l k a b) (four m k a b)
  one_synced a b = started (four l k a b) (four m k a b) (one_stays a b)

  module _ (n : Option DiskHistory) (second : BothKnown LeavesAsBefore k n) where
    two_stay : (a b : Option DiskHistory) → IfAllKnown StaysAsBefore (four l k a b) (four m n a b)
    two_stay a b = both_stay (four l k a b) (four m k a b) (four m n a b) (one_stays a b) (log_b_knows LeavesAsBefore StaysAsBefore one_more m k n a b second)

    pub two_synced : (a b : Option DiskHistory) → IfAllKnown RunsAsBefore (four l k a b) (four m n a b)
    two_synced a b = started (four l k a b) (four m n a b) (two_stay a b)

    three_stay : (a c b : Option DiskHistory) → BothKnown LeavesAsBefore a c → IfAllKnown StaysAsBefore (four l k a b) (four m n c b)
    three_stay a c b third = both_stay (four l k a b) (four m n a b) (four m n c b) (two_stay a b) (a_knows LeavesAsBefore StaysAsBefore one_more m n a c b third)

    pub three_synced : (a c b : Option DiskHistory) → BothKnown LeavesAsBefore a c → IfAllKnown RunsAsBefore (four l k a b) (four m n c b)
    three_synced a c b third = started (four l k a b) (four m n c b) (three_stay a c b third)

    pub four_synced : (a c b d : Option DiskHistory) → BothKnown LeavesAsBefore a c → BothKnown LeavesAsBefore b d → IfAllKnown RunsAsBefore (four l k a b) (four m n c d)
    four_synced a c b d third fourth = started (four l k a b) (four m n c d) (both_stay (four l k a b) (four m n c b) (four m n c d) (three_stay a c b third) (b_knows LeavesAsBefore StaysAsBefore one_more m n c b d fourth))

-- what a read gives of each device stays
pub four_reads : (l m k n a c b d : Option DiskHistory) → known_read m ≡ known_read l → known_read n ≡ known_read k → known_read c ≡ known_read a → known_read d ≡ known_read b → known_reads (four m n c d) ≡ known_reads (four l k a b)
four_reads l m k n a c b d first second third fourth =
    ap (λ (r : Option (List ℕ)). four r (known_read n) (known_read c) (known_read d)) first ∙ ap (λ (r : Option (List ℕ)). four (known_read l) r (known_read c) (known_read d)) second
    ∙ ap (λ (r : Option (List ℕ)). four (known_read l) (known_read k) r (known_read d)) third ∙ ap (λ (r : Option (List ℕ)). four (known_read l) (known_read k) (known_read a) r) fourth
