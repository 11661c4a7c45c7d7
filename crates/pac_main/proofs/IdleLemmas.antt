-- A run that wasn't begun, and how much a run takes from its input.
use Rattle.std.proofs.Common.{◌≡◌, ◌++◌, ℕ, List, [], ◌∷◌, Option, Some, None, Result, Ok, Err, ◌⊎◌, inl, refl, arith}
use Rattle.std.specs.Prelude.{IfSome}
use Rattle.std.specs.Io.KnownBytes.{append_known, prepend_known}
use Rattle.std.specs.FinMap.{empty}
use Rattle.std.proofs.lemmas.List.{append-nil}
use Rattle.pac_outside.specs.Content.{GaveAtMost}
use Rattle.pac_outside.specs.Devices.{all_known}
use Rattle.pac_outside.specs.Devices.RunLeaves.{rests}
use Rattle.pac_outside.specs.Disk.{DiskHistory}
use Rattle.pac_outside.specs.declared.devices.Devices.{Devices}
use Rattle.pac_types.specs.Typing.{CatalogueState}
use Rattle.pac_store.specs.Images.{IfImagesKnown}
use Rattle.pac_store.proofs.ImageLemmas.{images-any}
use Rattle.pac_request.specs.declared.request.Request.{Request}
use Rattle.pac_request.specs.declared.request.Request.TheVariants as request
use Rattle.pac_session.specs.Groups.{LogSpot}
use Rattle.pac_session.specs.Session.{Rules, SessionState}
use Rattle.pac_restore.specs.declared.errors.LoadError.TheVariants as load
use Rattle.pac_restore.specs.declared.errors.RecoverError.TheVariants as recover
use Rattle.pac_outside.proofs.KnownDevices.{rest-known}
use Rattle.pac_run.specs.Asked.{TookAtMost}
use Rattle.pac_run.specs.Opening.{AllStand}
use Rattle.pac_run.specs.Run.{AtExit, AtMoments, IsBegun, IsRun, WhileAllStand}
use Rattle.pac_run.specs.Stopping.{IsUnopened}
use Rattle.pac_run.specs.declared.limits.TheConstants.{MAX_INPUT}
use Rattle.pac_run.specs.declared.stop.RunStop.{RunStop}
use Rattle.pac_run.specs.declared.stop.RunStop.TheVariants as run

-- what is taken, by how the run ends
few_taken : (left left' : Option (List ℕ)) → TookAtMost MAX_INPUT left left' → GaveAtMost 67108865 left left'
few_taken left left' took = record { bytes = took.bytes; within = omega (arith, took.few); prefix = took.gave }

pub run-taken : (group_size limit : ℕ) (left left' held held' : Option (List ℕ)) (known known' : Devices (Option DiskHistory)) (faulted : Type 0) (end : Result (Unit {0}) RunStop)
    → IsRun group_size limit left left' held held' known known' faulted end → GaveAtMost 67108865 left left'
run-taken group_size limit left left' held held' known known' faulted (Ok done) ran = few_taken left left' (ran.few (λ e. absurd cc))
run-taken group_size limit left left' held held' known known' faulted (Err (run.Opening error)) ran = few_taken left left' (ran.few (λ e. absurd cc))
run-taken group_size limit left left' held held' known known' faulted (Err run.InputFault) ran = few_taken left left' (ran.few (λ e. absurd cc))
run-taken group_size limit left left' held held' known known' faulted (Err run.OutputFault) ran = few_taken left left' (ran.few (λ e. absurd cc))
run-taken group_size limit left left' held held' known known' faulted (Err run.DiskFault) ran = few_taken left left' (ran.few (λ e. absurd cc))
run-taken group_size limit left left' held held' known known' faulted (Err run.NoMemory) ran = few_taken left left' (ran.few (λ e. absurd cc))
run-taken group_size limit left left' held held' known known' faulted (Err (run.LogFull need)) ran = few_taken left left' (ran.few (λ e. absurd cc))
run-taken group_size limit left left' held held' known known' faulted (Err run.TooLong) ran = let long = ran.long refl in record { bytes = long.bytes; within = omega (arith, long.more); prefix = long.gave }
run-taken group_size limit left left' held held' known known' faulted (Err (run.TooLarge bytes)) ran = few_taken left left' (ran.few (λ e. absurd cc))

-- ---- nothing is read and no device is called

prepend_none : (known : Option (List ℕ)) → known ≡ prepend_known [] known
prepend_none None = refl
prepend_none (Some bytes) = refl

append_none : (known : Option (List ℕ)) → known ≡ append_known known []
append_none None = refl
append_none (Some bytes) = let nil : bytes ++ [] ≡ bytes = append-nil bytes in cc

none_saved : (before rest : List Request) → [] ≡ before ++ request.Save ∷ rest → ⊥
none_saved [] rest e = absurd cc
none_saved (b ∷ bs) rest e = absurd cc

idle_handled : (left : Option (List ℕ)) → IfSome left (λ text. (rest : List ℕ) × (prepend_known [] left ≡ Some rest) × (text ≡ rest))
idle_handled None = tt
idle_handled (Some text) = (text, refl, refl)

abbrev no_catalogue : CatalogueState
no_catalogue = record { tables = []; procs = [] }

-- of a run that reads nothing it makes no difference which session would begin
abbrev idle_rules : ℕ → ℕ → Rules
idle_rules group_size limit = record { catalogue = no_catalogue; limit = limit; most = group_size }

abbrev idle_start : SessionState
idle_start = record { tables = empty; number = 0 }

abbrev idle_spot : LogSpot
idle_spot = record { place = 0; reach = 0; next = 0 }

-- there was no memory for the arguments
abbrev pub no_memory : RunStop
no_memory = run.Opening (recover.Load load.NoMemory)

idle_begun : (rules : Rules) (spot : LogSpot) (start : SessionState) (known : Devices (Option DiskHistory)) → IfImagesKnown (λ images. IsUnopened (Err no_memory) [] ⊎ IsBegun rules spot start images) known
idle_begun rules spot start = images-any (λ images. IsUnopened (Err no_memory) [] ⊎ IsBegun rules spot start images) (λ images. inl ((recover.Load load.NoMemory, refl), refl))

idle_exit : (rules : Rules) (start : SessionState) (known : Devices (Option DiskHistory)) → WhileAllStand (λ text catalogue history least. AtExit text catalogue history rules idle_spot start [] []) known known
idle_exit rules start known = λ text catalogue history least.
    rest-known (AllStand text catalogue history least) (AtExit text catalogue history rules idle_spot start [] []) (λ devices stand. inl (refl, λ images are. are)) (all_known known)

idle_moments : (rules : Rules) (start : SessionState) (known : Devices (Option DiskHistory)) → WhileAllStand (λ text catalogue history least. AtMoments text catalogue history least rules start []) known known
idle_moments rules start known = λ text catalogue history least.
    rest-known (AllStand text catalogue history least) (AtMoments text catalogue history least rules start []) (λ devices stand. rests devices (λ images are. inl are)) (all_known known)

pub idle-run : (group_size limit : ℕ) (left held : Option (List ℕ)) (known : Devices (Option DiskHistory)) (faulted : Type 0) → IsRun group_size limit left left held held known known faulted (Err no_memory)
idle-run group_size limit left held known faulted = record {
  lines = [];
  ahead = [];
  handled = idle_handled left;
  few = λ other. record { bytes = []; gave = prepend_none left; few = omega arith };
  long = λ e. absurd cc;
  cut = λ e. refl;
  no_further = λ input long memory. omega arith;
  rules = idle_rules group_size limit;
  requests = [];
  asked = inl refl;
  last = tt;
  out = [];
  took = append_none held;
  limited = refl;
  most = refl;
  start = idle_start;
  spot = idle_spot;
  begun = idle_begun (idle_rules group_size limit) idle_spot idle_start known;
  prefix = record { count = 0; is = refl };
  whole = tt;
  exact = λ e. absurd e;
  large = λ bytes e. absurd cc;
  full = λ need e. absurd cc;
  torn = λ e. absurd cc;
  slots = λ none. refl;
  still = λ none. refl;
  there = inl ((recover.Load load.NoMemory, refl), refl);
  exit = idle_exit (idle_rules group_size limit) idle_start known;
  moments = idle_moments (idle_rules group_size limit) idle_start known;
  given = [];
  written = record { count = 0; is = refl };
  all = inl refl;
  fit = inl (record { before = []; rest = []; split = refl; replied = refl; fit = tt });
  saves = λ before rest same handled. absurd (none_saved before rest same);
  stopped = inl ((recover.Load load.NoMemory, refl), refl, refl);
}
