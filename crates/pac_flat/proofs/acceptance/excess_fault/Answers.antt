-- The first procedure at which operations are too many is one of the catalogue's.
use Rattle.std.proofs.Common.{◌≡◌, ℕ, ◌<◌, List, length, get_or, Some, sym, ap, ◌∙◌, arith}
use Rattle.std.specs.Option.{option_map}
use Rattle.std.proofs.lemmas.Option.{slice_get-get_or}
use Rattle.pac_types.specs.declared.procedure.Proc.{Proc}
use Rattle.pac_types.specs.OperationLimits.{IsFirstExcess}
use Rattle.pac_flat.proofs.ExcessLemmas.{excess_within}
use Rattle.pac_flat.specs.Unaccepted.{IsExcess}
use Rattle.pac_flat.proofs.acceptance.excess_fault.Goals as goal

within : (procs shown : List Proc) (n k count : ℕ) → shown ≡ procs → k ≡ n → IsFirstExcess procs n count → k < length shown
within procs shown n k count same at first =
    let lt : n < length procs = excess_within procs n count first.here in
    let long : length shown ≡ length procs = ap length same in
    omega (arith, lt, at, long)

named : (procs shown : List Proc) (n k count : ℕ) (proc : Proc) → shown ≡ procs → k ≡ n → IsFirstExcess procs n count → IsExcess procs (get_or shown k proc).name count
named procs shown n k count proc same at first = record {
  number = n;
  first = first;
  named = ap (option_map (λ (p : Proc). p.name)) (slice_get-get_or procs n proc (excess_within procs n count first.here))
      ∙ sym (ap (λ (xs : List Proc). Some (get_or xs k proc).name) same ∙ ap (λ (i : ℕ). Some (get_or procs i proc).name) at);
}

pub bounds-procs-from : goal.bounds-procs-from
bounds-procs-from c = within c.args.catalogue.now.procs _ _ _ _ c.procs.ensures.value c.from.ensures c.requires

pub returns : goal.returns
returns c = named c.args.catalogue.now.procs c.procs.result.now c.args.excess.proc c.from.result c.args.excess.count c.index-procs-from.result c.procs.ensures.value c.from.ensures c.requires
