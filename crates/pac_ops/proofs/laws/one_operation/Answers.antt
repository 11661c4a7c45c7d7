use Rattle.pac_ops.proofs.EffectLemmas.{value-alike, form, reason_form, flat_cell-alike, flat_effect-alike}
use Rattle.pac_ops.proofs.OwnLemmas.{own}
use Rattle.pac_ops.proofs.laws.one_operation.Goals as goal

pub returns : goal.returns
returns c = record { value = value-alike; form = λ vars op s. (form vars op s, reason_form vars op s); effect = λ vars op env env' row same. (flat_cell-alike op env env' same, flat_effect-alike vars op env env' row same); own = own }
