use Rattle.pac_lanes.proofs.ShareLemmas.{share_is_partial, picks_these, may_be_parted, applied_is_code, applied_is_every}
use Rattle.pac_lanes.proofs.share.Goals as goal

pub returns : goal.returns
returns c = record { partial = share_is_partial; picks = picks_these; parted = may_be_parted; every = applied_is_every; code = applied_is_code }
