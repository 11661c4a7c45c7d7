-- Devices whose histories are known, and calls of one of them while the others stand still. Here alone stands how many they are.
use Rattle.std.proofs.Common.{◌≡◌, ◌∙◌, Option, Some, None, refl, sym, ap, subst}
use Rattle.pac_outside.specs.Disk.{BothKnown, DiskHistory}
use Rattle.pac_outside.specs.declared.devices.Devices.{Devices}
use Rattle.pac_outside.specs.Devices.{WhichDevice, WhileAllKnown, WhileKnown, all_four, all_known, device_at, each, with_device}
use Rattle.pac_outside.specs.Devices.WhichDevice.{the_log, the_log_b, the_slot_a, the_slot_b}
use Rattle.pac_outside.proofs.Runs.{four}

-- devices are the same where each is
pub devices-same : {A : Type 0} (l k a b m n x y : A) → l ≡ m → k ≡ n → a ≡ x → b ≡ y → four l k a b ≡ four m n x y
devices-same {A} l k a b m n x y log log_b slot_a slot_b = ap (λ (d : A). four d k a b) log ∙ ap (λ (d : A). four m d a b) log_b ∙ ap (λ (d : A). four m n d b) slot_a ∙ ap (λ (d : A). four m n x d) slot_b

-- where all of them are known, each of them is
pub each-known : (devices : Devices (Option DiskHistory)) (known : Devices DiskHistory) → all_known devices ≡ Some known → devices ≡ each Some known
each-known devices known = go devices.log devices.log_b devices.slot_a devices.slot_b
  where
    go : (log log_b a b : Option DiskHistory) → all_four log log_b a b ≡ Some known → four log log_b a b ≡ each Some known
    go None log_b a b is = absurd cc
    go (Some l) None a b is = absurd cc
    go (Some l) (Some k) None b is = absurd cc
    go (Some l) (Some k) (Some x) None is = absurd cc
    go (Some l) (Some k) (Some x) (Some y) is =
        let same : four l k x y ≡ known = cc in
        ap (λ (all : Devices DiskHistory). each Some all) same

-- what holds where one isn't known, and where all are, holds of what is known
pub by-known : (P : Devices (Option DiskHistory) → Type 0) (devices : Devices (Option DiskHistory)) → (all_known devices ≡ None → P devices) → ((known : Devices DiskHistory) → P (each Some known)) → P devices
by-known P devices unknown all = go (all_known devices) refl
  where
    go : (known : Option (Devices DiskHistory)) → all_known devices ≡ known → P devices
    go None is = unknown is
    go (Some known) is = subst P (sym (each-known devices known is)) (all known)

-- ---- one of them

-- it is known
known-at : (which : WhichDevice) (known : Devices DiskHistory) → device_at which (each Some known) ≡ Some (device_at which known)
known-at the_log known = refl
known-at the_log_b known = refl
known-at the_slot_a known = refl
known-at the_slot_b known = refl

-- one that is known in its place leaves all known
put-known : (which : WhichDevice) (known : Devices DiskHistory) (now : DiskHistory) → with_device which (Some now) (each Some known) ≡ each Some (with_device which now known)
put-known the_log known now = refl
put-known the_log_b known now = refl
put-known the_slot_a known now = refl
put-known the_slot_b known now = refl

-- and one that isn't doesn't
put-unknown : (which : WhichDevice) (known : Devices DiskHistory) → all_known (with_device which None (each Some known)) ≡ None
put-unknown the_log known = refl
put-unknown the_log_b known = refl
put-unknown the_slot_a known = refl
put-unknown the_slot_b known = refl

-- ---- calls

module _ (P : Devices DiskHistory → Type 0) (R : Devices DiskHistory → Devices DiskHistory → Type 0) where
  -- nothing is called
  pub rest-known : ((devices : Devices DiskHistory) → P devices → R devices devices) → (known : Option (Devices DiskHistory)) → WhileKnown P R known known
  rest-known step None = tt
  rest-known step (Some devices) = λ is. step devices is

  -- one device is, while the others stand still
  module _ (S : DiskHistory → DiskHistory → Type 0) (which : WhichDevice) (step : (devices : Devices DiskHistory) (new : DiskHistory) → P devices → S (device_at which devices) new → R devices (with_device which new devices)) where
    abbrev Called : Option DiskHistory → Devices (Option DiskHistory) → Type 0
    Called now d = ((known : Devices DiskHistory) → P known → BothKnown S (device_at which d) now) → WhileAllKnown P R d (with_device which now d)

    of-known : (now : Option DiskHistory) (known : Devices DiskHistory) → Called now (each Some known)
    of-known None known both =
        subst (λ (all : Option (Devices DiskHistory)). WhileKnown P R (Some known) all) (sym (put-unknown which known)) (λ is. subst (λ (d : Option DiskHistory). BothKnown S d None) (known-at which known) (both known is))
    of-known (Some new) known both =
        subst (λ (d : Devices (Option DiskHistory)). WhileKnown P R (Some known) (all_known d)) (sym (put-known which known new))
        (λ is. step known new is (subst (λ (d : Option DiskHistory). BothKnown S d (Some new)) (known-at which known) (both known is)))

    pub one-known : (devices : Devices (Option DiskHistory)) (now : Option DiskHistory) → ((known : Devices DiskHistory) → P known → BothKnown S (device_at which devices) now) → WhileAllKnown P R devices (with_device which now devices)
    one-known devices now = by-known (Called now) devices
        (λ unknown both. subst (λ (all : Option (Devices DiskHistory)). WhileKnown P R all (all_known (with_device which now devices))) (sym unknown) tt) (of-known now)

-- one part of a step after another
pub known-then : (P Q : Devices DiskHistory → Type 0) (R S T : Devices DiskHistory → Devices DiskHistory → Type 0) → ((u v w : Devices DiskHistory) → P u → R u v → Q v → S v w → T u w) → (x y z : Option (Devices DiskHistory))
    → WhileKnown P R x y → WhileKnown P (λ was is. Q is) x y → WhileKnown Q S y z → WhileKnown P T x z
known-then P Q R S T step None y z first stands second = tt
known-then P Q R S T step (Some x) None None first stands second = first
known-then P Q R S T step (Some x) None (Some z) first stands second = λ is. absurd (first is)
known-then P Q R S T step (Some x) (Some y) None first stands second = λ is. second (stands is)
known-then P Q R S T step (Some x) (Some y) (Some z) first stands second = λ is. step x y z is (first is) (stands is) (second (stands is))

-- what is known leads to something else
pub known-weaken : (P Q : Devices DiskHistory → Type 0) (R S : Devices DiskHistory → Devices DiskHistory → Type 0) → ((u : Devices DiskHistory) → Q u → P u) → ((u v : Devices DiskHistory) → Q u → R u v → S u v) → (x y : Option (Devices DiskHistory)) → WhileKnown P R x y → WhileKnown Q S x y
known-weaken P Q R S premise step None y first = tt
known-weaken P Q R S premise step (Some x) None first = λ is. first (premise x is)
known-weaken P Q R S premise step (Some x) (Some y) first = λ is. step x y is (first (premise x is))
