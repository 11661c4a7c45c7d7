-- Numbers of few digits are small.
use Rattle.std.proofs.Common.{◌≡◌, ◌<◌, ◌≤◌, ◌^◌, ℕ, refl, arith, lit<}
use Rattle.std.proofs.Math.Nat.{pow-le-pow_right}

pub few_small : (i n : ℕ) → i < 8 → n < 10 ^ i → n < 10000000
few_small i n lt small =
    let most : 10 ^ i ≤ 10 ^ 7 = pow-le-pow_right {n = 10} (lit< tt) {i = i} {j = 7} (omega arith) in
    let is : 10 ^ 7 ≡ 10000000 = refl in
    omega arith
