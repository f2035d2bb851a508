-- Powers of two.
use Rattle.std.proofs.Common.{◌≡◌, ℕ, suc, ◌+◌, ◌^◌, arith}
use Rattle.std.proofs.Math.Nat.{pow-suc}

pub pow_more : (n : ℕ) → 2 ^ suc n ≡ 2 ^ n + 2 ^ n
pow_more n = let e = pow-suc 2 n in omega (arith, e)
