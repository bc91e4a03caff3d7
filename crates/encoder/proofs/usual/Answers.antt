-- `encoder::usual` meets its contract: the power of two is at most 2^21.
use Rattle.std.proofs.Common.{◌≡◌, refl, ℕ, ◌*◌, ◌/◌, ◌%◌, ◌^◌, ◌≤◌, arith}
use Rattle.std.proofs.Math.Nat.{mul-le-mul, one-mul}
use Rattle.std.proofs.Math.Pow.{pow_mono, shl_exact}
use Rattle.encoder.proofs.usual.Goals as goal

-- the shift loses nothing
shifted : (qp : ℕ) → qp ≤ 63 → 1 * 2 ^ (qp / 3) % 18446744073709551616 ≡ 1 * 2 ^ (qp / 3)
shifted qp h = shl_exact {a = 1} 1 (qp / 3) 64 (omega arith) (omega arith)

product : (r q : ℕ) → q ≤ 63 → r ≤ 904819 → r * (1 * 2 ^ (q / 3)) ≤ 904819 * 2097152
product r q h k =
    let p : 2 ^ (q / 3) ≤ 2 ^ 21 = pow_mono {i = q / 3} {j = 21} (omega arith) in
    let s : 1 * 2 ^ (q / 3) ≤ 2097152 = omega arith in
    mul-le-mul k s

pub overflow_mul-result : goal.overflow_mul-result
overflow_mul-result c =
    rw (shifted c.args.qp c.requires) (omega (arith, product _ c.args.qp c.requires c.root.ensures.1))

pub overflow_add-result : goal.overflow_add-result
overflow_add-result c =
    rw (shifted c.args.qp c.requires) (omega (arith, product _ c.args.qp c.requires c.root.ensures.1))

pub returns : goal.returns
returns c =
    let q = c.args.qp in
    let p = product _ q c.requires c.root.ensures.1 in (
      rw (shifted q c.requires, c.root.ensures.0, one-mul (2 ^ (q / 3))) refl,
      rw (shifted q c.requires) (omega (arith, p)),
    )
