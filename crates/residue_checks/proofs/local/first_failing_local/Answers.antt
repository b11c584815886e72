use Rattle.std.proofs.Common.{refl, arith, mul-le-mul_right}
use Rattle.residue_checks.proofs.local.first_failing_local.Goals as goal

pub returns-then-not-is_not_zero : goal.returns-then-not-is_not_zero
returns-then-not-is_not_zero c = (1, (tt, (refl, c.if-not-is_not_zero.ensures)))

pub first_failing_within-requires-clause-bytes : goal.first_failing_within-requires-clause-bytes
first_failing_within-requires-clause-bytes c =
    let a = mul-le-mul_right c.args.basis.now.col_count c.requires.few in
    let b = mul-le-mul_right c.args.basis.now.col_count c.requires.few_in_ideal in
    omega (arith, a, b, c.requires.few, c.requires.room.bytes_there)
