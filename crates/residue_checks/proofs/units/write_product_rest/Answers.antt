use Rattle.std.proofs.Common.{ℕ, length, ◌∙◌, ap}
use Rattle.linear_algebra.specs.Reduced.{remainder}
use Rattle.linear_algebra.specs.Rows.{rows_of}
use Rattle.claim_conditions.specs.LocalConditions.{families_of}
use Rattle.local_checks.specs.Families.{family}
use Rattle.local_checks.proofs.Remaining.{remainder_of}
use Rattle.residue_checks.proofs.units.write_product_rest.Goals as goal

pub returns-clause-remainder : goal.returns-clause-remainder
returns-clause-remainder c =
    let h = c.args.header.now in let m = c.args.m.now in
    remainder_of h m c.args.rows.now c.args.pivots.now c.compose.new.out c.clear_row.new.x ((families_of h m).product (family h m c.args.left.now) (family h m c.args.right.now)) c.requires.space c.compose.ensures.out
    (c.clear_row.ensures.remainder ∙ ap (λ (n : ℕ). remainder h.field n (rows_of (length c.args.pivots.now) n c.args.rows.now) c.compose.new.out) c.compose.ensures.out.count) c.compose.ensures.product
