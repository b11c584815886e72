use Rattle.std.proofs.Common.{ℕ, length, ◌≡◌, ◌∙◌, ap, refl}
use Rattle.linear_algebra.specs.Reduced.{remainder}
use Rattle.linear_algebra.specs.Rows.{rows_of}
use Rattle.claim_conditions.specs.LocalConditions.{families_of}
use Rattle.local_checks.specs.Families.{family}
use Rattle.local_checks.proofs.Remaining.{remainder_of}
use Rattle.residue_checks.proofs.representatives.write_rest.Goals as goal

pub returns-clause-remainder : goal.returns-clause-remainder
returns-clause-remainder c =
    let h = c.args.header.now in let m = c.args.m.now in
    let count : length c.copy_from_slice.new.self ≡ (families_of h m).size = ap length c.copy_from_slice.ensures.after ∙ c.requires.x.count in
    remainder_of h m c.args.rows.now c.args.pivots.now c.args.x.now c.clear_row.new.x (family h m c.args.x.now) c.requires.space c.requires.x
    (c.clear_row.ensures.remainder ∙ ap (λ (n : ℕ). remainder h.field n (rows_of (length c.args.pivots.now) n c.args.rows.now) c.copy_from_slice.new.self) count
    ∙ ap (remainder h.field (families_of h m).size (rows_of (length c.args.pivots.now) (families_of h m).size c.args.rows.now)) c.copy_from_slice.ensures.after) refl
