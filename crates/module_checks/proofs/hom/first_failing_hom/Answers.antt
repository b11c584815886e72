use Rattle.std.proofs.Common.{◌+◌, refl, sym, ap₂, ◌∙◌}
use Rattle.module_checks.proofs.HomRows.{reduced_basis, basis_reduced, homs_where, meeting_where}
use Rattle.module_checks.proofs.hom.first_failing_hom.Goals as goal

pub returns-then-not-is_reduced : goal.returns-then-not-is_reduced
returns-then-not-is_reduced c =
    (1, (c.if-not-same_side.ensures, (refl, λ r. c.if-not-is_reduced.ensures (basis_reduced c.args.header.now c.args.a.now c.args.b.now c.args.basis.now c.cols-unknowns.ensures.matrix c.requires.field c.requires.unknowns r))))

pub returns-then-not-all_meet : goal.returns-then-not-all_meet
returns-then-not-all_meet c =
    let reduced = reduced_basis c.args.header.now c.args.a.now c.args.b.now c.args.basis.now c.cols-unknowns.ensures.matrix c.requires.field c.requires.unknowns c.if-not-is_reduced.ensures in (
      2,
      (
        c.if-not-same_side.ensures,
        (
          reduced,
          (
            refl,
            λ r. c.if-not-all_meet.ensures
                (meeting_where c.args.header.now c.args.a.now c.args.b.now c.args.basis.now c.cols-unknowns.ensures.matrix c.requires.field c.requires.unknowns c.args.rows c.equations_rank-rank.new.entries
                (rw c.cols-unknowns.ensures.count at c.equations_rank-rank.ensures.asked) r),
          ),
        ),
      ),
    )

pub returns-then-rows-rank : goal.returns-then-rows-rank
returns-then-rows-rank c =
    let reduced = reduced_basis c.args.header.now c.args.a.now c.args.b.now c.args.basis.now c.cols-unknowns.ensures.matrix c.requires.field c.requires.unknowns c.if-not-is_reduced.ensures in
    let homs = homs_where c.args.header.now c.args.a.now c.args.b.now c.args.basis.now c.cols-unknowns.ensures.matrix c.requires.field c.requires.unknowns c.args.rows c.equations_rank-rank.new.entries
    (rw c.cols-unknowns.ensures.count at c.equations_rank-rank.ensures.asked) c.if-not-all_meet.ensures in (
      3,
      (
        c.if-not-same_side.ensures,
        (
          reduced,
          (
            homs,
            (
              refl,
              λ e. c.if-rows-rank.true
                  (ap₂ (λ m r. m + r) c.rows.ensures.count c.equations_rank-rank.ensures.rank ∙ e ∙ sym c.requires.unknowns ∙ sym c.cols-unknowns.ensures.count),
            ),
          ),
        ),
      ),
    )

pub returns : goal.returns
returns c =
    let reduced = reduced_basis c.args.header.now c.args.a.now c.args.b.now c.args.basis.now c.cols-unknowns.ensures.matrix c.requires.field c.requires.unknowns c.if-not-is_reduced.ensures in
    let homs = homs_where c.args.header.now c.args.a.now c.args.b.now c.args.basis.now c.cols-unknowns.ensures.matrix c.requires.field c.requires.unknowns c.args.rows c.equations_rank-rank.new.entries
    (rw c.cols-unknowns.ensures.count at c.equations_rank-rank.ensures.asked) c.if-not-all_meet.ensures in (
      c.if-not-same_side.ensures,
      (
        reduced,
        (
          homs,
          (
            sym (ap₂ (λ m r. m + r) c.rows.ensures.count c.equations_rank-rank.ensures.rank) ∙ c.if-rows-rank.false ∙ c.cols-unknowns.ensures.count ∙ c.requires.unknowns,
            tt,
          ),
        ),
      ),
    )
