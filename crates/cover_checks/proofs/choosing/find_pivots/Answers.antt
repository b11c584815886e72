use Rattle.std.proofs.Common.{◌+◌, sym, arith, subst}
use Rattle.fp_linear.proofs.Cells.{IsGrid-rows_of}
use Rattle.module_types.specs.Readings.{read}
use Rattle.module_checks.proofs.Sides.{arrows_at}
use Rattle.map_checks.specs.ArrowRows.{AskArrows}
use Rattle.resolution_checks.specs.Steps.{words_of_side}
use Rattle.cover_checks.specs.Covers.{covered_rep}
use Rattle.cover_checks.proofs.RadicalPivots.{pivots_found}
use Rattle.cover_checks.proofs.choosing.find_pivots.Goals as goal

pub returns-clause-rank : goal.returns-clause-rank
returns-clause-rank c =
    let f = c.echelon_rows-rank.ensures.form.fits in
    let n = (IsGrid-rows_of c.args.field (c.args.size + 1) c.args.size c.echelon_rows-rank.new.entries c.echelon_rows-rank.ensures.elements).count in
    omega (arith, f, n, c.requires.few)

pub returns-clause-pivots : goal.returns-clause-pivots
returns-clause-pivots c = λ t B.
    let h = c.args.table.now.header in
    let Z = covered_rep (words_of_side h c.args.table.now.words t c.args.a.now c.args.terms.now) (read h c.args.a.now) c.args.terms.now c.args.k in
    let g = c.in_ok-fold_radical.ensures.folded t B in
    let asked = subst (λ n. AskArrows Z c.args.w c.args.size (c.args.size + 1) n c.fold_radical.new.entries) (sym (arrows_at c.args.a.now.side h)) g.1 in (
      g.0,
      record {
        are = pivots_found Z c.args.w c.args.size (c.args.size + 1) c.args.field c.requires.field B.size_is c.fold_radical.new.entries c.echelon_rows-rank.new.entries c.echelon_rows-rank.new.pivots c.echelon_rows-rank.result
            c.in_ok-fold_radical.ensures.elements c.echelon_rows-rank.ensures.elements asked c.echelon_rows-rank.ensures.form;
      },
    )
