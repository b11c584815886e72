use Rattle.std.proofs.Common.{◌≤◌, sym, ◌∙◌, arith, subst}
use Rattle.fp_linear.proofs.Meeting.{rank_fits, reduced_clear}
use Rattle.module_types.specs.Readings.{read}
use Rattle.module_checks.proofs.Sides.{arrows_at}
use Rattle.map_checks.specs.ArrowRows.{AskArrows}
use Rattle.resolution_checks.specs.Steps.{words_of_side}
use Rattle.cover_checks.specs.Covers.{covered_rep}
use Rattle.cover_checks.proofs.TermRanks.{radical_held}
use Rattle.cover_checks.proofs.minimal.fold_reduced_radical.Goals as goal

pub returns-clause-used : goal.returns-clause-used
returns-clause-used c =
    let fits : c.echelon_rows-rank.result ≤ c.args.size = rank_fits c.args.field c.args.rows c.args.size c.fold_radical.new.entries c.echelon_rows-rank.new.entries c.echelon_rows-rank.new.pivots c.echelon_rows-rank.result
    c.in-Some.ensures.elements c.echelon_rows-rank.ensures.elements c.echelon_rows-rank.ensures.form in (
      omega (arith, fits, c.requires.room.many),
      reduced_clear c.args.field c.args.rows c.args.size c.fold_radical.new.entries c.echelon_rows-rank.new.entries c.echelon_rows-rank.new.pivots c.echelon_rows-rank.result
          (c.echelon_rows-rank.auto.entries ∙ c.fold_radical.auto.entries ∙ c.requires.room.shape) c.echelon_rows-rank.ensures.elements c.echelon_rows-rank.ensures.form,
    )

pub returns-clause-folded : goal.returns-clause-folded
returns-clause-folded c = λ t B.
    let h = c.args.table.now.header in
    let a = c.args.a.now in
    let W = words_of_side h c.args.table.now.words t a c.args.terms.now in
    let g = c.in-Some.ensures.folded t B in (
      g.0,
      radical_held W (read h a) c.args.terms.now c.args.k c.args.w c.args.field c.requires.field c.args.size c.args.rows B.size_is c.fold_radical.new.entries c.echelon_rows-rank.new.entries c.echelon_rows-rank.new.pivots
          c.echelon_rows-rank.result c.in-Some.ensures.elements c.echelon_rows-rank.ensures.elements
          (subst (λ n. AskArrows (covered_rep W (read h a) c.args.terms.now c.args.k) c.args.w c.args.size c.args.rows n c.fold_radical.new.entries) (sym (arrows_at a.side h)) g.1) c.echelon_rows-rank.ensures.form,
    )
