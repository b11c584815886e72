use Rattle.module_types.specs.Readings.{read}
use Rattle.resolution_checks.specs.Steps.{words_of_side}
use Rattle.cover_checks.proofs.FoldRows.{fold_answer}
use Rattle.cover_checks.proofs.folding.fold_row.Goals as goal

pub returns-clause-folded : goal.returns-clause-folded
returns-clause-folded c = λ t H.
    fold_answer (words_of_side c.args.table.now.header c.args.table.now.words t c.args.a.now c.args.terms.now) (read c.args.table.now.header c.args.a.now) c.args.terms.now c.args.k c.args.arrow c.args.i c.args.from c.args.other.now
    c.args.size c.args.width c.args.basis.now c.args.places.now H c.clear.new.entries c.copy_part.new.target c.step_in_target.new.next c.fold_coordinates.new.coordinates c.clear.ensures.clear c.copy_part.ensures.written (c.step_in_target.ensures.step t) c.fold_coordinates.ensures.taken
    c.args.field c.requires.field c.args.rows c.args.entries.now c.fold_coordinates.new.entries c.fold_coordinates.result c.fold_coordinates.ensures.folded
