use Rattle.std.proofs.Common.{◌≡◌, refl, subst}
use Rattle.module_types.specs.Algebras.{algebra_at}
use Rattle.module_types.specs.Readings.{rep_of}
use Rattle.module_types.specs.TermCoordinates.{coordinates}
use Rattle.claim_conditions.specs.Terms.{term_at}
use Rattle.extension_checks.proofs.RowsDecided.{terms_over, answer_with_sides}
use Rattle.extension_checks.proofs.extension.first_failing_extension.Goals as goal

pub returns-then-not-same_side : goal.returns-then-not-same_side
returns-then-not-same_side c = λ t. (0, (refl, λ e. c.if-not-same_side.ensures e.1))

pub first_failing_rows-answer-requires-clause-terms : goal.first_failing_rows-answer-requires-clause-terms
first_failing_rows-answer-requires-clause-terms c =
    terms_over c.args.table.now.header c.args.table.now.words c.args.a.now c.args.b.now.side c.args.terms.now c.args.n c.if-not-same_side.ensures c.requires.terms c.requires.small

pub first_failing_rows-answer-requires-clause-coordinates : goal.first_failing_rows-answer-requires-clause-coordinates
first_failing_rows-answer-requires-clause-coordinates c =
    let h = c.args.table.now.header in
    subst (λ side. c.args.rows.now.col_count ≡ coordinates (rep_of h.field (algebra_at side h).quiver c.args.b.now) (term_at c.args.terms.now c.args.n)) c.if-not-same_side.ensures c.requires.coordinates

pub returns : goal.returns
returns c = λ t.
    answer_with_sides c.args.table.now.header c.args.table.now.words t c.args.a.now c.args.b.now c.args.terms.now c.args.n c.args.rows.now c.first_failing_rows-answer.result c.if-not-same_side.ensures (c.first_failing_rows-answer.ensures t)
