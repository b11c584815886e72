use Rattle.std.proofs.Common.{refl, subst}
use Rattle.module_types.specs.Readings.{read}
use Rattle.claim_conditions.specs.Conditions.{IsAnswer}
use Rattle.resolution_checks.specs.MatrixConditions.{matrix_conditions}
use Rattle.resolution_checks.specs.Steps.{words_of_side}
use Rattle.cover_checks.proofs.Answered.{fails_in_all}
use Rattle.cover_checks.proofs.resolutions.first_failing_resolution.Goals as goal

pub returns-in-Some : goal.returns-in-Some
returns-in-Some c = λ t. fails_in_all (words_of_side c.args.table.now.header c.args.table.now.words t c.args.a.now c.args.terms.now) (read c.args.table.now.header c.args.a.now) c.args.terms.now c.args.n c.in-Some.which (c.in-Some.ensures t)

pub returns-then-not-is_minimal : goal.returns-then-not-is_minimal
returns-then-not-is_minimal c = λ t.
    let m = subst (IsAnswer (matrix_conditions (words_of_side c.args.table.now.header c.args.table.now.words t c.args.a.now c.args.terms.now) (read c.args.table.now.header c.args.a.now) c.args.terms.now c.args.n)) c.in_default.is (c.first_failing_matrices.ensures t) in
    (2, (m.0, (m.1.0, (refl, c.if-not-is_minimal.ensures t))))

pub returns-then-not-is_chosen : goal.returns-then-not-is_chosen
returns-then-not-is_chosen c = λ t.
    let m = subst (IsAnswer (matrix_conditions (words_of_side c.args.table.now.header c.args.table.now.words t c.args.a.now c.args.terms.now) (read c.args.table.now.header c.args.a.now) c.args.terms.now c.args.n)) c.in_default.is (c.first_failing_matrices.ensures t) in
    (3, (m.0, (m.1.0, (c.if-not-is_minimal.ensures t, (refl, c.if-not-is_chosen.ensures t)))))

pub returns : goal.returns
returns c = λ t.
    let m = subst (IsAnswer (matrix_conditions (words_of_side c.args.table.now.header c.args.table.now.words t c.args.a.now c.args.terms.now) (read c.args.table.now.header c.args.a.now) c.args.terms.now c.args.n)) c.in_default.is (c.first_failing_matrices.ensures t) in
    (m.0, (m.1.0, (c.if-not-is_minimal.ensures t, (c.if-not-is_chosen.ensures t, tt))))
