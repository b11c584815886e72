use Rattle.std.proofs.Common.{◌<◌, ◌+◌, length, refl, ap, ap₂, sym, arith, subst}
use Rattle.std.specs.Bool.{⊤}
use Rattle.bound_algebra.specs.TypedPaths.{quiver_of}
use Rattle.module_types.specs.declared.TermRows.{TermRows}
use Rattle.module_types.specs.Algebras.{algebra_at, other_side}
use Rattle.module_types.specs.Readings.{dim_at, read, read_beside}
use Rattle.module_types.specs.Shapes.{IsModule, IsTerm}
use Rattle.claim_conditions.specs.declared.Clause.TheVariants as clause
use Rattle.claim_conditions.specs.Conditions.{IsAnswer, ◌asks◌}
use Rattle.claim_conditions.specs.LocalConditions.{ring_rows, ideal_rows}
use Rattle.claim_conditions.specs.SequenceConditions.{HaveSequenceSides, conditions_behind_objects}
use Rattle.claim_conditions.specs.Terms.{term_at, vertices_at}
use Rattle.module_checks.proofs.VertexMatrices.{map_beside}
use Rattle.term_rows.specs.SumDims.{sum_dim}
use Rattle.translate_checks.specs.Across.{sides_of, of_terms}
use Rattle.translate_checks.proofs.Answering.{answer_behind, term_there, is_presentation, sided_rows, sum_of_vertices}
use Rattle.sequence_checks.proofs.SequenceTests.{dims_beside, term_beside, functional_beside}
use Rattle.sequence_checks.proofs.sequences.first_failing_sequence.Goals as goal

pub returns-then-not-same_side : goal.returns-then-not-same_side
returns-then-not-same_side c = λ t.
    (0, (refl, λ o. c.if-not-same_side.ensures o.1.left))

pub returns-then-not-same_side-2 : goal.returns-then-not-same_side-2
returns-then-not-same_side-2 c = λ t.
    (0, (refl, λ o. c.if-not-same_side-2.ensures o.1.middle))

pub first_failing_behind-answer-requires-clause-presentation : goal.first_failing_behind-answer-requires-clause-presentation
first_failing_behind-answer-requires-clause-presentation c =
    let h = c.args.table.now.header in
    let ws = c.args.table.now.words in
    let n = c.args.n.now in
    let e = c.args.e.now in
    let a = c.args.a.now in
    let terms = c.args.terms.now in
    let many = c.requires.terms.counted in
    let ce = term_there terms 0 c.index-cover.result.now c.index-cover.ensures (omega (arith, many)) in
    let se = term_there terms 1 c.index-syzygy.result.now c.index-syzygy.ensures (omega (arith, many)) in
    is_presentation ws h a terms c.index-cover.result.now c.index-syzygy.result.now ce se c.requires.terms c.requires.small

pub first_failing_behind-answer-requires-clause-cover : goal.first_failing_behind-answer-requires-clause-cover
first_failing_behind-answer-requires-clause-cover c =
    let h = c.args.table.now.header in
    let ws = c.args.table.now.words in
    let n = c.args.n.now in
    let e = c.args.e.now in
    let a = c.args.a.now in
    let terms = c.args.terms.now in
    let many = c.requires.terms.counted in
    let ce = term_there terms 0 c.index-cover.result.now c.index-cover.ensures (omega (arith, many)) in
    let se = term_there terms 1 c.index-syzygy.result.now c.index-syzygy.ensures (omega (arith, many)) in
    term_beside h a.side a.dims c.index-cover.result.now (subst (IsTerm h.field _ _) (sym ce) (c.requires.terms.each 0 (omega (arith))))

pub first_failing_behind-answer-requires-clause-few : goal.first_failing_behind-answer-requires-clause-few
first_failing_behind-answer-requires-clause-few c =
    let h = c.args.table.now.header in
    let ws = c.args.table.now.words in
    let n = c.args.n.now in
    let e = c.args.e.now in
    let a = c.args.a.now in
    let terms = c.args.terms.now in
    let many = c.requires.terms.counted in
    let ce = term_there terms 0 c.index-cover.result.now c.index-cover.ensures (omega (arith, many)) in
    let se = term_there terms 1 c.index-syzygy.result.now c.index-syzygy.ensures (omega (arith, many)) in
    subst (λ (t : TermRows). length t.vertices < 4294967296) (sym ce) c.requires.few

pub first_failing_behind-answer-requires-clause-n : goal.first_failing_behind-answer-requires-clause-n
first_failing_behind-answer-requires-clause-n c =
    let h = c.args.table.now.header in
    let ws = c.args.table.now.words in
    let n = c.args.n.now in
    let e = c.args.e.now in
    let a = c.args.a.now in
    let terms = c.args.terms.now in
    let many = c.requires.terms.counted in
    let ce = term_there terms 0 c.index-cover.result.now c.index-cover.ensures (omega (arith, many)) in
    let se = term_there terms 1 c.index-syzygy.result.now c.index-syzygy.ensures (omega (arith, many)) in
    subst (λ s. IsModule h.field (algebra_at s h).quiver n) c.if-not-same_side.ensures c.requires.n

pub first_failing_behind-answer-requires-clause-e : goal.first_failing_behind-answer-requires-clause-e
first_failing_behind-answer-requires-clause-e c =
    let h = c.args.table.now.header in
    let ws = c.args.table.now.words in
    let n = c.args.n.now in
    let e = c.args.e.now in
    let a = c.args.a.now in
    let terms = c.args.terms.now in
    let many = c.requires.terms.counted in
    let ce = term_there terms 0 c.index-cover.result.now c.index-cover.ensures (omega (arith, many)) in
    let se = term_there terms 1 c.index-syzygy.result.now c.index-syzygy.ensures (omega (arith, many)) in
    subst (λ s. IsModule h.field (algebra_at s h).quiver e) c.if-not-same_side-2.ensures c.requires.e

pub first_failing_behind-answer-requires-clause-f : goal.first_failing_behind-answer-requires-clause-f
first_failing_behind-answer-requires-clause-f c =
    let h = c.args.table.now.header in
    let ws = c.args.table.now.words in
    let n = c.args.n.now in
    let e = c.args.e.now in
    let a = c.args.a.now in
    let terms = c.args.terms.now in
    let many = c.requires.terms.counted in
    let ce = term_there terms 0 c.index-cover.result.now c.index-cover.ensures (omega (arith, many)) in
    let se = term_there terms 1 c.index-syzygy.result.now c.index-syzygy.ensures (omega (arith, many)) in
    map_beside h a.side n e c.args.f.now c.requires.f

pub first_failing_behind-answer-requires-clause-g : goal.first_failing_behind-answer-requires-clause-g
first_failing_behind-answer-requires-clause-g c =
    let h = c.args.table.now.header in
    let ws = c.args.table.now.words in
    let n = c.args.n.now in
    let e = c.args.e.now in
    let a = c.args.a.now in
    let terms = c.args.terms.now in
    let many = c.requires.terms.counted in
    let ce = term_there terms 0 c.index-cover.result.now c.index-cover.ensures (omega (arith, many)) in
    let se = term_there terms 1 c.index-syzygy.result.now c.index-syzygy.ensures (omega (arith, many)) in
    map_beside h a.side e a c.args.g.now c.requires.g

pub first_failing_behind-answer-requires-clause-functional : goal.first_failing_behind-answer-requires-clause-functional
first_failing_behind-answer-requires-clause-functional c =
    let h = c.args.table.now.header in
    let ws = c.args.table.now.words in
    let n = c.args.n.now in
    let e = c.args.e.now in
    let a = c.args.a.now in
    let terms = c.args.terms.now in
    let many = c.requires.terms.counted in
    let ce = term_there terms 0 c.index-cover.result.now c.index-cover.ensures (omega (arith, many)) in
    let se = term_there terms 1 c.index-syzygy.result.now c.index-syzygy.ensures (omega (arith, many)) in
    functional_beside h a.side a.dims (vertices_at terms 0) c.index-cover.result.now.vertices c.args.functional.now (ap (λ (t : TermRows). t.vertices) ce) c.requires.functional

pub first_failing_behind-answer-requires-clause-left : goal.first_failing_behind-answer-requires-clause-left
first_failing_behind-answer-requires-clause-left c =
    let h = c.args.table.now.header in
    let ws = c.args.table.now.words in
    let n = c.args.n.now in
    let e = c.args.e.now in
    let a = c.args.a.now in
    let terms = c.args.terms.now in
    let many = c.requires.terms.counted in
    let ce = term_there terms 0 c.index-cover.result.now c.index-cover.ensures (omega (arith, many)) in
    let se = term_there terms 1 c.index-syzygy.result.now c.index-syzygy.ensures (omega (arith, many)) in
    sided_rows h a.side n.dims (sum_dim ws (other_side a.side) (vertices_at terms 1)) c.args.left.now (sum_dim ws (other_side a.side) c.index-syzygy.result.now.vertices) (sum_of_vertices ws (other_side a.side) terms c.index-syzygy.result.now se) c.requires.left

pub first_failing_behind-answer-requires-clause-middle : goal.first_failing_behind-answer-requires-clause-middle
first_failing_behind-answer-requires-clause-middle c =
    let h = c.args.table.now.header in
    let ws = c.args.table.now.words in
    let n = c.args.n.now in
    let e = c.args.e.now in
    let a = c.args.a.now in
    let terms = c.args.terms.now in
    let many = c.requires.terms.counted in
    let ce = term_there terms 0 c.index-cover.result.now c.index-cover.ensures (omega (arith, many)) in
    let se = term_there terms 1 c.index-syzygy.result.now c.index-syzygy.ensures (omega (arith, many)) in
    sided_rows h a.side e.dims (λ w. sum_dim ws (other_side a.side) (vertices_at terms 1) w + dim_at (quiver_of h.quiver) a.dims w) c.args.middle.now
    (λ w. sum_dim ws (other_side a.side) c.index-syzygy.result.now.vertices w + dim_at (algebra_at a.side h).quiver a.dims w)
    (λ w. ap₂ (λ x y. x + y) (sum_of_vertices ws (other_side a.side) terms c.index-syzygy.result.now se w) (dims_beside h a.side a.dims w)) c.requires.middle

pub returns : goal.returns
returns c = λ t.
    let h = c.args.table.now.header in
    let ws = c.args.table.now.words in
    let n = c.args.n.now in
    let e = c.args.e.now in
    let a = c.args.a.now in
    let terms = c.args.terms.now in
    let many = c.requires.terms.counted in
    let ce = term_there terms 0 c.index-cover.result.now c.index-cover.ensures (omega (arith, many)) in
    let se = term_there terms 1 c.index-syzygy.result.now c.index-syzygy.ensures (omega (arith, many)) in
    let r = c.first_failing_behind-answer.result in
    answer_behind (clause.Objects asks (⊤ × HaveSequenceSides n e a)) (conditions_behind_objects (sides_of h ws t a.side) (of_terms (term_at terms 0) (term_at terms 1)) (read_beside h a n) (read_beside h a e) (read h a) c.args.f.now c.args.g.now (ring_rows h a c.args.basis.now) (ideal_rows h c.args.basis.now c.args.ideal.now) (record { functional = c.args.functional.now; left = c.args.left.now; middle = c.args.middle.now })) r (tt, record { left = c.if-not-same_side.ensures; middle = c.if-not-same_side-2.ensures })
    (subst (λ (x : TermRows). IsAnswer (conditions_behind_objects (sides_of h ws t a.side) (of_terms x (term_at terms 1)) (read_beside h a n) (read_beside h a e) (read h a) c.args.f.now c.args.g.now (ring_rows h a c.args.basis.now) (ideal_rows h c.args.basis.now c.args.ideal.now) (record { functional = c.args.functional.now; left = c.args.left.now; middle = c.args.middle.now })) r) ce
    (subst (λ (y : TermRows). IsAnswer (conditions_behind_objects (sides_of h ws t a.side) (of_terms c.index-cover.result.now y) (read_beside h a n) (read_beside h a e) (read h a) c.args.f.now c.args.g.now (ring_rows h a c.args.basis.now) (ideal_rows h c.args.basis.now c.args.ideal.now) (record { functional = c.args.functional.now; left = c.args.left.now; middle = c.args.middle.now })) r) se (c.first_failing_behind-answer.ensures t)))
