use Rattle.std.proofs.Common.{◌≡◌, refl, sym, ap, ◌∙◌, arith, subst}
use Rattle.std.specs.Bool.{⊤}
use Rattle.module_types.specs.declared.TermRows.{TermRows}
use Rattle.module_types.specs.Algebras.{other_side}
use Rattle.module_types.proofs.Duals.{other_other}
use Rattle.path_algebra.specs.declared.Header.{Header}
use Rattle.path_algebra.specs.Allowed.{IsAllowed}
use Rattle.claim_conditions.specs.declared.Clause.TheVariants as clause
use Rattle.claim_conditions.specs.Conditions.{IsAnswer, ◌asks◌}
use Rattle.claim_conditions.specs.Translates.{IsDualOf}
use Rattle.claim_conditions.specs.Terms.{term_at}
use Rattle.claim_conditions.specs.TranslateConditions.{projection_conditions}
use Rattle.term_rows.specs.SumDims.{sum_dim}
use Rattle.translate_checks.specs.Across.{sides_of, of_terms}
use Rattle.translate_checks.specs.Steps.{module_across}
use Rattle.translate_checks.proofs.DualTests.{across_shape}
use Rattle.translate_checks.proofs.Answering.{answer_behind, term_there, is_presentation, sided_columns, sum_of_vertices}
use Rattle.translate_checks.proofs.translates.first_failing_taui.Goals as goal

pub returns-then-not-is_dual : goal.returns-then-not-is_dual
returns-then-not-is_dual c = λ t.
    (0, (refl, λ o. c.if-not-is_dual.ensures (subst (λ (h : Header). IsDualOf h c.args.a.now c.args.b.now) (sym c.header.ensures.header) o.1)))

pub returns-then-not-same_side : goal.returns-then-not-same_side
returns-then-not-same_side c = λ t.
    (0, (refl, λ o. c.if-not-same_side.ensures o.2))

pub first_failing_projection-answer-requires-clause-presentation : goal.first_failing_projection-answer-requires-clause-presentation
first_failing_projection-answer-requires-clause-presentation c =
    let h = c.args.table.now.header in
    let ws = c.args.table.now.words in
    let n = c.args.n.now in
    let m = c.args.b.now in
    let terms = c.args.terms.now in
    let many = c.requires.terms.counted in
    let ce = term_there terms 0 c.index-cover.result.now c.index-cover.ensures (omega (arith, many)) in
    let se = term_there terms 1 c.index-syzygy.result.now c.index-syzygy.ensures (omega (arith, many)) in
    is_presentation ws h m terms c.index-cover.result.now c.index-syzygy.result.now ce se c.requires.terms c.requires.small

pub first_failing_projection-answer-requires-clause-n : goal.first_failing_projection-answer-requires-clause-n
first_failing_projection-answer-requires-clause-n c =
    let h = c.args.table.now.header in
    let ws = c.args.table.now.words in
    let n = c.args.n.now in
    let m = c.args.b.now in
    let terms = c.args.terms.now in
    let many = c.requires.terms.counted in
    let ce = term_there terms 0 c.index-cover.result.now c.index-cover.ensures (omega (arith, many)) in
    let se = term_there terms 1 c.index-syzygy.result.now c.index-syzygy.ensures (omega (arith, many)) in
    across_shape h m.side n.side n (c.if-not-same_side.ensures ∙ sym (other_other c.args.a.now.side) ∙ ap other_side (sym (subst (λ (h : Header). IsDualOf h c.args.a.now c.args.b.now) c.header.ensures.header c.if-not-is_dual.ensures).side)) c.requires.n

pub first_failing_projection-answer-requires-clause-rows : goal.first_failing_projection-answer-requires-clause-rows
first_failing_projection-answer-requires-clause-rows c =
    let h = c.args.table.now.header in
    let ws = c.args.table.now.words in
    let n = c.args.n.now in
    let m = c.args.b.now in
    let terms = c.args.terms.now in
    let many = c.requires.terms.counted in
    let ce = term_there terms 0 c.index-cover.result.now c.index-cover.ensures (omega (arith, many)) in
    let se = term_there terms 1 c.index-syzygy.result.now c.index-syzygy.ensures (omega (arith, many)) in
    sided_columns h m.side n.dims (sum_dim ws (other_side m.side) (term_at terms 1).vertices) c.args.rows.now (sum_dim ws (other_side m.side) c.index-syzygy.result.now.vertices) (sum_of_vertices ws (other_side m.side) terms c.index-syzygy.result.now se) c.requires.rows

pub returns : goal.returns
returns c = λ t.
    let h = c.args.table.now.header in
    let ws = c.args.table.now.words in
    let n = c.args.n.now in
    let m = c.args.b.now in
    let terms = c.args.terms.now in
    let many = c.requires.terms.counted in
    let ce = term_there terms 0 c.index-cover.result.now c.index-cover.ensures (omega (arith, many)) in
    let se = term_there terms 1 c.index-syzygy.result.now c.index-syzygy.ensures (omega (arith, many)) in
    answer_behind (clause.Objects asks (⊤ × IsDualOf c.args.table.now.header c.args.a.now c.args.b.now × (c.args.n.now.side ≡ c.args.a.now.side))) (projection_conditions (sides_of h ws t m.side) (of_terms (term_at terms 0) (term_at terms 1)) (module_across h ws t m.side n) c.args.rows.now) c.first_failing_projection-answer.result (tt, (subst (λ (h : Header). IsDualOf h c.args.a.now c.args.b.now) c.header.ensures.header c.if-not-is_dual.ensures), c.if-not-same_side.ensures)
    (subst (λ (x : TermRows). IsAnswer (projection_conditions (sides_of h ws t m.side) (of_terms x (term_at terms 1)) (module_across h ws t m.side n) c.args.rows.now) c.first_failing_projection-answer.result) ce
    (subst (λ (y : TermRows). IsAnswer (projection_conditions (sides_of h ws t m.side) (of_terms c.index-cover.result.now y) (module_across h ws t m.side n) c.args.rows.now) c.first_failing_projection-answer.result) se (c.first_failing_projection-answer.ensures t)))

pub is_dual-requires-clause-allowed : goal.is_dual-requires-clause-allowed
is_dual-requires-clause-allowed c = subst IsAllowed (sym c.header.ensures.header) c.header.ensures.table.allowed
