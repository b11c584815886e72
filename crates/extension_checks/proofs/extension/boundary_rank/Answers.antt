use Rattle.std.proofs.Common.{suc, ◌≡◌, ◌-◌, sym, ap, ◌∙◌, subst, arith}
use Rattle.std.specs.Prelude.{slice_index_or}
use Rattle.module_types.specs.declared.TermRows.{TermRows}
use Rattle.module_types.specs.Readings.{read}
use Rattle.module_types.specs.TermCoordinates.{coordinates}
use Rattle.extension_checks.proofs.RowsDecided.{term_is, over_at, first_pivots, later_pivots}
use Rattle.extension_checks.proofs.extension.boundary_rank.Goals as goal

pub returns-then-n-eq0-clause-pivots : goal.returns-then-n-eq0-clause-pivots
returns-then-n-eq0-clause-pivots c = λ t. first_pivots c.args.table.now.header c.args.table.now.words c.args.b.now c.args.terms.now c.args.n c.requires.terms t c.args.pivots.now c.if-n-eq0.true

pub coboundary_rank-requires-clause-terms : goal.coboundary_rank-requires-clause-terms
coboundary_rank-requires-clause-terms c =
    let n = c.args.n in
    let terms = c.args.terms.now in
    let s : n ≡ suc (n - 1) = omega (arith, c.if-n-eq0.false) in
    over_at c.args.table.now.header c.args.table.now.words c.args.b.now terms n c.requires.terms (n - 1) c.index-before.result.now c.index-term.result.now (omega arith) c.index-before.ensures
    (subst (λ k. c.index-term.result.now ≡ slice_index_or terms k c.index-term.result.now) s c.index-term.ensures)

pub coboundary_rank-requires-clause-unknowns : goal.coboundary_rank-requires-clause-unknowns
coboundary_rank-requires-clause-unknowns c =
    c.requires.unknowns ∙ ap (λ (term : TermRows). coordinates (read c.args.table.now.header c.args.b.now) term)
    (sym (term_is c.args.terms.now c.args.n c.index-term.result.now (let g = c.requires.terms.counted in omega (arith, g)) c.index-term.ensures))

pub returns-clause-pivots : goal.returns-clause-pivots
returns-clause-pivots c = λ t.
    let n = c.args.n in
    let terms = c.args.terms.now in
    let s : n ≡ suc (n - 1) = omega (arith, c.if-n-eq0.false) in
    later_pivots c.args.table.now.header c.args.table.now.words c.args.b.now terms n c.requires.terms t (n - 1) c.coboundary_rank.result c.index-before.result.now c.index-term.result.now c.coboundary_rank.new.pivots s
    c.index-before.ensures (subst (λ k. c.index-term.result.now ≡ slice_index_or terms k c.index-term.result.now) s c.index-term.ensures) (c.coboundary_rank.ensures.pivots t)
