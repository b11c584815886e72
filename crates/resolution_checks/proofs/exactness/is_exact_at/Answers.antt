use Rattle.std.proofs.Common.{ℕ, suc, ◌≡◌, ◌<◌, ◌≤◌, ◌+◌, ap, ◌∙◌, arith}
use Rattle.module_types.specs.declared.TermRows.{TermRows}
use Rattle.term_rows.specs.SumDims.{sum_dim, AreTerms}
use Rattle.term_rows.proofs.TermRowCells.{term_is}
use Rattle.resolution_checks.proofs.CompositesAt.{small_sum}
use Rattle.resolution_checks.proofs.RanksAt.{sum_of_ranks, ranks_of_sum}
use Rattle.resolution_checks.proofs.exactness.is_exact_at.Goals as goal

pub sum_dimension-dimension-requires-clause-small : goal.sum_dimension-dimension-requires-clause-small
sum_dimension-dimension-requires-clause-small c =
    let h = c.args.table.now.header in
    let ws = c.args.table.now.words in
    let a = c.args.a.now in
    let terms = c.args.terms.now in
    let k = c.args.k in
    let w = c.args.w in
    let fewer : AreTerms ws h a terms (suc k) = record { counted = (let n = c.requires.terms.counted in omega (arith, n)); each = λ i l. c.requires.terms.each i (omega arith) } in
    let is = term_is ws h a terms k fewer c.index.result.now c.index.ensures in
    let re = ap (λ (t : TermRows). sum_dim ws a.side t.vertices w) is in
    let s1 = small_sum ws h a terms (suc (k + 1)) k w (omega arith) c.requires.vertex c.requires.small in
    omega (arith, re, s1)

pub returns-then-inner-outer : goal.returns-then-inner-outer
returns-then-inner-outer c = λ t e.
    let h = c.args.table.now.header in
    let ws = c.args.table.now.words in
    let a = c.args.a.now in
    let terms = c.args.terms.now in
    let k = c.args.k in
    let w = c.args.w in
    let fewer : AreTerms ws h a terms (suc k) = record { counted = (let n = c.requires.terms.counted in omega (arith, n)); each = λ i l. c.requires.terms.each i (omega arith) } in
    let is = term_is ws h a terms k fewer c.index.result.now c.index.ensures in
    let re = ap (λ (t : TermRows). sum_dim ws a.side t.vertices w) is in
    let s1 = small_sum ws h a terms (suc (k + 1)) k w (omega arith) c.requires.vertex c.requires.small in
    c.if-inner-outer.true (ranks_of_sum h ws t a terms k w c.term_rank-inner.result c.term_rank-outer.result c.sum_dimension-dimension.result (c.term_rank-inner.ensures t) (c.term_rank-outer.ensures t) (c.sum_dimension-dimension.ensures ∙ re) e)

pub returns : goal.returns
returns c = λ t.
    let h = c.args.table.now.header in
    let ws = c.args.table.now.words in
    let a = c.args.a.now in
    let terms = c.args.terms.now in
    let k = c.args.k in
    let w = c.args.w in
    let fewer : AreTerms ws h a terms (suc k) = record { counted = (let n = c.requires.terms.counted in omega (arith, n)); each = λ i l. c.requires.terms.each i (omega arith) } in
    let is = term_is ws h a terms k fewer c.index.result.now c.index.ensures in
    let re = ap (λ (t : TermRows). sum_dim ws a.side t.vertices w) is in
    let s1 = small_sum ws h a terms (suc (k + 1)) k w (omega arith) c.requires.vertex c.requires.small in
    sum_of_ranks h ws t a terms k w c.term_rank-inner.result c.term_rank-outer.result c.sum_dimension-dimension.result (c.term_rank-inner.ensures t) (c.term_rank-outer.ensures t) (c.sum_dimension-dimension.ensures ∙ re) c.if-inner-outer.false
