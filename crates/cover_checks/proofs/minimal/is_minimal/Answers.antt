use Rattle.std.proofs.Common.{suc, ◌≡◌, ◌+◌, arith}
use Rattle.module_types.specs.Readings.{read}
use Rattle.resolution_checks.specs.Steps.{words_of_side}
use Rattle.cover_checks.proofs.MinimalTerms.{terms_none, terms_more, terms_minimal, fewer_terms, fewer_small}
use Rattle.cover_checks.proofs.minimal.is_minimal.Goals as goal

pub loop-k-init : goal.loop-k-init
loop-k-init c = λ t. terms_none (words_of_side c.args.table.now.header c.args.table.now.words t c.args.a.now c.args.terms.now) (read c.args.table.now.header c.args.a.now) c.args.terms.now

pub is_minimal_term-requires-clause-terms : goal.is_minimal_term-requires-clause-terms
is_minimal_term-requires-clause-terms c = fewer_terms c.args.table.now.words c.args.table.now.header c.args.a.now c.args.terms.now (suc c.args.n) (suc c.loop-k.k) (omega (arith, c.loop-k-test.true)) c.requires.terms

pub is_minimal_term-requires-clause-small : goal.is_minimal_term-requires-clause-small
is_minimal_term-requires-clause-small c = fewer_small c.args.table.now.words c.args.table.now.header c.args.a.now c.args.terms.now (suc c.args.n) (suc c.loop-k.k) (omega (arith, c.loop-k-test.true)) c.requires.small

pub loop-k-preserved : goal.loop-k-preserved
loop-k-preserved c = λ t.
    terms_more (words_of_side c.args.table.now.header c.args.table.now.words t c.args.a.now c.args.terms.now) (read c.args.table.now.header c.args.a.now) c.args.terms.now c.loop-k.k (c.loop-k.invariant t)
    (c.if-not-is_minimal_term.ensures t)

pub returns-then-not-is_minimal_term : goal.returns-then-not-is_minimal_term
returns-then-not-is_minimal_term c = λ t m. c.if-not-is_minimal_term.ensures t (m c.loop-k.k (omega (arith, c.loop-k-test.true)))

pub returns : goal.returns
returns c = λ t.
    let e : c.loop-k.k ≡ c.args.n + 1 = omega (arith, c.loop-k-test.false, c.loop-k.auto.k-end) in
    terms_minimal (words_of_side c.args.table.now.header c.args.table.now.words t c.args.a.now c.args.terms.now) (read c.args.table.now.header c.args.a.now) c.args.terms.now c.loop-k.k c.args.n e (c.loop-k.invariant t)
