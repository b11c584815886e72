use Rattle.std.proofs.Common.{arith, inl, inr, sym, subst}
use Rattle.std.proofs.lemmas.Bool.{cases_lt}
use Rattle.quiver_paths.specs.Path.{IsPath}
use Rattle.path_algebra.specs.declared.Term.{Term}
use Rattle.path_algebra.specs.Reduction.{HasNoTip}
use Rattle.path_algebra.specs.Occurring.{HasTip}
use Rattle.path_algebra.proofs.DerivedRules.{item_at}
use Rattle.path_algebra.proofs.TipFactors.{no_tip_if, tip_refuses}
use Rattle.alg_table.proofs.reduced.has_no_tip.Goals as goal

pub returns-then-has_tip : goal.returns-then-has_tip
returns-then-has_tip c all =
    let h = c.args.header.now in
    tip_refuses h c.args.rules.now c.term-item.result.path c.requires.tips
    (subst (λ (a : Term). IsPath h.quiver a.path) (sym c.term-item.is) (c.requires.terms.short c.loop-term.term-index c.term-item.result c.loop-term-test.true).path)
    (subst (HasTip c.args.rules.now) c.as_slice.ensures c.if-has_tip.ensures)
    (subst (λ (a : Term). HasNoTip h c.args.rules.now a.path) (sym c.term-item.is) (all c.loop-term.term-index c.term-item.result c.loop-term-test.true))

pub loop-term-preserved : goal.loop-term-preserved
loop-term-preserved c j t l = elim (cases_lt j c.loop-term.term-index) [
  | inl b ↦ c.loop-term.invariant j t b
  | inr b ↦
      let h = c.args.header.now in
      subst (λ (a : Term). HasNoTip h c.args.rules.now a.path) (item_at c.args.terms.now j c.loop-term.term-index t c.term-item.result (omega arith) c.loop-term-test.true c.term-item.is)
      (no_tip_if h c.args.rules.now c.term-item.result.path c.requires.tips (λ x. c.if-has_tip.ensures (subst (HasTip c.args.rules.now) (sym c.as_slice.ensures) x)))
]

pub returns : goal.returns
returns c k d l = c.loop-term.invariant k d (omega arith)
