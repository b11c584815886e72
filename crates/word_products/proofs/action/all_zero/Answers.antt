use Rattle.std.proofs.Common.{◌≡◌, inl, inr, get_or, [], true, false, ap, sym, refl, subst, ◌∙◌, arith}
use Rattle.std.proofs.lemmas.Bool.{cases_lt}
use Rattle.word_products.proofs.ImageSpans.{zero_combinations}
use Rattle.word_products.proofs.action.all_zero.Goals as goal

differ : {A : Type 0} → false ≡ true → A
differ e = absurd (cc)

pub returns-then-not-is_zero : goal.returns-then-not-is_zero
returns-then-not-is_zero c = (λ t. differ t, λ z. sym c.if-not-is_zero.true ∙ c.is_zero.ensures.1 (λ j. z.zero_at c.row.result.now c.row.ensures.span j))

pub loop-i-preserved : goal.loop-i-preserved
loop-i-preserved c k j l = elim (cases_lt k c.loop-i.i) [
  | inl b ↦ c.loop-i.invariant k j b
  | inr b ↦
      let same : c.loop-i.i ≡ k = omega (arith, l, b) in
      subst (λ x. get_or (get_or c.args.span.now.rows x []) j 0 ≡ 0) same (ap (λ y. get_or y j 0) (sym c.row.ensures.value) ∙ c.is_zero.ensures.0 c.if-not-is_zero.false j)
]

pub returns : goal.returns
returns c = (λ t. zero_combinations c.args.span.now.field c.args.span.now.columns c.args.span.now.rows (λ i j l. c.loop-i.invariant i j (let f = c.loop-i-test.false in let e = c.len-i-end.ensures in omega arith)), λ z. refl)
