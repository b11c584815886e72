use Rattle.std.proofs.Common.{◌≡◌, length, get_or, refl, sym, ap, ◌∙◌, subst, arith}
use Rattle.linear_algebra.specs.Field.{mul, order}
use Rattle.linear_algebra.specs.FieldLaws.{mul_below, add_below, zero_mul}
use Rattle.fp_linear.proofs.Slices.{AreElements-set}
use Rattle.path_algebra.specs.declared.Header.{Header}
use Rattle.path_algebra.specs.Rows.{path_at}
use Rattle.term_rows.specs.RowSteps.{IsAddedFrom, multiple_at_place}
use Rattle.term_rows.proofs.AddedWords.{product_small, added-none, added-more, added-same, added-zeros}
use Rattle.term_rows.proofs.sums.add_word.Goals as goal

pub returns-then-factor-eq0-clause-added : goal.returns-then-factor-eq0-clause-added
returns-then-factor-eq0-clause-added c = λ entries p.
    let q = c.args.table.now.header.field in
    added-zeros q c.args.to _ _ c.args.next.now c.requires.elements (λ t l. ap (λ z. mul q z (entries t)) c.if-factor-eq0.true ∙ zero_mul q (entries t))

pub mul-value-requires-clause-b_below : goal.mul-value-requires-clause-b_below
mul-value-requires-clause-b_below c =
    let t = c.args.table.now in
    rw c.header.ensures.header (product_small t.header t.words c.args.side (path_at t.words c.args.word) c.args.arrow c.act.new.into c.act.ensures (get_or c.args.targets.now c.loop-t.t 0))

pub add-requires-clause-b_below : goal.add-requires-clause-b_below
add-requires-clause-b_below c = rw c.mul-value.ensures (mul_below c.header.result.now.field _ _)

pub loop-t-preserved : goal.loop-t-preserved
loop-t-preserved c =
    let t = c.args.table.now in
    let q = t.header.field in
    let same = ap (λ (h : Header). h.field) c.header.ensures.header in
    record {
      added = added-more q c.args.to c.loop-t.t c.add.result (multiple_at_place q c.args.factor c.args.targets.now c.act.new.into) c.args.next.now c.loop-t.next c.loop-t.invariant.added
          (omega (arith, c.requires.inside, c.loop-t.auto.next, c.loop-t-test.true)) (rw (c.add.ensures, c.mul-value.ensures, same) refl);
      elements = AreElements-set q c.loop-t.next _ c.add.result c.loop-t.invariant.elements (rw (c.add.ensures, same) (add_below q _ _));
    }

pub returns-clause-added : goal.returns-clause-added
returns-clause-added c = λ entries p.
    let q = c.args.table.now.header.field in
    let e : c.loop-t.t ≡ length c.args.targets.now = omega (arith, c.loop-t-test.false, c.loop-t.auto.t-end) in
    let placed = p.placed c.act.new.into c.act.ensures in
    added-same q c.args.to _ _ _ c.args.next.now c.loop-t.next (λ t l. ap (mul q c.args.factor) (placed.there t l)) (subst (λ n. IsAddedFrom q c.args.to n (multiple_at_place q c.args.factor c.args.targets.now c.act.new.into) c.args.next.now c.loop-t.next) e c.loop-t.invariant.added)
