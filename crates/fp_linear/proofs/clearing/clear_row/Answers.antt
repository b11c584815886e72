use Rattle.std.proofs.Common.{ℕ, ◌≡◌, ◌<◌, ◌*◌, length, get_or, ap, ◌∙◌, arith, subst}
use Rattle.std.proofs.lemmas.List.{length-drop}
use Rattle.linear_algebra.specs.Field.{neg}
use Rattle.linear_algebra.specs.FieldLaws.{neg_below}
use Rattle.linear_algebra.specs.Rows.{rows_of}
use Rattle.linear_algebra.proofs.Rows.{length-rows_of}
use Rattle.fp_linear.specs.Elimination.{IsClearedOf}
use Rattle.fp_linear.proofs.LentRows.{AreElements-take, AreElements-drop}
use Rattle.fp_linear.proofs.LentProducts.{row_fits, row_part, pivot_at, IsClearedOf-none, IsClearedOf-more, IsClearedOf-remainder}
use Rattle.fp_linear.proofs.clearing.clear_row.Goals as goal

pub loop-i-init : goal.loop-i-init
loop-i-init c = record { cleared = IsClearedOf-none c.args.field (length c.args.x.now) _ c.args.x.now c.requires.elements; elements = c.requires.elements }

pub bounds-x-pivots : goal.bounds-x-pivots
bounds-x-pivots c =
    let rows = rows_of (length c.args.pivots.now) (length c.args.x.now) c.args.rows.now in
    let count = length-rows_of (length c.args.pivots.now) (length c.args.x.now) c.args.rows.now in
    let inside : c.loop-i.i < length rows = omega (arith, count, c.loop-i-test.true) in
    omega (arith, pivot_at rows c.args.pivots.now c.loop-i.i c.requires.pivots inside, c.requires.reduced.nonzero c.loop-i.i inside, c.loop-i.auto.x)

pub add_multiple-requires-clause-source_elements : goal.add_multiple-requires-clause-source_elements
add_multiple-requires-clause-source_elements c =
    let n : ℕ = length c.args.x.now in
    let fits = row_fits (length c.args.pivots.now) n c.loop-i.i c.args.rows.now c.requires.shape c.loop-i-test.true in
    let d = length-drop (c.loop-i.i * n) c.args.rows.now in
    AreElements-take c.args.field _ _ (omega (arith, d, fits)) (AreElements-drop c.args.field _ c.args.rows.now c.requires.rows_elements)

pub add_multiple-requires-clause-below : goal.add_multiple-requires-clause-below
add_multiple-requires-clause-below c = rw c.neg-factor.ensures (neg_below c.args.field _)

pub loop-i-preserved : goal.loop-i-preserved
loop-i-preserved c =
    let n : ℕ = length c.args.x.now in
    let m : ℕ = length c.args.pivots.now in
    let rows = rows_of m n c.args.rows.now in
    let count = length-rows_of m n c.args.rows.now in
    let inside : c.loop-i.i < length rows = omega (arith, count, c.loop-i-test.true) in
    record {
      cleared = IsClearedOf-more c.args.field n c.loop-i.i c.neg-factor.result rows c.args.x.now c.loop-i.x c.add_multiple.new.target _ c.requires.elements c.requires.reduced inside c.loop-i.auto.x
          (λ j l. row_part m n c.loop-i.i j c.args.rows.now c.loop-i-test.true l)
          (c.neg-factor.ensures ∙ ap (λ p. neg c.args.field (get_or c.loop-i.x p 0)) (pivot_at rows c.args.pivots.now c.loop-i.i c.requires.pivots inside)) c.add_multiple.ensures.sum c.loop-i.invariant.cleared;
      elements = c.add_multiple.ensures.elements;
    }

pub returns-clause-remainder : goal.returns-clause-remainder
returns-clause-remainder c =
    let n : ℕ = length c.args.x.now in
    let m : ℕ = length c.args.pivots.now in
    let rows = rows_of m n c.args.rows.now in
    let end : c.loop-i.i ≡ m = omega (arith, c.loop-i-test.false, c.loop-i.auto.i-end) in
    IsClearedOf-remainder c.args.field n m rows c.args.x.now c.loop-i.x (length-rows_of m n c.args.rows.now) c.loop-i.auto.x
    (subst (λ (k : ℕ). IsClearedOf c.args.field n k rows c.args.x.now c.loop-i.x) end c.loop-i.invariant.cleared)
