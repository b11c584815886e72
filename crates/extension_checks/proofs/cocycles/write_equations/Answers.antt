use Rattle.std.proofs.Common.{◌≡◌, ◌<◌, length, refl, sym, ap, ◌∙◌, subst, arith}
use Rattle.linear_algebra.specs.BlockFamilies.{total}
use Rattle.extension_checks.specs.Asking.{HoldsRows}
use Rattle.extension_checks.specs.Following.{value_dims, column_entries}
use Rattle.extension_checks.proofs.Lines.{holds-none}
use Rattle.extension_checks.proofs.FollowBlocks.{place_inside, place_next}
use Rattle.extension_checks.proofs.cocycles.write_equations.Goals as goal

pub overflow_add-at : goal.overflow_add-at
overflow_add-at c =
    let l : c.loop-j.j < length c.args.first.now.vertices = omega (arith, c.loop-j-test.true, c.len-j-end.ensures) in
    let p = place_inside c.args.table.now.header c.args.table.now.words c.args.b.now c.args.first.now c.loop-j.j c.loop-j.at c.value_dimension-count.result c.args.unknowns l c.loop-j.invariant.at c.value_dimension-count.ensures c.requires.unknowns in
    omega (arith, p, c.ranges.unknowns.fits)

pub loop-j-init : goal.loop-j-init
loop-j-init c = record { at = refl; equations = λ t. holds-none c.args.unknowns _ _ c.args.height c.args.block.now; elements = c.requires.elements }

pub loop-j-preserved : goal.loop-j-preserved
loop-j-preserved c = record {
  at = place_next c.args.table.now.header c.args.table.now.words c.args.b.now c.args.first.now c.loop-j.j c.loop-j.at c.value_dimension-count.result c.loop-j.invariant.at c.value_dimension-count.ensures;
  equations = λ t. c.write_columns.ensures.columns t (c.loop-j.invariant.equations t);
  elements = c.write_columns.ensures.elements;
}

pub returns-clause-equations : goal.returns-clause-equations
returns-clause-equations c = λ t.
    let e : c.loop-j.j ≡ length c.args.first.now.vertices = omega (arith, c.loop-j-test.false, c.loop-j.auto.j-end, c.len-j-end.ensures) in
    let all : c.loop-j.at ≡ c.args.unknowns = c.loop-j.invariant.at ∙ ap (λ n. total n (value_dims c.args.table.now.header c.args.table.now.words c.args.b.now c.args.first.now)) e ∙ sym c.requires.unknowns in
    subst (λ p. HoldsRows c.args.unknowns (column_entries c.args.table.now.header c.args.table.now.words c.args.b.now t c.args.first.now c.args.next.now) (total c.args.i (value_dims c.args.table.now.header c.args.table.now.words c.args.b.now c.args.next.now)) c.args.height p c.loop-j.block) all
    (c.loop-j.invariant.equations t)
