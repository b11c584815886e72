use Rattle.std.proofs.Common.{◌≡◌, ◌≤◌, length, refl, subst, arith, mul-le-mul_right}
use Rattle.linear_algebra.specs.BlockFamilies.{total}
use Rattle.module_checks.proofs.Steps.{AsksMore-reduced}
use Rattle.extension_checks.specs.Asking.{AskRows}
use Rattle.extension_checks.specs.Following.{value_dims, following, column_entries}
use Rattle.extension_checks.proofs.AskedSpans.{rank_by_columns}
use Rattle.extension_checks.proofs.Lines.{AskRows-none, AskRows-more, AskRows-kept}
use Rattle.extension_checks.proofs.FollowValues.{value_small}
use Rattle.extension_checks.proofs.FollowBlocks.{next_is_vertex, place_next}
use Rattle.extension_checks.proofs.cocycles.cocycle_rank.Goals as goal

pub value_dimension-height-requires-clause-vertices : goal.value_dimension-height-requires-clause-vertices
value_dimension-height-requires-clause-vertices c = next_is_vertex c.args.table.now.header c.args.table.now.words c.args.b.now.side c.args.first.now c.args.next.now c.requires.terms

pub write_equations-requires-clause-block : goal.write_equations-requires-clause-block
write_equations-requires-clause-block c =
    let s = value_small c.args.table.now.header c.args.table.now.words c.args.b.now c.requires.b c.args.next.now c.loop-i.i in
    let l : c.value_dimension-height.result ≤ 256 = omega (arith, s, c.value_dimension-height.ensures) in
    let m = mul-le-mul_right c.args.unknowns l in
    omega (arith, m, c.requires.block, c.loop-i.auto.block)

pub fold_block-used-requires-clause-inside : goal.fold_block-used-requires-clause-inside
fold_block-used-requires-clause-inside c =
    let s = value_small c.args.table.now.header c.args.table.now.words c.args.b.now c.requires.b c.args.next.now c.loop-i.i in
    let l : c.value_dimension-height.result ≤ 256 = omega (arith, s, c.value_dimension-height.ensures) in
    let m = mul-le-mul_right c.args.unknowns l in
    omega (arith, m, c.requires.block, c.loop-i.auto.block, c.write_equations.auto.block)

pub loop-i-init : goal.loop-i-init
loop-i-init c = record {
  taken = record { within = omega arith; elements = c.clear.ensures.elements c.args.table.now.header.field; clear = record { clear = λ k l. c.clear.ensures.clear.clear k (omega arith) } };
  asked = λ t. AskRows-none c.args.table.now.header.field c.args.unknowns 1025 _ c.clear.new.entries c.clear.ensures.clear;
  elements = c.requires.elements;
}

pub loop-i-preserved : goal.loop-i-preserved
loop-i-preserved c =
    let h = c.args.table.now.header in
    let ws = c.args.table.now.words in
    let b = c.args.b.now in
    let first = c.args.first.now in
    let next = c.args.next.now in
    let i = c.loop-i.i in
    let height = c.value_dimension-height.result in
    record {
      taken = c.fold_block-used.ensures.taken;
      asked = λ t.
          subst (AskRows h.field c.args.unknowns 1025 c.fold_block-used.new.entries (column_entries h ws b t first next)) (place_next h ws b next i (total i (value_dims h ws b next)) height refl c.value_dimension-height.ensures)
          (AskRows-more h.field c.args.unknowns 1025 (column_entries h ws b t first next) (total i (value_dims h ws b next)) height c.write_equations.new.block c.loop-i.entries c.fold_block-used.new.entries (c.loop-i.invariant.asked t)
          c.fold_block-used.ensures.more (c.write_equations.ensures.equations t));
      elements = c.write_equations.ensures.elements;
    }

pub returns-clause-rank : goal.returns-clause-rank
returns-clause-rank c = λ t.
    let h = c.args.table.now.header in
    let ws = c.args.table.now.words in
    let b = c.args.b.now in
    let first = c.args.first.now in
    let next = c.args.next.now in
    let e : c.loop-i.i ≡ length next.vertices = omega (arith, c.loop-i-test.false, c.loop-i.auto.i-end, c.len-i-end.ensures) in
    rank_by_columns (following h ws b t first next) 1025 c.args.unknowns c.loop-i.entries c.reduce_rows.new.entries c.reduce_rows.new.pivots c.reduce_rows.result c.requires.unknowns c.loop-i.invariant.taken.elements c.reduce_rows.ensures.elements
    (subst (λ k. AskRows h.field c.args.unknowns 1025 c.loop-i.entries (column_entries h ws b t first next) (total k (value_dims h ws b next))) e (c.loop-i.invariant.asked t)) c.reduce_rows.ensures.form

pub returns-clause-asked : goal.returns-clause-asked
returns-clause-asked c = λ t.
    let h = c.args.table.now.header in
    let ws = c.args.table.now.words in
    let b = c.args.b.now in
    let first = c.args.first.now in
    let next = c.args.next.now in
    let e : c.loop-i.i ≡ length next.vertices = omega (arith, c.loop-i-test.false, c.loop-i.auto.i-end, c.len-i-end.ensures) in
    AskRows-kept h.field c.args.unknowns 1025 (column_entries h ws b t first next) _ c.loop-i.entries c.reduce_rows.new.entries
    (subst (λ k. AskRows h.field c.args.unknowns 1025 c.loop-i.entries (column_entries h ws b t first next) (total k (value_dims h ws b next))) e (c.loop-i.invariant.asked t))
    (AsksMore-reduced h.field 1025 c.args.unknowns c.loop-i.entries c.reduce_rows.new.entries c.reduce_rows.new.pivots c.reduce_rows.result c.loop-i.invariant.taken.elements c.reduce_rows.ensures.elements c.reduce_rows.ensures.form)
