use Rattle.std.proofs.Common.{◌≡◌, length, refl, subst, arith}
use Rattle.linear_algebra.specs.BlockFamilies.{total}
use Rattle.extension_checks.specs.Asking.{AskRows}
use Rattle.extension_checks.specs.Following.{value_dims, following, row_entries}
use Rattle.extension_checks.proofs.AskedSpans.{pivots_by_rows}
use Rattle.extension_checks.proofs.Lines.{AskRows-none}
use Rattle.extension_checks.proofs.FollowBlocks.{place_next}
use Rattle.extension_checks.proofs.coboundaries.coboundary_rank.Goals as goal

pub loop-j-init : goal.loop-j-init
loop-j-init c = record {
  taken = record { within = omega arith; elements = c.clear.ensures.elements c.args.table.now.header.field; clear = record { clear = λ k l. c.clear.ensures.clear.clear k (omega arith) } };
  asked = λ t. AskRows-none c.args.table.now.header.field c.args.unknowns 1025 _ c.clear.new.entries c.clear.ensures.clear;
  elements = c.requires.elements;
}

pub loop-j-preserved : goal.loop-j-preserved
loop-j-preserved c =
    let h = c.args.table.now.header in
    let ws = c.args.table.now.words in
    let b = c.args.b.now in
    let first = c.args.first.now in
    let next = c.args.next.now in
    let j = c.loop-j.j in
    record {
      taken = c.fold_generator-used.ensures.taken;
      asked = λ t.
          subst (AskRows h.field c.args.unknowns 1025 c.fold_generator-used.new.entries (row_entries h ws b t first next)) (place_next h ws b first j (total j (value_dims h ws b first)) c.value_dimension-count.result refl c.value_dimension-count.ensures)
          (c.fold_generator-used.ensures.asked t (c.loop-j.invariant.asked t));
      elements = c.fold_generator-used.ensures.elements;
    }

pub returns-clause-pivots : goal.returns-clause-pivots
returns-clause-pivots c = λ t.
    let h = c.args.table.now.header in
    let ws = c.args.table.now.words in
    let b = c.args.b.now in
    let first = c.args.first.now in
    let next = c.args.next.now in
    let e : c.loop-j.j ≡ length first.vertices = omega (arith, c.loop-j-test.false, c.loop-j.auto.j-end, c.len-j-end.ensures) in
    pivots_by_rows (following h ws b t first next) 1025 c.args.unknowns c.loop-j.entries c.reduce_rows.new.entries c.reduce_rows.new.pivots c.reduce_rows.result c.requires.unknowns c.loop-j.invariant.taken.elements c.reduce_rows.ensures.elements
    (subst (λ k. AskRows h.field c.args.unknowns 1025 c.loop-j.entries (row_entries h ws b t first next) (total k (value_dims h ws b first))) e (c.loop-j.invariant.asked t)) c.reduce_rows.ensures.form
