use Rattle.std.proofs.Common.{◌≡◌, ◌<◌, length, get_or, arith, ap, ◌∙◌, subst, List}
use Rattle.quiver_paths.specs.declared.Arrow.{Arrow}
use Rattle.quiver_paths.specs.Quiver.{arrow_count}
use Rattle.quiver_paths.proofs.CountingSteps.{CountsFirst-none, CountsFirst-more, CountsPaths-from_first, item_ends}
use Rattle.quiver_paths.proofs.counting.one_arrow_more.Goals as goal

pub loop-arrow-init : goal.loop-arrow-init
loop-arrow-init c = (c.as_slice-arrow-items.ensures, CountsFirst-none c.args.quiver.now c.args.counts.now)

pub bounds-longer-from : goal.bounds-longer-from
bounds-longer-from c =
    (item_ends c.args.quiver.now c.as_slice-arrow-items.result.now c.loop-arrow.arrow-index c.arrow-item.result c.requires c.loop-arrow.invariant.0 (omega arith) c.arrow-item.is).0

pub bounds-counts-arrow : goal.bounds-counts-arrow
bounds-counts-arrow c =
    (item_ends c.args.quiver.now c.as_slice-arrow-items.result.now c.loop-arrow.arrow-index c.arrow-item.result c.requires c.loop-arrow.invariant.0 (omega arith) c.arrow-item.is).1

pub bounds-longer-from-in-loop-arrow : goal.bounds-longer-from-in-loop-arrow
bounds-longer-from-in-loop-arrow c =
    (item_ends c.args.quiver.now c.as_slice-arrow-items.result.now c.loop-arrow.arrow-index c.arrow-item.result c.requires c.loop-arrow.invariant.0 (omega arith) c.arrow-item.is).0

pub loop-arrow-preserved : goal.loop-arrow-preserved
loop-arrow-preserved c =
    let Q = c.args.quiver.now in
    let x = c.arrow-item.result in
    let k = c.loop-arrow.arrow-index in
    let same = c.loop-arrow.invariant.0 in
    let ends = item_ends Q c.as_slice-arrow-items.result.now k x c.requires same (omega arith) c.arrow-item.is in
    let below : k < arrow_count Q = subst (λ (xs : List Arrow). k < length xs) same (omega arith) in
    let read : x ≡ get_or Q.arrows k x = c.arrow-item.is ∙ ap (λ (xs : List Arrow). get_or xs k x) same in
    (same, rw c.saturating_add.ensures (CountsFirst-more Q c.args.counts.now k c.loop-arrow.longer x below read ends.0 ends.1 c.loop-arrow.invariant.1))

pub returns : goal.returns
returns c =
    CountsPaths-from_first c.args.quiver.now c.args.counts.now c.loop-arrow.longer c.loop-arrow.arrow-index
    (omega (arith, ap length c.loop-arrow.invariant.0)) c.loop-arrow.invariant.1
