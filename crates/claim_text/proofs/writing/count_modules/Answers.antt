use Rattle.std.proofs.Common.{◌<◌, length, ap, arith}
use Rattle.report_types.specs.declared.claims.Record.{Record}
use Rattle.claim_text.proofs.WrittenRecords.{modules_fit, modules_take}
use Rattle.claim_text.proofs.writing.count_modules.Goals as goal

pub overflow_cast-count : goal.overflow_cast-count
overflow_cast-count c =
    let inside : c.loop-item.item-index < length c.args.items.now = omega (arith, c.loop-item-test.true) in
    let fit = modules_fit c.args.items.now c.loop-item.item-index _ c.item-item.result inside c.requires in
    let same = ap (λ (r : Record). length r.modules) c.item-item.is in
    let one = c.len.ensures in
    omega (arith, fit, same, one)

pub overflow_add-count : goal.overflow_add-count
overflow_add-count c =
    let inside : c.loop-item.item-index < length c.args.items.now = omega (arith, c.loop-item-test.true) in
    let fit = modules_fit c.args.items.now c.loop-item.item-index _ c.item-item.result inside c.requires in
    let same = ap (λ (r : Record). length r.modules) c.item-item.is in
    let one = c.len.ensures in
    let count = c.loop-item.invariant in
    omega (arith, fit, same, one, count)

pub loop-item-preserved : goal.loop-item-preserved
loop-item-preserved c =
    let inside : c.loop-item.item-index < length c.args.items.now = omega (arith, c.loop-item-test.true) in
    let step = modules_take c.args.items.now c.loop-item.item-index c.item-item.result inside in
    let same = ap (λ (r : Record). length r.modules) c.item-item.is in
    let one = c.len.ensures in
    let count = c.loop-item.invariant in
    omega (arith, step, same, one, count)
