use Rattle.std.proofs.Common.{◌<◌, ◌+◌, ◌-◌, length, ap, arith}
use Rattle.report_types.specs.declared.claims.Record.{Record}
use Rattle.claim_text.proofs.WrittenRecords.{modules_fit, maps_fit, modules_take, maps_take, record_pushed}
use Rattle.claim_text.proofs.writing.push_records.Goals as goal

pub push_record-requires-clause-few_modules : goal.push_record-requires-clause-few_modules
push_record-requires-clause-few_modules c =
    let inside : c.loop-i.i < length c.args.items.now = omega (arith, c.loop-i-test.true) in
    let fit = modules_fit c.args.items.now c.loop-i.i _ c.index-items-i.result inside c.requires.few_modules in
    let same = ap (λ (r : Record). length r.modules) c.index-items-i.is in
    let count = c.loop-i.invariant.0 in
    omega (arith, fit, same, count)

pub push_record-requires-clause-few_maps : goal.push_record-requires-clause-few_maps
push_record-requires-clause-few_maps c =
    let inside : c.loop-i.i < length c.args.items.now = omega (arith, c.loop-i-test.true) in
    let fit = maps_fit c.args.items.now c.loop-i.i _ c.index-items-i.result inside c.requires.few_maps in
    let same = ap (λ (r : Record). length r.maps) c.index-items-i.is in
    let count = c.loop-i.invariant.1 in
    omega (arith, fit, same, count)

pub loop-i-preserved : goal.loop-i-preserved
loop-i-preserved c =
    let xs = c.args.items.now in
    let i = c.loop-i.i in
    let r = c.index-items-i.result in
    let inside : i < length xs = omega (arith, c.loop-i-test.true) in
    let modules = modules_take xs i r inside in
    let maps = maps_take xs i r inside in
    let same_modules = ap (λ (x : Record). length x.modules) c.index-items-i.is in
    let same_maps = ap (λ (x : Record). length x.maps) c.index-items-i.is in
    let count_modules = c.loop-i.invariant.0 in
    let count_maps = c.loop-i.invariant.1 in
    let one = c.len.ensures in
    let two = c.len-in-loop-i.ensures in (
      omega (arith, modules, same_modules, count_modules, one),
      omega (arith, maps, same_maps, count_maps, two),
      record_pushed c.args.header.now xs i c.loop-i.modules c.loop-i.maps ((i + 1) - 1) r _ _ _ inside c.index-items-i.is count_modules count_maps (omega arith) c.loop-i.invariant.2 c.in_ok-push_record.ensures,
    )

pub overflow_cast-modules : goal.overflow_cast-modules
overflow_cast-modules c =
    let inside : c.loop-i.i < length c.args.items.now = omega (arith, c.loop-i-test.true) in
    let fit = modules_fit c.args.items.now c.loop-i.i _ c.index-items-i.result inside c.requires.few_modules in
    let same = ap (λ (r : Record). length r.modules) c.index-items-i.is in
    let count = c.loop-i.invariant.0 in
    let one = c.len.ensures in
    omega (arith, fit, same, count, one)

pub overflow_add-modules : goal.overflow_add-modules
overflow_add-modules c =
    let inside : c.loop-i.i < length c.args.items.now = omega (arith, c.loop-i-test.true) in
    let fit = modules_fit c.args.items.now c.loop-i.i _ c.index-items-i.result inside c.requires.few_modules in
    let same = ap (λ (r : Record). length r.modules) c.index-items-i.is in
    let count = c.loop-i.invariant.0 in
    let one = c.len.ensures in
    omega (arith, fit, same, count, one)

pub overflow_cast-maps : goal.overflow_cast-maps
overflow_cast-maps c =
    let inside : c.loop-i.i < length c.args.items.now = omega (arith, c.loop-i-test.true) in
    let fit = maps_fit c.args.items.now c.loop-i.i _ c.index-items-i.result inside c.requires.few_maps in
    let same = ap (λ (r : Record). length r.maps) c.index-items-i.is in
    let count = c.loop-i.invariant.1 in
    let one = c.len-in-loop-i.ensures in
    omega (arith, fit, same, count, one)

pub overflow_add-maps : goal.overflow_add-maps
overflow_add-maps c =
    let inside : c.loop-i.i < length c.args.items.now = omega (arith, c.loop-i-test.true) in
    let fit = maps_fit c.args.items.now c.loop-i.i _ c.index-items-i.result inside c.requires.few_maps in
    let same = ap (λ (r : Record). length r.maps) c.index-items-i.is in
    let count = c.loop-i.invariant.1 in
    let one = c.len-in-loop-i.ensures in
    omega (arith, fit, same, count, one)
