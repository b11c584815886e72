use Rattle.std.proofs.Common.{◌≡◌, ◌<◌, ◌-◌, ◌^◌, List, length, get_or, refl, sym, subst, ap, ◌∙◌, arith}
use Rattle.report_types.specs.declared.claims.Record.{Record}
use Rattle.report_types.specs.Numbers.{modules_of, maps_of}
use Rattle.claim_text.specs.Writable.{IsWritable}
use Rattle.claim_text.proofs.WrittenRecords.{modules_front, maps_front, modules_fit, maps_fit, writable_at, record_written}
use Rattle.claim_text.proofs.writing.write_record.Goals as goal

pub count_modules-modules-requires : goal.count_modules-modules-requires
count_modules-modules-requires c =
    let front = modules_front (c.args.k - 1) c.as_slice-items.result.now in
    let whole = ap (λ (x : List Record). length (modules_of x)) c.as_slice-items.ensures in
    let few = c.requires.lawful.few_modules in
    omega (arith, front, whole, few)

pub count_maps-maps-requires : goal.count_maps-maps-requires
count_maps-maps-requires c =
    let front = maps_front (c.args.k - 1) c.as_slice-items.result.now in
    let whole = ap (λ (x : List Record). length (maps_of x)) c.as_slice-items.ensures in
    let few = c.requires.lawful.few_maps in
    omega (arith, front, whole, few)

pub push_record-requires-clause-few_modules : goal.push_record-requires-clause-few_modules
push_record-requires-clause-few_modules c =
    let xs = c.as_slice-items.result.now in
    let item = c.index-items-before.result in
    let whole = ap (λ (x : List Record). length (modules_of x)) c.as_slice-items.ensures in
    let size = ap (λ (x : List Record). length x) c.as_slice-items.ensures in
    let lawful = c.requires.lawful.few_modules in
    let from = c.requires.from in
    let to = c.requires.to in
    let few : length (modules_of xs) < 2 ^ 32 = omega (arith, whole, lawful) in
    let inside : c.args.k - 1 < length xs = omega (arith, size, from, to) in
    let fit = modules_fit xs (c.args.k - 1) (2 ^ 32) item inside few in
    let same = ap (λ (r : Record). length r.modules) c.index-items-before.is in
    let count = c.count_modules-modules.ensures in
    omega (arith, fit, same, count)

pub push_record-requires-clause-few_maps : goal.push_record-requires-clause-few_maps
push_record-requires-clause-few_maps c =
    let xs = c.as_slice-items.result.now in
    let item = c.index-items-before.result in
    let whole = ap (λ (x : List Record). length (maps_of x)) c.as_slice-items.ensures in
    let size = ap (λ (x : List Record). length x) c.as_slice-items.ensures in
    let lawful = c.requires.lawful.few_maps in
    let from = c.requires.from in
    let to = c.requires.to in
    let few : length (maps_of xs) < 2 ^ 32 = omega (arith, whole, lawful) in
    let inside : c.args.k - 1 < length xs = omega (arith, size, from, to) in
    let fit = maps_fit xs (c.args.k - 1) (2 ^ 32) item inside few in
    let same = ap (λ (r : Record). length r.maps) c.index-items-before.is in
    let count = c.count_maps-maps.ensures in
    omega (arith, fit, same, count)

pub push_record-requires-clause-writable : goal.push_record-requires-clause-writable
push_record-requires-clause-writable c =
    let report = c.args.report.now in
    let i = c.args.k - 1 in
    let item = c.index-items-before.result in
    let from = c.requires.from in
    let to = c.requires.to in
    let inside : i < length report.records = omega (arith, from, to) in
    let there : item ≡ get_or report.records i item = c.index-items-before.is ∙ ap (λ (x : List Record). get_or x i item) c.as_slice-items.ensures in
    subst IsWritable (sym there) (writable_at report i item inside c.requires.lawful)

pub returns : goal.returns
returns c =
    let report = c.args.report.now in
    let i = c.args.k - 1 in
    let item = c.index-items-before.result in
    let from = c.requires.from in
    let to = c.requires.to in
    let inside : i < length report.records = omega (arith, from, to) in
    λ r. record_written report.header report.records c.as_slice-items.result.now i c.count_modules-modules.result c.count_maps-maps.result i item r _ _
    c.as_slice-items.ensures inside c.index-items-before.is c.count_modules-modules.ensures c.count_maps-maps.ensures refl c.new-out.ensures.items c.in_ok-push_record.ensures
