use Rattle.std.proofs.Common.{refl}
use Rattle.report_types.specs.declared.claims.Record.{Record}
use Rattle.report_types.specs.Numbers.{modules_of, no_module}
use Rattle.report_types.proofs.Places.{cut_rises, nothing_found, some_found, by_number}
use Rattle.report_types.proofs.records.Records.module.Goals as goal

pub find-requires : goal.find-requires
find-requires c = cut_rises (λ (r : Record). r.modules) modules_of refl (λ r rs. refl) c.self.inside.list _ _ _ c.self.invariant.modules c.len.ensures c.deref.ensures.value

pub returns-in_default : goal.returns-in_default
returns-in_default c =
    rw (← c.self.view_is) (nothing_found (λ (r : Record). r.modules) modules_of refl (λ r rs. refl) c.self.inside.list _ _ _ c.args.n c.self.invariant.modules c.len.ensures c.deref.ensures.value c.in_default.ensures)

pub index-requires-2 : goal.index-requires-2
index-requires-2 c =
    some_found (λ (r : Record). r.modules) modules_of refl (λ r rs. refl) c.self.inside.list _ _ _ c.args.n c.in-Some.i c.in-Some.j c.index.result.now c.self.invariant.modules c.len.ensures c.deref.ensures.value c.in-Some.ensures c.index.ensures

pub returns : goal.returns
returns c =
    rw (← c.self.view_is)
    (by_number (λ (r : Record). r.modules) modules_of refl (λ r rs. refl) c.self.inside.list _ _ _ c.args.n c.in-Some.i c.in-Some.j c.index.result.now c.index-2.result.now no_module c.self.invariant.modules c.len.ensures c.deref.ensures.value c.in-Some.ensures c.index.ensures c.index-2.ensures)
