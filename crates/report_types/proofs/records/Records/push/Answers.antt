use Rattle.std.proofs.Common.{refl}
use Rattle.report_types.specs.declared.claims.Record.{Record}
use Rattle.report_types.specs.Numbers.{modules_of, maps_of}
use Rattle.report_types.proofs.Places.{pushed, kept}
use Rattle.report_types.proofs.records.Records.push.Goals as goal

pub invariant_of-self-2 : goal.invariant_of-self-2
invariant_of-self-2 c = record {
  modules = pushed (λ (r : Record). r.modules) modules_of refl (λ r rs. refl) c.self.inside.list _ c.self.inside.module_ends.items _ c.args.added _ _ c.self.invariant.modules c.len-count.ensures c.len.ensures c.in_ok-push.ensures c.in_ok-push_end.ensures;
  maps = pushed (λ (r : Record). r.maps) maps_of refl (λ r rs. refl) c.self.inside.list _ c.self.inside.map_ends.items _ c.args.added _ _ c.self.invariant.maps c.len-count.ensures c.len-2.ensures c.in_ok-push.ensures c.in_ok-push_end-2.ensures;
}

pub invariant_of-self : goal.invariant_of-self
invariant_of-self c = record {
  modules = kept (λ (r : Record). r.modules) modules_of refl (λ r rs. refl) c.self.inside.list _ c.self.inside.module_ends.items _ _ _ c.self.invariant.modules c.len-count.ensures refl c.in_err-push_end.ensures;
  maps = c.self.invariant.maps;
}

pub invariant_of-self-in_err-push_end-2 : goal.invariant_of-self-in_err-push_end-2
invariant_of-self-in_err-push_end-2 c = record {
  modules = kept (λ (r : Record). r.modules) modules_of refl (λ r rs. refl) c.self.inside.list _ c.self.inside.module_ends.items _ _ _ c.self.invariant.modules c.len-count.ensures refl c.in_ok-push_end.ensures;
  maps = kept (λ (r : Record). r.maps) maps_of refl (λ r rs. refl) c.self.inside.list _ c.self.inside.map_ends.items _ _ _ c.self.invariant.maps c.len-count.ensures refl c.in_err-push_end-2.ensures;
}

pub invariant_of-self-in_err-push : goal.invariant_of-self-in_err-push
invariant_of-self-in_err-push c = record {
  modules = kept (λ (r : Record). r.modules) modules_of refl (λ r rs. refl) c.self.inside.list _ c.self.inside.module_ends.items _ _ _ c.self.invariant.modules c.len-count.ensures c.in_err-push.ensures c.in_ok-push_end.ensures;
  maps = kept (λ (r : Record). r.maps) maps_of refl (λ r rs. refl) c.self.inside.list _ c.self.inside.map_ends.items _ _ _ c.self.invariant.maps c.len-count.ensures c.in_err-push.ensures c.in_ok-push_end-2.ensures;
}
