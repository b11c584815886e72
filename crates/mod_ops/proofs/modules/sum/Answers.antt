use Rattle.std.proofs.Common.{◌≡◌, ◌≤◌, ◌+◌, ◌∙◌, ap, sym, arith}
use Rattle.module_types.specs.declared.Module.{Module}
use Rattle.module_types.specs.Algebras.{algebra_at}
use Rattle.module_types.specs.Shapes.{dimension}
use Rattle.rep_arena.specs.Entries.{module_at}
use Rattle.mod_ops.proofs.Added.{summands_there, sum_lawful}
use Rattle.mod_ops.proofs.modules.sum.Goals as goal

pub sum-requires : goal.sum-requires
sum-requires c =
    let e = c.args.arena.now in
    let same : c.module.result.side ≡ c.module-2.result.side = ap (λ (m : Module). m.side) c.module.ensures.entry ∙ c.requires.side ∙ sym (ap (λ (m : Module). m.side) c.module-2.ensures.entry) in
    let first : dimension c.module.result.dims ≡ dimension (module_at e c.args.a.number).dims = ap (λ (m : Module). dimension m.dims) c.module.ensures.entry in
    let second : dimension c.module-2.result.dims ≡ dimension (module_at e c.args.b.number).dims = ap (λ (m : Module). dimension m.dims) c.module-2.ensures.entry in
    let few : dimension c.module.result.dims + dimension c.module-2.result.dims ≤ 256 = omega (arith, first, second, c.dimension_of.ensures.sum, c.dimension_of-2.ensures.sum, c.if-dim-gt256.false) in
    (e.header.field, (algebra_at c.module.result.side e.header).quiver, summands_there e.header c.module.result c.module-2.result c.in_ok-first.first c.in_ok-second.second c.in_ok-first.ensures c.in_ok-second.ensures c.module.ensures.lawful c.module-2.ensures.lawful same few)

pub put_module-requires-clause-lawful : goal.put_module-requires-clause-lawful
put_module-requires-clause-lawful c =
    let e = c.args.arena.now in
    let same : c.module.result.side ≡ c.module-2.result.side = ap (λ (m : Module). m.side) c.module.ensures.entry ∙ c.requires.side ∙ sym (ap (λ (m : Module). m.side) c.module-2.ensures.entry) in
    let first : dimension c.module.result.dims ≡ dimension (module_at e c.args.a.number).dims = ap (λ (m : Module). dimension m.dims) c.module.ensures.entry in
    let second : dimension c.module-2.result.dims ≡ dimension (module_at e c.args.b.number).dims = ap (λ (m : Module). dimension m.dims) c.module-2.ensures.entry in
    let few : dimension c.module.result.dims + dimension c.module-2.result.dims ≤ 256 = omega (arith, first, second, c.dimension_of.ensures.sum, c.dimension_of-2.ensures.sum, c.if-dim-gt256.false) in
    sum_lawful e.header c.module.result c.module-2.result c.in_ok-first.first c.in_ok-second.second c.in_ok-first.ensures c.in_ok-second.ensures c.module.ensures.lawful c.module-2.ensures.lawful same few c.in_ok-whole.whole c.in_ok-whole.ensures
