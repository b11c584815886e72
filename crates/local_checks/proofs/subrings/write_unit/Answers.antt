use Rattle.std.proofs.Common.{ℕ, ◌+◌, ◌*◌, length, sym, ap, ap₂, ◌∙◌, arith}
use Rattle.module_types.specs.Algebras.{algebra_at}
use Rattle.local_checks.proofs.Composites.{block_room, total_more, other_default}
use Rattle.local_checks.proofs.Units.{units_more, unit_of_module}
use Rattle.local_checks.proofs.subrings.write_unit.Goals as goal

pub write_identity_at-requires-clause-inside : goal.write_identity_at-requires-clause-inside
write_identity_at-requires-clause-inside c =
    block_room c.args.header.now.field (algebra_at c.args.m.now.side c.args.header.now).quiver c.args.m.now c.requires.m c.loop-v.v c.loop-v.from c.index.result.now (length c.loop-v.out)
    (omega (arith, c.loop-v-test.true, c.len-v-end.ensures)) c.loop-v.invariant.from (other_default c.args.m.now.dims c.loop-v.v c.index.result.now (omega (arith, c.loop-v-test.true, c.len-v-end.ensures)) c.index.ensures) c.loop-v.invariant.out.count

pub overflow_add-from : goal.overflow_add-from
overflow_add-from c =
    let r = block_room c.args.header.now.field (algebra_at c.args.m.now.side c.args.header.now).quiver c.args.m.now c.requires.m c.loop-v.v c.loop-v.from c.index.result.now (length c.loop-v.out)
    (omega (arith, c.loop-v-test.true, c.len-v-end.ensures)) c.loop-v.invariant.from (other_default c.args.m.now.dims c.loop-v.v c.index.result.now (omega (arith, c.loop-v-test.true, c.len-v-end.ensures)) c.index.ensures) c.loop-v.invariant.out.count in
    omega (arith, r)

pub loop-v-preserved : goal.loop-v-preserved
loop-v-preserved c =
    let dim = other_default c.args.m.now.dims c.loop-v.v c.index.result.now (omega (arith, c.loop-v-test.true, c.len-v-end.ensures)) c.index.ensures in
    record {
      out = record { count = c.write_identity_at.auto.out ∙ c.loop-v.invariant.out.count; elements = c.write_identity_at.ensures.elements };
      from = ap₂ (λ (a b : ℕ). a + b) c.loop-v.invariant.from (ap (λ (a : ℕ). a * a) dim) ∙ sym (total_more c.loop-v.v c.args.m.now.dims);
      units = units_more c.args.m.now.dims c.loop-v.v c.loop-v.from c.index.result.now c.loop-v.out c.write_identity_at.new.out c.loop-v.invariant.units c.loop-v.invariant.from dim c.write_identity_at.ensures.written;
    }

pub returns-clause-unit : goal.returns-clause-unit
returns-clause-unit c =
    unit_of_module c.args.header.now.field (algebra_at c.args.m.now.side c.args.header.now).quiver c.args.m.now c.requires.m c.loop-v.v c.loop-v.out
    (omega (arith, c.loop-v-test.false, c.loop-v.auto.v-end, c.len-v-end.ensures)) c.loop-v.invariant.out.elements c.loop-v.invariant.out.count c.loop-v.invariant.units
