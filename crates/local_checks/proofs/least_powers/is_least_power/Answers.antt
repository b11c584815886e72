use Rattle.std.proofs.Common.{ℕ, ◌+◌, ◌*◌, length, sym, ap, ap₂, ◌∙◌, arith}
use Rattle.local_modules.specs.FamilyAlgebra.{families}
use Rattle.module_types.specs.Algebras.{algebra_at}
use Rattle.module_types.specs.Readings.{read}
use Rattle.local_checks.specs.Families.{family_rows}
use Rattle.local_checks.proofs.Composites.{block_room, total_more, other_default}
use Rattle.local_checks.proofs.VertexPowers.{never_least, vanish_more, least_decided, equal_decided}
use Rattle.local_checks.proofs.least_powers.is_least_power.Goals as goal

pub returns-in-None-clause-power : goal.returns-in-None-clause-power
returns-in-None-clause-power c =
    never_least (families (read c.args.header.now c.args.m.now)) (family_rows c.args.header.now c.args.m.now c.args.count c.args.rows.now) c.loop-v.v c.args.power c.in-None.ensures.power

pub overflow_add-from : goal.overflow_add-from
overflow_add-from c =
    let r = block_room c.args.header.now.field (algebra_at c.args.m.now.side c.args.header.now).quiver c.args.m.now c.requires.m c.loop-v.v c.loop-v.from c.index.result.now (length c.args.work.now)
    (omega (arith, c.loop-v-test.true, c.len-v-end.ensures)) c.loop-v.invariant.from (other_default c.args.m.now.dims c.loop-v.v c.index.result.now (omega (arith, c.loop-v-test.true, c.len-v-end.ensures)) c.index.ensures) c.requires.work.count in
    omega (arith, r)

pub loop-v-preserved : goal.loop-v-preserved
loop-v-preserved c = record {
  work = c.in-Some.ensures.work;
  next = c.in-Some.ensures.next;
  from = ap₂ (λ (a b : ℕ). a + b) c.loop-v.invariant.from (ap (λ (a : ℕ). a * a) (other_default c.args.m.now.dims c.loop-v.v c.index.result.now (omega (arith, c.loop-v-test.true, c.len-v-end.ensures)) c.index.ensures)) ∙ sym (total_more c.loop-v.v c.args.m.now.dims);
  vanish = vanish_more (families (read c.args.header.now c.args.m.now)) (family_rows c.args.header.now c.args.m.now c.args.count c.args.rows.now) c.loop-v.v c.loop-v.most c.in-Some.p c.larger-most.result
      c.loop-v.invariant.vanish c.in-Some.ensures.power c.larger-most.ensures.first c.larger-most.ensures.second c.larger-most.ensures.least;
}

pub returns-clause-power : goal.returns-clause-power
returns-clause-power c =
    least_decided (families (read c.args.header.now c.args.m.now)) (family_rows c.args.header.now c.args.m.now c.args.count c.args.rows.now) c.loop-v.v c.loop-v.most c.loop-v.invariant.vanish
    (omega (arith, c.loop-v-test.false, c.loop-v.auto.v-end, c.len-v-end.ensures, c.requires.m.counted)) _ c.args.power c.larger.result c.larger.ensures.second c.larger.ensures.first (λ t a b. c.larger.ensures.least t b a)
    (equal_decided c.args.power c.larger.result)
