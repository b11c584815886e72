use Rattle.std.proofs.Common.{sym, ap, ◌∙◌, arith, subst, add-one}
use Rattle.linear_algebra.specs.FieldLaws.{one-lt-order}
use Rattle.local_modules.specs.Algebra.{power_in}
use Rattle.local_modules.proofs.AlgebraLaws.{power_in-one, power_in-suc}
use Rattle.claim_conditions.specs.LocalConditions.{families_of}
use Rattle.local_checks.specs.Families.{IsFamily, family}
use Rattle.local_checks.proofs.residues.write_power.Goals as goal

pub loop-k-init : goal.loop-k-init
loop-k-init c = record {
  out = subst (IsFamily c.args.header.now c.args.m.now) (sym c.copy_from_slice.ensures.after) c.requires.x;
  work = c.requires.work;
  power = ap (family c.args.header.now c.args.m.now) c.copy_from_slice.ensures.after ∙ sym (power_in-one (families_of c.args.header.now c.args.m.now) (family c.args.header.now c.args.m.now c.args.x.now));
}

pub loop-k-preserved : goal.loop-k-preserved
loop-k-preserved c =
    let h = c.args.header.now in let m = c.args.m.now in
    record {
      out = subst (IsFamily h m) (sym c.copy_from_slice-in-loop-k.ensures.after) c.compose.ensures.out;
      work = c.compose.ensures.out;
      power = ap (family h m) c.copy_from_slice-in-loop-k.ensures.after ∙ c.compose.ensures.product ∙ ap ((families_of h m).product (family h m c.args.x.now)) c.loop-k.invariant.power
          ∙ sym (power_in-suc (families_of h m) (family h m c.args.x.now) c.loop-k.k) ∙ ap (power_in (families_of h m) (family h m c.args.x.now)) (sym (add-one c.loop-k.k));
    }

pub returns-clause-power : goal.returns-clause-power
returns-clause-power c =
    let h = c.args.header.now in let m = c.args.m.now in
    let o = one-lt-order h.field in
    c.loop-k.invariant.power ∙ ap (power_in (families_of h m) (family h m c.args.x.now)) (omega (arith, c.loop-k-test.false, c.loop-k.auto.k-end, c.size-k-end.ensures, o))
