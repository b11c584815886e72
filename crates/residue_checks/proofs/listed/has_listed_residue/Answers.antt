use Rattle.std.proofs.Common.{ℕ, length, ◌≡◌, ◌*◌, take, arith, subst}
use Rattle.std.specs.Prelude.{MatchBool}
use Rattle.std.proofs.lemmas.List.{length-take-le}
use Rattle.claim_conditions.specs.LocalConditions.{families_of}
use Rattle.local_checks.specs.Families.{family_space, family_rows}
use Rattle.residue_checks.specs.ZeroOrUnits.{AreZeroOrUnits}
use Rattle.residue_checks.proofs.Combinations.{listed_decided}
use Rattle.residue_checks.proofs.listed.has_listed_residue.Goals as goal

pub returns-then-not-is_subalgebra : goal.returns-then-not-is_subalgebra
returns-then-not-is_subalgebra c = record { listed = λ k. c.if-not-is_subalgebra.ensures.subalgebra k.subalgebra }

pub returns-then-commutes_modulo : goal.returns-then-commutes_modulo
returns-then-commutes_modulo c = record { listed = λ k. k.listed.not_commutative c.if-commutes_modulo.ensures.commutes }

pub are_zero_or_units-requires-clause-inside : goal.are_zero_or_units-requires-clause-inside
are_zero_or_units-requires-clause-inside c =
    let r : ℕ = c.write_representatives-count.result in
    let e : length (take r c.args.digits.now) ≡ r = length-take-le r c.args.digits.now (omega (arith, c.write_representatives-count.ensures.few, c.requires.digit_count)) in
    rw (e, c.commutes_modulo.ensures.work.count) c.write_representatives-count.ensures.represent.inside

pub returns : goal.returns
returns c =
    let h = c.args.header.now in let m = c.args.m.now in
    let r : ℕ = c.write_representatives-count.result in
    let e : length (take r c.args.digits.now) ≡ r = length-take-le r c.args.digits.now (omega (arith, c.write_representatives-count.ensures.few, c.requires.digit_count)) in
    record {
      listed = listed_decided (families_of h m) (family_space h m c.args.ring.now c.args.ring_pivots.now) (family_space h m c.args.rows.now c.args.pivots.now) c.requires.ring.inside c.requires.ring.ideal
          (family_rows h m r (take (r * (families_of h m).size) c.write_representatives-count.new.some)) c.write_representatives-count.ensures.represent (take r c.args.digits.now) c.are_zero_or_units.result
          c.if-not-is_subalgebra.ensures.subalgebra c.if-commutes_modulo.ensures.commutes (subst (λ (k : ℕ). MatchBool c.are_zero_or_units.result
          (AreZeroOrUnits (families_of h m) (family_space h m c.args.ring.now c.args.ring_pivots.now) (family_space h m c.args.rows.now c.args.pivots.now)
          (family_rows h m k (take (r * (families_of h m).size) c.write_representatives-count.new.some)) (take r c.args.digits.now) 0)
          (¬ AreZeroOrUnits (families_of h m) (family_space h m c.args.ring.now c.args.ring_pivots.now) (family_space h m c.args.rows.now c.args.pivots.now)
          (family_rows h m k (take (r * (families_of h m).size) c.write_representatives-count.new.some)) (take r c.args.digits.now) 0)) e
          (rw c.commutes_modulo.ensures.work.count at c.are_zero_or_units.ensures.decided));
    }
