use Rattle.std.proofs.Common.{ℕ, length, ◌<◌, ◌≡◌, ◌+◌, ◌*◌, ◌∙◌, ap, sym, refl, arith, subst, set}
use Rattle.std.proofs.lemmas.List.{length-set, get_or-set_same, get_or-set_other}
use Rattle.linear_algebra.specs.Rank.{IsInSpan}
use Rattle.fp_linear.proofs.Slices.{AreElements-set}
use Rattle.claim_conditions.specs.LocalConditions.{families_of}
use Rattle.local_checks.specs.Families.{family_space, family_rows}
use Rattle.residue_checks.specs.ZeroOrUnits.{AreZeroOrUnits}
use Rattle.residue_checks.proofs.Combinations.{one_decided, some_fail, more_below, all_below}
use Rattle.residue_checks.proofs.walks.+are_zero_or_units.Goals as goal

pub returns-then-place-digits-clause-decided : goal.returns-then-place-digits-clause-decided
returns-then-place-digits-clause-decided n c =
    one_decided (families_of c.args.header.now c.args.m.now) (family_space c.args.header.now c.args.m.now c.args.ring.now c.args.ring_pivots.now) (family_space c.args.header.now c.args.m.now c.args.rows.now c.args.pivots.now)
    (family_rows c.args.header.now c.args.m.now (length c.args.digits.now) c.args.some.now) c.args.digits.now c.args.place c.requires.digits refl c.if-place-digits.true _ c.is_zero_or_unit_at.ensures.decided

pub are_zero_or_units-requires : goal.are_zero_or_units-requires
are_zero_or_units-requires n c =
    let h = c.args.header.now in let m = c.args.m.now in
    let inside : c.args.place < length c.loop-c.digits = omega (arith, c.requires.place, c.if-place-digits.false, c.loop-c.auto.digits) in
    let e : length (set c.loop-c.digits c.args.place c.loop-c.c) ≡ length c.args.digits.now = length-set c.loop-c.digits c.args.place c.loop-c.c ∙ c.loop-c.auto.digits in (
      rw e (omega (arith, c.decreases, inside, c.loop-c.auto.digits)),
      (
        c.requires.m,
        (
          c.requires.ring,
          (
            c.requires.subalgebra,
            (
              c.requires.some_elements,
              (
                c.requires.some_count ∙ ap (λ (k : ℕ). k * (families_of h m).size) (sym e),
                (
                  subst (λ (k : ℕ). IsInSpan (family_space h m c.args.ring.now c.args.ring_pivots.now) (family_rows h m k c.args.some.now)) (sym e) c.requires.inside,
                  (
                    AreElements-set h.field c.loop-c.digits c.args.place c.loop-c.c c.loop-c.invariant.digits (omega (arith, c.loop-c-test.true, c.size-c-end.ensures)),
                    (omega (arith, e, inside, c.loop-c.auto.digits), (c.loop-c.invariant.y, (c.loop-c.invariant.room, c.loop-c.invariant.work))),
                  ),
                ),
              ),
            ),
          ),
        ),
      ),
    )

pub returns-then-not-are_zero_or_units-clause-decided : goal.returns-then-not-are_zero_or_units-clause-decided
returns-then-not-are_zero_or_units-clause-decided n c =
    let h = c.args.header.now in let m = c.args.m.now in
    let E = families_of h m in
    let F = family_space h m c.args.ring.now c.args.ring_pivots.now in
    let J = family_space h m c.args.rows.now c.args.pivots.now in
    let e : length (set c.loop-c.digits c.args.place c.loop-c.c) ≡ length c.args.digits.now = length-set c.loop-c.digits c.args.place c.loop-c.c ∙ c.loop-c.auto.digits in
    λ w. c.if-not-are_zero_or_units.ensures.decided
    (subst (λ (k : ℕ). AreZeroOrUnits E F J (family_rows h m k c.args.some.now) (set c.loop-c.digits c.args.place c.loop-c.c) (c.args.place + 1)) (sym e)
    (some_fail E F J (family_rows h m (length c.args.digits.now) c.args.some.now) c.args.digits.now (set c.loop-c.digits c.args.place c.loop-c.c) c.args.place
    (λ j l. get_or-set_other c.loop-c.digits c.args.place j c.loop-c.c 0 (λ d. absurd (omega (arith, d, l))) ∙ c.loop-c.invariant.before j l) w))

pub loop-c-preserved : goal.loop-c-preserved
loop-c-preserved n c =
    let h = c.args.header.now in let m = c.args.m.now in
    let E = families_of h m in
    let F = family_space h m c.args.ring.now c.args.ring_pivots.now in
    let J = family_space h m c.args.rows.now c.args.pivots.now in
    let inside : c.args.place < length c.loop-c.digits = omega (arith, c.requires.place, c.if-place-digits.false, c.loop-c.auto.digits) in
    let e : length (set c.loop-c.digits c.args.place c.loop-c.c) ≡ length c.args.digits.now = length-set c.loop-c.digits c.args.place c.loop-c.c ∙ c.loop-c.auto.digits in
    record {
      digits = c.are_zero_or_units.ensures.digits;
      before = λ j l. c.are_zero_or_units.ensures.before j (omega (arith, l))
          ∙ (get_or-set_other c.loop-c.digits c.args.place j c.loop-c.c 0 (λ d. absurd (omega (arith, d, l))) ∙ c.loop-c.invariant.before j l);
      y = c.are_zero_or_units.ensures.y;
      room = c.are_zero_or_units.ensures.room;
      work = c.are_zero_or_units.ensures.work;
      below = more_below E F J (family_rows h m (length c.args.digits.now) c.args.some.now) c.args.digits.now (set c.loop-c.digits c.args.place c.loop-c.c) c.args.place
          (λ j l. get_or-set_other c.loop-c.digits c.args.place j c.loop-c.c 0 (λ d. absurd (omega (arith, d, l))) ∙ c.loop-c.invariant.before j l) c.loop-c.c
          (get_or-set_same c.loop-c.digits c.args.place c.loop-c.c 0 inside) c.loop-c.invariant.below
          (subst (λ (k : ℕ). AreZeroOrUnits E F J (family_rows h m k c.args.some.now) (set c.loop-c.digits c.args.place c.loop-c.c) (c.args.place + 1)) e c.if-not-are_zero_or_units.ensures.decided);
    }

pub returns-clause-decided : goal.returns-clause-decided
returns-clause-decided n c =
    all_below (families_of c.args.header.now c.args.m.now) (family_space c.args.header.now c.args.m.now c.args.ring.now c.args.ring_pivots.now) (family_space c.args.header.now c.args.m.now c.args.rows.now c.args.pivots.now)
    (family_rows c.args.header.now c.args.m.now (length c.args.digits.now) c.args.some.now) c.args.digits.now c.args.place c.loop-c.c (omega (arith, c.loop-c-test.false, c.loop-c.auto.c-end, c.size-c-end.ensures)) c.loop-c.invariant.below
