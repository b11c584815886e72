use Rattle.std.proofs.Common.{ℕ, ◌*◌, ap₂, ◌∙◌, arith}
use Rattle.fp_linear.proofs.LentRows.{AreElements-front, AreElements-back}
use Rattle.residue_checks.proofs.local.first_failing_within.Goals as goal

pub first_failing_behind-requires-clause-ring : goal.first_failing_behind-requires-clause-ring
first_failing_behind-requires-clause-ring c =
    let q = c.args.header.now.field in
    let e0 = c.clear.ensures.elements q in
    record {
      elements = AreElements-front q c.clear.new.entries c.split_at_mut-ring.result.0.now c.split_at_mut-ring.result.1.now c.split_at_mut-ring.ensures.value e0;
      count = c.split_at_mut-ring.ensures.front_len ∙ ap₂ (λ (a b : ℕ). a * b) c.rows-count.ensures.count (c.cols-size.ensures.count ∙ c.requires.unknowns);
      places = omega (arith, c.split_at_mut-ring_pivots.ensures.front_len, c.rows-count.ensures.count);
    }

pub first_failing_behind-requires-clause-rows : goal.first_failing_behind-requires-clause-rows
first_failing_behind-requires-clause-rows c =
    let q = c.args.header.now.field in
    let e0 = c.clear.ensures.elements q in
    let e1 = AreElements-back q c.clear.new.entries c.split_at_mut-ring.result.0.now c.split_at_mut-ring.result.1.now c.split_at_mut-ring.ensures.value e0 in
    record {
      elements = AreElements-front q c.split_at_mut-ring.result.1.now c.split_at_mut-rows.result.0.now c.split_at_mut-rows.result.1.now c.split_at_mut-rows.ensures.value e1;
      count = c.split_at_mut-rows.ensures.front_len ∙ ap₂ (λ (a b : ℕ). a * b) c.rows.ensures.count (c.cols-size.ensures.count ∙ c.requires.unknowns);
      places = omega (arith, c.split_at_mut-ring_pivots.ensures.back_len, c.split_at_mut-some_pivots.ensures.back_len, c.split_at_mut-rest_pivots.ensures.back_len, c.rows-count.ensures.count, c.rows.ensures.count, c.requires.numbers);
    }

pub first_failing_behind-requires-clause-some : goal.first_failing_behind-requires-clause-some
first_failing_behind-requires-clause-some c =
    let q = c.args.header.now.field in
    let e0 = c.clear.ensures.elements q in
    let e1 = AreElements-back q c.clear.new.entries c.split_at_mut-ring.result.0.now c.split_at_mut-ring.result.1.now c.split_at_mut-ring.ensures.value e0 in
    let e2 = AreElements-back q c.split_at_mut-ring.result.1.now c.split_at_mut-rows.result.0.now c.split_at_mut-rows.result.1.now c.split_at_mut-rows.ensures.value e1 in
    record {
      elements = AreElements-front q c.split_at_mut-rows.result.1.now c.split_at_mut-some.result.0.now c.split_at_mut-some.result.1.now c.split_at_mut-some.ensures.value e2;
      count = c.split_at_mut-some.ensures.front_len ∙ ap₂ (λ (a b : ℕ). a * b) c.rows-count.ensures.count (c.cols-size.ensures.count ∙ c.requires.unknowns);
      places = omega (arith, c.split_at_mut-some_pivots.ensures.front_len, c.rows-count.ensures.count);
    }

pub first_failing_behind-requires-clause-rest : goal.first_failing_behind-requires-clause-rest
first_failing_behind-requires-clause-rest c =
    let q = c.args.header.now.field in
    let e0 = c.clear.ensures.elements q in
    let e1 = AreElements-back q c.clear.new.entries c.split_at_mut-ring.result.0.now c.split_at_mut-ring.result.1.now c.split_at_mut-ring.ensures.value e0 in
    let e2 = AreElements-back q c.split_at_mut-ring.result.1.now c.split_at_mut-rows.result.0.now c.split_at_mut-rows.result.1.now c.split_at_mut-rows.ensures.value e1 in
    let e3 = AreElements-back q c.split_at_mut-rows.result.1.now c.split_at_mut-some.result.0.now c.split_at_mut-some.result.1.now c.split_at_mut-some.ensures.value e2 in
    record {
      elements = AreElements-front q c.split_at_mut-some.result.1.now c.split_at_mut-rest.result.0.now c.split_at_mut-rest.result.1.now c.split_at_mut-rest.ensures.value e3;
      count = c.split_at_mut-rest.ensures.front_len ∙ ap₂ (λ (a b : ℕ). a * b) c.rows-count.ensures.count (c.cols-size.ensures.count ∙ c.requires.unknowns);
      places = omega (arith, c.split_at_mut-rest_pivots.ensures.front_len, c.rows-count.ensures.count);
    }

pub first_failing_behind-requires-clause-digits : goal.first_failing_behind-requires-clause-digits
first_failing_behind-requires-clause-digits c =
    let q = c.args.header.now.field in
    let e0 = c.clear.ensures.elements q in
    let e1 = AreElements-back q c.clear.new.entries c.split_at_mut-ring.result.0.now c.split_at_mut-ring.result.1.now c.split_at_mut-ring.ensures.value e0 in
    let e2 = AreElements-back q c.split_at_mut-ring.result.1.now c.split_at_mut-rows.result.0.now c.split_at_mut-rows.result.1.now c.split_at_mut-rows.ensures.value e1 in
    let e3 = AreElements-back q c.split_at_mut-rows.result.1.now c.split_at_mut-some.result.0.now c.split_at_mut-some.result.1.now c.split_at_mut-some.ensures.value e2 in
    let e4 = AreElements-back q c.split_at_mut-some.result.1.now c.split_at_mut-rest.result.0.now c.split_at_mut-rest.result.1.now c.split_at_mut-rest.ensures.value e3 in
    let e5 = AreElements-back q c.split_at_mut-rest.result.1.now c.split_at_mut-next.result.0.now c.split_at_mut-next.result.1.now c.split_at_mut-next.ensures.value e4 in
    let e6 = AreElements-back q c.split_at_mut-next.result.1.now c.split_at_mut-work.result.0.now c.split_at_mut-work.result.1.now c.split_at_mut-work.ensures.value e5 in
    let e7 = AreElements-back q c.split_at_mut-work.result.1.now c.split_at_mut-y.result.0.now c.split_at_mut-y.result.1.now c.split_at_mut-y.ensures.value e6 in
    e7

pub first_failing_behind-requires-clause-y : goal.first_failing_behind-requires-clause-y
first_failing_behind-requires-clause-y c =
    let q = c.args.header.now.field in
    let e0 = c.clear.ensures.elements q in
    let e1 = AreElements-back q c.clear.new.entries c.split_at_mut-ring.result.0.now c.split_at_mut-ring.result.1.now c.split_at_mut-ring.ensures.value e0 in
    let e2 = AreElements-back q c.split_at_mut-ring.result.1.now c.split_at_mut-rows.result.0.now c.split_at_mut-rows.result.1.now c.split_at_mut-rows.ensures.value e1 in
    let e3 = AreElements-back q c.split_at_mut-rows.result.1.now c.split_at_mut-some.result.0.now c.split_at_mut-some.result.1.now c.split_at_mut-some.ensures.value e2 in
    let e4 = AreElements-back q c.split_at_mut-some.result.1.now c.split_at_mut-rest.result.0.now c.split_at_mut-rest.result.1.now c.split_at_mut-rest.ensures.value e3 in
    let e5 = AreElements-back q c.split_at_mut-rest.result.1.now c.split_at_mut-next.result.0.now c.split_at_mut-next.result.1.now c.split_at_mut-next.ensures.value e4 in
    let e6 = AreElements-back q c.split_at_mut-next.result.1.now c.split_at_mut-work.result.0.now c.split_at_mut-work.result.1.now c.split_at_mut-work.ensures.value e5 in
    record { count = c.split_at_mut-y.ensures.front_len ∙ c.cols-size.ensures.count ∙ c.requires.unknowns; elements = AreElements-front q c.split_at_mut-work.result.1.now c.split_at_mut-y.result.0.now c.split_at_mut-y.result.1.now c.split_at_mut-y.ensures.value e6 }

pub first_failing_behind-requires-clause-work : goal.first_failing_behind-requires-clause-work
first_failing_behind-requires-clause-work c =
    let q = c.args.header.now.field in
    let e0 = c.clear.ensures.elements q in
    let e1 = AreElements-back q c.clear.new.entries c.split_at_mut-ring.result.0.now c.split_at_mut-ring.result.1.now c.split_at_mut-ring.ensures.value e0 in
    let e2 = AreElements-back q c.split_at_mut-ring.result.1.now c.split_at_mut-rows.result.0.now c.split_at_mut-rows.result.1.now c.split_at_mut-rows.ensures.value e1 in
    let e3 = AreElements-back q c.split_at_mut-rows.result.1.now c.split_at_mut-some.result.0.now c.split_at_mut-some.result.1.now c.split_at_mut-some.ensures.value e2 in
    let e4 = AreElements-back q c.split_at_mut-some.result.1.now c.split_at_mut-rest.result.0.now c.split_at_mut-rest.result.1.now c.split_at_mut-rest.ensures.value e3 in
    let e5 = AreElements-back q c.split_at_mut-rest.result.1.now c.split_at_mut-next.result.0.now c.split_at_mut-next.result.1.now c.split_at_mut-next.ensures.value e4 in
    record { count = c.split_at_mut-work.ensures.front_len ∙ c.cols-size.ensures.count ∙ c.requires.unknowns; elements = AreElements-front q c.split_at_mut-next.result.1.now c.split_at_mut-work.result.0.now c.split_at_mut-work.result.1.now c.split_at_mut-work.ensures.value e5 }

pub first_failing_behind-requires-clause-next : goal.first_failing_behind-requires-clause-next
first_failing_behind-requires-clause-next c =
    let q = c.args.header.now.field in
    let e0 = c.clear.ensures.elements q in
    let e1 = AreElements-back q c.clear.new.entries c.split_at_mut-ring.result.0.now c.split_at_mut-ring.result.1.now c.split_at_mut-ring.ensures.value e0 in
    let e2 = AreElements-back q c.split_at_mut-ring.result.1.now c.split_at_mut-rows.result.0.now c.split_at_mut-rows.result.1.now c.split_at_mut-rows.ensures.value e1 in
    let e3 = AreElements-back q c.split_at_mut-rows.result.1.now c.split_at_mut-some.result.0.now c.split_at_mut-some.result.1.now c.split_at_mut-some.ensures.value e2 in
    let e4 = AreElements-back q c.split_at_mut-some.result.1.now c.split_at_mut-rest.result.0.now c.split_at_mut-rest.result.1.now c.split_at_mut-rest.ensures.value e3 in
    AreElements-front q c.split_at_mut-rest.result.1.now c.split_at_mut-next.result.0.now c.split_at_mut-next.result.1.now c.split_at_mut-next.ensures.value e4
