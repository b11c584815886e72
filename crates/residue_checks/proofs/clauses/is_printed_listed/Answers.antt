use Rattle.std.proofs.Common.{length, ◌∙◌, arith, subst}
use Rattle.linear_algebra.specs.Matrix.{Mat}
use Rattle.claim_conditions.specs.LocalConditions.{families_of}
use Rattle.local_checks.specs.Rows.{IsSpaceOf}
use Rattle.local_checks.proofs.PrintedIdeals.{ideal_inside, ideal_closed}
use Rattle.residue_checks.proofs.PrintedListed.{room_of, printed_listed_decided}
use Rattle.residue_checks.proofs.clauses.is_printed_listed.Goals as goal

pub reduce_rows-ring_rank-requires-clause-count : goal.reduce_rows-ring_rank-requires-clause-count
reduce_rows-ring_rank-requires-clause-count c = rw (c.rows.ensures.count, c.cols-cols.ensures.count, c.requires.unknowns) (c.write_ideal-rank.auto.ring ∙ c.requires.ring.count)

pub has_listed_residue-requires-clause-ring : goal.has_listed_residue-requires-clause-ring
has_listed_residue-requires-clause-ring c =
    let h = c.args.header.now in let m = c.args.m.now in
    let s = subst (λ (F : Mat h.field c.args.basis.now.row_count (families_of h m).size). IsSpaceOf F c.reduce_rows-ring_rank.new.entries c.reduce_rows-ring_rank.new.pivots c.reduce_rows-ring_rank.result) c.write_ideal-rank.ensures.ring
    (rw (c.rows.ensures.count, c.cols-cols.ensures.count, c.requires.unknowns) at c.reduce_rows-ring_rank.ensures.space) in
    let i = c.write_ideal-rank.ensures.space in
    rw c.requires.work.count (record {
      first = s.is_space;
      second = i.is_space;
      inside = ideal_inside h m c.args.basis.now c.args.ideal.now _ _ s.forth s.back i.forth i.back;
      ideal = ideal_closed h m c.args.basis.now c.args.ideal.now _ _ s.forth s.back i.forth i.back c.requires.closed;
      small = omega (arith, c.requires.unknowns, c.cols-cols.ensures.count, c.cols-cols.type_inv);
      few = omega (arith, s.count, c.reduce_rows-ring_rank.type_inv);
    })

pub has_listed_residue-requires-clause-some : goal.has_listed_residue-requires-clause-some
has_listed_residue-requires-clause-some c =
    let s = c.reduce_rows-ring_rank.ensures.space in
    room_of c.args.header.now c.args.m.now c.args.basis.now.row_count c.reduce_rows-ring_rank.result (length c.args.work.now) c.args.some.now c.args.some_pivots.now c.reduce_rows-ring_rank.new.pivots c.requires.some
    (rw c.rows.ensures.count at s.few) c.requires.work.count s.count

pub has_listed_residue-requires-clause-rest : goal.has_listed_residue-requires-clause-rest
has_listed_residue-requires-clause-rest c =
    let s = c.reduce_rows-ring_rank.ensures.space in
    room_of c.args.header.now c.args.m.now c.args.basis.now.row_count c.reduce_rows-ring_rank.result (length c.args.work.now) c.args.rest.now c.args.rest_pivots.now c.reduce_rows-ring_rank.new.pivots c.requires.rest
    (rw c.rows.ensures.count at s.few) c.requires.work.count s.count

pub has_listed_residue-requires-clause-digit_count : goal.has_listed_residue-requires-clause-digit_count
has_listed_residue-requires-clause-digit_count c =
    let s = c.reduce_rows-ring_rank.ensures.space in
    omega (arith, s.count, s.few, c.rows.ensures.count, c.requires.digit_count)

pub returns : goal.returns
returns c =
    let h = c.args.header.now in let m = c.args.m.now in
    let s = subst (λ (F : Mat h.field c.args.basis.now.row_count (families_of h m).size). IsSpaceOf F c.reduce_rows-ring_rank.new.entries c.reduce_rows-ring_rank.new.pivots c.reduce_rows-ring_rank.result) c.write_ideal-rank.ensures.ring
    (rw (c.rows.ensures.count, c.cols-cols.ensures.count, c.requires.unknowns) at c.reduce_rows-ring_rank.ensures.space) in
    let i = c.write_ideal-rank.ensures.space in
    record {
      residue = printed_listed_decided h m c.args.basis.now c.args.ideal.now _ _ s.forth s.back i.forth i.back c.has_listed_residue.result (rw c.requires.work.count at c.has_listed_residue.ensures.listed);
    }
