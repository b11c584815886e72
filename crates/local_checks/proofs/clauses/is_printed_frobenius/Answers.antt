use Rattle.std.proofs.Common.{length, ◌∙◌, arith, subst}
use Rattle.linear_algebra.specs.Matrix.{Mat}
use Rattle.claim_conditions.specs.LocalConditions.{families_of}
use Rattle.local_checks.specs.Rows.{IsSpaceOf}
use Rattle.local_checks.proofs.PrintedIdeals.{ideal_inside, ideal_closed, printed_frobenius_decided, rest_shape}
use Rattle.local_checks.proofs.clauses.is_printed_frobenius.Goals as goal

pub reduce_rows-ring_rank-requires-clause-count : goal.reduce_rows-ring_rank-requires-clause-count
reduce_rows-ring_rank-requires-clause-count c = rw (c.rows.ensures.count, c.cols-cols.ensures.count, c.requires.unknowns) (c.write_ideal-rank.auto.ring ∙ c.requires.ring_count)

pub has_frobenius_residue-requires-clause-ring : goal.has_frobenius_residue-requires-clause-ring
has_frobenius_residue-requires-clause-ring c =
    let h = c.args.header.now in let m = c.args.m.now in
    let s = subst (λ (F : Mat h.field c.args.basis.now.row_count (families_of h m).size). IsSpaceOf F c.reduce_rows-ring_rank.new.entries c.reduce_rows-ring_rank.new.pivots c.reduce_rows-ring_rank.result) c.write_ideal-rank.ensures.ring
    (rw (c.rows.ensures.count, c.cols-cols.ensures.count, c.requires.unknowns) at c.reduce_rows-ring_rank.ensures.space) in
    rw c.requires.work.count s.is_space

pub has_frobenius_residue-requires-clause-space : goal.has_frobenius_residue-requires-clause-space
has_frobenius_residue-requires-clause-space c = rw c.requires.work.count c.write_ideal-rank.ensures.space.is_space

pub has_frobenius_residue-requires-clause-inside : goal.has_frobenius_residue-requires-clause-inside
has_frobenius_residue-requires-clause-inside c =
    let h = c.args.header.now in let m = c.args.m.now in
    let s = subst (λ (F : Mat h.field c.args.basis.now.row_count (families_of h m).size). IsSpaceOf F c.reduce_rows-ring_rank.new.entries c.reduce_rows-ring_rank.new.pivots c.reduce_rows-ring_rank.result) c.write_ideal-rank.ensures.ring
    (rw (c.rows.ensures.count, c.cols-cols.ensures.count, c.requires.unknowns) at c.reduce_rows-ring_rank.ensures.space) in
    let i = c.write_ideal-rank.ensures.space in
    rw c.requires.work.count (ideal_inside h m c.args.basis.now c.args.ideal.now _ _ s.forth s.back i.forth i.back)

pub has_frobenius_residue-requires-clause-ideal : goal.has_frobenius_residue-requires-clause-ideal
has_frobenius_residue-requires-clause-ideal c =
    let h = c.args.header.now in let m = c.args.m.now in
    let s = subst (λ (F : Mat h.field c.args.basis.now.row_count (families_of h m).size). IsSpaceOf F c.reduce_rows-ring_rank.new.entries c.reduce_rows-ring_rank.new.pivots c.reduce_rows-ring_rank.result) c.write_ideal-rank.ensures.ring
    (rw (c.rows.ensures.count, c.cols-cols.ensures.count, c.requires.unknowns) at c.reduce_rows-ring_rank.ensures.space) in
    let i = c.write_ideal-rank.ensures.space in
    rw c.requires.work.count (ideal_closed h m c.args.basis.now c.args.ideal.now _ _ s.forth s.back i.forth i.back c.requires.closed)

pub has_frobenius_residue-requires-clause-small : goal.has_frobenius_residue-requires-clause-small
has_frobenius_residue-requires-clause-small c = omega (arith, c.requires.unknowns, c.cols-cols.ensures.count, c.cols-cols.type_inv)

pub has_frobenius_residue-requires-clause-few_in_ring : goal.has_frobenius_residue-requires-clause-few_in_ring
has_frobenius_residue-requires-clause-few_in_ring c = omega (arith, c.reduce_rows-ring_rank.ensures.space.count, c.reduce_rows-ring_rank.type_inv)

pub has_frobenius_residue-requires-clause-few : goal.has_frobenius_residue-requires-clause-few
has_frobenius_residue-requires-clause-few c = omega (arith, c.write_ideal-rank.ensures.space.count, c.write_ideal-rank.type_inv)

pub has_frobenius_residue-requires-clause-rest_count : goal.has_frobenius_residue-requires-clause-rest_count
has_frobenius_residue-requires-clause-rest_count c =
    rest_shape c.reduce_rows-ring_rank.result c.args.basis.now.row_count _ (length c.args.work.now) c.args.rest.now c.reduce_rows-ring_rank.new.pivots
    (rw c.rows.ensures.count at c.reduce_rows-ring_rank.ensures.space.few) c.requires.work.count c.requires.rest_count c.reduce_rows-ring_rank.ensures.space.count

pub returns : goal.returns
returns c =
    let h = c.args.header.now in let m = c.args.m.now in
    let s = subst (λ (F : Mat h.field c.args.basis.now.row_count (families_of h m).size). IsSpaceOf F c.reduce_rows-ring_rank.new.entries c.reduce_rows-ring_rank.new.pivots c.reduce_rows-ring_rank.result) c.write_ideal-rank.ensures.ring
    (rw (c.rows.ensures.count, c.cols-cols.ensures.count, c.requires.unknowns) at c.reduce_rows-ring_rank.ensures.space) in
    let i = c.write_ideal-rank.ensures.space in
    record {
      residue = printed_frobenius_decided h m c.args.basis.now c.args.ideal.now _ _ s.forth s.back i.forth i.back c.has_frobenius_residue.result (rw c.requires.work.count at c.has_frobenius_residue.ensures.frobenius);
    }
