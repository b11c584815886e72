use Rattle.std.proofs.Common.{ℕ, ◌*◌, take}
use Rattle.claim_conditions.specs.LocalConditions.{families_of}
use Rattle.local_checks.specs.Families.{family_space}
use Rattle.local_checks.proofs.PrintedIdeals.{not_reduced, printed_ideal_decided}
use Rattle.local_checks.proofs.clauses.is_printed_ideal.Goals as goal

pub returns-then-not-is_reduced-clause-ideal : goal.returns-then-not-is_reduced-clause-ideal
returns-then-not-is_reduced-clause-ideal c =
    not_reduced c.args.header.now c.args.m.now c.args.basis.now c.args.ideal.now c.rows-rows.ensures.matrix c.requires.ideal_field c.requires.coordinates c.if-not-is_reduced.ensures

pub is_ideal-requires-clause-space : goal.is_ideal-requires-clause-space
is_ideal-requires-clause-space c = rw c.requires.work.count c.write_ideal-rank.ensures.space.is_space

pub returns-clause-ideal : goal.returns-clause-ideal
returns-clause-ideal c =
    let h = c.args.header.now in let m = c.args.m.now in
    let N : ℕ = (families_of h m).size in
    let s = c.write_ideal-rank.ensures.space in
    printed_ideal_decided h m c.args.basis.now c.args.ideal.now c.rows-rows.ensures.matrix c.requires.ideal_field c.requires.coordinates
    (family_space h m (take (c.write_ideal-rank.result * N) c.write_ideal-rank.new.rows) (take c.write_ideal-rank.result c.write_ideal-rank.new.pivots)) s.forth s.back c.is_ideal.result c.if-not-is_reduced.ensures
    (rw (c.requires.work.count, c.rows-ring_count.ensures.count, c.write_ideal-rank.ensures.ring) at c.is_ideal.ensures.ideal)
