use Rattle.std.proofs.Common.{ℕ, ◌*◌, take, subst}
use Rattle.claim_conditions.specs.LocalConditions.{families_of, ideal_members}
use Rattle.linear_algebra.specs.Rank.{IsInSpan}
use Rattle.local_checks.specs.Families.{family_rows}
use Rattle.local_checks.proofs.PrintedIdeals.{printed_power_decided}
use Rattle.local_checks.proofs.clauses.is_printed_power.Goals as goal

pub returns-clause-power : goal.returns-clause-power
returns-clause-power c =
    let h = c.args.header.now in let m = c.args.m.now in
    let N : ℕ = (families_of h m).size in
    let s = c.write_ideal-rank.ensures.space in
    printed_power_decided h m c.args.basis.now c.args.ideal.now c.rows-rows.ensures.matrix c.requires.ideal_field c.requires.coordinates
    (family_rows h m c.write_ideal-rank.result (take (c.write_ideal-rank.result * N) c.write_ideal-rank.new.rows))
    (subst (λ (k : ℕ). IsInSpan (family_rows h m k (take (c.write_ideal-rank.result * N) c.write_ideal-rank.new.rows)) (ideal_members h m c.args.basis.now c.args.ideal.now)) s.count s.forth)
    (subst (λ (k : ℕ). IsInSpan (ideal_members h m c.args.basis.now c.args.ideal.now) (family_rows h m k (take (c.write_ideal-rank.result * N) c.write_ideal-rank.new.rows))) s.count s.back)
    c.is_least_power.result c.args.power (rw c.requires.work.count at c.is_least_power.ensures.power)
