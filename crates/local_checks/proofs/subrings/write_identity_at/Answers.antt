use Rattle.std.proofs.Common.{ℕ, ◌≡◌, ◌+◌, ◌-◌, ◌*◌, length, ◌∙◌, arith}
use Rattle.local_checks.proofs.Places.{lent_length, part_elements}
use Rattle.local_checks.proofs.Units.{unit_written}
use Rattle.local_checks.proofs.subrings.write_identity_at.Goals as goal

pub returns-clause-elements : goal.returns-clause-elements
returns-clause-elements c =
    let d : ℕ = c.args.size in let from : ℕ = c.args.from in let k : ℕ = from + d * d - from in
    let size : length c.write_identity.new.rows ≡ d * d = c.write_identity.auto.rows ∙ lent_length c.args.out.now from k (omega (arith, c.requires.inside)) ∙ omega arith in
    part_elements c.args.out.now c.write_identity.new.rows from k (d * d) size (omega arith) c.requires.inside c.args.field c.requires.elements c.write_identity.ensures.elements

pub returns-clause-written : goal.returns-clause-written
returns-clause-written c =
    let d : ℕ = c.args.size in let from : ℕ = c.args.from in let k : ℕ = from + d * d - from in
    let size : length c.write_identity.new.rows ≡ d * d = c.write_identity.auto.rows ∙ lent_length c.args.out.now from k (omega (arith, c.requires.inside)) ∙ omega arith in
    unit_written c.args.out.now c.write_identity.new.rows from d k (omega arith) size c.requires.inside c.write_identity.ensures.entries
