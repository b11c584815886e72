use Rattle.std.proofs.Common.{ℕ, ◌*◌, sym, ap, ◌∙◌, subst}
use Rattle.linear_algebra.specs.Field.{Gf}
use Rattle.linear_algebra.specs.Matrix.{Mat}
use Rattle.fp_linear.specs.Slices.{AreElements}
use Rattle.claim_conditions.specs.LocalConditions.{families_of}
use Rattle.local_checks.specs.Rows.{IsSpaceOf}
use Rattle.local_checks.proofs.PrintedIdeals.{ring_is, members_are}
use Rattle.local_checks.proofs.clauses.write_ideal.Goals as goal

pub write_rows-requires-clause-count : goal.write_rows-requires-clause-count
write_rows-requires-clause-count c = c.requires.ring_count ∙ ap (λ (n : ℕ). c.args.basis.now.row_count * n) (sym c.requires.unknowns)

pub write_rows-requires-clause-elements : goal.write_rows-requires-clause-elements
write_rows-requires-clause-elements c = subst (λ (q : Gf). AreElements q c.args.ring.now) (sym c.requires.field) c.requires.ring_elements

pub write_combinations-requires-clause-basis_elements : goal.write_combinations-requires-clause-basis_elements
write_combinations-requires-clause-basis_elements c = subst (λ (q : Gf). AreElements q c.write_rows.new.rows) (c.requires.field ∙ sym c.requires.ideal_field) c.write_rows.ensures.elements

pub write_combinations-requires-clause-basis_count : goal.write_combinations-requires-clause-basis_count
write_combinations-requires-clause-basis_count c =
    rw (c.cols-cols.ensures.count, c.requires.coordinates) (c.write_rows.auto.rows ∙ c.requires.ring_count ∙ ap (λ (n : ℕ). c.args.basis.now.row_count * n) (sym c.requires.unknowns))

pub write_combinations-requires-clause-count : goal.write_combinations-requires-clause-count
write_combinations-requires-clause-count c = rw c.cols-cols.ensures.count (c.requires.count ∙ ap (λ (n : ℕ). c.args.ideal.now.row_count * n) (sym c.requires.unknowns))

pub write_combinations-requires-clause-elements : goal.write_combinations-requires-clause-elements
write_combinations-requires-clause-elements c = subst (λ (q : Gf). AreElements q c.args.rows.now) (sym c.requires.ideal_field) c.requires.elements

pub returns-clause-ring_elements : goal.returns-clause-ring_elements
returns-clause-ring_elements c = subst (λ (q : Gf). AreElements q c.write_rows.new.rows) c.requires.field c.write_rows.ensures.elements

pub returns-clause-ring : goal.returns-clause-ring
returns-clause-ring c = ring_is c.args.header.now c.args.m.now c.args.basis.now c.args.ideal.now c.requires.field c.requires.ideal_field c.requires.unknowns c.requires.coordinates c.write_rows.new.rows c.write_rows.ensures.rows

pub reduce_rows-requires-clause-elements : goal.reduce_rows-requires-clause-elements
reduce_rows-requires-clause-elements c = subst (λ (q : Gf). AreElements q c.write_combinations.new.rows) c.requires.ideal_field c.write_combinations.ensures.elements

pub reduce_rows-requires-clause-count : goal.reduce_rows-requires-clause-count
reduce_rows-requires-clause-count c =
    rw (c.rows.ensures.count, c.cols-cols.ensures.count) (c.write_combinations.auto.rows ∙ c.requires.count ∙ ap (λ (n : ℕ). c.args.ideal.now.row_count * n) (sym c.requires.unknowns))

pub returns-clause-space : goal.returns-clause-space
returns-clause-space c =
    subst (λ (f : Mat c.args.header.now.field c.args.ideal.now.row_count (families_of c.args.header.now c.args.m.now).size). IsSpaceOf f c.reduce_rows.new.entries c.reduce_rows.new.pivots c.reduce_rows.result)
    (members_are c.args.header.now c.args.m.now c.args.basis.now c.args.ideal.now c.requires.field c.requires.ideal_field c.requires.unknowns c.requires.coordinates c.write_rows.new.rows c.write_combinations.new.rows
    c.write_rows.ensures.rows (rw c.cols-cols.ensures.count at c.write_combinations.ensures.rows))
    (rw (c.rows.ensures.count, c.cols-cols.ensures.count, c.requires.unknowns) at c.reduce_rows.ensures.space)
