use Rattle.std.proofs.Common.{◌≡◌, ◌+◌, ◌*◌, ap, ◌∙◌, arith, length, replicate, refl}
use Rattle.std.proofs.lemmas.List.{take_at, length-replicate}
use Rattle.linear_algebra.specs.Rows.{rows_of}
use Rattle.fp_linear.specs.Matrix.{plain}
use Rattle.fp_linear.proofs.Slices.{AreElements-zeros}
use Rattle.fp_linear.proofs.Cells.{cell-is}
use Rattle.fp_linear.proofs.InvertOf.{rows_of-units}
use Rattle.fp_linear.proofs.Matrices.{HoldsMatrix-written, zero_at}
use Rattle.fp_linear.proofs.matrix.Matrix.identity.Goals as goal

pub put_units-requires-clause-zero : goal.put_units-requires-clause-zero
put_units-requires-clause-zero c = λ i j l k.
    cell-is c.args.size c.deref_mut.result.now i (0 + j) ∙ zero_at (c.args.size * c.args.size) _ (i * c.args.size + (0 + j)) (c.deref_mut.ensures.value ∙ c.in_ok-entries.ensures.items_if_clones_equal (λ y h. h))

pub invariant_of-result : goal.invariant_of-result
invariant_of-result c =
    let n = c.args.size in
    let zeros : c.in_ok-entries.entries.items ≡ replicate (n * n) 0 = c.in_ok-entries.ensures.items_if_clones_equal (λ y h. h) in
    HoldsMatrix-written c.args.field n n c.in_ok-entries.entries.len _ _ c.put_units.new.entries refl (omega (arith, c.deref_mut.ensures.len, c.put_units.auto.entries))
    (c.put_units.auto.entries ∙ ap length c.deref_mut.ensures.value ∙ ap length zeros ∙ length-replicate (n * n) 0)
    (c.put_units.ensures.elements c.args.field (rw c.deref_mut.ensures.value (AreElements-zeros c.args.field (n * n) _ zeros))) c.requires

pub returns : goal.returns
returns c =
    ap (plain c.args.field c.args.size c.args.size)
    (ap (rows_of c.args.size c.args.size) (take_at c.put_units.new.entries _ c.in_ok-entries.entries.len (omega (arith, c.deref_mut.ensures.len, c.put_units.auto.entries))) ∙ rows_of-units c.args.size c.put_units.new.entries _ c.put_units.ensures.units)
