use Rattle.std.proofs.Common.{◌≡◌, ◌+◌, ◌*◌, ◌-◌, sym, ap, ◌∙◌, arith, get_or}
use Rattle.std.proofs.lemmas.Nat.{mul-add-lt}
use Rattle.linear_algebra.specs.Field.{mul}
use Rattle.linear_algebra.specs.FieldLaws.{mul_below}
use Rattle.fp_linear.specs.Slices.{scaled, IsWritten}
use Rattle.fp_linear.proofs.Cells.{cell-is, cell-written, cell-unwritten}
use Rattle.fp_linear.proofs.Slices.{IsWritten-more, AreElements-set}
use Rattle.fp_linear.proofs.echelon.scale_row.Goals as goal

pub loop-j-preserved : goal.loop-j-preserved
loop-j-preserved c =
    let at = c.args.row * c.args.cols in
    let value : c.mul.result ≡ scaled c.args.field c.args.factor at c.args.entries.now c.loop-j.j =
    c.mul.ensures ∙ ap (mul c.args.field c.args.factor) (c.loop-j.invariant.written.after (at + c.loop-j.j) (omega arith)) in
    record {
      written = IsWritten-more c.args.entries.now c.loop-j.entries at c.loop-j.j _ c.mul.result c.loop-j.invariant.written (let f = mul-add-lt c.args.row c.args.cols c.loop-j.j c.args.rows c.requires.inside c.loop-j-test.true in omega arith) value;
      elements = AreElements-set c.args.field c.loop-j.entries _ c.mul.result c.loop-j.invariant.elements (rw c.mul.ensures (mul_below c.args.field _ _));
    }

pub returns-clause-scaled : goal.returns-clause-scaled
returns-clause-scaled c =
    let at = c.args.row * c.args.cols in
    let end : c.loop-j.j ≡ c.args.cols = omega arith in
    let w : IsWritten c.args.entries.now c.loop-j.entries at c.args.cols (scaled c.args.field c.args.factor at c.args.entries.now) = rw end at c.loop-j.invariant.written in
    record {
      row = λ j l. cell-written c.args.entries.now c.loop-j.entries c.args.cols c.args.row 0 at c.args.cols _ (omega arith) w j (omega arith) (omega arith)
          ∙ ap (mul c.args.field c.args.factor) (let e : at + (j - 0) ≡ at + j = omega arith in ap (λ i. get_or c.args.entries.now i 0) e ∙ sym (cell-is c.args.cols c.args.entries.now c.args.row j));
      others = λ i j _ l d. cell-unwritten c.args.entries.now c.loop-j.entries c.args.cols c.args.row 0 at c.args.cols _ (omega arith) (omega arith) w i j l d;
    }
