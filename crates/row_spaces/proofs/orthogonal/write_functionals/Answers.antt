use Rattle.std.proofs.Common.{◌≡◌, ◌≤◌, ◌+◌, ◌-◌, ◌*◌, length, ap, ◌∙◌, arith}
use Rattle.std.proofs.lemmas.List.{length-take-le, length-drop}
use Rattle.std.proofs.lemmas.Nat.{row_fits}
use Rattle.fp_linear.proofs.LentRows.{IsWritten-part}
use Rattle.row_spaces.proofs.FunctionalRows.{HasFunctionals-more}
use Rattle.row_spaces.proofs.orthogonal.write_functionals.Goals as goal

pub loop-j-preserved : goal.loop-j-preserved
loop-j-preserved c =
    let m = c.args.matrix.now in
    let n = c.cols-cols.result in
    let j = c.loop-j.j in
    let ne : n ≡ m.col_count = c.cols-cols.ensures.count in
    let part : j * n + n - j * n ≡ n = omega arith in
    let fits : j * n + n ≤ length c.loop-j.entries = omega (arith, row_fits j n (length c.args.free.now) n c.loop-j-test.true (omega arith), c.requires.shape, c.loop-j.auto.entries, ap (λ k. length c.args.free.now * k) ne) in
    let width : length c.write_functional.new.functional ≡ n = c.write_functional.auto.functional ∙ length-take-le _ _ (omega (arith, length-drop (j * n) c.loop-j.entries, fits)) ∙ part in
    HasFunctionals-more m.field m.col_count j _ c.args.free.now c.loop-j.entries _ c.write_functional.new.functional
    (rw (← ne) (IsWritten-part (j * n) n _ c.loop-j.entries c.write_functional.new.functional part width fits)) (width ∙ ne) c.write_functional.ensures.elements c.write_functional.ensures.functional c.loop-j.invariant
