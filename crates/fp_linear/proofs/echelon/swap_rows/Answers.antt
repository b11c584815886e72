use Rattle.std.proofs.Common.{arith}
use Rattle.std.proofs.lemmas.Nat.{mul-add-lt}
use Rattle.fp_linear.proofs.RowLoops.{AreExchangedBelow-none, AreExchangedBelow-more, AreElements-swap}
use Rattle.fp_linear.proofs.echelon.swap_rows.Goals as goal

pub loop-j-init : goal.loop-j-init
loop-j-init c = record { exchanged = AreExchangedBelow-none _ _ _ _ _; elements = λ q h. h }

pub loop-j-preserved : goal.loop-j-preserved
loop-j-preserved c =
    let first = mul-add-lt c.args.a c.args.cols c.loop-j.j c.args.rows c.requires.first c.loop-j-test.true in
    let second = mul-add-lt c.args.b c.args.cols c.loop-j.j c.args.rows c.requires.second c.loop-j-test.true in
    rw c.swap.ensures.after
    record {
      exchanged = AreExchangedBelow-more c.args.rows c.args.cols c.args.a c.args.b c.loop-j.j c.args.entries.now c.loop-j.entries c.requires.first c.requires.second c.if-a-b.true c.loop-j-test.true (omega arith) c.loop-j.invariant.exchanged;
      elements = λ q h. AreElements-swap q c.loop-j.entries _ _ (omega arith) (omega arith) (c.loop-j.invariant.elements q h);
    }
