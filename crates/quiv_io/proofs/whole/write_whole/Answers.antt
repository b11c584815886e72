use Rattle.std.proofs.Common.{◌≤◌, length, ◌-◌, take, drop, arith}
use Rattle.std.proofs.lemmas.List.{length-drop}
use Rattle.quiv_io.proofs.Joined.{Takes-next, TakesFront-take, from_place}
use Rattle.quiv_io.proofs.whole.write_whole.Goals as goal

pub returns-in_default-clause-front : goal.returns-in_default-clause-front
returns-in_default-clause-front g c =
    rw c.in_default.ensures.untaken (TakesFront-take _ _ c.args.text.now c.loop-at.at c.loop-at.invariant.taken)

pub loop-at-preserved : goal.loop-at-preserved
loop-at-preserved g c =
    let within : c.in-Ok.n ≤ length (take (length c.args.text.now - c.loop-at.at) (drop c.loop-at.at c.args.text.now)) = c.in-Ok.ensures.within in
    record {
      within = omega (arith, rw (from_place c.args.text.now c.loop-at.at) at within, length-drop c.loop-at.at c.args.text.now);
      count = omega (arith, c.write.ensures.count);
      taken = Takes-next _ _ _ c.args.text.now c.loop-at.at c.in-Ok.n c.loop-at.invariant.taken (rw (from_place c.args.text.now c.loop-at.at) at c.in-Ok.ensures.appended);
    }
