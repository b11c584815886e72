use Rattle.std.proofs.Common.{length, ◌-◌, ◌≤◌, take}
use Rattle.quiv_io.specs.Bytes.{Takes}
use Rattle.quiv_io.proofs.whole.write_whole.Given as goal

-- the sink took what stands before `at`
abbrev pub invariant-loop-at : goal.invariant-loop-at
invariant-loop-at g l = record {
  within : l.at ≤ length l.text;
  count : g.K.Sink.faults l.fn.sink ≤ g.K.Sink.faults l.sink;
  taken : Takes (g.K.Sink.taken l.fn.sink) (take l.at l.text) (g.K.Sink.taken l.sink);
}

abbrev pub decreases-loop-at : goal.decreases-loop-at
decreases-loop-at g l = length l.text - l.at
