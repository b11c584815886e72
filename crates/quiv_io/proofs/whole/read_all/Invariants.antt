use Rattle.std.proofs.Common.{length, ◌≡◌, ◌-◌, ◌+◌, ◌≤◌}
use Rattle.quiv_io.specs.Bytes.{Gives}
use Rattle.quiv_io.proofs.whole.read_all.Given as goal

-- the source gave what was read so far
abbrev pub invariant-pieces : goal.invariant-pieces
invariant-pieces g l = record {
  most : l.most ≡ l.fn.limit;
  within : length l.bytes.items ≤ l.most;
  count : g.S.Source.faults l.fn.source ≤ g.S.Source.faults l.source;
  given : Gives (g.S.Source.left l.fn.source) l.bytes.items (g.S.Source.left l.source);
}

abbrev pub decreases-pieces : goal.decreases-pieces
decreases-pieces g l = l.most + 1 - length l.bytes.items
