-- What contracts see of the sources and sinks in memory.
use Rattle.std.specs.Prelude.{ℕ, List, Some, None, ◌==◌, if◌then◌else◌}
use Rattle.std.specs.declared.option.Option.{Option}

-- a source in memory: the bytes left, how many it gives in one call at most, the calls so far, the numbers of
-- the calls that fail, and the failures so far
pub record SourceView : Type 0 where
  pub left : List ℕ
  pub piece : ℕ
  pub calls : ℕ
  pub failing : List ℕ
  pub faults : ℕ

-- a sink in memory: the bytes taken, how many it takes in all and in one call at most, the calls so far, the
-- numbers of the calls that fail, and the failures so far
pub record SinkView : Type 0 where
  pub bytes : List ℕ
  pub room : ℕ
  pub piece : ℕ
  pub calls : ℕ
  pub failing : List ℕ
  pub faults : ℕ

-- a sink that never fails: the bytes kept, for how many there is room, and how many were taken and not kept
pub record SureSinkView : Type 0 where
  pub bytes : List ℕ
  pub room : ℕ
  pub lost : ℕ

-- the bytes taken, told where none was lost
abbrev pub told : SureSinkView → Option (List ℕ)
told sink = if sink.lost == 0 then Some sink.bytes else None
