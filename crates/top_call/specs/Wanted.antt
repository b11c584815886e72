-- What the words behind the program's name were found to ask for.
use Rattle.std.specs.Prelude.{ℕ, ◌≤◌, List}
use Rattle.top_call.specs.declared.modes.Wanted.{Wanted}
use Rattle.top_call.specs.Modes.{AsksWith}

pub record IsWanted (words : List (List ℕ)) (w : Wanted) : Type 0 where
  pub asks : AsksWith words w.mode w.workers
  pub from : 1 ≤ w.workers
  pub to : w.workers ≤ 16
