-- What the parts of a run of the program have written.
use Rattle.std.specs.Prelude.{ℕ, ⊤, ◌≡◌, ◌⊎◌, List}
use Rattle.std.specs.declared.option.Option.{Option}
use Rattle.quiv_io.specs.Counts.{Rose}
use Rattle.quiv_io.specs.Bytes.{Takes, TakesFront}
use Rattle.top_call.specs.declared.outcome.Outcome.{Outcome}
use Rattle.top_call.specs.declared.outcome.Outcome.TheVariants.{Done, Refused, Rejected, BadText, TooLong, Usage, ReadFault, WriteFault, NoMemory}
use Rattle.top_call.specs.declared.modes.Mode.{Mode}
use Rattle.script_run.specs.declared.ends.RunEnd.{RunEnd}
use Rattle.script_run.specs.declared.ends.RunEnd.TheVariants as run
use Rattle.top_call.specs.Texts.{bad_text}
use Rattle.top_call.specs.Answers.{Answers, Begins}
use Rattle.top_call.specs.Outcomes.{Writes}

-- the sink has counted a fault and took a front of the text
pub record FrontWritten (text : List ℕ) (before after : Option (List ℕ)) (old new : ℕ) : Type 0 where
  pub front : TakesFront before text after
  pub rose : Rose old new

-- the text was written whole and the outcome is this one, or a front of it was
abbrev pub Finishes : Outcome → List ℕ → Option (List ℕ) → Option (List ℕ) → ℕ → ℕ → Outcome → Type 0
Finishes outcome text before after old new result = ((result ≡ outcome) × Takes before text after) ⊎ ((result ≡ WriteFault) × FrontWritten text before after old new)

-- a fault of the sink was counted, and none of the source can be the cause
abbrev pub HasSinkCause : Outcome → ℕ → ℕ → Type 0
HasSinkCause Done old new = ⊤
HasSinkCause (Refused line why) old new = ⊤
HasSinkCause (Rejected claim which) old new = ⊤
HasSinkCause (BadText line) old new = ⊤
HasSinkCause TooLong old new = ⊤
HasSinkCause Usage old new = ⊤
HasSinkCause ReadFault old new = ⊥
HasSinkCause WriteFault old new = Rose old new
HasSinkCause NoMemory old new = ⊤

-- how the work on an input in a mode ends
pub record EndsWith (mode : Mode) (input : List ℕ) (outcome : Outcome) (before after : Option (List ℕ)) (old new : ℕ) : Type 0 where
  pub writes : Writes (λ o text. Answers mode o input text) (Begins mode input) ⊤ outcome before after
  pub cause : HasSinkCause outcome old new

-- the outcome of a run of a script
abbrev pub run_outcome : RunEnd → Outcome
run_outcome (run.Done claims) = Done
run_outcome (run.Refused line why) = Refused line why
run_outcome run.WriteFault = WriteFault
run_outcome run.NoMemory = NoMemory

-- the first bad line was named, or there was no memory for its text
abbrev pub Refuses : ℕ → Option (List ℕ) → Option (List ℕ) → ℕ → ℕ → Outcome → Type 0
Refuses line before after old new result = ((result ≡ NoMemory) × (after ≡ before)) ⊎ Finishes (BadText line) (bad_text line) before after old new result
