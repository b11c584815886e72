-- What a run of the program has done: the bytes that it took from the source and gave to the sink, and why it ended as it did. Left and taken are
-- what source and sink tell, before and after.
use Rattle.std.specs.Prelude.{ℕ, ⊤, ◌≡◌, ◌+◌, ◌≤◌, ◌⊎◌, List, length}
use Rattle.std.specs.declared.option.Option.{Option}
use Rattle.quiv_io.specs.Counts.{Rose}
use Rattle.quiv_io.specs.Bytes.{Gives, Takes, TakesFront}
use Rattle.quiv_io.specs.Whole.{GivesAll}
use Rattle.top_call.specs.declared.outcome.Outcome.{Outcome}
use Rattle.top_call.specs.declared.outcome.Outcome.TheVariants.{Done, Refused, Rejected, BadText, TooLong, Usage, ReadFault, WriteFault, NoMemory}
use Rattle.top_call.specs.declared.modes.Mode.{Mode}
use Rattle.top_call.specs.Modes.{AsksFor, input_limit}
use Rattle.top_call.specs.Texts.{too_long_text, usage_text}
use Rattle.top_call.specs.Answers.{Answers, Begins}

-- the input was read to its end, within the limit, and this is the answer to it in the mode that the words ask for
pub record IsAnswered (words : List (List ℕ)) (outcome : Outcome) (before after : Option (List ℕ)) (text : List ℕ) : Type 0 where
  pub mode : Mode
  pub asks : AsksFor words mode
  pub input : List ℕ
  pub read : GivesAll before input after
  pub within : length input ≤ input_limit mode
  pub answer : Answers mode outcome input text

-- one byte more than the limit was read
pub record IsTooLong (words : List (List ℕ)) (before after : Option (List ℕ)) (text : List ℕ) : Type 0 where
  pub mode : Mode
  pub asks : AsksFor words mode
  pub input : List ℕ
  pub read : Gives before input after
  pub past : length input ≡ input_limit mode + 1
  pub written : text ≡ too_long_text

-- the words ask for nothing that there is, and nothing was read
pub record IsUsage (words : List (List ℕ)) (before after : Option (List ℕ)) (text : List ℕ) : Type 0 where
  pub other : (mode : Mode) → AsksFor words mode → ⊥
  pub unread : after ≡ before
  pub written : text ≡ usage_text

-- this is the whole text of an answer with this outcome
abbrev pub IsText : List (List ℕ) → Option (List ℕ) → Option (List ℕ) → Outcome → List ℕ → Type 0
IsText words before after Done text = IsAnswered words Done before after text
IsText words before after (Refused line why) text = IsAnswered words (Refused line why) before after text
IsText words before after (Rejected claim which) text = IsAnswered words (Rejected claim which) before after text
IsText words before after (BadText line) text = IsAnswered words (BadText line) before after text
IsText words before after TooLong text = IsTooLong words before after text
IsText words before after Usage text = IsUsage words before after text
IsText words before after ReadFault text = ⊥
IsText words before after WriteFault text = ⊥
IsText words before after NoMemory text = ⊥

-- the input was read to its end, within the limit, and the text may stand where the work on it stops between two pieces
pub record IsBegun (words : List (List ℕ)) (before after : Option (List ℕ)) (text : List ℕ) : Type 0 where
  pub mode : Mode
  pub asks : AsksFor words mode
  pub input : List ℕ
  pub read : GivesAll before input after
  pub within : length input ≤ input_limit mode
  pub begun : Begins mode input text

-- the words ask for a mode, and of the source at most so many bytes were read as the mode allows
pub record IsStopped (words : List (List ℕ)) (before after : Option (List ℕ)) : Type 0 where
  pub mode : Mode
  pub asks : AsksFor words mode
  pub given : List ℕ
  pub few : length given ≤ input_limit mode
  pub gives : Gives before given after

-- the sink took the whole text
pub record WritesWhole (Is : List ℕ → Type 0) (before after : Option (List ℕ)) : Type 0 where
  pub text : List ℕ
  pub is : Is text
  pub takes : Takes before text after

-- the text is one of some outcome
pub record OfOutcome (Is : Outcome → List ℕ → Type 0) (text : List ℕ) : Type 0 where
  pub outcome : Outcome
  pub is : Is outcome text

-- the sink took a front of the text of some outcome, or of one that was begun
pub record WritesFront (Is : Outcome → List ℕ → Type 0) (Begun : List ℕ → Type 0) (before after : Option (List ℕ)) : Type 0 where
  pub text : List ℕ
  pub is : OfOutcome Is text ⊎ Begun text
  pub front : TakesFront before text after

-- What is written for an outcome. `Is` says what the whole text of an outcome is, `Begun` what may stand where the work stops between two pieces,
-- and `Stopped` what holds where it stops before the first.
abbrev pub Writes : (Outcome → List ℕ → Type 0) → (List ℕ → Type 0) → Type 0 → Outcome → Option (List ℕ) → Option (List ℕ) → Type 0
Writes Is Begun Stopped Done before after = WritesWhole (Is Done) before after
Writes Is Begun Stopped (Refused line why) before after = WritesWhole (Is (Refused line why)) before after
Writes Is Begun Stopped (Rejected claim which) before after = WritesWhole (Is (Rejected claim which)) before after
Writes Is Begun Stopped (BadText line) before after = WritesWhole (Is (BadText line)) before after
Writes Is Begun Stopped TooLong before after = WritesWhole (Is TooLong) before after
Writes Is Begun Stopped Usage before after = WritesWhole (Is Usage) before after
Writes Is Begun Stopped ReadFault before after = Stopped × (after ≡ before)
Writes Is Begun Stopped WriteFault before after = WritesFront Is Begun before after
Writes Is Begun Stopped NoMemory before after = (Stopped × (after ≡ before)) ⊎ WritesWhole Begun before after

-- A fault of the source or the sink is one that it counted. The other outcomes have their causes in their texts, and want of memory is free. The
-- first two counts are the source's before and after, the last two the sink's.
abbrev pub HasCause : Outcome → ℕ → ℕ → ℕ → ℕ → Type 0
HasCause ReadFault a b c d = Rose a b
HasCause WriteFault a b c d = Rose c d
HasCause Done a b c d = ⊤
HasCause (Refused line why) a b c d = ⊤
HasCause (Rejected claim which) a b c d = ⊤
HasCause (BadText line) a b c d = ⊤
HasCause TooLong a b c d = ⊤
HasCause Usage a b c d = ⊤
HasCause NoMemory a b c d = ⊤

-- the exit status of the program
abbrev pub status_of : Outcome → ℕ
status_of Done = 0
status_of (Refused line why) = 1
status_of (Rejected claim which) = 2
status_of (BadText line) = 3
status_of TooLong = 4
status_of Usage = 5
status_of ReadFault = 6
status_of WriteFault = 7
status_of NoMemory = 8
