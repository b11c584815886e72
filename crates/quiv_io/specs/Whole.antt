-- What reading a source to its end has taken from it when it returns.
use Rattle.std.specs.Prelude.{◌≡◌, ℕ, ◌+◌, ◌≤◌, List, length}
use Rattle.std.specs.declared.option.Option.{Option}
use Rattle.quiv_io.specs.Bytes.{Gives, IsAtEnd}
use Rattle.quiv_io.specs.declared.whole.ReadError.{ReadError}
use Rattle.quiv_io.specs.declared.whole.ReadError.TheVariants.{Fault, TooLong, NoMemory}

-- the source gave these bytes and has no more
abbrev pub GivesAll : Option (List ℕ) → List ℕ → Option (List ℕ) → Type 0
GivesAll before given after = Gives before given after × IsAtEnd after

-- how many bytes were read before an error: one more than the limit where that is the error, else at most the limit
abbrev pub IsReadBefore : ReadError → ℕ → ℕ → Type 0
IsReadBefore Fault limit count = count ≤ limit
IsReadBefore TooLong limit count = count ≡ limit + 1
IsReadBefore NoMemory limit count = count ≤ limit

-- the source gave the bytes that were read before an error
pub record GivesBefore (error : ReadError) (limit : ℕ) (before after : Option (List ℕ)) : Type 0 where
  pub given : List ℕ
  pub count : IsReadBefore error limit (length given)
  pub gives : Gives before given after
