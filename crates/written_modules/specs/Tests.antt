-- Tests of a statement: what code that tries them answers. Each test is the refusal that it gives, or none.
use Rattle.std.specs.Prelude.{⊤, ◌≡◌, List, Option, Some, None, Result, Ok, Err}
use Rattle.report_types.specs.declared.reports.Why.{Why}
use Rattle.script_answers.specs.FirstTests.{first_of}
use Rattle.written_modules.specs.declared.stops.Stop.{Stop}
use Rattle.written_modules.specs.declared.stops.Stop.TheVariants.{Refused, NoMemory}

-- the test refuses for this; want of memory may come in the place of any answer
abbrev pub StopsFor : Option Why → Stop → Type 0
StopsFor test (Refused w) = test ≡ Some w
StopsFor test NoMemory = ⊤

-- Ok only where the test passes, and a refusal only where the test gives it
abbrev pub Tested : {A : Type 0} → Option Why → Result A Stop → Type 0
Tested test (Ok x) = test ≡ None
Tested test (Err stop) = StopsFor test stop

-- so of tests that are tried in order: Ok only where all pass, and a refusal only where it is that of the first that fails
abbrev pub AllTested : {A : Type 0} → List (Option Why) → Result A Stop → Type 0
AllTested tests result = Tested (first_of tests) result
