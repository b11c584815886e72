use Rattle.std.proofs.Common.{ℕ, ◌<◌}
use Rattle.alg_table.specs.TableView.{IsTable}
use Rattle.module_types.specs.Readings.{read}
use Rattle.claim_conditions.specs.ResolutionConditions.{OfCovered, AreCanonicalIn}
use Rattle.resolution_checks.specs.Steps.{words_of_side}
use Rattle.cover_checks.proofs.choosing.is_chosen.Given as goal

abbrev pub invariant-loop-k : goal.invariant-loop-k
invariant-loop-k l = (t : IsTable l.table.header l.table.words) (i : ℕ) → i < l.k
    → OfCovered (words_of_side l.table.header l.table.words t l.a l.terms) (read l.table.header l.a) l.terms i (AreCanonicalIn (words_of_side l.table.header l.table.words t l.a l.terms) (read l.table.header l.a) l.terms i)
