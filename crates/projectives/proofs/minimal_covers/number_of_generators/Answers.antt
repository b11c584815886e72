-- The generators' values are a basis modulo the radical.
use Rattle.projectives.proofs.Covers.{independent_of_minimal, spans_of_epi}
use Rattle.projectives.specs.HomRows.{value}
use Rattle.projectives.proofs.TopSize.{generators_size}
use Rattle.projectives.proofs.minimal_covers.number_of_generators.Goals as goal

pub returns : goal.returns
returns c = λ q A W B k v X f m w b. generators_size X k v (value A W B k v f) w b (independent_of_minimal A W B k v X f m.onto m.minimal) (spans_of_epi A W B k v X f m.onto)
