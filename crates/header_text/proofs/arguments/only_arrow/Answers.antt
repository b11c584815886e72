use Rattle.header_text.proofs.FormLemmas.{behind_first}
use Rattle.header_text.proofs.arguments.only_arrow.Goals as goal

pub returns-in_default-two_vertices : goal.returns-in_default-two_vertices
returns-in_default-two_vertices c = λ x is e. c.in_default-two_vertices.ensures (x.from, x.to) record { first = is.from; second = is.to } (behind_first _ _ _ _ _ c.in-Some.ensures e)
