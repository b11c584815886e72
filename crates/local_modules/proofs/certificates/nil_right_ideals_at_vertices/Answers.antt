use Rattle.local_modules.proofs.VertexPowers.{nil_right_ideal_at_vertices}
use Rattle.local_modules.proofs.certificates.nil_right_ideals_at_vertices.Goals as goal

pub returns : goal.returns
returns c = λ q Q X M x. nil_right_ideal_at_vertices M x
