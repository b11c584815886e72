use Rattle.local_modules.proofs.ImagesAfter.{least_by_vertices, vertices_by_least, never_by_vertex}
use Rattle.local_modules.proofs.certificates.least_power_at_vertices.Goals as goal

pub returns-clause-least : goal.returns-clause-least
returns-clause-least c = λ q Q X M k I p f s a b l. least_by_vertices M I p f s a b l

pub returns-clause-least_back : goal.returns-clause-least_back
returns-clause-least_back c = λ q Q X M k I p f s l. vertices_by_least M I p f s l

pub returns-clause-never : goal.returns-clause-never
returns-clause-never c = λ q Q X M k I v n s u. never_by_vertex M I v n s u
