use Rattle.local_modules.proofs.VertexPowers.{products_of_power, power_of_products, power_bound, least_power_bound}
use Rattle.local_modules.proofs.ImageChains.{chain_of_power, power_of_chain}
use Rattle.local_modules.proofs.certificates.powers_at_vertices.Goals as goal

pub returns-clause-at_vertices : goal.returns-clause-at_vertices
returns-clause-at_vertices c = λ q Q X M k I. products_of_power M I

pub returns-clause-from_vertices : goal.returns-clause-from_vertices
returns-clause-from_vertices c = λ q Q X M k I. power_of_products M I

pub returns-clause-bound : goal.returns-clause-bound
returns-clause-bound c = λ q Q X M k I t s p. power_bound M I t s p

pub returns-clause-least_bound : goal.returns-clause-least_bound
returns-clause-least_bound c = λ q Q X M k I t s l. least_power_bound M I t s l.vanishes s l

pub returns-clause-images : goal.returns-clause-images
returns-clause-images c = λ q Q X M k I size V e. chain_of_power M I size V e

pub returns-clause-from_images : goal.returns-clause-from_images
returns-clause-from_images c = λ q Q X M k I size V e. power_of_chain M I size V e
