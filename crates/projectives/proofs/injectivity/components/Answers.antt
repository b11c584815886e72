-- By the injections and projections of the sum.
use Rattle.projectives.proofs.Components.{component_in, component_in_other, sum_of_components}
use Rattle.projectives.proofs.Places.{component-places}
use Rattle.projectives.proofs.injectivity.components.Goals as goal

pub returns-clause-places : goal.returns-clause-places
returns-clause-places c = λ q Q W k v i w h x p l. component-places W k v i w h x p l

pub returns-clause-inside : goal.returns-clause-inside
returns-clause-inside c = λ q Q W k v i w h x. component_in W k v w i h x

pub returns-clause-outside : goal.returns-clause-outside
returns-clause-outside c = λ q Q W k v i j w h n x. component_in_other W k v w i j h n x

pub returns-clause-whole : goal.returns-clause-whole
returns-clause-whole c = λ q Q W k v w x. sum_of_components W k v w x
