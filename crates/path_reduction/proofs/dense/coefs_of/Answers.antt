use Rattle.std.proofs.Common.{◌∙◌}
use Rattle.path_reduction.proofs.DenseElements.{element_nothing}
use Rattle.path_reduction.proofs.dense.coefs_of.Goals as goal

pub add_terms-requires-clause-none : goal.add_terms-requires-clause-none
add_terms-requires-clause-none c p = element_nothing c.args.header.now c.args.space.now _ c.deref_mut.result.now p (c.deref_mut.ensures.value ∙ c.in_ok-coefs.ensures.items_if_clones_equal (λ y h. h))
