use Rattle.std.proofs.Common.{◌+◌, ◌*◌, ◌≡◌, ◌∙◌, ap, arith}
use Rattle.std.proofs.lemmas.List.{take_at}
use Rattle.linear_algebra.specs.Rows.{rows_of}
use Rattle.fp_linear.specs.Matrix.{plain}
use Rattle.hom_space.proofs.HomBases.{basis_of_solutions}
use Rattle.hom_space.proofs.bases.reduced_basis.Goals as goal

pub returns : goal.returns
returns c =
    let n = c.args.unknowns in
    let s = c.equations_rank.new.entries in
    let written : c.deref.result.now ≡ s = c.deref.ensures.value ∙ take_at s _ _ (omega (arith, c.deref_mut.ensures.len, c.equations_rank.auto.entries)) in
    basis_of_solutions c.args.header.now c.args.a.now c.args.b.now n (2 * n + 1) s c.in_ok-equations.equations c.in_ok-basis.basis
    c.requires.side c.requires.unknowns c.equations_rank.ensures.elements c.equations_rank.ensures.asked
    (c.in_ok-equations.ensures ∙ ap (λ t. plain c.args.header.now.field (2 * n + 1) n (rows_of (2 * n + 1) n t)) written)
    c.in_ok-basis.ensures.shape c.in_ok-basis.ensures.matrix c.in_ok-basis.ensures.basis
