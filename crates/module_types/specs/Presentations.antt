-- What is printed of a presentation and of a functional, read over the words of an algebra on both sides; whatever is printed is read. On the left it is
-- read over the same words with the sides exchanged. (Assem, Simson, Skowroński, volume 1, chapter III, 2, and IV, 2.)
use Rattle.std.specs.Prelude.{ℕ, ◌+◌, List, [], slice_index}
use Rattle.linear_algebra.specs.Field.{Gf}
use Rattle.linear_algebra.specs.Matrix.{Mat, Row, Column, made, ◌·◌, stack, negative}
use Rattle.linear_algebra.specs.BlockFamilies.{sum_all, total}
use Rattle.representations.specs.Quiver.{BoundQuiver}
use Rattle.representations.specs.Rep.{Rep}
use Rattle.representations.specs.Hom.{Hom}
use Rattle.projectives.specs.Families.{projectives}
use Rattle.projectives.specs.HomRows.{hom_of_rows}
use Rattle.projectives.specs.Components.{component, in_component}
use Rattle.projectives.specs.TwoSided.{TwoSided, other}
use Rattle.projectives.specs.Injective.{injectives}
use Rattle.projectives.specs.Transposed.{transposed, nakayama}
use Rattle.projectives.proofs.Families.{projectives_mod}
use Rattle.module_types.specs.declared.TermRows.{TermRows}
use Rattle.module_types.specs.declared.ProjMap.{ProjMap}
use Rattle.module_types.specs.TermMatrices.{columns_along, count, vertex, generator_row, sum_of_term}

-- a resolution of length 1: term 0, which covers a module, and term 1, whose generators go to rows of term 0
pub record Presentation : Type 0 where
  pub cover : TermRows
  pub syzygy : TermRows

-- A map between two sums of projective modules, as that of a presentation. Of term 0 only the vertices count, it has no rows here. A map of a side is
-- read over `sided_words side T`.
abbrev pub presented : ProjMap → Presentation
presented d = record { cover = record { vertices = d.to; images = [] }; syzygy = record { vertices = d.from; images = d.images } }

module _ {q : Gf} {A : BoundQuiver} (T : TwoSided q A) where
  -- the sum of the injective modules of a term: the Nakayama functor on the sum of the projective ones
  abbrev pub injective_term : TermRows → Rep q A.quiver
  injective_term t = injectives T (count t) (vertex t)

  -- the differential, by the rows of the generators of term 1
  abbrev pub differential : (p : Presentation) → Hom (sum_of_term T.words p.syzygy) (sum_of_term T.words p.cover)
  differential p = hom_of_rows A T.words T.basis (count p.syzygy) (vertex p.syzygy) (sum_of_term T.words p.cover) (projectives_mod A T.words T.basis (count p.cover) (vertex p.cover))
      (generator_row (sum_of_term T.words p.cover) p.syzygy)

  -- its transposed on the other side, and its image under the Nakayama functor
  abbrev pub transposed_of : (p : Presentation) → Hom (projectives (other T) (count p.cover) (vertex p.cover)) (projectives (other T) (count p.syzygy) (vertex p.syzygy))
  transposed_of p = transposed T (count p.syzygy) (vertex p.syzygy) (count p.cover) (vertex p.cover) (differential p)

  abbrev pub nakayama_of : (p : Presentation) → Hom (injective_term p.syzygy) (injective_term p.cover)
  nakayama_of p = nakayama T (count p.syzygy) (vertex p.syzygy) (count p.cover) (vertex p.cover) (differential p)

  -- the row of generator j of term 0 under the transposed: component i has the numbers that component j of the printed row of generator i has
  unfoldable pub transposed_row : (p : Presentation) (j : ℕ) → Row q ((projectives (other T) (count p.syzygy) (vertex p.syzygy)).dim (vertex p.cover j))
  transposed_row p j = sum_all (count p.syzygy) (λ i.
      in_component (other T) (count p.syzygy) (vertex p.syzygy) i (vertex p.cover j)
      (component T.words (count p.cover) (vertex p.cover) j (vertex p.syzygy i) (generator_row (sum_of_term T.words p.cover) p.syzygy i)))

  module _ (M : Rep q A.quiver) (t : TermRows) (functional : List ℕ) where
    -- A functional on the homomorphisms from a term to M: part j has numbers for the coordinates of M at the vertex of generator j, behind those before.
    abbrev pub part : (j : ℕ) → Column q (M.dim (vertex t j))
    part j = made q (M.dim (vertex t j)) 1 (λ i z. slice_index functional (total j (λ c. M.dim (vertex t c)) + i))

    -- θ, the matrices of the homomorphism from M to the injective modules of the term that the functional stands for
    abbrev pub theta : (w : ℕ) → Mat q (M.dim w) ((injective_term t).dim w)
    theta = columns_along T M (count t) (vertex t) part

    -- the value of the functional on the images of the generators under matrices at the vertices
    abbrev pub value_on : ((w : ℕ) → Mat q (M.dim w) (M.dim w)) → Mat q 1 1
    value_on x = sum_all (count t) (λ j. generator_row M t j · x (vertex t j) · part j)

  -- The matrices whose kernel is the pullback of νd and θ: νd over −θ.
  abbrev pub pullback : (M : Rep q A.quiver) (p : Presentation) (functional : List ℕ) (w : ℕ) → Mat q ((injective_term p.syzygy).dim w + M.dim w) ((injective_term p.cover).dim w)
  pullback M p functional w = stack ((nakayama_of p).at w) (negative (theta M p.cover functional w))
