-- What the computation of a sequence needs of its functional: a column that is zero on the images of the generators under the rows of the ideal, and not
-- on the generators themselves. There is one.
use Rattle.std.proofs.Common.{ℕ, ◌≡◌, ◌<◌, inl, inr, sym, ap, ◌∙◌}
use Rattle.linear_algebra.specs.Field.{Gf}
use Rattle.linear_algebra.specs.Matrix.{Mat, Row, ◌·◌, ◌⊞◌, ◌⊙◌}
use Rattle.linear_algebra.specs.Rank.{IsInSpan, IsSeparate}
use Rattle.linear_algebra.specs.LinearMaps.{IsLinear, matrix_of}
use Rattle.linear_algebra.specs.BlockFamilies.{beside_all, column_block, total}
use Rattle.linear_algebra.proofs.MatrixLaws.{mul_assoc_mat, mul_add_mat, mul_scale}
use Rattle.linear_algebra.proofs.LinearMaps.{mul-matrix_of}
use Rattle.linear_algebra.proofs.BlockFamilies.{beside_all-same, beside_all-add, beside_all-scale, column_block_of}
use Rattle.linear_algebra.proofs.Solving.{solve_or}
use Rattle.representations.specs.Quiver.{BoundQuiver}
use Rattle.representations.specs.Rep.{Rep, IsMod}
use Rattle.representations.specs.Hom.{Hom, ◌≫◌, identity}
use Rattle.representations.specs.Module.{IsEpi}
use Rattle.representations.specs.HomSpace.{HomBasis}
use Rattle.representations.proofs.Homs.{same-at, sum-at, multiple-at}
use Rattle.representations.proofs.HomSpace.{coordinates, hom_sum, hom_scale}
use Rattle.representations.proofs.Factoring.{epi_cancels}
use Rattle.projectives.specs.TwoSided.{TwoSided}
use Rattle.projectives.proofs.Families.{equal_on_generators}
use Rattle.projectives.proofs.Pairing.{value-natural}
use Rattle.local_modules.specs.Local.{IsLocal}
use Rattle.local_modules.specs.MatrixAlgebra.{endomorphism_algebra, coordinates_once}
use Rattle.local_modules.specs.Certificate.{LocalCertificate}
use Rattle.local_modules.proofs.CertificateIdeals.{identity_not_in_ideal}
use Rattle.module_types.specs.Presentations.{Presentation}
use Rattle.module_types.specs.TermMatrices.{count, vertex, generator_row, sum_of_term}
use Rattle.claim_conditions.specs.Translates.{IsCover}

module _ {q : Gf} {A : BoundQuiver} (T : TwoSided q A) (M : Rep q A.quiver) (m : IsMod A M) (p : Presentation) (c : Hom (sum_of_term T.words p.cover) M) (is_cover : IsCover T M p c) (onto : IsEpi c) (B : HomBasis M M) where
  abbrev size : ℕ → ℕ
  size j = M.dim (vertex p.cover j)

  -- the images of the generators, one after another
  abbrev pub images : ((w : ℕ) → Mat q (M.dim w) (M.dim w)) → Row q (total (count p.cover) size)
  images f = beside_all (count p.cover) size (λ j. generator_row M p.cover j · f (vertex p.cover j))

  abbrev pub image_of : Row q B.size → Row q (total (count p.cover) size)
  image_of x = images (B.hom x).at

  pub image_of_linear : IsLinear image_of
  image_of_linear = record {
    sum = λ x y. beside_all-same size (count p.cover) _ (λ j. generator_row M p.cover j · (B.hom x).at (vertex p.cover j) ⊞ generator_row M p.cover j · (B.hom y).at (vertex p.cover j))
        (λ j l. ap (λ z. generator_row M p.cover j · z) (same-at (hom_sum B x y) (vertex p.cover j) ∙ sum-at (B.hom x) (B.hom y) (vertex p.cover j))
        ∙ mul_add_mat (generator_row M p.cover j) ((B.hom x).at (vertex p.cover j)) ((B.hom y).at (vertex p.cover j)))
        ∙ sym (beside_all-add size (count p.cover) _ _);
    multiple = λ n x. beside_all-same size (count p.cover) _ (λ j. n ⊙ (generator_row M p.cover j · (B.hom x).at (vertex p.cover j)))
        (λ j l. ap (λ z. generator_row M p.cover j · z) (same-at (hom_scale B n x) (vertex p.cover j) ∙ multiple-at n (B.hom x) (vertex p.cover j))
        ∙ mul_scale n (generator_row M p.cover j) ((B.hom x).at (vertex p.cover j)))
        ∙ sym (beside_all-scale size n (count p.cover) _);
  }

  -- endomorphisms with the same images are equal
  image_once : (x y : Row q B.size) → image_of x ≡ image_of y → x ≡ y
  image_once x y e = coordinates_once B x y (epi_cancels c onto (B.hom x) (B.hom y)
      (equal_on_generators A T.words T.basis (count p.cover) (vertex p.cover) M m (c ≫ B.hom x) (c ≫ B.hom y) (λ j l.
      value-natural T (count p.cover) (vertex p.cover) M M c (B.hom x) j ∙ ap (λ z. z · (B.hom x).at (vertex p.cover j)) (is_cover j l)
      ∙ block j l ∙ sym (ap (λ z. z · (B.hom y).at (vertex p.cover j)) (is_cover j l)) ∙ sym (value-natural T (count p.cover) (vertex p.cover) M M c (B.hom y) j))))
    where
      block : (j : ℕ) → j < count p.cover → generator_row M p.cover j · (B.hom x).at (vertex p.cover j) ≡ generator_row M p.cover j · (B.hom y).at (vertex p.cover j)
      block j l =
          sym (column_block_of size (count p.cover) (λ j. generator_row M p.cover j · (B.hom x).at (vertex p.cover j)) j l)
          ∙ ap (column_block (count p.cover) size j) e
          ∙ column_block_of size (count p.cover) (λ j. generator_row M p.cover j · (B.hom y).at (vertex p.cover j)) j l

  -- the generators are no combination of their images under the rows of the ideal
  pub generators_apart : (cert : LocalCertificate (endomorphism_algebra B)) → IsLocal M → IsInSpan (cert.ideal · matrix_of image_of) (image_of (coordinates B (identity M))) → ⊥
  generators_apart cert l s = identity_not_in_ideal B cert l (record {
    by = s.by;
    is = image_once (s.by · cert.ideal) (coordinates B (identity M)) (sym (mul-matrix_of image_of image_of_linear (s.by · cert.ideal)) ∙ mul_assoc_mat s.by cert.ideal (matrix_of image_of) ∙ s.is);
  })

  -- so there is a functional
  pub separates : (cert : LocalCertificate (endomorphism_algebra B)) → IsLocal M → IsSeparate (cert.ideal · matrix_of image_of) (image_of (coordinates B (identity M)))
  separates cert l = elim (solve_or (cert.ideal · matrix_of image_of) (image_of (coordinates B (identity M)))) [ inl s ↦ absurd (generators_apart cert l s) | inr f ↦ f ]
