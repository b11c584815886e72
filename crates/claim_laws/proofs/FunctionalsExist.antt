-- A column that is zero on the images under the rows of the ideal, and not on the generators themselves, is a functional of an almost split sequence; there
-- is one.
use Rattle.std.proofs.Common.{ℕ, ◌≡◌, ◌≢◌, ◌<◌, List, sym, ap, ◌∙◌, arith, mod-eq_of_lt, ◌%◌}
use Rattle.linear_algebra.specs.Field.{Gf, order}
use Rattle.linear_algebra.specs.Matrix.{Mat, Mat-eq_below, Row, Column, zeros, one, ◌·◌}
use Rattle.linear_algebra.specs.Parts.{row}
use Rattle.linear_algebra.specs.LinearMaps.{matrix_of}
use Rattle.linear_algebra.specs.Rows.{list_of}
use Rattle.linear_algebra.specs.BlockFamilies.{total}
use Rattle.linear_algebra.proofs.Rows.{get_or-list_of}
use Rattle.linear_algebra.proofs.PartsLaws.{row-mul, row_zeros, made-at}
use Rattle.linear_algebra.proofs.BlockFamilies.{beside_all-same}
use Rattle.linear_algebra.proofs.LinearMaps.{mul-matrix_of}
use Rattle.linear_algebra.proofs.Solving.{zeros_not_one}
use Rattle.representations.specs.Quiver.{BoundQuiver}
use Rattle.representations.specs.Rep.{Rep}
use Rattle.representations.specs.Hom.{identity}
use Rattle.representations.specs.HomSpace.{HomBasis}
use Rattle.representations.proofs.Homs.{same-at, identity-at}
use Rattle.representations.specs.HomSpace.{unflat}
use Rattle.representations.proofs.HomSpace.{coordinates, hom-coordinates}
use Rattle.projectives.specs.TwoSided.{TwoSided}
use Rattle.local_modules.specs.MatrixAlgebra.{endomorphism_algebra}
use Rattle.local_modules.specs.Certificate.{LocalCertificate}
use Rattle.auslander_reiten.specs.SequenceData.{LocalPresentation}
use Rattle.module_types.specs.Presentations.{Presentation}
use Rattle.module_types.specs.TermMatrices.{count, vertex, generator_row}
use Rattle.claim_conditions.specs.SequenceConditions.{IsNotProjective, IsEndFunctional}
use Rattle.claim_laws.proofs.ResolutionLaws.{PresentationHolds}
use Rattle.claim_laws.proofs.Functionals.{combination-at}
use Rattle.claim_laws.proofs.GeneratorImages.{images, image_of, image_of_linear, separates}
use Rattle.claim_laws.proofs.FunctionalColumns.{phi_column, value_on-images}
use Rattle.claim_laws.proofs.SequenceConditions.{functional_meets}

module _ {q : Gf} {A : BoundQuiver} (T : TwoSided q A) (M : Rep q A.quiver) (p : Presentation) (D : LocalPresentation T M) (P : PresentationHolds T M p) (n : IsNotProjective T p) (B : HomBasis M M) where
  abbrev image : Row q B.size → Row q (total (count p.cover) (λ j. M.dim (vertex p.cover j)))
  image = image_of T M D.is_module p P.cover P.is_cover P.is.onto B

  abbrev images_under : ((w : ℕ) → Mat q (M.dim w) (M.dim w)) → Row q (total (count p.cover) (λ j. M.dim (vertex p.cover j)))
  images_under = images T M D.is_module p P.cover P.is_cover P.is.onto B

  images-same : (f g : (w : ℕ) → Mat q (M.dim w) (M.dim w)) → ((w : ℕ) → f w ≡ g w) → images_under f ≡ images_under g
  images-same f g e = beside_all-same (λ j. M.dim (vertex p.cover j)) (count p.cover) _ _ (λ j l. ap (λ z. generator_row M p.cover j · z) (e (vertex p.cover j)))

  pub functional_by_column : (cert : LocalCertificate (endomorphism_algebra B)) (phi : List ℕ) → (cert.ideal · matrix_of image) · phi_column T M p.cover phi ≡ zeros q cert.count 1
      → image (coordinates B (identity M)) · phi_column T M p.cover phi ≢ zeros q 1 1 → IsEndFunctional T p M phi B.basis cert.ideal
  functional_by_column cert phi kills sees = functional_meets T p M D.is_module D.local P n B phi cert.ideal
      (λ i l. value_on-images T M p.cover phi (unflat M M (row i (cert.ideal · B.basis)))
      ∙ ap (λ z. z · phi_column T M p.cover phi) (
      images-same (unflat M M (row i (cert.ideal · B.basis))) (B.hom (row i cert.ideal)).at (λ w. ap (λ z. unflat M M z w) (row-mul i cert.ideal B.basis) ∙ sym (combination-at B (row i cert.ideal) w))
      ∙ sym (mul-matrix_of image (image_of_linear T M D.is_module p P.cover P.is_cover P.is.onto B) (row i cert.ideal)) ∙ sym (row-mul i cert.ideal (matrix_of image)))
      ∙ sym (row-mul i (cert.ideal · matrix_of image) (phi_column T M p.cover phi)) ∙ ap (row i) kills ∙ row_zeros q cert.count 1 i)
      (λ e. sees (
      ap (λ z. z · phi_column T M p.cover phi) (images-same (B.hom (coordinates B (identity M))).at (λ w. one q (M.dim w)) (λ w. same-at (hom-coordinates B (identity M)) w ∙ identity-at M w))
      ∙ sym (value_on-images T M p.cover phi (λ w. one q (M.dim w))) ∙ e))

  -- each column is that of a list of numbers
  column_listed : (c : Column q (total (count p.cover) (λ j. M.dim (vertex p.cover j)))) → phi_column T M p.cover (list_of (total (count p.cover) (λ j. M.dim (vertex p.cover j))) (λ i. c.at i 0)) ≡ c
  unfolding phi_column
  column_listed c = Mat-eq_below _ _ (λ i j h l.
      made-at q _ 1 _ i j h l ∙ ap (λ z. z % order q) (get_or-list_of _ (λ i. c.at i 0) i 0 h) ∙ mod-eq_of_lt (c.fits.small i 0) ∙ ap (c.at i) (zero_below j l))
    where
      zero_below : (j : ℕ) → j < 1 → 0 ≡ j
      zero_below j l = omega arith

  pub functional_exists : (cert : LocalCertificate (endomorphism_algebra B)) → (phi : List ℕ) × IsEndFunctional T p M phi B.basis cert.ideal
  functional_exists cert =
      let s = separates T M D.is_module p P.cover P.is_cover P.is.onto B cert D.local in
      let phi = list_of (total (count p.cover) (λ j. M.dim (vertex p.cover j))) (λ i. s.functional.at i 0) in (
        phi,
        functional_by_column cert phi (ap (λ z. cert.ideal · matrix_of image · z) (column_listed s.functional) ∙ s.kills)
            (λ e. zeros_not_one q (sym e ∙ ap (λ z. image (coordinates B (identity M)) · z) (column_listed s.functional) ∙ s.sees)),
      )
