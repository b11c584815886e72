-- A printed functional as a pairing.
use Rattle.std.proofs.Common.{ℕ, ◌≡◌, ◌≢◌, ◌<◌, List, sym, ap, ◌∙◌}
use mathlib.Core.Path.{fun_ext}
use Rattle.linear_algebra.specs.Field.{Gf}
use Rattle.linear_algebra.specs.Matrix.{Mat, Row, zeros, ◌·◌}
use Rattle.linear_algebra.specs.Parts.{row, unit}
use Rattle.linear_algebra.proofs.PartsLaws.{row-mul, unit_mul}
use Rattle.representations.specs.Quiver.{Quiver, BoundQuiver}
use Rattle.representations.specs.Rep.{Rep, IsMod}
use Rattle.representations.specs.Hom.{Hom, ◌≫◌}
use Rattle.representations.specs.HomSpace.{HomBasis, unflat}
use Rattle.representations.proofs.HomSpace.{unflat-flat}
use Rattle.projectives.specs.TwoSided.{TwoSided}
use Rattle.projectives.specs.Pairing.{pairing}
use Rattle.module_types.specs.TermMatrices.{count, vertex, sum_of_term}
use Rattle.module_types.specs.Presentations.{Presentation, value_on}
use Rattle.module_types.proofs.Presentations.{value_on-pairing}
use Rattle.claim_conditions.specs.Translates.{IsCover}
use Rattle.claim_conditions.specs.SequenceConditions.{IsEndFunctional}
use Rattle.claim_laws.specs.Pullbacks.{theta_hom}

-- a combination of the rows of a basis, as matrices
pub combination-at : {q : Gf} {Q : Quiver} {X Y : Rep q Q} (B : HomBasis X Y) (c : Row q B.size) (w : ℕ) → (B.hom c).at w ≡ unflat X Y (c · B.basis) w
combination-at {X = X} {Y = Y} B c w = sym (unflat-flat X Y (B.hom c) w) ∙ ap (λ z. unflat X Y z w) (B.hom_flat c)

module _ {q : Gf} {A : BoundQuiver} (T : TwoSided q A) (p : Presentation) (M : Rep q A.quiver) (m : IsMod A M) (phi : List ℕ) (c : Hom (sum_of_term T.words p.cover) M) (is_cover : IsCover T M p c) where
  pub pairing-value : (x : Hom M M) (f : (w : ℕ) → Mat q (M.dim w) (M.dim w)) → ((w : ℕ) → x.at w ≡ f w)
      → pairing T (count p.cover) (vertex p.cover) (c ≫ x) (theta_hom T p M m phi) ≡ value_on T M p.cover phi f
  pairing-value x f e = value_on-pairing T M p.cover phi m c is_cover x ∙ ap (value_on T M p.cover phi) (fun_ext e)

  module _ (B : HomBasis M M) where
    pub on_row : (x : Row q B.size) → pairing T (count p.cover) (vertex p.cover) (c ≫ B.hom x) (theta_hom T p M m phi) ≡ value_on T M p.cover phi (unflat M M (x · B.basis))
    on_row x = pairing-value (B.hom x) (unflat M M (x · B.basis)) (combination-at B x)

    pub kills_row : {r : ℕ} (ideal : Mat q r B.size) (h : IsEndFunctional T p M phi B.basis ideal) (i : ℕ) → i < r
        → pairing T (count p.cover) (vertex p.cover) (c ≫ B.hom (row i ideal)) (theta_hom T p M m phi) ≡ zeros q 1 1
    kills_row ideal h i l = on_row (row i ideal) ∙ ap (λ z. value_on T M p.cover phi (unflat M M z)) (sym (row-mul i ideal B.basis)) ∙ h.kills i l

    pub sees_member : {r : ℕ} (ideal : Mat q r B.size) (h : IsEndFunctional T p M phi B.basis ideal)
        → pairing T (count p.cover) (vertex p.cover) (c ≫ B.hom (unit q B.size h.member)) (theta_hom T p M m phi) ≢ zeros q 1 1
    sees_member ideal h e = h.sees (ap (λ z. value_on T M p.cover phi (unflat M M z)) (sym (unit_mul h.member B.basis)) ∙ sym (on_row (unit q B.size h.member)) ∙ e)
