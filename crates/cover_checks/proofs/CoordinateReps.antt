-- A submodule by bases in reduced row form is the representation of its coordinates; and what is asked of rows of it is asked of their coordinates.
use Rattle.std.proofs.Common.{ℕ, ◌<◌, ◌≡◌, refl, sym, ap, ◌∙◌, subst}
use Rattle.linear_algebra.specs.Field.{Gf}
use Rattle.linear_algebra.specs.Matrix.{Mat, Row, ◌·◌}
use Rattle.linear_algebra.specs.Rank.{IsInSpan}
use Rattle.linear_algebra.specs.RowForm.{IsRowReduced, selector}
use Rattle.linear_algebra.proofs.PartsLaws.{Row-eq}
use Rattle.linear_algebra.proofs.RowForm.{reduced_coefficients}
use Rattle.representations.specs.Quiver.{Quiver}
use Rattle.representations.specs.Rep.{Rep}
use Rattle.representations.specs.Submodule.{Submodule, sub_rep}
use Rattle.representations.proofs.RepEqual.{Rep-eq}
use Rattle.projectives.specs.Generators.{IsIndependentModuloRadical}
use Rattle.projectives.specs.Canonical.{canonical_vertices, canonical_columns}
use Rattle.projectives.proofs.CanonicalRows.{independent_same}
use Rattle.resolution_checks.proofs.KernelBases.{coefficients_at_pivots, given_back}
use Rattle.cover_checks.specs.Coordinates.{coordinates, coordinate_rep}

module _ {q : Gf} {Q : Quiver} {Y : Rep q Q} (U : Submodule Y) (pivot : ℕ → ℕ → ℕ) (reduced : (w : ℕ) → IsRowReduced (U.basis w) (pivot w)) where
  abbrev Z : Rep q Q
  Z = coordinate_rep Y U.size U.basis pivot reduced

  pub sub_rep_is : sub_rep U ≡ Z
  sub_rep_is = Rep-eq (sub_rep U) Z (λ v. refl) (λ a i j.
      ap (λ (m : Mat q (U.size (Q.source a)) (U.size (Q.target a))). m.at i j) (coefficients_at_pivots (U.basis (Q.target a)) (pivot (Q.target a)) (reduced (Q.target a)) (U.basis (Q.source a) · Y.mat a) (U.stable a)))

  module _ (g : ℕ) (v : ℕ → ℕ) (y : (j : ℕ) → Row q (Y.dim (v j))) where
    abbrev pub at_pivots : (j : ℕ) → Row q (U.size (v j))
    at_pivots j = coordinates Y U.size U.basis pivot reduced (v j) (y j)

    -- rows with the same entries, in equal representations
    abbrev Independent : Rep q Q → Type 0
    Independent R = (x : (j : ℕ) → Row q (R.dim (v j))) → ((j c : ℕ) → j < g → (x j).at 0 c ≡ (at_pivots j).at 0 c) → IsIndependentModuloRadical R g v x

    coordinates_are : (x : (j : ℕ) → Row q (U.size (v j))) → ((j : ℕ) → j < g → x j · U.basis (v j) ≡ y j) → (j : ℕ) → j < g → x j ≡ at_pivots j
    coordinates_are x e j l = sym (reduced_coefficients (U.basis (v j)) (pivot (v j)) (reduced (v j)) (x j)) ∙ ap (λ z. z · selector q (Y.dim (v j)) (U.size (v j)) (pivot (v j))) (e j l)

    pub independent_to : (x : (j : ℕ) → Row q (U.size (v j))) → ((j : ℕ) → j < g → x j · U.basis (v j) ≡ y j) → IsIndependentModuloRadical (sub_rep U) g v x → IsIndependentModuloRadical Z g v at_pivots
    independent_to x e i =
        subst Independent sub_rep_is
        (λ z h. independent_same (sub_rep U) g v x z (λ j l. coordinates_are x e j l ∙ Row-eq (at_pivots j) (z j) (λ c b. sym (h j c l))) i)
        at_pivots (λ j c l. refl)

    pub lies_to : (x : (j : ℕ) → Row q (U.size (v j))) → ((j : ℕ) → j < g → x j · U.basis (v j) ≡ y j) → (j : ℕ) → j < g → IsInSpan (U.basis (v j)) (y j)
    lies_to x e j l = record { by = x j; is = e j l }

    pub independent_from : IsIndependentModuloRadical Z g v at_pivots → IsIndependentModuloRadical (sub_rep U) g v at_pivots
    independent_from i =
        subst Independent (sym sub_rep_is)
        (λ z h. independent_same Z g v at_pivots z (λ j l. Row-eq (at_pivots j) (z j) (λ c b. sym (h j c l))) i)
        at_pivots (λ j c l. refl)

    pub lies_from : ((j : ℕ) → j < g → IsInSpan (U.basis (v j)) (y j)) → (j : ℕ) → j < g → at_pivots j · U.basis (v j) ≡ y j
    lies_from s j l = given_back (U.basis (v j)) (pivot (v j)) (reduced (v j)) (y j) (s j l)

  -- the canonical generators
  pub canonical_vertices_are : canonical_vertices (sub_rep U) ≡ canonical_vertices Z
  canonical_vertices_are = ap canonical_vertices sub_rep_is

  pub canonical_columns_are : canonical_columns (sub_rep U) ≡ canonical_columns Z
  canonical_columns_are = ap canonical_columns sub_rep_is
