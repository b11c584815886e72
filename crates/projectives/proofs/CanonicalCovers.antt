-- The cover of a submodule by its canonical generators: it exists, it is minimal, and it is the only one.
use Rattle.std.proofs.Common.{ℕ, zero, ◌<◌, ◌≡◌, List, length, get_or, refl, sym, ap, ◌∙◌, subst}
use Rattle.std.proofs.Math.Path.{path_j}
use Rattle.linear_algebra.specs.Field.{Gf}
use Rattle.linear_algebra.specs.Matrix.{Row, ◌·◌}
use Rattle.linear_algebra.specs.Parts.{row, unit}
use Rattle.linear_algebra.specs.Rank.{IsInSpan}
use Rattle.linear_algebra.proofs.MatrixLaws.{mul_assoc_mat}
use Rattle.linear_algebra.proofs.PartsLaws.{unit_mul}
use Rattle.representations.specs.Quiver.{BoundQuiver}
use Rattle.representations.specs.Rep.{Rep, IsMod}
use Rattle.representations.specs.Hom.{Hom, ◌≫◌}
use Rattle.representations.specs.Submodule.{Submodule, sub_rep, inclusion}
use Rattle.representations.proofs.Homs.{compose-at}
use Rattle.representations.proofs.Submodules.{inclusion_mono, IsMod-sub}
use Rattle.projectives.specs.Words.{Words, IsWordBasis}
use Rattle.projectives.specs.Families.{generator_of}
use Rattle.projectives.specs.Covers.{KernelInRadical, IsMinimalCover}
use Rattle.projectives.specs.HomRows.{value}
use Rattle.projectives.specs.Canonical.{canonical_vertices, canonical_columns}
use Rattle.projectives.specs.CanonicalCover.{vertex_in, projectives_at, IsCanonicalCover}
use Rattle.projectives.specs.Resolutions.{Stage}
use Rattle.projectives.proofs.Families.{from_rows, generator-from_rows, equal_on_generators}
use Rattle.projectives.proofs.Covers.{minimal_of_independent, epi_of_spans}
use Rattle.projectives.proofs.CanonicalPlaces.{canonical_free}
use Rattle.projectives.proofs.CanonicalRows.{independent_same, spans_same, free_independent, free_span}

-- A homomorphism f covers a submodule U minimally: its rows are those of U, and its kernel is in the radical.
pub record CoversSubmodule {q : Gf} (A : BoundQuiver) (W : Words q A.quiver) {X : Rep q A.quiver} (U : Submodule X) (vs : List ℕ) (f : Hom (projectives_at W vs) X) : Type 0 where
  pub reaches : (w : ℕ) (y : Row q (X.dim w)) → IsInSpan (U.basis w) y → IsInSpan (f.at w) y
  pub within : (w : ℕ) (x : Row q ((projectives_at W vs).dim w)) → IsInSpan (U.basis w) (x · f.at w)
  pub minimal : KernelInRadical f

module _ {q : Gf} (A : BoundQuiver) (W : Words q A.quiver) (B : IsWordBasis A W) where
  module _ (X : Rep q A.quiver) (M : IsMod A X) where
    -- The cover of a module.
    basis_row : (j : ℕ) → Row q (X.dim (vertex_in (canonical_vertices X) j))
    basis_row j = unit q (X.dim (vertex_in (canonical_vertices X) j)) (get_or (canonical_columns X) j zero)

    pub canonical_cover : Hom (projectives_at W (canonical_vertices X)) X
    canonical_cover = from_rows A W B (length (canonical_vertices X)) (vertex_in (canonical_vertices X)) X M basis_row

    pub canonical_cover-value : (j : ℕ) → j < length (canonical_vertices X)
        → value A W B (length (canonical_vertices X)) (vertex_in (canonical_vertices X)) canonical_cover j ≡ unit q (X.dim (vertex_in (canonical_vertices X) j)) (get_or (canonical_columns X) j zero)
    unfolding canonical_cover basis_row
    canonical_cover-value j h = generator-from_rows A W B (length (canonical_vertices X)) (vertex_in (canonical_vertices X)) X M basis_row j h

    pub canonical_cover_minimal : IsMinimalCover A W B (length (canonical_vertices X)) (vertex_in (canonical_vertices X)) canonical_cover
    canonical_cover_minimal = record {
      onto = epi_of_spans A W B (length (canonical_vertices X)) (vertex_in (canonical_vertices X)) X canonical_cover M
          (spans_same X (length (canonical_vertices X)) (vertex_in (canonical_vertices X)) _ _ (λ j h. sym (canonical_cover-value j h))
          (free_span X (length (canonical_vertices X)) (vertex_in (canonical_vertices X)) (λ j. get_or (canonical_columns X) j zero) (canonical_free X)));
      minimal = minimal_of_independent A W B (length (canonical_vertices X)) (vertex_in (canonical_vertices X)) X canonical_cover
          (independent_same X (length (canonical_vertices X)) (vertex_in (canonical_vertices X)) _ _ (λ j h. sym (canonical_cover-value j h))
          (free_independent X (length (canonical_vertices X)) (vertex_in (canonical_vertices X)) (λ j. get_or (canonical_columns X) j zero) (canonical_free X)));
    }

  module _ (X : Rep q A.quiver) (M : IsMod A X) (U : Submodule X) where
    -- The cover of a submodule, into the module.
    pub cover_of : Hom (projectives_at W (canonical_vertices (sub_rep U))) X
    cover_of = canonical_cover (sub_rep U) (IsMod-sub A U M) ≫ inclusion U

    cover_of-at : (w : ℕ) (x : Row q ((projectives_at W (canonical_vertices (sub_rep U))).dim w)) → x · cover_of.at w ≡ x · (canonical_cover (sub_rep U) (IsMod-sub A U M)).at w · U.basis w
    unfolding cover_of
    cover_of-at w x =
        ap (λ z. x · z) (compose-at (canonical_cover (sub_rep U) (IsMod-sub A U M)) (inclusion U) w)
        ∙ sym (mul_assoc_mat x ((canonical_cover (sub_rep U) (IsMod-sub A U M)).at w) (U.basis w))

    pub cover_of_canonical : IsCanonicalCover A W B U (canonical_vertices (sub_rep U)) cover_of
    cover_of_canonical = record {
      vertices = refl;
      generators = λ j h.
          cover_of-at (vertex_in (canonical_vertices (sub_rep U)) j) (generator_of A W B (length (canonical_vertices (sub_rep U))) (vertex_in (canonical_vertices (sub_rep U))) j)
          ∙ ap (λ z. z · U.basis (vertex_in (canonical_vertices (sub_rep U)) j)) (canonical_cover-value (sub_rep U) (IsMod-sub A U M) j h)
          ∙ unit_mul (get_or (canonical_columns (sub_rep U)) j zero) (U.basis (vertex_in (canonical_vertices (sub_rep U)) j));
    }

    cover_of_covers : CoversSubmodule A W U (canonical_vertices (sub_rep U)) cover_of
    cover_of_covers = record {
      reaches = λ w y s.
          let x = (canonical_cover_minimal (sub_rep U) (IsMod-sub A U M)).onto w s.by in
          record { by = x.by; is = cover_of-at w x.by ∙ ap (λ z. z · U.basis w) x.is ∙ s.is };
      within = λ w x. record { by = x · (canonical_cover (sub_rep U) (IsMod-sub A U M)).at w; is = sym (cover_of-at w x) };
      minimal = λ w x e. (canonical_cover_minimal (sub_rep U) (IsMod-sub A U M)).minimal w x
          (inclusion_mono U w (x · (canonical_cover (sub_rep U) (IsMod-sub A U M)).at w) (sym (cover_of-at w x) ∙ e));
    }

    -- What holds of it holds of each canonical cover of U.
    by_canonical : (P : (vs : List ℕ) → Hom (projectives_at W vs) X → Type 0) → P (canonical_vertices (sub_rep U)) cover_of → (vs : List ℕ) (f : Hom (projectives_at W vs) X) → IsCanonicalCover A W B U vs f → P vs f
    by_canonical P p vs f c = path_j
        (λ vs e. (f : Hom (projectives_at W vs) X) → ((j : ℕ) → j < length vs → value A W B (length vs) (vertex_in vs) f j ≡ row (get_or (canonical_columns (sub_rep U)) j zero) (U.basis (vertex_in vs j))) → P vs f)
        (λ f g. subst (P (canonical_vertices (sub_rep U)))
        (equal_on_generators A W B (length (canonical_vertices (sub_rep U))) (vertex_in (canonical_vertices (sub_rep U))) X M cover_of f (λ j h. cover_of_canonical.generators j h ∙ sym (g j h)))
        p)
        (sym c.vertices) f c.generators

    pub canonical_covers : (vs : List ℕ) (f : Hom (projectives_at W vs) X) → IsCanonicalCover A W B U vs f → CoversSubmodule A W U vs f
    canonical_covers = by_canonical (λ vs f. CoversSubmodule A W U vs f) cover_of_covers

    abbrev pub canonical_stage : Stage W
    canonical_stage = record { into = X; vertices = canonical_vertices (sub_rep U); map = cover_of }

    pub canonical_once : (vs : List ℕ) (f : Hom (projectives_at W vs) X) → IsCanonicalCover A W B U vs f → (let s : Stage W = record { into = X; vertices = vs; map = f } in s) ≡ canonical_stage
    canonical_once = by_canonical (λ vs f. (let s : Stage W = record { into = X; vertices = vs; map = f } in s) ≡ canonical_stage) refl
