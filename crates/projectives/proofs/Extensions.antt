-- Homomorphisms out of a sum of projective modules in coordinates; a basis of extensions exists, is the only one, and has the size that the ranks say.
use Rattle.std.proofs.Common.{ℕ, zero, suc, ◌+◌, ◌<◌, ◌≡◌, sym, ap, ap₂, ◌∙◌, arith, length}
use Rattle.linear_algebra.specs.Field.{Gf}
use Rattle.linear_algebra.specs.Matrix.{Mat, Row, zeros, ◌⊞◌, ◌⊟◌, ◌⊙◌, ◌·◌}
use Rattle.linear_algebra.specs.Rank.{IsInSpan}
use Rattle.linear_algebra.specs.LinearMaps.{IsLinear}
use Rattle.linear_algebra.specs.BlockFamilies.{beside_all, column_block}
use Rattle.linear_algebra.proofs.MatrixLaws.{mul_assoc_mat, mul_add_mat, mul_scale, mul_zeros, zero_scale}
use Rattle.linear_algebra.proofs.PartsLaws.{equal_on_rows}
use Rattle.linear_algebra.proofs.LinearMaps.{mul-matrix_of}
use Rattle.linear_algebra.proofs.Dimension.{rank}
use Rattle.linear_algebra.proofs.BlockFamilies.{beside_all-same, beside_all-add, beside_all-scale, beside_blocks, column_block_of}
use Rattle.representations.specs.Quiver.{BoundQuiver}
use Rattle.representations.specs.Rep.{Rep, IsMod}
use Rattle.representations.specs.Hom.{Hom, ◌≫◌, ◌⊕◌, multiple, zero_hom}
use Rattle.representations.proofs.Homs.{compose-at, sum-at, multiple-at, compose_sum, compose_multiple, compose_assoc, zero_compose, compose_zero, zero_multiple}
use Rattle.representations.proofs.Kernels.{IsExact-zero}
use Rattle.projectives.specs.Words.{Words, IsWordBasis}
use Rattle.projectives.specs.Families.{projectives, generator_of}
use Rattle.projectives.specs.HomRows.{value, hom_of_rows}
use Rattle.projectives.specs.CanonicalCover.{vertex_in, projectives_at}
use Rattle.projectives.specs.Resolutions.{ProjectiveSequence, IsMinimalResolution}
use Rattle.projectives.specs.BasisModulo.{IsBasisModulo, IsReducedModulo}
use Rattle.projectives.specs.Extensions.{coordinate_count, coordinate_row, hom_of_row, composition_matrix, ExtensionBasis, IsExtensionBasis}
use Rattle.projectives.proofs.Families.{generator-from_rows, equal_on_generators}
use Rattle.projectives.proofs.BasisModulo.{canonical, canonical_reduced, canonical_basis, basis_unique, basis_by_size, basis_size, reduced_once, less_first, back}

module _ {q : Gf} (A : BoundQuiver) (W : Words q A.quiver) (B : IsWordBasis A W) (X : Rep q A.quiver) (M : IsMod A X) where
  module _ (k : ℕ) (v : ℕ → ℕ) where
    -- Coordinates and homomorphisms are the same.
    pub hom-coordinate_row : (y : Hom (projectives W k v) X) → hom_of_row A W B k v X M (coordinate_row A W B k v y) ≡ y
    unfolding hom_of_row coordinate_row
    hom-coordinate_row y = equal_on_generators A W B k v X M _ y (λ j h.
        generator-from_rows A W B k v X M (λ j. column_block k (λ j. X.dim (v j)) j (beside_all k (λ j. X.dim (v j)) (λ j. value A W B k v y j))) j h
        ∙ column_block_of (λ j. X.dim (v j)) k (λ j. value A W B k v y j) j h)

    pub coordinate_row-hom : (x : Row q (coordinate_count X k v)) → coordinate_row A W B k v (hom_of_row A W B k v X M x) ≡ x
    unfolding hom_of_row coordinate_row
    coordinate_row-hom x =
        beside_all-same (λ j. X.dim (v j)) k (λ j. value A W B k v (hom_of_rows A W B k v X M (λ j. column_block k (λ j. X.dim (v j)) j x)) j) (λ j. column_block k (λ j. X.dim (v j)) j x)
        (λ j h. generator-from_rows A W B k v X M (λ j. column_block k (λ j. X.dim (v j)) j x) j h)
        ∙ beside_blocks (λ j. X.dim (v j)) k x

    -- Linearly.
    pub coordinate_row-sum : (y z : Hom (projectives W k v) X) → coordinate_row A W B k v (y ⊕ z) ≡ coordinate_row A W B k v y ⊞ coordinate_row A W B k v z
    unfolding coordinate_row
    coordinate_row-sum y z =
        beside_all-same (λ j. X.dim (v j)) k (λ j. value A W B k v (y ⊕ z) j) (λ j. value A W B k v y j ⊞ value A W B k v z j)
        (λ j h. ap (λ m. generator_of A W B k v j · m) (sum-at y z (v j)) ∙ mul_add_mat (generator_of A W B k v j) (y.at (v j)) (z.at (v j)))
        ∙ sym (beside_all-add (λ j. X.dim (v j)) k (λ j. value A W B k v y j) (λ j. value A W B k v z j))

    pub coordinate_row-multiple : (c : ℕ) (y : Hom (projectives W k v) X) → coordinate_row A W B k v (multiple c y) ≡ c ⊙ coordinate_row A W B k v y
    unfolding coordinate_row
    coordinate_row-multiple c y =
        beside_all-same (λ j. X.dim (v j)) k (λ j. value A W B k v (multiple c y) j) (λ j. c ⊙ value A W B k v y j)
        (λ j h. ap (λ m. generator_of A W B k v j · m) (multiple-at c y (v j)) ∙ mul_scale c (generator_of A W B k v j) (y.at (v j)))
        ∙ sym (beside_all-scale (λ j. X.dim (v j)) c k (λ j. value A W B k v y j))

    pub equal_by_coordinates : (y z : Hom (projectives W k v) X) → coordinate_row A W B k v y ≡ coordinate_row A W B k v z → y ≡ z
    equal_by_coordinates y z e = sym (hom-coordinate_row y) ∙ ap (hom_of_row A W B k v X M) e ∙ hom-coordinate_row z

    pub hom_of_row-sum : (x y : Row q (coordinate_count X k v)) → hom_of_row A W B k v X M (x ⊞ y) ≡ hom_of_row A W B k v X M x ⊕ hom_of_row A W B k v X M y
    hom_of_row-sum x y = equal_by_coordinates _ _ (
        coordinate_row-hom (x ⊞ y) ∙ sym (ap₂ (λ a b. a ⊞ b) (coordinate_row-hom x) (coordinate_row-hom y))
        ∙ sym (coordinate_row-sum (hom_of_row A W B k v X M x) (hom_of_row A W B k v X M y)))

    pub hom_of_row-multiple : (c : ℕ) (x : Row q (coordinate_count X k v)) → hom_of_row A W B k v X M (c ⊙ x) ≡ multiple c (hom_of_row A W B k v X M x)
    hom_of_row-multiple c x = equal_by_coordinates _ _ (
        coordinate_row-hom (c ⊙ x) ∙ sym (ap (λ a. c ⊙ a) (coordinate_row-hom x)) ∙ sym (coordinate_row-multiple c (hom_of_row A W B k v X M x)))

    pub coordinate_row-zero : coordinate_row A W B k v (zero_hom (projectives W k v) X) ≡ zeros q 1 (coordinate_count X k v)
    coordinate_row-zero =
        ap (coordinate_row A W B k v) (sym (zero_multiple (zero_hom (projectives W k v) X)))
        ∙ coordinate_row-multiple 0 (zero_hom (projectives W k v) X) ∙ zero_scale (coordinate_row A W B k v (zero_hom (projectives W k v) X))

    pub hom_of_row-zero : hom_of_row A W B k v X M (zeros q 1 (coordinate_count X k v)) ≡ zero_hom (projectives W k v) X
    hom_of_row-zero = ap (hom_of_row A W B k v X M) (sym coordinate_row-zero) ∙ hom-coordinate_row (zero_hom (projectives W k v) X)

  -- Composition with d in coordinates.
  module _ (k : ℕ) (v : ℕ → ℕ) (h : ℕ) (u : ℕ → ℕ) (d : Hom (projectives W k v) (projectives W h u)) where
    composed : Row q (coordinate_count X h u) → Row q (coordinate_count X k v)
    composed x = coordinate_row A W B k v (d ≫ hom_of_row A W B h u X M x)

    composed_linear : IsLinear composed
    unfolding composed
    composed_linear = record {
      sum = λ x y.
          ap (λ z. coordinate_row A W B k v (d ≫ z)) (hom_of_row-sum h u x y) ∙ ap (coordinate_row A W B k v) (compose_sum d (hom_of_row A W B h u X M x) (hom_of_row A W B h u X M y))
          ∙ coordinate_row-sum k v (d ≫ hom_of_row A W B h u X M x) (d ≫ hom_of_row A W B h u X M y);
      multiple = λ c x.
          ap (λ z. coordinate_row A W B k v (d ≫ z)) (hom_of_row-multiple h u c x) ∙ ap (coordinate_row A W B k v) (compose_multiple c d (hom_of_row A W B h u X M x))
          ∙ coordinate_row-multiple k v c (d ≫ hom_of_row A W B h u X M x);
    }

    pub mul-composition_matrix : (x : Row q (coordinate_count X h u)) → x · composition_matrix A W B k v h u X M d ≡ coordinate_row A W B k v (d ≫ hom_of_row A W B h u X M x)
    unfolding composition_matrix composed
    mul-composition_matrix x = mul-matrix_of composed composed_linear x

    pub coordinate_row-compose : (y : Hom (projectives W h u) X) → coordinate_row A W B k v (d ≫ y) ≡ coordinate_row A W B h u y · composition_matrix A W B k v h u X M d
    coordinate_row-compose y = ap (λ z. coordinate_row A W B k v (d ≫ z)) (sym (hom-coordinate_row h u y)) ∙ sym (mul-composition_matrix (coordinate_row A W B h u y))

    pub killed_row : (x : Row q (coordinate_count X h u)) → d ≫ hom_of_row A W B h u X M x ≡ zero_hom (projectives W k v) X → x · composition_matrix A W B k v h u X M d ≡ zeros q 1 (coordinate_count X k v)
    killed_row x e = mul-composition_matrix x ∙ ap (coordinate_row A W B k v) e ∙ coordinate_row-zero k v

    pub killed_hom : (x : Row q (coordinate_count X h u)) → x · composition_matrix A W B k v h u X M d ≡ zeros q 1 (coordinate_count X k v) → d ≫ hom_of_row A W B h u X M x ≡ zero_hom (projectives W k v) X
    killed_hom x e = equal_by_coordinates k v _ _ (sym (mul-composition_matrix x) ∙ e ∙ sym (coordinate_row-zero k v))

  -- Extensions at the middle of P'' → P → P'.
  module _ (j : ℕ) (t : ℕ → ℕ) (k : ℕ) (v : ℕ → ℕ) (h : ℕ) (u : ℕ → ℕ) (d' : Hom (projectives W j t) (projectives W k v)) (d : Hom (projectives W k v) (projectives W h u)) where
    abbrev C : Mat q (coordinate_count X h u) (coordinate_count X k v)
    C = composition_matrix A W B k v h u X M d

    abbrev D : Mat q (coordinate_count X k v) (coordinate_count X j t)
    D = composition_matrix A W B j t k v X M d'

    abbrev hom : Row q (coordinate_count X k v) → Hom (projectives W k v) X
    hom x = hom_of_row A W B k v X M x

    pub complex_matrices : d' ≫ d ≡ zero_hom (projectives W j t) (projectives W h u) → C · D ≡ zeros q (coordinate_count X h u) (coordinate_count X j t)
    complex_matrices e = equal_on_rows (C · D) (zeros q (coordinate_count X h u) (coordinate_count X j t)) (λ x.
        sym (mul_assoc_mat x C D) ∙ ap (λ z. z · D) (mul-composition_matrix k v h u d x)
        ∙ sym (coordinate_row-compose j t k v d' (d ≫ hom_of_row A W B h u X M x))
        ∙ ap (coordinate_row A W B j t) (sym (compose_assoc d' d (hom_of_row A W B h u X M x)) ∙ ap (λ z. z ≫ hom_of_row A W B h u X M x) e ∙ zero_compose (projectives W j t) (hom_of_row A W B h u X M x))
        ∙ coordinate_row-zero j t ∙ sym (mul_zeros x))

    -- a sum with a coboundary, in coordinates
    sum_row : (x : Row q (coordinate_count X k v)) (b : Hom (projectives W h u) X) → coordinate_row A W B k v (hom x ⊕ d ≫ b) ≡ x ⊞ coordinate_row A W B h u b · C
    sum_row x b = coordinate_row-sum k v (hom x) (d ≫ b) ∙ ap₂ (λ y z. y ⊞ z) (coordinate_row-hom k v x) (coordinate_row-compose k v h u d b)

    -- A basis of extensions, by its rows, and with them.
    abbrev pub extension_by : {e : ℕ} (E : Mat q e (coordinate_count X k v)) → IsExtensionBasis A W B j t k v h u X M d' d E → ExtensionBasis A W B j t k v h u X M d' d
    extension_by {e} E b = record { size = e; rows = E; cocycles = b.cocycles; spans = b.spans; once = b.once; reduced = b.reduced }

    pub extension_rows : (R : ExtensionBasis A W B j t k v h u X M d' d) → IsExtensionBasis A W B j t k v h u X M d' d R.rows
    extension_rows R = record { cocycles = R.cocycles; spans = R.spans; once = R.once; reduced = R.reduced }

    module _ {e : ℕ} (E : Mat q e (coordinate_count X k v)) (b : IsBasisModulo C D E) where
      cocycle_rows : (c : Row q e) → d' ≫ hom (c · E) ≡ zero_hom (projectives W j t) X
      cocycle_rows c = killed_hom j t k v d' (c · E) (mul_assoc_mat c E D ∙ ap (λ z. c · z) b.kills ∙ mul_zeros c)

      cocycle_spans : (y : Hom (projectives W k v) X) → d' ≫ y ≡ zero_hom (projectives W j t) X → (c : Row q e) × (w : Hom (projectives W h u) X) × (hom (c · E) ⊕ d ≫ w ≡ y)
      cocycle_spans y z =
          let s = b.spans (coordinate_row A W B k v y) (sym (coordinate_row-compose j t k v d' y) ∙ ap (coordinate_row A W B j t) z ∙ coordinate_row-zero j t) in (
            s.0,
            hom_of_row A W B h u X M s.1.by,
            equal_by_coordinates k v _ y (
                sum_row (s.0 · E) (hom_of_row A W B h u X M s.1.by) ∙ ap (λ z. s.0 · E ⊞ z · C) (coordinate_row-hom h u s.1.by) ∙ ap (λ z. s.0 · E ⊞ z) s.1.is
                ∙ back (s.0 · E) (coordinate_row A W B k v y)),
          )

      cocycle_once : (c f : Row q e) (w : Hom (projectives W h u) X) → hom (c · E) ⊕ d ≫ w ≡ hom (f · E) → c ≡ f
      cocycle_once c f w s = sym (b.once f c (record {
        by = coordinate_row A W B h u w;
        is = sym (ap (λ z. z ⊟ c · E) (sym (coordinate_row-hom k v (f · E)) ∙ ap (coordinate_row A W B k v) (sym s) ∙ sum_row (c · E) w) ∙ less_first (c · E) (coordinate_row A W B h u w · C));
      }))

      pub rows_are_extension : IsReducedModulo C E → IsExtensionBasis A W B j t k v h u X M d' d E
      rows_are_extension r = record { cocycles = cocycle_rows; spans = cocycle_spans; once = cocycle_once; reduced = r }

      pub extension_of_rows : IsReducedModulo C E → ExtensionBasis A W B j t k v h u X M d' d
      extension_of_rows r = extension_by E (rows_are_extension r)

    -- And back.
    module _ (R : ExtensionBasis A W B j t k v h u X M d' d) where
      row_spans : (x : Row q (coordinate_count X k v)) → x · D ≡ zeros q 1 (coordinate_count X j t) → (c : Row q R.size) × IsInSpan C (x ⊟ c · R.rows)
      row_spans x z =
          let s = R.spans (hom x) (killed_hom j t k v d' x z) in (
            s.0,
            record {
              by = coordinate_row A W B h u s.1;
              is = sym (ap (λ z. z ⊟ s.0 · R.rows) (sym (coordinate_row-hom k v x) ∙ ap (coordinate_row A W B k v) (sym s.2) ∙ sum_row (s.0 · R.rows) s.1)
                  ∙ less_first (s.0 · R.rows) (coordinate_row A W B h u s.1 · C));
            },
          )

      row_kills : R.rows · D ≡ zeros q R.size (coordinate_count X j t)
      row_kills = equal_on_rows (R.rows · D) (zeros q R.size (coordinate_count X j t)) (λ c.
          sym (mul_assoc_mat c R.rows D) ∙ killed_row j t k v d' (c · R.rows) (R.cocycles c) ∙ sym (mul_zeros c))

      pub rows_of_extension : IsBasisModulo C D R.rows
      rows_of_extension = record { kills = row_kills; spans = row_spans; once = reduced_once C D R.rows R.reduced }

      pub extension_size : d' ≫ d ≡ zero_hom (projectives W j t) (projectives W h u) → R.size + rank C + rank D ≡ coordinate_count X k v
      extension_size e = basis_size C D (complex_matrices e) R.rows row_kills R.reduced rows_of_extension

    -- It exists, is the only one, and is told by its size.
    pub extension_exists : d' ≫ d ≡ zero_hom (projectives W j t) (projectives W h u) → ExtensionBasis A W B j t k v h u X M d' d
    extension_exists e = extension_of_rows (canonical C D (complex_matrices e)) (canonical_basis C D (complex_matrices e)) (canonical_reduced C D (complex_matrices e))

    pub extension_unique : (R S : ExtensionBasis A W B j t k v h u X M d' d) → (R.size ≡ S.size) × ((a b : ℕ) → R.rows.at a b ≡ S.rows.at a b)
    extension_unique R S = basis_unique C D R.rows S.rows (rows_of_extension R) R.reduced (rows_of_extension S) S.reduced

    pub rows_by_size : d' ≫ d ≡ zero_hom (projectives W j t) (projectives W h u) → {e : ℕ} (E : Mat q e (coordinate_count X k v)) → ((c : Row q e) → d' ≫ hom (c · E) ≡ zero_hom (projectives W j t) X) → IsReducedModulo C E
        → e + rank C + rank D ≡ coordinate_count X k v → IsExtensionBasis A W B j t k v h u X M d' d E
    rows_by_size z {e} E kills r s = rows_are_extension E (basis_by_size C D (complex_matrices z) E
        (equal_on_rows (E · D) (zeros q e (coordinate_count X j t)) (λ c. sym (mul_assoc_mat c E D) ∙ killed_row j t k v d' (c · E) (kills c) ∙ sym (mul_zeros c))) r s) r

    pub extension_by_size : d' ≫ d ≡ zero_hom (projectives W j t) (projectives W h u) → {e : ℕ} (E : Mat q e (coordinate_count X k v)) → ((c : Row q e) → d' ≫ hom (c · E) ≡ zero_hom (projectives W j t) X) → IsReducedModulo C E
        → e + rank C + rank D ≡ coordinate_count X k v → ExtensionBasis A W B j t k v h u X M d' d
    extension_by_size z E kills r s = extension_by E (rows_by_size z E kills r s)

    pub rows_size : d' ≫ d ≡ zero_hom (projectives W j t) (projectives W h u) → {e : ℕ} (E : Mat q e (coordinate_count X k v)) → IsExtensionBasis A W B j t k v h u X M d' d E → e + rank C + rank D ≡ coordinate_count X k v
    rows_size z E b = extension_size (extension_by E b) z

    pub rows_unique : {e f : ℕ} (E : Mat q e (coordinate_count X k v)) (F : Mat q f (coordinate_count X k v)) → IsExtensionBasis A W B j t k v h u X M d' d E → IsExtensionBasis A W B j t k v h u X M d' d F → (e ≡ f) × ((a b : ℕ) → E.at a b ≡ F.at a b)
    rows_unique E F b c = extension_unique (extension_by E b) (extension_by F c)

  -- At each degree of a minimal resolution.
  module _ (Y : Rep q A.quiver) (R : ProjectiveSequence W Y) where
    pub extension_of_resolution : (n : ℕ) → IsMinimalResolution W Y R (suc (suc n))
        → ExtensionBasis A W B (length (R.term (suc (suc n)))) (vertex_in (R.term (suc (suc n)))) (length (R.term (suc n))) (vertex_in (R.term (suc n))) (length (R.term n)) (vertex_in (R.term n)) X M
        (R.differential (suc (suc n))) (R.differential (suc n))
    extension_of_resolution n r = extension_exists (length (R.term (suc (suc n)))) (vertex_in (R.term (suc (suc n)))) (length (R.term (suc n))) (vertex_in (R.term (suc n))) (length (R.term n)) (vertex_in (R.term n))
        (R.differential (suc (suc n))) (R.differential (suc n)) (IsExact-zero (R.differential (suc (suc n))) (R.differential (suc n)) (r.exact (suc n) (omega arith)))

    pub extension_of_degree_zero : ExtensionBasis A W B (length (R.term 1)) (vertex_in (R.term 1)) (length (R.term zero)) (vertex_in (R.term zero)) zero (λ i. zero)
        X M (R.differential 1) (zero_hom (projectives_at W (R.term zero)) (projectives W zero (λ i. zero)))
    extension_of_degree_zero = extension_exists (length (R.term 1)) (vertex_in (R.term 1)) (length (R.term zero)) (vertex_in (R.term zero)) zero (λ i. zero)
        (R.differential 1) (zero_hom (projectives_at W (R.term zero)) (projectives W zero (λ i. zero))) (compose_zero (R.differential 1) (projectives W zero (λ i. zero)))

-- The block of generator i in a composite.
pub block-compose : {q : Gf} (A : BoundQuiver) (W : Words q A.quiver) (B : IsWordBasis A W) (X : Rep q A.quiver) (k : ℕ) (v : ℕ → ℕ) (h : ℕ) (u : ℕ → ℕ) (d : Hom (projectives W k v) (projectives W h u)) (y : Hom (projectives W h u) X) (i : ℕ) → i < k
    → column_block k (λ i. X.dim (v i)) i (coordinate_row A W B k v (d ≫ y)) ≡ value A W B k v d i · y.at (v i)
unfolding coordinate_row
block-compose A W B X k v h u d y i l =
    column_block_of (λ i. X.dim (v i)) k (λ i. value A W B k v (d ≫ y) i) i l
    ∙ ap (λ z. generator_of A W B k v i · z) (compose-at d y (v i)) ∙ sym (mul_assoc_mat (generator_of A W B k v i) (d.at (v i)) (y.at (v i)))
