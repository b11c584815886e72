-- The generators of a sum of projective modules are unit rows; they are independent modulo the radical and span the sum modulo the radical.
use Rattle.std.proofs.Common.{ℕ, zero, suc, ◌+◌, ◌<◌, ◌≤◌, ◌≡◌, ◌≢◌, ◌⊎◌, ltb, inl, inr, refl, sym, ap, ap₂, ◌∙◌, arith, subst, not-suc-le-zero, mod-eq_of_lt, lt-ltb}
use Rattle.std.proofs.Math.Path.{subst_refl, path_j}
use Rattle.std.proofs.lemmas.Bool.{cases_lt, cases_eq, cond-true}
use Rattle.linear_algebra.specs.Field.{Gf, mul, sub}
use Rattle.linear_algebra.specs.FieldLaws.{mul_zero, mul_one, mod-mul, sub_self}
use Rattle.linear_algebra.specs.Sums.{sum-single}
use Rattle.linear_algebra.specs.Matrix.{Mat, Row, made, zeros, one, ◌⊟◌, ◌·◌, beside}
use Rattle.linear_algebra.specs.Parts.{unit}
use Rattle.linear_algebra.specs.BlockFamilies.{total}
use Rattle.linear_algebra.proofs.MatrixLaws.{mul_one_mat, mul_zeros, mul_assoc_mat, add_comm_mat, sub_add_mat, sub-at}
use Rattle.linear_algebra.proofs.Blocks.{mul_beside}
use Rattle.linear_algebra.proofs.PartsLaws.{made-at, reshape-at}
use Rattle.linear_algebra.proofs.BlockFamilies.{total_grows}
use Rattle.representations.specs.Quiver.{Quiver, BoundQuiver}
use Rattle.representations.specs.Rep.{Rep}
use Rattle.representations.specs.Hom.{Hom, ◌≫◌}
use Rattle.representations.specs.Sum.{sum_family, into_first, into_second}
use Rattle.representations.proofs.Homs.{compose-at}
use Rattle.projectives.specs.Words.{Words, IsWordBasis, projective}
use Rattle.projectives.specs.Projective.{of_rows}
use Rattle.projectives.specs.Families.{choose, family_in, projectives, generator_of}
use Rattle.projectives.specs.Generators.{placed, rows_at, IsIndependentModuloRadical, SpansModuloRadical}
use Rattle.projectives.proofs.Units.{unit_same, unit_other, beside_unit_first, beside_unit_second}
use Rattle.projectives.proofs.ProjectiveRadical.{family_dim, radical_vanishes, vanishing_in_radical}

-- The injection of a part takes unit rows to unit rows, so many places further as the parts before it have.
module _ {q : Gf} {Q : Quiver} where
  unit_into_first : (X Y : Rep q Q) (w i : ℕ) → i < X.dim w → unit q (X.dim w) i · (into_first X Y).at w ≡ unit q (X.dim w + Y.dim w) i
  unfolding into_first
  unit_into_first X Y w i h =
      mul_beside (unit q (X.dim w) i) (one q (X.dim w)) (zeros q (X.dim w) (Y.dim w))
      ∙ ap₂ beside (mul_one_mat (unit q (X.dim w) i)) (mul_zeros (unit q (X.dim w) i)) ∙ beside_unit_first q (X.dim w) (Y.dim w) i h

  unit_into_second : (X Y : Rep q Q) (w i : ℕ) → i < Y.dim w → unit q (Y.dim w) i · (into_second X Y).at w ≡ unit q (X.dim w + Y.dim w) (X.dim w + i)
  unfolding into_second
  unit_into_second X Y w i h =
      mul_beside (unit q (Y.dim w) i) (zeros q (Y.dim w) (X.dim w)) (one q (Y.dim w))
      ∙ ap₂ beside (mul_zeros (unit q (Y.dim w) i)) (mul_one_mat (unit q (Y.dim w) i)) ∙ beside_unit_second q (X.dim w) (Y.dim w) i h

  unit_choose : {Z : Rep q Q} (X : ℕ → Rep q Q) (j k w i n : ℕ) (c : (j ≡ k) ⊎ (j ≢ k)) (g : Hom (X k) Z) (h : Hom (X j) Z)
      → (j ≡ k → i < (X k).dim w → unit q ((X k).dim w) i · g.at w ≡ unit q (Z.dim w) n) → (j ≢ k → unit q ((X j).dim w) i · h.at w ≡ unit q (Z.dim w) n)
      → i < (X j).dim w → unit q ((X j).dim w) i · (choose X j k c g h).at w ≡ unit q (Z.dim w) n
  unit_choose {Z} X j k w i n (inl e) g h s o l =
      path_j (λ j d. i < (X j).dim w → unit q ((X j).dim w) i · (subst (λ j. Hom (X j) Z) d g).at w ≡ unit q (Z.dim w) n)
      (λ l. ap (λ (f : Hom (X k) Z). unit q ((X k).dim w) i · f.at w) (subst_refl (λ j. Hom (X j) Z) g) ∙ s e l) (sym e) l
  unit_choose X j k w i n (inr d) g h s o l = o d

  pub unit_family_in : (k : ℕ) (X : ℕ → Rep q Q) (j w i : ℕ) → j < k → i < (X j).dim w
      → unit q ((X j).dim w) i · (family_in k X j).at w ≡ unit q ((sum_family k X).dim w) (total j (λ t. (X t).dim w) + i)
  unfolding family_in sum_family
  unit_family_in zero X j w i h l = absurd (not-suc-le-zero h)
  unit_family_in (suc k) X j w i h l =
      let grows : j ≢ k → total j (λ t. (X t).dim w) + (X j).dim w ≤ (sum_family k X).dim w = λ d. subst (λ n. total j (λ t. (X t).dim w) + (X j).dim w ≤ n) (sym (family_dim k X w)) (total_grows (λ t. (X t).dim w) k j (omega arith)) in
      unit_choose X j k w i (total j (λ t. (X t).dim w) + i) (cases_eq j k) (into_second (sum_family k X) (X k)) (family_in k X j ≫ into_first (sum_family k X) (X k))
      (λ e b. unit_into_second (sum_family k X) (X k) w i b ∙ ap (λ n. unit q ((sum_family k X).dim w + (X k).dim w) (n + i)) (family_dim k X w ∙ ap (λ j. total j (λ t. (X t).dim w)) (sym e)))
      (λ d.
      ap (λ z. unit q ((X j).dim w) i · z) (compose-at (family_in k X j) (into_first (sum_family k X) (X k)) w)
      ∙ sym (mul_assoc_mat (unit q ((X j).dim w) i) ((family_in k X j).at w) ((into_first (sum_family k X) (X k)).at w))
      ∙ ap (λ z. z · (into_first (sum_family k X) (X k)).at w) (unit_family_in k X j w i (omega arith) l)
      ∙ unit_into_first (sum_family k X) (X k) w (total j (λ t. (X t).dim w) + i) (let b = grows d in omega arith))
      l

  -- Entries of the rows at a vertex.
  pub rows_at-at : (X : Rep q Q) (k : ℕ) (v : ℕ → ℕ) (x : (j : ℕ) → Row q (X.dim (v j))) (w t i : ℕ) → t < k → (rows_at X k v x w).at t i ≡ (placed X (v t) w (cases_eq (v t) w) (x t)).at 0 i
  unfolding rows_at of_rows
  rows_at-at X k v x w t i h = cond-true (ltb t k) _ zero (lt-ltb t k h)

  placed-here : (X : Rep q Q) (v w i : ℕ) (c : (v ≡ w) ⊎ (v ≢ w)) (x : Row q (X.dim v)) → v ≡ w → (placed X v w c x).at 0 i ≡ x.at 0 i
  placed-here X v w i (inl e) x d = reshape-at refl (ap X.dim e) x 0 i
  placed-here X v w i (inr n) x d = absurd (n d)

  placed-elsewhere : (X : Rep q Q) (v w i : ℕ) (c : (v ≡ w) ⊎ (v ≢ w)) (x : Row q (X.dim v)) → v ≢ w → (placed X v w c x).at 0 i ≡ 0
  unfolding zeros
  placed-elsewhere X v w i (inl e) x d = absurd (d e)
  placed-elsewhere X v w i (inr n) x d = refl

  pub rows_at-here : (X : Rep q Q) (k : ℕ) (v : ℕ → ℕ) (x : (j : ℕ) → Row q (X.dim (v j))) (w t i : ℕ) → t < k → v t ≡ w → (rows_at X k v x w).at t i ≡ (x t).at 0 i
  rows_at-here X k v x w t i h e = rows_at-at X k v x w t i h ∙ placed-here X (v t) w i (cases_eq (v t) w) (x t) e

  pub rows_at-elsewhere : (X : Rep q Q) (k : ℕ) (v : ℕ → ℕ) (x : (j : ℕ) → Row q (X.dim (v j))) (w t i : ℕ) → t < k → v t ≢ w → (rows_at X k v x w).at t i ≡ 0
  rows_at-elsewhere X k v x w t i h d = rows_at-at X k v x w t i h ∙ placed-elsewhere X (v t) w i (cases_eq (v t) w) (x t) d

module _ {q : Gf} (A : BoundQuiver) (W : Words q A.quiver) (B : IsWordBasis A W) (k : ℕ) (v : ℕ → ℕ) where
  -- The column of the trivial word of part j at the vertex w.
  abbrev pub trivial_column : ℕ → ℕ → ℕ
  trivial_column w j = total j (λ i. W.count (v i) w) + B.place (v j)

  pub generator_of-unit : (j : ℕ) → j < k → v j < A.quiver.vertices → generator_of A W B k v j ≡ unit q ((projectives W k v).dim (v j)) (trivial_column (v j) j)
  generator_of-unit j h b = unit_family_in k (λ j. projective W (v j)) j (v j) (B.place (v j)) h (B.place_below (v j) b)

  column_below : (w j : ℕ) → j < k → v j ≡ w → w < A.quiver.vertices → trivial_column w j + 1 ≤ total j (λ i. W.count (v i) w) + W.count (v j) w
  column_below w j h e b =
      let below : B.place (v j) < W.count (v j) w = subst (λ w. B.place (v j) < W.count (v j) w) e (B.place_below (v j) (subst (λ w. w < A.quiver.vertices) (sym e) b)) in
      omega arith

  column_inside : (w j : ℕ) → j < k → v j ≡ w → w < A.quiver.vertices → trivial_column w j < (projectives W k v).dim w
  column_inside w j h e b =
      let grows = total_grows (λ i. W.count (v i) w) k j h in
      let below = column_below w j h e b in
      let size = family_dim k (λ j. projective W (v j)) w in
      omega arith

  column_order : (w i j : ℕ) → i < k → v i ≡ w → w < A.quiver.vertices → i < j → trivial_column w i < trivial_column w j
  column_order w i j h e b l =
      let grows = total_grows (λ i. W.count (v i) w) j i l in
      let below = column_below w i h e b in
      omega arith

  columns_differ : (w i j : ℕ) → i < k → j < k → v i ≡ w → v j ≡ w → w < A.quiver.vertices → i ≢ j → trivial_column w i ≢ trivial_column w j
  columns_differ w i j h l e f b d s = elim (cases_lt i j) [
    | inl c ↦ let o = column_order w i j h e b c in absurd (omega arith)
    | inr c ↦ let o = column_order w j i l f b (omega arith) in absurd (omega arith)
  ]

  generator_at : (w i : ℕ) → i < k → v i ≡ w → w < A.quiver.vertices → (c : ℕ) → (generator_of A W B k v i).at 0 c ≡ (unit q ((projectives W k v).dim w) (trivial_column w i)).at 0 c
  generator_at w i h e b c =
      ap (λ (z : Row q ((projectives W k v).dim (v i))). z.at 0 c) (generator_of-unit i h (subst (λ w. w < A.quiver.vertices) (sym e) b))
      ∙ ap (λ w. (unit q ((projectives W k v).dim w) (trivial_column w i)).at 0 c) e

  -- The coefficient at the trivial word of part j of a combination of the generators is that of the generator j.
  pub combination_at_trivial : (w : ℕ) → w < A.quiver.vertices → (c : Row q k) (j : ℕ) → j < k → v j ≡ w
      → (c · rows_at (projectives W k v) k v (generator_of A W B k v) w).at 0 (trivial_column w j) ≡ c.at 0 j
  unfolding ◌·◌
  combination_at_trivial w b c j h e =
      sum-single q k j _ h (λ t l d. ap (mul q (c.at 0 t)) (elim (cases_eq (v t) w) [
        | inl f ↦
            rows_at-here (projectives W k v) k v (generator_of A W B k v) w t (trivial_column w j) l f ∙ generator_at w t l f b (trivial_column w j)
            ∙ unit_other q ((projectives W k v).dim w) (trivial_column w t) (trivial_column w j) (column_inside w t l f b) (columns_differ w t j l h f e b d)
        | inr f ↦ rows_at-elsewhere (projectives W k v) k v (generator_of A W B k v) w t (trivial_column w j) l f
      ]) ∙ mul_zero q (c.at 0 t))
      ∙ mod-mul q (c.at 0 j) _
      ∙ ap (mul q (c.at 0 j))
      (rows_at-here (projectives W k v) k v (generator_of A W B k v) w j (trivial_column w j) h e ∙ generator_at w j h e b (trivial_column w j)
      ∙ unit_same q ((projectives W k v).dim w) (trivial_column w j) (column_inside w j h e b))
      ∙ mul_one q (c.at 0 j) (c.fits.small 0 j)

  pub generators_independent : IsIndependentModuloRadical (projectives W k v) k v (generator_of A W B k v)
  generators_independent w b c r j h e = sym (combination_at_trivial w b c j h e) ∙ radical_vanishes A W B v k w _ r j h e

  pub generators_span : SpansModuloRadical (projectives W k v) k v (generator_of A W B k v)
  generators_span w y = record {
    by = c;
    rest = y ⊟ c · G;
    in_radical = vanishing_in_radical A W B v k w (y ⊟ c · G) (λ j h e. elim (cases_lt w A.quiver.vertices) [
      | inl b ↦
          sub-at y (c · G) 0 (trivial_column w j)
          ∙ ap (sub q (y.at 0 (trivial_column w j))) (combination_at_trivial w b c j h e ∙ made-at q 1 k (λ i j. y.at 0 (trivial_column w j)) 0 j (omega arith) h ∙ mod-eq_of_lt (y.fits.small 0 (trivial_column w j)))
          ∙ sub_self q (y.at 0 (trivial_column w j))
      | inr b ↦ (y ⊟ c · G).fits.right 0 _ (let none = (projectives W k v).past w b in omega arith)
    ]);
    is = add_comm_mat (c · G) (y ⊟ c · G) ∙ sub_add_mat y (c · G);
  }
    where
      c : Row q k
      c = made q 1 k (λ i j. y.at 0 (trivial_column w j))

      G : Mat q k ((projectives W k v).dim w)
      G = rows_at (projectives W k v) k v (generator_of A W B k v) w
