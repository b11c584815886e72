-- The representations of words are modules, on both sides; and on a module a path acts as its normal form does.
use Rattle.std.proofs.Common.{ℕ, ◌≡◌, ◌<◌, ◌≤◌, ◌⊎◌, inl, inr, List, ◌++◌, refl, sym, ap, ◌∙◌, subst, arith}
use Rattle.std.proofs.lemmas.Bool.{cases_lt, and_from, eq-eqb, both_ways}
use Rattle.std.proofs.lemmas.List.{append-nil}
use Rattle.linear_algebra.specs.Field.{mul}
use Rattle.linear_algebra.specs.FieldLaws.{mul_zero}
use Rattle.linear_algebra.specs.Sums.{sum-same}
use Rattle.linear_algebra.specs.Matrix.{Mat, Mat-eq_below, transpose}
use Rattle.linear_algebra.specs.Families.{combine}
use Rattle.linear_algebra.proofs.LinearMaps.{combine-at}
use Rattle.linear_algebra.proofs.MatrixLaws.{transpose-at}
use Rattle.quiver_paths.specs.declared.Path.{Path}
use Rattle.quiver_paths.specs.Path.{IsPath, trivial_path}
use Rattle.quiver_paths.proofs.PathLemmas.{IsPath-trivial}
use Rattle.path_algebra.specs.declared.Header.{Header}
use Rattle.path_algebra.specs.Allowed.{IsAllowed}
use Rattle.path_algebra.specs.Words.{AreNormalWords}
use Rattle.path_algebra.proofs.Between.{composite, Path-eq}
use Rattle.path_algebra.proofs.NormalForms.{normal_form}
use Rattle.path_algebra.proofs.ListedPaths.{sum_to-over}
use Rattle.representations.specs.Quiver.{Path as TypedPath, reverse, opposite, opposite_algebra}
use Rattle.representations.specs.Rep.{Rep, along, IsMod}
use Rattle.representations.specs.Dual.{dual}
use Rattle.representations.proofs.Duals.{dual_dual, along-reverse, IsMod-dual, reverse_reverse}
use Rattle.projectives.specs.Words.{projective, word_at, along_word}
use Rattle.bound_algebra.specs.TypedPaths.{quiver_of, arrows_of, listed}
use Rattle.bound_algebra.specs.BoundAlgebra.{bound_algebra}
use Rattle.bound_algebra.specs.PathMatrices.{path_matrix}
use Rattle.bound_algebra.specs.WordLists.{is_between, words_between}
use Rattle.bound_algebra.specs.NormalWords.{word_count, normal_word, typed_word}
use Rattle.bound_algebra.specs.AlgebraWords.{algebra_words, opposite_words}
use Rattle.bound_algebra.proofs.TypedPaths.{arrows_of-path_of}
use Rattle.bound_algebra.proofs.Functionals.{value_of_form}
use Rattle.bound_algebra.proofs.Forms.{sum_over-filter, form_between, form_between-meeting, kills}
use Rattle.bound_algebra.proofs.ModulesByEntries.{IsEntry, module_by_entries}
use Rattle.bound_algebra.proofs.PathMatrices.{path_matrix-typed}
use Rattle.bound_algebra.proofs.ModuleEntries.{entry, entry-apart, entry_kills}
use Rattle.bound_algebra.proofs.ProductMatrices.{vertex_start, vertex_end, word_path, word_from_to, product_matrix-at, along_right, along_left}

module _ (h : Header) (ok : IsAllowed h) (words : List Path) (w : AreNormalWords h words) where
  pub right_module : (v : ℕ) → IsMod (bound_algebra h) (projective (algebra_words h ok words w) v)
  right_module v = module_by_entries h ok (projective (algebra_words h ok words w) v) (λ b c x y l m. entries b c x y l m)
    where
      entries : (b c x y : ℕ) → x < word_count h ok words w v b → y < word_count h ok words w v c → (f : Path → ℕ) × IsEntry h (projective (algebra_words h ok words w) v) b c x y f
      entries b c x y l m =
          let u = normal_word h ok words w v b x in
          let r = normal_word h ok words w v c y in
          let hu = word_path h ok words w v b x l in
          let ru = word_from_to h ok words w v b x l in
          let hc = IsPath-trivial h.quiver c (vertex_end h ok words w v c y m) in (
            form_between h ok words w u (trivial_path c) hu hc r,
            record {
              kills = kills h ok words w u (trivial_path c) hu hc r;
              is = λ p leads.
                  ap (λ (z : Mat h.field (word_count h ok words w v b) (word_count h ok words w v c)). z.at x y) (along_right h ok words w v p leads)
                  ∙ product_matrix-at h ok words w v b v c (trivial_path v) (listed p) x y l m
                  ∙ ap (λ z. normal_form h ok words w z r) (Path-eq (composite (trivial_path v) u (listed p)) (composite u (listed p) (trivial_path c)) (sym ru.starts) refl (ap (λ ys. u.arrows ++ ys) (sym (append-nil (arrows_of p)))))
                  ∙ sym (form_between-meeting h ok words w u (trivial_path c) hu hc r (listed p) (sym ru.ends) refl);
            },
          )

  left_module : (v : ℕ) → IsMod (bound_algebra h) (dual (projective (opposite_words h ok words w) v))
  left_module v = module_by_entries h ok (dual L) (λ b c x y l m. entries b c x y l m)
    where
      L : Rep h.field (opposite (quiver_of h.quiver))
      L = projective (opposite_words h ok words w) v

      turned : {b c : ℕ} (p : TypedPath (quiver_of h.quiver) b c) → along (dual L) p ≡ transpose (along L (reverse p))
      turned p = ap (along (dual L)) (sym (reverse_reverse p)) ∙ along-reverse L (reverse p)

      entries : (b c x y : ℕ) → x < word_count h ok words w b v → y < word_count h ok words w c v → (f : Path → ℕ) × IsEntry h (dual L) b c x y f
      entries b c x y l m =
          let u = normal_word h ok words w c v y in
          let r = normal_word h ok words w b v x in
          let hu = word_path h ok words w c v y m in
          let ru = word_from_to h ok words w c v y m in
          let hb = IsPath-trivial h.quiver b (vertex_start h ok words w b v x l) in (
            form_between h ok words w (trivial_path b) u hb hu r,
            record {
              kills = kills h ok words w (trivial_path b) u hb hu r;
              is = λ p leads.
                  ap (λ (z : Mat h.field (word_count h ok words w b v) (word_count h ok words w c v)). z.at x y) (turned p)
                  ∙ transpose-at (along L (reverse p)) x y
                  ∙ ap (λ (z : Mat h.field (word_count h ok words w c v) (word_count h ok words w b v)). z.at y x) (along_left h ok words w v p leads)
                  ∙ product_matrix-at h ok words w c v b v (listed p) (trivial_path v) y x m l
                  ∙ ap (λ z. normal_form h ok words w z r) (Path-eq (composite (listed p) u (trivial_path v)) (composite (trivial_path b) (listed p) u) refl (sym ru.ends) (ap (λ ys. arrows_of p ++ ys) (append-nil u.arrows)))
                  ∙ sym (form_between-meeting h ok words w (trivial_path b) u hb hu r (listed p) refl (sym ru.starts));
            },
          )

  pub left_module_is : (v : ℕ) → IsMod (opposite_algebra (bound_algebra h)) (projective (opposite_words h ok words w) v)
  left_module_is v =
      let L : Rep h.field (opposite (quiver_of h.quiver)) = projective (opposite_words h ok words w) v in
      subst (IsMod (opposite_algebra (bound_algebra h))) (dual_dual L) (IsMod-dual (bound_algebra h) (dual L) (left_module v))

  -- on a module
  module _ (X : Rep h.field (quiver_of h.quiver)) (M : IsMod (bound_algebra h) X) where
    word_at-is : (b c i : ℕ) (d : (i < word_count h ok words w b c) ⊎ (word_count h ok words w b c ≤ i)) → i < word_count h ok words w b c
        → word_at (algebra_words h ok words w) X b c i d ≡ path_matrix h.quiver X b c (normal_word h ok words w b c i)
    word_at-is b c i (inl l) m = sym (path_matrix-typed h.quiver X (typed_word h ok words w b c i l) (normal_word h ok words w b c i) (word_from_to h ok words w b c i m)
        (arrows_of-path_of h.quiver b (normal_word h ok words w b c i).arrows c _))
    word_at-is b c i (inr l) m = absurd (omega (arith, l, m))

    pub along_word-is : (b c i : ℕ) → i < word_count h ok words w b c → along_word (algebra_words h ok words w) X b c i ≡ path_matrix h.quiver X b c (normal_word h ok words w b c i)
    unfolding along_word
    along_word-is b c i m = word_at-is b c i (cases_lt i (word_count h ok words w b c)) m

    -- a path acts as the combination of words that its normal form is
    pub acts_as_form : (b c : ℕ) (p : Path) → IsPath h.quiver p → path_matrix h.quiver X b c p
        ≡ combine (word_count h ok words w b c) (λ j. normal_form h ok words w p (normal_word h ok words w b c j)) (along_word (algebra_words h ok words w) X b c)
    unfolding entry
    acts_as_form b c p hp = Mat-eq_below _ _ (λ x y l m.
        value_of_form h ok (entry h ok X M b c x y) (entry_kills h ok X M b c x y) words w p hp
        ∙ sum_over-filter h.field (is_between b c) words _ (λ u k e. ap (mul h.field (normal_form h ok words w p u))
        (entry-apart h ok X M b c x y u (λ r. both_ways (is_between b c u) e (and_from _ _ (eq-eqb _ _ r.starts) (eq-eqb _ _ r.ends)))) ∙ mul_zero h.field _)
        ∙ sym (sum_to-over h.field (words_between words b c) (λ u. mul h.field (normal_form h ok words w p u) (entry h ok X M b c x y u)))
        ∙ sum-same h.field (word_count h ok words w b c) _ _ (λ j k. ap (λ (z : Mat h.field (X.dim b) (X.dim c)). mul h.field (normal_form h ok words w p (normal_word h ok words w b c j)) (z.at x y)) (sym (along_word-is b c j k)))
        ∙ sym (combine-at (word_count h ok words w b c) (λ j. normal_form h ok words w p (normal_word h ok words w b c j)) (along_word (algebra_words h ok words w) X b c) x y))
