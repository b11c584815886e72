-- The words of a header are a basis of its algebra on the right, and reversed a basis of the opposite algebra.
use Rattle.std.proofs.Common.{ℕ, zero, suc, ◌≡◌, ◌<◌, ◌≤◌, ◌⊎◌, inl, inr, List, [], ◌∷◌, ◌++◌, refl, sym, ap, ap₂, ◌∙◌, subst, arith}
use Rattle.std.proofs.lemmas.Bool.{cases_lt}
use Rattle.std.proofs.lemmas.List.{append-nil}
use Rattle.linear_algebra.specs.Field.{Gf}
use Rattle.linear_algebra.specs.Matrix.{Mat, ◌⊞◌, ◌⊙◌, ◌·◌, transpose}
use Rattle.linear_algebra.specs.Parts.{unit}
use Rattle.linear_algebra.specs.Families.{combine}
use Rattle.linear_algebra.proofs.LinearMaps.{combine-same_members}
use Rattle.linear_algebra.proofs.MatrixLaws.{one-at, transpose_mul, transpose_transpose, transpose_zeros, transpose_sum, transpose_scale}
use Rattle.linear_algebra.proofs.PartsLaws.{Row-eq, row-at, unit-at, unit_mul}
use Rattle.quiver_paths.specs.declared.Path.{Path}
use Rattle.quiver_paths.specs.Quiver.{vertex_count, source, target}
use Rattle.quiver_paths.specs.Path.{IsPath, Leads, trivial_path}
use Rattle.quiver_paths.proofs.PathLemmas.{Leads-between}
use Rattle.path_algebra.specs.declared.Header.{Header}
use Rattle.path_algebra.specs.Allowed.{IsAllowed}
use Rattle.path_algebra.specs.Words.{AreNormalWords}
use Rattle.path_algebra.proofs.Between.{composite, Path-eq}
use Rattle.path_algebra.proofs.NormalForms.{normal_form}
use Rattle.representations.specs.Quiver.{Path as TypedPath, then, path_after, reverse, opposite, opposite_algebra}
use Rattle.representations.specs.Rep.{Rep, along, IsMod}
use Rattle.representations.specs.Dual.{dual}
use Rattle.representations.proofs.Duals.{along-reverse, reverse_reverse}
use Rattle.projectives.specs.Words.{Words, IsWord, IsWordBasis, projective, word_at, along_word}
use Rattle.projectives.specs.TwoSided.{TwoSided, other}
use Rattle.projectives.proofs.TwoSided.{IsMod-dual_back}
use Rattle.bound_algebra.specs.TypedPaths.{quiver_of, arrows_of, listed}
use Rattle.bound_algebra.specs.BoundAlgebra.{bound_algebra}
use Rattle.bound_algebra.specs.NormalWords.{word_count, normal_word, typed_word, none_start}
use Rattle.bound_algebra.specs.AlgebraWords.{product_matrix, algebra_words, arrows_before, opposite_words}
use Rattle.bound_algebra.proofs.TypedPaths.{arrows_of-after, same_arrows}
use Rattle.bound_algebra.proofs.ProductMatrices.{vertex_start, vertex_end, word_from_to, product_matrix-at, form_at, along_right, along_left}
use Rattle.bound_algebra.specs.PathMatrices.{left_path_matrix}
use Rattle.bound_algebra.proofs.PathMatrices.{left_matrix}
use Rattle.bound_algebra.proofs.WordModules.{right_module, left_module_is, acts_as_form}
use Rattle.bound_algebra.proofs.WordBasis.{first_word, some_word, word_arrows, place_trivial, place_only, part_is_word, not_trivial, not_trivial_before, word_acts, acts_behind, acts_before}

pub transpose_combine : {q : Gf} {m n : ℕ} (s : ℕ) (c : ℕ → ℕ) (g : ℕ → Mat q m n) → transpose (combine s c g) ≡ combine s c (λ i. transpose (g i))
unfolding combine
transpose_combine {q} {m} {n} zero c g = transpose_zeros q m n
transpose_combine (suc s) c g = transpose_sum (combine s c g) (c s ⊙ g s) ∙ ap₂ (λ a b. a ⊞ b) (transpose_combine s c g) (transpose_scale (c s) (g s))

module _ (h : Header) (ok : IsAllowed h) (words : List Path) (w : AreNormalWords h words) where
  abbrev W : Words h.field (quiver_of h.quiver)
  W = algebra_words h ok words w

  abbrev R : Words h.field (opposite (quiver_of h.quiver))
  R = opposite_words h ok words w

  pub word_listed_is : (b c i : ℕ) (l : i < word_count h ok words w b c) → listed (typed_word h ok words w b c i l) ≡ normal_word h ok words w b c i
  word_listed_is b c i l = let r = word_from_to h ok words w b c i l in Path-eq _ (normal_word h ok words w b c i) (sym r.starts) (sym r.ends) (word_arrows h ok words w b c i l)

  word_leads : (b c i : ℕ) (l : i < word_count h ok words w b c) → Leads h.quiver b (arrows_of (typed_word h ok words w b c i l)) c
  word_leads b c i l = subst (λ xs. Leads h.quiver b xs c) (sym (word_arrows h ok words w b c i l)) (word_from_to h ok words w b c i l).leads

  generates : (v c i : ℕ) → i < word_count h ok words w v c → unit h.field (word_count h ok words w v v) zero · along_word W (projective W v) v c i ≡ unit h.field (word_count h ok words w v c) i
  generates v c i l =
      ap (λ m. unit h.field (word_count h ok words w v v) zero · m) (word_acts h ok words w (projective W v) (right_module h ok words w v) v c i l ∙ along_right h ok words w v (typed_word h ok words w v c i l) (word_leads v c i l))
      ∙ unit_mul zero (product_matrix h ok words w v v v c (trivial_path v) (listed (typed_word h ok words w v c i l)))
      ∙ Row-eq _ _ (λ j k.
      row-at zero (product_matrix h ok words w v v v c (trivial_path v) (listed (typed_word h ok words w v c i l))) j
      ∙ product_matrix-at h ok words w v v v c (trivial_path v) (listed (typed_word h ok words w v c i l)) zero j (some_word h ok words w v v_in) k
      ∙ ap (λ p. normal_form h ok words w p (normal_word h ok words w v c j))
      (ap (λ p. composite (trivial_path v) p (listed (typed_word h ok words w v c i l))) (first_word h ok words w v v_in) ∙ word_listed_is v c i l)
      ∙ form_at h ok words w v c i j l k
      ∙ sym (unit-at h.field (word_count h ok words w v c) i j ∙ one-at h.field (word_count h ok words w v c) i j l))
    where
      v_in : v < vertex_count h.quiver
      v_in = vertex_start h ok words w v c i l

  -- reversed
  word_at-reversed : (X : Rep h.field (opposite (quiver_of h.quiver))) (v c i : ℕ) (d : (i < word_count h ok words w c v) ⊎ (word_count h ok words w c v ≤ i)) → word_at R X v c i d ≡ transpose (word_at W (dual X) c v i d)
  word_at-reversed X v c i (inl l) =
      let p = typed_word h ok words w c v i l in
      sym (transpose_transpose (along X (reverse p))) ∙ ap transpose (sym (ap (along (dual X)) (sym (reverse_reverse p)) ∙ along-reverse X (reverse p)))
  word_at-reversed X v c i (inr l) = sym (transpose_zeros h.field (X.dim c) (X.dim v))

  pub along_word-reversed : (X : Rep h.field (opposite (quiver_of h.quiver))) (v c i : ℕ) → along_word R X v c i ≡ transpose (along_word W (dual X) c v i)
  unfolding along_word
  along_word-reversed X v c i = word_at-reversed X v c i (cases_lt i (word_count h ok words w c v))

  acts_reversed : (X : Rep h.field (opposite (quiver_of h.quiver))) → IsMod (opposite_algebra (bound_algebra h)) X → (v a i : ℕ) → i < word_count h ok words w (target h.quiver a) v
      → along_word R X v (target h.quiver a) i · X.mat a ≡ combine (word_count h ok words w (source h.quiver a) v) ((arrows_before h ok words w v a).at i) (along_word R X v (source h.quiver a))
  acts_reversed X M v a i l =
      let D : Rep h.field (quiver_of h.quiver) = dual X in
      ap₂ (λ m n. m · n) (along_word-reversed X v (target h.quiver a) i) (sym (transpose_transpose (X.mat a)))
      ∙ sym (transpose_mul (transpose (X.mat a)) (along_word W D (target h.quiver a) v i))
      ∙ ap transpose (acts_before h ok words w D (IsMod-dual_back (bound_algebra h) X M) v a i l)
      ∙ transpose_combine (word_count h ok words w (source h.quiver a) v) ((arrows_before h ok words w v a).at i) (along_word W D (source h.quiver a) v)
      ∙ combine-same_members (word_count h ok words w (source h.quiver a) v) ((arrows_before h ok words w v a).at i) _ _ (λ j k. sym (along_word-reversed X v (source h.quiver a) j))

  -- on a left module a path acts as the combination of words that its normal form is
  pub acts_on_left : (X : Rep h.field (opposite (quiver_of h.quiver))) → IsMod (opposite_algebra (bound_algebra h)) X → (v c : ℕ) (p : Path) → IsPath h.quiver p
      → left_path_matrix h.quiver X v c p ≡ combine (word_count h ok words w v c) (λ j. normal_form h ok words w p (normal_word h ok words w v c j)) (along_word R X c v)
  acts_on_left X M v c p hp =
      let D : Rep h.field (quiver_of h.quiver) = dual X in
      let form = λ (j : ℕ). normal_form h ok words w p (normal_word h ok words w v c j) in
      left_matrix h.quiver X v c p
      ∙ ap transpose (acts_as_form h ok words w D (IsMod-dual_back (bound_algebra h) X M) v c p hp)
      ∙ transpose_combine (word_count h ok words w v c) form (along_word W D v c)
      ∙ combine-same_members (word_count h ok words w v c) form _ _ (λ j k. sym (along_word-reversed X c v j))

  word_at-left : (X : Rep h.field (opposite (quiver_of h.quiver))) (v c i : ℕ) (d : (i < word_count h ok words w c v) ⊎ (word_count h ok words w c v ≤ i)) (l : i < word_count h ok words w c v) → word_at R X v c i d ≡ along X (reverse (typed_word h ok words w c v i l))
  word_at-left X v c i (inl k) l = ap (λ p. along X (reverse p)) (same_arrows (typed_word h ok words w c v i k) (typed_word h ok words w c v i l) (word_arrows h ok words w c v i k ∙ sym (word_arrows h ok words w c v i l)))
  word_at-left X v c i (inr k) l = absurd (omega (arith, k, l))

  along_word-left : (X : Rep h.field (opposite (quiver_of h.quiver))) (v c i : ℕ) (l : i < word_count h ok words w c v) → along_word R X v c i ≡ along X (reverse (typed_word h ok words w c v i l))
  unfolding along_word
  along_word-left X v c i l = word_at-left X v c i (cases_lt i (word_count h ok words w c v)) l

  generates_left : (v c i : ℕ) → i < word_count h ok words w c v → unit h.field (word_count h ok words w v v) zero · along_word R (projective R v) v c i ≡ unit h.field (word_count h ok words w c v) i
  generates_left v c i l =
      let p = typed_word h ok words w c v i l in
      ap (λ m. unit h.field (word_count h ok words w v v) zero · m) (along_word-left (projective R v) v c i l ∙ along_left h ok words w v p (word_leads c v i l))
      ∙ unit_mul zero (product_matrix h ok words w v v c v (listed p) (trivial_path v))
      ∙ Row-eq _ _ (λ j k.
      row-at zero (product_matrix h ok words w v v c v (listed p) (trivial_path v)) j
      ∙ product_matrix-at h ok words w v v c v (listed p) (trivial_path v) zero j (some_word h ok words w v v_in) k
      ∙ ap (λ r. normal_form h ok words w r (normal_word h ok words w c v j))
      (ap (λ r. composite (listed p) r (trivial_path v)) (first_word h ok words w v v_in) ∙ Path-eq (composite (listed p) (trivial_path v) (trivial_path v)) (listed p) refl refl (append-nil (arrows_of p)) ∙ word_listed_is c v i l)
      ∙ form_at h ok words w c v i j l k
      ∙ sym (unit-at h.field (word_count h ok words w c v) i j ∙ one-at h.field (word_count h ok words w c v) i j l))
    where
      v_in : v < vertex_count h.quiver
      v_in = vertex_end h ok words w c v i l

  without_last : (v a i : ℕ) (l : i < word_count h ok words w v (target h.quiver a)) (p : TypedPath (quiver_of h.quiver) v (source h.quiver a)) → typed_word h ok words w v (target h.quiver a) i l ≡ then a p
      → IsWord W v (source h.quiver a) p
  without_last v a i l p e =
      let whole : (normal_word h ok words w v (target h.quiver a) i).arrows ≡ arrows_of p ++ a ∷ [] = sym (word_arrows h ok words w v (target h.quiver a) i l) ∙ ap (λ (z : TypedPath (quiver_of h.quiver) v (target h.quiver a)). arrows_of z) e in
      let leads : Leads h.quiver v (arrows_of p ++ a ∷ []) (target h.quiver a) = subst (λ xs. Leads h.quiver v xs (target h.quiver a)) whole (word_from_to h ok words w v (target h.quiver a) i l).leads in
      let cut = Leads-between h.quiver v (arrows_of p) (a ∷ []) (target h.quiver a) leads in
      let found = part_is_word h ok words w p v (target h.quiver a) i l [] (a ∷ []) refl (subst (Leads h.quiver v (arrows_of p)) (sym cut.2.1) cut.1) (cut.2.0, refl, refl) whole in
      record { place = found.0; below = found.1; is = found.2 }

  found_word : (v c : ℕ) (p : TypedPath (opposite (quiver_of h.quiver)) v c)
      → (i : ℕ) × (l : i < word_count h ok words w c v) × (typed_word h ok words w c v i l ≡ reverse p) → IsWord R v c p
  found_word v c p f = record { place = f.0; below = f.1; is = ap (λ (z : TypedPath (quiver_of h.quiver) c v). reverse z) f.2 ∙ reverse_reverse p }

  without_last_left : (v a i : ℕ) (l : i < word_count h ok words w (source h.quiver a) v) (p : TypedPath (opposite (quiver_of h.quiver)) v (target h.quiver a)) → reverse (typed_word h ok words w (source h.quiver a) v i l) ≡ then a p
      → IsWord R v (target h.quiver a) p
  without_last_left v a i l p e =
      let r : TypedPath (quiver_of h.quiver) (target h.quiver a) v = reverse p in
      let is : typed_word h ok words w (source h.quiver a) v i l ≡ path_after a r = sym (reverse_reverse (typed_word h ok words w (source h.quiver a) v i l)) ∙ ap (λ (z : TypedPath (opposite (quiver_of h.quiver)) v (source h.quiver a)). reverse z) e in
      let whole : (normal_word h ok words w (source h.quiver a) v i).arrows ≡ a ∷ arrows_of r = sym (word_arrows h ok words w (source h.quiver a) v i l) ∙ ap (λ (z : TypedPath (quiver_of h.quiver) (source h.quiver a) v). arrows_of z) is ∙ arrows_of-after a r in
      let leads : Leads h.quiver (source h.quiver a) (a ∷ arrows_of r) v = subst (λ xs. Leads h.quiver (source h.quiver a) xs v) whole (word_from_to h ok words w (source h.quiver a) v i l).leads in
      let found = part_is_word h ok words w r (source h.quiver a) v i l (a ∷ []) [] (leads.0, refl, refl) leads.2 refl (whole ∙ ap (λ xs. a ∷ xs) (sym (append-nil (arrows_of r)))) in
      found_word v (target h.quiver a) p found

  -- ---- the two sides
  pub right_basis : IsWordBasis (bound_algebra h) W
  right_basis = record {
    modules = right_module h ok words w;
    acts = λ X M v a i l. acts_behind h ok words w X M v a i l;
    place = λ v. zero;
    place_below = some_word h ok words w;
    place_trivial = place_trivial h ok words w;
    generates = generates;
    place_only = place_only h ok words w;
    without_last = without_last;
    not_trivial = not_trivial h ok words w;
  }

  pub left_basis : IsWordBasis (opposite_algebra (bound_algebra h)) R
  left_basis = record {
    modules = left_module_is h ok words w;
    acts = acts_reversed;
    place = λ v. zero;
    place_below = some_word h ok words w;
    place_trivial = λ v l. ap (λ (z : TypedPath (quiver_of h.quiver) v v). reverse z) (place_trivial h ok words w v l);
    generates = generates_left;
    place_only = λ v i l e. place_only h ok words w v i l (sym (reverse_reverse (typed_word h ok words w v v i l)) ∙ ap (λ (z : TypedPath (opposite (quiver_of h.quiver)) v v). reverse z) e);
    without_last = without_last_left;
    not_trivial = not_trivial_before h ok words w;
  }

  unfoldable pub two_sided : TwoSided h.field (bound_algebra h)
  two_sided = record {
    words = W;
    before = arrows_before h ok words w;
    none = none_start h ok words w;
    basis = right_basis;
    opposite_basis = left_basis;
  }

  pub two_sided-words : two_sided.words ≡ algebra_words h ok words w
  unfolding two_sided
  two_sided-words = refl

  pub two_sided-other : other two_sided ≡ opposite_words h ok words w
  unfolding two_sided
  two_sided-other = refl

  -- the trivial path is the first word
  pub place-first : (v : ℕ) → two_sided.basis.place v ≡ zero
  unfolding two_sided right_basis
  place-first v = refl

  pub opposite_place-first : (v : ℕ) → two_sided.opposite_basis.place v ≡ zero
  unfolding two_sided left_basis
  opposite_place-first v = refl
