-- The normal words are a basis of the algebra of the header, on both sides.
use Rattle.std.proofs.Common.{ℕ, zero, ◌≡◌, ◌<◌, inl, inr, List, [], ◌∷◌, ◌++◌, refl, sym, ap, ◌∙◌, subst, arith}
use Rattle.std.specs.Prelude.{Contains}
use Rattle.std.proofs.lemmas.Bool.{cases_lt, and_from, eq-eqb}
use Rattle.std.proofs.lemmas.List.{append-nil, nil_from_length, length_push}
use Rattle.std.proofs.lemmas.List.Elements.{at_from_Contains}
use Rattle.linear_algebra.specs.Matrix.{◌·◌}
use Rattle.linear_algebra.specs.Families.{combine}
use Rattle.linear_algebra.proofs.Families.{combine-same}
use Rattle.quiver_paths.specs.declared.Path.{Path}
use Rattle.quiver_paths.specs.Quiver.{vertex_count, arrow_count, source, target}
use Rattle.quiver_paths.specs.Path.{IsPath, Leads, trivial_path, arrow_path}
use Rattle.quiver_paths.specs.PathOrder.{IsSmaller, IsAscending}
use Rattle.quiver_paths.proofs.ListLemmas.{Contains-nil, Contains-cons_cases, Contains-filter, Contains-from_filter, Contains-head, AllPairs-head}
use Rattle.quiver_paths.proofs.PathLemmas.{IsPath-trivial, IsPath-arrow, IsPath-concat, IsPath-end}
use Rattle.quiver_paths.proofs.PathOrderLemmas.{length_of_smaller}
use Rattle.path_algebra.specs.declared.Header.{Header}
use Rattle.path_algebra.specs.Allowed.{IsAllowed}
use Rattle.path_algebra.specs.Rows.{path_at}
use Rattle.path_algebra.specs.Words.{IsNormal, AreNormalWords}
use Rattle.path_algebra.proofs.Between.{composite, Path-eq}
use Rattle.path_algebra.proofs.IdealActs.{IsInIdeal-long}
use Rattle.path_algebra.proofs.NormalFactors.{factor_normal}
use Rattle.path_algebra.proofs.NormalForms.{normal_form}
use Rattle.path_algebra.proofs.ListedPaths.{word_listed, word_once}
use Rattle.representations.specs.Quiver.{Path as TypedPath, trivial, then, path_after}
use Rattle.representations.specs.Rep.{Rep, along, IsMod}
use Rattle.representations.proofs.Paths.{along-then, along_after}
use Rattle.projectives.specs.Words.{along_word}
use Rattle.bound_algebra.specs.TypedPaths.{quiver_of, source_past, target_past, arrows_of, Runs, listed}
use Rattle.bound_algebra.specs.BoundAlgebra.{bound_algebra}
use Rattle.bound_algebra.specs.WordLists.{is_between, words_between}
use Rattle.bound_algebra.specs.NormalWords.{word_count, normal_word, typed_word, word_runs, none_start, none_end}
use Rattle.bound_algebra.specs.AlgebraWords.{product_matrix, algebra_words}
use Rattle.bound_algebra.proofs.TypedPaths.{arrows_of-path_of, arrows_of-after, same_arrows}
use Rattle.bound_algebra.proofs.Forms.{form-trivial}
use Rattle.bound_algebra.proofs.PathMatrices.{path_matrix-typed}
use Rattle.bound_algebra.proofs.ProductMatrices.{vertex_start, word_path, word_from_to, ascending_between, product_matrix-at}
use Rattle.bound_algebra.proofs.WordModules.{along_word-is, acts_as_form}

module _ (h : Header) (ok : IsAllowed h) (words : List Path) (w : AreNormalWords h words) where
  -- ---- places of words

  -- the trivial path at a vertex is a word, and the first of those from there to there
  trivial_listed : (v : ℕ) → v < vertex_count h.quiver → Contains (words_between words v v) (trivial_path v)
  trivial_listed v l = Contains-filter (is_between v v) words (trivial_path v) (w.all (trivial_path v) (record {
    short = record { path = IsPath-trivial h.quiver v l; short = omega (arith, ok.bound_from) };
    no_tip = λ t. absurd (let two = IsInIdeal-long h ok t.element t.in_ideal (trivial_path v) t.greatest.nonzero in omega (arith, two));
  })) (and_from _ _ (eq-eqb v v refl) (eq-eqb v v refl))

  first_is : (v : ℕ) (ps : List Path) → Contains ps (trivial_path v) → IsAscending ps → ((p : Path) → Contains ps p → Runs h.quiver v v p) → path_at ps zero ≡ trivial_path v
  unfolding path_at
  first_is v [] c a runs = absurd (Contains-nil (trivial_path v) c)
  first_is v (p ∷ ps) c a runs = elim (Contains-cons_cases p ps (trivial_path v) c) [
    | inl e ↦ e
    | inr m ↦
        let less = AllPairs-head IsSmaller p ps a (trivial_path v) m in
        let short = length_of_smaller p (trivial_path v) less in
        let r = runs p (Contains-head p ps) in
        Path-eq p (trivial_path v) r.starts r.ends (nil_from_length p.arrows (omega (arith, short)))
  ]

  pub first_word : (v : ℕ) → v < vertex_count h.quiver → normal_word h ok words w v v zero ≡ trivial_path v
  first_word v l = first_is v (words_between words v v) (trivial_listed v l) (ascending_between h ok words w v v) (word_runs h ok words w v v)

  pub some_word : (v : ℕ) → v < vertex_count h.quiver → 0 < word_count h ok words w v v
  some_word v l = let at = at_from_Contains (words_between words v v) (trivial_path v) (trivial_listed v l) in omega (arith, at.1)

  pub word_arrows : (b c i : ℕ) (l : i < word_count h ok words w b c) → arrows_of (typed_word h ok words w b c i l) ≡ (normal_word h ok words w b c i).arrows
  word_arrows b c i l = arrows_of-path_of h.quiver b (normal_word h ok words w b c i).arrows c _

  pub place_trivial : (v : ℕ) (l : 0 < word_count h ok words w v v) → typed_word h ok words w v v zero l ≡ trivial
  place_trivial v l = same_arrows (typed_word h ok words w v v zero l) trivial (word_arrows v v zero l ∙ ap (λ (p : Path). p.arrows) (first_word v (vertex_start h ok words w v v zero l)))

  pub place_only : (v i : ℕ) (l : i < word_count h ok words w v v) → typed_word h ok words w v v i l ≡ trivial → i ≡ zero
  place_only v i l e =
      let v_in = vertex_start h ok words w v v i l in
      let r = word_from_to h ok words w v v i l in
      let same : normal_word h ok words w v v i ≡ trivial_path v = Path-eq _ (trivial_path v) r.starts r.ends (sym (word_arrows v v i l) ∙ ap (λ (p : TypedPath (quiver_of h.quiver) v v). arrows_of p) e) in
      word_once (words_between words v v) (ascending_between h ok words w v v) i zero l (some_word v v_in) (same ∙ sym (first_word v v_in))

  -- a path whose record is normal is a word
  place_of : (b c : ℕ) (p : Path) → Contains (words_between words b c) p → (i : ℕ) × (i < word_count h ok words w b c) × (normal_word h ok words w b c i ≡ p)
  unfolding path_at
  place_of b c p m = let at = at_from_Contains (words_between words b c) p m in (at.0, at.1, at.2 (trivial_path zero))

  normal_is_word : {b c : ℕ} (p : TypedPath (quiver_of h.quiver) b c) → IsNormal h (listed p) → (i : ℕ) × (l : i < word_count h ok words w b c) × (typed_word h ok words w b c i l ≡ p)
  normal_is_word {b} {c} p n =
      let at = place_of b c (listed p) (Contains-filter (is_between b c) words (listed p) (w.all (listed p) n) (and_from _ _ (eq-eqb b b refl) (eq-eqb c c refl))) in
      (at.0, at.1, same_arrows (typed_word h ok words w b c at.0 at.1) p (word_arrows b c at.0 at.1 ∙ ap (λ (r : Path). r.arrows) at.2))

  word_normal : (b c i : ℕ) → i < word_count h ok words w b c → IsNormal h (normal_word h ok words w b c i)
  word_normal b c i l = w.only (normal_word h ok words w b c i) (Contains-from_filter (is_between b c) words (normal_word h ok words w b c i) (word_listed (words_between words b c) i l)).0

  -- a factor of a word is a word
  pub part_is_word : {b c : ℕ} (p : TypedPath (quiver_of h.quiver) b c) (d e i : ℕ) → i < word_count h ok words w d e → (us vs : List ℕ) → Leads h.quiver d us b → Leads h.quiver b (arrows_of p) c → Leads h.quiver c vs e
      → (normal_word h ok words w d e i).arrows ≡ us ++ (arrows_of p ++ vs) → (i : ℕ) × (k : i < word_count h ok words w b c) × (typed_word h ok words w b c i k ≡ p)
  part_is_word {b} {c} p d e i l us vs lu lp lv whole =
      let r = word_from_to h ok words w d e i l in
      let d_in = vertex_start h ok words w d e i l in
      let hu : IsPath h.quiver (record { start = d; end = b; arrows = us }) = record { starts = d_in; leads = lu } in
      let b_in = IsPath-end h.quiver (record { start = d; end = b; arrows = us }) ok.quiver.ends hu in
      let hp : IsPath h.quiver (listed p) = record { starts = b_in; leads = lp } in
      let c_in = IsPath-end h.quiver (listed p) ok.quiver.ends hp in
      normal_is_word p (factor_normal h ok.quiver.ends (listed p) (normal_word h ok words w d e i) (word_normal d e i l) (record {
        before = record { start = d; end = b; arrows = us };
        behind = record { start = c; end = e; arrows = vs };
        before_is = hu;
        behind_is = record { starts = c_in; leads = lv };
        meets_before = refl;
        meets_behind = refl;
        whole = Path-eq _ _ r.starts r.ends whole;
      }))

  -- ---- products with arrows

  pub arrow_end : (b a i : ℕ) → i < word_count h ok words w b (source h.quiver a) → a < arrow_count h.quiver
  arrow_end b a i l = elim (cases_lt a (arrow_count h.quiver)) [
    | inl k ↦ k
    | inr k ↦ absurd (let z = none_end h ok words w b (source h.quiver a) (source_past h.quiver a k) in omega (arith, z, l))
  ]

  pub arrow_start : (c a i : ℕ) → i < word_count h ok words w (target h.quiver a) c → a < arrow_count h.quiver
  arrow_start c a i l = elim (cases_lt a (arrow_count h.quiver)) [
    | inl k ↦ k
    | inr k ↦ absurd (let z = none_start h ok words w (target h.quiver a) c (target_past h.quiver a k) in omega (arith, z, l))
  ]

  behind : (b a i : ℕ) → Path
  behind b a i = composite (trivial_path b) (normal_word h ok words w b (source h.quiver a) i) (arrow_path h.quiver a)

  before : (c a i : ℕ) → Path
  before c a i = composite (arrow_path h.quiver a) (normal_word h ok words w (target h.quiver a) c i) (trivial_path c)

  behind_is : (b a i : ℕ) → i < word_count h ok words w b (source h.quiver a) → IsPath h.quiver (behind b a i)
  unfolding behind
  behind_is b a i l =
      let r = word_from_to h ok words w b (source h.quiver a) i l in
      IsPath-concat h.quiver (trivial_path b) _ (IsPath-trivial h.quiver b (vertex_start h ok words w b (source h.quiver a) i l))
      (IsPath-concat h.quiver (normal_word h ok words w b (source h.quiver a) i) (arrow_path h.quiver a) (word_path h ok words w b (source h.quiver a) i l) (IsPath-arrow h.quiver a ok.quiver.ends (arrow_end b a i l)) r.ends)
      (sym r.starts)

  before_is : (c a i : ℕ) → i < word_count h ok words w (target h.quiver a) c → IsPath h.quiver (before c a i)
  unfolding before
  before_is c a i l =
      let r = word_from_to h ok words w (target h.quiver a) c i l in
      let hw = word_path h ok words w (target h.quiver a) c i l in
      IsPath-concat h.quiver (arrow_path h.quiver a) _ (IsPath-arrow h.quiver a ok.quiver.ends (arrow_start c a i l))
      (IsPath-concat h.quiver (normal_word h ok words w (target h.quiver a) c i) (trivial_path c) hw
      (IsPath-trivial h.quiver c (subst (λ z. z < vertex_count h.quiver) r.ends (IsPath-end h.quiver (normal_word h ok words w (target h.quiver a) c i) ok.quiver.ends hw))) r.ends)
      (sym r.starts)

  pub not_trivial : (v a i : ℕ) → target h.quiver a ≡ v → (product_matrix h ok words w v (source h.quiver a) v (target h.quiver a) (trivial_path v) (arrow_path h.quiver a)).at i zero ≡ zero
  unfolding behind
  not_trivial v a i e = elim (cases_lt i (word_count h ok words w v (source h.quiver a))) [
    | inr past ↦ (product_matrix h ok words w v (source h.quiver a) v (target h.quiver a) (trivial_path v) (arrow_path h.quiver a)).fits.below i zero past
    | inl l ↦
        let v_in = vertex_start h ok words w v (source h.quiver a) i l in
        let some : 0 < word_count h ok words w v (target h.quiver a) = subst (λ z. 0 < word_count h ok words w v z) (sym e) (some_word v v_in) in
        product_matrix-at h ok words w v (source h.quiver a) v (target h.quiver a) (trivial_path v) (arrow_path h.quiver a) i zero l some
        ∙ ap (λ z. normal_form h ok words w (behind v a i) (normal_word h ok words w v z zero)) e
        ∙ ap (normal_form h ok words w (behind v a i)) (first_word v v_in)
        ∙ form-trivial h ok words w (behind v a i) (behind_is v a i l) (omega (arith, length_push (normal_word h ok words w v (source h.quiver a) i).arrows a)) v
  ]

  pub not_trivial_before : (v a i : ℕ) → source h.quiver a ≡ v → (product_matrix h ok words w (target h.quiver a) v (source h.quiver a) v (arrow_path h.quiver a) (trivial_path v)).at i zero ≡ zero
  unfolding before
  not_trivial_before v a i e = elim (cases_lt i (word_count h ok words w (target h.quiver a) v)) [
    | inr past ↦ (product_matrix h ok words w (target h.quiver a) v (source h.quiver a) v (arrow_path h.quiver a) (trivial_path v)).fits.below i zero past
    | inl l ↦
        let r = word_from_to h ok words w (target h.quiver a) v i l in
        let v_in = subst (λ z. z < vertex_count h.quiver) r.ends (IsPath-end h.quiver (normal_word h ok words w (target h.quiver a) v i) ok.quiver.ends (word_path h ok words w (target h.quiver a) v i l)) in
        let some : 0 < word_count h ok words w (source h.quiver a) v = subst (λ z. 0 < word_count h ok words w z v) (sym e) (some_word v v_in) in
        product_matrix-at h ok words w (target h.quiver a) v (source h.quiver a) v (arrow_path h.quiver a) (trivial_path v) i zero l some
        ∙ ap (λ z. normal_form h ok words w (before v a i) (normal_word h ok words w z v zero)) e
        ∙ ap (normal_form h ok words w (before v a i)) (first_word v v_in)
        ∙ form-trivial h ok words w (before v a i) (before_is v a i l) (omega arith) v
  ]

  -- on a module, a word and then an arrow, and an arrow and then a word
  module _ (X : Rep h.field (quiver_of h.quiver)) (M : IsMod (bound_algebra h) X) where
    pub word_acts : (b c i : ℕ) (l : i < word_count h ok words w b c) → along_word (algebra_words h ok words w) X b c i ≡ along X (typed_word h ok words w b c i l)
    word_acts b c i l = along_word-is h ok words w X M b c i l
        ∙ path_matrix-typed h.quiver X (typed_word h ok words w b c i l) (normal_word h ok words w b c i) (word_from_to h ok words w b c i l) (word_arrows b c i l)

    pub acts_behind : (v a i : ℕ) → i < word_count h ok words w v (source h.quiver a)
        → along_word (algebra_words h ok words w) X v (source h.quiver a) i · X.mat a
        ≡ combine (word_count h ok words w v (target h.quiver a)) ((product_matrix h ok words w v (source h.quiver a) v (target h.quiver a) (trivial_path v) (arrow_path h.quiver a)).at i)
        (along_word (algebra_words h ok words w) X v (target h.quiver a))
    unfolding behind
    acts_behind v a i l =
        let p = typed_word h ok words w v (source h.quiver a) i l in
        let hp = behind_is v a i l in
        ap (λ m. m · X.mat a) (word_acts v (source h.quiver a) i l)
        ∙ sym (along-then X a p)
        ∙ sym (path_matrix-typed h.quiver X (then a p) (behind v a i) (record { starts = refl; ends = refl; leads = hp.leads }) (ap (λ xs. xs ++ a ∷ []) (word_arrows v (source h.quiver a) i l)))
        ∙ acts_as_form h ok words w X M v (target h.quiver a) (behind v a i) hp
        ∙ combine-same (word_count h ok words w v (target h.quiver a)) _ _ _ (λ j k. sym (product_matrix-at h ok words w v (source h.quiver a) v (target h.quiver a) (trivial_path v) (arrow_path h.quiver a) i j l k))

    pub acts_before : (v a i : ℕ) → i < word_count h ok words w (target h.quiver a) v
        → X.mat a · along_word (algebra_words h ok words w) X (target h.quiver a) v i
        ≡ combine (word_count h ok words w (source h.quiver a) v) ((product_matrix h ok words w (target h.quiver a) v (source h.quiver a) v (arrow_path h.quiver a) (trivial_path v)).at i)
        (along_word (algebra_words h ok words w) X (source h.quiver a) v)
    unfolding before
    acts_before v a i l =
        let p = typed_word h ok words w (target h.quiver a) v i l in
        let hp = before_is v a i l in
        ap (λ m. X.mat a · m) (word_acts (target h.quiver a) v i l)
        ∙ sym (along_after X a p)
        ∙ sym (path_matrix-typed h.quiver X (path_after a p) (before v a i) (record { starts = refl; ends = refl; leads = hp.leads })
        (arrows_of-after a p ∙ ap (λ xs. a ∷ xs) (word_arrows (target h.quiver a) v i l ∙ sym (append-nil (normal_word h ok words w (target h.quiver a) v i).arrows))))
        ∙ acts_as_form h ok words w X M (source h.quiver a) v (before v a i) hp
        ∙ combine-same (word_count h ok words w (source h.quiver a) v) _ _ _ (λ j k. sym (product_matrix-at h ok words w (target h.quiver a) v (source h.quiver a) v (arrow_path h.quiver a) (trivial_path v) i j l k))
