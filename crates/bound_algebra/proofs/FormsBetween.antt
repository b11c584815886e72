-- The normal form of a path is a combination of the words with the ends of the path alone; so each row of a product matrix says which combination
-- of words the product is congruent to.
use Rattle.std.proofs.Common.{ℕ, ◌≡◌, ◌<◌, ◌⊎◌, inl, inr, false, List, ◌∷◌, map, refl, sym, ap, ◌∙◌, subst}
use Rattle.std.specs.Prelude.{Contains}
use Rattle.std.proofs.lemmas.Bool.{cases_Bool, and_parts, and_from, eqb-true, eq-eqb}
use Rattle.std.proofs.lemmas.List.{append-nil, get_or-map, length-map}
use Rattle.linear_algebra.specs.Field.{mul, order, sub}
use Rattle.linear_algebra.specs.FieldLaws.{mul_zero, mul_one}
use Rattle.linear_algebra.specs.Rows.{list_of}
use Rattle.linear_algebra.proofs.Rows.{list_of-is}
use Rattle.quiver_paths.specs.declared.Path.{Path}
use Rattle.quiver_paths.specs.Quiver.{source, target}
use Rattle.quiver_paths.specs.Path.{IsPath, concat, trivial_path, arrow_path}
use Rattle.quiver_paths.specs.PathOrder.{IsSmaller}
use Rattle.quiver_paths.proofs.ListLemmas.{Contains-filter, Contains-from_filter, AllPairs-sieve}
use Rattle.quiver_paths.proofs.PathLemmas.{IsPath-trivial, IsPath-arrow, IsPath-end, IsPath-concat}
use Rattle.path_algebra.specs.declared.Header.{Header}
use Rattle.path_algebra.specs.Allowed.{IsAllowed}
use Rattle.path_algebra.specs.Elements.{path_element, combination}
use Rattle.path_algebra.specs.Ideals.{Congruent}
use Rattle.path_algebra.specs.Rows.{path_at}
use Rattle.path_algebra.specs.Words.{AreNormalWords}
use Rattle.path_algebra.proofs.Acting.{sum_over-one, cases_listed}
use Rattle.path_algebra.proofs.Between.{composite, Path-eq}
use Rattle.path_algebra.proofs.Combinations.{AreDistinct, combination-map, combination-outside}
use Rattle.path_algebra.proofs.ElementLemmas.{path_element-self, path_element-other}
use Rattle.path_algebra.proofs.IdealLemmas.{IsInIdeal-same}
use Rattle.path_algebra.proofs.NormalForms.{normal_form, normal_form_is, normal_form_congruent, normal_form-word}
use Rattle.bound_algebra.specs.TypedPaths.{Runs}
use Rattle.bound_algebra.specs.WordLists.{is_between, words_between}
use Rattle.bound_algebra.specs.NormalWords.{word_count, normal_word}
use Rattle.bound_algebra.specs.AlgebraWords.{product_matrix, arrows_behind, arrows_before}
use Rattle.bound_algebra.proofs.Functionals.{value_of_form}
use Rattle.bound_algebra.proofs.Forms.{form_between, form_between-meeting, form_between-apart, kills}
use Rattle.bound_algebra.proofs.ProductMatrices.{vertex_start, vertex_end, word_path, word_from_to, product_matrix-at}
use Rattle.bound_algebra.proofs.WordBasis.{arrow_end, arrow_start}

module _ (h : Header) (ok : IsAllowed h) (words : List Path) (w : AreNormalWords h words) where
  abbrev form : Path → Path → ℕ
  form = normal_form h ok words w

  -- by the functional that has the coefficient at r on the paths with the ends of r
  module _ (r : Path) (m : Contains words r) where
    is_path : IsPath h.quiver r
    is_path = (w.only r m).short.path

    at_start : IsPath h.quiver (trivial_path r.start)
    at_start = IsPath-trivial h.quiver r.start is_path.starts

    at_end : IsPath h.quiver (trivial_path r.end)
    at_end = IsPath-trivial h.quiver r.end (IsPath-end h.quiver r ok.quiver.ends is_path)

    abbrev value : Path → ℕ
    value = form_between h ok words w (trivial_path r.start) (trivial_path r.end) at_start at_end r

    value-word : (x : Path) → Contains words x → x.start ≡ r.start → x.end ≡ r.end → value x ≡ path_element h.bound x r
    value-word x k s e =
        form_between-meeting h ok words w (trivial_path r.start) (trivial_path r.end) at_start at_end r x s e
        ∙ ap (λ p. form p r) (Path-eq (composite (trivial_path r.start) x (trivial_path r.end)) x (sym s) (sym e) (append-nil x.arrows))
        ∙ normal_form-word h ok words w x k r

    value-self : value r ≡ 1
    value-self = value-word r m refl refl ∙ path_element-self h.bound r (w.only r m).short.short

    value-other : (x : Path) → Contains words x → (x ≡ r → ⊥) → value x ≡ 0
    value-other x k d = elim (cases_Bool (is_between r.start r.end x)) [
      | inl e ↦ let i = and_parts _ _ e in value-word x k (eqb-true _ _ i.0) (eqb-true _ _ i.1) ∙ path_element-other h.bound x r d
      | inr e ↦ form_between-apart h ok words w (trivial_path r.start) (trivial_path r.end) at_start at_end r x e
    ]

    -- a word with other ends is not in a normal form
    pub form-apart : (p : Path) → IsPath h.quiver p → is_between r.start r.end p ≡ false → form p r ≡ 0
    form-apart p hp e =
        let one : mul h.field (form p r) (value r) ≡ form p r = ap (mul h.field (form p r)) value-self ∙ mul_one h.field (form p r) ((normal_form_is h ok words w p).small r) in
        sym one
        ∙ sym (sum_over-one h.field words (λ x. mul h.field (form p x) (value x)) r w.ascending m (subst (λ n. n < order h.field) (sym one) ((normal_form_is h ok words w p).small r))
        (λ x k d. ap (mul h.field (form p x)) (value-other x k d) ∙ mul_zero h.field (form p x)))
        ∙ sym (value_of_form h ok value (kills h ok words w (trivial_path r.start) (trivial_path r.end) at_start at_end r) words w p hp)
        ∙ form_between-apart h ok words w (trivial_path r.start) (trivial_path r.end) at_start at_end r p e

  distinct_between : (b c : ℕ) → AreDistinct h.bound (words_between words b c)
  distinct_between b c = record {
    ascending = AllPairs-sieve IsSmaller (is_between b c) words w.ascending;
    short = λ r m. (w.only r (Contains-from_filter (is_between b c) words r m).0).short.short;
  }

  form_combination : (b c : ℕ) (p : Path) → IsPath h.quiver p → p.start ≡ b → p.end ≡ c → (r : Path)
      → form p r ≡ combination h.field h.bound (map (form p) (words_between words b c)) (words_between words b c) r
  form_combination b c p hp s e r = elim (cases_listed (words_between words b c) r) [
    | inl m ↦ sym (combination-map h.field h.bound (form p) (words_between words b c) r (distinct_between b c) (normal_form_is h ok words w p).small m)
    | inr n ↦ outside n (cases_listed words r) ∙ sym (combination-outside h.field h.bound (map (form p) (words_between words b c)) (words_between words b c) r n)
  ]
    where
      outside : (Contains (words_between words b c) r → ⊥) → Contains words r ⊎ (Contains words r → ⊥) → form p r ≡ 0
      outside n (inr d) = (normal_form_is h ok words w p).outside r d
      outside n (inl m) = elim (cases_Bool (is_between r.start r.end p)) [
        | inr d ↦ form-apart r m p hp d
        | inl d ↦ let i = and_parts _ _ d in absurd (n (Contains-filter (is_between b c) words r m
            (and_from _ _ (eq-eqb r.start b (sym (eqb-true _ _ i.0) ∙ s)) (eq-eqb r.end c (sym (eqb-true _ _ i.1) ∙ e)))))
      ]

  product_row : (b c b' c' : ℕ) (u v : Path) (i : ℕ) → i < word_count h ok words w b c
      → map (form (composite u (normal_word h ok words w b c i) v)) (words_between words b' c')
      ≡ list_of (word_count h ok words w b' c') ((product_matrix h ok words w b c b' c' u v).at i)
  unfolding path_at
  product_row b c b' c' u v i l =
      let f = form (composite u (normal_word h ok words w b c i) v) in
      list_of-is (word_count h ok words w b' c') _ (map f (words_between words b' c')) 0 (length-map (words_between words b' c') f)
      (λ j k. get_or-map f (words_between words b' c') j (trivial_path 0) 0 k ∙ sym (product_matrix-at h ok words w b c b' c' u v i j l k))

  -- the i-th word between u and v is congruent to the combination that row i of the product matrix says
  product_congruent : (b c b' c' : ℕ) (u v : Path) → IsPath h.quiver u → IsPath h.quiver v → Runs h.quiver b' b u → Runs h.quiver c c' v → (i : ℕ) → i < word_count h ok words w b c
      → Congruent h (path_element h.bound (composite u (normal_word h ok words w b c i) v))
      (combination h.field h.bound (list_of (word_count h ok words w b' c') ((product_matrix h ok words w b c b' c' u v).at i)) (words_between words b' c'))
  product_congruent b c b' c' u v hu hv ru rv i l =
      let x = normal_word h ok words w b c i in
      let hx = word_path h ok words w b c i l in
      let rx = word_from_to h ok words w b c i l in
      let hp : IsPath h.quiver (composite u x v) = IsPath-concat h.quiver u (concat x v) hu (IsPath-concat h.quiver x v hx hv (rx.ends ∙ sym rv.starts)) (ru.ends ∙ sym rx.starts) in
      subst (λ cs. Congruent h (path_element h.bound (composite u x v)) (combination h.field h.bound cs (words_between words b' c'))) (product_row b c b' c' u v i l)
      (IsInIdeal-same h _ _ (λ r. ap (sub h.field (path_element h.bound (composite u x v) r)) (sym (form_combination b' c' (composite u x v) hp ru.starts rv.ends r)))
      (normal_form_congruent h ok words w (composite u x v) hp))

  -- a word and then an arrow, and an arrow and then a word
  pub behind_congruent : (v a i : ℕ) → i < word_count h ok words w v (source h.quiver a)
      → Congruent h (path_element h.bound (concat (normal_word h ok words w v (source h.quiver a) i) (arrow_path h.quiver a)))
      (combination h.field h.bound (list_of (word_count h ok words w v (target h.quiver a)) ((arrows_behind h ok words w v a).at i)) (words_between words v (target h.quiver a)))
  behind_congruent v a i l =
      let x = normal_word h ok words w v (source h.quiver a) i in
      let arrow = IsPath-arrow h.quiver a ok.quiver.ends (arrow_end h ok words w v a i l) in
      subst (λ p. Congruent h (path_element h.bound p)
      (combination h.field h.bound (list_of (word_count h ok words w v (target h.quiver a)) ((arrows_behind h ok words w v a).at i)) (words_between words v (target h.quiver a))))
      (Path-eq (composite (trivial_path v) x (arrow_path h.quiver a)) (concat x (arrow_path h.quiver a)) (sym (word_from_to h ok words w v (source h.quiver a) i l).starts) refl refl)
      (product_congruent v (source h.quiver a) v (target h.quiver a) (trivial_path v) (arrow_path h.quiver a) (IsPath-trivial h.quiver v (vertex_start h ok words w v (source h.quiver a) i l)) arrow
      (record { starts = refl; ends = refl; leads = refl }) (record { starts = refl; ends = refl; leads = arrow.leads }) i l)

  pub before_congruent : (v a i : ℕ) → i < word_count h ok words w (target h.quiver a) v
      → Congruent h (path_element h.bound (concat (arrow_path h.quiver a) (normal_word h ok words w (target h.quiver a) v i)))
      (combination h.field h.bound (list_of (word_count h ok words w (source h.quiver a) v) ((arrows_before h ok words w v a).at i)) (words_between words (source h.quiver a) v))
  before_congruent v a i l =
      let x = normal_word h ok words w (target h.quiver a) v i in
      let arrow = IsPath-arrow h.quiver a ok.quiver.ends (arrow_start h ok words w v a i l) in
      subst (λ p. Congruent h (path_element h.bound p)
      (combination h.field h.bound (list_of (word_count h ok words w (source h.quiver a) v) ((arrows_before h ok words w v a).at i)) (words_between words (source h.quiver a) v)))
      (Path-eq (composite (arrow_path h.quiver a) x (trivial_path v)) (concat (arrow_path h.quiver a) x) refl (sym (word_from_to h ok words w (target h.quiver a) v i l).ends)
      (ap (λ xs. a ∷ xs) (append-nil x.arrows)))
      (product_congruent (target h.quiver a) v (source h.quiver a) v (arrow_path h.quiver a) (trivial_path v) arrow (IsPath-trivial h.quiver v (vertex_end h ok words w (target h.quiver a) v i l))
      (record { starts = refl; ends = refl; leads = arrow.leads }) (record { starts = refl; ends = refl; leads = refl }) i l)
