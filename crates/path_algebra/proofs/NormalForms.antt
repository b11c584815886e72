-- The normal form of a path: the combination of normal words that it is congruent to.
use Rattle.std.proofs.Common.{ℕ, ◌≡◌, ◌≤◌, ◌⊎◌, inl, inr, List, [], map, refl, sym, ap, ap₂, ◌∙◌, subst}
use Rattle.std.specs.Prelude.{Contains}
use Rattle.std.proofs.lemmas.Bool.{cases_lt}
use Rattle.linear_algebra.specs.Field.{sub}
use Rattle.linear_algebra.specs.FieldLaws.{order-pos, sub_zero, sub_below, sub_self, sub_eq_zero}
use Rattle.quiver_paths.specs.declared.Path.{Path}
use Rattle.quiver_paths.specs.Path.{IsPath, path_length}
use Rattle.quiver_paths.specs.PathList.{ListsPathsBelow, paths_below}
use Rattle.quiver_paths.proofs.PathListLemmas.{lists_paths_below}
use Rattle.path_algebra.specs.declared.Header.{Header}
use Rattle.path_algebra.specs.Elements.{path_element, combination}
use Rattle.path_algebra.specs.Ideals.{IsInIdeal}
use Rattle.path_algebra.specs.Words.{IsShortPath, AreNormalWords, IsBasis}
use Rattle.path_algebra.specs.Allowed.{IsAllowed}
use Rattle.path_algebra.proofs.ElementLemmas.{path_element-below, path_element-other, path_element-long, combination-below}
use Rattle.path_algebra.proofs.Combinations.{IsCombination, AreDistinct, combination-outside, combination-map}
use Rattle.path_algebra.proofs.IdealLemmas.{IsInIdeal-same, IsInIdeal-zero, IsInIdeal-sub}
use Rattle.path_algebra.proofs.Quotient.{sub-sub_sub, same_combination}
use Rattle.path_algebra.proofs.AllRows.{IdealRows, ideal_rows, normal_words_are_basis}
use Rattle.path_algebra.proofs.Acting.{cases_listed}

module _ (h : Header) (ok : IsAllowed h) (words : List Path) (w : AreNormalWords h words) where
  distinct : AreDistinct h.bound words
  distinct = record { ascending = w.ascending; short = λ p m. (w.only p m).short.short }

  found : IdealRows h (paths_below h.quiver h.bound)
  found = ideal_rows h (paths_below h.quiver h.bound) ok (lists_paths_below h.quiver ok.quiver.ends h.bound)

  -- a member of the ideal that is a combination of normal words is zero
  pub zero_of_normal : (x : Path → ℕ) → IsInIdeal h x → IsCombination h words x → (p : Path) → x p ≡ 0
  unfolding combination
  zero_of_normal x m c p = elim (cases_listed words p) [
    | inr n ↦ c.outside p n
    | inl n ↦ sym (combination-map h.field h.bound x words p distinct c.small n)
        ∙ same_combination h _ found.rows found.are words w (map x words) [] (IsInIdeal-same h x _ same m) p n ∙ nothing p
  ]
    where
      nothing : (r : Path) → combination h.field h.bound [] words r ≡ 0
      nothing r = refl

      same : (r : Path) → sub h.field (combination h.field h.bound (map x words) words r) (combination h.field h.bound [] words r) ≡ x r
      same r = ap (sub h.field (combination h.field h.bound (map x words) words r)) (nothing r)
          ∙ sub_zero h.field _ (combination-below h.field h.bound (map x words) words r)
          ∙ elim (cases_listed words r) [
            | inl l ↦ combination-map h.field h.bound x words r distinct c.small l
            | inr l ↦ combination-outside h.field h.bound (map x words) words r l ∙ sym (c.outside r l)
          ]

  -- two congruent combinations of normal words are equal
  pub same_of_normal : (x y : Path → ℕ) → IsInIdeal h (λ r. sub h.field (x r) (y r)) → IsCombination h words x → IsCombination h words y → (p : Path) → x p ≡ y p
  same_of_normal x y m a b p = sub_eq_zero h.field (x p) (y p) (a.small p) (b.small p) (zero_of_normal (λ r. sub h.field (x r) (y r)) m (record {
    small = λ r. sub_below h.field (x r) (y r);
    outside = λ r n. ap₂ (sub h.field) (a.outside r n) (b.outside r n) ∙ sub_self h.field 0;
  }) p)

  lists : ListsPathsBelow h.quiver h.bound (paths_below h.quiver h.bound)
  lists = lists_paths_below h.quiver ok.quiver.ends h.bound

  short_of : (p : Path) → Contains (paths_below h.quiver h.bound) p → IsShortPath h p
  short_of p m = let is = lists.only p m in record { path = is.0; short = is.1 }

  basis : IsBasis h words
  basis = normal_words_are_basis h ok words w

  form_by : (p : Path) → Contains (paths_below h.quiver h.bound) p ⊎ (Contains (paths_below h.quiver h.bound) p → ⊥) → Path → ℕ
  form_by p (inl m) r = combination h.field h.bound (basis.expands p (short_of p m)).expansion words r
  form_by p (inr n) r = 0

  -- the normal form of a path; that of a path of the bound's length or more is zero
  pub normal_form : Path → Path → ℕ
  normal_form p = form_by p (cases_listed (paths_below h.quiver h.bound) p)

  form_is : (p : Path) (c : Contains (paths_below h.quiver h.bound) p ⊎ (Contains (paths_below h.quiver h.bound) p → ⊥)) → IsCombination h words (form_by p c)
  unfolding form_by
  form_is p (inl m) = record {
    small = combination-below h.field h.bound (basis.expands p (short_of p m)).expansion words;
    outside = combination-outside h.field h.bound (basis.expands p (short_of p m)).expansion words;
  }
  form_is p (inr n) = record { small = λ r. order-pos h.field; outside = λ r m. refl }

  pub normal_form_is : (p : Path) → IsCombination h words (normal_form p)
  unfolding normal_form
  normal_form_is p = form_is p (cases_listed (paths_below h.quiver h.bound) p)

  form_congruent : (p : Path) → IsPath h.quiver p → (c : Contains (paths_below h.quiver h.bound) p ⊎ (Contains (paths_below h.quiver h.bound) p → ⊥))
      → IsInIdeal h (λ r. sub h.field (path_element h.bound p r) (form_by p c r))
  unfolding form_by
  form_congruent p hp (inl m) = (basis.expands p (short_of p m)).expands.congruent
  form_congruent p hp (inr n) = IsInIdeal-same h (λ _. 0) _ (λ r. ap (λ z. sub h.field z 0) (path_element-long h.bound p r (long_of n)) ∙ sub_self h.field 0) (IsInIdeal-zero h)
    where
      long_of : (Contains (paths_below h.quiver h.bound) p → ⊥) → h.bound ≤ path_length p
      long_of n = elim (cases_lt (path_length p) h.bound) [ inl l ↦ absurd (n (lists.all p hp l)) | inr l ↦ l ]

  pub normal_form_congruent : (p : Path) → IsPath h.quiver p → IsInIdeal h (λ r. sub h.field (path_element h.bound p r) (normal_form p r))
  unfolding normal_form
  normal_form_congruent p hp = form_congruent p hp (cases_listed (paths_below h.quiver h.bound) p)

  -- a combination of normal words that the path is congruent to is its normal form
  pub normal_form_unique : (p : Path) → IsPath h.quiver p → (x : Path → ℕ) → IsCombination h words x → IsInIdeal h (λ r. sub h.field (path_element h.bound p r) (x r))
      → (r : Path) → normal_form p r ≡ x r
  normal_form_unique p hp x c m r = same_of_normal (normal_form p) x
      (IsInIdeal-same h _ _ (λ s. sym (sub-sub_sub h.field (path_element h.bound p s) (normal_form p s) (x s))) (IsInIdeal-sub h _ _ m (normal_form_congruent p hp)))
      (normal_form_is p) c r

  pub normal_form-long : (p : Path) → IsPath h.quiver p → h.bound ≤ path_length p → (r : Path) → normal_form p r ≡ 0
  normal_form-long p hp l r = normal_form_unique p hp (λ _. 0) (record { small = λ s. order-pos h.field; outside = λ s n. refl })
      (IsInIdeal-same h (λ _. 0) _ (λ s. ap (λ z. sub h.field z 0) (path_element-long h.bound p s l) ∙ sub_self h.field 0) (IsInIdeal-zero h)) r

  pub normal_form-word : (p : Path) → Contains words p → (r : Path) → normal_form p r ≡ path_element h.bound p r
  normal_form-word p m r = normal_form_unique p (w.only p m).short.path (path_element h.bound p)
      (record { small = path_element-below h.field h.bound p; outside = λ s n. path_element-other h.bound p s (λ e. n (subst (Contains words) e m)) })
      (IsInIdeal-same h (λ _. 0) _ (λ s. sub_self h.field (path_element h.bound p s)) (IsInIdeal-zero h)) r
