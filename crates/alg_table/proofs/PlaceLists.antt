-- The places of the words between two vertices, word by word, and the lists of these, pair by pair.
use Rattle.std.proofs.Common.{ℕ, ◌≡◌, ◌≢◌, ◌<◌, ◌≤◌, ◌+◌, ◌*◌, ◌-◌, inl, inr, List, [], ◌∷◌, ◌++◌, length, get_or, refl, sym, ap, ◌∙◌, subst, arith, length-append}
use Rattle.std.specs.Prelude.{Contains}
use Rattle.std.proofs.lemmas.Bool.{cases_lt}
use Rattle.std.proofs.lemmas.List.{get_or_append_left, get_or-append_right}
use Rattle.std.proofs.lemmas.List.Quantifiers.{all_pairs_push}
use Rattle.std.proofs.lemmas.List.Elements.{Contains-append_left, Contains-push, Contains-push_cases, Contains-get_or}
use Rattle.quiver_paths.specs.declared.Path.{Path}
use Rattle.path_algebra.specs.Rows.{path_at}
use Rattle.alg_table.specs.WordPlaces.{LeadsBetween, ArePlacesAmong, ArePlacesBetween, ArePlaceLists}
use Rattle.word_products.proofs.WordRows.{index_once}

module _ (words : List Path) (v w : ℕ) where
  pub places-none : ArePlacesAmong words v w 0 []
  places-none = record {
    ascending = λ j k d l m. absurd (omega arith);
    all = λ k l b. absurd (omega arith);
    only = λ k c. absurd (let l = c.1 in omega arith);
  }

  pub places-skip : (n : ℕ) (places : List ℕ) → (LeadsBetween words v w n → ⊥) → ArePlacesAmong words v w n places → ArePlacesAmong words v w (n + 1) places
  places-skip n places apart a = record {
    ascending = a.ascending;
    all = λ k l b. elim (cases_lt k n) [
      | inl m ↦ a.all k m b
      | inr m ↦ absurd (let same : k ≡ n = omega arith in apart (subst (LeadsBetween words v w) same b))
    ];
    only = λ k c. let o = a.only k c in ((let l = o.0 in omega arith), o.1);
  }

  pub places-push : (n : ℕ) (places : List ℕ) → LeadsBetween words v w n → ArePlacesAmong words v w n places → ArePlacesAmong words v w (n + 1) (places ++ n ∷ [])
  places-push n places b a = record {
    ascending = all_pairs_push (λ j k. j < k) places n a.ascending (λ j d l. (a.only (get_or places j d) (Contains-get_or places j d l)).0);
    all = λ k l between. elim (cases_lt k n) [
      | inl m ↦ Contains-append_left places (n ∷ []) k (a.all k m between)
      | inr m ↦ (let same : n ≡ k = omega arith in subst (Contains (places ++ n ∷ [])) same (Contains-push places n))
    ];
    only = λ k c. elim (Contains-push_cases places n k c) [
      | inl m ↦ (let o = a.only k m in ((let l = o.0 in omega arith), o.1))
      | inr e ↦ (omega (arith, e), subst (LeadsBetween words v w) e b)
    ];
  }

module _ (words : List Path) (n : ℕ) where
  pub lists-none : ArePlaceLists words n []
  lists-none = record { between = λ v w l m. absurd (omega arith) }

  pub lists-push : (lists : List (List ℕ)) (v w : ℕ) (places : List ℕ) → w < n → length lists ≡ v * n + w → ArePlacesBetween words v w places → ArePlaceLists words n lists
      → ArePlaceLists words n (lists ++ places ∷ [])
  lists-push lists v w places lw count p a = record {
    between = λ x y ly l. elim (cases_lt (x * n + y) (length lists)) [
      | inl m ↦ subst (ArePlacesBetween words x y) (sym (get_or_append_left lists (places ∷ []) [] (x * n + y) m)) (a.between x y ly m)
      | inr m ↦
          let same : x * n + y ≡ length lists = omega (arith, l, m, length-append lists (places ∷ [])) in
          let parts = index_once n v x w y lw ly (sym count ∙ sym same) in
          let read : get_or (lists ++ places ∷ []) (x * n + y) [] ≡ places = last_at lists places (x * n + y) same in
          subst (λ s. ArePlacesBetween words s y (get_or (lists ++ places ∷ []) (x * n + y) [])) parts.0
          (subst (λ t. ArePlacesBetween words v t (get_or (lists ++ places ∷ []) (x * n + y) [])) parts.1
          (subst (ArePlacesBetween words v w) (sym read) p))
    ];
  }
    where
      last_at : (rows : List (List ℕ)) (e : List ℕ) (k : ℕ) → k ≡ length rows → get_or (rows ++ e ∷ []) k [] ≡ e
      last_at rows e k i = get_or-append_right rows (e ∷ []) (length rows) k [] refl (omega (arith, i)) ∙ ap (λ x. get_or (e ∷ []) x []) nothing
        where
          nothing : ◌≡◌ {A = ℕ} (k - length rows) 0
          nothing = omega (arith, i)
