-- Where each relation and each path of the bound's length acts as zero, the ideal does, and so a member of it that is a combination of words is zero.
use Rattle.std.proofs.Common.{ℕ, ◌≡◌, ◌≢◌, ◌<◌, ◌≤◌, ◌⊎◌, inl, inr, List, [], ◌∷◌, ◌++◌, refl, sym, ap, ap₂, ◌∙◌, subst, arith}
use Rattle.std.specs.Prelude.{Contains, All, AllPairs}
use mathlib.Core.Path.{fun_ext}
use Rattle.std.proofs.lemmas.Bool.{cases_lt, cases_eq, cond-true, cond-false, lt-ltb, le-ltb}
use Rattle.std.proofs.lemmas.List.Elements.{All-contains, All-head, All-tail}
use Rattle.linear_algebra.specs.Field.{order, add, mul}
use Rattle.linear_algebra.specs.FieldLaws.{zero_mul, mul_zero, mul_one, one_mul, add_mul, mul_assoc, add_zero_zero}
use Rattle.quiver_paths.specs.declared.Path.{Path}
use Rattle.quiver_paths.specs.Path.{IsPath, path_length, concat, trivial_path}
use Rattle.quiver_paths.specs.PathList.{paths_below}
use Rattle.quiver_paths.proofs.ListLemmas.{Contains-head, Contains-behind, Contains-cons_cases, Contains-nil, Contains-from_map, AllPairs-head, AllPairs-tail}
use Rattle.quiver_paths.proofs.PathLemmas.{IsPath-concat, IsPath-trivial, cut}
use Rattle.quiver_paths.proofs.PathListLemmas.{lists_paths_below}
use Rattle.path_algebra.specs.declared.Term.{Term}
use Rattle.path_algebra.specs.declared.Relation.{Relation}
use Rattle.path_algebra.specs.declared.Header.{Header}
use Rattle.path_algebra.specs.declared.rules.Rule.{Rule}
use Rattle.path_algebra.specs.Elements.{sum_over, path_element, sum_of_terms, product_between, middle}
use Rattle.path_algebra.specs.Ideals.{Summand, IsSummand, relation_element, summand_element, sum_of_summands, IsInIdeal}
use Rattle.path_algebra.specs.Allowed.{IsAllowed, IsRelation, IsTerm, IsParallel}
use Rattle.path_algebra.specs.Reduction.{act_arrows, act_terms}
use Rattle.path_algebra.proofs.Between.{composite, composite-middle, middle-start, middle-end}
use Rattle.path_algebra.proofs.ElementLemmas.{path_element-self, path_element-other, path_element-long, product-path, product-add, product_support}
use Rattle.path_algebra.proofs.IdealLemmas.{terms_support, relation_support}
use Rattle.path_algebra.proofs.IdealProducts.{product-nothing, length-composite}
use Rattle.path_algebra.proofs.Combinations.{IsCombination}
use Rattle.path_algebra.proofs.SumsOver.{sum_over-nil, sum_over-cons, sum_over-same, sum_over-zeros, sum_over-add, mul-sum_over, IsLinear, linear-same, linear-zero, linear-sum}
use Rattle.path_algebra.proofs.Acting.{sum_over-one, cases_listed, act_arrows-linear, act_terms-linear, act_arrows-append, nothing_acts, starts_apart}
use Rattle.path_algebra.proofs.Independent.{AreActedOn, leads_arrows, word_short, trivial_word, word_is_of_words, along_word, vanishes, arrows_of_words}

-- the product with a sum of terms that meet the paths on both sides
pub product-terms : (h : Header) (u v : Path) (terms : List Term) → ((a : Term) → Contains terms a → (u.end ≡ a.path.start) × (a.path.end ≡ v.start)) → (p : Path)
    → product_between h.bound u (sum_of_terms h.field h.bound terms) v p
    ≡ sum_over h.field terms (λ a. mul h.field a.coef (path_element h.bound (composite u a.path v) p))
unfolding sum_of_terms
product-terms h u v [] m p = product-nothing h.bound u v p ∙ sym (sum_over-nil {X = Term} h.field _)
product-terms h u v (a ∷ terms) m p =
    let meets = m a (Contains-head a terms) in
    product-add h.field h.bound u (λ r. mul h.field a.coef (path_element h.bound a.path r)) (sum_of_terms h.field h.bound terms) v p
    ∙ ap₂ (add h.field) (product-path h.field h.bound a.coef u a.path v p meets.0 meets.1) (product-terms h u v terms (λ b c. m b (Contains-behind a terms b c)) p)
    ∙ sym (sum_over-cons h.field a terms _)

-- any two of parallel terms
pub parallel_terms : (terms : List Term) → AllPairs (λ (a b : Term). IsParallel a.path b.path) terms → (a b : Term) → Contains terms a → Contains terms b → IsParallel a.path b.path
parallel_terms [] par a b m n = absurd (Contains-nil a m)
parallel_terms (x ∷ rest) par a b m n = elim (Contains-cons_cases x rest a m) [
  | inl e ↦ elim (Contains-cons_cases x rest b n) [
    | inl f ↦ record { starts = ap (λ (y : Term). y.path.start) (sym e ∙ f); ends = ap (λ (y : Term). y.path.end) (sym e ∙ f) }
    | inr n2 ↦ let p = AllPairs-head (λ (y z : Term). IsParallel y.path z.path) x rest par b n2 in
        record { starts = ap (λ (y : Term). y.path.start) (sym e) ∙ p.starts; ends = ap (λ (y : Term). y.path.end) (sym e) ∙ p.ends }
  ]
  | inr m2 ↦ elim (Contains-cons_cases x rest b n) [
    | inl f ↦ let p = AllPairs-head (λ (y z : Term). IsParallel y.path z.path) x rest par a m2 in
        record { starts = sym p.starts ∙ ap (λ (y : Term). y.path.start) f; ends = sym p.ends ∙ ap (λ (y : Term). y.path.end) f }
    | inr n2 ↦ parallel_terms rest (AllPairs-tail (λ (y z : Term). IsParallel y.path z.path) x rest par) a b m2 n2
  ]
]

-- the terms of a relation all meet the two paths, or its product with them is zero
pub record MeetsTerms (u v : Path) (terms : List Term) : Type 0 where
  pub meets : (a : Term) → Contains terms a → (u.end ≡ a.path.start) × (a.path.end ≡ v.start)

pub cases_meet : (h : Header) (u v : Path) (r : Relation) → IsRelation h r → MeetsTerms u v r.terms ⊎ ((p : Path) → product_between h.bound u (relation_element h r) v p ≡ 0)
cases_meet h u v r is = go r.terms is.terms is.parallel
  where
    apart : (a : Term) (rest : List Term) → All (IsTerm h) (a ∷ rest) → AllPairs (λ (b c : Term). IsParallel b.path c.path) (a ∷ rest)
        → ((u.end ≡ a.path.start) → (a.path.end ≡ v.start) → ⊥) → (p : Path) → product_between h.bound u (sum_of_terms h.field h.bound (a ∷ rest)) v p ≡ 0
    apart a rest lawful par d p = elim (cases_eq (product_between h.bound u (sum_of_terms h.field h.bound (a ∷ rest)) v p) 0) [
      | inl z ↦ z
      | inr n ↦
          let o = product_support h.bound u (sum_of_terms h.field h.bound (a ∷ rest)) v p n in
          let found = Contains-from_map (λ (x : Term). x.path) (a ∷ rest) (middle u v p) (terms_support h (a ∷ rest) (middle u v p) lawful o.nonzero) in
          let par_to = parallel_terms (a ∷ rest) par a found.0 (Contains-head a rest) found.1 in
          absurd (d (middle-start u v p ∙ sym (ap (λ (x : Path). x.start) found.2) ∙ sym par_to.starts)
          (par_to.ends ∙ ap (λ (x : Path). x.end) found.2 ∙ middle-end u v p))
    ]

    go : (terms : List Term) → All (IsTerm h) terms → AllPairs (λ (b c : Term). IsParallel b.path c.path) terms
        → MeetsTerms u v terms ⊎ ((p : Path) → product_between h.bound u (sum_of_terms h.field h.bound terms) v p ≡ 0)
    go [] lawful par = inl (record { meets = λ a m. absurd (Contains-nil a m) })
    go (a ∷ rest) lawful par = elim (cases_eq u.end a.path.start) [
      | inr d ↦ inr (apart a rest lawful par (λ e f. d e))
      | inl e ↦ elim (cases_eq a.path.end v.start) [
        | inr d ↦ inr (apart a rest lawful par (λ e f. d f))
        | inl f ↦ inl (record { meets = λ b m. let q = parallel_terms (a ∷ rest) par a b (Contains-head a rest) m in (e ∙ q.starts, sym q.ends ∙ f) })
      ]
    ]

-- a member of the ideal is zero at paths shorter than two
pub IsInIdeal-long : (h : Header) → IsAllowed h → (x : Path → ℕ) → IsInIdeal h x → (p : Path) → x p ≢ 0 → 2 ≤ path_length p
unfolding summand_element sum_of_summands
IsInIdeal-long h ok x m p n = sums m.summands m.lawful (λ e. n (m.value p ∙ e))
  where
    one : (s : Summand) → IsSummand h s → summand_element h s p ≢ 0 → 2 ≤ path_length p
    one s l d =
        let o = product_support h.bound s.left (relation_element h s.relation) s.right p (λ e. d (ap (mul h.field s.coefficient) e ∙ mul_zero h.field _)) in
        let inside = (relation_support h ok s.relation l.relation (middle s.left s.right p) o.nonzero).1 in
        omega (arith, inside, length-composite s.left (middle s.left s.right p) s.right, ap path_length (composite-middle s.left s.right p o.between))

    sums : (summands : List Summand) → All (IsSummand h) summands → sum_of_summands h summands p ≢ 0 → 2 ≤ path_length p
    sums [] l d = absurd (d refl)
    sums (s ∷ rest) l d = elim (cases_eq (summand_element h s p) 0) [
      | inl e ↦ sums rest (All-tail (IsSummand h) s rest l) (λ z. d (ap₂ (add h.field) e z ∙ add_zero_zero h.field))
      | inr d ↦ one s (All-head (IsSummand h) s rest l) d
    ]

-- each relation, and each path of the bound's length, acts as zero
pub record ActAsZero (h : Header) (words : List Path) (becomes : Path → Path → ℕ) : Type 0 where
  pub relations : (relation : Relation) → Contains h.relations relation → (w : Path) → Contains words w → (r : Path)
      → act_terms h becomes words relation.terms (path_element h.bound w) r ≡ 0
  pub long : (p : Path) → IsPath h.quiver p → path_length p ≡ h.bound → (w : Path) → Contains words w → (r : Path)
      → act_arrows h becomes words p.arrows (path_element h.bound w) r ≡ 0

module _ (h : Header) (words : List Path) (rules : List Rule) (becomes : Path → Path → ℕ) (k : AreActedOn h words rules becomes) (z : ActAsZero h words becomes) where
  -- a path of the bound's length or more acts as zero
  long_acts : (p : Path) → IsPath h.quiver p → h.bound ≤ path_length p → (x : Path → ℕ) → IsCombination h words x → (r : Path)
      → act_arrows h becomes words p.arrows x r ≡ 0
  long_acts p hp l x s r =
      let c = cut h.quiver p h.bound k.are.allowed.quiver.ends hp l in
      let front : act_arrows h becomes words c.0.arrows x ≡ (λ q. 0) = fun_ext (vanishes h words rules becomes k (act_arrows h becomes words c.0.arrows) (act_arrows-linear h becomes words c.0.arrows)
      (λ w m q. z.long c.0 c.2.front_is c.2.front_length w m q) x s) in
      ap (λ xs. act_arrows h becomes words xs x r) (sym (ap (λ (q : Path). q.arrows) c.2.whole))
      ∙ ap (λ y. y r) (act_arrows-append h becomes words c.0.arrows c.1.arrows x)
      ∙ ap (λ y. act_arrows h becomes words c.1.arrows y r) front
      ∙ nothing_acts h becomes words c.1.arrows r

  -- all terms of a relation act, also those of the bound's length or more
  terms_act : (terms : List Term) → All (IsTerm h) terms → (x : Path → ℕ) → IsCombination h words x → (r : Path)
      → act_terms h becomes words terms x r ≡ sum_over h.field terms (λ a. mul h.field a.coef (act_arrows h becomes words a.path.arrows x r))
  unfolding act_terms
  terms_act terms lawful x s r = sum_over-same h.field terms _ _ (λ a m. elim (cases_lt (path_length a.path) h.bound) [
    | inl l ↦ cond-true _ _ 0 (lt-ltb _ _ l)
    | inr l ↦ cond-false _ _ 0 (le-ltb _ _ l)
        ∙ sym (ap (mul h.field a.coef) (long_acts a.path (All-contains (IsTerm h) terms a lawful m).path l x s r) ∙ mul_zero h.field a.coef)
  ])

  -- the action of an element: the sum of those of all short paths, with its coefficients
  pub act_element : (Path → ℕ) → (Path → ℕ) → Path → ℕ
  act_element x y r = sum_over h.field (paths_below h.quiver h.bound) (λ p. mul h.field (x p) (act_arrows h becomes words p.arrows y r))

  act_element-linear : (y : Path → ℕ) → IsLinear h.field (λ x. act_element x y)
  unfolding act_element
  act_element-linear y = record {
    adds = λ x x' r. sum_over-same h.field (paths_below h.quiver h.bound) _ _ (λ p m. add_mul h.field (x p) (x' p) _) ∙ sum_over-add h.field (paths_below h.quiver h.bound) _ _;
    scales = λ c x r. sum_over-same h.field (paths_below h.quiver h.bound) _ _ (λ p m. mul_assoc h.field c (x p) _) ∙ sym (mul-sum_over h.field c (paths_below h.quiver h.bound) _);
  }

  act_element-path : (m : Path) → IsPath h.quiver m → (y : Path → ℕ) → IsCombination h words y → (r : Path)
      → act_element (path_element h.bound m) y r ≡ act_arrows h becomes words m.arrows y r
  unfolding act_element
  act_element-path m hm y s r = elim (cases_lt (path_length m) h.bound) [
    | inl l ↦
        let lists = lists_paths_below h.quiver k.are.allowed.quiver.ends h.bound in
        let value_small = (arrows_of_words h words rules becomes k m.arrows (leads_arrows h.quiver m.start m.arrows m.end hm.leads) y s).small r in
        let at : mul h.field (path_element h.bound m m) (act_arrows h becomes words m.arrows y r) ≡ act_arrows h becomes words m.arrows y r =
        ap (λ c. mul h.field c (act_arrows h becomes words m.arrows y r)) (path_element-self h.bound m l) ∙ one_mul h.field _ value_small in
        sum_over-one h.field (paths_below h.quiver h.bound) _ m lists.ascending (lists.all m hm l) (subst (λ n. n < order h.field) (sym at) value_small)
        (λ v c d. ap (λ n. mul h.field n (act_arrows h becomes words v.arrows y r)) (path_element-other h.bound m v (λ e. d (sym e))) ∙ zero_mul h.field _)
        ∙ at
    | inr l ↦ sum_over-zeros h.field (paths_below h.quiver h.bound) _ (λ v c.
        ap (λ n. mul h.field n (act_arrows h becomes words v.arrows y r)) (path_element-long h.bound m v l) ∙ zero_mul h.field _)
        ∙ sym (long_acts m hm l y s r)
  ]

  composite_acts : (u m v : Path) (y : Path → ℕ) → act_arrows h becomes words (composite u m v).arrows y
      ≡ act_arrows h becomes words v.arrows (act_arrows h becomes words m.arrows (act_arrows h becomes words u.arrows y))
  composite_acts u m v y = act_arrows-append h becomes words u.arrows (m.arrows ++ v.arrows) y ∙ act_arrows-append h becomes words m.arrows v.arrows (act_arrows h becomes words u.arrows y)

  -- a product u·r·v acts as zero
  product_acts : (u v : Path) (r : Relation) → IsPath h.quiver u → IsPath h.quiver v → Contains h.relations r → (y : Path → ℕ) → IsCombination h words y → (p : Path)
      → act_element (product_between h.bound u (relation_element h r) v) y p ≡ 0
  product_acts u v r hu hv c y s p = elim (cases_meet h u v r is) [
    | inr zero_product ↦ linear-same (λ x. act_element x y) _ (λ q. 0) zero_product p ∙ linear-zero h.field (λ x. act_element x y) (act_element-linear y) p
    | inl m ↦
        linear-same (λ x. act_element x y) _ _ (product-terms h u v r.terms m.meets) p
        ∙ linear-sum h.field (λ x. act_element x y) (act_element-linear y) r.terms (λ (a : Term). a.coef) (λ a. path_element h.bound (composite u a.path v)) p
        ∙ sum_over-same h.field r.terms _ _ (λ a n. ap (mul h.field a.coef)
        (act_element-path (composite u a.path v) (IsPath-concat h.quiver u (concat a.path v) hu (IsPath-concat h.quiver a.path v (term_is a n).path hv (m.meets a n).1) (m.meets a n).0) y s p
        ∙ ap (λ x. x p) (composite_acts u a.path v y)))
        ∙ sym (linear-sum h.field (act_arrows h becomes words v.arrows) (act_arrows-linear h becomes words v.arrows) r.terms (λ (a : Term). a.coef) (λ a. act_arrows h becomes words a.path.arrows y') p)
        ∙ linear-same (act_arrows h becomes words v.arrows) _ (λ q. 0) (λ q. sym (terms_act r.terms is.terms y' s' q) ∙ acts_as_zero q) p
        ∙ nothing_acts h becomes words v.arrows p
  ]
    where
      is : IsRelation h r
      is = All-contains (IsRelation h) h.relations r k.are.allowed.relations c

      term_is : (a : Term) → Contains r.terms a → IsTerm h a
      term_is a n = All-contains (IsTerm h) r.terms a is.terms n

      y' : Path → ℕ
      y' = act_arrows h becomes words u.arrows y

      s' : IsCombination h words y'
      s' = arrows_of_words h words rules becomes k u.arrows (leads_arrows h.quiver u.start u.arrows u.end hu.leads) y s

      acts_as_zero : (q : Path) → act_terms h becomes words r.terms y' q ≡ 0
      acts_as_zero = vanishes h words rules becomes k (act_terms h becomes words r.terms) (act_terms-linear h becomes words r.terms) (λ w n q. z.relations r c w n q) y' s'

  summands_act : (summands : List Summand) → All (IsSummand h) summands → (y : Path → ℕ) → IsCombination h words y → (p : Path)
      → act_element (sum_of_summands h summands) y p ≡ 0
  unfolding sum_of_summands summand_element
  summands_act [] l y s p = linear-zero h.field (λ x. act_element x y) (act_element-linear y) p
  summands_act (a ∷ rest) l y s p =
      let lawful = All-head (IsSummand h) a rest l in
      (act_element-linear y).adds (summand_element h a) (sum_of_summands h rest) p
      ∙ ap₂ (add h.field) ((act_element-linear y).scales a.coefficient (product_between h.bound a.left (relation_element h a.relation) a.right) p
      ∙ ap (mul h.field a.coefficient) (product_acts a.left a.right a.relation lawful.left lawful.right lawful.relation y s p) ∙ mul_zero h.field a.coefficient)
      (summands_act rest (All-tail (IsSummand h) a rest l) y s p)
      ∙ add_zero_zero h.field

  -- each member of the ideal acts as zero
  pub ideal_acts : (x : Path → ℕ) → IsInIdeal h x → (y : Path → ℕ) → IsCombination h words y → (p : Path) → act_element x y p ≡ 0
  ideal_acts x m y s p = linear-same (λ w. act_element w y) x (sum_of_summands h m.summands) m.value p ∙ summands_act m.summands m.lawful y s p

  -- so a member that is a combination of words is zero
  pub independent : (x : Path → ℕ) → IsInIdeal h x → IsCombination h words x → (p : Path) → x p ≡ 0
  unfolding act_element
  independent x m s p = elim (cases_listed words p) [
    | inr n ↦ s.outside p n
    | inl n ↦ elim (cases_eq (x p) 0) [
      | inl e ↦ e
      | inr d ↦ sym (at_p n d) ∙ ideal_acts x m (path_element h.bound (trivial_path p.start)) (word_is_of_words h words rules becomes k (trivial_path p.start) (start_word n)) p
    ]
  ]
    where
      start_word : Contains words p → Contains words (trivial_path p.start)
      start_word n = trivial_word h words rules becomes k p.start (IsPath-trivial h.quiver p.start (word_short h words rules becomes k p n).path.starts)

      along : (q : Path) → Contains words q → act_arrows h becomes words q.arrows (path_element h.bound (trivial_path q.start)) ≡ path_element h.bound q
      along q n = along_word h words rules becomes k q.arrows (trivial_path q.start) q (IsPath-trivial h.quiver q.start (word_short h words rules becomes k q n).path.starts) n refl refl

      others : (v : Path) → (v ≡ p → ⊥) → mul h.field (x v) (act_arrows h becomes words v.arrows (path_element h.bound (trivial_path p.start)) p) ≡ 0
      others v d = elim (cases_eq (x v) 0) [
        | inl e ↦ ap (λ c. mul h.field c (act_arrows h becomes words v.arrows (path_element h.bound (trivial_path p.start)) p)) e ∙ zero_mul h.field _
        | inr n ↦ elim (cases_listed words v) [
          | inr o ↦ absurd (n (s.outside v o))
          | inl o ↦ ap (mul h.field (x v)) (elim (cases_eq v.start p.start) [
            | inl e ↦ ap (λ a. act_arrows h becomes words v.arrows (path_element h.bound (trivial_path a)) p) (sym e)
                ∙ ap (λ y. y p) (along v o) ∙ path_element-other h.bound v p d
            | inr f ↦ starts_apart h becomes words v.arrows (trivial_path p.start) v.start v.end (let two = IsInIdeal-long h k.are.allowed x m v n in omega (arith, two))
                (word_short h words rules becomes k v o).path.leads f p
          ]) ∙ mul_zero h.field (x v)
        ]
      ]

      at_p : Contains words p → (x p ≢ 0) → act_element x (path_element h.bound (trivial_path p.start)) p ≡ x p
      at_p n d =
          let short = word_short h words rules becomes k p n in
          let lists = lists_paths_below h.quiver k.are.allowed.quiver.ends h.bound in
          let at : mul h.field (x p) (act_arrows h becomes words p.arrows (path_element h.bound (trivial_path p.start)) p) ≡ x p =
          ap (mul h.field (x p)) (ap (λ y. y p) (along p n) ∙ path_element-self h.bound p short.short) ∙ mul_one h.field (x p) (s.small p) in
          sum_over-one h.field (paths_below h.quiver h.bound) _ p lists.ascending (lists.all p short.path short.short) (subst (λ c. c < order h.field) (sym at) (s.small p)) (λ v c e. others v e) ∙ at
