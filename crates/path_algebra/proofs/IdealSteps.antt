-- The steps of a derivation are members of the ideal.
use Rattle.std.proofs.Common.{ℕ, suc, ◌≡◌, ◌≢◌, ◌<◌, ◌+◌, ◌-◌, inl, inr, List, [], ◌∷◌, ◌++◌, length, map, length-append, refl, sym, ap, ap₂, ◌∙◌, subst, arith}
use Rattle.std.specs.Prelude.{Contains, slice_index_or}
use Rattle.std.proofs.lemmas.Bool.{cases_lt, cases_eq}
use Rattle.std.proofs.lemmas.List.{get_or_past, get_or_append_left}
use Rattle.std.proofs.Math.Seq.{get_or-append_seam}
use Rattle.std.proofs.lemmas.List.Elements.{All-contains, Contains-get_or}
use Rattle.linear_algebra.specs.Field.{Gf, add, mul}
use Rattle.linear_algebra.specs.FieldLaws.{mul_zero, add_zero_zero}
use Rattle.quiver_paths.specs.declared.Path.{Path}
use Rattle.quiver_paths.specs.Path.{path_length, concat, trivial_path, arrow_path}
use Rattle.quiver_paths.specs.Quiver.{HasEnds, arrow_count, source, target}
use Rattle.quiver_paths.proofs.ListLemmas.{Contains-head, Contains-from_map}
use Rattle.quiver_paths.proofs.PathLemmas.{IsPath-concat, IsPath-arrow, IsPath-trivial, IsPath-end, concat-trivial_left, concat-trivial_right}
use Rattle.path_algebra.specs.declared.Relation.{Relation}
use Rattle.path_algebra.specs.declared.Header.{Header}
use Rattle.path_algebra.specs.declared.rules.Step.{Step}
use Rattle.path_algebra.specs.declared.rules.Step.TheVariants.{Relation as FromRelation, Left, Right, Add}
use Rattle.path_algebra.specs.declared.Term.{Term}
use Rattle.path_algebra.specs.Elements.{path_element, sum_of_terms, product_between, middle}
use Rattle.path_algebra.specs.Ideals.{relation_element, IsInIdeal}
use Rattle.path_algebra.specs.Allowed.{IsAllowed, IsRelation, IsTerm}
use Rattle.path_algebra.specs.Derivations.{arrow_times, times_arrow, element_at, step_element, elements_behind, NamesEarlier, AreSteps, step_elements}
use Rattle.path_algebra.proofs.Between.{composite, composite-middle}
use Rattle.path_algebra.proofs.ElementLemmas.{path_element_support, product-composite, product_support, product-add}
use Rattle.path_algebra.proofs.IdealLemmas.{IsInIdeal-same, IsInIdeal-zero, IsInIdeal-add, IsInIdeal-mul, IsInIdeal-product, terms_support}
use Rattle.path_algebra.proofs.IdealProducts.{IsInIdeal-linear, runs_between-ends, product-product, product-product_apart, product-mul}
use Rattle.path_algebra.proofs.IdealActs.{parallel_terms}

no_terms : (q : Gf) (t : ℕ) (p : Path) → sum_of_terms q t [] p ≡ 0
unfolding sum_of_terms
no_terms q t p = refl

-- a path at which a sum of terms is not zero is short
pub terms_short : (q : Gf) (t : ℕ) (terms : List Term) (p : Path) → sum_of_terms q t terms p ≢ 0 → path_length p < t
unfolding sum_of_terms
terms_short q t [] p n = absurd (n refl)
terms_short q t (a ∷ terms) p n = elim (cases_eq (path_element t a.path p) 0) [
  | inl e ↦ terms_short q t terms p (λ z. n (ap₂ (add q) (ap (mul q a.coef) e ∙ mul_zero q a.coef) z ∙ add_zero_zero q))
  | inr d ↦ let there = path_element_support t a.path p d in subst (λ (x : Path). path_length x < t) there.0 there.1
]

-- a path, with the trivial paths at its ends on both sides
pub product-trivial : (t : ℕ) (x : Path → ℕ) (p : Path) → path_length p < t → product_between t (trivial_path p.start) x (trivial_path p.end) p ≡ x p
product-trivial t x p l =
    let is : composite (trivial_path p.start) p (trivial_path p.end) ≡ p = ap (concat (trivial_path p.start)) (concat-trivial_right p) ∙ concat-trivial_left p in
    ap (product_between t (trivial_path p.start) x (trivial_path p.end)) (sym is)
    ∙ product-composite t (trivial_path p.start) x (trivial_path p.end) p refl refl (subst (λ w. path_length w < t) (sym is) l)

-- a product is zero at a path with another start, or another end
pub product-other_ends : (t : ℕ) (u : Path) (x : Path → ℕ) (v p : Path) → ((p.start ≡ u.start) × (p.end ≡ v.end) → ⊥) → product_between t u x v p ≡ 0
product-other_ends t u x v p d = elim (cases_eq (product_between t u x v p) 0) [
  | inl z ↦ z
  | inr n ↦ absurd (d (runs_between-ends u v p (product_support t u x v p n).between))
]

-- an arrow times a product, and a product times an arrow
arrow_times-product : (h : Header) (a : ℕ) (l : Path) (x : Path → ℕ) (r : Path) → target h.quiver a ≡ l.start → (p : Path)
    → arrow_times h a (product_between h.bound l x r) p ≡ product_between h.bound (concat (arrow_path h.quiver a) l) x r p
arrow_times-product h a l x r e p = elim (cases_eq r.end p.end) [
  | inl f ↦ product-product h.bound (arrow_path h.quiver a) l x r (trivial_path p.end) e f p
      ∙ ap (λ v. product_between h.bound (concat (arrow_path h.quiver a) l) x v p) (ap (λ v. concat r (trivial_path v)) (sym f) ∙ concat-trivial_right r)
  | inr d ↦ product-product_apart h.bound (arrow_path h.quiver a) l x r (trivial_path p.end) (inr d) p
      ∙ sym (product-other_ends h.bound (concat (arrow_path h.quiver a) l) x r p (λ s. d (sym s.1)))
]

times_arrow-product : (h : Header) (l : Path) (x : Path → ℕ) (r : Path) (a : ℕ) → r.end ≡ source h.quiver a → (p : Path)
    → times_arrow h (product_between h.bound l x r) a p ≡ product_between h.bound l x (concat r (arrow_path h.quiver a)) p
times_arrow-product h l x r a e p = elim (cases_eq p.start l.start) [
  | inl f ↦ product-product h.bound (trivial_path p.start) l x r (arrow_path h.quiver a) f e p
      ∙ ap (λ u. product_between h.bound u x (concat r (arrow_path h.quiver a)) p) (ap (λ v. concat (trivial_path v) l) f ∙ concat-trivial_left l)
  | inr d ↦ product-product_apart h.bound (trivial_path p.start) l x r (arrow_path h.quiver a) (inl d) p
      ∙ sym (product-other_ends h.bound l x (concat r (arrow_path h.quiver a)) p (λ s. d s.0))
]

-- an arrow times a member, and a member times an arrow
pub IsInIdeal-arrow_times : (h : Header) → HasEnds h.quiver → (a : ℕ) → a < arrow_count h.quiver → (x : Path → ℕ) → IsInIdeal h x → IsInIdeal h (arrow_times h a x)
IsInIdeal-arrow_times h e a b x m = IsInIdeal-linear h (arrow_times h a)
    (record { adds = λ y z p. product-add h.field h.bound (arrow_path h.quiver a) y z (trivial_path p.end) p; scales = λ c y p. product-mul h.field h.bound c (arrow_path h.quiver a) y (trivial_path p.end) p })
    (λ u v r hu c hv. elim (cases_eq (target h.quiver a) u.start) [
      | inl f ↦ IsInIdeal-same h _ _ (arrow_times-product h a u (relation_element h r) v f)
          (IsInIdeal-product h (concat (arrow_path h.quiver a) u) v r (IsPath-concat h.quiver (arrow_path h.quiver a) u (IsPath-arrow h.quiver a e b) hu f) c hv)
      | inr d ↦ IsInIdeal-same h (λ _. 0) _ (λ p. product-product_apart h.bound (arrow_path h.quiver a) u (relation_element h r) v (trivial_path p.end) (inl d) p) (IsInIdeal-zero h)
    ]) x m

pub IsInIdeal-times_arrow : (h : Header) → HasEnds h.quiver → (x : Path → ℕ) (a : ℕ) → a < arrow_count h.quiver → IsInIdeal h x → IsInIdeal h (times_arrow h x a)
IsInIdeal-times_arrow h e x a b m = IsInIdeal-linear h (λ y. times_arrow h y a)
    (record { adds = λ y z p. product-add h.field h.bound (trivial_path p.start) y z (arrow_path h.quiver a) p; scales = λ c y p. product-mul h.field h.bound c (trivial_path p.start) y (arrow_path h.quiver a) p })
    (λ u v r hu c hv. elim (cases_eq v.end (source h.quiver a)) [
      | inl f ↦ IsInIdeal-same h _ _ (times_arrow-product h u (relation_element h r) v a f)
          (IsInIdeal-product h u (concat v (arrow_path h.quiver a)) r hu c (IsPath-concat h.quiver v (arrow_path h.quiver a) hv (IsPath-arrow h.quiver a e b) f))
      | inr d ↦ IsInIdeal-same h (λ _. 0) _ (λ p. product-product_apart h.bound (trivial_path p.start) u (relation_element h r) v (arrow_path h.quiver a) (inr d) p) (IsInIdeal-zero h)
    ]) x m

-- a relation is one
pub IsInIdeal-relation : (h : Header) → IsAllowed h → (r : Relation) → Contains h.relations r → IsInIdeal h (relation_element h r)
unfolding middle
IsInIdeal-relation h ok r c = go r.terms refl
  where
    is : IsRelation h r
    is = All-contains (IsRelation h) h.relations r ok.relations c

    at_term : (a : Term) → Contains r.terms a → (p : Path) → relation_element h r p ≡ product_between h.bound (trivial_path a.path.start) (relation_element h r) (trivial_path a.path.end) p
    at_term a m p = elim (cases_eq (relation_element h r p) 0) [
      | inr n ↦
          let found = Contains-from_map (λ (x : Term). x.path) r.terms p (terms_support h r.terms p is.terms n) in
          let par = parallel_terms r.terms is.parallel found.0 a found.1 m in
          let starts : p.start ≡ a.path.start = ap (λ (x : Path). x.start) (sym found.2) ∙ par.starts in
          let ends : p.end ≡ a.path.end = ap (λ (x : Path). x.end) (sym found.2) ∙ par.ends in
          sym (ap₂ (λ v w. product_between h.bound (trivial_path v) (relation_element h r) (trivial_path w) p) (sym starts) (sym ends)
          ∙ product-trivial h.bound (relation_element h r) p (terms_short h.field h.bound r.terms p n))
      | inl z ↦ z ∙ sym (elim (cases_eq (product_between h.bound (trivial_path a.path.start) (relation_element h r) (trivial_path a.path.end) p) 0) [
        | inl y ↦ y
        | inr n ↦
            let o = product_support h.bound (trivial_path a.path.start) (relation_element h r) (trivial_path a.path.end) p n in
            let inner : middle (trivial_path a.path.start) (trivial_path a.path.end) p ≡ p =
            sym (ap (concat (trivial_path a.path.start)) (concat-trivial_right (middle (trivial_path a.path.start) (trivial_path a.path.end) p)) ∙ concat-trivial_left (middle (trivial_path a.path.start) (trivial_path a.path.end) p))
            ∙ composite-middle (trivial_path a.path.start) (trivial_path a.path.end) p o.between in
            absurd (o.nonzero (ap (relation_element h r) inner ∙ z))
      ])
    ]

    go : (terms : List Term) → r.terms ≡ terms → IsInIdeal h (relation_element h r)
    go [] e = IsInIdeal-same h (λ _. 0) _ (λ p. ap (λ ts. sum_of_terms h.field h.bound ts p) e ∙ no_terms h.field h.bound p) (IsInIdeal-zero h)
    go (a ∷ rest) e =
        let m : Contains r.terms a = subst (λ ts. Contains ts a) (sym e) (Contains-head a rest) in
        let path = (All-contains (IsTerm h) r.terms a is.terms m).path in
        IsInIdeal-same h _ _ (at_term a m) (IsInIdeal-product h (trivial_path a.path.start) (trivial_path a.path.end) r
        (IsPath-trivial h.quiver a.path.start path.starts) c (IsPath-trivial h.quiver a.path.end (IsPath-end h.quiver a.path ok.quiver.ends path)))

-- the elements of steps behind others
element_at-member : (h : Header) (elements : List (Path → ℕ)) → ((i : ℕ) → i < length elements → IsInIdeal h (slice_index_or elements i (λ p. 0))) → (n : ℕ) → IsInIdeal h (element_at elements n)
element_at-member h elements m n = elim (cases_lt (n - 1) (length elements)) [
  | inl l ↦ m (n - 1) l
  | inr l ↦ subst (IsInIdeal h) (sym (get_or_past elements (n - 1) (λ p. 0) l)) (IsInIdeal-zero h)
]

relation_member : (h : Header) → IsAllowed h → (n : ℕ) → IsInIdeal h (element_at (map (relation_element h) h.relations) n)
relation_member h ok n = element_at-member h (map (relation_element h) h.relations) (λ i l.
    let found = Contains-from_map (relation_element h) h.relations _ (Contains-get_or (map (relation_element h) h.relations) i (λ p. 0) l) in
    subst (IsInIdeal h) found.2 (IsInIdeal-relation h ok found.0 found.1)) n

step_member : (h : Header) → IsAllowed h → (earlier : List (Path → ℕ)) → ((n : ℕ) → IsInIdeal h (element_at earlier n)) → (k : ℕ) (s : Step) → NamesEarlier h k s
    → IsInIdeal h (step_element h earlier s)
step_member h ok earlier m k (FromRelation r) n = relation_member h ok r
step_member h ok earlier m k (Left a j) n = IsInIdeal-arrow_times h ok.quiver.ends a n.0 (element_at earlier j) (m j)
step_member h ok earlier m k (Right j a) n = IsInIdeal-times_arrow h ok.quiver.ends (element_at earlier j) a n.1 (m j)
step_member h ok earlier m k (Add j c i) n = IsInIdeal-add h (element_at earlier j) (λ p. mul h.field c (element_at earlier i p)) (m j) (IsInIdeal-mul h c (element_at earlier i) (m i))

members-push : (h : Header) (elements : List (Path → ℕ)) (x : Path → ℕ) → ((n : ℕ) → IsInIdeal h (element_at elements n)) → IsInIdeal h x → (n : ℕ) → IsInIdeal h (element_at (elements ++ x ∷ []) n)
members-push h elements x m mx = element_at-member h (elements ++ x ∷ []) (λ i l. elim (cases_lt i (length elements)) [
  | inl b ↦ subst (IsInIdeal h) (sym (get_or_append_left elements (x ∷ []) (λ p. 0) i b))
      (let same : i + 1 - 1 ≡ i = omega arith in subst (λ j. IsInIdeal h (slice_index_or elements j (λ p. 0))) same (m (i + 1)))
  | inr b ↦
      let same : i ≡ length elements = omega (arith, l, b, length-append elements (x ∷ [])) in
      subst (λ j. IsInIdeal h (slice_index_or (elements ++ x ∷ []) j (λ p. 0))) (sym same) (subst (IsInIdeal h) (sym (get_or-append_seam elements x [] (λ p. 0))) mx)
])

behind_members : (h : Header) → IsAllowed h → (earlier : List (Path → ℕ)) → ((n : ℕ) → IsInIdeal h (element_at earlier n)) → (steps : List Step)
    → ((i : ℕ) (s : Step) → i < length steps → NamesEarlier h (length earlier + i) (slice_index_or steps i s)) → (n : ℕ) → IsInIdeal h (element_at (elements_behind h earlier steps) n)
unfolding elements_behind
behind_members h ok earlier m [] named n = m n
behind_members h ok earlier m (s ∷ steps) named n =
    behind_members h ok (earlier ++ step_element h earlier s ∷ [])
    (members-push h earlier (step_element h earlier s) m (step_member h ok earlier m (length earlier + 0) s (named 0 s (omega arith)))) steps
    (λ i d l. subst (λ k. NamesEarlier h k (slice_index_or steps i d)) (omega (arith, length-append earlier (step_element h earlier s ∷ []))) (named (suc i) d (omega arith))) n

-- the element of each step is a member of the ideal
pub steps_are_members : (h : Header) → IsAllowed h → (steps : List Step) → AreSteps h steps → (n : ℕ) → IsInIdeal h (element_at (step_elements h steps) n)
steps_are_members h ok steps a n = behind_members h ok [] (element_at-member h [] (λ i l. absurd (omega (arith, l)))) steps
    (λ i s l. let e : i ≡ 0 + i = omega arith in subst (λ k. NamesEarlier h k (slice_index_or steps i s)) e (a.named i s l)) n
