-- The ideal is closed under paths on both sides.
use Rattle.std.proofs.Common.{ℕ, ◌≡◌, ◌≢◌, ◌<◌, ◌+◌, ◌⊎◌, inl, inr, List, [], ◌∷◌, ◌&&◌, true, eqb, ltb, refl, sym, ap, ◌∙◌, subst, arith}
use Rattle.std.specs.Prelude.{Contains, All}
use Rattle.std.proofs.lemmas.Bool.{cases_Bool, cases_eq, cases_lt, and_parts, eqb-true, both_ways}
use Rattle.std.proofs.lemmas.List.Elements.{All-head, All-tail}
use Rattle.linear_algebra.specs.Field.{Gf, add, mul}
use Rattle.linear_algebra.specs.FieldLaws.{mul_zero}
use Rattle.quiver_paths.specs.declared.Path.{Path}
use Rattle.quiver_paths.specs.Path.{IsPath, path_length, concat}
use Rattle.quiver_paths.proofs.PathLemmas.{IsPath-concat, path_length-concat, concat_assoc}
use Rattle.path_algebra.specs.declared.Relation.{Relation}
use Rattle.path_algebra.specs.declared.Header.{Header}
use Rattle.path_algebra.specs.Elements.{runs_between, middle, product_between}
use Rattle.path_algebra.specs.Ideals.{Summand, IsSummand, relation_element, summand_element, sum_of_summands, IsInIdeal}
use Rattle.path_algebra.proofs.Between.{composite, runs_between-composite, composite-middle, middle-start, middle-end}
use Rattle.path_algebra.proofs.ElementLemmas.{product-composite, product-long, product-outside, product_support, product-add}
use Rattle.path_algebra.proofs.SumsOver.{IsLinear, linear-same, linear-zero}
use Rattle.path_algebra.proofs.IdealLemmas.{IsInIdeal-same, IsInIdeal-zero, IsInIdeal-add, IsInIdeal-mul, IsInIdeal-product}

-- the ends of a path that runs between two
pub runs_between-ends : (u v p : Path) → runs_between u v p ≡ true → (p.start ≡ u.start) × (p.end ≡ v.end)
unfolding runs_between
runs_between-ends u v p h =
    let first = and_parts (eqb p.start u.start) _ h in
    (eqb-true _ _ first.0, eqb-true _ _ (and_parts (eqb p.end v.end) _ first.1).0)

composite-composite : (u l m r v : Path) → composite (concat u l) m (concat r v) ≡ composite u (composite l m r) v
composite-composite u l m r v =
    concat_assoc u l (concat m (concat r v))
    ∙ ap (concat u) (sym (concat_assoc l (concat m r) v ∙ ap (concat l) (concat_assoc m r v)))

pub length-composite : (u m v : Path) → path_length (composite u m v) ≡ path_length u + (path_length m + path_length v)
length-composite u m v = path_length-concat u (concat m v) ∙ ap (λ n. path_length u + n) (path_length-concat m v)

-- a product of a product, where the paths meet
pub product-product : (t : ℕ) (u l : Path) (x : Path → ℕ) (r v : Path) → u.end ≡ l.start → r.end ≡ v.start → (p : Path)
    → product_between t u (product_between t l x r) v p ≡ product_between t (concat u l) x (concat r v) p
product-product t u l x r v a b p = elim (cases_lt (path_length p) t) [
  | inr s ↦ product-long t u _ v p s ∙ sym (product-long t (concat u l) x (concat r v) p s)
  | inl s ↦ elim (cases_Bool (runs_between (concat u l) (concat r v) p)) [
    | inl h ↦
        let m : Path = middle (concat u l) (concat r v) p in
        let is : composite (concat u l) m (concat r v) ≡ p = composite-middle (concat u l) (concat r v) p h in
        subst (λ w. product_between t u (product_between t l x r) v w ≡ product_between t (concat u l) x (concat r v) w) is
        (ap (product_between t u (product_between t l x r) v) (composite-composite u l m r v)
        ∙ product-composite t u (product_between t l x r) v (composite l m r) a b
        (subst (λ w. path_length w < t) (sym is ∙ composite-composite u l m r v) s)
        ∙ product-composite t l x r m (middle-start (concat u l) (concat r v) p) (middle-end (concat u l) (concat r v) p)
        (let whole : path_length (composite u (composite l m r) v) ≡ path_length p = ap path_length (sym (composite-composite u l m r v) ∙ is) in
        omega (arith, s, whole, length-composite u (composite l m r) v))
        ∙ sym (product-composite t (concat u l) x (concat r v) m (middle-start (concat u l) (concat r v) p) (middle-end (concat u l) (concat r v) p)
        (subst (λ w. path_length w < t) (sym is) s)))
    | inr h ↦ elim (cases_eq (product_between t u (product_between t l x r) v p) 0) [
      | inl z ↦ z ∙ sym (product-outside t (concat u l) x (concat r v) p h)
      | inr n ↦
          let o = product_support t u (product_between t l x r) v p n in
          let i = product_support t l x r (middle u v p) o.nonzero in
          let is : composite (concat u l) (middle l r (middle u v p)) (concat r v) ≡ p =
          composite-composite u l (middle l r (middle u v p)) r v ∙ ap (λ w. composite u w v) (composite-middle l r (middle u v p) i.between) ∙ composite-middle u v p o.between in
          absurd (both_ways (runs_between (concat u l) (concat r v) p) h (subst (λ w. runs_between (concat u l) (concat r v) w ≡ true) is (runs_between-composite (concat u l) (middle l r (middle u v p)) (concat r v))))
    ]
  ]
]

-- where they do not meet
pub product-product_apart : (t : ℕ) (u l : Path) (x : Path → ℕ) (r v : Path) → (u.end ≢ l.start) ⊎ (r.end ≢ v.start) → (p : Path)
    → product_between t u (product_between t l x r) v p ≡ 0
product-product_apart t u l x r v d p = elim (cases_eq (product_between t u (product_between t l x r) v p) 0) [
  | inl z ↦ z
  | inr n ↦
      let o = product_support t u (product_between t l x r) v p n in
      let ends = runs_between-ends l r (middle u v p) (product_support t l x r (middle u v p) o.nonzero).between in
      absurd (elim d [
        | inl e ↦ e (middle-start u v p ∙ ends.0)
        | inr e ↦ e (sym ends.1 ∙ middle-end u v p)
      ])
]

pub product-mul : (q : Gf) (t c : ℕ) (u : Path) (x : Path → ℕ) (v p : Path) → product_between t u (λ r. mul q c (x r)) v p ≡ mul q c (product_between t u x v p)
unfolding product_between
product-mul q t c u x v p = elim (cases_Bool (ltb (path_length p) t && runs_between u v p)) [
  | inl e ↦ rw e refl
  | inr e ↦ rw e (sym (mul_zero q c))
]

pub product-nothing : (t : ℕ) (u v p : Path) → product_between t u (λ _. 0) v p ≡ 0
product-nothing t u v p = elim (cases_eq (product_between t u (λ _. 0) v p) 0) [ inl z ↦ z | inr n ↦ absurd ((product_support t u (λ _. 0) v p n).nonzero refl) ]

-- What is linear and takes each product u·r·v to a member of the ideal takes members to members.
pub IsInIdeal-linear : (h : Header) (L : (Path → ℕ) → Path → ℕ) → IsLinear h.field L
    → ((u v : Path) (r : Relation) → IsPath h.quiver u → Contains h.relations r → IsPath h.quiver v → IsInIdeal h (L (product_between h.bound u (relation_element h r) v)))
    → (x : Path → ℕ) → IsInIdeal h x → IsInIdeal h (L x)
unfolding sum_of_summands summand_element
IsInIdeal-linear h L l f x m = IsInIdeal-same h (L (sum_of_summands h m.summands)) (L x) (linear-same L x (sum_of_summands h m.summands) m.value) (all m.summands m.lawful)
  where
    all : (summands : List Summand) → All (IsSummand h) summands → IsInIdeal h (L (sum_of_summands h summands))
    all [] a = IsInIdeal-same h (λ _. 0) _ (linear-zero h.field L l) (IsInIdeal-zero h)
    all (s ∷ rest) a =
        let lawful = All-head (IsSummand h) s rest a in
        let inner : Path → ℕ = product_between h.bound s.left (relation_element h s.relation) s.right in
        IsInIdeal-same h (λ p. add h.field (L (λ r. mul h.field s.coefficient (inner r)) p) (L (sum_of_summands h rest) p)) _
        (l.adds (λ r. mul h.field s.coefficient (inner r)) (sum_of_summands h rest))
        (IsInIdeal-add h _ _ (IsInIdeal-same h (λ p. mul h.field s.coefficient (L inner p)) _ (l.scales s.coefficient inner)
        (IsInIdeal-mul h s.coefficient (L inner) (f s.left s.right s.relation lawful.left lawful.relation lawful.right)))
        (all rest (All-tail (IsSummand h) s rest a)))

pub product-linear : (q : Gf) (t : ℕ) (u v : Path) → IsLinear q (λ x. product_between t u x v)
product-linear q t u v = record { adds = λ x y. product-add q t u x y v; scales = λ c x. product-mul q t c u x v }

pub IsInIdeal-between : (h : Header) (u v : Path) (x : Path → ℕ) → IsPath h.quiver u → IsPath h.quiver v → IsInIdeal h x → IsInIdeal h (product_between h.bound u x v)
IsInIdeal-between h u v x hu hv m = IsInIdeal-linear h (λ y. product_between h.bound u y v) (product-linear h.field h.bound u v) products x m
  where
    products : (l r : Path) (relation : Relation) → IsPath h.quiver l → Contains h.relations relation → IsPath h.quiver r
        → IsInIdeal h (product_between h.bound u (product_between h.bound l (relation_element h relation) r) v)
    products l r relation hl c hr = elim (cases_eq u.end l.start) [
      | inr d ↦ IsInIdeal-same h (λ _. 0) _ (product-product_apart h.bound u l (relation_element h relation) r v (inl d)) (IsInIdeal-zero h)
      | inl a ↦ elim (cases_eq r.end v.start) [
        | inr d ↦ IsInIdeal-same h (λ _. 0) _ (product-product_apart h.bound u l (relation_element h relation) r v (inr d)) (IsInIdeal-zero h)
        | inl b ↦ IsInIdeal-same h _ _ (product-product h.bound u l (relation_element h relation) r v a b)
            (IsInIdeal-product h (concat u l) (concat r v) relation (IsPath-concat h.quiver u l hu hl a) c (IsPath-concat h.quiver r v hr hv b))
      ]
    ]
