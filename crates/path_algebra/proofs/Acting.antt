-- The action of arrows by reduction is linear; how it acts on words.
use Rattle.std.proofs.Common.{ℕ, ◌≡◌, ◌<◌, ◌⊎◌, inl, inr, List, [], ◌∷◌, ◌++◌, length, arith, Bool, true, false, if◌then◌else◌, eqb, ltb, refl, sym, ap, ap₂, ◌∙◌, subst}
use Rattle.std.specs.Prelude.{Contains}
use Rattle.std.proofs.lemmas.Bool.{cases_eq, cond-true, cond-false, eq-eqb, ne_eqb}
use Rattle.linear_algebra.specs.Field.{Gf, order, add, mul}
use Rattle.linear_algebra.specs.FieldLaws.{add_zero, zero_add, add_zero_zero, add_mul, mul_add, mul_zero, mul_one, zero_mul, mul_assoc, mul_left_comm, one_mul}
use Rattle.quiver_paths.specs.declared.Path.{Path}
use mathlib.Core.Path.{fun_ext}
use Rattle.quiver_paths.specs.Path.{IsPath, Leads, path_length, concat, arrow_path}
use Rattle.quiver_paths.proofs.PathLemmas.{IsPath-concat, IsPath-arrow, same_path}
use Rattle.std.proofs.lemmas.List.{append_assoc, append-nil}
use Rattle.quiver_paths.specs.PathOrder.{IsSmaller, IsAscending}
use Rattle.quiver_paths.specs.Quiver.{HasEnds, arrow_count, source}
use Rattle.quiver_paths.proofs.ListLemmas.{Contains-head, Contains-behind, Contains-cons_cases, Contains-nil, AllPairs-head, AllPairs-tail}
use Rattle.quiver_paths.proofs.PathOrderLemmas.{IsSmaller-irreflexive}
use Rattle.path_algebra.specs.declared.Term.{Term}
use Rattle.path_algebra.specs.declared.Header.{Header}
use Rattle.path_algebra.specs.Elements.{sum_over, path_element}
use Rattle.path_algebra.specs.Reduction.{act_arrow, act_arrows, act_terms}
use Rattle.path_algebra.proofs.Between.{cases_path}
use Rattle.path_algebra.proofs.ElementLemmas.{path_element-self, path_element-other}
use Rattle.path_algebra.proofs.Combinations.{IsCombination, AreDistinct}
use Rattle.path_algebra.proofs.SumsOver.{sum_over-same, sum_over-zeros, sum_over-add, mul-sum_over, sum_over-cons, IsLinear, linear-zero, linear-compose}

-- a sum of which one member of an ascending list has all
pub sum_over-one : (q : Gf) (xs : List Path) (f : Path → ℕ) (w : Path) → IsAscending xs → Contains xs w → f w < order q
    → ((v : Path) → Contains xs v → (v ≡ w → ⊥) → f v ≡ 0) → sum_over q xs f ≡ f w
sum_over-one q [] f w a m b z = absurd (Contains-nil w m)
sum_over-one q (x ∷ xs) f w a m b z = elim (cases_path x w) [
  | inl e ↦
      let others : (v : Path) → Contains xs v → f v ≡ 0 = λ v n. z v (Contains-behind x xs v n)
      (λ d. IsSmaller-irreflexive x (subst (IsSmaller x) (d ∙ sym e) (AllPairs-head IsSmaller x xs a v n))) in
      sum_over-cons q x xs f ∙ ap₂ (add q) (ap f e) (sum_over-zeros q xs f others) ∙ add_zero q (f w) b
  | inr d ↦
      let rest : sum_over q xs f ≡ f w = sum_over-one q xs f w (AllPairs-tail IsSmaller x xs a)
      (elim (Contains-cons_cases x xs w m) [ inl e ↦ absurd (d e) | inr n ↦ n ]) b (λ v n. z v (Contains-behind x xs v n)) in
      sum_over-cons q x xs f ∙ ap₂ (add q) (z x (Contains-head x xs) d) rest ∙ zero_add q (f w) b
]

-- a path is in a list or not
pub cases_listed : (ps : List Path) (p : Path) → Contains ps p ⊎ (Contains ps p → ⊥)
cases_listed [] p = inr (Contains-nil p)
cases_listed (x ∷ ps) p = elim (cases_path x p) [
  | inl e ↦ inl (subst (Contains (x ∷ ps)) e (Contains-head x ps))
  | inr n ↦ elim (cases_listed ps p) [
    | inl m ↦ inl (Contains-behind x ps p m)
    | inr d ↦ inr (λ m. elim (Contains-cons_cases x ps p m) [ inl e ↦ n e | inr c ↦ d c ])
  ]
]

pub chosen-add : (q : Gf) (b : Bool) (u v : ℕ) → (if b then add q u v else 0) ≡ add q (if b then u else 0) (if b then v else 0)
chosen-add q true u v = refl
chosen-add q false u v = sym (add_zero_zero q)

pub chosen-mul : (q : Gf) (b : Bool) (c u : ℕ) → (if b then mul q c u else 0) ≡ mul q c (if b then u else 0)
chosen-mul q true c u = refl
chosen-mul q false c u = sym (mul_zero q c)

-- a combination of words is the sum of its words
pub combination_sum : (h : Header) (words : List Path) → AreDistinct h.bound words → (x : Path → ℕ) → IsCombination h words x → (r : Path)
    → x r ≡ sum_over h.field words (λ w. mul h.field (x w) (path_element h.bound w r))
combination_sum h words d x s r = elim (cases_listed words r) [
  | inl m ↦
      let at : mul h.field (x r) (path_element h.bound r r) ≡ x r = ap (mul h.field (x r)) (path_element-self h.bound r (d.short r m)) ∙ mul_one h.field (x r) (s.small r) in
      sym (sum_over-one h.field words (λ w. mul h.field (x w) (path_element h.bound w r)) r d.ascending m (subst (λ n. n < order h.field) (sym at) (s.small r))
      (λ v n e. ap (mul h.field (x v)) (path_element-other h.bound v r e) ∙ mul_zero h.field (x v)) ∙ at)
  | inr n ↦ s.outside r n ∙ sym (sum_over-zeros h.field words _ (λ w m.
      ap (mul h.field (x w)) (path_element-other h.bound w r (λ e. n (subst (Contains words) e m))) ∙ mul_zero h.field (x w)))
]

pub chosen-zero : (b : Bool) → ◌≡◌ {A = ℕ} (if b then 0 else 0) 0
chosen-zero true = refl
chosen-zero false = refl

module _ (h : Header) (becomes : Path → Path → ℕ) (words : List Path) where
  pub act_arrow-linear : (a : ℕ) → IsLinear h.field (act_arrow h becomes words a)
  unfolding act_arrow
  act_arrow-linear a = record {
    adds = λ x y r.
        sum_over-same h.field words _ _ (λ w m. ap (λ z. if eqb w.end (source h.quiver a) then z else 0) (add_mul h.field (x w) (y w) _)
        ∙ chosen-add h.field (eqb w.end (source h.quiver a)) _ _)
        ∙ sum_over-add h.field words _ _;
    scales = λ c x r.
        sum_over-same h.field words _ _ (λ w m. ap (λ z. if eqb w.end (source h.quiver a) then z else 0) (mul_assoc h.field c (x w) _)
        ∙ chosen-mul h.field (eqb w.end (source h.quiver a)) c _)
        ∙ sym (mul-sum_over h.field c words _);
  }

  pub act_arrows-linear : (arrows : List ℕ) → IsLinear h.field (act_arrows h becomes words arrows)
  unfolding act_arrows
  act_arrows-linear [] = record { adds = λ x y r. refl; scales = λ c x r. refl }
  act_arrows-linear (a ∷ arrows) = linear-compose h.field (act_arrow h becomes words a) (act_arrows h becomes words arrows) (act_arrow-linear a) (act_arrows-linear arrows)

  pub act_terms-linear : (terms : List Term) → IsLinear h.field (act_terms h becomes words terms)
  unfolding act_terms
  act_terms-linear terms = record {
    adds = λ x y r.
        sum_over-same h.field terms _ _ (λ term m. ap (λ z. if ltb (path_length term.path) h.bound then z else 0)
        (ap (mul h.field term.coef) ((act_arrows-linear term.path.arrows).adds x y r) ∙ mul_add h.field term.coef _ _)
        ∙ chosen-add h.field (ltb (path_length term.path) h.bound) _ _)
        ∙ sum_over-add h.field terms _ _;
    scales = λ c x r.
        sum_over-same h.field terms _ _ (λ term m. ap (λ z. if ltb (path_length term.path) h.bound then z else 0)
        (ap (mul h.field term.coef) ((act_arrows-linear term.path.arrows).scales c x r) ∙ mul_left_comm h.field term.coef c _)
        ∙ chosen-mul h.field (ltb (path_length term.path) h.bound) c _)
        ∙ sym (mul-sum_over h.field c terms _);
  }

  pub act_arrows-append : (xs ys : List ℕ) (x : Path → ℕ) → act_arrows h becomes words (xs ++ ys) x ≡ act_arrows h becomes words ys (act_arrows h becomes words xs x)
  unfolding act_arrows
  act_arrows-append [] ys x = refl
  act_arrows-append (a ∷ xs) ys x = act_arrows-append xs ys (act_arrow h becomes words a x)

  -- an arrow on a word that it meets, and on a path that it does not meet
  pub act_arrow-word : (a : ℕ) (w r : Path) → IsAscending words → Contains words w → path_length w < h.bound → w.end ≡ source h.quiver a
      → becomes (concat w (arrow_path h.quiver a)) r < order h.field
      → act_arrow h becomes words a (path_element h.bound w) r ≡ becomes (concat w (arrow_path h.quiver a)) r
  unfolding act_arrow
  act_arrow-word a w r asc m s e b =
      let at : (if eqb w.end (source h.quiver a) then mul h.field (path_element h.bound w w) (becomes (concat w (arrow_path h.quiver a)) r) else 0) ≡ becomes (concat w (arrow_path h.quiver a)) r =
      cond-true (eqb w.end (source h.quiver a)) _ 0 (eq-eqb _ _ e) ∙ ap (λ c. mul h.field c (becomes (concat w (arrow_path h.quiver a)) r)) (path_element-self h.bound w s) ∙ one_mul h.field _ b in
      sum_over-one h.field words _ w asc m (subst (λ n. n < order h.field) (sym at) b)
      (λ v n d. ap (λ c. if eqb v.end (source h.quiver a) then mul h.field c (becomes (concat v (arrow_path h.quiver a)) r) else 0) (path_element-other h.bound w v (λ i. d (sym i)))
      ∙ ap (λ c. if eqb v.end (source h.quiver a) then c else 0) (zero_mul h.field _) ∙ chosen-zero (eqb v.end (source h.quiver a)))
      ∙ at

  -- an arrow on a path that it does not meet
  acts_apart : (a : ℕ) (w : Path) → (w.end ≡ source h.quiver a → ⊥) → act_arrow h becomes words a (path_element h.bound w) ≡ (λ r. 0)
  unfolding act_arrow
  acts_apart a w d = fun_ext (λ r. sum_over-zeros h.field words _ (λ v m. elim (cases_eq v.end (source h.quiver a)) [
    | inl e ↦ cond-true _ _ 0 (eq-eqb _ _ e)
        ∙ ap (λ c. mul h.field c (becomes (concat v (arrow_path h.quiver a)) r)) (path_element-other h.bound w v (λ i. d (ap (λ (x : Path). x.end) i ∙ e)))
        ∙ zero_mul h.field _
    | inr n ↦ cond-false _ _ 0 (ne_eqb _ _ n)
  ]))

  pub nothing_acts : (xs : List ℕ) (r : Path) → act_arrows h becomes words xs (λ p. 0) r ≡ 0
  nothing_acts xs r = linear-zero h.field (act_arrows h becomes words xs) (act_arrows-linear xs) r

  -- arrows that do not start where a path ends
  pub starts_apart : (xs : List ℕ) (w : Path) (s e : ℕ) → 0 < length xs → Leads h.quiver s xs e → (s ≡ w.end → ⊥) → (r : Path)
      → act_arrows h becomes words xs (path_element h.bound w) r ≡ 0
  unfolding act_arrows
  starts_apart [] w s e n l d r = absurd (omega (arith, n))
  starts_apart (a ∷ xs) w s e n l d r =
      ap (λ x. act_arrows h becomes words xs x r) (acts_apart a w (λ i. d (sym l.1 ∙ sym i))) ∙ nothing_acts xs r

  -- where one arrow takes what a path becomes to what the path with the arrow becomes, so do several
  pub along_by : HasEnds h.quiver
      → ((b : ℕ) → b < arrow_count h.quiver → (p : Path) → IsPath h.quiver p → p.end ≡ source h.quiver b → act_arrow h becomes words b (becomes p) ≡ becomes (concat p (arrow_path h.quiver b)))
      → (xs : List ℕ) (p : Path) (v : ℕ) → IsPath h.quiver p → Leads h.quiver p.end xs v
      → act_arrows h becomes words xs (becomes p) ≡ becomes (record { start = p.start; end = v; arrows = p.arrows ++ xs })
  unfolding act_arrows
  along_by e step [] p v hp l = ap becomes (same_path p (record { start = p.start; end = v; arrows = p.arrows ++ [] }) refl l (sym (append-nil p.arrows)))
  along_by e step (b ∷ xs) p v hp l =
      ap (act_arrows h becomes words xs) (step b l.0 p hp (sym l.1))
      ∙ along_by e step xs (concat p (arrow_path h.quiver b)) v (IsPath-concat h.quiver p (arrow_path h.quiver b) hp (IsPath-arrow h.quiver b e l.0) (sym l.1)) l.2
      ∙ ap becomes (same_path (record { start = p.start; end = v; arrows = (p.arrows ++ b ∷ []) ++ xs }) (record { start = p.start; end = v; arrows = p.arrows ++ b ∷ xs }) refl refl (append_assoc p.arrows (b ∷ []) xs))
