-- Sums of terms that act on a word, step by step.
use Rattle.std.proofs.Common.{ℕ, ◌≡◌, ◌≢◌, ◌<◌, ◌≤◌, ◌+◌, inl, inr, List, [], ◌∷◌, ◌++◌, length, take, get_or, set, Bool, true, false, ◌&&◌, eqb, ltb, if◌then◌else◌, sym, ap, ap₂, ◌∙◌, subst, arith}
use Rattle.std.specs.Prelude.{replicate}
use Rattle.std.proofs.lemmas.Bool.{cases_eq, cases_Bool, cond-true, cond-false, eq-eqb, ne_eqb, lt-ltb, le-ltb, ltb-true, eqb-true, and_parts, and_from}
use Rattle.std.proofs.lemmas.List.{get_or-replicate, length-replicate, get_or-set_same, get_or-set_other, length-set, take_more}
use Rattle.linear_algebra.specs.Field.{Gf, order, add, mul}
use Rattle.linear_algebra.specs.FieldLaws.{order-pos, one-lt-order, add_zero}
use Rattle.linear_algebra.specs.Rows.{IsRow, zeros, unit}
use Rattle.linear_algebra.proofs.Rows.{length-list_of, get_or-list_of, list_of-is}
use Rattle.quiver_paths.specs.declared.Path.{Path}
use Rattle.quiver_paths.specs.Path.{path_length}
use Rattle.path_algebra.specs.declared.Term.{Term}
use Rattle.word_products.specs.declared.sparse.Entry.{Entry}
use Rattle.path_algebra.specs.Elements.{sum_over}
use Rattle.word_products.specs.SparseRows.{SumView, acted_along, plus_multiple, counts, acted_terms}
use Rattle.word_products.proofs.SparseActs.{IsRow-list_of, add_right_zero}
use Rattle.path_algebra.proofs.SumsOver.{sum_over_below, sum_over-append, sum_over-nil, sum_over-cons}

pub zeros_are : (n : ℕ) → replicate n 0 ≡ zeros n
unfolding zeros
zeros_are n = list_of-is n (λ _. 0) (replicate n 0) 0 (length-replicate n 0) (λ j l. get_or-replicate n j 0 0 l)

pub IsRow-zeros : (q : Gf) (n : ℕ) → IsRow q n (zeros n)
unfolding zeros
IsRow-zeros q n = IsRow-list_of q n (λ _. 0) (λ j l. order-pos q)

pub IsRow-unit : (q : Gf) (n p : ℕ) → IsRow q n (unit n p)
unfolding unit
IsRow-unit q n p = IsRow-list_of q n _ (λ j l. chosen (eqb p j))
  where
    chosen : (b : Bool) → (if b then 1 else 0) < order q
    chosen true = one-lt-order q
    chosen false = order-pos q

pub unit-set : (n p : ℕ) → p < n → set (replicate n 0) p 1 ≡ unit n p
unfolding unit
unit-set n p l = list_of-is n _ (set (replicate n 0) p 1) 0 (length-set (replicate n 0) p 1 ∙ length-replicate n 0) (λ j b. elim (cases_eq j p) [
  | inl e ↦ ap (λ k. get_or (set (replicate n 0) p 1) k 0) e ∙ get_or-set_same (replicate n 0) p 1 0 (subst (λ m. p < m) (sym (length-replicate n 0)) l)
      ∙ sym (cond-true (eqb p j) 1 0 (eq-eqb _ _ (sym e)))
  | inr d ↦ get_or-set_other (replicate n 0) p j 1 0 d ∙ get_or-replicate n j 0 0 b ∙ sym (cond-false (eqb p j) 1 0 (ne_eqb _ _ (λ i. d (sym i))))
])

-- ---- a multiple of a row

pub length-plus_multiple : (q : Gf) (f : ℕ) (from row : List ℕ) → length (plus_multiple q f from row) ≡ length row
unfolding plus_multiple
length-plus_multiple q f from row = length-list_of (length row) _

pub plus_multiple-at : (q : Gf) (f : ℕ) (from row : List ℕ) (j : ℕ) → j < length row
    → get_or (plus_multiple q f from row) j 0 ≡ add q (get_or row j 0) (mul q f (get_or from j 0))
unfolding plus_multiple
plus_multiple-at q f from row j l = get_or-list_of (length row) _ j 0 l

-- ---- terms that count

pub counts-met : (bound : ℕ) (like : Path) (term : Term) → path_length term.path < bound → term.path.start ≡ like.start → eqb term.path.end like.end ≡ counts bound like term
unfolding counts
counts-met bound like term l s = sym (ap₂ (λ x y. x && (y && eqb term.path.end like.end)) (lt-ltb _ _ l) (eq-eqb _ _ s))

pub counts-apart : (bound : ℕ) (like : Path) (term : Term) → path_length term.path < bound → term.path.start ≢ like.start → eqb term.path.start like.start ≡ counts bound like term
unfolding counts
counts-apart bound like term l s = ne_eqb _ _ s ∙ sym (ap₂ (λ x y. x && (y && eqb term.path.end like.end)) (lt-ltb _ _ l) (ne_eqb _ _ s))

pub counts-long : (bound : ℕ) (like : Path) (term : Term) (n : ℕ) → n ≡ path_length term.path → bound ≤ n → ltb n bound ≡ counts bound like term
unfolding counts
counts-long bound like term n e l = le-ltb _ _ l ∙ sym (ap (λ x. x && (eqb term.path.start like.start && eqb term.path.end like.end)) (le-ltb (path_length term.path) bound (omega (arith, e, l))))

-- ---- sums

module _ (q : Gf) (rows : List (List Entry)) (arrows bound : ℕ) (like : Path) where
  pub acted_terms-none : (n : ℕ) (row : List ℕ) → length row ≡ n → zeros n ≡ acted_terms q rows arrows bound like [] row
  unfolding acted_terms zeros
  acted_terms-none n row e = list_of-is (length row) _ (zeros n) 0 (length-list_of n (λ _. 0) ∙ sym e)
      (λ j l. get_or-list_of n (λ _. 0) j 0 (omega (arith, l, e)) ∙ sym (sum_over-nil {X = Term} q _))

  pub acted_terms-push : (terms : List Term) (term : Term) (row : List ℕ)
      → (if counts bound like term then plus_multiple q term.coef (acted_along q rows arrows term.path.arrows row) (acted_terms q rows arrows bound like terms row) else acted_terms q rows arrows bound like terms row)
      ≡ acted_terms q rows arrows bound like (terms ++ term ∷ []) row
  unfolding acted_terms
  acted_terms-push terms term row = elim (cases_Bool (counts bound like term)) [
    | inl c ↦ cond-true (counts bound like term) _ _ c
        ∙ list_of-is (length row) _ (plus_multiple q term.coef along sum) 0 (length-plus_multiple q term.coef along sum ∙ width)
        (λ j l. plus_multiple-at q term.coef along sum j (subst (λ n. j < n) (sym width) l) ∙ ap (λ x. add q x (mul q term.coef (get_or along j 0))) (sum-at j l)
        ∙ ap (add q (sum_over q terms (part j))) (sym (cond-true (counts bound like term) _ _ c)) ∙ last j)
    | inr c ↦ cond-false (counts bound like term) _ _ c
        ∙ list_of-is (length row) _ sum 0 width (λ j l. sum-at j l ∙ sym (sum_over-append q terms (term ∷ []) (part j) ∙ ap (add q (sum_over q terms (part j))) (sum_over-cons q term [] (part j)
        ∙ ap₂ (add q) (cond-false (counts bound like term) _ _ c) (sum_over-nil {X = Term} q (part j))) ∙ add_right_zero q (sum_over q terms (part j)) 0 ∙ small j))
  ]
    where
      along : List ℕ
      along = acted_along q rows arrows term.path.arrows row

      sum : List ℕ
      sum = acted_terms q rows arrows bound like terms row

      part : ℕ → Term → ℕ
      part j x = if counts bound like x then mul q x.coef (get_or (acted_along q rows arrows x.path.arrows row) j 0) else 0

      width : length sum ≡ length row
      width = length-list_of (length row) _

      sum-at : (j : ℕ) → j < length row → get_or sum j 0 ≡ sum_over q terms (part j)
      sum-at j l = get_or-list_of (length row) _ j 0 l

      small : (j : ℕ) → add q (sum_over q terms (part j)) 0 ≡ sum_over q terms (part j)
      small j = add_zero q (sum_over q terms (part j)) (sum_over_below q terms (part j))

      last : (j : ℕ) → add q (sum_over q terms (part j)) (part j term) ≡ sum_over q (terms ++ term ∷ []) (part j)
      last j = sym (sum_over-append q terms (term ∷ []) (part j) ∙ ap (add q (sum_over q terms (part j))) (sum_over-cons q term [] (part j)
          ∙ ap (add q (part j term)) (sum_over-nil {X = Term} q (part j))) ∙ add_right_zero q (sum_over q terms (part j)) (part j term))

  pub sum_begun : (place : ℕ) (s : SumView) (f : Gf) (w : ℕ) → s ≡ record { field = f; width = w; sum = zeros w }
      → s ≡ record { field = s.field; width = s.width; sum = acted_terms q rows arrows bound like [] (unit s.width place) }
  unfolding unit
  sum_begun place s f w e = subst (λ (x : SumView). x ≡ record { field = x.field; width = x.width; sum = acted_terms q rows arrows bound like [] (unit x.width place) }) (sym e)
      (ap (λ x. record { field = f; width = w; sum = x }) (acted_terms-none w (unit w place) (length-list_of w _)))

  pub sum_step : (place : ℕ) (terms : List Term) (k : ℕ) (term : Term) (w : ℕ) (s s' : SumView) → k < length terms → term ≡ get_or terms k term
      → s ≡ record { field = q; width = w; sum = acted_terms q rows arrows bound like (take k terms) (unit w place) }
      → s' ≡ record {
        field = s.field;
        width = s.width;
        sum = if counts bound like term
            then plus_multiple s.field term.coef (acted_along s.field rows arrows term.path.arrows (unit s.width place)) s.sum else s.sum;
      }
      → s' ≡ record { field = q; width = w; sum = acted_terms q rows arrows bound like (take (k + 1) terms) (unit w place) }
  sum_step place terms k term w s s' l i e n =
      n ∙ ap (λ (x : SumView). record {
        field = x.field;
        width = x.width;
        sum = if counts bound like term
            then plus_multiple x.field term.coef (acted_along x.field rows arrows term.path.arrows (unit x.width place)) x.sum else x.sum;
      }) e
      ∙ ap (λ y. record { field = q; width = w; sum = y }) (acted_terms-push (take k terms) term (unit w place)
      ∙ ap (λ xs. acted_terms q rows arrows bound like xs (unit w place)) (ap (λ x. take k terms ++ x ∷ []) i ∙ sym (take_more terms k term l)))

pub row_moved : (q q' : Gf) (n m : ℕ) (x : List ℕ) → q' ≡ q → m ≡ n → IsRow q n x → IsRow q' m x
row_moved q q' n m x e l r = subst (λ p. IsRow p m x) (sym e) (subst (λ k. IsRow q k x) (sym l) r)

pub acted_terms-at : (q : Gf) (rows : List (List Entry)) (arrows bound : ℕ) (like : Path) (terms : List Term) (row : List ℕ) (j : ℕ) → j < length row
    → get_or (acted_terms q rows arrows bound like terms row) j 0
    ≡ sum_over q terms (λ x. if counts bound like x then mul q x.coef (get_or (acted_along q rows arrows x.path.arrows row) j 0) else 0)
unfolding acted_terms
acted_terms-at q rows arrows bound like terms row j l = get_or-list_of (length row) _ j 0 l

pub length-acted_terms : (q : Gf) (rows : List (List Entry)) (arrows bound : ℕ) (like : Path) (terms : List Term) (row : List ℕ)
    → length (acted_terms q rows arrows bound like terms row) ≡ length row
unfolding acted_terms
length-acted_terms q rows arrows bound like terms row = length-list_of (length row) _

-- what a term that counts is
pub record DoesCount (bound : ℕ) (like : Path) (term : Term) : Type 0 where
  pub short : path_length term.path < bound
  pub starts : term.path.start ≡ like.start
  pub ends : term.path.end ≡ like.end

pub counts-true : (bound : ℕ) (like : Path) (term : Term) → counts bound like term ≡ true → DoesCount bound like term
unfolding counts
counts-true bound like term e =
    let one = and_parts (ltb (path_length term.path) bound) (eqb term.path.start like.start && eqb term.path.end like.end) e in
    let two = and_parts (eqb term.path.start like.start) (eqb term.path.end like.end) one.1 in
    record { short = ltb-true _ _ one.0; starts = eqb-true _ _ two.0; ends = eqb-true _ _ two.1 }

pub counts-from : (bound : ℕ) (like : Path) (term : Term) → DoesCount bound like term → counts bound like term ≡ true
unfolding counts
counts-from bound like term d = and_from _ _ (lt-ltb _ _ d.short) (and_from _ _ (eq-eqb _ _ d.starts) (eq-eqb _ _ d.ends))
