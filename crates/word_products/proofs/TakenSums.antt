-- Sums over the coefficients of a row that are taken out one after the other: what was made of them, and what is left, together stay the same.
use Rattle.std.proofs.Common.{ℕ, ◌≡◌, ◌<◌, ◌≤◌, ◌+◌, ◌*◌, ◌%◌, inl, inr, List, [], ◌∷◌, ◌++◌, length, get_or, set, eqb, if◌then◌else◌, refl, sym, ap, ap₂, ◌∙◌, subst, arith}
use Rattle.std.specs.Prelude.{All}
use Rattle.std.proofs.lemmas.Bool.{cases_eq, cond-true, cond-false, eq-eqb, ne_eqb}
use Rattle.std.proofs.lemmas.List.{length-set, ext_get_or}
use Rattle.std.proofs.lemmas.List.Elements.{All-nil, All-cons, All-append, All-contains}
use Rattle.linear_algebra.specs.Field.{Gf, order, add, mul}
use Rattle.linear_algebra.specs.FieldLaws.{add_below, mul_below, mod-mul, add_assoc, add_zero, zero_add, mul_zero, zero_mul}
use Rattle.linear_algebra.specs.Sums.{sum_to, sum-same, sum-add, sum-single, sum-zeros}
use Rattle.linear_algebra.specs.Rows.{IsRow, zeros}
use Rattle.word_products.specs.declared.sparse.Entry.{Entry}
use Rattle.word_products.specs.SparseRows.{IsEntry, entry_at, with_multiple, acted_by, plus_multiple}
use Rattle.word_products.specs.WordProducts.{AreEntriesOf}
use Rattle.path_algebra.proofs.SumsOver.{sum_over-zeros}
use Rattle.word_products.proofs.SparseActs.{entry_at-none, entry_at-push, entry_at_below, with_multiple-at, acted_to-at, length-acted_to, IsRow-acted_by}
use Rattle.word_products.proofs.TermSums.{plus_multiple-at, length-plus_multiple}
use Rattle.word_products.proofs.TouchedRows.{set-here, set-other, zeros-at}

-- a sum of which one coefficient is taken out
pub sum-taken : (q : Gf) (n : ℕ) (row : List ℕ) (p : ℕ) (w : ℕ → ℕ) → p < length row → p < n
    → sum_to q n (λ i. mul q (get_or row i 0) (w i)) ≡ add q (mul q (get_or row p 0) (w p)) (sum_to q n (λ i. mul q (get_or (set row p 0) i 0) (w i)))
sum-taken q n row p w inside l =
    sum-same q n _ (λ i. add q (alone i) (left i)) (λ i b. parts i)
    ∙ sum-add q n alone left
    ∙ ap (λ x. add q x (sum_to q n left)) (sum-single q n p alone l (λ i b d. cond-false (eqb i p) _ 0 (ne_eqb _ _ d))
    ∙ ap (λ x. x % order q) (cond-true (eqb p p) _ 0 (eq-eqb _ _ refl)) ∙ mod-mul q (get_or row p 0) (w p))
  where
    alone : ℕ → ℕ
    alone i = if eqb i p then mul q (get_or row p 0) (w p) else 0

    left : ℕ → ℕ
    left i = mul q (get_or (set row p 0) i 0) (w i)

    parts : (i : ℕ) → mul q (get_or row i 0) (w i) ≡ add q (alone i) (left i)
    parts i = elim (cases_eq i p) [
      | inl s ↦ sym (ap₂ (add q) (cond-true (eqb i p) _ 0 (eq-eqb _ _ s)) (ap (λ x. mul q x (w i)) (set-here row p i 0 s inside) ∙ zero_mul q (w i))
          ∙ add_zero q _ (mul_below q (get_or row p 0) (w p)) ∙ ap (λ k. mul q (get_or row k 0) (w k)) (sym s))
      | inr d ↦ sym (ap₂ (add q) (cond-false (eqb i p) _ 0 (ne_eqb _ _ d)) (ap (λ x. mul q x (w i)) (set-other row p i 0 d)) ∙ zero_add q _ (mul_below q (get_or row i 0) (w i)))
    ]

-- ---- an arrow acts on the coefficients that are taken out

module _ (q : Gf) (rows : List (List Entry)) (arrows a : ℕ) where
  acted-taken : (from : List ℕ) (p j : ℕ) → p < length from → j < length from
      → get_or (acted_by q rows arrows a from) j 0
      ≡ add q (mul q (get_or from p 0) (entry_at q (get_or rows (p * arrows + a) []) j)) (get_or (acted_by q rows arrows a (set from p 0)) j 0)
  acted-taken from p j l k =
      acted_to-at q rows arrows a from (length from) j k
      ∙ sum-taken q (length from) from p (λ i. entry_at q (get_or rows (i * arrows + a) []) j) l l
      ∙ ap (add q (mul q (get_or from p 0) (entry_at q (get_or rows (p * arrows + a) []) j)))
      (ap (λ m. sum_to q m (λ i. mul q (get_or (set from p 0) i 0) (entry_at q (get_or rows (i * arrows + a) []) j))) (sym (length-set from p 0))
      ∙ sym (acted_to-at q rows arrows a (set from p 0) (length (set from p 0)) j (subst (λ m. j < m) (sym (length-set from p 0)) k)))

  acted-zeros : (from : List ℕ) (n j : ℕ) → from ≡ zeros n → j < length from → get_or (acted_by q rows arrows a from) j 0 ≡ 0
  acted-zeros from n j e l = acted_to-at q rows arrows a from (length from) j l
      ∙ sum-zeros q (length from) _ (λ i b. ap (λ x. mul q x (entry_at q (get_or rows (i * arrows + a) []) j)) (ap (λ x. get_or x i 0) e ∙ zeros-at n i) ∙ zero_mul q _)

  -- what was made of the coefficients that were taken out of the row at the start, and what the arrow makes of those left
  pub record IsActing (n : ℕ) (start from into : List ℕ) : Type 0 where
    pub sums : (j : ℕ) → j < n → add q (get_or into j 0) (get_or (acted_by q rows arrows a from) j 0) ≡ get_or (acted_by q rows arrows a start) j 0

  pub acting-none : (n : ℕ) (start into : List ℕ) → IsRow q n start → into ≡ zeros n → IsActing n start start into
  acting-none n start into r e = record {
    sums = λ j l. ap (λ x. add q x (get_or (acted_by q rows arrows a start) j 0)) (ap (λ x. get_or x j 0) e ∙ zeros-at n j)
        ∙ zero_add q _ ((IsRow-acted_by q rows arrows a n start r).small j);
  }

  pub acting-more : (n : ℕ) (start from into from' into' : List ℕ) (p c : ℕ) (r : List Entry) → IsRow q n from → IsRow q n into → p < n → IsActing n start from into
      → c ≡ get_or from p 0 → r ≡ get_or rows (p * arrows + a) [] → from' ≡ set from p 0 → into' ≡ with_multiple q c r into → IsActing n start from' into'
  acting-more n start from into from' into' p c r hf hi lp h ec er ef ei = record {
    sums = λ j l.
        let e : ℕ = mul q (get_or from p 0) (entry_at q (get_or rows (p * arrows + a) []) j) in
        let rest : ℕ = get_or (acted_by q rows arrows a (set from p 0)) j 0 in
        ap₂ (add q) (ap (λ x. get_or x j 0) ei ∙ with_multiple-at q c r into j (subst (λ m. j < m) (sym hi.count) l)
        ∙ ap₂ (λ x y. add q (get_or into j 0) (mul q x (entry_at q y j))) ec er) (ap (λ x. get_or (acted_by q rows arrows a x) j 0) ef)
        ∙ add_assoc q (get_or into j 0) e rest
        ∙ ap (add q (get_or into j 0)) (sym (acted-taken from p j (subst (λ m. p < m) (sym hf.count) lp) (subst (λ m. j < m) (sym hf.count) l)))
        ∙ h.sums j l;
  }

  pub acting-all : (n : ℕ) (start from into : List ℕ) → IsRow q n start → IsRow q n into → from ≡ zeros n → length from ≡ n → IsActing n start from into → into ≡ acted_by q rows arrows a start
  acting-all n start from into hs hi e w h = ext_get_or 0 into (acted_by q rows arrows a start) (hi.count ∙ sym (length-acted_to q rows arrows a start (length start) ∙ hs.count))
      (λ j l.
      let b : j < n = subst (λ m. j < m) hi.count l in
      sym (ap (add q (get_or into j 0)) (acted-zeros from n j e (subst (λ m. j < m) (sym w) b)) ∙ add_zero q (get_or into j 0) (hi.small j)) ∙ h.sums j b)

-- ---- a multiple of the coefficients that are taken out is added

module _ (q : Gf) (f : ℕ) where
  pub record IsAdding (n : ℕ) (start begun from into : List ℕ) : Type 0 where
    pub sums : (j : ℕ) → j < n → add q (get_or into j 0) (mul q f (get_or from j 0)) ≡ add q (get_or begun j 0) (mul q f (get_or start j 0))

  pub adding-more : (n : ℕ) (start begun from into from' into' : List ℕ) (p c m : ℕ) → IsRow q n from → IsRow q n into → p < n → IsAdding n start begun from into
      → c ≡ get_or from p 0 → m ≡ mul q f c → from' ≡ set from p 0 → into' ≡ set into p (add q (get_or into p 0) m) → IsRow q n into' → IsAdding n start begun from' into'
  adding-more n start begun from into from' into' p c m hf hi lp h ec em ef ei hn = record {
    sums = λ j l. elim (cases_eq j p) [
      | inl s ↦ ap (λ k. add q (get_or into' k 0) (mul q f (get_or from' k 0))) s
          ∙ ap (add q (get_or into' p 0)) (ap (mul q f) (ap (λ x. get_or x p 0) ef ∙ set-here from p p 0 refl (subst (λ k. p < k) (sym hf.count) lp)) ∙ mul_zero q f)
          ∙ add_zero q (get_or into' p 0) (hn.small p)
          ∙ ap (λ x. get_or x p 0) ei ∙ set-here into p p _ refl (subst (λ k. p < k) (sym hi.count) lp)
          ∙ ap (add q (get_or into p 0)) (em ∙ ap (mul q f) ec)
          ∙ ap (λ k. add q (get_or into k 0) (mul q f (get_or from k 0))) (sym s)
          ∙ h.sums j l
      | inr o ↦ ap₂ (λ x y. add q x (mul q f y)) (ap (λ x. get_or x j 0) ei ∙ set-other into p j _ o) (ap (λ x. get_or x j 0) ef ∙ set-other from p j 0 o)
          ∙ h.sums j l
    ];
  }

  pub adding-all : (n : ℕ) (start begun from into : List ℕ) → IsRow q n begun → IsRow q n into → from ≡ zeros n → IsAdding n start begun from into → into ≡ plus_multiple q f start begun
  adding-all n start begun from into hb hi e h = ext_get_or 0 into (plus_multiple q f start begun) (hi.count ∙ sym (length-plus_multiple q f start begun ∙ hb.count))
      (λ j l.
      let b : j < n = subst (λ m. j < m) hi.count l in
      sym (ap (λ x. add q (get_or into j 0) (mul q f x)) (ap (λ x. get_or x j 0) e ∙ zeros-at n j) ∙ ap (add q (get_or into j 0)) (mul_zero q f) ∙ add_zero q (get_or into j 0) (hi.small j))
      ∙ h.sums j b ∙ sym (plus_multiple-at q f start begun j (subst (λ m. j < m) (sym hb.count) b)))

-- ---- the coefficients that are taken out are listed

module _ (q : Gf) where
  pub record IsTaking (n : ℕ) (start from : List ℕ) (entries : List Entry) : Type 0 where
    pub small : All (IsEntry q n) entries
    pub sums : (j : ℕ) → j < n → add q (entry_at q entries j) (get_or from j 0) ≡ get_or start j 0

  pub taking-none : (n : ℕ) (start : List ℕ) (entries : List Entry) → entries ≡ [] → IsRow q n start → IsTaking n start start entries
  taking-none n start entries e r = subst (IsTaking n start start) (sym e) (record {
    small = All-nil (IsEntry q n);
    sums = λ j l. ap (λ x. add q x (get_or start j 0)) (entry_at-none q j) ∙ zero_add q (get_or start j 0) (r.small j);
  })

  pub taking-push : (n : ℕ) (start from from' : List ℕ) (entries : List Entry) (e : Entry) → IsRow q n from → IsTaking n start from entries → IsEntry q n e → e.coef ≡ get_or from e.word 0
      → from' ≡ set from e.word 0 → IsTaking n start from' (entries ++ e ∷ [])
  taking-push n start from from' entries e hf h he ec ef = record {
    small = All-append (IsEntry q n) entries (e ∷ []) h.small (All-cons (IsEntry q n) e [] he (All-nil (IsEntry q n)));
    sums = λ j l. elim (cases_eq j e.word) [
      | inl s ↦ ap₂ (add q) (entry_at-push q entries e j ∙ ap (add q (entry_at q entries j)) (cond-true (eqb e.word j) e.coef 0 (eq-eqb _ _ (sym s)) ∙ ec ∙ ap (λ k. get_or from k 0) (sym s)) ∙ h.sums j l)
          (ap (λ x. get_or x j 0) ef ∙ set-here from e.word j 0 s (subst (λ m. e.word < m) (sym hf.count) he.inside))
          ∙ ends j l
      | inr o ↦ ap₂ (add q) (entry_at-push q entries e j ∙ ap (add q (entry_at q entries j)) (cond-false (eqb e.word j) e.coef 0 (ne_eqb _ _ (λ i. o (sym i))))
          ∙ add_zero q (entry_at q entries j) (entry_at_below q entries j))
          (ap (λ x. get_or x j 0) ef ∙ set-other from e.word j 0 o)
          ∙ h.sums j l
    ];
  }
    where
      ends : (j : ℕ) → j < n → add q (get_or start j 0) 0 ≡ get_or start j 0
      ends j l = add_zero q (get_or start j 0) (subst (λ x. x < order q) (h.sums j l) (sum_small j))
        where
          sum_small : (j : ℕ) → add q (entry_at q entries j) (get_or from j 0) < order q
          sum_small j = add_below q _ _

  past : (n : ℕ) (entries : List Entry) (j : ℕ) → All (IsEntry q n) entries → n ≤ j → entry_at q entries j ≡ 0
  unfolding entry_at
  past n entries j s l = sum_over-zeros q entries _ (λ e m. cond-false (eqb e.word j) e.coef 0 (ne_eqb _ _ (λ i. absurd (let b = (All-contains (IsEntry q n) entries e s m).inside in omega (arith, b, i, l)))))

  pub taking-all : (n : ℕ) (start from : List ℕ) (entries : List Entry) → IsRow q n start → from ≡ zeros n → IsTaking n start from entries → AreEntriesOf q start (length start) entries
  taking-all n start from entries r e h = record {
    small = subst (λ m. All (IsEntry q m) entries) (sym r.count) h.small;
    within = λ j l. sym (ap (add q (entry_at q entries j)) (ap (λ x. get_or x j 0) e ∙ zeros-at n j) ∙ add_zero q _ (entry_at_below q entries j)) ∙ h.sums j (subst (λ m. j < m) r.count l);
    past = λ j l. past n entries j h.small (subst (λ m. m ≤ j) r.count l);
  }
