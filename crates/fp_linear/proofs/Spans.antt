-- The three steps of a column keep the span of the rows.
use Rattle.std.proofs.Common.{ℕ, ◌<◌, ◌≡◌, ◌≢◌, ◌⊎◌, inl, inr, List, cond, eqb, refl, sym, ap, ◌∙◌}
use Rattle.std.proofs.lemmas.Bool.Decides.{eqb_tells}
use Rattle.linear_algebra.specs.Field.{Gf, add, mul, neg}
use Rattle.linear_algebra.specs.FieldLaws.{zero_mul, add_zero, mul_one, one-lt-order, one_mul}
use Rattle.linear_algebra.specs.Rows.{entry, rows_of, SameSpan}
use Rattle.linear_algebra.proofs.RowSteps.{SameSpan-moved, SameSpan-scaled, SameSpan-added}
use Rattle.fp_linear.specs.Slices.{cell, AreElements}
use Rattle.fp_linear.specs.Elimination.{AreExchanged, IsScaled, IsCleared}
use Rattle.fp_linear.proofs.Cells.{cell-entry, IsGrid-rows_of, cell_small}

-- the exchange of a and b
exchange : ℕ → ℕ → ℕ → ℕ
exchange a b i = cond (eqb i a) b (cond (eqb i b) a i)

exchange-cases : (a b i : ℕ) → ((i ≡ a) × (exchange a b i ≡ b)) ⊎ (((i ≢ a) × (i ≡ b) × (exchange a b i ≡ a)) ⊎ ((i ≢ a) × (i ≢ b) × (exchange a b i ≡ i)))
unfolding exchange
exchange-cases a b i =
    elim (eqb_tells i a) [
      | inl e ↦ inl (e.1, ap (λ t. cond t b (cond (eqb i b) a i)) e.0)
      | inr e ↦ elim (eqb_tells i b) [
        | inl f ↦ inr (inl (e.1, f.1, ap (λ t. cond t b (cond (eqb i b) a i)) e.0 ∙ ap (λ t. cond t a i) f.0))
        | inr f ↦ inr (inr (e.1, f.1, ap (λ t. cond t b (cond (eqb i b) a i)) e.0 ∙ ap (λ t. cond t a i) f.0))
      ]
    ]

exchange-inside : (m a b i : ℕ) → a < m → b < m → i < m → exchange a b i < m
exchange-inside m a b i ha hb h =
    elim (exchange-cases a b i) [ inl e ↦ rw e.1 hb | inr e ↦ elim e [ inl f ↦ rw f.2 ha | inr f ↦ rw f.2 h ] ]

pub SameSpan-exchanged : (q : Gf) (m n a b : ℕ) (old new : List ℕ) → AreElements q old → AreElements q new → a < m → b < m → AreExchanged m n a b (cell n old) (cell n new) → SameSpan q n (rows_of m n old) (rows_of m n new)
SameSpan-exchanged q m n a b old new ho hn ha hb x =
    SameSpan-moved q m n (rows_of m n old) (rows_of m n new) (exchange a b) (exchange a b) (IsGrid-rows_of q m n old ho) (IsGrid-rows_of q m n new hn)
    (λ i l. exchange-inside m a b i ha hb l) (λ i l. exchange-inside m a b i ha hb l)
    (λ i j l k. cell-entry m n new i j l k ∙ forth i j l k ∙ sym (cell-entry m n old (exchange a b i) j (exchange-inside m a b i ha hb l) k))
    (λ i j l k. cell-entry m n old i j l k ∙ back i j l k ∙ sym (cell-entry m n new (exchange a b i) j (exchange-inside m a b i ha hb l) k))
  where
    forth : (i j : ℕ) → i < m → j < n → cell n new i j ≡ cell n old (exchange a b i) j
    forth i j l k = elim (exchange-cases a b i) [
      | inl e ↦ ap (λ i. cell n new i j) e.0 ∙ x.first j k ∙ ap (λ i. cell n old i j) (sym e.1)
      | inr e ↦ elim e [
        | inl f ↦ ap (λ i. cell n new i j) f.1 ∙ x.second j k ∙ ap (λ i. cell n old i j) (sym f.2)
        | inr f ↦ x.others i j l k f.0 f.1 ∙ ap (λ i. cell n old i j) (sym f.2)
      ]
    ]

    back : (i j : ℕ) → i < m → j < n → cell n old i j ≡ cell n new (exchange a b i) j
    back i j l k = elim (exchange-cases a b i) [
      | inl e ↦ ap (λ i. cell n old i j) e.0 ∙ sym (x.second j k) ∙ ap (λ i. cell n new i j) (sym e.1)
      | inr e ↦ elim e [
        | inl f ↦ ap (λ i. cell n old i j) f.1 ∙ sym (x.first j k) ∙ ap (λ i. cell n new i j) (sym f.2)
        | inr f ↦ sym (x.others i j l k f.0 f.1) ∙ ap (λ i. cell n new i j) (sym f.2)
      ]
    ]

pub SameSpan-is_scaled : (q : Gf) (m n r a b : ℕ) (old new : List ℕ) → AreElements q old → AreElements q new → mul q b a ≡ 1 → IsScaled q m n r a (cell n old) (cell n new) → SameSpan q n (rows_of m n old) (rows_of m n new)
SameSpan-is_scaled q m n r a b old new ho hn u x =
    SameSpan-scaled q m n (rows_of m n old) (rows_of m n new) (λ i. cond (eqb i r) a 1) (λ i. cond (eqb i r) b 1) (IsGrid-rows_of q m n old ho) (IsGrid-rows_of q m n new hn)
    (λ i l. elim (eqb_tells i r) [
      | inl e ↦ ap (λ t. mul q (cond t b 1) (cond t a 1)) e.0 ∙ u
      | inr e ↦ ap (λ t. mul q (cond t b 1) (cond t a 1)) e.0 ∙ mul_one q 1 (one-lt-order q)
    ])
    (λ i j l k. cell-entry m n new i j l k ∙ elim (eqb_tells i r) [
      | inl e ↦ ap (λ i. cell n new i j) e.1 ∙ x.row j k ∙ ap (λ i. mul q a (cell n old i j)) (sym e.1) ∙ ap (mul q a) (sym (cell-entry m n old i j l k)) ∙ ap (λ t. mul q (cond t a 1) (entry (rows_of m n old) i j)) (sym e.0)
      | inr e ↦ x.others i j l k e.1 ∙ sym (ap (λ t. mul q (cond t a 1) (entry (rows_of m n old) i j)) e.0 ∙ ap (mul q 1) (cell-entry m n old i j l k) ∙ one_mul q _ (cell_small q n old i j ho))
    ])

pub SameSpan-is_cleared : (q : Gf) (m n r c : ℕ) (old new : List ℕ) → AreElements q old → AreElements q new → r < m → IsCleared q m n r c (cell n old) (cell n new) → SameSpan q n (rows_of m n old) (rows_of m n new)
SameSpan-is_cleared q m n r c old new ho hn hr x =
    SameSpan-added q m n (rows_of m n old) (rows_of m n new) r (λ i. cond (eqb i r) 0 (neg q (cell n old i c))) (IsGrid-rows_of q m n old ho) (IsGrid-rows_of q m n new hn) hr
    (elim (eqb_tells r r) [ inl e ↦ ap (λ t. cond t 0 (neg q (cell n old r c))) e.0 | inr e ↦ absurd (e.1 refl) ])
    (λ i j l k. cell-entry m n new i j l k ∙ plain i j l k ∙ sym (ap (λ y. add q y (mul q (cond (eqb i r) 0 (neg q (cell n old i c))) (entry (rows_of m n old) r j))) (cell-entry m n old i j l k) ∙ ap (λ y. add q (cell n old i j) (mul q (cond (eqb i r) 0 (neg q (cell n old i c))) y)) (cell-entry m n old r j hr k)))
  where
    plain : (i j : ℕ) → i < m → j < n → cell n new i j ≡ add q (cell n old i j) (mul q (cond (eqb i r) 0 (neg q (cell n old i c))) (cell n old r j))
    plain i j l k = elim (eqb_tells i r) [
      | inl e ↦ ap (λ i. cell n new i j) e.1 ∙ x.row j k ∙ ap (λ i. cell n old i j) (sym e.1)
          ∙ sym (ap (λ t. add q (cell n old i j) (mul q (cond t 0 (neg q (cell n old i c))) (cell n old r j))) e.0 ∙ ap (add q (cell n old i j)) (zero_mul q _) ∙ add_zero q _ (cell_small q n old i j ho))
      | inr e ↦ x.others i j l k e.1 ∙ sym (ap (λ t. add q (cell n old i j) (mul q (cond t 0 (neg q (cell n old i c))) (cell n old r j))) e.0)
    ]
