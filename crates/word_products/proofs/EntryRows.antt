-- The entries of a row that are not zero.
use Rattle.std.proofs.Common.{ℕ, ◌≡◌, ◌<◌, ◌+◌, inl, inr, List, [], ◌∷◌, ◌++◌, length, get_or, eqb, sym, ap, ap₂, ◌∙◌, subst, arith}
use Rattle.std.specs.Prelude.{All}
use Rattle.std.proofs.lemmas.Bool.{cases_lt, cond-true, cond-false, eq-eqb, ne_eqb}
use Rattle.std.proofs.lemmas.List.Elements.{All-nil, All-cons, All-append}
use Rattle.linear_algebra.specs.Field.{Gf, order, add}
use Rattle.linear_algebra.specs.FieldLaws.{order-pos, add_zero, zero_add}
use Rattle.linear_algebra.specs.Rows.{IsRow}
use Rattle.word_products.specs.declared.sparse.Entry.{Entry}
use Rattle.word_products.specs.SparseRows.{IsEntry, entry_at}
use Rattle.word_products.specs.WordProducts.{AreEntriesOf, IsPushed}
use Rattle.word_products.proofs.SparseActs.{entry_at-none, entry_at-push, entry_at_below}

pub entries-none : (q : Gf) (row : List ℕ) → AreEntriesOf q row 0 []
entries-none q row = record { small = All-nil (IsEntry q (length row)); within = λ j l. absurd (omega (arith, l)); past = λ j l. entry_at-none q j }

pub entries-skip : (q : Gf) (row : List ℕ) (k : ℕ) (entries : List Entry) → AreEntriesOf q row k entries → get_or row k 0 ≡ 0 → AreEntriesOf q row (k + 1) entries
entries-skip q row k entries a z = record {
  small = a.small;
  within = λ j l. elim (cases_lt j k) [
    | inl b ↦ a.within j b
    | inr b ↦
        let same : j ≡ k = omega (arith, l, b) in
        a.past j b ∙ sym (ap (λ i. get_or row i 0) same ∙ z)
  ];
  past = λ j l. a.past j (omega (arith, l));
}

pub entries-push : (q : Gf) (row : List ℕ) (k : ℕ) (entries : List Entry) (e : Entry) → IsRow q (length row) row → AreEntriesOf q row k entries → k < length row → e.word ≡ k → e.coef ≡ get_or row k 0
    → AreEntriesOf q row (k + 1) (entries ++ e ∷ [])
entries-push q row k entries e r a l w c = record {
  small = All-append (IsEntry q (length row)) entries (e ∷ []) a.small (All-cons (IsEntry q (length row)) e [] (record {
    small = subst (λ x. x < order q) (sym c) (r.small k);
    inside = subst (λ x. x < length row) (sym w) l;
  }) (All-nil (IsEntry q (length row))));
  within = λ j b. elim (cases_lt j k) [
    | inl d ↦ entry_at-push q entries e j ∙ ap (add q (entry_at q entries j)) (cond-false (eqb e.word j) e.coef 0 (ne_eqb _ _ (λ i. omega (arith, d, w, i))))
        ∙ add_zero q _ (entry_at_below q entries j) ∙ a.within j d
    | inr d ↦
        let same : j ≡ k = omega (arith, b, d) in
        entry_at-push q entries e j ∙ ap₂ (add q) (a.past j d) (cond-true (eqb e.word j) e.coef 0 (eq-eqb _ _ (w ∙ sym same)) ∙ c ∙ ap (λ i. get_or row i 0) (sym same))
        ∙ zero_add q (get_or row j 0) (r.small j)
  ];
  past = λ j b. entry_at-push q entries e j ∙ ap₂ (add q) (a.past j (omega (arith, b))) (cond-false (eqb e.word j) e.coef 0 (ne_eqb _ _ (λ i. omega (arith, b, w, i)))) ∙ add_zero q 0 (order-pos q);
}

pub row_counted : (q : Gf) (n : ℕ) (row : List ℕ) → IsRow q n row → IsRow q (length row) row
row_counted q n row r = subst (λ m. IsRow q m row) (sym r.count) r

-- the entries fit rows of the width and the field
pub entries_fit : (q q' : Gf) (width : ℕ) (row : List ℕ) (entries items : List Entry) → q' ≡ q → width ≡ length row → items ≡ entries → AreEntriesOf q row (length row) entries
    → All (IsEntry q' width) items
entries_fit q q' width row entries items e w i a = subst (All (IsEntry q' width)) (sym i) (subst (λ p. All (IsEntry p width) entries) (sym e) (subst (λ n. All (IsEntry q n) entries) (sym w) a.small))

pub pushed_of : (q q' : Gf) (row sum : List ℕ) (entries items : List Entry) (old new : List (List Entry)) → q' ≡ q → row ≡ sum → items ≡ entries → AreEntriesOf q row (length row) entries
    → new ≡ old ++ items ∷ [] → IsPushed q' old new sum
pushed_of q q' row sum entries items old new e r i a n = subst (λ p. IsPushed p old new sum) (sym e) (record {
  entries = entries;
  are = subst (λ x. AreEntriesOf q x (length x) entries) r a;
  pushed = n ∙ ap (λ x. old ++ x ∷ []) i;
})
