-- Rows that go along the arrows of paths, arrow by arrow.
use Rattle.std.specs.Prelude.{slice_index, slice_index_or}
use Rattle.std.proofs.Common.{set, ltb, lt-ltb, le-ltb, get_or-set_same, get_or-set_other, ℕ, zero, suc, ◌<◌, ◌≤◌, ◌≡◌, ◌+◌, ◌-◌, List, [], length, get_or, inl, inr, refl, sym, ap, ap₂, ◌∙◌, arith, subst, add-one}
use Rattle.linear_algebra.specs.Field.{Gf, add, mul}
use Rattle.linear_algebra.specs.FieldLaws.{mul_zero, add_zero_zero}
use Rattle.linear_algebra.specs.Sums.{sum-none, sum-suc, sum-ext, sum-zeros}
use Rattle.linear_algebra.specs.Rows.{entry, IsGrid}
use Rattle.fp_linear.specs.Matrix.{PlainMatrix}
use Rattle.representations.specs.Quiver.{Quiver}
use Rattle.representations.specs.Rep.{Rep}
use Rattle.module_types.specs.declared.Side.{Side}
use Rattle.module_types.specs.declared.Side.TheVariants.{Right, Left}
use Rattle.path_algebra.specs.declared.Term.{Term}
use Rattle.linear_algebra.proofs.Rows.{row-entry, entry_past}
use Rattle.std.proofs.lemmas.Bool.{cases_lt, cases_eq, cond-true, cond-false}
use Rattle.linear_algebra.specs.Matrix.{delta, delta-same, delta-other}
use Rattle.linear_algebra.proofs.BlockFamilies.{total_grows}
use Rattle.fp_linear.specs.Slices.{AreElements, plus_multiple}
use Rattle.fp_linear.specs.Meeting.{IsClearFrom}
use Rattle.fp_linear.proofs.Slices.{plus-at, length-plus}
use Rattle.bound_algebra.specs.BoundAlgebra.{term_at}
use Rattle.module_types.specs.Readings.{dim_at}
use Rattle.module_types.specs.Shapes.{dimension}
use Rattle.std.proofs.lemmas.List.{get_or_past, get_or_default}
use Rattle.module_types.specs.Walks.{step}
use Rattle.module_checks.specs.RowWalks.{row_entry, IsRowTimes, arrow_in_turn, along_first, along_all, IsMovedBy, IsArrowsMoved, IsTermAdded, relation_entry}
use Rattle.module_checks.proofs.HomRank.{IsPlainOf}

pub row-more : (q : Gf) (n : ℕ) (s : List ℕ) (m : PlainMatrix) (j : ℕ) → row_entry q (n + 1) s m j ≡ add q (row_entry q n s m j) (mul q (get_or s n 0) (entry m.rows n j))
row-more q n s m j = rw add-one (sum-suc q n _)

-- Past the columns there is zero.
grid-past : {q : Gf} {k l : ℕ} {rows : List (List ℕ)} (g : IsGrid q k l rows) (i j : ℕ) → l ≤ j → entry rows i j ≡ 0
grid-past {k = k} {rows = rows} g i j h = elim (cases_lt i k) [
  | inl a ↦ sym (row-entry rows i j) ∙ get_or_past (get_or rows i []) j 0 (let w = g.width i a in omega arith)
  | inr b ↦ entry_past rows i j (let c = g.count in omega arith)
]

pub row-past : (q : Gf) {r : Gf} {k l : ℕ} (n : ℕ) (s : List ℕ) (m : PlainMatrix) (j : ℕ) → IsGrid r k l m.rows → l ≤ j → row_entry q n s m j ≡ 0
row-past q n s m j g h = sum-zeros q n _ (λ t l. ap (mul q (get_or s t 0)) (grid-past g t j h) ∙ mul_zero q (get_or s t 0))

module _ {q : Gf} {Q : Quiver} (X : Rep q Q) (side : Side) where
  pub step_same : (a : ℕ) (f g : ℕ → ℕ) → ((j : ℕ) → f j ≡ g j) → (j : ℕ) → step X a f j ≡ step X a g j
  unfolding step
  step_same a f g e j = sum-ext q (X.dim (Q.source a)) _ _ (λ t. ap (λ z. mul q z ((X.mat a).at t j)) (e t))

  -- the printed matrix of an arrow takes a row one step
  step_of_times : (a : ℕ) (m : PlainMatrix) (s new : List ℕ) → IsPlainOf m (X.mat a) → IsRowTimes q m s new → (j : ℕ) → get_or new j 0 ≡ step X a (λ t. get_or s t 0) j
  unfolding step
  step_of_times a m s new p h j = h.at j ∙ ap (λ n. row_entry q n s m j) p.row_count ∙ sum-ext q (X.dim (Q.source a)) _ _ (λ t. ap (mul q (get_or s t 0)) (p.entries t j))

  pub moved-none : (arrows s : List ℕ) → IsMovedBy X side 0 arrows s s
  moved-none arrows s = record { at = λ j. refl }

  pub moved-more : (k : ℕ) (arrows first old new : List ℕ) (m : PlainMatrix) (a : ℕ) → a ≡ arrow_in_turn side arrows k → IsPlainOf m (X.mat a) → IsMovedBy X side k arrows first old → IsRowTimes q m old new
      → IsMovedBy X side (k + 1) arrows first new
  moved-more k arrows first old new m a e p h t = record {
    at = λ j. rw add-one (step_of_times a m old new p t j ∙ step_same a (λ t. get_or old t 0) (along_first X side arrows k (λ t. get_or first t 0)) h.at j
        ∙ ap (λ b. step X b (along_first X side arrows k (λ t. get_or first t 0)) j) e);
  }

  pub moved-all : (k : ℕ) (arrows first new : List ℕ) → k ≡ length arrows → IsMovedBy X side k arrows first new → IsArrowsMoved X side arrows first new
  moved-all k arrows first new e h = record { at = λ j. h.at j ∙ ap (λ k. along_first X side arrows k (λ t. get_or first t 0) j) e }

  -- a slice that holds the first n terms of a relation in row i
  pub record HoldsTerms (terms : List Term) (n i : ℕ) (s : List ℕ) : Type 0 where
    pub at : (j : ℕ) → get_or s j 0 ≡ relation_entry X side terms n i j

pub turn_below : (side : Side) (arrows : List ℕ) (n k : ℕ) → ((i : ℕ) → i < length arrows → get_or arrows i 0 < n) → k < length arrows → arrow_in_turn side arrows k < n
turn_below Right arrows n k h l = h k l
turn_below Left arrows n k h l = h (length arrows - suc k) (omega arith)

-- A dimension at a vertex is at most the dimension.
pub dim_within : (Q : Quiver) (dims : List ℕ) (v : ℕ) → dim_at Q dims v ≤ dimension dims
unfolding dim_at
dim_within Q dims v = elim (cases_lt v Q.vertices) [
  | inl l ↦ rw (cond-true (ltb v Q.vertices) (slice_index dims v) zero (lt-ltb v Q.vertices l)) (place l)
  | inr l ↦ rw (cond-false (ltb v Q.vertices) (slice_index dims v) zero (le-ltb v Q.vertices l)) (omega arith)
]
  where
    place : v < Q.vertices → slice_index dims v ≤ dimension dims
    place l = elim (cases_lt v (length dims)) [
      | inl l ↦ let g = total_grows (slice_index dims) (length dims) v l in omega arith
      | inr l ↦ let e = get_or_past dims v 0 l in omega arith
    ]

-- A term behind others.
module _ {q : Gf} {Q : Quiver} (X : Rep q Q) (side : Side) where
  pub terms-none : (terms : List Term) (i : ℕ) (s : List ℕ) → IsClearFrom 0 s → HoldsTerms X side terms 0 i s
  terms-none terms i s c = record { at = λ j. c.clear j (omega arith) ∙ sym (sum-none q _) }

  pub terms-more : (terms : List Term) (n i : ℕ) (term : Term) (old new : List ℕ) → term ≡ term_at terms n → HoldsTerms X side terms n i old → IsTermAdded X side term i old new → HoldsTerms X side terms (n + 1) i new
  terms-more terms n i term old new e h a = record {
    at = λ j. rw add-one (a.at j ∙ ap₂ (add q) (h.at j) (ap (λ (t : Term). mul q t.coef (along_all X side t.path.arrows (delta i) j)) e) ∙ sym (sum-suc q n _));
  }

  pub along_same : (arrows : List ℕ) (k : ℕ) (f g : ℕ → ℕ) → ((j : ℕ) → f j ≡ g j) → (j : ℕ) → along_first X side arrows k f j ≡ along_first X side arrows k g j
  along_same arrows zero f g e j = e j
  along_same arrows (suc k) f g e j = step_same X side (arrow_in_turn side arrows k) _ _ (along_same arrows k f g e) j

  pub term_added : (term : Term) (i : ℕ) (clear unit row old new : List ℕ) → IsClearFrom 0 clear → unit ≡ set clear i 1 → i < length clear → length row ≡ length old → IsArrowsMoved X side term.path.arrows unit row
      → AreElements q row → new ≡ plus_multiple q term.coef row old → IsTermAdded X side term i old new
  term_added term i clear unit row old new c u l len m el e = record {
    at = λ j. elim (cases_lt j (length old)) [
      | inl below ↦ ap (λ s. get_or s j 0) e ∙ plus-at q term.coef row old j below ∙ ap (λ z. add q (get_or old j 0) (mul q term.coef z)) (goes j)
      | inr past ↦
          get_or_past new j 0 (let d = ap length e ∙ length-plus q term.coef row old in omega arith)
          ∙ sym (ap₂ (λ a b. add q a (mul q term.coef b)) (get_or_past old j 0 past) (sym (goes j) ∙ get_or_past row j 0 (omega arith)) ∙ ap (add q 0) (mul_zero q term.coef) ∙ add_zero_zero q)
    ];
  }
    where
      is_unit : (j : ℕ) → get_or unit j 0 ≡ delta i j
      is_unit j = elim (cases_eq i j) [
        | inl same ↦ ap (λ s. get_or s j 0) u ∙ subst (λ k. get_or (set clear i 1) k 0 ≡ delta i k) same (get_or-set_same clear i 1 0 l ∙ sym (delta-same i))
        | inr other ↦ ap (λ s. get_or s j 0) u ∙ get_or-set_other clear i j 1 0 (λ e. other (sym e)) ∙ c.clear j (omega arith) ∙ sym (delta-other i j other)
      ]

      goes : (j : ℕ) → get_or row j 0 ≡ along_all X side term.path.arrows (delta i) j
      goes j = m.at j ∙ along_same term.path.arrows (length term.path.arrows) (λ t. get_or unit t 0) (delta i) is_unit j

-- what stands at a place of a list does not depend on what is meant past its end
pub term_is : (terms : List Term) (k : ℕ) (t : Term) → k < length terms → t ≡ slice_index_or terms k t → t ≡ term_at terms k
term_is terms k t l e = e ∙ get_or_default terms k t _ l
