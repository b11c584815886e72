-- Co-reduced matrices: each span is the kernel of exactly one; its places are the columns that are no pivots of the reduced row form.
use Rattle.std.proofs.Common.{ℕ, zero, suc, ◌+◌, ◌<◌, ◌≡◌, ◌⊎◌, inl, inr, refl, sym, ap, ap₂, ◌∙◌, arith, subst, not-suc-le-zero}
use Rattle.std.proofs.lemmas.Bool.{cases_eq}
use Rattle.linear_algebra.specs.Field.{Gf}
use Rattle.linear_algebra.specs.Matrix.{Mat, Row, Column, Mat-eq_below, zeros, one, delta, delta-same, delta-other, ◌⊞◌, negative, ◌⊟◌, ◌·◌, transpose, stack, beside}
use Rattle.linear_algebra.specs.Parts.{left_part, right_part}
use Rattle.linear_algebra.specs.Rank.{IsInSpan}
use Rattle.linear_algebra.specs.RowForm.{ReducedForm, selector, IsCoReduced, CoReducedForm}
use Rattle.linear_algebra.proofs.MatrixLaws.{one-at, mul_assoc_mat, mul_zeros, add_comm_mat, transpose_mul, transpose_transpose, transpose_one, delta_comm}
use Rattle.linear_algebra.proofs.Blocks.{join-first, join-shifted, no_columns, mul_beside, beside_zeros}
use Rattle.linear_algebra.proofs.PartsLaws.{beside_parts, beside_first, beside_second, commute_1, one_1-at}
use Rattle.linear_algebra.proofs.Products.{products, sums, blocks, add_add-negative}
use Rattle.linear_algebra.proofs.Solving.{IsSeen, seen_or_zeros}
use Rattle.linear_algebra.proofs.RowForm.{mul_selector-at, with_pivot, new_pivot, without_pivot, no_column}

delta-suc : (i k : ℕ) → delta (suc i) (suc k) ≡ delta i k
delta-suc i k = elim (cases_eq i k) [
  | inl e ↦ ap₂ delta (ap suc e) refl ∙ delta-same (suc k) ∙ sym (delta-same k) ∙ ap (λ i. delta i k) (sym e)
  | inr d ↦ delta-other (suc i) (suc k) (λ e. d (omega arith)) ∙ sym (delta-other i k d)
]

-- The unit rows at the places.
unfoldable pub place_rows : (q : Gf) (c n : ℕ) → (ℕ → ℕ) → Mat q c n
place_rows q c n place = transpose (selector q n c place)

module _ {q : Gf} {n c : ℕ} (g : Mat q n c) (place : ℕ → ℕ) (d : IsCoReduced g place) where
  places_selected : transpose g · selector q n c place ≡ one q c
  unfolding transpose
  places_selected = Mat-eq_below _ _ (λ r i h k.
      mul_selector-at c (transpose g) place r i k (d.inside i k) ∙ d.unit i r k h ∙ delta_comm i r ∙ sym (one-at q c r i h))

  pub place_rows_undo : place_rows q c n place · g ≡ one q c
  unfolding place_rows
  place_rows_undo =
      ap (λ z. transpose (selector q n c place) · z) (sym (transpose_transpose g))
      ∙ sym (transpose_mul (transpose g) (selector q n c place)) ∙ ap transpose places_selected ∙ transpose_one q c

-- The first column without a pivot: it goes to a coordinate of its own.
module _ {q : Gf} {m : ℕ} (n : ℕ) (h : Mat q m n) (G : CoReducedForm h) where
  free_projection : Mat q (1 + n) (1 + G.size)
  free_projection = stack (beside (one q 1) (zeros q 1 G.size)) (beside (zeros q n 1) G.projection)

  free_kills : beside (zeros q m 1) h · free_projection ≡ zeros q m (1 + G.size)
  unfolding free_projection
  free_kills = simp (blocks, products, G.kills)

  free_parts : {k : ℕ} (y : Mat q k 1) (z : Mat q k n) → beside y z · free_projection ≡ beside y (z · G.projection)
  unfolding free_projection
  free_parts y z = simp (blocks, products)

  free_by : {k : ℕ} (y : Mat q k 1) (z : Mat q k n) → y ≡ zeros q k 1 → IsInSpan h z → IsInSpan (beside (zeros q m 1) h) (beside y z)
  free_by y z e s = record { by = s.by; is = mul_beside s.by (zeros q m 1) h ∙ ap₂ beside (mul_zeros s.by ∙ sym e) s.is }

  free_spans : {k : ℕ} (y : Mat q k 1) (z : Mat q k n) → beside y z · free_projection ≡ zeros q k (1 + G.size) → IsInSpan (beside (zeros q m 1) h) (beside y z)
  free_spans {k} y z e =
      let parts : beside y (z · G.projection) ≡ beside (zeros q k 1) (zeros q k G.size) = sym (free_parts y z) ∙ e ∙ sym (beside_zeros q k 1 G.size) in
      free_by y z (beside_first y (zeros q k 1) (z · G.projection) (zeros q k G.size) parts) (G.spans z (beside_second y (zeros q k 1) (z · G.projection) (zeros q k G.size) parts))

  free_first_first : free_projection.at 0 0 ≡ 1
  unfolding free_projection stack beside
  free_first_first = join-first 1 _ _ 0 (omega arith) ∙ join-first 1 _ _ 0 (omega arith) ∙ one_1-at q

  free_first_later : (k : ℕ) → free_projection.at 0 (suc k) ≡ 0
  unfolding free_projection stack beside zeros
  free_first_later k = let same : suc k ≡ 1 + k = omega arith in ap (free_projection.at 0) same ∙ join-first 1 _ _ 0 (omega arith) ∙ join-shifted 1 _ _ k

  free_later_first : (r : ℕ) → free_projection.at (suc r) 0 ≡ 0
  unfolding free_projection stack beside zeros
  free_later_first r = let same : suc r ≡ 1 + r = omega arith in ap (λ r. free_projection.at r 0) same ∙ join-shifted 1 _ _ r ∙ join-first 1 _ _ 0 (omega arith)

  free_later_later : (r k : ℕ) → free_projection.at (suc r) (suc k) ≡ G.projection.at r k
  unfolding free_projection stack beside
  free_later_later r k =
      let row : suc r ≡ 1 + r = omega arith in
      let place : suc k ≡ 1 + k = omega arith in
      ap₂ free_projection.at row place ∙ join-shifted 1 _ _ r ∙ join-shifted 1 _ _ k

  unfoldable free_place : ℕ → ℕ
  free_place zero = 0
  free_place (suc i) = suc (G.place i)

  free_inside : (i : ℕ) → i < 1 + G.size → free_place i < 1 + n
  unfolding free_place
  free_inside zero l = omega arith
  free_inside (suc i) l = let k = G.coreduced.inside i (omega arith) in omega arith

  free_unit : (i k : ℕ) → i < 1 + G.size → k < 1 + G.size → free_projection.at (free_place i) k ≡ delta i k
  unfolding free_place
  free_unit zero zero l b = free_first_first ∙ sym (delta-same 0)
  free_unit zero (suc k) l b = free_first_later k ∙ sym (delta-other 0 (suc k) (omega arith))
  free_unit (suc i) zero l b = free_later_first (G.place i) ∙ sym (delta-other (suc i) 0 (omega arith))
  free_unit (suc i) (suc k) l b = free_later_later (G.place i) k ∙ G.coreduced.unit i k (omega arith) (omega arith) ∙ sym (delta-suc i k)

  free_further : (i k : ℕ) → i < k → k < 1 + G.size → free_place i < free_place k
  unfolding free_place
  free_further i zero l b = absurd (not-suc-le-zero l)
  free_further zero (suc k) l b = omega arith
  free_further (suc i) (suc k) l b = let f = G.coreduced.further i k (omega arith) (omega arith) in omega arith

  free_after : (i r : ℕ) → i < 1 + G.size → free_place i < r → free_projection.at r i ≡ 0
  unfolding free_place
  free_after i zero l b = absurd (not-suc-le-zero b)
  free_after zero (suc r) l b = free_later_first r
  free_after (suc i) (suc r) l b = free_later_later r i ∙ G.coreduced.after i r (omega arith) (omega arith)

  unfoldable free_form : CoReducedForm (beside (zeros q m 1) h)
  free_form = record {
    size = 1 + G.size;
    projection = free_projection;
    place = free_place;
    coreduced = record { inside = free_inside; unit = free_unit; further = free_further; after = free_after };
    kills = free_kills;
    spans = λ x e. subst (IsInSpan (beside (zeros q m 1) h)) (beside_parts 1 n x) (free_spans (left_part 1 n x) (right_part 1 n x) (ap (λ z. z · free_projection) (beside_parts 1 n x) ∙ e));
  }

-- The first column with a pivot: its coordinate is expressed by the others.
module _ {q : Gf} {m : ℕ} (n : ℕ) (c : Column q m) (h : Mat q m n) (u : Row q m) (e : u · c ≡ one q 1) (G : CoReducedForm (h ⊟ c · (u · h))) where
  bound_projection : Mat q (1 + n) G.size
  bound_projection = stack (negative (u · (h · G.projection))) G.projection

  bound_kills : beside c h · bound_projection ≡ zeros q m G.size
  unfolding bound_projection
  bound_kills = simp (blocks, products) (add_comm_mat (negative (c · (u · (h · G.projection)))) (h · G.projection) ∙ simp (products) at G.kills)

  bound_by : {k : ℕ} (y : Mat q k 1) (z : Mat q k n) (w : Mat q k m) → w · (h ⊟ c · (u · h)) ≡ z ⊟ y · (u · h) → (y · u ⊞ (w ⊟ w · c · u)) · beside c h ≡ beside y z
  bound_by y z w f =
      mul_beside (y · u ⊞ (w ⊟ w · c · u)) c h
      ∙ ap₂ beside
      (simp (products, sums, e))
      (simp (products) (ap (λ x. y · (u · h) ⊞ x) (simp (products) at f) ∙ add_add-negative (y · (u · h)) z))

  bound_row : {k : ℕ} (y : Mat q k 1) (z : Mat q k n) → beside y z · bound_projection ≡ zeros q k G.size → (z ⊟ y · (u · h)) · G.projection ≡ zeros q k G.size
  unfolding bound_projection
  bound_row y z f = simp (products) (add_comm_mat (z · G.projection) (negative (y · (u · (h · G.projection)))) ∙ simp (blocks, products) at f)

  bound_spans : {k : ℕ} (y : Mat q k 1) (z : Mat q k n) → beside y z · bound_projection ≡ zeros q k G.size → IsInSpan (beside c h) (beside y z)
  bound_spans {k} y z f =
      let s = G.spans (z ⊟ y · (u · h)) (bound_row y z f) in
      record { by = y · u ⊞ (s.by ⊟ s.by · c · u); is = bound_by y z s.by s.is }

  bound_later : (r k : ℕ) → bound_projection.at (suc r) k ≡ G.projection.at r k
  unfolding bound_projection stack
  bound_later r k = let same : suc r ≡ 1 + r = omega arith in ap (λ r. bound_projection.at r k) same ∙ join-shifted 1 _ _ r

  bound_after : (i r : ℕ) → i < G.size → suc (G.place i) < r → bound_projection.at r i ≡ 0
  bound_after i zero l b = absurd (not-suc-le-zero b)
  bound_after i (suc r) l b = bound_later r i ∙ G.coreduced.after i r l (omega arith)

  unfoldable bound_form : CoReducedForm (beside c h)
  bound_form = record {
    size = G.size;
    projection = bound_projection;
    place = λ i. suc (G.place i);
    coreduced = record {
      inside = λ i l. let k = G.coreduced.inside i l in omega arith;
      unit = λ i k l b. bound_later (G.place i) k ∙ G.coreduced.unit i k l b;
      further = λ i k l b. let f = G.coreduced.further i k l b in omega arith;
      after = bound_after;
    };
    kills = bound_kills;
    spans = λ x f. subst (IsInSpan (beside c h)) (beside_parts 1 n x) (bound_spans (left_part 1 n x) (right_part 1 n x) (ap (λ z. z · bound_projection) (beside_parts 1 n x) ∙ f));
  }

-- Both forms together: each column is a pivot of the one or a place of the other.
record Forms {q : Gf} {m n : ℕ} (f : Mat q m n) : Type 0 where
  reduced : ReducedForm f
  co : CoReducedForm f
  each : (t : ℕ) → t < n → ((i : ℕ) × (i < reduced.size) × (reduced.pivot i ≡ t)) ⊎ ((i : ℕ) × (i < co.size) × (co.place i ≡ t))

module _ {q : Gf} {m : ℕ} (n : ℕ) (h : Mat q m n) (G : Forms h) where
  each_free : (t : ℕ) → t < 1 + n → ((i : ℕ) × (i < (without_pivot n h G.reduced).size) × ((without_pivot n h G.reduced).pivot i ≡ t)) ⊎ ((i : ℕ) × (i < (free_form n h G.co).size) × ((free_form n h G.co).place i ≡ t))
  unfolding without_pivot free_form free_place
  each_free zero l = inr (0, omega arith, refl)
  each_free (suc t) l = elim (G.each t (omega arith)) [
    | inl x ↦ inl (x.0, x.1, ap suc x.2)
    | inr x ↦ inr (suc x.0, (let b = x.1 in omega arith), ap suc x.2)
  ]

  forms_free : Forms (beside (zeros q m 1) h)
  forms_free = record { reduced = without_pivot n h G.reduced; co = free_form n h G.co; each = each_free }

module _ {q : Gf} {m : ℕ} (n : ℕ) (c : Column q m) (h : Mat q m n) (u : Row q m) (e : u · c ≡ one q 1) (G : Forms (h ⊟ c · (u · h))) where
  each_bound : (t : ℕ) → t < 1 + n → ((i : ℕ) × (i < (with_pivot n c h u e G.reduced).size) × ((with_pivot n c h u e G.reduced).pivot i ≡ t)) ⊎ ((i : ℕ) × (i < (bound_form n c h u e G.co).size) × ((bound_form n c h u e G.co).place i ≡ t))
  unfolding with_pivot new_pivot bound_form
  each_bound zero l = inl (0, omega arith, refl)
  each_bound (suc t) l = elim (G.each t (omega arith)) [
    | inl x ↦ inl (suc x.0, (let b = x.1 in omega arith), ap suc x.2)
    | inr x ↦ inr (x.0, x.1, ap suc x.2)
  ]

  forms_bound : Forms (beside c h)
  forms_bound = record { reduced = with_pivot n c h u e G.reduced; co = bound_form n c h u e G.co; each = each_bound }

module _ {q : Gf} {m : ℕ} (n : ℕ) (before : (f : Mat q m n) → Forms f) where
  forms_first : (c : Column q m) (h : Mat q m n) → IsSeen c ⊎ (c ≡ zeros q m 1) → Forms (beside c h)
  forms_first c h (inl s) =
      let over : s.to · s.from · c ≡ one q 1 = mul_assoc_mat s.to s.from c ∙ commute_1 s.to (s.from · c) ∙ mul_assoc_mat s.from c s.to ∙ s.is in
      forms_bound n c h (s.to · s.from) over (before (h ⊟ c · (s.to · s.from · h)))
  forms_first c h (inr z) = subst (λ c. Forms (beside c h)) (sym z) (forms_free n h (before h))

  forms_more : (f : Mat q m (1 + n)) → Forms f
  forms_more f = subst Forms (beside_parts 1 n f) (forms_first (left_part 1 n f) (right_part 1 n f) (seen_or_zeros (left_part 1 n f)))

forms_none : {q : Gf} {m : ℕ} (f : Mat q m 0) → Forms f
forms_none {q} {m} f = record {
  reduced = no_column f;
  co = record {
    size = 0;
    projection = zeros q 0 0;
    place = λ i. 0;
    coreduced = record {
      inside = λ i l. absurd (not-suc-le-zero l);
      unit = λ i k l b. absurd (not-suc-le-zero l);
      further = λ i k l b. absurd (not-suc-le-zero b);
      after = λ i r l b. absurd (not-suc-le-zero l);
    };
    kills = no_columns _ _;
    spans = λ {k} x e. record { by = zeros q k m; is = no_columns _ _ };
  };
  each = λ t l. absurd (not-suc-le-zero l);
}

forms_of_width : {q : Gf} {m : ℕ} (n : ℕ) (f : Mat q m n) → Forms f
forms_of_width zero f = forms_none f
forms_of_width {q} {m} (suc n) f =
    let same : 1 + n ≡ suc n = omega arith in
    subst (λ k. (f : Mat q m k) → Forms f) same (forms_more n (forms_of_width n)) f

-- Each span is the kernel of a co-reduced matrix.
pub coreduced_form : {q : Gf} {m n : ℕ} (f : Mat q m n) → CoReducedForm f
coreduced_form {q} {m} {n} f = (forms_of_width n f).co
