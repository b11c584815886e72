-- Images of rows in lent memory: a sum of spans, one member after another.
use Rattle.std.proofs.Common.{ℕ, ◌<◌, ◌≤◌, ◌≡◌, ◌≢◌, ◌+◌, ◌-◌, ◌*◌, ◌/◌, ◌%◌, List, ◌++◌, get_or, set, length, take, drop, get_or-set_same, get_or-set_other, refl, sym, ap, ap₂, ◌∙◌, inl, inr, arith, subst, mul-le-mul_right, add-mul}
use Rattle.std.proofs.lemmas.Bool.{cases_lt, cases_eq}
use Rattle.std.proofs.lemmas.Nat.{div-mul-add, mod-mul-add}
use Rattle.std.proofs.lemmas.List.{get_or-take, get_or_append_left, get_or-append_right, length-take-le}
use Rattle.linear_algebra.specs.Field.{Gf, order}
use Rattle.linear_algebra.specs.FieldLaws.{order-pos, one-lt-order}
use Rattle.linear_algebra.specs.Matrix.{Mat, Mat-eq_below, delta, delta-same, delta-other, one, ◌·◌}
use Rattle.linear_algebra.specs.Rank.{IsInSpan, HasRightInverse}
use Rattle.linear_algebra.specs.Parts.{row}
use Rattle.linear_algebra.specs.Rows.{rows_of}
use Rattle.linear_algebra.specs.Typed.{as_mat}
use Rattle.linear_algebra.proofs.MatrixLaws.{one-at}
use Rattle.linear_algebra.proofs.PartsLaws.{Row-eq, row-at}
use Rattle.linear_algebra.proofs.RowForm.{reduced_independent}
use Rattle.linear_algebra.proofs.Rows.{rows_same, length-rows_of, row-rows_of, length-list_of, entry-rows_of}
use Rattle.linear_algebra.proofs.Solving.{in_span_trans, in_span_by_rows, row_in_span, in_span_self}
use Rattle.linear_algebra.proofs.Steinitz.{steinitz}
use Rattle.fp_linear.specs.Slices.{AreElements}
use Rattle.fp_linear.proofs.LentRows.{AreElements-take, AreElements-drop}
use Rattle.local_modules.specs.ImageChain.{IsImageOf}
use Rattle.local_checks.specs.Standing.{standing}
use Rattle.local_checks.specs.Rows.{IsSpaceOf}
use Rattle.local_checks.specs.Images.{IsSumOfSpans}
use Rattle.local_checks.proofs.Spaces.{standing-at, space_independent}
use Rattle.local_checks.proofs.Places.{place_below, row_room, part_before, part_within, part_length, part_elements}

-- Only the entries that are read count.
pub standing_same : (q : Gf) (m n : ℕ) (s t : List ℕ) → AreElements q s → AreElements q t → ((k : ℕ) → k < m * n → get_or s k 0 ≡ get_or t k 0) → standing q m n s ≡ standing q m n t
standing_same q m n s t a b h = Mat-eq_below _ _ (λ i j l k. standing-at q m n s a i j l k ∙ h (i * n + j) (place_below i n j m l k) ∙ sym (standing-at q m n t b i j l k))

-- The space that elimination leaves, as the first rows of what stands there.
module _ {q : Gf} {m n : ℕ} (f : Mat q m n) (rows pivots : List ℕ) (r : ℕ) (s : IsSpaceOf f rows pivots r) where
  taken : rows_of r n (take (r * n) rows) ≡ rows_of r n rows
  taken = rows_same r n (rows_of r n (take (r * n) rows)) (rows_of r n rows) (length-rows_of r n (take (r * n) rows)) (length-rows_of r n rows)
      (λ i l. ap length (row-rows_of r n (take (r * n) rows) i l) ∙ length-list_of n _) (λ i l. ap length (row-rows_of r n rows i l) ∙ length-list_of n _)
      (λ i j l k. entry-rows_of r n (take (r * n) rows) i j l k ∙ get_or-take (r * n) rows (i * n + j) 0 (place_below i n j r l k) ∙ sym (entry-rows_of r n rows i j l k))

  pub rows_forth : IsInSpan (standing q r n rows) f
  rows_forth = subst (λ L. IsInSpan (as_mat q r n L) f) taken (subst (λ (k : ℕ). IsInSpan (standing q k n (take (r * n) rows)) f) s.count s.forth)

  pub rows_back : IsInSpan f (standing q r n rows)
  rows_back = subst (λ L. IsInSpan f (as_mat q r n L)) taken (subst (λ (k : ℕ). IsInSpan f (standing q k n (take (r * n) rows))) s.count s.back)

  pub rows_independent : HasRightInverse (standing q r n rows)
  rows_independent = subst (λ L. HasRightInverse (as_mat q r n L)) taken
      (subst (λ (k : ℕ). HasRightInverse (standing q k n (take (r * n) rows))) s.count (space_independent q n (take (r * n) rows) (take r pivots) s.is_space))

  pub rows_few : r ≤ n
  rows_few = let i = rows_independent in steinitz (standing q r n rows) i.inverse i.is

-- The first `rank` rows of `all` are those of old, and the next `count` are the images.
module _ (q : Gf) (n rank count : ℕ) (old mid all : List ℕ) (images : Mat q count n) (oa : AreElements q old) (ma : AreElements q mid) (aa : AreElements q all)
    (before : (k : ℕ) → k < rank * n → get_or all k 0 ≡ get_or old k 0) (behind : (k : ℕ) → k < count * n → get_or all (rank * n + k) 0 ≡ get_or mid k 0) (is : standing q count n mid ≡ images) where
  first-row : (i : ℕ) → i < rank → row i (standing q (rank + count) n all) ≡ row i (standing q rank n old)
  first-row i h = Row-eq _ _ (λ j k.
      row-at i _ j ∙ standing-at q (rank + count) n all aa i j (omega (arith, h)) k ∙ before (i * n + j) (place_below i n j rank h k)
      ∙ sym (row-at i _ j ∙ standing-at q rank n old oa i j h k))

  place : (i j : ℕ) → (rank + i) * n + j ≡ rank * n + (i * n + j)
  place i j = let e = add-mul rank i n in omega (arith, e)

  second-row : (i : ℕ) → i < count → row (rank + i) (standing q (rank + count) n all) ≡ row i images
  second-row i h = Row-eq _ _ (λ j k.
      row-at (rank + i) _ j ∙ standing-at q (rank + count) n all aa (rank + i) j (omega (arith, h)) k ∙ ap (λ (p : ℕ). get_or all p 0) (place i j) ∙ behind (i * n + j) (place_below i n j count h k)
      ∙ sym (row-at i _ j ∙ ap (λ (z : Mat q count n). z.at i j) (sym is) ∙ standing-at q count n mid ma i j h k))

  pub both_in : {t : ℕ} (f : Mat q t n) → IsInSpan f (standing q rank n old) → IsInSpan f images → IsInSpan f (standing q (rank + count) n all)
  both_in f s t = in_span_by_rows f (standing q (rank + count) n all) (λ i l. elim (cases_lt i rank) [
    | inl first ↦ subst (IsInSpan f) (sym (first-row i first)) (row_in_span f (standing q rank n old) i s)
    | inr other ↦
        let e : rank + (i - rank) ≡ i = omega (arith, other) in
        subst (λ i. IsInSpan f (row i (standing q (rank + count) n all))) e (subst (IsInSpan f) (sym (second-row (i - rank) (omega (arith, l, other)))) (row_in_span f images (i - rank) t))
  ])

  pub first_in : IsInSpan (standing q (rank + count) n all) (standing q rank n old)
  first_in = in_span_by_rows _ _ (λ i l. subst (IsInSpan (standing q (rank + count) n all)) (first-row i l) (row_in_span _ _ i (in_span_self (standing q (rank + count) n all))))

  pub second_in : IsInSpan (standing q (rank + count) n all) images
  second_in = in_span_by_rows _ _ (λ i l. subst (IsInSpan (standing q (rank + count) n all)) (second-row i l) (row_in_span _ _ (rank + i) (in_span_self (standing q (rank + count) n all))))

  pub sum_of_spans : {r : ℕ} (new : Mat q r n) → HasRightInverse new → IsInSpan new (standing q (rank + count) n all) → IsInSpan (standing q (rank + count) n all) new
      → IsSumOfSpans (standing q rank n old) images new
  sum_of_spans new i forth back = record {
    independent = i;
    has_first = in_span_trans new (standing q (rank + count) n all) _ forth first_in;
    has_second = in_span_trans new (standing q (rank + count) n all) _ forth second_in;
    least = λ f s t. in_span_trans f (standing q (rank + count) n all) new (both_in f s t) back;
  }

pub append_elements : (q : Gf) (s t : List ℕ) → AreElements q s → AreElements q t → AreElements q (s ++ t)
append_elements q s t a b = record {
  small = λ k. elim (cases_lt k (length s)) [
    | inl l ↦ rw (get_or_append_left s t 0 k l) (a.small k)
    | inr l ↦ rw (get_or-append_right s t (length s) k 0 refl l) (b.small (k - length s))
  ];
}

pub rows_room : (n rank count len : ℕ) → rank ≤ n → count ≤ n → len ≡ (n + n) * n → rank * n + count * n ≤ len
rows_room n rank count len a b e = let x = mul-le-mul_right n a in let y = mul-le-mul_right n b in omega (arith, x, y, e)

pub taken_elements : (q : Gf) (n rank count k e : ℕ) (old w : List ℕ) → rank * n + count * n ≤ length old → AreElements q old → AreElements q w → length w ≡ count * n → k ≡ count * n → e ≡ rank * n + count * n
    → AreElements q (take e (take (rank * n) old ++ (w ++ drop k (drop (rank * n) old))))
taken_elements q n rank count k e old w room a b size same d =
    AreElements-take q e _ (let l = part_length old w (rank * n) k (count * n) size same room in omega (arith, l, d, room)) (part_elements old w (rank * n) k (count * n) size same room q a b)

-- Images are written behind the rows, and the rows are brought into reduced row form.
module _ (q : Gf) (n rank count k : ℕ) (old w last pivots : List ℕ) (images : Mat q count n) (r : ℕ) (room : rank * n + count * n ≤ length old) (oa : AreElements q old) (wa : AreElements q w) (la : AreElements q last)
    (size : length w ≡ count * n) (same : k ≡ count * n) (is : standing q count n w ≡ images) where
  abbrev written : List ℕ
  written = take (rank * n) old ++ (w ++ drop k (drop (rank * n) old))

  written_elements : AreElements q written
  written_elements = part_elements old w (rank * n) k (count * n) size same room q oa wa

  written_length : length written ≡ length old
  written_length = part_length old w (rank * n) k (count * n) size same room

  abbrev lent_rows : ℕ → List ℕ
  lent_rows e = take e written

  pub lent_count : (e : ℕ) → e ≡ rank * n + count * n → length (lent_rows e) ≡ (rank + count) * n
  lent_count e d = length-take-le e written (let l = written_length in omega (arith, l, d, room)) ∙ d ∙ sym (add-mul rank count n)

  pub lent_are_elements : (e : ℕ) → e ≡ rank * n + count * n → AreElements q (lent_rows e)
  lent_are_elements e d = AreElements-take q e written (let l = written_length in omega (arith, l, d, room)) written_elements

  pub added_elements : (e : ℕ) → AreElements q (last ++ drop e written)
  added_elements e = append_elements q last (drop e written) la (AreElements-drop q e written written_elements)

  pub added_sum : (e : ℕ) → e ≡ rank * n + count * n → length last ≡ (rank + count) * n → IsSpaceOf (standing q (rank + count) n (lent_rows e)) last pivots r
      → IsSumOfSpans (standing q rank n old) images (standing q r n (last ++ drop e written))
  added_sum e d c s = subst (IsSumOfSpans (standing q rank n old) images) (standing_same q r n last (last ++ drop e written) la (added_elements e) (λ i l. sym (get_or_append_left last (drop e written) 0 i (inside i l))))
      (sum_of_spans q n rank count old w (lent_rows e) images oa wa (lent_are_elements e d)
      (λ i l. get_or-take e written i 0 (omega (arith, l, d)) ∙ part_before old w (rank * n) k (count * n) size same room i l)
      (λ i l. get_or-take e written (rank * n + i) 0 (omega (arith, l, d)) ∙ part_within old w (rank * n) k (count * n) size same room i l)
      is (standing q r n last) (rows_independent _ last pivots r s) (rows_forth _ last pivots r s) (rows_back _ last pivots r s))
    where
      inside : (i : ℕ) → i < r * n → i < length last
      inside i l = let f = mul-le-mul_right n s.few in omega (arith, f, l, c)

-- One member more.
pub images_none : {q : Gf} {m r d : ℕ} (g : ℕ → Mat q d d) (rows : Mat q m d) (images : Mat q r d) → r ≡ 0 → IsImageOf 0 g rows images
images_none g rows images e = record {
  has_images = λ j h. absurd (omega arith);
  least = λ f h. in_span_by_rows f images (λ i l. absurd (omega arith));
}

pub images_more : {q : Gf} {m r s d : ℕ} (k : ℕ) (g : ℕ → Mat q d d) (rows : Mat q m d) (block : Mat q d d) (old : Mat q r d) (new : Mat q s d) → block ≡ g k → IsImageOf k g rows old → IsSumOfSpans old (rows · block) new
    → IsImageOf (k + 1) g rows new
images_more k g rows block old new b h s = record {
  has_images = λ j l. elim (cases_eq j k) [
    | inl e ↦ subst (λ j. IsInSpan new (rows · g j)) (sym e) (subst (λ z. IsInSpan new (rows · z)) b s.has_second)
    | inr o ↦ in_span_trans new old _ s.has_first (h.has_images j (omega arith))
  ];
  least = λ f l. s.least f (h.least f (λ j i. l j (omega arith))) (subst (λ z. IsInSpan f (rows · z)) (sym b) (l k (omega arith)));
}

pub no_rows_independent : {q : Gf} {n : ℕ} (a : Mat q 0 n) → HasRightInverse a
no_rows_independent a = reduced_independent a (λ i. 0) (record {
  inside = λ i l. absurd (omega arith);
  one = λ i l. absurd (omega arith);
  before = λ i j l k. absurd (omega arith);
  further = λ i k l b. absurd (omega arith);
  cleared = λ i k l b d. absurd (omega arith);
})

-- A block that is lent.
pub block_lent : (q : Gf) (d a k : ℕ) (s : List ℕ) → AreElements q (take k (drop a s)) → AreElements q (drop a s) → k ≡ d * d → standing q d d (take k (drop a s)) ≡ standing q d d (drop a s)
block_lent q d a k s x y e = standing_same q d d (take k (drop a s)) (drop a s) x y (λ i l. get_or-take k (drop a s) i 0 (omega (arith, l, e)))

-- The identity.
pub standing_identity : (q : Gf) (n : ℕ) (s : List ℕ) → AreElements q s → ((k : ℕ) → k < n * n → get_or s k 0 ≡ delta (k / n) (k % n)) → standing q n n s ≡ one q n
standing_identity q n s a h = Mat-eq_below _ _ (λ i j l k.
    standing-at q n n s a i j l k ∙ h (i * n + j) (place_below i n j n l k) ∙ ap₂ delta (div-mul-add i n j k) (mod-mul-add i n j k) ∙ sym (one-at q n i j l))

pub delta_at : (i j : ℕ) → i ≡ j → 1 ≡ delta i j
delta_at i j e = sym (ap (λ z. delta z j) e ∙ delta-same j)

pub delta_off : (i j : ℕ) → i ≢ j → 0 ≡ delta i j
delta_off i j n = sym (delta-other i j n)

pub identity_more : (n e v : ℕ) (s : List ℕ) → e < length s → v ≡ delta (e / n) (e % n) → ((k : ℕ) → k < e → get_or s k 0 ≡ delta (k / n) (k % n)) → (k : ℕ) → k < e + 1 → get_or (set s e v) k 0 ≡ delta (k / n) (k % n)
identity_more n e v s l d h k b = elim (cases_eq k e) [
  | inl same ↦ ap (λ z. get_or (set s e v) z 0) same ∙ get_or-set_same s e v 0 l ∙ d ∙ ap (λ (z : ℕ). delta (z / n) (z % n)) (sym same)
  | inr other ↦ get_or-set_other s e k v 0 other ∙ h k (omega arith)
]

-- The block of a member is inside.
pub member_room : (members width from e j : ℕ) (s : List ℕ) → length s ≡ members * width → j < members → from + e ≤ width → j * width + from + e ≤ length s
member_room members width from e j s c h l = let r = row_room members width j s c h in omega (arith, r, l)

pub delta_small : (q : Gf) (i j : ℕ) → delta i j < order q
delta_small q i j = elim (cases_eq i j) [ inl e ↦ subst (λ (z : ℕ). z < order q) (delta_at i j e) (one-lt-order q) | inr n ↦ subst (λ (z : ℕ). z < order q) (delta_off i j n) (order-pos q) ]

-- The first rows of a square.
pub rows_taken : (q : Gf) (r d : ℕ) (s : List ℕ) → AreElements q s → r ≤ d → length s ≡ d * d → standing q r d (take (r * d) s) ≡ standing q r d s
rows_taken q r d s a l e = standing_same q r d (take (r * d) s) s (AreElements-take q (r * d) s (let m = mul-le-mul_right d l in omega (arith, m, e)) a) a (λ k b. get_or-take (r * d) s k 0 b)
