-- The table of words, one word more, and the dimensions that it gives.
use Rattle.std.proofs.Common.{◌≡◌, ◌≢◌, ℕ, zero, suc, ◌+◌, ◌*◌, ◌/◌, ◌%◌, ◌<◌, ◌≤◌, Bool, true, false, List, [], length, take, set, get_or, cond, inl, inr, refl, sym, ap, ◌∙◌, subst, arith}
use Rattle.std.specs.Prelude.{◌&&◌, ◌==◌, slice_index}
use Rattle.std.proofs.lemmas.Bool.{cases_lt, cases_eq}
use Rattle.std.proofs.lemmas.Bool.Decides.{eqb_tells}
use Rattle.std.proofs.lemmas.Nat.{mul-add-lt, div-add-mod', mod_below, div-mul-add, mod-mul-add}
use Rattle.std.proofs.Math.Nat.{mul-le-mul_right}
use Rattle.std.proofs.lemmas.List.{get_or-set_same, get_or-set_other, length-set}
use Rattle.std.proofs.lemmas.List.Sums.{length-filter, count_by-le-length}
use Rattle.std.proofs.lemmas.List.Filters.{length-filter_more}
use Rattle.linear_algebra.specs.BlockFamilies.{total}
use Rattle.linear_algebra.proofs.BlockFamilies.{total-same}
use Rattle.linear_algebra.proofs.Rows.{get_or-list_of, list_of-is}
use Rattle.quiver_paths.specs.declared.Path.{Path}
use Rattle.bound_algebra.specs.WordLists.{is_between}
use Rattle.module_types.specs.declared.Side.{Side}
use Rattle.module_types.specs.declared.Side.TheVariants.{Right, Left}
use Rattle.report_types.specs.WordDimensions.{count_to, projective_dim}
use Rattle.claim_blocks.specs.Counts.{ends_of, entry_at, word_table, AreCounts, table_dim, table_dims, table_dimension}

-- ---- places in the table

below : (n v w a b : ℕ) → v < a → w < n → v * n + w ≢ a * n + b
below n v w a b l k e = let m : suc v * n ≤ a * n = mul-le-mul_right n (omega (arith, l)) in let s : suc v * n ≡ v * n + n = omega arith in omega (arith, m, s, e, k)

one_place : (n v w a b : ℕ) → w < n → b < n → v * n + w ≡ a * n + b → (v ≡ a) × (w ≡ b)
one_place n v w a b l k e = elim (cases_lt v a) [
  | inl less ↦ absurd (below n v w a b less l e)
  | inr more ↦ elim (cases_lt a v) [
    | inl less ↦ absurd (below n a b v w less k (sym e))
    | inr least ↦ (let same : v ≡ a = omega (arith, more, least) in (same, (let f = ap (λ x. x * n) same in omega (arith, e, f))))
  ]
]

-- ---- one word more

both_true : (a b v w : ℕ) → a ≡ v → b ≡ w → ((a == v) && (b == w)) ≡ true
both_true a b v w e f = elim (eqb_tells a v) [
  | inl s ↦ elim (eqb_tells b w) [
    | inl t ↦ (λ i. s.0 i && t.0 i)
    | inr t ↦ absurd (t.1 f)
  ]
  | inr s ↦ absurd (s.1 e)
]

not_both : (a b v w : ℕ) → ((a ≡ v) → (b ≡ w) → ⊥) → ((a == v) && (b == w)) ≡ false
not_both a b v w h = elim (eqb_tells a v) [
  | inl s ↦ elim (eqb_tells b w) [
    | inl t ↦ absurd (h s.1 t.1)
    | inr t ↦ (λ i. s.0 i && t.0 i)
  ]
  | inr s ↦ (λ i. s.0 i && (b == w))
]

swap : (b c : Bool) → (b && c) ≡ (c && b)
swap true true = refl
swap true false = refl
swap false true = refl
swap false false = refl

swapped : (a b v w : ℕ) → ((a == v) && (b == w)) ≡ ((b == w) && (a == v))
swapped a b v w = swap (a == v) (b == w)

-- a word leads from v to w
abbrev is_from : Side → ℕ → ℕ → Path → Bool
is_from side v w p = ((ends_of side p).0 == v) && ((ends_of side p).1 == w)

count_more : (words : List Path) (side : Side) (v w i : ℕ) (d : Path) → i < length words
    → count_to (take (i + 1) words) side v w ≡ count_to (take i words) side v w + cond (is_from side v w (get_or words i d)) 1 0
count_more words Right v w i d l = length-filter_more (is_between v w) words i d l
count_more words Left v w i d l =
    let p = get_or words i d in
    length-filter_more (is_between w v) words i d l ∙ ap (λ b. count_to (take i words) Left v w + cond b 1 0) (swapped p.start p.end w v)

-- no more than there are words
pub few_counted : (words : List Path) (side : Side) (v w : ℕ) → count_to words side v w ≤ length words
few_counted words Right v w = let p = is_between v w in let e = length-filter p words in let l = count_by-le-length p words in omega (arith, e, l)
few_counted words Left v w = let p = is_between w v in let e = length-filter p words in let l = count_by-le-length p words in omega (arith, e, l)

module _ (words : List Path) (side : Side) (n i : ℕ) (counts : List ℕ) (d : Path) (inside : i < length words) (are : AreCounts (take i words) side n counts) where
  abbrev from : ℕ
  from = (ends_of side (get_or words i d)).0

  abbrev to : ℕ
  to = (ends_of side (get_or words i d)).1

  pub counts_skip : n ≤ to → AreCounts (take (i + 1) words) side n counts
  counts_skip past = record {
    counted = are.counted;
    each = λ v w inside' k.
        are.each v w inside' k
        ∙ (let m = count_more words side v w i d inside in let z = ap {B = ℕ} (λ b. cond b 1 0) (not_both from to v w (λ e f. omega (arith, past, k, f))) in omega (arith, m, z));
  }

  pub counts_more : (new : List ℕ) → from < 256 → to < n → new ≡ set counts (from * n + to) (get_or counts (from * n + to) 0 + 1) → AreCounts (take (i + 1) words) side n new
  counts_more new l k e =
      let place = from * n + to in
      let small : place < length counts = let c = are.counted in omega (arith, mul-add-lt from n to 256 l k, c) in
      record {
        counted = ap length e ∙ (length-set counts place _ ∙ are.counted);
        each = λ v w lv lw.
            let m = count_more words side v w i d inside in
            let old = are.each v w lv lw in
            ap (λ ns. get_or ns (v * n + w) 0) e ∙ elim (cases_eq (v * n + w) place) [
              | inl same ↦
                  let p = one_place n v w from to lw k same in
                  let t = ap {B = ℕ} (λ b. cond b 1 0) (both_true from to v w (sym p.0) (sym p.1)) in
                  ap (λ x. get_or (set counts place (get_or counts place 0 + 1)) x 0) same ∙ (get_or-set_same counts place _ 0 small ∙ (ap (λ x. get_or counts x 0 + 1) (sym same) ∙ omega (arith, old, m, t)))
              | inr differs ↦
                  let t = ap {B = ℕ} (λ b. cond b 1 0) (not_both from to v w (λ a b. differs (λ i. sym a i * n + sym b i))) in
                  get_or-set_other counts place _ _ 0 differs ∙ omega (arith, old, m, t)
            ];
      }

  pub counted_word : (r : ℕ × ℕ) (v : ℕ) → r ≡ ends_of side (get_or words i d) → r.0 < 256 → r.1 < n → v ≡ get_or counts (r.0 * n + r.1) 0 → AreCounts (take (i + 1) words) side n (set counts (r.0 * n + r.1) (v + 1))
  counted_word r v e l k is =
      counts_more (set counts (r.0 * n + r.1) (v + 1)) (subst (λ x. x < 256) (ap (λ (p : ℕ × ℕ). p.0) e) l) (subst (λ x. x < n) (ap (λ (p : ℕ × ℕ). p.1) e) k)
      (ap (λ x. set counts (r.0 * n + r.1) (x + 1)) is ∙ ap (λ (p : ℕ × ℕ). set counts (p.0 * n + p.1) (get_or counts (p.0 * n + p.1) 0 + 1)) e)

-- what counts the words is the table
pub counts_table : (words : List Path) (side : Side) (n : ℕ) (counts : List ℕ) → AreCounts words side n counts → counts ≡ (word_table words side n).counts
counts_table words side n counts are =
    list_of-is (256 * n) (λ i. count_to words side (i / n) (i % n)) counts 0 are.counted (λ i l.
    let s = div-add-mod' i n in
    let some : 0 < n = elim (cases_eq n 0) [
      | inl none ↦ absurd (let e = ap (λ k. 256 * k) none in omega (arith, l, e))
      | inr differs ↦ omega (arith, differs)
    ] in
    let w : i % n < n = mod_below i n some in
    let v : i / n < 256 = div_below i n l some in
    ap (λ k. get_or counts k 0) (sym s) ∙ are.each (i / n) (i % n) v w)
  where
    div_below : (i n : ℕ) → i < 256 * n → 0 < n → i / n < 256
    div_below i n l some = elim (cases_lt (i / n) 256) [
      | inl less ↦ less
      | inr more ↦ absurd (let s = div-add-mod' i n in let m : 256 * n ≤ i / n * n = mul-le-mul_right n (omega (arith, more)) in omega (arith, l, s, m))
    ]

pub table_entry : (words : List Path) (side : Side) (n v w : ℕ) → v < 256 → w < n → entry_at (word_table words side n) v w ≡ count_to words side v w
table_entry words side n v w l k =
    get_or-list_of (256 * n) (λ i. count_to words side (i / n) (i % n)) (v * n + w) 0 (omega (arith, mul-add-lt v n w 256 l k))
    ∙ (λ i. count_to words side (div-mul-add v n w k i) (mod-mul-add v n w k i))

-- no words
pub counts_none : (side : Side) (n : ℕ) (counts : List ℕ) → length counts ≡ 256 * n → ((i : ℕ) → get_or counts i 0 ≡ 0) → AreCounts [] side n counts
counts_none Right n counts e zeros = record { counted = e; each = λ v w l k. zeros (v * n + w) }
counts_none Left n counts e zeros = record { counted = e; each = λ v w l k. zeros (v * n + w) }

-- ---- sums

total-front : (m n : ℕ) (f : ℕ → ℕ) → m ≤ n → total m f ≤ total n f
total-front m zero f l = let g = ap (λ k. total k f) (let e : m ≡ 0 = omega (arith, l) in e) in omega (arith, g)
total-front m (suc n) f l = elim (cases_eq m (suc n)) [
  | inl e ↦ (let g = ap (λ k. total k f) e in omega (arith, g))
  | inr differs ↦ (let r = total-front m n f (omega (arith, l, differs)) in omega (arith, r))
]

pub more_than : (m n most sum more : ℕ) (f : ℕ → ℕ) → m < n → sum ≡ total m f → more ≡ f m → most < sum + more → most < total n f
more_than m n most sum more f l e g h = let t = total-front (suc m) n f (omega (arith, l)) in omega (arith, t, e, g, h)

-- so much of a limit is left
pub none_left : (m n most left : ℕ) (f : ℕ → ℕ) → m < n → left + total m f ≡ most → left < f m → most < total n f
none_left m n most left f l e g = let t = total-front (suc m) n f (omega (arith, l)) in omega (arith, t, e, g)

-- ---- as the words count

module _ (words : List Path) (side : Side) (n : ℕ) (vertices : List ℕ) (small : (j : ℕ) → j < length vertices → slice_index vertices j < 256) where
  pub table_dim-is : (w : ℕ) → w < n → table_dim (word_table words side n) vertices w ≡ projective_dim words side vertices w
  table_dim-is w l = total-same (length vertices) _ _ (λ j k. table_entry words side n (slice_index vertices j) w (small j k) l)

  pub table_dimension-is : table_dimension (word_table words side n) vertices ≡ total n (projective_dim words side vertices)
  table_dimension-is = total-same n _ _ (λ w l. table_dim-is w l)

  pub table_dims-at : (w : ℕ) → w < n → slice_index (table_dims (word_table words side n) vertices) w ≡ projective_dim words side vertices w
  table_dims-at w l = get_or-list_of n (table_dim (word_table words side n) vertices) w 0 l ∙ table_dim-is w l
