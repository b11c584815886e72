-- Lines that are folded into rows, and what blocks hold.
use Rattle.std.proofs.Common.{ℕ, ◌<◌, ◌≡◌, ◌≢◌, ◌+◌, ◌-◌, ◌*◌, List, length, get_or, set, refl, sym, ap, ◌∙◌, inl, inr, arith}
use Rattle.std.specs.Bool.{⊤}
use Rattle.std.specs.Prelude.{slice_index}
use Rattle.std.proofs.lemmas.Bool.{cases_lt, cases_eq}
use Rattle.std.proofs.lemmas.List.{get_or-set_same, get_or-set_other}
use Rattle.std.proofs.lemmas.Nat.{same_from_place}
use Rattle.linear_algebra.specs.Field.{Gf, mul}
use Rattle.linear_algebra.specs.Sums.{sum-same}
use Rattle.fp_linear.specs.Slices.{IsWritten, copied}
use Rattle.fp_linear.specs.Meeting.{dot, IsClearFrom}
use Rattle.fp_linear.proofs.Meeting.{row_step}
use Rattle.module_checks.specs.Commuting.{AsksMore}
use Rattle.module_checks.proofs.SpreadDots.{dot-same, dot_clear}
use Rattle.extension_checks.specs.Asking.{row_value, AskRows, MeetsLines, HoldsRows, IsColumnWritten}

-- A clear row takes a line.
module _ (q : Gf) (n m u from : ℕ) (source old new : List ℕ) (w : IsWritten old new (u * n) n (copied from source)) (c : IsClearFrom (u * n) old) (l : u < m) where
  new_row : (x : ℕ → ℕ) → dot q n new (u * n) x ≡ dot q n source from x
  unfolding dot
  new_row x = sum-same q n _ _ (λ t b. ap (λ z. mul q z (x t)) (w.within t b))

  other_rows : (x : ℕ → ℕ) (i : ℕ) → i ≢ u → dot q n new (i * n) x ≡ dot q n old (i * n) x
  other_rows x i d = elim (cases_lt i u) [
    | inl b ↦ dot-same q n (i * n) old new x (λ t h. let k = row_step n i u b in w.before (i * n + t) (omega arith))
    | inr b ↦ dot-same q n (i * n) old new x (λ t h. let k = row_step n u i (omega arith) in w.after (i * n + t) (omega arith))
  ]

  old_row : (x : ℕ → ℕ) → dot q n old (u * n) x ≡ 0
  old_row x = dot_clear q n (u * n) old x (λ t h. c.clear (u * n + t) (omega arith))

  pub line_written : AsksMore q n m old new (λ x. dot q n source from x ≡ 0)
  line_written = record {
    before = λ x h. record { rows = λ k r. elim (cases_eq k u) [ inl e ↦ ap (λ z. dot q n old (z * n) x) e ∙ old_row x | inr d ↦ sym (other_rows x k d) ∙ h.rows k r ] };
    more = λ x h. sym (new_row x) ∙ h.rows u l;
    enough = λ x h p. record { rows = λ k r. elim (cases_eq k u) [ inl e ↦ ap (λ z. dot q n new (z * n) x) e ∙ new_row x ∙ p | inr d ↦ other_rows x k d ∙ h.rows k r ] };
  }

  pub line_clear : IsClearFrom ((u + 1) * n) new
  line_clear = record { clear = λ k h. let e = row_step n u (u + 1) (omega arith) in w.after k (omega arith) ∙ c.clear k (omega arith) }

pub MeetsLines-none : (q : Gf) (n m : ℕ) (block s : List ℕ) → AsksMore q n m s s (MeetsLines q n block 0)
MeetsLines-none q n m block s = record { before = λ x h. h; more = λ x h. record { line = λ z l. absurd (omega arith) }; enough = λ x h p. h }

pub MeetsLines-more : (q : Gf) (n m z : ℕ) (block first old mid new : List ℕ) → AsksMore q n m first old (MeetsLines q n block z) → AsksMore q n m old mid (λ x. ⊤)
    → AsksMore q n m mid new (λ x. dot q n block (z * n) x ≡ 0) → AsksMore q n m first new (MeetsLines q n block (z + 1))
MeetsLines-more q n m z block first old mid new a b c = record {
  before = λ x h. a.before x (b.before x (c.before x h));
  more = λ x h. record {
    line = λ k l. elim (cases_eq k z) [
      | inl e ↦ ap (λ k. dot q n block (k * n) x) e ∙ c.more x h
      | inr d ↦ (a.more x (b.before x (c.before x h))).line k (omega arith)
    ];
  };
  enough = λ x h p. c.enough x (b.enough x (a.enough x h (record { line = λ k l. p.line k (omega arith) })) tt) (p.line z (omega arith));
}

-- What the rows ask grows by the lines that a block holds.
module _ (q : Gf) (n m : ℕ) (f : ℕ → ℕ → ℕ) where
  pub AskRows-none : (s : List ℕ) → IsClearFrom 0 s → AskRows q n m s f 0
  AskRows-none s c = record {
    forth = λ x h k l. absurd (omega arith);
    back = λ x h. record { rows = λ i l. dot_clear q n (i * n) s x (λ t k. c.clear (i * n + t) (omega arith)) };
  }

  pub AskRows-kept : (count : ℕ) (old new : List ℕ) → AskRows q n m old f count → AsksMore q n m old new (λ x. ⊤) → AskRows q n m new f count
  AskRows-kept count old new a b = record { forth = λ x h. a.forth x (b.before x h); back = λ x h. b.enough x (a.back x h) tt }

  line_value : (block : List ℕ) (base count z : ℕ) (x : ℕ → ℕ) → HoldsRows n f base count n block → z < count → dot q n block (z * n) x ≡ row_value q n f (base + z) x
  unfolding dot
  line_value block base count z x h l = sum-same q n _ _ (λ t b. ap (λ w. mul q w (x t)) (h.at z t l b))

  pub AskRows-more : (base count : ℕ) (block old new : List ℕ) → AskRows q n m old f base → AsksMore q n m old new (MeetsLines q n block count) → HoldsRows n f base count n block → AskRows q n m new f (base + count)
  AskRows-more base count block old new a b h = record {
    forth = λ x g k l. elim (cases_lt k base) [
      | inl s ↦ a.forth x (b.before x g) k s
      | inr s ↦
          let z = k - base in
          let e : base + z ≡ k = omega arith in
          ap (λ k. row_value q n f k x) (sym e) ∙ sym (line_value block base count z x h (omega arith)) ∙ (b.more x g).line z (omega arith)
    ];
    back = λ x g. b.enough x (a.back x (λ k l. g k (omega arith))) (record { line = λ z l. line_value block base count z x h l ∙ g (base + z) (omega arith) });
  }

-- Blocks place by place.
module _ (n : ℕ) (f : ℕ → ℕ → ℕ) (base : ℕ) where
  pub holds-none : (count : ℕ) (s : List ℕ) → HoldsRows n f base count 0 s
  holds-none count s = record { at = λ r k l b. absurd (omega arith) }

  pub holds-column : (count place : ℕ) (value : ℕ → ℕ) (old new : List ℕ) → HoldsRows n f base count place old → IsColumnWritten n place count value old new → ((z : ℕ) → z < count → value z ≡ f (base + z) place)
      → HoldsRows n f base count (place + 1) new
  holds-column count place value old new h w e = record {
    at = λ r k l b. elim (cases_eq k place) [
      | inl s ↦ ap (λ k. slice_index new (r * n + k)) s ∙ w.there r l ∙ e r l ∙ ap (f (base + r)) (sym s)
      | inr d ↦ w.apart r k (omega arith) ∙ h.at r k l (omega arith)
    ];
  }

  pub holds-part : (at count : ℕ) (source old new : List ℕ) → HoldsRows n f base 1 at old → IsWritten old new at count (copied 0 source) → ((z : ℕ) → z < count → slice_index source z ≡ f base (at + z))
      → HoldsRows n f base 1 (at + count) new
  holds-part at count source old new h w e = record {
    at = λ r k l b.
        let z : r ≡ 0 = omega arith in
        let p : r * n + k ≡ k = ap (λ r. r * n + k) z ∙ omega arith in
        ap (λ i. slice_index new i) p ∙ elim (cases_lt k at) [
          | inl s ↦ w.before k s ∙ ap (λ i. slice_index old i) (sym p) ∙ h.at r k l s
          | inr s ↦
              let c = k - at in
              let d : at + c ≡ k = omega arith in
              let t : base ≡ base + r = omega arith in
              let u : 0 + c ≡ c = omega arith in
              ap (λ i. slice_index new i) (sym d) ∙ w.within c (omega arith) ∙ ap (λ i. slice_index source i) u ∙ e c (omega arith) ∙ ap (λ i. f i (at + c)) t ∙ ap (f (base + r)) d
        ];
  }

-- A column is written number by number.
module _ (n place : ℕ) (value : ℕ → ℕ) (l : place < n) where
  pub column-none : (s : List ℕ) → IsColumnWritten n place 0 value s s
  column-none s = record { there = λ z b. absurd (omega arith); apart = λ z k b. refl }

  pub column-more : (z v : ℕ) (first s : List ℕ) → IsColumnWritten n place z value first s → z * n + place < length s → v ≡ value z → IsColumnWritten n place (z + 1) value first (set s (z * n + place) v)
  column-more z v first s w b e = record {
    there = λ i k. elim (cases_eq i z) [
      | inl same ↦ ap (λ i. get_or (set s (z * n + place) v) (i * n + place) 0) same ∙ get_or-set_same s (z * n + place) v 0 b ∙ e ∙ ap value (sym same)
      | inr d ↦ get_or-set_other s (z * n + place) (i * n + place) v 0 (λ x. d ((same_from_place i place z place n l l x).0)) ∙ w.there i (omega arith)
    ];
    apart = λ i k b. get_or-set_other s (z * n + place) (i * n + k) v 0 (λ x. let p = (same_from_place i k z place n (omega arith) l x).1 in omega (arith, p, b)) ∙ w.apart i k b;
  }
