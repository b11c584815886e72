-- The steps of folding equations.
use Rattle.std.proofs.Common.{ℕ, ◌<◌, ◌≡◌, ◌≢◌, ◌+◌, ◌*◌, ◌/◌, ◌%◌, List, sym, ap, ◌∙◌, inl, inr, arith, subst}
use Rattle.std.specs.Bool.{⊤}
use Rattle.std.proofs.lemmas.Bool.{cases_lt, cases_eq}
use Rattle.linear_algebra.specs.Field.{Gf, add, mul, neg}
use Rattle.linear_algebra.specs.FieldLaws.{zero_add}
use Rattle.linear_algebra.specs.Sums.{sum_to, sum_below}
use Rattle.linear_algebra.specs.Rows.{entry, rows_of}
use Rattle.linear_algebra.specs.Reduced.{ReducesTo}
use Rattle.fp_linear.specs.Matrix.{PlainMatrix}
use Rattle.fp_linear.specs.Slices.{AreElements}
use Rattle.fp_linear.specs.Meeting.{dot, IsClearFrom}
use Rattle.module_checks.specs.Spreading.{IsSpread}
use Rattle.module_checks.specs.Commuting.{AsksMore, GoesAlong, defect_at}
use Rattle.module_checks.proofs.SpreadDots.{dot-same, dot_clear}
use Rattle.fp_linear.proofs.Meeting.{row_step, Meets-reduced, Meets-unreduced}

pub spread_others : (q : Gf) (n u count : ℕ) (value place : ℕ → ℕ) (old new : List ℕ) → IsSpread q (u * n) n count value place old new → (x : ℕ → ℕ) (i : ℕ) → i ≢ u → dot q n new (i * n) x ≡ dot q n old (i * n) x
spread_others q n u count value place old new s x i d = elim (cases_lt i u) [
  | inl l ↦ dot-same q n (i * n) old new x (λ t h. let k = row_step n i u l in s.before (i * n + t) (omega arith))
  | inr l ↦ dot-same q n (i * n) old new x (λ t h. let k = row_step n u i (omega arith) in s.behind (i * n + t) (omega arith))
]

pub spread_clear : (q : Gf) (n u count : ℕ) (value place : ℕ → ℕ) (old new : List ℕ) → IsSpread q (u * n) n count value place old new → IsClearFrom ((u + 1) * n) old → IsClearFrom ((u + 1) * n) new
spread_clear q n u count value place old new s c = record { clear = λ k h. s.behind k (let e = row_step n u (u + 1) (omega arith) in omega arith) ∙ c.clear k h }

-- A clear row takes an equation.
module _ (q : Gf) (n m u i j t s : ℕ) (xm ym : PlainMatrix) (old mid new : List ℕ)
    (a : IsSpread q (u * n) n xm.col_count (entry xm.rows i) (λ k. t + j + k * ym.col_count) old mid)
    (b : IsSpread q (u * n) n ym.row_count (λ l. neg q (entry ym.rows l j)) (λ l. s + i * ym.row_count + l) mid new)
    (c : IsClearFrom (u * n) old) (l : u < m) where
  new_row : (x : ℕ → ℕ) → dot q n new (u * n) x ≡ defect_at q xm ym t s i j x
  new_row x =
      b.dots x ∙ ap (λ z. add q z (sum_to q ym.row_count (λ l. mul q (neg q (entry ym.rows l j)) (x (s + i * ym.row_count + l)))))
      (a.dots x ∙ ap (λ z. add q z (sum_to q xm.col_count (λ k. mul q (entry xm.rows i k) (x (t + j + k * ym.col_count))))) (dot_clear q n (u * n) old x (λ t h. c.clear (u * n + t) (omega arith)))
      ∙ zero_add q _ (sum_below q xm.col_count (λ k. mul q (entry xm.rows i k) (x (t + j + k * ym.col_count)))))

  other_rows : (x : ℕ → ℕ) (k : ℕ) → k ≢ u → dot q n new (k * n) x ≡ dot q n old (k * n) x
  other_rows x k d = spread_others q n u _ _ _ mid new b x k d ∙ spread_others q n u _ _ _ old mid a x k d

  old_row : (x : ℕ → ℕ) → dot q n old (u * n) x ≡ 0
  old_row x = dot_clear q n (u * n) old x (λ t h. c.clear (u * n + t) (omega arith))

  pub equation_written : AsksMore q n m old new (λ x. defect_at q xm ym t s i j x ≡ 0)
  equation_written = record {
    before = λ x h. record { rows = λ k r. elim (cases_eq k u) [ inl e ↦ ap (λ z. dot q n old (z * n) x) e ∙ old_row x | inr d ↦ sym (other_rows x k d) ∙ h.rows k r ] };
    more = λ x h. sym (new_row x) ∙ h.rows u l;
    enough = λ x h p. record { rows = λ k r. elim (cases_eq k u) [ inl e ↦ ap (λ z. dot q n new (z * n) x) e ∙ new_row x ∙ p | inr d ↦ other_rows x k d ∙ h.rows k r ] };
  }

  pub equation_clear : IsClearFrom ((u + 1) * n) new
  equation_clear =
      spread_clear q n u _ _ _ mid new b (spread_clear q n u _ _ _ old mid a (record { clear = λ k h. c.clear k (let e = row_step n u (u + 1) (omega arith) in omega arith) }))

pub AsksMore-none : (q : Gf) (n m : ℕ) (s : List ℕ) → AsksMore q n m s s (λ x. ⊤)
AsksMore-none q n m s = record { before = λ x h. h; more = λ x h. tt; enough = λ x h p. h }

pub AsksMore-reduced : (q : Gf) (m n : ℕ) (old new pivots : List ℕ) (r : ℕ) → AreElements q old → AreElements q new → ReducesTo q n (rows_of m n old) (rows_of m n new) pivots r → AsksMore q n m old new (λ x. ⊤)
AsksMore-reduced q m n old new pivots r a b d = record {
  before = Meets-unreduced q m n old new pivots r a b d;
  more = λ x h. tt;
  enough = λ x h p. Meets-reduced q m n old new pivots r a b d x h;
}

pub GoesAlong-none : (q : Gf) (n m : ℕ) (xm ym : PlainMatrix) (t s : ℕ) (old : List ℕ) → AsksMore q n m old old (GoesAlong q xm ym t s 0)
GoesAlong-none q n m xm ym t s old = record { before = λ x h. h; more = λ x h. record { at = λ k l. absurd (omega arith) }; enough = λ x h p. h }

pub GoesAlong-more : (q : Gf) (n m : ℕ) (xm ym : PlainMatrix) (t s e : ℕ) (first old mid new : List ℕ) → AsksMore q n m first old (GoesAlong q xm ym t s e) → AsksMore q n m old mid (λ x. ⊤)
    → AsksMore q n m mid new (λ x. defect_at q xm ym t s (e / ym.col_count) (e % ym.col_count) x ≡ 0) → AsksMore q n m first new (GoesAlong q xm ym t s (e + 1))
GoesAlong-more q n m xm ym t s e first old mid new a b c = record {
  before = λ x h. a.before x (b.before x (c.before x h));
  more = λ x h. record {
    at = λ k l. elim (cases_eq k e) [
      | inl w ↦ subst (λ z. defect_at q xm ym t s (z / ym.col_count) (z % ym.col_count) x ≡ 0) (sym w) (c.more x h)
      | inr d ↦ (a.more x (b.before x (c.before x h))).at k (omega arith)
    ];
  };
  enough = λ x h p. c.enough x (b.enough x (a.enough x h (record { at = λ k l. p.at k (omega arith) })) tt) (p.at e (omega arith));
}
