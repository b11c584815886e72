-- How sums of products change when a number does.
use Rattle.std.proofs.Common.{ℕ, zero, suc, ◌<◌, ◌≡◌, ◌≢◌, ◌+◌, List, get_or, refl, sym, ap, ap₂, ◌∙◌, inl, inr, arith, add-one}
use Rattle.std.proofs.lemmas.Bool.{cases_eq}
use Rattle.linear_algebra.specs.Field.{Gf, add, mul}
use Rattle.linear_algebra.specs.FieldLaws.{add_assoc, add_comm, add_mul, add_zero, zero_mul}
use Rattle.linear_algebra.specs.Sums.{sum_to, sum-same, sum_below, sum-zeros}
use Rattle.fp_linear.specs.Meeting.{dot}
use Rattle.module_checks.specs.Spreading.{IsAddedAt, IsSpread}

-- One term of a sum grows.
pub sum-changed : (q : Gf) (n p d : ℕ) (f g : ℕ → ℕ) → p < n → g p ≡ add q (f p) d → ((t : ℕ) → t ≢ p → g t ≡ f t) → sum_to q n g ≡ add q (sum_to q n f) d
unfolding sum_to
sum-changed q zero p d f g h e o = absurd (omega arith)
sum-changed q (suc n) p d f g h e o = elim (cases_eq n p) [
  | inl last ↦
      ap₂ (add q) (sum-same q n g f (λ t l. o t (omega arith))) (ap g last ∙ e ∙ ap (λ z. add q (f z) d) (sym last))
      ∙ sym (add_assoc q (sum_to q n f) (f n) d)
  | inr other ↦
      ap₂ (add q) (sum-changed q n p d f g (omega arith) e o) (o n other)
      ∙ add_assoc q (sum_to q n f) d (f n) ∙ ap (add q (sum_to q n f)) (add_comm q d (f n)) ∙ sym (add_assoc q (sum_to q n f) (f n) d)
]

pub dot-added : (q : Gf) (n start p v : ℕ) (old new : List ℕ) → IsAddedAt q (start + p) v old new → p < n → (x : ℕ → ℕ)
    → dot q n new start x ≡ add q (dot q n old start x) (mul q v (x p))
unfolding dot
dot-added q n start p v old new a h x =
    sum-changed q n p (mul q v (x p)) (λ t. mul q (get_or old (start + t) 0) (x t)) (λ t. mul q (get_or new (start + t) 0) (x t)) h
    (ap (λ z. mul q z (x p)) a.there ∙ add_mul q (get_or old (start + p) 0) v (x p))
    (λ t d. ap (λ z. mul q z (x t)) (a.elsewhere (start + t) (omega arith)))

pub dot-same : (q : Gf) (n start : ℕ) (old new : List ℕ) (x : ℕ → ℕ) → ((t : ℕ) → t < n → get_or new (start + t) 0 ≡ get_or old (start + t) 0) → dot q n new start x ≡ dot q n old start x
unfolding dot
dot-same q n start old new x h = sum-same q n _ _ (λ t l. ap (λ z. mul q z (x t)) (h t l))

pub dot_clear : (q : Gf) (n start : ℕ) (s : List ℕ) (x : ℕ → ℕ) → ((t : ℕ) → t < n → get_or s (start + t) 0 ≡ 0) → dot q n s start x ≡ 0
unfolding dot
dot_clear q n start s x h = sum-zeros q n _ (λ t l. ap (λ z. mul q z (x t)) (h t l) ∙ zero_mul q (x t))

pub IsSpread-none : (q : Gf) (start n : ℕ) (value place : ℕ → ℕ) (s : List ℕ) → IsSpread q start n 0 value place s s
unfolding dot sum_to
IsSpread-none q start n value place s = record {
  dots = λ x. sym (add_zero q (dot q n s start x) (sum_below q n (λ t. mul q (get_or s (start + t) 0) (x t))));
  before = λ k h. refl;
  behind = λ k h. refl;
}

pub IsSpread-more : (q : Gf) (start n k at v : ℕ) (value place : ℕ → ℕ) (old mid new : List ℕ) → IsSpread q start n k value place old mid → IsAddedAt q at v mid new
    → at ≡ start + place k → v ≡ value k → place k < n → IsSpread q start n (k + 1) value place old new
unfolding sum_to
IsSpread-more q start n k at v value place old mid new s a e f h = record {
  dots = λ x.
      dot-added q n start (place k) (value k) mid new (added a e f) h x ∙ ap (λ z. add q z (mul q (value k) (x (place k)))) (s.dots x)
      ∙ add_assoc q _ _ _ ∙ ap (add q (dot q n old start x)) (sum_more x);
  before = λ i l. a.elsewhere i (omega arith) ∙ s.before i l;
  behind = λ i l. a.elsewhere i (omega arith) ∙ s.behind i l;
}
  where
    added : IsAddedAt q at v mid new → at ≡ start + place k → v ≡ value k → IsAddedAt q (start + place k) (value k) mid new
    added a e f = rw (← e, ← f) a

    sum_more : (x : ℕ → ℕ) → add q (sum_to q k (λ t. mul q (value t) (x (place t)))) (mul q (value k) (x (place k))) ≡ sum_to q (k + 1) (λ t. mul q (value t) (x (place t)))
    sum_more x = rw add-one refl

pub dot-none : (q : Gf) (start : ℕ) (s : List ℕ) (x : ℕ → ℕ) → dot q 0 s start x ≡ 0
unfolding dot sum_to
dot-none q start s x = refl

pub dot-more : (q : Gf) (n start : ℕ) (s : List ℕ) (x : ℕ → ℕ) → dot q (n + 1) s start x ≡ add q (dot q n s start x) (mul q (get_or s (start + n) 0) (x n))
unfolding dot sum_to
dot-more q n start s x = rw add-one refl
