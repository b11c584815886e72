-- Entries of unit rows, and unit rows beside zeros.
use Rattle.std.proofs.Common.{ℕ, ◌+◌, ◌-◌, ◌<◌, ◌≤◌, ◌≡◌, ◌≢◌, inl, inr, sym, ap, ◌∙◌, arith}
use Rattle.std.proofs.lemmas.Bool.{cases_eq}
use Rattle.linear_algebra.specs.Field.{Gf}
use Rattle.linear_algebra.specs.Matrix.{zeros, delta, delta-same, delta-other, beside}
use Rattle.linear_algebra.specs.Parts.{unit}
use Rattle.linear_algebra.proofs.MatrixLaws.{one-at}
use Rattle.linear_algebra.proofs.Blocks.{join_cases}
use Rattle.linear_algebra.proofs.PartsLaws.{Row-eq, unit-at}

delta-shift : (m i j : ℕ) → m ≤ j → delta i (j - m) ≡ delta (m + i) j
delta-shift m i j h = elim (cases_eq i (j - m)) [
  | inl e ↦ ap (delta i) (sym e) ∙ delta-same i ∙ sym (let same : j ≡ m + i = omega arith in ap (delta (m + i)) same ∙ delta-same (m + i))
  | inr d ↦ delta-other i (j - m) d ∙ sym (delta-other (m + i) j (λ e. d (omega arith)))
]

module _ (q : Gf) where
  pub unit_same : (n i : ℕ) → i < n → (unit q n i).at 0 i ≡ 1
  unit_same n i h = unit-at q n i i ∙ one-at q n i i h ∙ delta-same i

  pub unit_other : (n i j : ℕ) → i < n → i ≢ j → (unit q n i).at 0 j ≡ 0
  unit_other n i j h d = unit-at q n i j ∙ one-at q n i j h ∙ delta-other i j d

  pub beside_unit_first : (m n i : ℕ) → i < m → beside (unit q m i) (zeros q 1 n) ≡ unit q (m + n) i
  unfolding beside zeros
  beside_unit_first m n i h = Row-eq _ _ (λ j l. elim (join_cases m j) [
    | inl c ↦ c.is _ _ ∙ unit-at q m i j ∙ one-at q m i j h ∙ sym (unit-at q (m + n) i j ∙ one-at q (m + n) i j (omega arith))
    | inr c ↦ c.is _ _ ∙ sym (unit_other (m + n) i j (omega arith) (λ e. let b = c.ge in omega arith))
  ])

  pub beside_unit_second : (m n i : ℕ) → i < n → beside (zeros q 1 m) (unit q n i) ≡ unit q (m + n) (m + i)
  unfolding beside zeros
  beside_unit_second m n i h = Row-eq _ _ (λ j l. elim (join_cases m j) [
    | inl c ↦ c.is _ _ ∙ sym (unit_other (m + n) (m + i) j (omega arith) (λ e. let b = c.lt in omega arith))
    | inr c ↦ c.is _ _ ∙ unit-at q n i (j - m) ∙ one-at q n i (j - m) h ∙ delta-shift m i j c.ge ∙ sym (unit-at q (m + n) (m + i) j ∙ one-at q (m + n) (m + i) j (omega arith))
  ])
