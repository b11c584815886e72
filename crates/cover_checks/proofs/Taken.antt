-- Loops over coordinates.
use Rattle.std.proofs.Common.{ℕ, ◌<◌, ◌≡◌, ◌+◌, ◌*◌, List, length, set, sym, ◌∙◌, inl, inr, arith, subst, get_or-set_same, get_or-set_other, add-one}
use Rattle.std.specs.Prelude.{slice_index}
use Rattle.std.proofs.lemmas.Bool.{cases_eq}
use Rattle.linear_algebra.specs.Field.{Gf, add, mul}
use Rattle.linear_algebra.specs.Sums.{sum-suc}
use Rattle.cover_checks.specs.Bases.{AreAtPlaces, combined_entry}

pub taken_none : (places y x : List ℕ) → AreAtPlaces 0 places y x
taken_none places y x = record { at = λ i l. absurd (omega arith) }

pub taken_more : (k : ℕ) (places y x : List ℕ) (p : ℕ) → AreAtPlaces k places y x → k < length x → p ≡ slice_index y (slice_index places k) → AreAtPlaces (k + 1) places y (set x k p)
taken_more k places y x p h l e = record {
  at = λ i b. elim (cases_eq i k) [
    | inl s ↦ subst (λ i. slice_index (set x k p) i ≡ slice_index y (slice_index places i)) (sym s) (get_or-set_same x k p 0 l ∙ e)
    | inr d ↦ get_or-set_other x k i p 0 d ∙ h.at i (omega arith)
  ];
}

pub combined_more : (q : Gf) (n : ℕ) (x s : List ℕ) (j i : ℕ) → combined_entry q (i + 1) n x s j ≡ add q (combined_entry q i n x s j) (mul q (slice_index x i) (slice_index s (i * n + j)))
combined_more q n x s j i = rw add-one (sum-suc q i _)
