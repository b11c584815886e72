-- The first place at which a test passes; tests in their order.
use Rattle.std.proofs.Common.{ℕ, zero, suc, ◌≡◌, ◌<◌, Bool, true, false, List, [], ◌∷◌, length, get_or, Option, Some, None, ap, ◌∙◌, arith, lt-ltb, le-ltb}
use Rattle.std.specs.Prelude.{find, position}
use Rattle.std.specs.List.{position_or_len}
use Rattle.std.proofs.lemmas.Bool.{cond-true, cond-false}
use Rattle.std.proofs.lemmas.List.Sums.{position_or_len_is}
use Rattle.report_types.specs.declared.reports.Why.{Why}
use Rattle.script_answers.specs.FirstTests.{first_of}

module _ {A : Type 0} (p : A → Bool) where
  pub position_first : (xs : List A) (i : ℕ) (d : A) → i < length xs → p (get_or xs i d) ≡ true → ((k : ℕ) → k < i → p (get_or xs k d) ≡ false) → position p xs ≡ Some i
  position_first xs i d l passes before =
      let e = position_or_len_is p xs i d (omega (arith, l)) before (λ _. passes) in
      cond-true _ (Some (position_or_len p xs)) None (lt-ltb (position_or_len p xs) (length xs) (omega (arith, e, l))) ∙ ap Some e

  pub position_none : (xs : List A) (d : A) → ((k : ℕ) → k < length xs → p (get_or xs k d) ≡ false) → position p xs ≡ None
  position_none xs d before =
      let e = position_or_len_is p xs (length xs) d (omega arith) before (λ l. absurd (omega (arith, l))) in
      cond-false _ (Some (position_or_len p xs)) None (le-ltb (position_or_len p xs) (length xs) (omega (arith, e)))

  pub find_first : (xs : List A) (i : ℕ) (d : A) → i < length xs → p (get_or xs i d) ≡ true → ((k : ℕ) → k < i → p (get_or xs k d) ≡ false) → find p xs ≡ Some (get_or xs i d)
  find_first [] i d l passes before = absurd (omega arith)
  find_first (x ∷ xs) zero d l passes before = cond-true (p x) (Some x) (find p xs) passes
  find_first (x ∷ xs) (suc i) d l passes before = cond-false (p x) (Some x) (find p xs) (before zero (omega arith)) ∙ find_first xs i d (omega arith) passes (λ k m. before (suc k) (omega arith))

  pub find_none : (xs : List A) (d : A) → ((k : ℕ) → k < length xs → p (get_or xs k d) ≡ false) → find p xs ≡ None
  find_none [] d before = λ i. None
  find_none (x ∷ xs) d before = cond-false (p x) (Some x) (find p xs) (before zero (omega arith)) ∙ find_none xs d (λ k m. before (suc k) (omega arith))

-- a test that passes is passed over, and one that fails is the answer
pub passed : (t : Option Why) (tests : List (Option Why)) → t ≡ None → first_of (t ∷ tests) ≡ first_of tests
passed t tests e = ap (λ t. first_of (t ∷ tests)) e

pub stopped : (t : Option Why) (tests : List (Option Why)) (w : Why) → t ≡ Some w → first_of (t ∷ tests) ≡ Some w
stopped t tests w e = ap (λ t. first_of (t ∷ tests)) e

pub only : (t : Option Why) → first_of (t ∷ []) ≡ t
only None = λ i. None
only (Some w) = λ i. Some w
