-- Sizes: a matrix with a right inverse has no more rows than columns (Steinitz).
use Rattle.std.proofs.Common.{ℕ, zero, suc, ◌+◌, ◌≤◌, ◌≡◌, ◌⊎◌, inl, inr, sym, ap, ap₂, ◌∙◌, arith, subst, subst₂, zero-le}
use Rattle.linear_algebra.specs.Field.{Gf}
use Rattle.linear_algebra.specs.Sums.{sum-none}
use Rattle.linear_algebra.specs.Matrix.{Mat, Row, Column, Mat-eq, zeros, delta-same, one, negative, ◌⊟◌, ◌·◌, stack, beside}
use Rattle.linear_algebra.specs.Parts.{upper, lower, left_part, right_part}
use Rattle.linear_algebra.proofs.MatrixLaws.{one-at}
use Rattle.linear_algebra.proofs.Blocks.{one_blocks, stack_mul, mul_beside}
use Rattle.linear_algebra.proofs.PartsLaws.{stack_parts, beside_parts, stack_first, stack_second, beside_first, beside_second, invertible_1}
use Rattle.linear_algebra.proofs.Products.{products, sums, blocks, pull}
use Rattle.linear_algebra.proofs.Search.{HasEntry, entry_or_zeros}
use Rattle.linear_algebra.proofs.Solving.{zeros_not_one}

-- A row p of length 1 + n that is not zero, completed: a column where it is 1, and the rest of the unit matrix through length n.
record IsCompleted {q : Gf} (n : ℕ) (p : Row q (1 + n)) : Type 0 where
  section : Column q (1 + n)
  from : Mat q (1 + n) n
  to : Mat q n (1 + n)
  value : p · section ≡ one q 1
  rest : from · to ≡ one q (1 + n) ⊟ section · p

module _ {q : Gf} {n : ℕ} (a b : Mat q 1 1) (r : Row q n) where
  at_first : a · b ≡ one q 1 → b · a ≡ one q 1 → IsCompleted n (beside a r)
  at_first over under = record {
    section = stack b (zeros q n 1);
    from = stack (negative (b · r)) (one q n);
    to = beside (zeros q n 1) (one q n);
    value = simp (blocks, products, over);
    rest = simp (blocks, products, sums, ← one_blocks q 1 n, under);
  }

module _ {q : Gf} {n : ℕ} (r : Row q (1 + n)) (c : IsCompleted n r) where
  at_later : IsCompleted (1 + n) (beside (zeros q 1 1) r)
  at_later = record {
    section = stack (zeros q 1 1) c.section;
    from = stack (beside (one q 1) (zeros q 1 n)) (beside (zeros q (1 + n) 1) c.from);
    to = stack (beside (one q 1) (zeros q 1 (1 + n))) (beside (zeros q n 1) c.to);
    value = simp (blocks, products, c.value);
    rest = simp (blocks, products, ← one_blocks q 1 (1 + n), c.rest);
  }

-- a product through length 0 is zero
pub through_none : {q : Gf} {m n : ℕ} (a : Mat q m 0) (b : Mat q 0 n) → a · b ≡ zeros q m n
unfolding ◌·◌ zeros
through_none {q} a b = Mat-eq _ _ (λ i j. sum-none q _)

Completes : Gf → ℕ → Type 0
Completes q n = (p : Row q (1 + n)) (u : Column q (1 + n)) → p · u ≡ one q 1 → IsCompleted n p

module _ {q : Gf} {n : ℕ} where
  -- by the first entry
  cases_first : (a : Mat q 1 1) (r : Row q n) (b : Mat q 1 1) (v : Column q n) → beside a r · stack b v ≡ one q 1 → (r · v ≡ one q 1 → IsCompleted n (beside (zeros q 1 1) r)) → IsCompleted n (beside a r)
  cases_first a r b v e later = go (entry_or_zeros a)
    where
      go : HasEntry a ⊎ (a ≡ zeros q 1 1) → IsCompleted n (beside a r)
      go (inl h) =
          let i = invertible_1 a (λ z. h.nonzero (ap₂ a.at (omega (arith, h.line_below)) (omega (arith, h.place_below)) ∙ z)) in
          at_first a i.inverse r i.right i.left
      go (inr z) =
          let rest : r · v ≡ one q 1 = sym (simp (blocks, z, products) at (sym e)) in
          subst (λ a. IsCompleted n (beside a r)) (sym z) (later rest)

  by_parts : ((r : Row q n) (v : Column q n) → r · v ≡ one q 1 → IsCompleted n (beside (zeros q 1 1) r)) → Completes q n
  unfolding Completes
  by_parts later p u e =
      let parts : beside (left_part 1 n p) (right_part 1 n p) · stack (upper 1 n u) (lower 1 n u) ≡ one q 1 = ap₂ (λ x y. x · y) (beside_parts 1 n p) (stack_parts 1 n u) ∙ e in
      subst (IsCompleted n) (beside_parts 1 n p) (cases_first (left_part 1 n p) (right_part 1 n p) (upper 1 n u) (lower 1 n u) parts (later (right_part 1 n p) (lower 1 n u)))

completes : (q : Gf) (n : ℕ) → Completes q n
unfolding Completes
completes q zero = by_parts (λ r v e. absurd (zeros_not_one q (sym (through_none r v) ∙ e)))
completes q (suc n) =
    let same : 1 + n ≡ suc n = omega arith in
    subst (Completes q) same (next (completes q n))
  where
    next : Completes q n → Completes q (1 + n)
    next before = by_parts (λ r v e. at_later r (before r v e))

-- A product of an (1 + m) × (1 + n) matrix and an (1 + n) × (1 + m) matrix that is 1 gives such a product of sizes m and n.
record IsSmaller (q : Gf) (m n : ℕ) : Type 0 where
  first : Mat q m n
  second : Mat q n m
  is : first · second ≡ one q m

module _ {q : Gf} (m n : ℕ) (p : Row q (1 + n)) (P : Mat q m (1 + n)) (u : Column q (1 + n)) (U : Mat q (1 + n) m) where
  four : stack p P · beside u U ≡ one q (1 + m) → stack (beside (p · u) (p · U)) (beside (P · u) (P · U)) ≡ stack (beside (one q 1) (zeros q 1 m)) (beside (zeros q m 1) (one q m))
  four e = simp (stack_mul, mul_beside) at (e ∙ sym (one_blocks q 1 m))

  smaller : (p · u ≡ one q 1) → p · U ≡ zeros q 1 m → P · U ≡ one q m → IsSmaller q m n
  unfolding Completes
  smaller e f g =
      let c = completes q n p u e in
      record { first = P · c.from; second = c.to · U; is = simp (products, pull c.from c.to c.rest, f, g) }

  shrink : stack p P · beside u U ≡ one q (1 + m) → IsSmaller q m n
  shrink e =
      let up = stack_first (beside (p · u) (p · U)) (beside (one q 1) (zeros q 1 m)) (beside (P · u) (P · U)) (beside (zeros q m 1) (one q m)) (four e) in
      let down = stack_second (beside (p · u) (p · U)) (beside (one q 1) (zeros q 1 m)) (beside (P · u) (P · U)) (beside (zeros q m 1) (one q m)) (four e) in
      smaller (beside_first (p · u) (one q 1) (p · U) (zeros q 1 m) up) (beside_second (p · u) (one q 1) (p · U) (zeros q 1 m) up) (beside_second (P · u) (zeros q m 1) (P · U) (one q m) down)

shrunk : {q : Gf} (m n : ℕ) (P : Mat q (1 + m) (1 + n)) (U : Mat q (1 + n) (1 + m)) → P · U ≡ one q (1 + m) → IsSmaller q m n
shrunk m n P U e =
    shrink m n (upper 1 m P) (lower 1 m P) (left_part 1 m U) (right_part 1 m U)
    (ap₂ (λ x y. x · y) (stack_parts 1 m P) (beside_parts 1 m U) ∙ e)

Bounds : Gf → ℕ → ℕ → Type 0
Bounds q m n = (P : Mat q m n) (U : Mat q n m) → P · U ≡ one q m → m ≤ n

-- no product through length 0 is 1
no_length : (q : Gf) (m : ℕ) → Bounds q (suc m) 0
unfolding Bounds zeros
no_length q m P U e =
    let bad : zero ≡ 1 = ap (λ (z : Mat q (suc m) (suc m)). z.at 0 0) (sym (through_none P U) ∙ e) ∙ one-at q (suc m) 0 0 (omega arith) ∙ delta-same 0 in
    omega arith

bounds : (q : Gf) (m n : ℕ) → Bounds q m n
unfolding Bounds
bounds q zero n P U e = zero-le
bounds q (suc m) zero P U e = no_length q m P U e
bounds q (suc m) (suc n) P U e =
    let down : 1 + m ≡ suc m = omega arith in
    let across : 1 + n ≡ suc n = omega arith in
    subst₂ (Bounds q) down across (grow (bounds q m n)) P U e
  where
    grow : Bounds q m n → Bounds q (1 + m) (1 + n)
    grow before P U e = let s = shrunk m n P U e in let h : m ≤ n = before s.first s.second s.is in omega arith

pub steinitz : {q : Gf} {m n : ℕ} (P : Mat q m n) (U : Mat q n m) → P · U ≡ one q m → m ≤ n
unfolding Bounds
steinitz {q} {m} {n} P U e = bounds q m n P U e
