-- Rows of a slice that stand for all paths of some arrows.
use Rattle.std.proofs.Common.{ℕ, ◌<◌, ◌≤◌, ◌≡◌, ◌+◌, ◌*◌, List, [], ◌∷◌, ◌++◌, length, inl, inr, sym, ap, ◌∙◌, subst, arith, mul-le-mul_right}
use Rattle.std.proofs.lemmas.Bool.{cases_lt, cases_eq}
use Rattle.std.proofs.lemmas.List.{length_push, same_from_push, nil_from_length}
use Rattle.linear_algebra.specs.Field.{Gf, mul}
use Rattle.linear_algebra.specs.FieldLaws.{zero_mul}
use Rattle.linear_algebra.specs.Sums.{sum-zeros}
use Rattle.linear_algebra.specs.Matrix.{Column, zeros, ◌·◌}
use Rattle.linear_algebra.specs.MatrixLaws.{mul_assoc_mat}
use Rattle.linear_algebra.specs.BlockFamilies.{total}
use Rattle.linear_algebra.proofs.BlockFamilies.{total_grows}
use Rattle.linear_algebra.proofs.Subspaces.{through_zero}
use Rattle.fp_linear.specs.Meeting.{Meets, IsClearFrom}
use Rattle.representations.specs.Quiver.{Quiver, Path, trivial, then}
use Rattle.representations.specs.Rep.{Rep, along}
use Rattle.representations.proofs.Paths.{along-then}
use Rattle.bound_algebra.specs.TypedPaths.{arrows_of}
use Rattle.bound_algebra.proofs.TypedPaths.{length-arrows_of}
use Rattle.module_checks.specs.PathImages.{arrow_dot, MeetsAt, HoldPaths}
use Rattle.module_faults.specs.Levels.{AskImage}
use Rattle.module_faults.proofs.PlacedColumns.{placed, dot_placed, image_placed, image_elsewhere}
use Rattle.module_faults.proofs.Stopping.{PrefixEnds}

-- the rows span what comes along the paths of these arrows
pub record HoldPrefix {q : Gf} {Q : Quiver} (X : Rep q Q) (xs : List ℕ) (n m : ℕ) (s : List ℕ) : Type 0 where
  pub forth : (w : ℕ) (y : Column q (X.dim w)) → MeetsAt X n m s w y → PrefixEnds X xs w y
  pub back : (w : ℕ) (y : Column q (X.dim w)) → PrefixEnds X xs w y → MeetsAt X n m s w y

module _ {q : Gf} {Q : Quiver} (X : Rep q Q) where
  pub prefix_none : (n m : ℕ) (s : List ℕ) → HoldPaths X 0 n m s → HoldPrefix X [] n m s
  prefix_none n m s h = record {
    forth = λ w y c. record { along = λ p e. (h.forth w y c).along p (sym (length-arrows_of p) ∙ ap length e) };
    back = λ w y c. h.back w y (record { along = λ p e. c.along p (nil_from_length (arrows_of p) (length-arrows_of p ∙ e)) });
  }

  -- a column that meets rows at a vertex, as a function of all places
  meets_placed : (n m : ℕ) (s : List ℕ) (w : ℕ) (y : Column q (X.dim w)) → total w X.dim + X.dim w ≤ n → MeetsAt X n m s w y → Meets q n m s (placed X w y)
  meets_placed n m s w y l h = record { rows = λ r b. dot_placed X n w (r * n) s y l ∙ h.rows r b }

  placed_meets : (n m : ℕ) (s : List ℕ) (w : ℕ) (y : Column q (X.dim w)) → total w X.dim + X.dim w ≤ n → Meets q n m s (placed X w y) → MeetsAt X n m s w y
  placed_meets n m s w y l h = record { rows = λ r b. sym (dot_placed X n w (r * n) s y l) ∙ h.rows r b }

  module _ (xs : List ℕ) (n m count a : ℕ) (old new : List ℕ) (size : n ≡ total Q.vertices X.dim) (few : count ≤ m) (held : HoldPrefix X xs n m old) (c : IsClearFrom (count * n) old)
      (asked : AskImage X n m count a old new) where
    fits : (w : ℕ) → w < Q.vertices → total w X.dim + X.dim w ≤ n
    fits w l = let g = total_grows X.dim Q.vertices w l in omega (arith, g, size)

    before_arrow : (y : Column q (X.dim (Q.target a))) → ((r : ℕ) → r < count → arrow_dot X n old a r (placed X (Q.target a) y) ≡ 0) → MeetsAt X n m old (Q.source a) (X.mat a · y)
    before_arrow y h = record {
      rows = λ r l. elim (cases_lt r count) [
        | inl b ↦ sym (image_placed X n a r old y) ∙ h r b
        | inr b ↦ sum-zeros q (X.dim (Q.source a)) _ (λ i j. ap (λ z. mul q z ((X.mat a · y).at i 0)) (c.clear (r * n + total (Q.source a) X.dim + i) (let d = behind r count n b in omega arith)) ∙ zero_mul q _)
      ];
    }
      where
        behind : (r count n : ℕ) → count ≤ r → count * n ≤ r * n
        behind r count n h = mul-le-mul_right n h

    one_more : {v w : ℕ} (p : Path Q v w) → arrows_of p ≡ xs ++ a ∷ [] → (y : Column q (X.dim w)) → Meets q n m new (placed X w y) → along X p · y ≡ zeros q (X.dim v) 1
    one_more trivial e y h = absurd (let k = length_push xs a in let l = ap length e in omega arith)
    one_more {v} (then b p) e y h =
        let s = same_from_push (arrows_of p) xs b a e in
        subst (λ b. (p : Path Q v (Q.source b)) (y : Column q (X.dim (Q.target b))) → arrows_of p ≡ xs → Meets q n m new (placed X (Q.target b) y) → along X (then b p) · y ≡ zeros q (X.dim v) 1) (sym s.1)
        (λ p y e h. ap (λ z. z · y) (along-then X a p) ∙ mul_assoc_mat (along X p) (X.mat a) y
        ∙ (held.forth (Q.source a) (X.mat a · y) (before_arrow y (λ r l. asked.forth (placed X (Q.target a) y) h r l))).along p e) p y s.0 h

    at_target : (w : ℕ) → Q.target a ≡ w → (y : Column q (X.dim w)) → PrefixEnds X (xs ++ a ∷ []) w y → (r : ℕ) → r < count → r < m → arrow_dot X n old a r (placed X w y) ≡ 0
    at_target w e = subst (λ w. (y : Column q (X.dim w)) → PrefixEnds X (xs ++ a ∷ []) w y → (r : ℕ) → r < count → r < m → arrow_dot X n old a r (placed X w y) ≡ 0) e (λ y h r b l.
        image_placed X n a r old y
        ∙ (held.back (Q.source a) (X.mat a · y) (record { along = λ p d. sym (mul_assoc_mat (along X p) (X.mat a) y) ∙ ap (λ z. z · y) (sym (along-then X a p)) ∙ h.along (then a p) (ap (λ zs. zs ++ a ∷ []) d) })).rows r l)

    pub prefix_more : HoldPrefix X (xs ++ a ∷ []) n m new
    prefix_more = record {
      forth = λ w y h. elim (cases_lt w Q.vertices) [
        | inl l ↦ record { along = λ p e. one_more p e y (meets_placed n m new w y (fits w l) h) }
        | inr l ↦ record { along = λ p e. through_zero (along X p) y (X.past w l) }
      ];
      back = λ w y h. elim (cases_lt w Q.vertices) [
        | inl l ↦ placed_meets n m new w y (fits w l) (asked.back (placed X w y) (λ r d. elim (cases_eq (Q.target a) w) [
          | inl e ↦ at_target w e y h r d (omega (arith, few))
          | inr e ↦ image_elsewhere X n a r w old y e
        ]))
        | inr l ↦ record { rows = λ r b. sum-zeros q (X.dim w) _ (λ i k. absurd (let e = X.past w l in omega arith)) }
      ];
    }

  -- the same in a copy
  pub prefix_copied : (xs : List ℕ) (n m : ℕ) (s copy : List ℕ) → copy ≡ s → HoldPrefix X xs n m s → HoldPrefix X xs n m copy
  prefix_copied xs n m s copy e h = subst (HoldPrefix X xs n m) (sym e) h
