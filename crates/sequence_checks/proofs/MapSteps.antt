-- Entries of maps, one after another; what is decided of them, typed.
use Rattle.std.proofs.Common.{ℕ, ◌≡◌, ◌<◌, ◌≤◌, ◌+◌, List, ltb, lt-ltb, le-ltb, inl, inr, refl, sym, ap, ap₂, ◌∙◌, arith, subst}
use Rattle.std.proofs.lemmas.Bool.{cases_lt, cases_eq, cond-true, cond-false}
use Rattle.linear_algebra.specs.Field.{Gf}
use Rattle.linear_algebra.specs.Matrix.{Mat, Mat-eq_below, zeros, one, beside, stack, ◌·◌, ◌⊞◌}
use Rattle.linear_algebra.specs.Parts.{left_part, right_part}
use Rattle.linear_algebra.specs.PartsLaws.{beside_parts, right_part-at}
use Rattle.linear_algebra.specs.Rows.{entry}
use Rattle.linear_algebra.proofs.Blocks.{join-first, join-second, beside_stack}
use Rattle.linear_algebra.proofs.MatrixLaws.{mul_zeros, mul_one_mat, zeros_add}
use Rattle.fp_linear.specs.Matrix.{PlainMatrix}
use Rattle.representations.specs.Quiver.{Quiver}
use Rattle.representations.specs.Rep.{Rep}
use Rattle.representations.specs.Sum.{sum_rep}
use Rattle.module_types.specs.Readings.{family_of}
use Rattle.module_checks.proofs.HomRank.{IsPlainOf}
use Rattle.module_checks.proofs.Squares.{product_typed}
use Rattle.sequence_checks.specs.Maps.{widened, IsWidened, IsLastRow, AreLast, AreMapsUpTo}

pub last_row-more : (g j : PlainMatrix) (start r c : ℕ) → entry g.rows r c ≡ entry j.rows r (start + c) → IsLastRow g j start r c → IsLastRow g j start r (c + 1)
last_row-more g j start r c e t = record { at = λ k l. elim (cases_eq k c) [ inl f ↦ subst (λ k. entry g.rows r k ≡ entry j.rows r (start + k)) (sym f) e | inr d ↦ t.at k (omega arith) ] }

pub widened-inside : (a : PlainMatrix) (r j v : ℕ) → j < a.col_count → v ≡ entry a.rows r j → v ≡ widened a r j
widened-inside a r j v l e = e ∙ sym (cond-true (ltb j a.col_count) (entry a.rows r j) 0 (lt-ltb j a.col_count l))

pub widened-behind : (a : PlainMatrix) (r j : ℕ) → a.col_count ≤ j → 0 ≡ widened a r j
widened-behind a r j l = sym (cond-false (ltb j a.col_count) (entry a.rows r j) 0 (le-ltb j a.col_count l))

module _ {q : Gf} {m n : ℕ} (k l : ℕ) (F : Mat q m n) (J : Mat q n (k + l)) (I : Mat q m k) (f j i : PlainMatrix) (fp : IsPlainOf f F) (jp : IsPlainOf j J) (ip : IsPlainOf i I) where
  beside_at : (r c : ℕ) → (beside I (zeros q m l)).at r c ≡ widened i r c
  unfolding beside zeros
  beside_at r c = elim (cases_lt c k) [
    | inl u ↦ join-first k (I.at r) (λ _. 0) c u ∙ sym (ip.entries r c) ∙ widened-inside i r c (entry i.rows r c) (omega (arith, ip.col_count, u)) refl
    | inr u ↦ join-second k (I.at r) (λ _. 0) c u ∙ widened-behind i r c (omega (arith, ip.col_count, u))
  ]

  pub widened_yes : IsWidened q f j i f.row_count → F · J ≡ beside I (zeros q m l)
  widened_yes w = Mat-eq_below _ _ (λ r c u v.
      sym (product_typed F J f j fp jp r c) ∙ (w.each r (omega (arith, fp.row_count, u))).at c (omega (arith, jp.col_count, v)) ∙ sym (beside_at r c))

  pub widened_no : F · J ≡ beside I (zeros q m l) → IsWidened q f j i f.row_count
  widened_no e = record { each = λ r u. record { at = λ c v. product_typed F J f j fp jp r c ∙ ap (λ (z : Mat q m (k + l)). z.at r c) e ∙ beside_at r c } }

module _ {q : Gf} {n : ℕ} (k l : ℕ) (J : Mat q n (k + l)) (G : Mat q n l) (g j : PlainMatrix) (gp : IsPlainOf g G) (jp : IsPlainOf j J) (start : ℕ) (e : start ≡ k) where
  last_part : J · stack (zeros q k l) (one q l) ≡ right_part k l J
  last_part =
      ap (λ z. z · stack (zeros q k l) (one q l)) (sym (beside_parts k l J)) ∙ beside_stack (left_part k l J) (right_part k l J) (zeros q k l) (one q l)
      ∙ ap₂ (λ x y. x ⊞ y) (mul_zeros (left_part k l J)) (mul_one_mat (right_part k l J)) ∙ zeros_add (right_part k l J)

  pub last_yes : AreLast g j start g.row_count → G ≡ J · stack (zeros q k l) (one q l)
  last_yes a = Mat-eq_below _ _ (λ r c u v.
      sym (gp.entries r c) ∙ (a.each r (omega (arith, gp.row_count, u))).at c (omega (arith, gp.col_count, v)) ∙ jp.entries r (start + c) ∙ ap (λ s. J.at r (s + c)) e ∙ sym (right_part-at k l J r c)) ∙ sym last_part

  pub last_no : G ≡ J · stack (zeros q k l) (one q l) → AreLast g j start g.row_count
  last_no f = record {
    each = λ r u. record {
      at = λ c v. gp.entries r c ∙ ap (λ (z : Mat q n l). z.at r c) (f ∙ last_part) ∙ right_part-at k l J r c ∙ ap (λ s. J.at r (s + c)) (sym e) ∙ sym (jp.entries r (start + c));
    };
  }

-- one vertex after another
module _ {q : Gf} {Q : Quiver} (N E I M : Rep q Q) (f g left middle : List PlainMatrix) where
  abbrev first_at : ℕ → Type 0
  first_at w = family_of N E f w · family_of E (sum_rep I M) middle w ≡ beside (family_of N I left w) (zeros q (N.dim w) (M.dim w))

  abbrev second_at : ℕ → Type 0
  second_at w = family_of E M g w ≡ family_of E (sum_rep I M) middle w · stack (zeros q (I.dim w) (M.dim w)) (one q (M.dim w))

  pub maps-none : AreMapsUpTo N E I M f g left middle 0
  maps-none = record { first = λ w l. absurd (omega arith); second = λ w l. absurd (omega arith) }

  pub maps-more : (w : ℕ) → AreMapsUpTo N E I M f g left middle w → first_at w → second_at w → AreMapsUpTo N E I M f g left middle (w + 1)
  maps-more w a x y = record {
    first = λ v l. elim (cases_eq v w) [ inl e ↦ subst first_at (sym e) x | inr d ↦ a.first v (omega arith) ];
    second = λ v l. elim (cases_eq v w) [ inl e ↦ subst second_at (sym e) y | inr d ↦ a.second v (omega arith) ];
  }

  -- past the last vertex there are no rows
  pub maps_first : AreMapsUpTo N E I M f g left middle Q.vertices → (w : ℕ) → first_at w
  unfolding zeros
  maps_first a w = elim (cases_lt w Q.vertices) [
    | inl l ↦ a.first w l
    | inr b ↦ Mat-eq_below _ _ (λ i j u v. absurd (let e = N.past w b in omega (arith, e, u)))
  ]

  pub maps_second : AreMapsUpTo N E I M f g left middle Q.vertices → (w : ℕ) → second_at w
  maps_second a w = elim (cases_lt w Q.vertices) [
    | inl l ↦ a.second w l
    | inr b ↦ Mat-eq_below _ _ (λ i j u v. absurd (let e = E.past w b in omega (arith, e, u)))
  ]
