-- Spaces of families that are closed under products with others.
use Rattle.std.proofs.Common.{ℕ, ◌<◌, ◌≤◌, ◌≡◌, ◌+◌, ◌-◌, ◌*◌, List, length, take, drop, sym, ◌∙◌, inl, inr, arith, subst}
use Rattle.std.proofs.lemmas.Bool.{cases_eq}
use Rattle.std.specs.Prelude.{Bool, true, false, MatchBool}
use Rattle.linear_algebra.specs.Field.{Gf}
use Rattle.linear_algebra.specs.Matrix.{Mat}
use Rattle.linear_algebra.specs.Parts.{row}
use Rattle.linear_algebra.specs.Rank.{IsInSpan}
use Rattle.linear_algebra.specs.Typed.{as_row}
use Rattle.linear_algebra.proofs.PartsLaws.{Row-eq, row-at}
use Rattle.linear_algebra.proofs.Solving.{row_in_span, in_span_self}
use Rattle.fp_linear.specs.Slices.{AreElements}
use Rattle.path_algebra.specs.declared.Header.{Header}
use Rattle.module_types.specs.declared.Module.{Module}
use Rattle.local_modules.specs.Algebra.{Algebra, Element}
use Rattle.local_modules.specs.Subalgebra.{IsIdealOf}
use Rattle.local_modules.proofs.Subalgebras.{ideal_by_rows}
use Rattle.claim_conditions.specs.LocalConditions.{families_of}
use Rattle.local_checks.specs.Standing.{standing}
use Rattle.local_checks.specs.Families.{IsFamily}
use Rattle.local_checks.specs.Closures.{IsClosedAt, IsClosedUnder}
use Rattle.local_checks.proofs.Places.{lent, lent_length, lent_elements, row_room}
use Rattle.local_checks.proofs.Spaces.{standing-at, as_row_is}

-- Row i of rows that stand one after another.
pub standing_row : (q : Gf) (m n i k : ℕ) (s : List ℕ) → AreElements q s → length s ≡ m * n → i < m → k ≡ n → as_row q n (take k (drop (i * n) s)) ≡ row i (standing q m n s)
standing_row q m n i k s a c h e =
    let room : i * n + k ≤ length s = (let r = row_room m n i s c h in omega (arith, r, e)) in
    Row-eq _ _ (λ j l. as_row_is q n (take k (drop (i * n) s)) (lent_elements q s (i * n) k room a) (lent_length s (i * n) k room ∙ e) j ∙ lent s (i * n) k j (omega (arith, l, e))
    ∙ sym (row-at i (standing q m n s) j ∙ standing-at q m n s a i j h l))

pub lent_row : (q : Gf) (m n i c : ℕ) (s : List ℕ) → AreElements q s → length s ≡ m * n → i < m → c ≡ n → as_row q n (take (i * c + c - i * c) (drop (i * c) s)) ≡ row i (standing q m n s)
lent_row q m n i c s a e h d = rw d (standing_row q m n i (i * n + n - i * n) s a e h (omega arith))

-- It is a family.
pub family_row : (h : Header) (m : Module) (count i k : ℕ) (s : List ℕ) → AreElements h.field s → length s ≡ count * (families_of h m).size → i < count → k ≡ (families_of h m).size
    → IsFamily h m (take k (drop (i * (families_of h m).size) s))
family_row h m count i k s a c l e =
    let room : i * (families_of h m).size + k ≤ length s = (let r = row_room count (families_of h m).size i s c l in omega (arith, r, e)) in
    record { count = lent_length s (i * (families_of h m).size) k room ∙ e; elements = lent_elements h.field s (i * (families_of h m).size) k room a }

module _ {q : Gf} (E : Algebra q) {k : ℕ} (ideal : Mat q k E.size) where
  pub closed_decided : (x y : Element E) (b : Bool) → IsInSpan ideal (E.product x y) → MatchBool b (IsInSpan ideal (E.product y x)) (¬ IsInSpan ideal (E.product y x))
      → MatchBool b (IsClosedAt E ideal x y) (¬ IsClosedAt E ideal x y)
  closed_decided x y true l r = record { left = l; right = r }
  closed_decided x y false l r = λ c. r c.right

  pub closed_none : (x : Element E) → IsClosedUnder E ideal x 0
  closed_none x j l = absurd (omega arith)

  pub closed_more : (x y : Element E) (n : ℕ) → y ≡ row n ideal → IsClosedUnder E ideal x n → IsClosedAt E ideal x y → IsClosedUnder E ideal x (n + 1)
  closed_more x y n e h c j l = elim (cases_eq j n) [ inl d ↦ subst (λ (i : ℕ). IsClosedAt E ideal x (row i ideal)) (sym d) (subst (IsClosedAt E ideal x) e c) | inr o ↦ h j (omega arith) ]

  module _ {n : ℕ} (ring : Mat q n E.size) where
    pub ideal_of_rows : ((i : ℕ) → i < n → IsClosedUnder E ideal (row i ring) k) → IsIdealOf E ring ideal
    ideal_of_rows h = ideal_by_rows E ring ideal (λ i j a b. (h i a j b).left) (λ i j a b. (h i a j b).right)

    pub rows_of_ideal : IsIdealOf E ring ideal → (i : ℕ) → i < n → IsClosedUnder E ideal (row i ring) k
    rows_of_ideal h i a j b = record {
      left = h.left (row i ring) (row j ideal) (row_in_span ring ring i (in_span_self ring)) (row_in_span ideal ideal j (in_span_self ideal));
      right = h.right (row i ring) (row j ideal) (row_in_span ring ring i (in_span_self ring)) (row_in_span ideal ideal j (in_span_self ideal));
    }
