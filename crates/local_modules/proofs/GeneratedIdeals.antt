-- The ideal that an ideal and an element generate: it exists, is larger where the element is not in the ideal, and has a power that is zero where
-- the ideal has one and products of right multiples of the element vanish.
use Rattle.std.proofs.Common.{ℕ, ◌*◌, ◌<◌, ◌≡◌, inl, inr, arith}
use Rattle.std.proofs.lemmas.Bool.{cases_lt}
use Rattle.linear_algebra.specs.Field.{Gf}
use Rattle.linear_algebra.specs.Matrix.{Mat, Row, zeros}
use Rattle.linear_algebra.specs.Rank.{IsInSpan, RankFactorisation, HasRightInverse}
use Rattle.linear_algebra.proofs.Solving.{in_span_trans, left_f}
use Rattle.linear_algebra.proofs.Subspaces.{inclusion_size, inclusion_equal}
use Rattle.local_modules.specs.Algebra.{Algebra, Element, product_in}
use Rattle.local_modules.specs.Ideal.{IsTwoSided, PowerVanishes, IsGeneratedWith}
use Rattle.local_modules.proofs.IdealGrowth.{enlarged, enlarged-has, enlarged-has_element, enlarged-two_sided, enlarged-within, enlarged_power}

-- Rows that span more have a larger rank.
pub rank_grows : {q : Gf} {k l n : ℕ} (I : Mat q k n) (J : Mat q l n) → IsInSpan J I → (x : Row q n) → IsInSpan J x → (IsInSpan I x → ⊥) → (F : RankFactorisation I) (G : RankFactorisation J) → F.size < G.size
rank_grows {q} {k} {l} {n} I J s x m beyond F G = elim (cases_lt F.size G.size) [
  | inl h ↦ h
  | inr h ↦
      let same : F.size ≡ G.size = (let a = inclusion_size F.basis G.basis independent within in omega arith) in
      absurd (beyond (in_span_trans I F.basis x (record { by = F.left; is = left_f F }) (in_span_trans F.basis G.basis x (inclusion_equal F.basis G.basis same independent within)
      (in_span_trans G.basis J x (record { by = G.into; is = G.product }) m))))
]
  where
    independent : HasRightInverse F.basis
    independent = record { inverse = F.right; is = F.right_inverse }

    within : IsInSpan G.basis F.basis
    within = in_span_trans G.basis J F.basis (record { by = G.into; is = G.product }) (in_span_trans J I F.basis s (record { by = F.left; is = left_f F }))

module _ {q : Gf} (A : Algebra q) {k : ℕ} (I : Mat q k A.size) (t : IsTwoSided A I) (x : Element A) where
  pub generated_ideal : (l : ℕ) × (J : Mat q l A.size) × IsGeneratedWith A I x J
  generated_ideal = (
    _,
    enlarged A I t x,
    record {
      two_sided = enlarged-two_sided A I t x;
      has_ideal = enlarged-has A I t x;
      has_element = enlarged-has_element A I t x;
      least = λ J u i m. enlarged-within A I t x J u i m;
    },
  )

  pub generated_power : {l : ℕ} (J : Mat q l A.size) → IsGeneratedWith A I x J → (d : ℕ) → ((y : ℕ → Element A) → product_in A (λ i. A.product x (y i)) d ≡ zeros q 1 A.size) → (s : ℕ) → PowerVanishes A I s → PowerVanishes A J (d * s)
  generated_power J g d nil s v h m = enlarged_power A I t x d nil s v h (λ i l. in_span_trans (enlarged A I t x) J (h i) (g.least (enlarged A I t x) (enlarged-two_sided A I t x) (enlarged-has A I t x) (enlarged-has_element A I t x)) (m i l))
