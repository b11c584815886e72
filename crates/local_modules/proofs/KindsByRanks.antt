-- What the ranks of a high power of an endomorphism tell, vertex by vertex: full, it is an isomorphism; zero, it is nilpotent; and back.
use Rattle.std.proofs.Common.{ℕ, zero, suc, ◌≡◌, ◌<◌, ◌≤◌, sym, ◌∙◌, inl, inr, subst, arith}
use Rattle.std.proofs.lemmas.Bool.{cases_lt}
use Rattle.linear_algebra.specs.Field.{Gf}
use Rattle.linear_algebra.specs.Rank.{HasInverse}
use Rattle.linear_algebra.specs.Ranks.{rank}
use Rattle.linear_algebra.specs.Powers.{mat_power, IsNilpotent as IsMatNilpotent}
use Rattle.linear_algebra.proofs.Ranks.{rank_at_most_rows, first_factor_inverse, inverse_of_rank, rank_of_inverse, zeros_of_rank, rank_of_zeros}
use Rattle.linear_algebra.proofs.Inverses.{mat_power-suc, power_inverse}
use Rattle.linear_algebra.proofs.Fitting.{nilpotent_vanishes}
use Rattle.representations.specs.Quiver.{Quiver}
use Rattle.representations.specs.Rep.{Rep}
use Rattle.representations.specs.Hom.{Hom, Hom-eq}
use Rattle.representations.specs.Module.{IsIso, IsNilpotent}
use Rattle.representations.proofs.Homs.{power-at, zero_hom-at, same-at}
use Rattle.representations.proofs.Endomorphisms.{iso_by_vertices, iso_at}

module _ {q : Gf} {Q : Quiver} {X : Rep q Q} (x : Hom X X) where
  abbrev rank_at : ℕ → ℕ → ℕ
  rank_at k v = rank (mat_power (x.at v) k)

  -- At numbers that are no vertices there are no rows.
  full_everywhere : (k : ℕ) → ((v : ℕ) → v < Q.vertices → rank_at k v ≡ X.dim v) → (v : ℕ) → rank_at k v ≡ X.dim v
  full_everywhere k h v = elim (cases_lt v Q.vertices) [
    | inl l ↦ h v l
    | inr l ↦ (let z = X.past v l in let s = rank_at_most_rows (mat_power (x.at v) k) in omega (arith, z, s))
  ]

  zero_everywhere : (k : ℕ) → ((v : ℕ) → v < Q.vertices → rank_at k v ≡ 0) → (v : ℕ) → rank_at k v ≡ 0
  zero_everywhere k h v = elim (cases_lt v Q.vertices) [
    | inl l ↦ h v l
    | inr l ↦ (let z = X.past v l in let s = rank_at_most_rows (mat_power (x.at v) k) in omega (arith, z, s))
  ]

  pub iso_by_ranks : (k : ℕ) → 1 ≤ k → ((v : ℕ) → v < Q.vertices → rank_at k v ≡ X.dim v) → IsIso x
  iso_by_ranks zero l h = absurd (omega (arith, l))
  iso_by_ranks (suc k) l h = iso_by_vertices x (λ v.
      first_factor_inverse (x.at v) (mat_power (x.at v) k) (subst HasInverse (mat_power-suc (x.at v) k) (inverse_of_rank (mat_power (x.at v) (suc k)) (full_everywhere (suc k) h v))))

  pub ranks_of_iso : IsIso x → (k v : ℕ) → rank_at k v ≡ X.dim v
  ranks_of_iso i k v = rank_of_inverse (mat_power (x.at v) k) (power_inverse (x.at v) (iso_at x i v) k)

  pub nilpotent_by_ranks : (k : ℕ) → ((v : ℕ) → v < Q.vertices → rank_at k v ≡ 0) → IsNilpotent x
  nilpotent_by_ranks k h = record {
    exponent = k;
    vanishes = Hom-eq _ _ (λ v. power-at x k v ∙ zeros_of_rank (mat_power (x.at v) k) (zero_everywhere k h v) ∙ sym (zero_hom-at X X v));
  }

  pub ranks_of_nilpotent : IsNilpotent x → (k : ℕ) → ((v : ℕ) → X.dim v ≤ k) → (v : ℕ) → rank_at k v ≡ 0
  ranks_of_nilpotent n k b v = rank_of_zeros (mat_power (x.at v) k) (nilpotent_vanishes (x.at v) k (b v) at_vertex)
    where
      at_vertex : IsMatNilpotent (x.at v)
      at_vertex = record { exponent = n.exponent; vanishes = sym (power-at x n.exponent v) ∙ same-at n.vanishes v ∙ zero_hom-at X X v }
