-- The parts of a sum of a family, and sums of the projective modules at given vertices. (Assem, Simson, Skowroński, volume 1, chapter III, 1 and 2.)
use Rattle.std.specs.Prelude.{ℕ, zero, suc, ◌≡◌, ◌≢◌, ◌⊎◌}
use Rattle.std.proofs.Common.{inl, inr, sym, subst}
use Rattle.std.proofs.lemmas.Bool.{cases_eq}
use Rattle.linear_algebra.specs.Field.{Gf}
use Rattle.linear_algebra.specs.Matrix.{Row, ◌·◌}
use Rattle.representations.specs.Quiver.{Quiver, BoundQuiver}
use Rattle.representations.specs.Rep.{Rep}
use Rattle.representations.specs.Hom.{Hom, ◌≫◌, zero_hom}
use Rattle.representations.specs.Sum.{zero_rep, sum_family, into_first, into_second}
use Rattle.projectives.specs.Words.{Words, IsWordBasis, projective}
use Rattle.projectives.specs.Projective.{generator}

-- g where i is k, and else h
abbrev pub choose : {q : Gf} {Q : Quiver} {Z : Rep q Q} (X : ℕ → Rep q Q) (i k : ℕ) → (i ≡ k) ⊎ (i ≢ k) → Hom (X k) Z → Hom (X i) Z → Hom (X i) Z
choose {Z = Z} X i k (inl e) g h = subst (λ j. Hom (X j) Z) (sym e) g
choose X i k (inr d) g h = h

-- The injection of the part i into the sum of X 0, .., X (k − 1).
unfoldable pub family_in : {q : Gf} {Q : Quiver} (k : ℕ) (X : ℕ → Rep q Q) (i : ℕ) → Hom (X i) (sum_family k X)
unfolding sum_family
family_in {q} {Q} zero X i = zero_hom (X i) (zero_rep q Q)
family_in (suc k) X i = choose X i k (cases_eq i k) (into_second (sum_family k X) (X k)) (family_in k X i ≫ into_first (sum_family k X) (X k))

-- The sum of the projective modules at the vertices v 0, .., v (k − 1), and its generators: those of the parts.
abbrev pub projectives : {q : Gf} {Q : Quiver} (W : Words q Q) (k : ℕ) → (ℕ → ℕ) → Rep q Q
projectives W k v = sum_family k (λ j. projective W (v j))

abbrev pub generator_of : {q : Gf} (A : BoundQuiver) (W : Words q A.quiver) (B : IsWordBasis A W) (k : ℕ) (v : ℕ → ℕ) (j : ℕ) → Row q ((projectives W k v).dim (v j))
generator_of A W B k v j = generator A W B (v j) · (family_in k (λ j. projective W (v j)) j).at (v j)
