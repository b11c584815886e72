-- Homomorphisms out of a sum of projective modules, by the values of its generators. (Assem, Simson, Skowroński, volume 1, chapter III, 2.)
use Rattle.std.specs.Prelude.{ℕ}
use Rattle.linear_algebra.specs.Field.{Gf}
use Rattle.linear_algebra.specs.Matrix.{Row, ◌·◌}
use Rattle.representations.specs.Quiver.{BoundQuiver}
use Rattle.representations.specs.Rep.{Rep, IsMod}
use Rattle.representations.specs.Hom.{Hom}
use Rattle.representations.proofs.SumFamilies.{from_family}
use Rattle.projectives.specs.Words.{Words, IsWordBasis, projective}
use Rattle.projectives.specs.Yoneda.{yoneda}
use Rattle.projectives.specs.Families.{projectives, generator_of}

-- The value of generator j under a homomorphism out of a sum of projective modules.
abbrev pub value : {q : Gf} (A : BoundQuiver) (W : Words q A.quiver) (B : IsWordBasis A W) (k : ℕ) (v : ℕ → ℕ) {X : Rep q A.quiver} → Hom (projectives W k v) X → (j : ℕ) → Row q (X.dim (v j))
value A W B k v u j = generator_of A W B k v j · u.at (v j)

-- The homomorphism out of a sum of projective modules that takes the generators to the rows x 0, .., x (k − 1).
unfoldable pub hom_of_rows : {q : Gf} (A : BoundQuiver) (W : Words q A.quiver) (B : IsWordBasis A W) (k : ℕ) (v : ℕ → ℕ) (X : Rep q A.quiver) → IsMod A X → ((j : ℕ) → Row q (X.dim (v j))) → Hom (projectives W k v) X
hom_of_rows A W B k v X M x = from_family k (λ j. projective W (v j)) (λ j. yoneda A W B X M (v j) (x j))
