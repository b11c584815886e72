-- The projections of a sum of a family onto its parts, and the components of a row. (Assem, Simson, Skowroński, volume 1, chapter III, 1.)
use Rattle.std.specs.Prelude.{ℕ}
use Rattle.std.proofs.lemmas.Bool.{cases_eq}
use Rattle.linear_algebra.specs.Field.{Gf}
use Rattle.linear_algebra.specs.Matrix.{Row, ◌·◌}
use Rattle.representations.specs.Quiver.{Quiver}
use Rattle.representations.specs.Rep.{Rep}
use Rattle.representations.specs.Hom.{Hom, identity, zero_hom}
use Rattle.representations.specs.Sum.{sum_family}
use Rattle.representations.proofs.SumFamilies.{from_family}
use Rattle.projectives.specs.Words.{Words, projective}
use Rattle.projectives.specs.Families.{choose, family_in, projectives}

-- The projection onto the part i: the identity on this part, and zero on the others.
unfoldable pub family_out : {q : Gf} {Q : Quiver} (k : ℕ) (X : ℕ → Rep q Q) (i : ℕ) → Hom (sum_family k X) (X i)
family_out k X i = from_family k X (λ j. choose X j i (cases_eq j i) (identity (X i)) (zero_hom (X j) (X i)))

-- The component i of a row at w in a sum of projective modules, and the row with only that component.
abbrev pub component : {q : Gf} {Q : Quiver} (W : Words q Q) (k : ℕ) (v : ℕ → ℕ) (i w : ℕ) → Row q ((projectives W k v).dim w) → Row q (W.count (v i) w)
component W k v i w x = x · (family_out k (λ j. projective W (v j)) i).at w

abbrev pub in_component : {q : Gf} {Q : Quiver} (W : Words q Q) (k : ℕ) (v : ℕ → ℕ) (i w : ℕ) → Row q (W.count (v i) w) → Row q ((projectives W k v).dim w)
in_component W k v i w x = x · (family_in k (λ j. projective W (v j)) i).at w
