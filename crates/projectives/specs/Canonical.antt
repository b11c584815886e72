-- The canonical generators of a module: vertex by vertex, the basis rows at the columns where the reduced row form of the radical has no pivot.
-- (Assem, Simson, Skowroński, volume 1, chapter I, 5, and III, 2.2.)
use Rattle.std.specs.Prelude.{ℕ, zero, suc, List, [], ◌∷◌, ◌++◌, map, Bool, true, false, cond, eqb}
use Rattle.linear_algebra.specs.Field.{Gf}
use Rattle.linear_algebra.proofs.RowForm.{reduced_form}
use Rattle.representations.specs.Quiver.{Quiver}
use Rattle.representations.specs.Rep.{Rep}
use Rattle.representations.specs.RadicalModule.{arrow_rows}

-- A basis row of a module: its vertex, and its column there.
pub record Place : Type 0 where
  pub vertex : ℕ
  pub column : ℕ

-- Whether c is one of pivot 0, .., pivot (n − 1).
abbrev pub is_among : ℕ → (ℕ → ℕ) → ℕ → Bool
is_among zero pivot c = false
is_among (suc n) pivot c = cond (eqb (pivot n) c) true (is_among n pivot c)

-- Whether the reduced row form of the radical at the vertex w has a pivot in column c.
unfoldable pub is_pivot : {q : Gf} {Q : Quiver} → Rep q Q → ℕ → ℕ → Bool
is_pivot X w c = is_among (reduced_form (arrow_rows X w)).size (reduced_form (arrow_rows X w)).pivot c

-- A list, and then the places of the vertex w in the columns below n without pivot, ascending.
unfoldable pub with_free : {q : Gf} {Q : Quiver} → Rep q Q → ℕ → ℕ → List Place → List Place
with_free X w zero before = before
with_free X w (suc n) before = with_free X w n before ++ cond (is_pivot X w n) [] (record { vertex = w; column = n } ∷ [])

-- The columns without pivot at the vertices below n, vertex by vertex.
unfoldable pub free_places : {q : Gf} {Q : Quiver} → Rep q Q → ℕ → List Place
free_places X zero = []
free_places X (suc w) = with_free X w (X.dim w) (free_places X w)

-- The canonical generators, by their vertices and their columns.
abbrev pub canonical_vertices : {q : Gf} {Q : Quiver} → Rep q Q → List ℕ
canonical_vertices {Q = Q} X = map (λ (p : Place). p.vertex) (free_places X Q.vertices)

abbrev pub canonical_columns : {q : Gf} {Q : Quiver} → Rep q Q → List ℕ
canonical_columns {Q = Q} X = map (λ (p : Place). p.column) (free_places X Q.vertices)
