-- The minimal projective cover of a module by its canonical generators: at each vertex the unit rows at the columns where the reduced row form of the
-- radical has no pivot. (Assem, Simson, Skowroński, volume 1, chapter I, 5, and III, 2.2.)
use Rattle.std.specs.Prelude.{ℕ, List, map}
use Rattle.linear_algebra.specs.Field.{Gf}
use Rattle.linear_algebra.specs.Rows.{unit}
use Rattle.representations.specs.Quiver.{Quiver}
use Rattle.representations.specs.Rep.{Rep}
use Rattle.projectives.specs.Canonical.{Place, free_places}
use Rattle.module_types.specs.declared.TermRows.{TermRows}

module _ {q : Gf} {Q : Quiver} (X : Rep q Q) where
  -- the unit row at a place
  abbrev pub unit_at : Place → List ℕ
  unit_at p = unit (X.dim p.vertex) p.column

  -- generators at places, each of which goes to the unit row there
  abbrev pub term_of : List Place → TermRows
  term_of places = record { vertices = map (λ (p : Place). p.vertex) places; images = map unit_at places }

  abbrev pub canonical_term : TermRows
  canonical_term = term_of (free_places X Q.vertices)
