-- The conditions on a sequence in their order, and what is decided; shapes over the quiver of a side.
use Rattle.std.proofs.Common.{ℕ, ◌≡◌, List, length, Bool, refl, sym, subst}
use Rattle.std.specs.Prelude.{MatchBool}
use Rattle.linear_algebra.specs.BlockFamilies.{total}
use Rattle.linear_algebra.specs.Rows.{IsRow}
use Rattle.fp_linear.specs.Matrix.{PlainMatrix}
use Rattle.quiver_paths.specs.declared.Path.{Path}
use Rattle.path_algebra.specs.declared.Header.{Header}
use Rattle.alg_table.specs.TableView.{IsTable}
use Rattle.bound_algebra.specs.TypedPaths.{quiver_of}
use Rattle.projectives.specs.CanonicalCover.{vertex_in}
use Rattle.module_types.specs.declared.Side.{Side}
use Rattle.module_types.specs.declared.Side.TheVariants.{Right, Left}
use Rattle.module_types.specs.declared.Module.{Module}
use Rattle.module_types.specs.declared.TermRows.{TermRows}
use Rattle.module_types.specs.Algebras.{algebra_at, sided_words}
use Rattle.module_types.specs.Presentations.{Presentation}
use Rattle.module_types.specs.Readings.{dim_at, read}
use Rattle.module_types.specs.Shapes.{IsTerm}
use Rattle.claim_conditions.specs.LocalConditions.{ring_rows, ideal_rows}
use Rattle.claim_conditions.specs.Modules.{Sides}
use Rattle.claim_conditions.specs.SequenceConditions.{IsEndFunctional, AreMaps, SequenceRows}
use Rattle.translate_checks.specs.Across.{sides_of, of_terms}
use Rattle.translate_checks.specs.Steps.{module_in, injectives_in}
use Rattle.sequence_checks.specs.Maps.{AreMapsUpTo}
use Rattle.sequence_checks.proofs.MapSteps.{maps_first, maps_second}

-- what is decided of a functional, over all words of both sides
abbrev pub DecidesFunctional : (h : Header) (a : Module) (cover : TermRows) (functional : List ℕ) (basis ideal : PlainMatrix) (b : Bool) → Type 0
DecidesFunctional h a cover functional basis ideal b = (T : Sides h) (p : Presentation) → p.cover ≡ cover → MatchBool b
    (IsEndFunctional (sided_words a.side T) p (read h a) functional (ring_rows h a basis) (ideal_rows h basis ideal))
    (IsEndFunctional (sided_words a.side T) p (read h a) functional (ring_rows h a basis) (ideal_rows h basis ideal) → ⊥)

-- the maps, at all vertices and at the first
module _ (h : Header) (words : List Path) (t : IsTable h words) (side : Side) (cover syzygy : TermRows) (n e a : Module) (f g : List PlainMatrix) (s : SequenceRows) (counted : length n.dims ≡ (algebra_at side h).quiver.vertices) where
  pub are_maps_yes : AreMapsUpTo (module_in h words t side n) (module_in h words t side e) (injectives_in h words t side syzygy.vertices) (module_in h words t side a) f g s.left s.middle (length n.dims)
      → AreMaps (sides_of h words t side) (of_terms cover syzygy) (module_in h words t side n) (module_in h words t side e) (module_in h words t side a) f g s
  are_maps_yes u =
      let all = subst (AreMapsUpTo (module_in h words t side n) (module_in h words t side e) (injectives_in h words t side syzygy.vertices) (module_in h words t side a) f g s.left s.middle) counted u in
      record {
        first = maps_first (module_in h words t side n) (module_in h words t side e) (injectives_in h words t side syzygy.vertices) (module_in h words t side a) f g s.left s.middle all;
        second = maps_second (module_in h words t side n) (module_in h words t side e) (injectives_in h words t side syzygy.vertices) (module_in h words t side a) f g s.left s.middle all;
      }

  pub are_maps_no : AreMaps (sides_of h words t side) (of_terms cover syzygy) (module_in h words t side n) (module_in h words t side e) (module_in h words t side a) f g s
      → AreMapsUpTo (module_in h words t side n) (module_in h words t side e) (injectives_in h words t side syzygy.vertices) (module_in h words t side a) f g s.left s.middle (length n.dims)
  are_maps_no m = record { first = λ w l. m.first w; second = λ w l. m.second w }

-- shapes over the quiver of a side
module _ (h : Header) where
  pub dims_beside : (side : Side) (dims : List ℕ) (w : ℕ) → dim_at (quiver_of h.quiver) dims w ≡ dim_at (algebra_at side h).quiver dims w
  unfolding dim_at
  dims_beside Right dims w = refl
  dims_beside Left dims w = refl

  pub term_beside : (side : Side) (dims : List ℕ) (t : TermRows) → IsTerm h.field (quiver_of h.quiver) (dim_at (quiver_of h.quiver) dims) t → IsTerm h.field (algebra_at side h).quiver (dim_at (algebra_at side h).quiver dims) t
  unfolding dim_at
  term_beside Right dims t T = T
  term_beside Left dims t T = record { counted = T.counted; declared = T.declared; each = T.each }

  pub functional_beside : (side : Side) (dims cover cover' functional : List ℕ) → cover' ≡ cover → IsRow h.field (total (length cover) (λ c. dim_at (quiver_of h.quiver) dims (vertex_in cover c))) functional
      → IsRow h.field (total (length cover') (λ c. dim_at (algebra_at side h).quiver dims (vertex_in cover' c))) functional
  unfolding dim_at
  functional_beside side dims cover cover' functional e r =
      subst (λ cs. IsRow h.field (total (length cs) (λ c. dim_at (algebra_at side h).quiver dims (vertex_in cs c))) functional) (sym e) (by side)
    where
      by : (s : Side) → IsRow h.field (total (length cover) (λ c. dim_at (algebra_at s h).quiver dims (vertex_in cover c))) functional
      by Right = r
      by Left = r
