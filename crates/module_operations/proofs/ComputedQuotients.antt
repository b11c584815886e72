-- Cokernels and tops on the quotients that are computed.
use Rattle.std.proofs.Common.{ℕ, ◌<◌, List, sym, ap, ◌∙◌, refl, arith, subst}
use Rattle.std.specs.Prelude.{[]}
use Rattle.linear_algebra.specs.Field.{Gf}
use Rattle.linear_algebra.specs.Matrix.{Mat, ◌·◌}
use Rattle.linear_algebra.specs.MatrixLaws.{mul_assoc_mat, mul_zeros}
use Rattle.linear_algebra.specs.Rank.{IsInSpan}
use Rattle.linear_algebra.proofs.Solving.{in_span_trans}
use Rattle.fp_linear.specs.Matrix.{PlainMatrix}
use Rattle.row_spaces.specs.RowSpaces.{IsRowFormOf, IsQuotientBy}
use Rattle.path_algebra.specs.declared.Header.{Header}
use Rattle.path_algebra.specs.Allowed.{IsAllowed}
use Rattle.representations.specs.Quiver.{Quiver}
use Rattle.representations.specs.Rep.{Rep}
use Rattle.representations.specs.Hom.{Hom}
use Rattle.representations.specs.Module.{IsExact}
use Rattle.representations.specs.KernelOf.{IsCokernel}
use Rattle.module_types.specs.declared.Module.{Module}
use Rattle.module_types.specs.declared.Side.{Side}
use Rattle.module_types.specs.declared.Side.TheVariants.{Right}
use Rattle.module_types.specs.Algebras.{algebra_at}
use Rattle.module_types.specs.Readings.{dim_at, rep_of, read, read_beside, family_of}
use Rattle.module_types.specs.Shapes.{AreMatrices}
use Rattle.claim_conditions.specs.Families.{HasMatrices, AreCoReduced}
use Rattle.module_checks.proofs.Sides.{arrows_at, source_inside, target_inside}
use Rattle.module_operations.specs.ArrowSpans.{arrow_size, arrow_family}
use Rattle.module_faults.specs.ModuleFaults.{IsSmallModule}
use Rattle.module_faults.specs.MapFaults.{IsSmallMap}
use Rattle.module_operations.specs.Computed.{IsCokernelBy, IsTopBy}
use Rattle.module_operations.specs.VertexSpaces.{row_counts, basis_at, AreQuotients, IsQuotientOn, HaveForms, HaveProjections}
use Rattle.module_operations.proofs.ComputedSubmodules.{A, B, map_across, are_subspaces, arrows_stable}
use Rattle.module_operations.proofs.FormSpaces.{forms_read, forms_matrices}
use Rattle.module_operations.proofs.ProjectionSpaces.{projections_quotients, vanishes_on_span, onto, onto_quotient, onto_coreduced, onto_epi, quotient_small, onto_small}

-- What the rows of a module's arrows ask of the quotients.
pub are_quotients : (h : Header) (a : Module) (size : ℕ → ℕ) (g : (v : ℕ) → Mat h.field (size v) ((read h a).dim v)) (projections : List PlainMatrix) → IsAllowed h
    → HaveProjections (read h a) size g (algebra_at a.side h).quiver.vertices projections
    → ((r : ℕ) → r < (algebra_at a.side h).quiver.arrows → IsInSpan (g ((algebra_at a.side h).quiver.target r)) (g ((algebra_at a.side h).quiver.source r) · (read h a).mat r)) → AreQuotients (read h a) projections
are_quotients h a size g projections allowed H stable =
    let e = arrows_at a.side h in
    projections_quotients (read h a) size g projections H (λ r l. source_inside a.side h allowed.quiver.ends r (omega arith)) (λ r l. target_inside a.side h allowed.quiver.ends r (omega arith)) stable

-- A cokernel, read on a side.
record CokernelAt (h : Header) (a b n : Module) (f p : List PlainMatrix) (s : Side) : Type 0 where
  map : Hom (rep_of h.field (algebra_at s h).quiver a) (rep_of h.field (algebra_at s h).quiver b)
  map_matrices : HasMatrices map f
  projection : Hom (rep_of h.field (algebra_at s h).quiver b) (rep_of h.field (algebra_at s h).quiver n)
  projection_matrices : HasMatrices projection p
  is : IsCokernel map projection
  coreduced : AreCoReduced (rep_of h.field (algebra_at s h).quiver b) (rep_of h.field (algebra_at s h).quiver n) projection.at

module _ (h : Header) (a b : Module) (f : List PlainMatrix) (map : IsSmallMap h a b f) (n : Module) (projections : List PlainMatrix) (small : IsSmallModule h b) (S : IsQuotientOn h b n projections)
    (H : HaveProjections (B h a b f map) (A h a b f map).dim (family_of (A h a b f map) (B h a b f map) f) (algebra_at b.side h).quiver.vertices projections) where
  abbrev X : Rep h.field (algebra_at b.side h).quiver
  X = A h a b f map

  abbrev Y : Rep h.field (algebra_at b.side h).quiver
  Y = B h a b f map

  abbrev m : Hom X Y
  m = record { at = family_of X Y f; square = map_across h a b f map }

  abbrev p : Hom Y (read_beside h b n)
  p = onto h b n projections X.dim (family_of X Y f) small S H

  quotient_at : (w : ℕ) → IsQuotientBy (family_of X Y f w) (p.at w)
  quotient_at w = onto_quotient h b n projections X.dim (family_of X Y f) small S H w

  cokernel_exact : IsExact m p
  cokernel_exact = record {
    complex = λ w x. mul_assoc_mat x (m.at w) (p.at w) ∙ ap (λ z. x · z) (quotient_at w).kills ∙ mul_zeros x;
    exact = λ w y e. (quotient_at w).spans y e;
  }

  cokernel_there : CokernelAt h a b n f projections b.side
  cokernel_there = record {
    map = m;
    map_matrices = λ w. refl;
    projection = p;
    projection_matrices = λ w. refl;
    is = record { onto = onto_epi h b n projections X.dim (family_of X Y f) small S H; exact = cokernel_exact };
    coreduced = onto_coreduced h b n projections X.dim (family_of X Y f) small S H;
  }

  pub cokernel_by : IsCokernelBy h a b n f projections
  cokernel_by =
      let c = subst (CokernelAt h a b n f projections) (sym map.holds.side) cokernel_there in
      record {
        small = quotient_small h b n projections X.dim (family_of X Y f) small S H;
        matrices = onto_small h b n projections X.dim (family_of X Y f) small S H;
        holds = record {
          target_side = map.holds.side;
          side = sym S.side;
          map = c.map;
          map_matrices = c.map_matrices;
          projection = c.projection;
          projection_matrices = c.projection_matrices;
          is = c.is;
        };
        coreduced = c.coreduced;
      }

-- The quotient by bases of what comes along arrows.
module _ (h : Header) (a : Module) (bases : List PlainMatrix) (F : HaveForms (read h a) (arrow_size (read h a)) (arrow_family (read h a)) (algebra_at a.side h).quiver.vertices bases) (n : Module) (projections : List PlainMatrix)
    (small : IsSmallModule h a) (S : IsQuotientOn h a n projections)
    (H : HaveProjections (read h a) (dim_at (algebra_at a.side h).quiver (row_counts bases)) (basis_at (read h a) bases) (algebra_at a.side h).quiver.vertices projections) where
  form : (w : ℕ) → IsRowFormOf (arrow_family (read h a) w) (basis_at (read h a) bases w)
  form w = forms_read (read h a) (arrow_size (read h a)) (arrow_family (read h a)) bases F (row_counts bases) refl w

  by : (w : ℕ) → IsQuotientBy (basis_at (read h a) bases w) ((onto h a n projections (dim_at (algebra_at a.side h).quiver (row_counts bases)) (basis_at (read h a) bases) small S H).at w)
  by w = onto_quotient h a n projections (dim_at (algebra_at a.side h).quiver (row_counts bases)) (basis_at (read h a) bases) small S H w

  pub top_by : IsTopBy h a n projections
  top_by = record {
    small = quotient_small h a n projections (dim_at (algebra_at a.side h).quiver (row_counts bases)) (basis_at (read h a) bases) small S H;
    matrices = onto_small h a n projections (dim_at (algebra_at a.side h).quiver (row_counts bases)) (basis_at (read h a) bases) small S H;
    holds = record {
      side = sym S.side;
      projection = onto h a n projections (dim_at (algebra_at a.side h).quiver (row_counts bases)) (basis_at (read h a) bases) small S H;
      projection_matrices = λ w. refl;
      onto = onto_epi h a n projections (dim_at (algebra_at a.side h).quiver (row_counts bases)) (basis_at (read h a) bases) small S H;
      kills = λ w x s. vanishes_on_span (basis_at (read h a) bases w) _ x (by w).kills (in_span_trans (basis_at (read h a) bases w) (arrow_family (read h a) w) x (form w).spans s);
      vanishes = λ w x e. in_span_trans (arrow_family (read h a) w) (basis_at (read h a) bases w) x (form w).spanned ((by w).spans x e);
    };
    coreduced = onto_coreduced h a n projections (dim_at (algebra_at a.side h).quiver (row_counts bases)) (basis_at (read h a) bases) small S H;
  }

-- The rows of the bases as those of a map, from a module with as many rows at each vertex.
module _ (h : Header) (a : Module) (bases : List PlainMatrix) (F : HaveForms (read h a) (arrow_size (read h a)) (arrow_family (read h a)) (algebra_at a.side h).quiver.vertices bases) where
  pub top_projections : (projections : List PlainMatrix) → ((q : Gf) (Q : Quiver) (X Y : Rep q Q) → AreMatrices q Q.vertices X.dim Y.dim bases → HaveProjections Y X.dim (family_of X Y bases) Q.vertices projections)
      → HaveProjections (read h a) (dim_at (algebra_at a.side h).quiver (row_counts bases)) (basis_at (read h a) bases) (algebra_at a.side h).quiver.vertices projections
  top_projections projections known =
      known h.field (algebra_at a.side h).quiver (rep_of h.field (algebra_at a.side h).quiver (record { side = Right; dims = row_counts bases; matrices = [] })) (read h a)
      (forms_matrices (read h a) (arrow_size (read h a)) (arrow_family (read h a)) bases F)

  pub top_quotients : IsAllowed h → (projections : List PlainMatrix)
      → HaveProjections (read h a) (dim_at (algebra_at a.side h).quiver (row_counts bases)) (basis_at (read h a) bases) (algebra_at a.side h).quiver.vertices projections → AreQuotients (read h a) projections
  top_quotients allowed projections H =
      are_quotients h a (dim_at (algebra_at a.side h).quiver (row_counts bases)) (basis_at (read h a) bases) projections allowed H
      (are_subspaces h a (arrow_size (read h a)) (arrow_family (read h a)) bases allowed F (arrows_stable h a)).stable
