-- The conditions on a radical suffice, and each radical by an embedding in reduced row form meets them.
use Rattle.std.proofs.Common.{List, refl, subst}
use Rattle.linear_algebra.specs.Matrix.{Mat}
use Rattle.linear_algebra.specs.Rank.{IsInSpan}
use Rattle.linear_algebra.proofs.RowForm.{reduced_independent}
use Rattle.linear_algebra.proofs.Solving.{right_inverse_injective}
use Rattle.fp_linear.specs.Matrix.{PlainMatrix}
use Rattle.path_algebra.specs.declared.Header.{Header}
use Rattle.representations.specs.RadicalModule.{arrow_rows}
use Rattle.module_types.specs.declared.Module.{Module}
use Rattle.module_types.specs.Readings.{read, read_beside, family_of, hom_by}
use Rattle.claim_conditions.specs.Conditions.{AllHold}
use Rattle.claim_conditions.specs.Families.{AreReduced}
use Rattle.claim_conditions.specs.Modules.{MapHolds}
use Rattle.claim_conditions.specs.Radicals.{RadicalHolds}
use Rattle.claim_conditions.specs.RadicalConditions.{radical_conditions}
use Rattle.claim_laws.proofs.Sides.{hom_at}
use Rattle.claim_laws.proofs.PrintedMaps.{matrices_reduced}

module _ (named : Type 0) (h : Header) (n a : Module) (i : List PlainMatrix) where
  pub radical_suffices : MapHolds h n a i → AllHold (radical_conditions named h n a i) → RadicalHolds h n a i
  radical_suffices m c = record {
    side = m.side;
    inclusion = hom_by (read_beside h a n) (read h a) (family_of (read_beside h a n) (read h a) i) (hom_at h n a i a.side m.side m);
    inclusion_matrices = λ w. refl;
    is = record {
      mono = λ w. right_inverse_injective (family_of (read_beside h a n) (read h a) i w) (reduced_independent (family_of (read_beside h a n) (read h a) i w) (c.1.0 w).0 (c.1.0 w).1);
      within = c.1.1.0.inside;
      has = c.1.1.0.all;
    };
  }

  pub radical_complete : named → (k : RadicalHolds h n a i) → AreReduced (read_beside h a n) (read h a) k.inclusion.at → AllHold (radical_conditions named h n a i)
  radical_complete o k r = (
    o,
    (
      matrices_reduced k.inclusion i k.inclusion_matrices r,
      (
        record {
          inside = λ w. subst (IsInSpan (arrow_rows (read h a) w)) (k.inclusion_matrices w) (k.is.within w);
          all = λ w. subst (λ (z : Mat h.field ((read_beside h a n).dim w) ((read h a).dim w)). IsInSpan z (arrow_rows (read h a) w)) (k.inclusion_matrices w) (k.is.has w);
        },
        tt,
      ),
    ),
  )
