-- The conditions on a decomposition suffice, and each decomposition in order meets them.
use Rattle.std.proofs.Common.{List, get_or, refl, sym, ap₂, ◌∙◌}
use Rattle.std.specs.Prelude.{All}
use Rattle.linear_algebra.specs.Matrix.{◌·◌}
use Rattle.fp_linear.specs.Matrix.{PlainMatrix}
use Rattle.path_algebra.specs.declared.Header.{Header}
use Rattle.representations.specs.Hom.{Hom-eq}
use Rattle.representations.specs.Sum.{zero_rep}
use Rattle.representations.proofs.Homs.{compose-at, identity-at, same-at}
use Rattle.module_types.specs.declared.Module.{Module}
use Rattle.module_types.specs.Algebras.{algebra_at}
use Rattle.module_types.specs.Readings.{read, read_beside, family_of, hom_by}
use Rattle.module_types.specs.Written.{written}
use Rattle.claim_conditions.specs.Conditions.{AllHold}
use Rattle.claim_conditions.specs.Modules.{MapHolds}
use Rattle.claim_conditions.specs.Locals.{LocalHolds}
use Rattle.claim_conditions.specs.Decompositions.{DecompositionHolds}
use Rattle.claim_conditions.specs.DecompositionConditions.{AreInOrder, decomposition_conditions}
use Rattle.claim_laws.proofs.Sides.{hom_at, local_at}

abbrev nothing : (h : Header) (a : Module) → Module
nothing h a = written a.side (zero_rep h.field (algebra_at a.side h).quiver)

module _ (named : Type 0) (h : Header) (a s : Module) (parts : List Module) (to back : List PlainMatrix) where
  pub decomposition_suffices : MapHolds h s a to → MapHolds h a s back → All (LocalHolds h) parts → AllHold (decomposition_conditions named h a s parts to back) → DecompositionHolds h a s parts to back
  decomposition_suffices m k locals c =
      let S = read_beside h a s in
      let X = read h a in
      let there = hom_by S X (family_of S X to) (hom_at h s a to a.side m.side m) in
      let again = hom_by X S (family_of X S back) k.hom in
      record {
        sides = c.0.1;
        isomorphism = there;
        isomorphism_matrices = λ w. refl;
        inverse = again;
        inverse_matrices = λ w. refl;
        there = Hom-eq _ _ (λ w. compose-at there again w ∙ c.1.1.1.0.there w ∙ sym (identity-at S w));
        again = Hom-eq _ _ (λ w. compose-at again there w ∙ c.1.1.1.0.again w ∙ sym (identity-at X w));
        sum = c.1.1.0;
        local = λ i l. local_at h (get_or parts i (nothing h a)) a.side (c.0.1.each i (nothing h a) l) (locals i (nothing h a) l);
      }

  pub decomposition_complete : named → AreInOrder parts → DecompositionHolds h a s parts to back → AllHold (decomposition_conditions named h a s parts to back)
  decomposition_complete o order k = (
    (o, k.sides),
    (
      order,
      (
        k.sum,
        (
          record {
            there = λ w. ap₂ (λ x y. x · y) (sym (k.isomorphism_matrices w)) (sym (k.inverse_matrices w)) ∙ sym (compose-at k.isomorphism k.inverse w)
                ∙ same-at k.there w ∙ identity-at (read_beside h a s) w;
            again = λ w. ap₂ (λ x y. x · y) (sym (k.inverse_matrices w)) (sym (k.isomorphism_matrices w)) ∙ sym (compose-at k.inverse k.isomorphism w)
                ∙ same-at k.again w ∙ identity-at (read h a) w;
          },
          tt,
        ),
      ),
    ),
  )
