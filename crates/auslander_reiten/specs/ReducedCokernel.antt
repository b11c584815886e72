-- The cokernel, at each vertex by its co-reduced projection. (Assem, Simson, Skowroński, volume 1, chapter III, 1.)
use Rattle.std.specs.Prelude.{ℕ, ◌≡◌}
use Rattle.std.proofs.Common.{sym, ap, ◌∙◌}
use Rattle.linear_algebra.specs.Field.{Gf}
use Rattle.linear_algebra.specs.Matrix.{Row, zeros, ◌·◌}
use Rattle.linear_algebra.specs.Rank.{IsInSpan}
use Rattle.linear_algebra.proofs.Products.{products, pull}
use Rattle.linear_algebra.proofs.CoReduced.{place_rows, place_rows_undo, coreduced_form}
use Rattle.representations.specs.Quiver.{Quiver}
use Rattle.representations.specs.Rep.{Rep}
use Rattle.representations.specs.Hom.{Hom}
use Rattle.representations.specs.Submodule.{Quotient}

unfoldable pub reduced_cokernel : {q : Gf} {Q : Quiver} {X Y : Rep q Q} → Hom X Y → Quotient Y
reduced_cokernel {q} {Q} {X} {Y} f = record {
  size = λ v. (coreduced_form (f.at v)).size;
  onto = λ v. (coreduced_form (f.at v)).projection;
  surjective = λ v. record { inverse = place_rows q (coreduced_form (f.at v)).size (Y.dim v) (coreduced_form (f.at v)).place; is = place_rows_undo (coreduced_form (f.at v)).projection (coreduced_form (f.at v)).place (coreduced_form (f.at v)).coreduced };
  stable = λ a x e. killed a x ((coreduced_form (f.at (Q.source a))).spans x e);
}
  where
    killed : (a : ℕ) (x : Row q (Y.dim (Q.source a))) → IsInSpan (f.at (Q.source a)) x → x · (Y.mat a · (coreduced_form (f.at (Q.target a))).projection) ≡ zeros q 1 (coreduced_form (f.at (Q.target a))).size
    killed a x s =
        ap (λ z. z · (Y.mat a · (coreduced_form (f.at (Q.target a))).projection)) (sym s.is)
        ∙ simp (products, pull (f.at (Q.source a)) (Y.mat a) (sym (f.square a)), (coreduced_form (f.at (Q.target a))).kills)
