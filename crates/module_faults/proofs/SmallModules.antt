-- A module over the algebra, by its relations and its paths of the bound's length.
use Rattle.std.proofs.Common.{ℕ, ◌≡◌, ◌<◌, inl, inr, [], length, sym, ap, ◌∙◌, subst}
use Rattle.std.specs.Prelude.{Contains, ◌≤◌, Option, None, MatchOption}
use Rattle.std.proofs.lemmas.List.Elements.{at_from_Contains}
use Rattle.path_algebra.specs.declared.Relation.{Relation}
use Rattle.path_algebra.specs.declared.Header.{Header}
use Rattle.path_algebra.specs.Allowed.{IsAllowed}
use Rattle.representations.specs.Quiver.{Path as TypedPath, reverse}
use Rattle.representations.specs.Rep.{Rep, IsMod}
use Rattle.representations.proofs.Duals.{path_length-reverse}
use Rattle.bound_algebra.specs.TypedPaths.{quiver_of, arrows_of, path_of, cases_runs}
use Rattle.bound_algebra.specs.BoundAlgebra.{relation_at}
use Rattle.bound_algebra.proofs.TypedPaths.{length-arrows_of, arrows_of-path_of}
use Rattle.bound_algebra.proofs.PathMatrices.{path_matrix-typed, path_matrix-apart, left_path_matrix-typed, left_path_matrix-apart}
use Rattle.bound_algebra.proofs.ModulesByTerms.{module_of_terms, left_module_of_terms}
use Rattle.module_types.specs.declared.Side.{Side}
use Rattle.module_types.specs.declared.Side.TheVariants.{Right, Left}
use Rattle.module_types.specs.declared.Module.{Module}
use Rattle.module_types.specs.Algebras.{algebra_at}
use Rattle.module_types.specs.Readings.{read, IsModuleOver}
use Rattle.module_types.specs.Shapes.{HasModuleShape, dimension, most_dimension}
use Rattle.module_checks.specs.PathImages.{LongPathsActAsZero}
use Rattle.module_faults.specs.ModuleFaults.{IsSmallModule}
use Rattle.module_faults.specs.RelationActions.{RelationIsZero, AreRelationsZero}

-- the listed relations are those at places
at_listed : (h : Header) (side : Side) (X : Rep h.field (algebra_at side h).quiver) → ((r : ℕ) → r < length h.relations → RelationIsZero side h X (relation_at h.relations r)) → (rel : Relation) → Contains h.relations rel → RelationIsZero side h X rel
at_listed h side X z rel c = let w = at_from_Contains h.relations rel c in subst (RelationIsZero side h X) (w.2 (record { terms = [] })) (z w.0 w.1)

module_at : (h : Header) → IsAllowed h → (side : Side) (X : Rep h.field (algebra_at side h).quiver) → ((r : ℕ) → r < length h.relations → RelationIsZero side h X (relation_at h.relations r)) → LongPathsActAsZero X h.bound → IsMod (algebra_at side h) X
module_at h ok Right X z long = module_of_terms h ok X (λ v w. record {
  relations = λ rel c x y. (at_listed h Right X z rel c v w).at x y;
  long = λ p is e. elim (cases_runs h.quiver v w p) [
    | inr d ↦ path_matrix-apart h.quiver X v w p d
    | inl r ↦
        let t : TypedPath (quiver_of h.quiver) v w = path_of h.quiver v p.arrows w r.leads in
        let same : arrows_of t ≡ p.arrows = arrows_of-path_of h.quiver v p.arrows w r.leads in
        path_matrix-typed h.quiver X t p r same ∙ long.zero t (sym (length-arrows_of t) ∙ ap length same ∙ e)
  ];
})
module_at h ok Left X z long = left_module_of_terms h X ok (λ v w. record {
  relations = λ rel c x y. (at_listed h Left X z rel c v w).at x y;
  long = λ p is e. elim (cases_runs h.quiver v w p) [
    | inr d ↦ left_path_matrix-apart h.quiver X v w p d
    | inl r ↦
        let t : TypedPath (quiver_of h.quiver) v w = path_of h.quiver v p.arrows w r.leads in
        let same : arrows_of t ≡ p.arrows = arrows_of-path_of h.quiver v p.arrows w r.leads in
        left_path_matrix-typed h.quiver X t p r same ∙ long.zero (reverse t) (path_length-reverse t ∙ sym (length-arrows_of t) ∙ ap length same ∙ e)
  ];
})

pub module_over : (h : Header) → IsAllowed h → (m : Module) → AreRelationsZero h m (length h.relations) → LongPathsActAsZero (read h m) h.bound → IsModuleOver h m
module_over h ok m z long = module_at h ok m.side (read h m) z.each long

-- what is answered where nothing is found
pub where_none : {A : Type 0} (P : Type 0) (Q : A → Type 0) (found : Option A) → found ≡ None → MatchOption found P Q → P
where_none P Q found e m = subst (λ (found : Option _). MatchOption found P Q) e m

pub small_module : (h : Header) → IsAllowed h → (m : Module) → HasModuleShape h.field (algebra_at m.side h).quiver m → dimension m.dims ≤ most_dimension → AreRelationsZero h m (length h.relations) → LongPathsActAsZero (read h m) h.bound → IsSmallModule h m
small_module h ok m shape small z long = record { shape = record { counted = shape.counted; small = small; matrices = shape.matrices }; over = module_over h ok m z long }
