-- The first relation, and the first path of the bound's length, that do not act as zero: what the tests of a module say.
use Rattle.std.proofs.Common.{ℕ, ◌≡◌, ◌<◌, ◌+◌, ◌-◌, false, [], ◌∷◌, length, get_or, Option, Some, None, refl, sym, ap, ◌∙◌, subst, arith}
use Rattle.std.specs.Prelude.{not, MatchOption}
use Rattle.std.proofs.lemmas.Bool.{not_from_true, not_from_false, false_from_ne_true}
use Rattle.std.proofs.lemmas.List.Elements.{Contains-get_or, at_from_Contains}
use Rattle.linear_algebra.specs.Matrix.{zeros}
use Rattle.quiver_paths.specs.declared.Path.{Path}
use Rattle.quiver_paths.specs.Path.{IsPath, path_length, trivial_path}
use Rattle.quiver_paths.specs.PathList.{paths_of_length}
use Rattle.quiver_paths.specs.PathOrder.{IsSmaller}
use Rattle.quiver_paths.specs.Quiver.{HasEnds}
use Rattle.quiver_paths.proofs.PathListLemmas.{IsPath-from_length, Contains-paths_of_length, paths_of_length_ascending}
use Rattle.path_algebra.specs.declared.Relation.{Relation}
use Rattle.path_algebra.specs.declared.Header.{Header}
use Rattle.path_algebra.specs.Allowed.{IsAllowed}
use Rattle.representations.specs.Quiver.{Path as TypedPath}
use Rattle.representations.specs.Rep.{Rep}
use Rattle.bound_algebra.specs.TypedPaths.{quiver_of, arrows_of, path_of}
use Rattle.bound_algebra.specs.BoundAlgebra.{relation_at}
use Rattle.bound_algebra.specs.PathMatrices.{path_matrix}
use Rattle.bound_algebra.proofs.TypedPaths.{length-arrows_of, arrows_of-path_of}
use Rattle.bound_algebra.proofs.PathMatrices.{path_matrix-typed}
use Rattle.module_types.specs.declared.Side.TheVariants.{Right}
use Rattle.module_types.specs.declared.Module.{Module}
use Rattle.module_types.specs.Algebras.{algebra_at}
use Rattle.module_types.specs.Readings.{rep_of, read}
use Rattle.module_types.specs.Shapes.{IsModule}
use Rattle.module_checks.specs.PathImages.{LongPathsActAsZero}
use Rattle.module_faults.specs.ModuleFaults.{IsFirstFailing}
use Rattle.module_faults.specs.PathActions.{IsFirstAlong, IsFirstLongPath}
use Rattle.module_faults.specs.RelationActions.{RelationIsZero, AreRelationsZero}
use Rattle.report_types.specs.declared.reports.Why.TheVariants as why
use Rattle.script_answers.specs.Refusals.{rep_holds}
use Rattle.script_answers.specs.ZeroTests.{relation_is_zero, path_is_zero, relation_fails, bound_fails, relations_hold, bound_holds}
use Rattle.written_modules.proofs.Firsts.{position_first, position_none, find_first, find_none, passed, stopped, only}
use Rattle.written_modules.proofs.ZeroTests.{relation_zero, relation_if, matrix_zero, zero_if}

module _ (h : Header) (X : Rep h.field (quiver_of h.quiver)) where
  acts : (r : ℕ) → RelationIsZero Right h X (relation_at h.relations r) → not (relation_is_zero h X (relation_at h.relations r)) ≡ false
  acts r z = not_from_true _ (relation_if h X (relation_at h.relations r) z)

  pub relation_refused : (i : ℕ) → i < length h.relations → ((r : ℕ) → r < i → RelationIsZero Right h X (relation_at h.relations r)) → (RelationIsZero Right h X (relation_at h.relations i) → ⊥) → relations_hold h X ≡ Some (why.RelationFails (i + 1))
  relation_refused i l before fails =
      ap relation_fails (position_first (λ (rel : Relation). not (relation_is_zero h X rel)) h.relations i (record { terms = [] }) l
      (not_from_false _ (false_from_ne_true _ (λ e. fails (relation_zero h X (relation_at h.relations i) e)))) (λ k m. acts k (before k m)))

  pub relations_pass : ((r : ℕ) → r < length h.relations → RelationIsZero Right h X (relation_at h.relations r)) → relations_hold h X ≡ None
  relations_pass all = ap relation_fails (position_none (λ (rel : Relation). not (relation_is_zero h X rel)) h.relations (record { terms = [] }) (λ k m. acts k (all k m)))

  module _ (ends : HasEnds h.quiver) where
    is_listed : (k : ℕ) (d : Path) → k < length (paths_of_length h.quiver h.bound) → IsPath h.quiver (get_or (paths_of_length h.quiver h.bound) k d) × (path_length (get_or (paths_of_length h.quiver h.bound) k d) ≡ h.bound)
    is_listed k d l = IsPath-from_length h.quiver ends h.bound (get_or (paths_of_length h.quiver h.bound) k d) (Contains-get_or (paths_of_length h.quiver h.bound) k d l)

    pub path_refused : (p : Path) → IsFirstAlong Right h X p → bound_holds h X ≡ Some (why.BoundFails p)
    path_refused p f =
        let ps = paths_of_length h.quiver h.bound in
        let w = at_from_Contains ps p (Contains-paths_of_length h.quiver ends h.bound p f.path f.long) in
        let at : get_or ps w.0 p ≡ p = w.2 p in
        ap bound_fails (find_first (λ (p : Path). not (path_is_zero h X p)) ps w.0 p w.1
        (not_from_false _ (false_from_ne_true _ (λ e. f.not_zero (subst (λ (r : Path). path_matrix h.quiver X r.start r.end r ≡ zeros h.field (X.dim r.start) (X.dim r.end)) at (matrix_zero _ e)))))
        (λ k m. not_from_true _ (zero_if _ (let i = is_listed k p (let l = w.1 in omega (arith, l, m)) in
        f.first (get_or ps k p) i.0 i.1 (subst (IsSmaller (get_or ps k p)) at (paths_of_length_ascending h.quiver ends h.bound k w.0 p m w.1))))))
        ∙ ap (λ p. bound_fails (Some p)) at

    pub paths_pass : LongPathsActAsZero X h.bound → bound_holds h X ≡ None
    paths_pass z = ap bound_fails (find_none (λ (p : Path). not (path_is_zero h X p)) (paths_of_length h.quiver h.bound) (trivial_path 0) (λ k l. not_from_true _ (zero_if _
        (let p = get_or (paths_of_length h.quiver h.bound) k (trivial_path 0) in
        let i = is_listed k (trivial_path 0) l in
        let t : TypedPath (quiver_of h.quiver) p.start p.end = path_of h.quiver p.start p.arrows p.end i.0.leads in
        let same : arrows_of t ≡ p.arrows = arrows_of-path_of h.quiver p.start p.arrows p.end i.0.leads in
        path_matrix-typed h.quiver X t p (record { starts = refl; ends = refl; leads = i.0.leads }) same ∙ z.zero t (sym (length-arrows_of t) ∙ ap length same ∙ i.1)))))

-- A right module.
module _ (h : Header) (ok : IsAllowed h) (m : Module) (side : m.side ≡ Right) where
  abbrev X : Rep h.field (quiver_of h.quiver)
  X = rep_of h.field (quiver_of h.quiver) m

  on_right : (rel : Relation) → RelationIsZero m.side h (read h m) rel → RelationIsZero Right h X rel
  on_right rel = subst (λ s. RelationIsZero s h (rep_of h.field (algebra_at s h).quiver m) rel) side

  from_right : (rel : Relation) → RelationIsZero Right h X rel → RelationIsZero m.side h (read h m) rel
  from_right rel = subst (λ s. RelationIsZero s h (rep_of h.field (algebra_at s h).quiver m) rel) (sym side)

  relations_none : AreRelationsZero h m (length h.relations) → relations_hold h X ≡ None
  relations_none z = relations_pass h X (λ r l. on_right (relation_at h.relations r) (z.each r l))

  pub rep_fails_relation : (n : ℕ) → IsFirstFailing h m n → rep_holds h m ≡ Some (why.RelationFails n)
  rep_fails_relation n f =
      let e : n - 1 + 1 ≡ n = omega (arith, f.counted.from) in
      stopped (relations_hold h X) (bound_holds h X ∷ []) (why.RelationFails n)
      (relation_refused h X (n - 1) (omega (arith, f.counted.from, f.counted.to)) (λ r l. on_right (relation_at h.relations r) (f.before.each r l)) (λ z. f.fails (from_right (relation_at h.relations (n - 1)) z)) ∙ ap (λ n. Some (why.RelationFails n)) e)

  pub rep_fails_bound : (p : Path) → AreRelationsZero h m (length h.relations) → IsFirstLongPath h m p → rep_holds h m ≡ Some (why.BoundFails p)
  rep_fails_bound p z f =
      passed (relations_hold h X) (bound_holds h X ∷ []) (relations_none z) ∙ only (bound_holds h X)
      ∙ path_refused h X ok.quiver.ends p (subst (λ s. IsFirstAlong s h (rep_of h.field (algebra_at s h).quiver m) p) side f)

  pub rep_passes : AreRelationsZero h m (length h.relations) → LongPathsActAsZero (read h m) h.bound → rep_holds h m ≡ None
  rep_passes z l =
      passed (relations_hold h X) (bound_holds h X ∷ []) (relations_none z) ∙ only (bound_holds h X)
      ∙ paths_pass h X ok.quiver.ends (subst (λ s. LongPathsActAsZero (rep_of h.field (algebra_at s h).quiver m) h.bound) side l)

-- its shape, by its own side
pub own_shape : (h : Header) (m : Module) → m.side ≡ Right → IsModule h.field (quiver_of h.quiver) m → IsModule h.field (algebra_at m.side h).quiver m
own_shape h m side s = subst (λ side. IsModule h.field (algebra_at side h).quiver m) (sym side) s

-- what is answered where something is found
pub where_some : {A : Type 0} (P : Type 0) (R : A → Type 0) (found : Option A) (x : A) → found ≡ Some x → MatchOption found P R → R x
where_some P R found x e m = subst (λ (found : Option _). MatchOption found P R) e m
