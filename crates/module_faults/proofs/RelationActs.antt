-- A relation acts as zero on a module where the shortened one does, and it does where it has no short term.
use Rattle.std.proofs.Common.{ℕ, ◌≡◌, ◌<◌, [], length, refl, sym, ap, ◌∙◌, subst, arith, if◌then◌else◌, ltb}
use Rattle.std.specs.Prelude.{slice_index_or}
use Rattle.std.proofs.lemmas.List.{get_or_default}
use Rattle.linear_algebra.specs.Field.{mul}
use Rattle.linear_algebra.specs.Matrix.{Mat, zeros}
use Rattle.linear_algebra.proofs.MatrixLaws.{transpose-at}
use Rattle.quiver_paths.specs.declared.Path.{Path}
use Rattle.quiver_paths.specs.Path.{path_length}
use Rattle.path_algebra.specs.declared.Relation.{Relation}
use Rattle.path_algebra.specs.declared.Header.{Header}
use Rattle.path_algebra.specs.Allowed.{IsAllowed}
use Rattle.path_algebra.specs.Elements.{sum_over}
use Rattle.path_algebra.proofs.SumsOver.{sum_over-same, sum_over-nil}
use Rattle.representations.specs.Quiver.{opposite}
use Rattle.representations.specs.Rep.{Rep, value_of_relation}
use Rattle.representations.specs.Dual.{dual}
use Rattle.bound_algebra.specs.TypedPaths.{quiver_of}
use Rattle.bound_algebra.specs.BoundAlgebra.{relation_at, relation_of}
use Rattle.bound_algebra.specs.PathMatrices.{path_matrix, left_path_matrix}
use Rattle.bound_algebra.proofs.PathMatrices.{dual_matrix}
use Rattle.module_types.specs.declared.Side.{Side}
use Rattle.module_types.specs.declared.Side.TheVariants.{Right, Left}
use Rattle.module_types.specs.declared.Module.{Module}
use Rattle.module_types.specs.Algebras.{algebra_at}
use Rattle.module_types.specs.Readings.{rep_of}
use Rattle.module_types.specs.Shapes.{IsModule}
use Rattle.module_checks.specs.RowWalks.{ActsAsZero}
use Rattle.module_faults.specs.ShortRelations.{is_short, short_terms, short_header}
use Rattle.module_faults.specs.RelationActions.{short_entry, IsZeroOver, RelationIsZero, IsRelationZero}
use Rattle.module_faults.proofs.ShortRelations.{sum_over-filter, terms_kept, short_allowed, short_count, short_at}
use Rattle.module_faults.proofs.RelationValues.{AreTermsZero, terms_of_value, value_of_terms, dual_of_left_value, left_of_dual_value}

-- what is left out of a sum
entry_of_short : (h : Header) {m n : ℕ} (matrix : Path → Mat h.field m n) (rel : Relation) (x y : ℕ) → sum_over h.field (short_terms h.bound rel.terms) (λ t. mul h.field t.coef ((matrix t.path).at x y)) ≡ short_entry h matrix rel x y
entry_of_short h matrix rel x y = sum_over-filter h.field (is_short h.bound) rel.terms (λ t. mul h.field t.coef ((matrix t.path).at x y))

zero_without : (h : Header) {m n : ℕ} (matrix : Path → Mat h.field m n) (rel : Relation) → short_terms h.bound rel.terms ≡ [] → IsZeroOver h matrix rel
zero_without h matrix rel e = record {
  at = λ x y. sym (entry_of_short h matrix rel x y) ∙ ap (λ terms. sum_over h.field terms (λ t. mul h.field t.coef ((matrix t.path).at x y))) e ∙ sum_over-nil h.field (λ t. mul h.field t.coef ((matrix t.path).at x y));
}

-- A left module and its dual.
module _ (h : Header) (X : Rep h.field (opposite (quiver_of h.quiver))) (rel : Relation) where
  dual_entry : (v w x y : ℕ) → short_entry h (left_path_matrix h.quiver X v w) rel x y ≡ short_entry h (path_matrix h.quiver (dual X) v w) rel y x
  dual_entry v w x y = sum_over-same h.field rel.terms _ _ (λ t m. ap (λ a. if ltb (path_length t.path) h.bound then mul h.field t.coef a else 0)
      (sym (ap (λ (m : Mat h.field (X.dim v) (X.dim w)). m.at y x) (dual_matrix h.quiver X v w t.path) ∙ transpose-at (left_path_matrix h.quiver X v w t.path) y x)))

  left_zero : RelationIsZero Right h (dual X) rel → RelationIsZero Left h X rel
  left_zero z v w = record { at = λ x y. dual_entry v w x y ∙ (z v w).at y x }

  right_zero : RelationIsZero Left h X rel → RelationIsZero Right h (dual X) rel
  right_zero z v w = record { at = λ x y. sym (dual_entry v w y x) ∙ (z v w).at y x }

-- The shortened relation, all of whose terms count, has some.
module _ (h : Header) (ok : IsAllowed h) (i : ℕ) (l : i < length h.relations) (some : short_terms h.bound (relation_at h.relations i).terms ≡ [] → ⊥) where
  abbrev rel : Relation
  rel = relation_at h.relations i

  kept : (relation_at (short_header h).relations i).terms ≡ short_terms h.bound rel.terms
  kept = ap (λ (r : Relation). r.terms) (short_at h i l) ∙ terms_kept rel (short_terms h.bound rel.terms) some

  inside : i < length (short_header h).relations
  inside = let e = short_count h in omega (arith, e, l)

  module _ (X : Rep h.field (quiver_of h.quiver)) where
    zero_of_terms : AreTermsZero (short_header h) X (relation_at (short_header h).relations i).terms → RelationIsZero Right h X rel
    zero_of_terms z v w = record {
      at = λ x y. sym (entry_of_short h (path_matrix h.quiver X v w) rel x y)
          ∙ ap (λ terms. sum_over h.field terms (λ t. mul h.field t.coef ((path_matrix h.quiver X v w t.path).at x y))) (sym kept) ∙ z.at v w x y;
    }

    terms_of_zero : RelationIsZero Right h X rel → AreTermsZero (short_header h) X (relation_at (short_header h).relations i).terms
    terms_of_zero z = record {
      at = λ v w x y. ap (λ terms. sum_over h.field terms (λ t. mul h.field t.coef ((path_matrix h.quiver X v w t.path).at x y))) kept
          ∙ entry_of_short h (path_matrix h.quiver X v w) rel x y ∙ (z v w).at x y;
    }

  -- as a side takes it
  abbrev ActsAt : Side → Module → Type 0
  ActsAt side m =
      let A = algebra_at side (short_header h) in
      let X = rep_of h.field A.quiver m in
      value_of_relation X (A.relation i) ≡ zeros h.field (X.dim (A.relation i).from) (X.dim (A.relation i).to)

  zero_at : (side : Side) (m : Module) → ActsAt side m → RelationIsZero side h (rep_of h.field (algebra_at side h).quiver m) rel
  zero_at Right m a = zero_of_terms (rep_of h.field (quiver_of h.quiver) m) (terms_of_value (short_header h) (short_allowed h ok) (rep_of h.field (quiver_of h.quiver) m) i inside a)
  zero_at Left m a =
      let X = rep_of h.field (opposite (quiver_of h.quiver)) m in
      left_zero h X rel (zero_of_terms (dual X) (terms_of_value (short_header h) (short_allowed h ok) (dual X) i inside (dual_of_left_value (relation_of (short_header h) i) X a)))

  acts_at : (side : Side) (m : Module) → RelationIsZero side h (rep_of h.field (algebra_at side h).quiver m) rel → ActsAt side m
  acts_at Right m z = value_of_terms (short_header h) (short_allowed h ok) (rep_of h.field (quiver_of h.quiver) m) i inside (terms_of_zero (rep_of h.field (quiver_of h.quiver) m) z)
  acts_at Left m z =
      let X = rep_of h.field (opposite (quiver_of h.quiver)) m in
      left_of_dual_value (relation_of (short_header h) i) X (value_of_terms (short_header h) (short_allowed h ok) (dual X) i inside (terms_of_zero (dual X) (right_zero h X rel z)))

-- for the header that is lent
module _ (h s : Header) (ok : IsAllowed h) (is : s ≡ short_header h) where
  pub lent_allowed : IsAllowed s
  lent_allowed = subst IsAllowed (sym is) (short_allowed h ok)

  quiver_at : (side : Side) → (algebra_at side (short_header h)).quiver ≡ (algebra_at side h).quiver
  quiver_at Right = refl
  quiver_at Left = refl

  pub lent_shape : (m : Module) → IsModule h.field (algebra_at m.side h).quiver m → IsModule s.field (algebra_at m.side s).quiver m
  lent_shape m ok = subst (λ (s : Header). IsModule s.field (algebra_at m.side s).quiver m) (sym is) (subst (λ Q. IsModule h.field Q m) (sym (quiver_at m.side)) ok)

  pub lent_count : length s.relations ≡ length h.relations
  lent_count = ap (λ (s : Header). length s.relations) is ∙ short_count h

  pub zero_of_lent : (m : Module) (i : ℕ) → i < length h.relations → (short_terms h.bound (relation_at h.relations i).terms ≡ [] → ⊥) → ActsAsZero s m i → IsRelationZero h m i
  zero_of_lent m i l some a = zero_at h ok i l some m.side m (subst (λ (s : Header). ActsAsZero s m i) is a)

  pub lent_of_zero : (m : Module) (i : ℕ) → i < length h.relations → (short_terms h.bound (relation_at h.relations i).terms ≡ [] → ⊥) → IsRelationZero h m i → ActsAsZero s m i
  lent_of_zero m i l some z = subst (λ (s : Header). ActsAsZero s m i) (sym is) (acts_at h ok i l some m.side m z)

-- a relation without short terms
without_at : (h : Header) (side : Side) (X : Rep h.field (algebra_at side h).quiver) (rel : Relation) → short_terms h.bound rel.terms ≡ [] → RelationIsZero side h X rel
without_at h Right X rel e = λ v w. zero_without h (path_matrix h.quiver X v w) rel e
without_at h Left X rel e = λ v w. zero_without h (left_path_matrix h.quiver X v w) rel e

pub relation_is : (h : Header) (i : ℕ) (rel : Relation) → i < length h.relations → rel ≡ slice_index_or h.relations i rel → rel ≡ relation_at h.relations i
relation_is h i rel l e = e ∙ get_or_default h.relations i rel (record { terms = [] }) l

pub zero_by_length : (h : Header) (m : Module) (i : ℕ) (rel : Relation) → rel ≡ relation_at h.relations i → short_terms h.bound rel.terms ≡ [] → IsRelationZero h m i
zero_by_length h m i rel is e = without_at h m.side (rep_of h.field (algebra_at m.side h).quiver m) (relation_at h.relations i) (subst (λ (r : Relation). short_terms h.bound r.terms ≡ []) is e)

pub some_short : (h : Header) (i : ℕ) (rel : Relation) → rel ≡ relation_at h.relations i → (short_terms h.bound rel.terms ≡ [] → ⊥) → short_terms h.bound (relation_at h.relations i).terms ≡ [] → ⊥
some_short h i rel is n = subst (λ (r : Relation). short_terms h.bound r.terms ≡ [] → ⊥) is n
