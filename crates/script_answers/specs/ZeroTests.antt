-- Whether relations, paths and squares of arrows act as zero, and the first that does not. (Assem, Simson, Skowroński, volume 1, chapter III, 1.)
use Rattle.std.specs.Prelude.{ℕ, zero, suc, ◌+◌, Bool, true, nat_eq, nat_lt, ◌&&◌, not, if◌then◌else◌, find, position, Option, Some, None}
use Rattle.std.specs.List.{range_with_len}
use Rattle.linear_algebra.specs.Field.{Gf, mul}
use Rattle.linear_algebra.specs.Matrix.{Mat, ◌·◌}
use Rattle.quiver_paths.specs.declared.Path.{Path}
use Rattle.quiver_paths.specs.Path.{path_length}
use Rattle.quiver_paths.specs.PathList.{paths_of_length}
use Rattle.path_algebra.specs.declared.Relation.{Relation}
use Rattle.path_algebra.specs.declared.Header.{Header}
use Rattle.path_algebra.specs.Elements.{sum_over}
use Rattle.representations.specs.Quiver.{Quiver}
use Rattle.representations.specs.Rep.{Rep}
use Rattle.bound_algebra.specs.TypedPaths.{quiver_of}
use Rattle.bound_algebra.specs.PathMatrices.{path_matrix}
use Rattle.report_types.specs.declared.reports.Why.{Why}
use Rattle.report_types.specs.declared.reports.Why.TheVariants as why

-- the test passes at each number below n
abbrev pub all_below : ℕ → (ℕ → Bool) → Bool
all_below zero test = true
all_below (suc n) test = all_below n test && test n

-- matrices that are equal, entry by entry; a matrix that is zero
abbrev pub same_matrix : {q : Gf} {m n : ℕ} → Mat q m n → Mat q m n → Bool
same_matrix {q} {m} {n} f g = all_below m (λ i. all_below n (λ j. nat_eq (f.at i j) (g.at i j)))

abbrev pub is_zero : {q : Gf} {m n : ℕ} → Mat q m n → Bool
is_zero {q} {m} {n} f = all_below m (λ i. all_below n (λ j. nat_eq (f.at i j) 0))

-- A relation without its terms of the bound's length or more, on a right module, from v to w: the entry at x and y. It is zero where each entry is.
module _ (h : Header) (X : Rep h.field (quiver_of h.quiver)) where
  abbrev pub relation_entry : Relation → (v w x y : ℕ) → ℕ
  relation_entry rel v w x y =
      sum_over h.field rel.terms (λ t. if nat_lt (path_length t.path) h.bound then mul h.field t.coef ((path_matrix h.quiver X v w t.path).at x y) else 0)

  abbrev pub relation_is_zero : Relation → Bool
  relation_is_zero rel =
      all_below (quiver_of h.quiver).vertices (λ v. all_below (quiver_of h.quiver).vertices (λ w.
      all_below (X.dim v) (λ x. all_below (X.dim w) (λ y. nat_eq (relation_entry rel v w x y) 0))))

  abbrev pub path_is_zero : Path → Bool
  path_is_zero p = is_zero (path_matrix h.quiver X p.start p.end p)

-- the first written relation that is not zero, counted from 1; the first path of the bound's length that is not, in the order of paths
abbrev pub relation_fails : Option ℕ → Option Why
relation_fails None = None
relation_fails (Some i) = Some (why.RelationFails (i + 1))

abbrev pub bound_fails : Option Path → Option Why
bound_fails None = None
bound_fails (Some p) = Some (why.BoundFails p)

abbrev pub relations_hold : (h : Header) → Rep h.field (quiver_of h.quiver) → Option Why
relations_hold h X = relation_fails (position (λ (rel : Relation). not (relation_is_zero h X rel)) h.relations)

abbrev pub bound_holds : (h : Header) → Rep h.field (quiver_of h.quiver) → Option Why
bound_holds h X = bound_fails (find (λ (p : Path). not (path_is_zero h X p)) (paths_of_length h.quiver h.bound))

-- the first arrow with which matrices at the vertices do not commute
abbrev pub not_hom : Option ℕ → Option Why
not_hom None = None
not_hom (Some a) = Some (why.NotHom a)

abbrev pub commutes : {q : Gf} {Q : Quiver} (X Y : Rep q Q) → ((v : ℕ) → Mat q (X.dim v) (Y.dim v)) → Option Why
commutes {Q = Q} X Y f = not_hom (find (λ a. not (same_matrix (X.mat a · f (Q.target a)) (f (Q.source a) · Y.mat a))) (range_with_len 0 Q.arrows))
