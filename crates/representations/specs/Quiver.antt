-- Quivers, paths and relations. (Assem, Simson, Skowroński, volume 1, chapter II, 1 and 2.)
use Rattle.std.specs.Prelude.{ℕ, zero, suc, ◌≤◌}

-- A quiver: its vertices are 0, 1, .., vertices − 1, its arrows 0, 1, .., arrows − 1, each from its source to its target. Source and target
-- are given for every number; what is no arrow goes from a number that is no vertex to a number that is no vertex.
pub record Quiver : Type 0 where
  pub vertices : ℕ
  pub arrows : ℕ
  pub source : ℕ → ℕ
  pub target : ℕ → ℕ
  pub source_past : (a : ℕ) → arrows ≤ a → vertices ≤ source a
  pub target_past : (a : ℕ) → arrows ≤ a → vertices ≤ target a

-- A path from v: the trivial path at v, or a path to the source of an arrow and then that arrow.
pub data Path (Q : Quiver) (v : ℕ) : ℕ → Type 0 where
  trivial : Path Q v v
  then : (a : ℕ) → Path Q v (Q.source a) → Path Q v (Q.target a)

-- The number of arrows of a path.
abbrev pub path_length : {Q : Quiver} {v w : ℕ} → Path Q v w → ℕ
path_length trivial = zero
path_length (then a p) = suc (path_length p)

-- First p, then r.
abbrev pub path_join : {Q : Quiver} {u v w : ℕ} → Path Q u v → Path Q v w → Path Q u w
path_join p trivial = p
path_join p (then a r) = then a (path_join p r)

-- The path of one arrow, and a path with an arrow before it.
abbrev pub arrow_path : {Q : Quiver} (a : ℕ) → Path Q (Q.source a) (Q.target a)
arrow_path a = then a trivial

abbrev pub path_after : {Q : Quiver} {w : ℕ} (a : ℕ) → Path Q (Q.target a) w → Path Q (Q.source a) w
path_after a p = path_join (arrow_path a) p

-- The opposite quiver, whose arrows go the other way, and a path of the quiver as one of the opposite.
abbrev pub opposite : Quiver → Quiver
opposite Q = record {
  vertices = Q.vertices;
  arrows = Q.arrows;
  source = Q.target;
  target = Q.source;
  source_past = Q.target_past;
  target_past = Q.source_past;
}

abbrev pub reverse : {Q : Quiver} {v w : ℕ} → Path Q v w → Path (opposite Q) w v
reverse trivial = trivial
reverse {Q} (then a p) = path_after {Q = opposite Q} a (reverse p)

-- A relation: a combination of paths that go from one vertex to another.
pub record Relation (Q : Quiver) : Type 0 where
  pub from : ℕ
  pub to : ℕ
  pub terms : ℕ
  pub coefficient : ℕ → ℕ
  pub path : ℕ → Path Q from to

-- A finite-dimensional algebra, given by a quiver, relations, and a bound: the quotient of the path algebra by the ideal that the relations
-- relation 0, .., relation (relations − 1) and all paths of the bound's length generate. What `relation` is from the count on says nothing.
pub record BoundQuiver : Type 0 where
  pub quiver : Quiver
  pub relations : ℕ
  pub relation : ℕ → Relation quiver
  pub bound : ℕ

-- The algebra with other relations.
abbrev pub with_relations : (A : BoundQuiver) → (ℕ → Relation A.quiver) → BoundQuiver
with_relations A r = record { quiver = A.quiver; relations = A.relations; relation = r; bound = A.bound }

-- The opposite algebra.
abbrev pub opposite_relation : {Q : Quiver} → Relation Q → Relation (opposite Q)
opposite_relation r = record { from = r.to; to = r.from; terms = r.terms; coefficient = r.coefficient; path = λ i. reverse (r.path i) }

abbrev pub opposite_algebra : BoundQuiver → BoundQuiver
opposite_algebra A = record { quiver = opposite A.quiver; relations = A.relations; relation = λ i. opposite_relation (A.relation i); bound = A.bound }
