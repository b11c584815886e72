-- Two loops at one vertex, and rules over them.
use Rattle.std.specs.Prelude.{ℕ, List, [], ◌∷◌}
use Rattle.linear_algebra.specs.Field.{Gf}
use Rattle.quiver_paths.specs.declared.Path.{Path}
use Rattle.quiver_paths.specs.declared.Arrow.{Arrow}
use Rattle.path_algebra.specs.declared.Term.{Term}
use Rattle.path_algebra.specs.declared.Header.{Header}
use Rattle.path_algebra.specs.declared.rules.Rule.{Rule}
use Rattle.path_algebra.specs.Allowed.{IsAllowed}
use Rattle.path_reduction.specs.Gaps.{AreTidy}

-- the path of these loops
abbrev pub along : List ℕ → Path
along arrows = record { start = 0; end = 0; arrows = arrows }

-- a coefficient and loops
abbrev pub term : ℕ → List ℕ → Term
term coef arrows = record { coef = coef; path = along arrows }

-- a loop with a name
abbrev pub loop_arrow : List ℕ → Arrow
loop_arrow name = record { name = name; from = 0; to = 0 }

-- the loops x and y at v, and no relation
abbrev pub two_loops : Gf → ℕ → Header
two_loops f bound = record {
  field = f;
  quiver = record { vertices = (118 ∷ []) ∷ []; arrows = loop_arrow (120 ∷ []) ∷ loop_arrow (121 ∷ []) ∷ [] };
  bound = bound;
  relations = [];
}

-- the one rule that takes these loops to this tail
abbrev pub rules_of : List ℕ → List Term → List Rule
rules_of tip tail = record { tip = along tip; tail = record { terms = tail }; step = 1 } ∷ []

-- paths of four loops are zero; and rules: for x·x·x, for x·x and for y·y
pub record AreLoops (h : Header) : Type 0 where
  pub allowed : IsAllowed h
  pub cube : AreTidy h (rules_of (0 ∷ 0 ∷ 0 ∷ []) (term 2 (0 ∷ 0 ∷ []) ∷ []))
  pub zero_square : AreTidy h (rules_of (0 ∷ 0 ∷ []) [])
  pub equal_squares : AreTidy h (rules_of (1 ∷ 1 ∷ []) (term 1 (0 ∷ 0 ∷ []) ∷ []))
