-- Terms that make a relation.
use Rattle.std.proofs.Common.{◌≡◌, ◌<◌, Bool, false, eqb, IsTrue, true≢false, ◌↔◌, List, [], ◌∷◌, length, All, sym, subst, arith}
use Rattle.path_algebra.specs.declared.Term.{Term}
use Rattle.path_algebra.specs.declared.Relation.{Relation}
use Rattle.path_algebra.specs.declared.Header.{Header}
use Rattle.path_algebra.specs.Allowed.{IsTerm, IsRelation}
use Rattle.header_text.specs.Named.{AreRelated}

some_terms : (terms : List Term) → false ≡ eqb (length terms) 0 → 0 < length terms
some_terms [] h = absurd (true≢false (sym h))
some_terms (t ∷ terms) h = omega arith

-- what is asked of a relation, in the order in which it is tested
pub related_terms : (h : Header) (r : Relation) (terms : List Term) (b : Bool) → terms ≡ r.terms → false ≡ eqb (length terms) 0 → All (IsTerm h) terms
    → IsTrue b ↔ AreRelated terms → IsTrue b ↔ IsRelation h r
related_terms h r terms b same some all related = (
  λ t.
      let k = subst AreRelated same (related.0 t) in
      record {
        some = subst (λ (l : List Term). 0 < length l) same (some_terms terms some);
        few = k.few;
        terms = subst (All (IsTerm h)) same all;
        parallel = k.parallel;
        different = k.different;
      },
  λ is. related.1 (subst AreRelated (sym same) (record { few = is.few; parallel = is.parallel; different = is.different })),
)
