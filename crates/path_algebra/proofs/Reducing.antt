-- What a path becomes by reduction: a combination of words that are no greater, congruent to it where the rules are in the ideal.
use Rattle.std.proofs.Common.{ℕ, ◌≡◌, ◌<◌, ◌≤◌, inl, inr, List, ◌&&◌, eqb, sym, ap, ◌∙◌, subst}
use Rattle.std.specs.Prelude.{Contains, All}
use Rattle.std.proofs.lemmas.Bool.{cases_Bool, cases_lt, cond-true, cond-false, and_parts, eqb-true}
use Rattle.std.proofs.lemmas.List.Elements.{All-contains}
use Rattle.linear_algebra.specs.Field.{order, mul}
use Rattle.linear_algebra.specs.FieldLaws.{order-pos, mul_zero}
use Rattle.quiver_paths.specs.declared.Path.{Path}
use Rattle.quiver_paths.specs.Path.{IsPath, path_length, Meets, concat}
use Rattle.quiver_paths.specs.PathOrder.{IsSmaller}
use Rattle.quiver_paths.proofs.PathLemmas.{IsPath-concat}
use Rattle.quiver_paths.proofs.PathOrderLemmas.{IsSmaller-concat, IsSmaller-trans}
use Rattle.quiver_paths.proofs.PathListLemmas.{smaller_induction}
use Rattle.path_algebra.specs.declared.Term.{Term}
use Rattle.path_algebra.specs.declared.Header.{Header}
use Rattle.path_algebra.specs.declared.rules.Rule.{Rule}
use Rattle.path_algebra.specs.Words.{IsShortPath}
use Rattle.path_algebra.specs.Rules.{AreElementTerms}
pub use Rattle.path_algebra.specs.Reduction.{AreRules}
use Rattle.path_algebra.specs.Reduction.{HasNoTip, FirstOccurrence, sum_between, IsReduction}
use Rattle.path_algebra.specs.BasisClauses.{WordsHold}
use Rattle.path_algebra.proofs.ElementLemmas.{path_element-below, path_element-other}
use Rattle.path_algebra.proofs.SumsOver.{sum_over_below, sum_over-zeros}
use Rattle.path_algebra.proofs.Occurrences.{cases_occurrence}

-- a term of a tail
pub record IsTailTerm (h : Header) (rule : Rule) (a : Term) : Type 0 where
  pub short : IsShortPath h a.path
  pub smaller : IsSmaller a.path rule.tip

pub tail_term : (h : Header) (rules : List Rule) → AreRules h rules → (rule : Rule) → Contains rules rule → (a : Term) → Contains rule.tail.terms a → IsTailTerm h rule a
tail_term h rules k rule c a m = record {
  short = All-contains (λ (x : Term). IsShortPath h x.path) rule.tail.terms a (All-contains (λ (x : Rule). AreElementTerms h x.tail.terms) rules rule k.tails c).short m;
  smaller = All-contains (λ (x : Term). IsSmaller x.path rule.tip) rule.tail.terms a (All-contains (λ (x : Rule). All (λ (y : Term). IsSmaller y.path x.tip) x.tail.terms) rules rule k.greater c) m;
}

-- Induction along reduction: what holds of a path of the bound's length or more, of one in which no tip occurs, and of u·tip·v by the first
-- occurrence where it holds of all paths of u·tail·v, holds of each path.
pub by_reduction : (h : Header) (rules : List Rule) → AreRules h rules → (P : Path → Type 0)
    → ((p : Path) → IsPath h.quiver p → h.bound ≤ path_length p → P p)
    → ((p : Path) → IsShortPath h p → HasNoTip h rules p → P p)
    → ((p : Path) → IsShortPath h p → (o : FirstOccurrence h rules p) → ((a : Term) → Contains o.rule.tail.terms a → Meets o.before a.path → Meets a.path o.behind
    → IsSmaller (concat o.before (concat a.path o.behind)) p → P (concat o.before (concat a.path o.behind))) → P p)
    → (p : Path) → IsPath h.quiver p → P p
by_reduction h rules k P long stays rewritten = smaller_induction h.quiver k.allowed.quiver.ends P (λ p hp before. elim (cases_lt (path_length p) h.bound) [
  | inr l ↦ long p hp l
  | inl l ↦ elim (cases_occurrence h rules k.allowed.quiver.ends k.tips p hp) [
    | inr n ↦ stays p (record { path = hp; short = l }) n
    | inl o ↦ rewritten p (record { path = hp; short = l }) o (λ a m mu mv s. before _ (term_is p o a m mu mv) s)
  ]
])
  where
    term_is : (p : Path) (o : FirstOccurrence h rules p) (a : Term) → Contains o.rule.tail.terms a → Meets o.before a.path → Meets a.path o.behind
        → IsPath h.quiver (concat o.before (concat a.path o.behind))
    term_is p o a m mu mv = IsPath-concat h.quiver o.before (concat a.path o.behind) o.before_is
        (IsPath-concat h.quiver a.path o.behind (tail_term h rules k o.rule o.listed a m).short.path o.behind_is mv) mu

-- the paths of u·tail·v are smaller than u·tip·v
pub rewritten_smaller : (h : Header) (rules : List Rule) → AreRules h rules → (p : Path) (o : FirstOccurrence h rules p) (a : Term) → Contains o.rule.tail.terms a
    → Meets o.before a.path → Meets a.path o.behind → IsSmaller (concat o.before (concat a.path o.behind)) p
rewritten_smaller h rules k p o a m mu mv = subst (IsSmaller (concat o.before (concat a.path o.behind))) (sym o.whole)
    (IsSmaller-concat o.before a.path o.rule.tip o.behind mu o.meets_before (tail_term h rules k o.rule o.listed a m).smaller)

-- a sum between two paths is zero where each of its members is
pub sum_between-zeros : (h : Header) (becomes : Path → Path → ℕ) (u : Path) (terms : List Term) (v r : Path)
    → ((a : Term) → Contains terms a → Meets u a.path → Meets a.path v → becomes (concat u (concat a.path v)) r ≡ 0) → sum_between h becomes u terms v r ≡ 0
unfolding sum_between
sum_between-zeros h becomes u terms v r z = sum_over-zeros h.field terms _ (λ a m. elim (cases_Bool (eqb u.end a.path.start && eqb a.path.end v.start)) [
  | inl e ↦
      let parts = and_parts (eqb u.end a.path.start) (eqb a.path.end v.start) e in
      cond-true _ _ 0 e ∙ ap (mul h.field a.coef) (z a m (eqb-true _ _ parts.0) (eqb-true _ _ parts.1)) ∙ mul_zero h.field a.coef
  | inr e ↦ cond-false _ _ 0 e
])

pub sum_between_below : (h : Header) (becomes : Path → Path → ℕ) (u : Path) (terms : List Term) (v r : Path) → sum_between h becomes u terms v r < order h.field
unfolding sum_between
sum_between_below h becomes u terms v r = sum_over_below h.field terms _

module _ (h : Header) (rules : List Rule) (k : AreRules h rules) (becomes : Path → Path → ℕ) (red : IsReduction h rules becomes) where
  pub becomes_below : (p : Path) → IsPath h.quiver p → (r : Path) → becomes p r < order h.field
  becomes_below = by_reduction h rules k (λ p. (r : Path) → becomes p r < order h.field)
      (λ p hp l r. subst (λ n. n < order h.field) (sym (red.long p hp l r)) (order-pos h.field))
      (λ p s n r. subst (λ x. x < order h.field) (sym (red.stays p s n r)) (path_element-below h.field h.bound p r))
      (λ p s o before r. subst (λ x. x < order h.field) (sym (red.rewritten p s o r)) (sum_between_below h becomes o.before o.rule.tail.terms o.behind r))

  -- it is zero but at words
  pub becomes-outside : (words : List Path) → WordsHold h words rules → (p : Path) → IsPath h.quiver p → (r : Path) → (Contains words r → ⊥) → becomes p r ≡ 0
  becomes-outside words w = by_reduction h rules k (λ p. (r : Path) → (Contains words r → ⊥) → becomes p r ≡ 0)
      (λ p hp l r n. red.long p hp l r)
      (λ p s no r n. red.stays p s no r ∙ path_element-other h.bound p r (λ e. n (subst (Contains words) e (w.all p s no))))
      (λ p s o before r n. red.rewritten p s o r ∙ sum_between-zeros h becomes o.before o.rule.tail.terms o.behind r
      (λ a m mu mv. before a m mu mv (rewritten_smaller h rules k p o a m mu mv) r n))

  -- and at greater paths
  pub becomes-greater : (p : Path) → IsPath h.quiver p → (r : Path) → (r ≡ p → ⊥) → (IsSmaller r p → ⊥) → becomes p r ≡ 0
  becomes-greater = by_reduction h rules k (λ p. (r : Path) → (r ≡ p → ⊥) → (IsSmaller r p → ⊥) → becomes p r ≡ 0)
      (λ p hp l r n g. red.long p hp l r)
      (λ p s no r n g. red.stays p s no r ∙ path_element-other h.bound p r (λ e. n (sym e)))
      (λ p s o before r n g. red.rewritten p s o r ∙ sum_between-zeros h becomes o.before o.rule.tail.terms o.behind r
      (λ a m mu mv.
      let less = rewritten_smaller h rules k p o a m mu mv in
      before a m mu mv less r (λ e. g (subst (λ x. IsSmaller x p) (sym e) less)) (λ s2. g (IsSmaller-trans r _ p s2 less))))
