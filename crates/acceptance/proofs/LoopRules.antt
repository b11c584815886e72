-- The header of two loops is allowed, and the rules over it are tidy.
use Rattle.std.proofs.Common.{ℕ, ◌≡◌, ◌<◌, ◌≤◌, inl, List, [], ◌∷◌, length, get_or, refl, sym, ap, ◌∙◌, subst, arith}
use Rattle.std.specs.Prelude.{All, AllPairs, IsTrue}
use Rattle.std.proofs.lemmas.List.Elements.{All-nil, All-cons, All-head, All-tail}
use Rattle.linear_algebra.specs.Field.{Gf, order}
use Rattle.quiver_paths.specs.declared.Path.{Path}
use Rattle.quiver_paths.specs.declared.Quiver.{Quiver}
use Rattle.quiver_paths.specs.declared.Arrow.{Arrow}
use Rattle.quiver_paths.specs.Quiver.{vertex_count, arrow_count, source, target}
use Rattle.quiver_paths.specs.Path.{IsPath, Leads, path_length}
use Rattle.quiver_paths.specs.Name.{IsName, is_name_byte}
use Rattle.quiver_paths.specs.PathOrder.{IsSmaller, ComesBefore}
use Rattle.quiver_paths.proofs.QuiverLemmas.{source_is, target_is, IsQuiver-from_lists}
use Rattle.quiver_paths.proofs.ListLemmas.{AllPairs-nil}
use Rattle.quiver_paths.proofs.PathOrderLemmas.{IsSmaller-from_shorter, smaller_from_comes_before}
use Rattle.path_algebra.specs.declared.Term.{Term}
use Rattle.path_algebra.specs.declared.Relation.{Relation}
use Rattle.path_algebra.specs.declared.Header.{Header}
use Rattle.path_algebra.specs.declared.rules.Rule.{Rule}
use Rattle.path_algebra.specs.Allowed.{IsAllowed, IsArrowName, IsRelation, IsTerm, IsParallel}
use Rattle.path_algebra.specs.Rules.{AreElementTerms}
use Rattle.path_algebra.proofs.TermLists.{Contains-one, AreElementTerms-nil, AreElementTerms-one}
use Rattle.path_reduction.specs.Gaps.{IsTidy, AreTidy}
use Rattle.acceptance.specs.Loops.{along, term, loop_arrow, two_loops, rules_of, AreLoops}

one : {X : Type 0} (P : X → Type 0) (x : X) → P x → All P (x ∷ [])
one P x p = All-cons P x [] p (All-nil P)

two : {X : Type 0} (P : X → Type 0) (x y : X) → P x → P y → All P (x ∷ y ∷ [])
two P x y p r = All-cons P x (y ∷ []) p (one P y r)

single : {X : Type 0} (R : X → X → Type 0) (x : X) → AllPairs R (x ∷ [])
single R x j k d l m = absurd (omega arith)

pair : {X : Type 0} (R : X → X → Type 0) (x y : X) → R x y → AllPairs R (x ∷ y ∷ [])
pair R x y r j k d l m =
    let first : j ≡ 0 = omega arith in
    let second : k ≡ 1 = omega arith in
    subst (λ i. R (get_or (x ∷ y ∷ []) i d) (get_or (x ∷ y ∷ []) k d)) (sym first) (subst (λ i. R x (get_or (x ∷ y ∷ []) i d)) (sym second) r)

-- ---- paths of loops

record HasLoops (Q : Quiver) : Type 0 where
  vertex : 0 < vertex_count Q
  loops : (a : ℕ) → a < arrow_count Q → (source Q a ≡ 0) × (target Q a ≡ 0)

along_path : (Q : Quiver) → HasLoops Q → (xs : List ℕ) → All (λ a. a < arrow_count Q) xs → IsPath Q (along xs)
along_path Q h xs below = record { starts = h.vertex; leads = leads xs below }
  where
    leads : (xs : List ℕ) → All (λ a. a < arrow_count Q) xs → Leads Q 0 xs 0
    leads [] below = refl
    leads (a ∷ xs) below =
        let l = All-head (λ b. b < arrow_count Q) a xs below in
        (l, (h.loops a l).0, subst (λ u. Leads Q u xs 0) (sym (h.loops a l).1) (leads xs (All-tail (λ b. b < arrow_count Q) a xs below)))

-- ---- rules

-- a rule with at most one term in its tail
one_tidy : (h : Header) (tip : List ℕ) (tail : List Term) → IsPath h.quiver (along tip) → 1 ≤ length tip → length tip < h.bound → AreElementTerms h tail → All (λ (a : Term). IsParallel a.path (along tip)) tail
    → All (λ (a : Term). IsSmaller a.path (along tip)) tail → AreTidy h (rules_of tip tail)
one_tidy h tip tail path some short are parallel smaller = record {
  each = one (IsTidy h) rule (record { path = path; not_trivial = some; short = short; tail = are; parallel = parallel; smaller = smaller });
  ascending = single (λ (a b : Rule). IsSmaller a.tip b.tip) rule;
  apart = λ a b m n d f. d (ap (λ (x : Rule). x.tip) (sym (Contains-one rule a m) ∙ Contains-one rule b n));
}
  where
    rule : Rule
    rule = record { tip = along tip; tail = record { terms = tail }; step = 1 }

-- ---- names

letter_name : (b : ℕ) → IsTrue (is_name_byte b) → IsName (b ∷ [])
letter_name b t = record { some = omega arith; short = omega arith; spelled = one (λ x. IsTrue (is_name_byte x)) b t }

x_name : IsArrowName (120 ∷ [])
x_name = record { name = letter_name 120 refl; letter = refl }

y_name : IsArrowName (121 ∷ [])
y_name = record { name = letter_name 121 refl; letter = refl }

-- ---- the header

module _ (f : Gf) (e : order f ≡ 3) where
  abbrev loops : Header
  loops = two_loops f 4

  from : All (λ (a : Arrow). a.from ≡ 0) loops.quiver.arrows
  from = two (λ (a : Arrow). a.from ≡ 0) (loop_arrow (120 ∷ [])) (loop_arrow (121 ∷ [])) refl refl

  to : All (λ (a : Arrow). a.to ≡ 0) loops.quiver.arrows
  to = two (λ (a : Arrow). a.to ≡ 0) (loop_arrow (120 ∷ [])) (loop_arrow (121 ∷ [])) refl refl

  has_loops : HasLoops loops.quiver
  has_loops = record {
    vertex = omega arith;
    loops = λ a l. let d : Arrow = loop_arrow (120 ∷ []) in (source_is loops.quiver a d l ∙ from a d l, target_is loops.quiver a d l ∙ to a d l);
  }

  allowed : IsAllowed loops
  allowed = record {
    quiver = IsQuiver-from_lists ((118 ∷ []) ∷ []) loops.quiver.arrows (omega arith) (omega arith) (omega arith) (λ k d l. let i = from k d l in let g = to k d l in (omega (arith, i), omega (arith, g)));
    vertex_names = one IsName (118 ∷ []) (letter_name 118 refl);
    arrow_names = two (λ (a : Arrow). IsArrowName a.name) (loop_arrow (120 ∷ [])) (loop_arrow (121 ∷ [])) x_name y_name;
    vertices_differ = single (λ (a b : List ℕ). a ≡ b → ⊥) (118 ∷ []);
    arrows_differ = pair (λ (a b : Arrow). a.name ≡ b.name → ⊥) (loop_arrow (120 ∷ [])) (loop_arrow (121 ∷ [])) (λ i. omega (arith, ap (λ xs. get_or xs 0 0) i));
    bound_from = omega arith;
    bound_to = omega arith;
    few_relations = omega arith;
    relations = All-nil (IsRelation loops);
  }

  -- ---- its rules

  square : (a : ℕ) → a < arrow_count loops.quiver → IsPath loops.quiver (along (a ∷ a ∷ []))
  square a l = along_path loops.quiver has_loops (a ∷ a ∷ []) (two (λ b. b < arrow_count loops.quiver) a a l l)

  cube : IsPath loops.quiver (along (0 ∷ 0 ∷ 0 ∷ []))
  cube = let l : 0 < arrow_count loops.quiver = omega arith in
      along_path loops.quiver has_loops (0 ∷ 0 ∷ 0 ∷ []) (All-cons (λ a. a < arrow_count loops.quiver) 0 (0 ∷ 0 ∷ []) l (two (λ a. a < arrow_count loops.quiver) 0 0 l l))

  are : AreLoops loops
  are = record {
    allowed = allowed;
    cube = one_tidy loops (0 ∷ 0 ∷ 0 ∷ []) (term 2 (0 ∷ 0 ∷ []) ∷ []) cube (omega arith) (omega arith)
        (AreElementTerms-one loops (term 2 (0 ∷ 0 ∷ [])) (record { nonzero = omega arith; small = omega (arith, e); short = record { path = square 0 (omega arith); short = omega arith } }))
        (one (λ (a : Term). IsParallel a.path (along (0 ∷ 0 ∷ 0 ∷ []))) (term 2 (0 ∷ 0 ∷ [])) (record { starts = refl; ends = refl }))
        (one (λ (a : Term). IsSmaller a.path (along (0 ∷ 0 ∷ 0 ∷ []))) (term 2 (0 ∷ 0 ∷ [])) (IsSmaller-from_shorter (along (0 ∷ 0 ∷ [])) (along (0 ∷ 0 ∷ 0 ∷ [])) (omega arith)));
    zero_square = one_tidy loops (0 ∷ 0 ∷ []) [] (square 0 (omega arith)) (omega arith) (omega arith) (AreElementTerms-nil loops) (All-nil (λ (a : Term). IsParallel a.path (along (0 ∷ 0 ∷ []))))
        (All-nil (λ (a : Term). IsSmaller a.path (along (0 ∷ 0 ∷ []))));
    equal_squares = one_tidy loops (1 ∷ 1 ∷ []) (term 1 (0 ∷ 0 ∷ []) ∷ []) (square 1 (omega arith)) (omega arith) (omega arith)
        (AreElementTerms-one loops (term 1 (0 ∷ 0 ∷ [])) (record { nonzero = omega arith; small = omega (arith, e); short = record { path = square 0 (omega arith); short = omega arith } }))
        (one (λ (a : Term). IsParallel a.path (along (1 ∷ 1 ∷ []))) (term 1 (0 ∷ 0 ∷ [])) (record { starts = refl; ends = refl }))
        (one (λ (a : Term). IsSmaller a.path (along (1 ∷ 1 ∷ []))) (term 1 (0 ∷ 0 ∷ []))
        (smaller_from_comes_before (along (0 ∷ 0 ∷ [])) (along (1 ∷ 1 ∷ [])) (ComesBefore.by_arrows refl (inl (omega arith)))));
  }

pub two_loops_are : (h : Header) → order h.field ≡ 3 → h ≡ two_loops h.field 4 → AreLoops h
two_loops_are h f e = subst AreLoops (sym e) (are h.field f)
