-- The header of one loop is allowed, and its words are paths. Of three modules the last may be kept behind the first.
use Rattle.std.proofs.Common.{ℕ, ◌≡◌, ◌≢◌, ◌<◌, ◌≤◌, ◌⊎◌, List, [], ◌∷◌, refl, sym, ap, ◌∙◌, subst, arith}
use Rattle.std.specs.Prelude.{All, AllPairs, Contains, IsTrue}
use Rattle.std.proofs.lemmas.List.Elements.{All-nil, All-cons, All-head, All-tail}
use Rattle.linear_algebra.specs.Field.{Gf}
use Rattle.quiver_paths.specs.declared.Path.{Path}
use Rattle.quiver_paths.specs.declared.Arrow.{Arrow}
use Rattle.quiver_paths.specs.Quiver.{arrow_count, source, target}
use Rattle.quiver_paths.specs.Path.{IsPath, Leads}
use Rattle.quiver_paths.specs.Name.{IsName, is_name_byte}
use Rattle.quiver_paths.proofs.QuiverLemmas.{source_is, target_is, IsQuiver-from_lists}
use Rattle.path_algebra.specs.declared.Header.{Header}
use Rattle.path_algebra.specs.declared.rules.Rule.{Rule}
use Rattle.path_algebra.specs.Allowed.{IsAllowed, IsArrowName, IsRelation}
use Rattle.path_algebra.specs.Rules.{AreElementTerms}
use Rattle.path_algebra.specs.BasisClauses.{IsBasisClaim, HasFactor}
use Rattle.module_types.specs.declared.Module.{Module}
use Rattle.module_types.specs.declared.Map.{Map}
use Rattle.rep_arena.specs.Entries.{Entries, NamesModule, NamesMap, map_at, no_entries, with_module}
use Rattle.rep_arena.specs.Marks.{Heights, heights_of, MayKeep}
use Rattle.rep_arena.specs.OneLoop.{one_loop, loops}

one : {X : Type 0} (P : X → Type 0) (x : X) → P x → All P (x ∷ [])
one P x p = All-cons P x [] p (All-nil P)

single : {X : Type 0} (R : X → X → Type 0) (x : X) → AllPairs R (x ∷ [])
single R x j k d l m = absurd (omega arith)

letter_name : (b : ℕ) → IsTrue (is_name_byte b) → IsName (b ∷ [])
letter_name b t = record { some = omega arith; short = omega arith; spelled = one (λ x. IsTrue (is_name_byte x)) b t }

abbrev way : List ℕ → Path
way xs = record { start = 0; end = 0; arrows = xs }

module _ (f : Gf) where
  abbrev h : Header
  h = one_loop f

  abbrev x : Arrow
  x = record { name = 120 ∷ []; from = 0; to = 0 }

  from : All (λ (a : Arrow). a.from ≡ 0) h.quiver.arrows
  from = one (λ (a : Arrow). a.from ≡ 0) x refl

  to : All (λ (a : Arrow). a.to ≡ 0) h.quiver.arrows
  to = one (λ (a : Arrow). a.to ≡ 0) x refl

  pub one_loop_allowed : IsAllowed (one_loop f)
  one_loop_allowed = record {
    quiver = IsQuiver-from_lists ((118 ∷ []) ∷ []) h.quiver.arrows (omega arith) (omega arith) (omega arith) (λ k d l. let i = from k d l in let g = to k d l in (omega (arith, i), omega (arith, g)));
    vertex_names = one IsName (118 ∷ []) (letter_name 118 refl);
    arrow_names = one (λ (a : Arrow). IsArrowName a.name) x (record { name = letter_name 120 refl; letter = refl });
    vertices_differ = single (λ (a b : List ℕ). a ≡ b → ⊥) (118 ∷ []);
    arrows_differ = single (λ (a b : Arrow). a.name ≡ b.name → ⊥) x;
    bound_from = omega arith;
    bound_to = omega arith;
    few_relations = omega arith;
    relations = All-nil (IsRelation h);
  }

  is_loop : (a : ℕ) → a < arrow_count h.quiver → (source h.quiver a ≡ 0) × (target h.quiver a ≡ 0)
  is_loop a l = (source_is h.quiver a x l ∙ from a x l, target_is h.quiver a x l ∙ to a x l)

  along_path : (xs : List ℕ) → All (λ a. a < arrow_count h.quiver) xs → IsPath h.quiver (way xs)
  along_path xs below = record { starts = omega arith; leads = leads xs below }
    where
      leads : (xs : List ℕ) → All (λ a. a < arrow_count h.quiver) xs → Leads h.quiver 0 xs 0
      leads [] below = refl
      leads (a ∷ xs) below =
          let l = All-head (λ b. b < arrow_count h.quiver) a xs below in
          (l, (is_loop a l).0, subst (λ u. Leads h.quiver u xs 0) (sym (is_loop a l).1) (leads xs (All-tail (λ b. b < arrow_count h.quiver) a xs below)))

  pub one_loop_claim : IsBasisClaim (one_loop f) loops [] []
  one_loop_claim = record {
    few = omega arith;
    paths = All-cons (IsPath h.quiver) (way []) (way (0 ∷ []) ∷ way (0 ∷ 0 ∷ []) ∷ []) (along_path [] (All-nil (λ a. a < arrow_count h.quiver)))
        (All-cons (IsPath h.quiver) (way (0 ∷ [])) (way (0 ∷ 0 ∷ []) ∷ []) (along_path (0 ∷ []) (one (λ a. a < arrow_count h.quiver) 0 (omega arith)))
        (one (IsPath h.quiver) (way (0 ∷ 0 ∷ [])) (along_path (0 ∷ 0 ∷ []) (All-cons (λ a. a < arrow_count h.quiver) 0 (0 ∷ []) (omega arith) (one (λ a. a < arrow_count h.quiver) 0 (omega arith))))));
    factors = All-nil (HasFactor h);
    tips = All-nil (λ (rule : Rule). IsPath h.quiver rule.tip);
    tails = All-nil (λ (rule : Rule). AreElementTerms h rule.tail.terms);
  }

-- ---- of three modules the last may be kept behind the first

abbrev three : Header → Module → Module → Module → Entries
three h a b d = with_module (with_module (with_module (no_entries h) a) b) d

last_kept : (h : Header) (a b d : Module) → MayKeep (three h a b d) (heights_of (with_module (no_entries h) a)) (3 ∷ []) []
last_kept h a b d = record {
  fits = record { modules = omega arith; maps = omega arith; sources = All-nil (λ (f : Map). f.source ≤ 1); targets = All-nil (λ (f : Map). f.target ≤ 1) };
  module_names = one (NamesModule e) 3 (record { from = omega arith; to = omega arith });
  modules_behind = one (λ n. 1 < n) 3 (omega arith);
  modules_once = single (λ (a b : ℕ). a ≢ b) 3;
  map_names = All-nil (NamesMap e);
  maps_behind = All-nil (λ n. 0 < n);
  maps_once = λ j k d l m. absurd (omega arith);
  sources = All-nil (λ n. ((map_at e n).source ≤ 1) ⊎ Contains (3 ∷ []) (map_at e n).source);
  targets = All-nil (λ n. ((map_at e n).target ≤ 1) ⊎ Contains (3 ∷ []) (map_at e n).target);
}
  where
    e : Entries
    e = three h a b d

pub may_keep_last : (h : Header) (a b d : Module) (e first : Entries) (mark : Heights) (ids maps : List ℕ) → first ≡ with_module (no_entries h) a → e ≡ with_module (with_module first b) d → mark ≡ heights_of first
    → ids ≡ 3 ∷ [] → maps ≡ [] → MayKeep e mark ids maps
may_keep_last h a b d e first mark ids maps f i m j k =
    subst (λ (e : Entries). MayKeep e mark ids maps) (sym (i ∙ ap (λ (x : Entries). with_module (with_module x b) d) f))
    (subst (λ (mark : Heights). MayKeep (three h a b d) mark ids maps) (sym (m ∙ ap heights_of f))
    (subst (λ ids. MayKeep (three h a b d) (heights_of (with_module (no_entries h) a)) ids maps) (sym j)
    (subst (λ maps. MayKeep (three h a b d) (heights_of (with_module (no_entries h) a)) (3 ∷ []) maps) (sym k) (last_kept h a b d))))
