-- The words between two vertices, by their places among all words.
use Rattle.std.proofs.Common.{ℕ, zero, ◌≡◌, ◌<◌, List, length, map, get_or, sym, ap, ◌∙◌, subst}
use Rattle.std.specs.Prelude.{Contains}
use Rattle.std.proofs.lemmas.Bool.{and_parts, and_from, eqb-true, eq-eqb}
use Rattle.std.proofs.lemmas.List.{get_or-map, length-map}
use Rattle.std.proofs.lemmas.List.Elements.{at_from_Contains}
use Rattle.quiver_paths.specs.declared.Path.{Path}
use Rattle.quiver_paths.specs.Path.{trivial_path}
use Rattle.quiver_paths.specs.PathOrder.{IsSmaller, IsAscending}
use Rattle.quiver_paths.proofs.ListLemmas.{Contains-map, Contains-from_map, Contains-filter, Contains-from_filter, AllPairs-map, AllPairs-members, AllPairs-sieve, ascending_once}
use Rattle.quiver_paths.proofs.PathOrderLemmas.{IsSmaller-irreflexive, IsSmaller-asymmetric}
use Rattle.path_algebra.specs.Rows.{path_at}
use Rattle.path_algebra.proofs.ListedPaths.{word_listed}
use Rattle.alg_table.specs.WordPlaces.{ArePlacesBetween}
use Rattle.bound_algebra.specs.WordLists.{is_between, words_between}

module _ (words : List Path) (asc : IsAscending words) where
  smaller_at : (j k : ℕ) → j < k → k < length words → IsSmaller (path_at words j) (path_at words k)
  unfolding path_at
  smaller_at j k l m = asc j k (trivial_path zero) l m

  place_in : (p : Path) → Contains words p → (k : ℕ) × (k < length words) × (path_at words k ≡ p)
  unfolding path_at
  place_in p m = let at = at_from_Contains words p m in (at.0, at.1, at.2 (trivial_path zero))

  -- both lists ascend, and have the same members
  words_at_places : (v w : ℕ) (places : List ℕ) → ArePlacesBetween words v w places → map (path_at words) places ≡ words_between words v w
  words_at_places v w places a = ascending_once IsSmaller IsSmaller-irreflexive IsSmaller-asymmetric (map (path_at words) places) (words_between words v w)
      (AllPairs-map IsSmaller (path_at words) places (AllPairs-members (λ j k. j < k) (λ j k. IsSmaller (path_at words j) (path_at words k)) places (λ j k c d l. smaller_at j k l (a.only k d).0) a.ascending))
      (AllPairs-sieve IsSmaller (is_between v w) words asc) to from
    where
      to : (p : Path) → Contains (map (path_at words) places) p → Contains (words_between words v w) p
      to p m =
          let f = Contains-from_map (path_at words) places p m in
          let o = a.only f.0 f.1 in
          subst (Contains (words_between words v w)) f.2
          (Contains-filter (is_between v w) words (path_at words f.0) (word_listed words f.0 o.0) (and_from _ _ (eq-eqb _ _ o.1.starts) (eq-eqb _ _ o.1.ends)))

      from : (p : Path) → Contains (words_between words v w) p → Contains (map (path_at words) places) p
      from p m =
          let f = Contains-from_filter (is_between v w) words p m in
          let i = and_parts _ _ f.1 in
          let at = place_in p f.0 in
          subst (Contains (map (path_at words) places)) at.2
          (Contains-map (path_at words) places at.0 (a.all at.0 at.1 (record { starts = ap (λ (r : Path). r.start) at.2 ∙ eqb-true _ _ i.0; ends = ap (λ (r : Path). r.end) at.2 ∙ eqb-true _ _ i.1 })))

  pub word_at_place : (v w : ℕ) (places : List ℕ) → ArePlacesBetween words v w places → (i : ℕ) → i < length places → path_at (words_between words v w) i ≡ path_at words (get_or places i zero)
  unfolding path_at
  word_at_place v w places a i l = ap (λ ws. path_at ws i) (sym (words_at_places v w places a)) ∙ get_or-map (path_at words) places i zero (trivial_path zero) l

  pub places_count : (v w : ℕ) (places : List ℕ) → ArePlacesBetween words v w places → length (words_between words v w) ≡ length places
  places_count v w places a = ap length (sym (words_at_places v w places a)) ∙ length-map places (path_at words)
