-- The first words are the trivial paths, by vertex.
use Rattle.std.proofs.Common.{ℕ, zero, suc, ◌≡◌, ◌<◌, ◌≤◌, ◌+◌, inl, inr, List, [], ◌∷◌, length, refl, sym, ap, ◌∙◌, subst, arith}
use Rattle.std.specs.Prelude.{Contains}
use Rattle.std.proofs.lemmas.Bool.{cases_order}
use Rattle.std.proofs.lemmas.List.{get_or_default}
use Rattle.std.proofs.lemmas.List.Elements.{Contains-get_or}
use Rattle.quiver_paths.specs.declared.Path.{Path}
use Rattle.quiver_paths.specs.Quiver.{vertex_count}
use Rattle.quiver_paths.specs.Path.{IsPath, path_length, trivial_path}
use Rattle.quiver_paths.specs.PathOrder.{IsSmaller, IsAscending, ComesBefore, DiffersBelow}
use Rattle.quiver_paths.specs.PathOrder.ComesBefore.{shorter, by_arrows, by_start}
use Rattle.quiver_paths.proofs.PathLemmas.{IsPath-trivial, trivial_from_length}
use Rattle.quiver_paths.proofs.PathOrderLemmas.{ComesBefore-from_smaller}
use Rattle.path_algebra.specs.declared.Header.{Header}
use Rattle.path_algebra.specs.Allowed.{IsAllowed}
use Rattle.path_algebra.specs.Words.{IsNormal, AreNormalWords}
use Rattle.path_algebra.specs.Rows.{path_at}
use Rattle.path_algebra.proofs.IdealActs.{IsInIdeal-long}
use Rattle.word_products.proofs.WordRows.{word_once, word_listed}

-- what is smaller than a trivial path is one at a vertex before
before_trivial : (x : Path) (v : ℕ) → ComesBefore x (trivial_path v) → (path_length x ≡ 0) × (x.start < v)
before_trivial x v (shorter l) = absurd (omega (arith, l))
before_trivial x v (by_arrows e d) = absurd (differs x.arrows d)
  where
    differs : (xs : List ℕ) → DiffersBelow xs [] → ⊥
    differs [] d = d
    differs (y ∷ xs) d = d
before_trivial x v (by_start e l) = (ap length e, l)

module _ (h : Header) (words : List Path) (ok : IsAllowed h) (normal : AreNormalWords h words) where
  -- a trivial path is no tip, so it is a word
  trivial_listed : (v : ℕ) → v < vertex_count h.quiver → Contains words (trivial_path v)
  trivial_listed v l = normal.all (trivial_path v) (record {
    short = record { path = IsPath-trivial h.quiver v l; short = (let b = ok.bound_from in omega arith) };
    no_tip = λ t. omega (arith, IsInIdeal-long h ok t.element t.in_ideal (trivial_path v) t.greatest.nonzero);
  })

  places_ascend : (j k : ℕ) → j < k → k < length words → IsSmaller (path_at words j) (path_at words k)
  unfolding path_at
  places_ascend j k l m = normal.ascending j k (trivial_path 0) l m

  trivial_place : (v : ℕ) → v < vertex_count h.quiver → (k : ℕ) × (k < length words) × (path_at words k ≡ trivial_path v)
  unfolding path_at
  trivial_place v l = let c = trivial_listed v l in (c.0, c.1, get_or_default words c.0 (trivial_path 0) (trivial_path v) c.1 ∙ c.2)

  -- the word at a place that is smaller than the trivial path at v is one at a vertex before
  earlier : (v k : ℕ) → k < length words → IsSmaller (path_at words k) (trivial_path v) → (path_at words k ≡ trivial_path (path_at words k).start) × ((path_at words k).start < v)
  earlier v k l s =
      let t = before_trivial (path_at words k) v (ComesBefore-from_smaller (path_at words k) (trivial_path v) s) in
      (trivial_from_length h.quiver (path_at words k) (normal.only (path_at words k) (word_listed words k l)).short.path t.0, t.1)

  -- the first n words are the trivial paths
  first_words : (n : ℕ) (v : ℕ) → v < n → v < vertex_count h.quiver → (v < length words) × (path_at words v ≡ trivial_path v)
  first_words zero v b l = absurd (omega arith)
  first_words (suc n) v b l =
      let t = trivial_place v l in
      elim (cases_order t.0 v) [
        | inl same ↦ subst (λ k. (k < length words) × (path_at words k ≡ trivial_path v)) same (t.1, t.2)
        | inr (inl before) ↦
            let f = first_words n t.0 (omega arith) (omega arith) in
            absurd (let e : t.0 ≡ v = ap (λ (p : Path). p.start) (sym f.1 ∙ t.2) in omega arith)
        | inr (inr past) ↦
            let inside : v < length words = (let k = t.1 in omega arith) in
            let found = earlier v v inside (subst (IsSmaller (path_at words v)) t.2 (places_ascend v t.0 past t.1)) in
            let f = first_words n (path_at words v).start (let s = found.1 in omega arith) (let s = found.1 in omega arith) in
            absurd (let e : (path_at words v).start ≡ v = word_once words normal.ascending (path_at words v).start v f.0 inside (f.1 ∙ sym found.0) in let s = found.1 in omega arith)
      ]

  -- the trivial path at a vertex is the word whose place is the vertex
  pub first_word : (v : ℕ) → v < vertex_count h.quiver → (v < length words) × (path_at words v ≡ trivial_path v)
  first_word v l = first_words (v + 1) v (omega arith) l
