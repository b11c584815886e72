-- The normal words from a vertex to a vertex, by their places, and as paths of the quiver of representations.
use Rattle.std.specs.Prelude.{ℕ, zero, ◌≡◌, ◌<◌, ◌≤◌, List, [], ◌∷◌, length, Contains}
use Rattle.std.proofs.Common.{refl, subst, arith}
use Rattle.std.proofs.lemmas.Bool.{and_parts, eqb-true}
use Rattle.quiver_paths.specs.declared.Path.{Path}
use Rattle.quiver_paths.specs.Quiver.{vertex_count}
use Rattle.quiver_paths.specs.Path.{Leads}
use Rattle.quiver_paths.proofs.ListLemmas.{Contains-head, Contains-from_filter}
use Rattle.quiver_paths.proofs.PathLemmas.{IsPath-end}
use Rattle.path_algebra.specs.declared.Header.{Header}
use Rattle.path_algebra.specs.Allowed.{IsAllowed}
use Rattle.path_algebra.specs.Words.{AreNormalWords}
use Rattle.path_algebra.specs.Rows.{path_at}
use Rattle.path_algebra.proofs.ListedPaths.{word_listed}
use Rattle.representations.specs.Quiver.{Path as TypedPath}
use Rattle.bound_algebra.specs.TypedPaths.{quiver_of, path_of, Runs}
use Rattle.bound_algebra.specs.WordLists.{is_between, words_between}

module _ (h : Header) (ok : IsAllowed h) (words : List Path) (w : AreNormalWords h words) where
  -- how many normal words lead from b to c: the dimension of the algebra between the two vertices
  abbrev pub word_count : ℕ → ℕ → ℕ
  word_count b c = length (words_between words b c)

  -- the i-th of them
  abbrev pub normal_word : ℕ → ℕ → ℕ → Path
  normal_word b c i = path_at (words_between words b c) i

  pub word_runs : (b c : ℕ) (p : Path) → Contains (words_between words b c) p → Runs h.quiver b c p
  word_runs b c p m =
      let f = Contains-from_filter (is_between b c) words p m in
      let i = and_parts _ _ f.1 in
      let s : p.start ≡ b = eqb-true _ _ i.0 in
      let e : p.end ≡ c = eqb-true _ _ i.1 in
      record { starts = s; ends = e; leads = subst (λ z. Leads h.quiver z p.arrows c) s (subst (Leads h.quiver p.start p.arrows) e (w.only p f.0).short.path.leads) }

  abbrev pub typed_word : (b c i : ℕ) → i < word_count b c → TypedPath (quiver_of h.quiver) b c
  typed_word b c i l = path_of h.quiver b (normal_word b c i).arrows c (word_runs b c (normal_word b c i) (word_listed (words_between words b c) i l)).leads

  -- no word ends past the vertices, and none starts there
  no_words : (b c : ℕ) → ((p : Path) → Contains (words_between words b c) p → ⊥) → word_count b c ≡ zero
  no_words b c none = by (words_between words b c) none
    where
      by : (ps : List Path) → ((p : Path) → Contains ps p → ⊥) → length ps ≡ zero
      by [] n = refl
      by (p ∷ ps) n = absurd (n p (Contains-head p ps))

  pub none_end : (b c : ℕ) → vertex_count h.quiver ≤ c → word_count b c ≡ zero
  none_end b c l = no_words b c (λ p m.
      let r = word_runs b c p m in
      let e = IsPath-end h.quiver p ok.quiver.ends (w.only p (Contains-from_filter (is_between b c) words p m).0).short.path in
      omega (arith, l, e, r.ends))

  pub none_start : (b c : ℕ) → vertex_count h.quiver ≤ b → word_count b c ≡ zero
  none_start b c l = no_words b c (λ p m.
      let r = word_runs b c p m in
      let s = (w.only p (Contains-from_filter (is_between b c) words p m).0).short.path.starts in
      omega (arith, l, s, r.starts))
