-- The matrices of products u·w·v are composed as the paths are; so they are the matrices of paths on the representations of words, on both sides.
use Rattle.std.proofs.Common.{ℕ, ◌≡◌, ◌<◌, inl, inr, List, [], ◌∷◌, ◌++◌, refl, sym, ap, ap₂, ◌∙◌, subst, mod-eq_of_lt}
use Rattle.std.proofs.lemmas.Bool.{cases_eq}
use Rattle.std.proofs.lemmas.List.{append_assoc, append-nil}
use Rattle.linear_algebra.specs.Field.{mul}
use Rattle.linear_algebra.specs.Sums.{sum-same}
use Rattle.linear_algebra.specs.Matrix.{Mat, Mat-eq_below, one, ◌·◌, delta, delta-same, delta-other}
use Rattle.linear_algebra.proofs.MatrixLaws.{one-at}
use Rattle.linear_algebra.proofs.PartsLaws.{made-at}
use Rattle.quiver_paths.specs.declared.Path.{Path}
use Rattle.quiver_paths.specs.declared.Quiver.{Quiver}
use Rattle.quiver_paths.specs.Quiver.{HasEnds, vertex_count, source, target}
use Rattle.quiver_paths.specs.Path.{IsPath, Leads, concat, trivial_path, arrow_path}
use Rattle.quiver_paths.specs.PathOrder.{IsSmaller, IsAscending}
use Rattle.quiver_paths.proofs.ListLemmas.{Contains-from_filter, AllPairs-sieve}
use Rattle.quiver_paths.proofs.PathLemmas.{IsPath-concat, IsPath-end, Leads-between}
use Rattle.path_algebra.specs.declared.Header.{Header}
use Rattle.path_algebra.specs.Allowed.{IsAllowed}
use Rattle.path_algebra.specs.Elements.{sum_over, path_element}
use Rattle.path_algebra.specs.Words.{AreNormalWords}
use Rattle.path_algebra.proofs.Between.{composite, Path-eq}
use Rattle.path_algebra.proofs.ElementLemmas.{path_element-self, path_element-other}
use Rattle.path_algebra.proofs.NormalForms.{normal_form, normal_form_is, normal_form-word}
use Rattle.path_algebra.proofs.ListedPaths.{word_listed, word_once, sum_to-over}
use Rattle.representations.specs.Quiver.{Path as TypedPath, trivial, then, reverse}
use Rattle.representations.specs.Rep.{along}
use Rattle.representations.proofs.Paths.{along-trivial, along-then, along_after}
use Rattle.projectives.specs.Words.{projective}
use Rattle.bound_algebra.specs.TypedPaths.{quiver_of, arrows_of, Runs, listed}
use Rattle.bound_algebra.specs.WordLists.{is_between, words_between}
use Rattle.bound_algebra.specs.NormalWords.{word_count, normal_word, word_runs}
use Rattle.bound_algebra.specs.AlgebraWords.{product_matrix, algebra_words, opposite_words}
use Rattle.bound_algebra.proofs.Forms.{product_of_forms}

-- where arrows lead to a vertex they start at one
pub Leads_start : (Q : Quiver) → HasEnds Q → (v : ℕ) (xs : List ℕ) (w : ℕ) → Leads Q v xs w → w < vertex_count Q → v < vertex_count Q
Leads_start Q e v [] w l b = subst (λ z. z < vertex_count Q) (sym l) b
Leads_start Q e v (a ∷ xs) w l b = subst (λ z. z < vertex_count Q) l.1 (e.sources a l.0)

pub path_from_runs : (Q : Quiver) (v w : ℕ) (p : Path) → v < vertex_count Q → Runs Q v w p → IsPath Q p
path_from_runs Q v w p b r = record {
  starts = subst (λ z. z < vertex_count Q) (sym r.starts) b;
  leads = subst (λ z. Leads Q z p.arrows p.end) (sym r.starts) (subst (Leads Q v p.arrows) (sym r.ends) r.leads);
}

module _ (h : Header) (ok : IsAllowed h) (words : List Path) (w : AreNormalWords h words) where
  abbrev F : (b c b' c' : ℕ) → Path → Path → Mat h.field (word_count h ok words w b c) (word_count h ok words w b' c')
  F = product_matrix h ok words w

  abbrev nf : Path → Path → ℕ
  nf = normal_form h ok words w

  pub word_path : (b c i : ℕ) → i < word_count h ok words w b c → IsPath h.quiver (normal_word h ok words w b c i)
  word_path b c i l = (w.only (normal_word h ok words w b c i) (Contains-from_filter (is_between b c) words _ (word_listed (words_between words b c) i l)).0).short.path

  pub word_from_to : (b c i : ℕ) → i < word_count h ok words w b c → Runs h.quiver b c (normal_word h ok words w b c i)
  word_from_to b c i l = word_runs h ok words w b c (normal_word h ok words w b c i) (word_listed (words_between words b c) i l)

  pub vertex_start : (b c i : ℕ) → i < word_count h ok words w b c → b < vertex_count h.quiver
  vertex_start b c i l = subst (λ z. z < vertex_count h.quiver) (word_from_to b c i l).starts (word_path b c i l).starts

  pub vertex_end : (b c i : ℕ) → i < word_count h ok words w b c → c < vertex_count h.quiver
  vertex_end b c i l = subst (λ z. z < vertex_count h.quiver) (word_from_to b c i l).ends (IsPath-end h.quiver (normal_word h ok words w b c i) ok.quiver.ends (word_path b c i l))

  pub product_matrix-at : (b c b' c' : ℕ) (u v : Path) (i j : ℕ) → i < word_count h ok words w b c → j < word_count h ok words w b' c'
      → (product_matrix h ok words w b c b' c' u v).at i j ≡ normal_form h ok words w (composite u (normal_word h ok words w b c i) v) (normal_word h ok words w b' c' j)
  unfolding product_matrix
  product_matrix-at b c b' c' u v i j k l = made-at h.field _ _ _ i j k l ∙ mod-eq_of_lt ((normal_form_is h ok words w (composite u (normal_word h ok words w b c i) v)).small (normal_word h ok words w b' c' j))

  outer : (u v x u' v' : Path) → composite u' (composite u x v) v' ≡ composite (concat u' u) x (concat v v')
  outer u v x u' v' = Path-eq _ _ refl refl
      (ap (λ z. u'.arrows ++ z) (append_assoc u.arrows (x.arrows ++ v.arrows) v'.arrows ∙ ap (λ z. u.arrows ++ z) (append_assoc x.arrows v.arrows v'.arrows))
      ∙ sym (append_assoc u'.arrows u.arrows (x.arrows ++ (v.arrows ++ v'.arrows))))

  -- first between u and v, then between u' and v'
  pub compose : (b c b' c' b'' c'' : ℕ) (u v u' v' : Path) → Runs h.quiver b' b u → Runs h.quiver c c' v → Runs h.quiver b'' b' u' → Runs h.quiver c' c'' v'
      → product_matrix h ok words w b c b' c' u v · product_matrix h ok words w b' c' b'' c'' u' v' ≡ product_matrix h ok words w b c b'' c'' (concat u' u) (concat v v')
  unfolding ◌·◌
  compose b c b' c' b'' c'' u v u' v' ru rv ru' rv' = Mat-eq_below _ _ (λ i k l m.
      let x = normal_word h ok words w b c i in
      let y = normal_word h ok words w b'' c'' k in
      let hx = word_path b c i l in
      let rx = word_from_to b c i l in
      let bb : b < vertex_count h.quiver = subst (λ z. z < vertex_count h.quiver) rx.starts hx.starts in
      let cc : c < vertex_count h.quiver = subst (λ z. z < vertex_count h.quiver) rx.ends (IsPath-end h.quiver x ok.quiver.ends hx) in
      let hu = path_from_runs h.quiver b' b u (Leads_start h.quiver ok.quiver.ends b' u.arrows b ru.leads bb) ru in
      let hv = path_from_runs h.quiver c c' v cc rv in
      let bb' : b' < vertex_count h.quiver = subst (λ z. z < vertex_count h.quiver) ru.starts hu.starts in
      let cc' : c' < vertex_count h.quiver = subst (λ z. z < vertex_count h.quiver) rv.ends (IsPath-end h.quiver v ok.quiver.ends hv) in
      let hu' = path_from_runs h.quiver b'' b' u' (Leads_start h.quiver ok.quiver.ends b'' u'.arrows b' ru'.leads bb') ru' in
      let hv' = path_from_runs h.quiver c' c'' v' cc' rv' in
      let hm : IsPath h.quiver (composite u x v) = IsPath-concat h.quiver u (concat x v) hu (IsPath-concat h.quiver x v hx hv (rx.ends ∙ sym rv.starts)) (ru.ends ∙ sym rx.starts) in
      sum-same h.field (word_count h ok words w b' c') _ (λ j. mul h.field (nf (composite u x v) (normal_word h ok words w b' c' j)) (nf (composite u' (normal_word h ok words w b' c' j) v') y))
      (λ j n. ap₂ (mul h.field) (product_matrix-at b c b' c' u v i j l n) (product_matrix-at b' c' b'' c'' u' v' j k n m))
      ∙ sum_to-over h.field (words_between words b' c') (λ p. mul h.field (nf (composite u x v) p) (nf (composite u' p v') y))
      ∙ ap₂ (λ z z'. sum_over h.field (words_between words z z') (λ p. mul h.field (nf (composite u x v) p) (nf (composite u' p v') y))) (sym ru'.ends) (sym rv'.starts)
      ∙ sym (product_of_forms h ok words w u' v' hu' hv' y (composite u x v) hm (ru.starts ∙ sym ru'.ends) (rv.ends ∙ sym rv'.starts))
      ∙ ap (λ p. nf p y) (outer u v x u' v')
      ∙ sym (product_matrix-at b c b'' c'' (concat u' u) (concat v v') i k l m))

  runs_trivial : (v : ℕ) → Runs h.quiver v v (trivial_path v)
  runs_trivial v = record { starts = refl; ends = refl; leads = refl }

  -- between trivial paths each word stays
  unit_entry : (b c i : ℕ) → i < word_count h ok words w b c → composite (trivial_path b) (normal_word h ok words w b c i) (trivial_path c) ≡ normal_word h ok words w b c i
  unit_entry b c i l = let r = word_from_to b c i l in Path-eq _ _ (sym r.starts) (sym r.ends) (append-nil (normal_word h ok words w b c i).arrows)

  pub ascending_between : (b c : ℕ) → IsAscending (words_between words b c)
  ascending_between b c = AllPairs-sieve IsSmaller (is_between b c) words w.ascending

  -- the normal form of a word is that word
  pub form_at : (b c i j : ℕ) → i < word_count h ok words w b c → j < word_count h ok words w b c
      → normal_form h ok words w (normal_word h ok words w b c i) (normal_word h ok words w b c j) ≡ delta i j
  form_at b c i j k l =
      let listed_word = (Contains-from_filter (is_between b c) words _ (word_listed (words_between words b c) i k)).0 in
      let short = (w.only (normal_word h ok words w b c i) listed_word).short.short in
      normal_form-word h ok words w (normal_word h ok words w b c i) listed_word (normal_word h ok words w b c j)
      ∙ elim (cases_eq i j) [
        | inl e ↦ ap (λ n. path_element h.bound (normal_word h ok words w b c i) (normal_word h ok words w b c n)) (sym e) ∙ path_element-self h.bound (normal_word h ok words w b c i) short
            ∙ sym (delta-same i) ∙ ap (delta i) e
        | inr d ↦ path_element-other h.bound (normal_word h ok words w b c i) (normal_word h ok words w b c j)
            (λ e. d (word_once (words_between words b c) (ascending_between b c) i j k l e)) ∙ sym (delta-other i j d)
      ]

  one_is : (b c : ℕ) → one h.field (word_count h ok words w b c) ≡ product_matrix h ok words w b c b c (trivial_path b) (trivial_path c)
  one_is b c = Mat-eq_below _ _ (λ i j k l. one-at h.field _ i j k ∙ sym (
      product_matrix-at b c b c (trivial_path b) (trivial_path c) i j k l ∙ ap (λ p. nf p (normal_word h ok words w b c j)) (unit_entry b c i k)
      ∙ form_at b c i j k l))

  -- the representation of all words from v: the matrix of a path p has the products w·p
  pub along_right : (v : ℕ) {b c : ℕ} (p : TypedPath (quiver_of h.quiver) b c) → Leads h.quiver b (arrows_of p) c
      → along (projective (algebra_words h ok words w) v) p ≡ product_matrix h ok words w v b v c (trivial_path v) (listed p)
  along_right v {b} trivial l = along-trivial (projective (algebra_words h ok words w) v) b ∙ one_is v b
  along_right v (then a p) l =
      let cut = Leads-between h.quiver _ (arrows_of p) (a ∷ []) (target h.quiver a) l in
      let lp = subst (Leads h.quiver _ (arrows_of p)) (sym cut.2.1) cut.1 in
      along-then (projective (algebra_words h ok words w) v) a p
      ∙ ap (λ m. m · F v (source h.quiver a) v (target h.quiver a) (trivial_path v) (arrow_path h.quiver a)) (along_right v p lp)
      ∙ compose v _ v (source h.quiver a) v (target h.quiver a) (trivial_path v) (listed p) (trivial_path v) (arrow_path h.quiver a)
      (runs_trivial v) (record { starts = refl; ends = refl; leads = lp }) (runs_trivial v) (record { starts = refl; ends = refl; leads = (cut.2.0, refl, refl) })

  -- the representation of all words to v, of the opposite quiver: that of a path p has the products p·w
  pub along_left : (v : ℕ) {b c : ℕ} (p : TypedPath (quiver_of h.quiver) b c) → Leads h.quiver b (arrows_of p) c
      → along (projective (opposite_words h ok words w) v) (reverse p)
      ≡ product_matrix h ok words w c v b v (listed p) (trivial_path v)
  along_left v {b} trivial l = along-trivial (projective (opposite_words h ok words w) v) b ∙ one_is b v
  along_left v (then a p) l =
      let cut = Leads-between h.quiver _ (arrows_of p) (a ∷ []) (target h.quiver a) l in
      let lp = subst (Leads h.quiver _ (arrows_of p)) (sym cut.2.1) cut.1 in
      along_after (projective (opposite_words h ok words w) v) a (reverse p)
      ∙ ap (λ m. F (target h.quiver a) v (source h.quiver a) v (arrow_path h.quiver a) (trivial_path v) · m) (along_left v p lp)
      ∙ compose (target h.quiver a) v (source h.quiver a) v _ v (arrow_path h.quiver a) (trivial_path v) (listed p) (trivial_path v)
      (record { starts = refl; ends = refl; leads = (cut.2.0, refl, refl) }) (runs_trivial v) (record { starts = refl; ends = refl; leads = lp }) (runs_trivial v)
