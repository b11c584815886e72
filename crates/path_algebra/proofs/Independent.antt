-- The words are independent modulo the ideal, since the ideal acts as zero.
use Rattle.std.proofs.Common.{ℕ, ◌≡◌, ◌<◌, ◌≤◌, inl, inr, List, [], ◌∷◌, ◌++◌, refl, sym, ap, ◌∙◌, subst, arith}
use Rattle.std.specs.Prelude.{Contains, All}
use mathlib.Core.Path.{fun_ext}
use Rattle.std.proofs.lemmas.Bool.{cases_eq, cond-true, cond-false, eq-eqb, ne_eqb}
use Rattle.std.proofs.lemmas.List.{append_assoc, append-nil}
use Rattle.std.proofs.lemmas.List.Elements.{All-nil, All-cons, All-head, All-tail}
use Rattle.linear_algebra.specs.Field.{mul}
use Rattle.linear_algebra.specs.FieldLaws.{mul_zero}
use Rattle.quiver_paths.specs.declared.Quiver.{Quiver}
use Rattle.quiver_paths.specs.declared.Path.{Path}
use Rattle.quiver_paths.specs.Quiver.{arrow_count, source, target}
use Rattle.quiver_paths.specs.Path.{IsPath, Leads, path_length, Meets, concat, trivial_path, arrow_path}
use Rattle.quiver_paths.proofs.PathLemmas.{IsPath-concat, IsPath-arrow, IsPath-trivial, IsPath-same, Leads-between, Leads-one, same_path, concat-trivial_left, IsFactor-trans, length-factor, path_length-concat}
use Rattle.path_algebra.specs.declared.Header.{Header}
use Rattle.path_algebra.specs.declared.rules.Rule.{Rule}
use Rattle.path_algebra.specs.Elements.{sum_over, path_element}
use Rattle.path_algebra.specs.Words.{IsShortPath}
use Rattle.path_algebra.specs.Reduction.{IsReduction, act_arrow, act_arrows}
use Rattle.path_algebra.specs.BasisClauses.{ReducedHolds, WordsHold}
use Rattle.path_algebra.proofs.ElementLemmas.{path_element-other, path_element-below}
use Rattle.path_algebra.proofs.Combinations.{IsCombination}
use Rattle.path_algebra.proofs.SumsOver.{sum_over_below, sum_over-zeros, IsLinear, linear-same, linear-sum}
use Rattle.path_algebra.proofs.Acting.{act_arrow-word, combination_sum}
use Rattle.path_algebra.proofs.Reducing.{AreRules, becomes_below, becomes-outside}

-- the arrows of a path are arrows
pub leads_arrows : (Q : Quiver) (u : ℕ) (xs : List ℕ) (w : ℕ) → Leads Q u xs w → All (λ a. a < arrow_count Q) xs
leads_arrows Q u [] w l = All-nil (λ a. a < arrow_count Q)
leads_arrows Q u (a ∷ xs) w l = All-cons (λ b. b < arrow_count Q) a xs l.0 (leads_arrows Q (target Q a) xs w l.2)

-- words that arrows act on by reduction
pub record AreActedOn (h : Header) (words : List Path) (rules : List Rule) (becomes : Path → Path → ℕ) : Type 0 where
  pub are : AreRules h rules
  pub tips_long : (rule : Rule) → Contains rules rule → 2 ≤ path_length rule.tip
  pub reduced : ReducedHolds h rules
  pub listed : WordsHold h words rules
  pub reduction : IsReduction h rules becomes

module _ (h : Header) (words : List Path) (rules : List Rule) (becomes : Path → Path → ℕ) (k : AreActedOn h words rules becomes) where
  -- a path without a tip, and its fronts
  pub word_short : (w : Path) → Contains words w → IsShortPath h w
  word_short w m = (k.listed.only w m).0

  pub front_word : (u v : Path) → IsPath h.quiver u → IsPath h.quiver v → Meets u v → Contains words (concat u v) → Contains words u
  front_word u v hu hv e m =
      let is = k.listed.only (concat u v) m in
      k.listed.all u (record { path = hu; short = omega (arith, is.0.short, path_length-concat u v) }) (λ rule c f. is.1 rule c
      (IsFactor-trans h.quiver rule.tip u (concat u v) f (record {
        before = trivial_path u.start;
        behind = v;
        before_is = IsPath-trivial h.quiver u.start hu.starts;
        behind_is = hv;
        meets_before = refl;
        meets_behind = e;
        whole = sym (concat-trivial_left (concat u v));
      })))

  pub trivial_word : (v : ℕ) → IsPath h.quiver (trivial_path v) → Contains words (trivial_path v)
  trivial_word v hv = k.listed.all (trivial_path v) (record { path = hv; short = omega (arith, k.are.allowed.bound_from) })
      (λ rule c f. omega (arith, k.tips_long rule c, length-factor h.quiver rule.tip (trivial_path v) f))

  pub word_is_of_words : (w : Path) → Contains words w → IsCombination h words (path_element h.bound w)
  word_is_of_words w m = record {
    small = path_element-below h.field h.bound w;
    outside = λ r n. path_element-other h.bound w r (λ e. n (subst (Contains words) e m));
  }

  -- an arrow on a word that it meets, and on a path that it does not meet
  word_then_arrow : (a : ℕ) → a < arrow_count h.quiver → (w : Path) → Contains words w → w.end ≡ source h.quiver a → IsPath h.quiver (concat w (arrow_path h.quiver a))
  word_then_arrow a l w m e = IsPath-concat h.quiver w (arrow_path h.quiver a) (word_short w m).path (IsPath-arrow h.quiver a k.are.allowed.quiver.ends l) e

  pub acts_on_word : (a : ℕ) → a < arrow_count h.quiver → (w : Path) → Contains words w → w.end ≡ source h.quiver a
      → act_arrow h becomes words a (path_element h.bound w) ≡ becomes (concat w (arrow_path h.quiver a))
  acts_on_word a l w m e = fun_ext (λ r. act_arrow-word h becomes words a w r k.listed.ascending m (word_short w m).short e
      (becomes_below h rules k.are becomes k.reduction (concat w (arrow_path h.quiver a)) (word_then_arrow a l w m e) r))

  -- the arrows of a word lead from a front of it to the word
  pub along_word : (xs : List ℕ) (u w : Path) → IsPath h.quiver u → Contains words w → w.start ≡ u.start → w.arrows ≡ u.arrows ++ xs
      → act_arrows h becomes words xs (path_element h.bound u) ≡ path_element h.bound w
  unfolding act_arrows
  along_word [] u w hu m s e = ap (path_element h.bound) (sym (IsPath-same h.quiver w u (word_short w m).path hu s (e ∙ append-nil u.arrows)))
  along_word (a ∷ xs) u w hu m s e =
      let leads : Leads h.quiver u.start (u.arrows ++ a ∷ xs) w.end =
      subst (λ v. Leads h.quiver v (u.arrows ++ a ∷ xs) w.end) s (subst (λ ys. Leads h.quiver w.start ys w.end) e (word_short w m).path.leads) in
      let between = Leads-between h.quiver u.start u.arrows (a ∷ xs) w.end leads in
      let l : a < arrow_count h.quiver = between.2.0 in
      let meets : u.end ≡ source h.quiver a = Leads-one h.quiver u.start u.arrows u.end between.0 hu.leads between.1 ∙ sym between.2.1 in
      let next : Path = concat u (arrow_path h.quiver a) in
      let rest : Path = record { start = target h.quiver a; end = w.end; arrows = xs } in
      let next_is : IsPath h.quiver next = IsPath-concat h.quiver u (arrow_path h.quiver a) hu (IsPath-arrow h.quiver a k.are.allowed.quiver.ends l) meets in
      let rest_is : IsPath h.quiver rest = record { starts = k.are.allowed.quiver.ends.targets a l; leads = between.2.2 } in
      let arrows : w.arrows ≡ next.arrows ++ xs = e ∙ sym (append_assoc u.arrows (a ∷ []) xs) in
      let front : Contains words next = front_word next rest next_is rest_is refl (subst (Contains words) (same_path w (concat next rest) s refl arrows) m) in
      let u_word : Contains words u = front_word u (arrow_path h.quiver a) hu (IsPath-arrow h.quiver a k.are.allowed.quiver.ends l) meets front in
      let step : act_arrow h becomes words a (path_element h.bound u) ≡ path_element h.bound next =
      acts_on_word a l u u_word meets ∙ fun_ext (λ r. k.reduction.stays next (word_short next front) (k.listed.only next front).1 r) in
      ap (act_arrows h becomes words xs) step ∙ along_word xs next w next_is m s arrows

  -- what is linear and takes the words to zero takes their combinations to zero
  pub vanishes : (L : (Path → ℕ) → Path → ℕ) → IsLinear h.field L → ((w : Path) → Contains words w → (r : Path) → L (path_element h.bound w) r ≡ 0)
      → (x : Path → ℕ) → IsCombination h words x → (r : Path) → L x r ≡ 0
  vanishes L l z x s r =
      linear-same L x (λ p. sum_over h.field words (λ w. mul h.field (x w) (path_element h.bound w p))) (combination_sum h words (record { ascending = k.listed.ascending; short = λ w m. (word_short w m).short }) x s) r
      ∙ linear-sum h.field L l words x (path_element h.bound) r
      ∙ sum_over-zeros h.field words _ (λ w m. ap (mul h.field (x w)) (z w m r) ∙ mul_zero h.field (x w))

  -- arrows take combinations of words to combinations of words
  arrow_of_words : (a : ℕ) → a < arrow_count h.quiver → (x : Path → ℕ) → IsCombination h words (act_arrow h becomes words a x)
  unfolding act_arrow
  arrow_of_words a l x = record {
    small = λ r. sum_over_below h.field words _;
    outside = λ r n. sum_over-zeros h.field words _ (λ w m. elim (cases_eq w.end (source h.quiver a)) [
      | inl e ↦ cond-true _ _ 0 (eq-eqb _ _ e)
          ∙ ap (mul h.field (x w)) (becomes-outside h rules k.are becomes k.reduction words k.listed (concat w (arrow_path h.quiver a)) (word_then_arrow a l w m e) r n)
          ∙ mul_zero h.field (x w)
      | inr d ↦ cond-false _ _ 0 (ne_eqb _ _ d)
    ]);
  }

  pub arrows_of_words : (xs : List ℕ) → All (λ a. a < arrow_count h.quiver) xs → (x : Path → ℕ) → IsCombination h words x → IsCombination h words (act_arrows h becomes words xs x)
  unfolding act_arrows
  arrows_of_words [] l x s = s
  arrows_of_words (a ∷ xs) l x s = arrows_of_words xs (All-tail (λ b. b < arrow_count h.quiver) a xs l) (act_arrow h becomes words a x)
      (arrow_of_words a (All-head (λ b. b < arrow_count h.quiver) a xs l) x)
