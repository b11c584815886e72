-- Arrows behind a path may be put there before it is reduced or act after it is reduced, so long as the whole is shorter than the bound: the
-- occurrence that is rewritten is the same.
use Rattle.std.proofs.Common.{ℕ, ◌≡◌, ◌<◌, ◌≤◌, ◌+◌, ◌-◌, inl, inr, List, ◌&&◌, eqb, if◌then◌else◌, refl, sym, ap, ap₂, ◌∙◌, arith}
use Rattle.std.specs.Prelude.{Contains}
use mathlib.Core.Path.{fun_ext}
use Rattle.std.proofs.lemmas.Bool.{cases_lt, cases_Bool, cond-true, cond-false, and_parts, eqb-true}
use Rattle.std.proofs.lemmas.List.Elements.{All-contains}
use Rattle.linear_algebra.specs.Field.{mul}
use Rattle.linear_algebra.specs.FieldLaws.{zero_mul}
use Rattle.quiver_paths.specs.declared.Path.{Path}
use Rattle.quiver_paths.specs.Quiver.{arrow_count, source}
use Rattle.quiver_paths.specs.Path.{IsPath, path_length, Meets, concat, arrow_path, IsFactor}
use Rattle.quiver_paths.specs.PathOrder.{IsSmaller}
use Rattle.quiver_paths.proofs.PathLemmas.{IsPath-concat, IsPath-arrow, path_length-concat, concat_assoc, cut, cut_once, rest_length}
use Rattle.quiver_paths.proofs.PathOrderLemmas.{length_of_smaller}
use Rattle.path_algebra.specs.declared.Term.{Term}
use Rattle.path_algebra.specs.declared.Header.{Header}
use Rattle.path_algebra.specs.declared.rules.Rule.{Rule}
use Rattle.path_algebra.specs.Elements.{path_element}
use Rattle.path_algebra.specs.Words.{IsShortPath}
use Rattle.path_algebra.specs.Reduction.{FirstOccurrence, sum_between, act_arrow}
use Rattle.path_algebra.proofs.SumsOver.{sum_over-same, IsLinear, linear-same, linear-sum}
use Rattle.path_algebra.proofs.Acting.{act_arrow-linear}
use Rattle.path_algebra.proofs.Reducing.{by_reduction, rewritten_smaller}
use Rattle.path_algebra.proofs.Independent.{AreActedOn, acts_on_word}

-- a linear function goes into a sum between two paths
pub linear-between : (h : Header) (L : (Path → ℕ) → Path → ℕ) → IsLinear h.field L → (f : Path → Path → ℕ) (u : Path) (terms : List Term) (v r : Path)
    → L (sum_between h f u terms v) r ≡ sum_between h (λ p. L (f p)) u terms v r
unfolding sum_between
linear-between h L l f u terms v r =
    linear-same L _ _ (λ p. sum_over-same h.field terms _ _ (λ a m. factored a (f (concat u (concat a.path v)) p))) r
    ∙ linear-sum h.field L l terms chosen (λ a. f (concat u (concat a.path v))) r
    ∙ sum_over-same h.field terms _ _ (λ a m. sym (factored a (L (f (concat u (concat a.path v))) r)))
  where
    chosen : Term → ℕ
    chosen a = if eqb u.end a.path.start && eqb a.path.end v.start then a.coef else 0

    factored : (a : Term) (n : ℕ) → (if eqb u.end a.path.start && eqb a.path.end v.start then mul h.field a.coef n else 0) ≡ mul h.field (chosen a) n
    factored a n = elim (cases_Bool (eqb u.end a.path.start && eqb a.path.end v.start)) [
      | inl e ↦ cond-true _ _ 0 e ∙ ap (λ c. mul h.field c n) (sym (cond-true _ a.coef 0 e))
      | inr e ↦ cond-false _ _ 0 e ∙ sym (ap (λ c. mul h.field c n) (cond-false _ a.coef 0 e) ∙ zero_mul h.field n)
    ]

-- sums between two pairs of paths that meet the same terms
pub between-same : (h : Header) (u u' : Path) (terms : List Term) (v v' : Path) (f g : Path → Path → ℕ) → u.end ≡ u'.end → v.start ≡ v'.start → (r : Path)
    → ((a : Term) → Contains terms a → Meets u' a.path → Meets a.path v' → f (concat u (concat a.path v)) r ≡ g (concat u' (concat a.path v')) r)
    → sum_between h f u terms v r ≡ sum_between h g u' terms v' r
unfolding sum_between
between-same h u u' terms v v' f g e e' r m = sum_over-same h.field terms _ _ (λ a n.
    ap₂ (λ x y. if eqb x a.path.start && eqb a.path.end y then mul h.field a.coef (f (concat u (concat a.path v)) r) else 0) e e'
    ∙ elim (cases_Bool (eqb u'.end a.path.start && eqb a.path.end v'.start)) [
      | inl t ↦
          let parts = and_parts (eqb u'.end a.path.start) (eqb a.path.end v'.start) t in
          cond-true _ _ 0 t ∙ ap (mul h.field a.coef) (m a n (eqb-true _ _ parts.0) (eqb-true _ _ parts.1)) ∙ sym (cond-true _ _ 0 t)
      | inr t ↦ cond-false _ _ 0 t ∙ sym (cond-false _ _ 0 t)
    ])

module _ (h : Header) (words : List Path) (rules : List Rule) (becomes : Path → Path → ℕ) (k : AreActedOn h words rules becomes) where
  -- the first occurrence in a path is the first with a path behind it
  occurrence_behind : (p : Path) → IsPath h.quiver p → (o : FirstOccurrence h rules p) → (v : Path) → IsPath h.quiver v → Meets p v → FirstOccurrence h rules (concat p v)
  occurrence_behind p hp o v hv m = record {
    rule = o.rule;
    before = o.before;
    behind = concat o.behind v;
    listed = o.listed;
    before_is = o.before_is;
    behind_is = IsPath-concat h.quiver o.behind v o.behind_is hv meets;
    meets_before = o.meets_before;
    meets_behind = o.meets_behind;
    whole = ap (λ x. concat x v) o.whole ∙ concat_assoc o.before (concat o.rule.tip o.behind) v ∙ ap (concat o.before) (concat_assoc o.rule.tip o.behind v);
    first = λ other c f. first_behind other c f;
  }
    where
      meets : Meets o.behind v
      meets = ap (λ (x : Path). x.end) (sym o.whole) ∙ m

      -- an occurrence that ends before v begins is one in p
      first_behind : (other : Rule) → Contains rules other → (f : IsFactor h.quiver other.tip (concat p v)) → path_length f.behind ≤ path_length (concat o.behind v)
      first_behind other c f = elim (cases_lt (path_length f.behind) (path_length v)) [
        | inl l ↦ omega (arith, l, path_length-concat o.behind v)
        | inr l ↦
            let Q = h.quiver in
            let e = k.are.allowed.quiver.ends in
            let s = cut Q f.behind (path_length f.behind - path_length v) e f.behind_is (omega arith) in
            let tip_is : IsPath Q other.tip = All-contains (λ (x : Rule). IsPath Q x.tip) rules other k.are.tips c in
            let meets_tip : Meets other.tip s.0 = f.meets_behind ∙ ap (λ (x : Path). x.start) (sym s.2.whole) in
            let inner_is : IsPath Q (concat other.tip s.0) = IsPath-concat Q other.tip s.0 tip_is s.2.front_is meets_tip in
            let long : path_length s.1 ≡ path_length v = omega (arith, l, rest_length Q f.behind (path_length f.behind - path_length v) s.0 s.1 s.2) in
            let whole : concat (concat f.before (concat other.tip s.0)) s.1 ≡ concat p v =
            concat_assoc f.before (concat other.tip s.0) s.1 ∙ ap (concat f.before) (concat_assoc other.tip s.0 s.1 ∙ ap (concat other.tip) s.2.whole) ∙ sym f.whole in
            let same : concat f.before (concat other.tip s.0) ≡ p = (cut_once Q (concat p v) (path_length p) (concat f.before (concat other.tip s.0)) s.1 p v
            (record {
              front_is = IsPath-concat Q f.before (concat other.tip s.0) f.before_is inner_is f.meets_before;
              rest_is = s.2.rest_is;
              meets = s.2.meets;
              whole = whole;
              front_length = omega (arith, long, ap path_length whole, path_length-concat (concat f.before (concat other.tip s.0)) s.1, path_length-concat p v);
            })
            (record { front_is = hp; rest_is = hv; meets = m; whole = refl; front_length = refl })).0 in
            let inside : path_length s.0 ≤ path_length o.behind = o.first other c (record {
              before = f.before;
              behind = s.0;
              before_is = f.before_is;
              behind_is = s.2.front_is;
              meets_before = f.meets_before;
              meets_behind = meets_tip;
              whole = sym same;
            }) in
            omega (arith, inside, long, rest_length Q f.behind (path_length f.behind - path_length v) s.0 s.1 s.2, path_length-concat o.behind v)
      ]

  arrow_is : (b : ℕ) → b < arrow_count h.quiver → IsPath h.quiver (arrow_path h.quiver b)
  arrow_is b l = IsPath-arrow h.quiver b k.are.allowed.quiver.ends l

  then_arrow_is : (b : ℕ) → b < arrow_count h.quiver → (p : Path) → IsPath h.quiver p → p.end ≡ source h.quiver b → IsPath h.quiver (concat p (arrow_path h.quiver b))
  then_arrow_is b l p hp e = IsPath-concat h.quiver p (arrow_path h.quiver b) hp (arrow_is b l) e

  -- an arrow behind a path
  behind_at : (b : ℕ) → b < arrow_count h.quiver → (p : Path) → IsPath h.quiver p → p.end ≡ source h.quiver b → path_length p + 1 < h.bound → (r : Path)
      → act_arrow h becomes words b (becomes p) r ≡ becomes (concat p (arrow_path h.quiver b)) r
  unfolding occurrence_behind
  behind_at b l = by_reduction h rules k.are
      (λ p. p.end ≡ source h.quiver b → path_length p + 1 < h.bound → (r : Path) → act_arrow h becomes words b (becomes p) r ≡ becomes (concat p (arrow_path h.quiver b)) r)
      (λ p hp m e s r. absurd (omega (arith, m, s)))
      (λ p s n e b2 r. linear-same (act_arrow h becomes words b) (becomes p) (path_element h.bound p) (k.reduction.stays p s n) r
      ∙ ap (λ x. x r) (acts_on_word h words rules becomes k b l p (k.listed.all p s n) e))
      (λ p s o before e b2 r. rewritten_behind p s o before e b2 r)
    where
      rewritten_behind : (p : Path) (s : IsShortPath h p) (o : FirstOccurrence h rules p)
          → ((a : Term) → Contains o.rule.tail.terms a → Meets o.before a.path → Meets a.path o.behind → IsSmaller (concat o.before (concat a.path o.behind)) p
          → (concat o.before (concat a.path o.behind)).end ≡ source h.quiver b → path_length (concat o.before (concat a.path o.behind)) + 1 < h.bound → (r : Path)
          → act_arrow h becomes words b (becomes (concat o.before (concat a.path o.behind))) r ≡ becomes (concat (concat o.before (concat a.path o.behind)) (arrow_path h.quiver b)) r)
          → p.end ≡ source h.quiver b → path_length p + 1 < h.bound → (r : Path) → act_arrow h becomes words b (becomes p) r ≡ becomes (concat p (arrow_path h.quiver b)) r
      rewritten_behind p s o before e b2 r =
          let v : Path = concat o.behind (arrow_path h.quiver b) in
          let meets : Meets o.behind (arrow_path h.quiver b) = ap (λ (x : Path). x.end) (sym o.whole) ∙ e in
          let short : path_length (concat p (arrow_path h.quiver b)) < h.bound = omega (arith, b2, path_length-concat p (arrow_path h.quiver b)) in
          linear-same (act_arrow h becomes words b) (becomes p) _ (k.reduction.rewritten p s o) r
          ∙ linear-between h (act_arrow h becomes words b) (act_arrow-linear h becomes words b) becomes o.before o.rule.tail.terms o.behind r
          ∙ between-same h o.before o.before o.rule.tail.terms o.behind v (λ q. act_arrow h becomes words b (becomes q)) becomes refl refl r
          (λ a m mu mv.
          let less = rewritten_smaller h rules k.are p o a m mu mv in
          before a m mu mv less meets (omega (arith, b2, length_of_smaller (concat o.before (concat a.path o.behind)) p less)) r
          ∙ ap (λ x. becomes x r) (concat_assoc o.before (concat a.path o.behind) (arrow_path h.quiver b) ∙ ap (concat o.before) (concat_assoc a.path o.behind (arrow_path h.quiver b))))
          ∙ sym (k.reduction.rewritten (concat p (arrow_path h.quiver b)) (record { path = then_arrow_is b l p s.path e; short = short })
          (occurrence_behind p s.path o (arrow_path h.quiver b) (arrow_is b l) e) r)

  pub arrow_behind : (b : ℕ) → b < arrow_count h.quiver → (p : Path) → IsPath h.quiver p → p.end ≡ source h.quiver b → path_length p + 1 < h.bound
      → act_arrow h becomes words b (becomes p) ≡ becomes (concat p (arrow_path h.quiver b))
  arrow_behind b l p hp e s = fun_ext (behind_at b l p hp e s)
