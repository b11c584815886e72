-- In each path a tip occurs, and one that ends first, or none does.
use Rattle.std.proofs.Common.{ℕ, zero, suc, ◌≡◌, ◌<◌, ◌≤◌, ◌+◌, ◌-◌, ◌⊎◌, inl, inr, List, [], ◌∷◌, refl, sym, ap, ◌∙◌, subst, arith}
use Rattle.std.specs.Prelude.{Contains, All}
use Rattle.std.proofs.lemmas.Bool.{cases_lt}
use Rattle.std.proofs.lemmas.List.Elements.{All-head, All-tail}
use Rattle.quiver_paths.specs.declared.Quiver.{Quiver}
use Rattle.quiver_paths.specs.declared.Path.{Path}
use Rattle.quiver_paths.specs.Quiver.{HasEnds}
use Rattle.quiver_paths.specs.Path.{IsPath, path_length, Meets, concat, IsFactor}
use Rattle.quiver_paths.specs.PathParts.{IsCut}
use Rattle.quiver_paths.proofs.PathLemmas.{cut, cut_once, rest_length, concat_assoc, path_length-concat, length-factor, IsPath-concat, IsPath-factor}
use Rattle.quiver_paths.proofs.PathOrderLemmas.{cases_path}
use Rattle.quiver_paths.proofs.ListLemmas.{Contains-head, Contains-behind, Contains-cons_cases, Contains-nil}
use Rattle.path_algebra.specs.declared.Header.{Header}
use Rattle.path_algebra.specs.declared.rules.Rule.{Rule}
use Rattle.path_algebra.specs.Reduction.{HasNoTip, FirstOccurrence}

-- the path ends with the tip
pub record EndsWith (Q : Quiver) (tip p : Path) : Type 0 where
  pub before : Path
  pub before_is : IsPath Q before
  pub meets : Meets before tip
  pub whole : concat before tip ≡ p

pub length-ends_with : (Q : Quiver) (tip p : Path) (e : EndsWith Q tip p) → path_length e.before + path_length tip ≡ path_length p
length-ends_with Q tip p e = sym (path_length-concat e.before tip) ∙ ap path_length e.whole

cut_from : (Q : Quiver) (tip p : Path) → IsPath Q tip → (e : EndsWith Q tip p) → IsCut Q p (path_length p - path_length tip) e.before tip
cut_from Q tip p h e = record {
  front_is = e.before_is;
  rest_is = h;
  meets = e.meets;
  whole = e.whole;
  front_length = omega (arith, length-ends_with Q tip p e);
}

pub cases_ends_with : (Q : Quiver) → HasEnds Q → (tip p : Path) → IsPath Q tip → IsPath Q p → EndsWith Q tip p ⊎ (EndsWith Q tip p → ⊥)
cases_ends_with Q e tip p ht hp = elim (cases_lt (path_length p) (path_length tip)) [
  | inl l ↦ inr (λ w. omega (arith, l, length-ends_with Q tip p w))
  | inr l ↦
      let s = cut Q p (path_length p - path_length tip) e hp (omega arith) in
      elim (cases_path s.1 tip) [
        | inl i ↦ inl (record {
          before = s.0;
          before_is = s.2.front_is;
          meets = s.2.meets ∙ ap (λ (x : Path). x.start) i;
          whole = ap (concat s.0) (sym i) ∙ s.2.whole;
        })
        | inr n ↦ inr (λ w. n (cut_once Q p (path_length p - path_length tip) s.0 s.1 w.before tip s.2 (cut_from Q tip p ht w)).1)
      ]
]

-- the path ends with one of the tips
pub record EndsWithTip (Q : Quiver) (rules : List Rule) (p : Path) : Type 0 where
  pub rule : Rule
  pub listed : Contains rules rule
  pub ends : EndsWith Q rule.tip p

abbrev EndsWithNone : Quiver → List Rule → Path → Type 0
EndsWithNone Q rules p = (rule : Rule) → Contains rules rule → EndsWith Q rule.tip p → ⊥

cases_ends_with_tip : (Q : Quiver) → HasEnds Q → (rules : List Rule) → All (λ (rule : Rule). IsPath Q rule.tip) rules → (p : Path) → IsPath Q p
    → EndsWithTip Q rules p ⊎ EndsWithNone Q rules p
cases_ends_with_tip Q e [] a p hp = inr (λ rule c w. Contains-nil rule c)
cases_ends_with_tip Q e (rule ∷ rules) a p hp =
    elim (cases_ends_with Q e rule.tip p (All-head (λ (x : Rule). IsPath Q x.tip) rule rules a) hp) [
      | inl w ↦ inl (record { rule = rule; listed = Contains-head rule rules; ends = w })
      | inr n ↦ elim (cases_ends_with_tip Q e rules (All-tail (λ (x : Rule). IsPath Q x.tip) rule rules a) p hp) [
        | inl w ↦ inl (record { rule = w.rule; listed = Contains-behind rule rules w.rule w.listed; ends = w.ends })
        | inr m ↦ inr (λ other c w. elim (Contains-cons_cases rule rules other c) [
          | inl i ↦ n (subst (λ (x : Rule). EndsWith Q x.tip p) (sym i) w)
          | inr c ↦ m other c w
        ])
      ]
    ]

-- no tip ends within the first k − 1 arrows
abbrev NoneBefore : Quiver → List Rule → Path → ℕ → Type 0
NoneBefore Q rules p k = (i : ℕ) → i < k → (u v : Path) → IsCut Q p i u v → EndsWithNone Q rules u

-- where the first tip ends
record FirstEnd (Q : Quiver) (rules : List Rule) (p : Path) : Type 0 where
  place : ℕ
  front : Path
  rest : Path
  cut_is : IsCut Q p place front rest
  ends : EndsWithTip Q rules front
  none : NoneBefore Q rules p place

search_from : (Q : Quiver) → HasEnds Q → (rules : List Rule) → All (λ (rule : Rule). IsPath Q rule.tip) rules → (p : Path) → IsPath Q p
    → (k : ℕ) → k ≤ path_length p + 1 → FirstEnd Q rules p ⊎ NoneBefore Q rules p k
search_from Q e rules a p hp zero l = inr (λ i b u v c rule m w. absurd (omega (arith, b)))
search_from Q e rules a p hp (suc k) l =
    let s = cut Q p k e hp (omega arith) in
    elim (search_from Q e rules a p hp k (omega arith)) [
      | inl f ↦ inl f
      | inr n ↦ elim (cases_ends_with_tip Q e rules a s.0 s.2.front_is) [
        | inl w ↦ inl (record { place = k; front = s.0; rest = s.1; cut_is = s.2; ends = w; none = n })
        | inr m ↦ inr (λ i b u v c. elim (cases_lt i k) [
          | inl j ↦ n i j u v c
          | inr j ↦
              let same : i ≡ k = omega (arith, b, j) in
              let fronts : u ≡ s.0 = (cut_once Q p k u v s.0 s.1 (subst (λ x. IsCut Q p x u v) same c) s.2).0 in
              subst (EndsWithNone Q rules) (sym fronts) m
        ])
      ]
    ]

-- an occurrence of a tip ends within the path
ends_before : (Q : Quiver) → HasEnds Q → (rules : List Rule) (p : Path) → IsPath Q p → (k : ℕ) → NoneBefore Q rules p k → (rule : Rule) → Contains rules rule
    → (f : IsFactor Q rule.tip p) → k ≤ path_length p - path_length f.behind
ends_before Q e rules p hp k n rule m f = elim (cases_lt (path_length p - path_length f.behind) k) [
  | inr l ↦ l
  | inl l ↦ absurd (n (path_length p - path_length f.behind) l (concat f.before rule.tip) f.behind (record {
    front_is = IsPath-concat Q f.before rule.tip f.before_is (IsPath-factor Q rule.tip p e hp f) f.meets_before;
    rest_is = f.behind_is;
    meets = f.meets_behind;
    whole = concat_assoc f.before rule.tip f.behind ∙ sym f.whole;
    front_length = path_length-concat f.before rule.tip ∙ omega (arith, length-factor Q rule.tip p f);
  }) rule m (record { before = f.before; before_is = f.before_is; meets = f.meets_before; whole = refl }))
]

pub cases_occurrence : (h : Header) (rules : List Rule) → HasEnds h.quiver → All (λ (rule : Rule). IsPath h.quiver rule.tip) rules → (p : Path) → IsPath h.quiver p
    → FirstOccurrence h rules p ⊎ HasNoTip h rules p
cases_occurrence h rules e a p hp = elim (search_from h.quiver e rules a p hp (path_length p + 1) (omega arith)) [
  | inl f ↦ inl (record {
    rule = f.ends.rule;
    before = f.ends.ends.before;
    behind = f.rest;
    listed = f.ends.listed;
    before_is = f.ends.ends.before_is;
    behind_is = f.cut_is.rest_is;
    meets_before = f.ends.ends.meets;
    meets_behind = ap (λ (x : Path). x.end) f.ends.ends.whole ∙ f.cut_is.meets;
    whole = sym f.cut_is.whole ∙ ap (λ x. concat x f.rest) (sym f.ends.ends.whole) ∙ concat_assoc f.ends.ends.before f.ends.rule.tip f.rest;
    first = λ other c w. omega (arith, ends_before h.quiver e rules p hp f.place f.none other c w, rest_length h.quiver p f.place f.front f.rest f.cut_is, length-factor h.quiver other.tip p w);
  })
  | inr n ↦ inr (λ rule c f. omega (arith, ends_before h.quiver e rules p hp (path_length p + 1) n rule c f, length-factor h.quiver rule.tip p f))
]
