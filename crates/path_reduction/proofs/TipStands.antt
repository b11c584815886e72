-- A tip that stands among the arrows of a path is a factor of it, and the tip that ends first makes the first occurrence.
use Rattle.std.proofs.Common.{ℕ, ◌≡◌, ◌<◌, ◌≤◌, ◌+◌, ◌-◌, inl, inr, List, ◌++◌, length, take, drop, get_or, refl, sym, ap, ap₂, ◌∙◌, subst, arith, length-append, append_assoc}
use Rattle.std.specs.Prelude.{Contains}
use Rattle.std.proofs.Math.Seq.{take-append_seam, drop-append_seam}
use Rattle.std.proofs.lemmas.Bool.{cases_lt}
use Rattle.std.proofs.lemmas.List.{take-append-drop, drop-drop, append-nil, length-drop, get_or_default, take_rest}
use Rattle.std.proofs.lemmas.List.Elements.{All-contains}
use Rattle.quiver_paths.specs.declared.Path.{Path}
use Rattle.quiver_paths.specs.Path.{IsPath, Leads, path_length, concat, IsFactor}
use Rattle.quiver_paths.specs.Quiver.{HasEnds}
use Rattle.quiver_paths.proofs.PathLemmas.{Leads-between, Leads-start, Leads-one, IsPath-end, IsFactor-arrows, length-factor}
use Rattle.path_algebra.specs.declared.Header.{Header}
use Rattle.path_algebra.specs.declared.rules.Rule.{Rule}
use Rattle.path_algebra.specs.Allowed.{IsAllowed}
use Rattle.path_algebra.specs.Reduction.{HasNoTip, FirstOccurrence}
use Rattle.path_algebra.specs.Occurring.{EndsInTip, HasTip}
use Rattle.path_algebra.proofs.TipFactors.{ends_from, tip_from}
use Rattle.path_reduction.specs.Gaps.{IsTidy, AreTidy}
use Rattle.path_reduction.specs.Occurrences.{StandsAt, EndsFirst, part_before, part_behind}

-- the arrows are cut there
pub stands_whole : (rule : Rule) (arrows : List ℕ) (n : ℕ) → StandsAt rule arrows n → arrows ≡ take n arrows ++ (rule.tip.arrows ++ drop (n + path_length rule.tip) arrows)
stands_whole rule arrows n s =
    sym (take-append-drop n arrows)
    ∙ ap (λ xs. take n arrows ++ xs) (sym (take-append-drop (path_length rule.tip) (drop n arrows)) ∙ ap₂ (λ xs ys. xs ++ ys) (sym s.same) (drop-drop (path_length rule.tip) n arrows))

-- the parts of a path about a tip
pub record IsPartedAt (h : Header) (p : Path) (rule : Rule) (n : ℕ) : Type 0 where
  pub before_is : IsPath h.quiver (part_before p rule n)
  pub behind_is : IsPath h.quiver (part_behind p rule n)
  pub whole : p ≡ concat (part_before p rule n) (concat rule.tip (part_behind p rule n))

pub parted : (h : Header) (p : Path) (rule : Rule) (n : ℕ) → HasEnds h.quiver → IsPath h.quiver p → IsPath h.quiver rule.tip → 1 ≤ path_length rule.tip → StandsAt rule p.arrows n → IsPartedAt h p rule n
parted h p rule n e hp ht l s =
    let Q = h.quiver in
    let us = take n p.arrows in
    let vs = drop (n + path_length rule.tip) p.arrows in
    let leads : Leads Q p.start (us ++ (rule.tip.arrows ++ vs)) p.end = subst (λ (xs : List ℕ). Leads Q p.start xs p.end) (stands_whole rule p.arrows n s) hp.leads in
    let first = Leads-between Q p.start us (rule.tip.arrows ++ vs) p.end leads in
    let second = Leads-between Q first.0 rule.tip.arrows vs p.end first.2 in
    let starts : first.0 ≡ rule.tip.start = Leads-start Q first.0 rule.tip.start rule.tip.arrows second.0 rule.tip.end (omega (arith, l)) second.1 ht.leads in
    let ends : rule.tip.end ≡ second.0 = Leads-one Q rule.tip.start rule.tip.arrows rule.tip.end second.0 ht.leads (subst (λ (k : ℕ). Leads Q k rule.tip.arrows second.0) starts second.1) in
    record {
      before_is = record { starts = hp.starts; leads = subst (λ k. Leads Q p.start us k) starts first.1 };
      behind_is = record { starts = IsPath-end Q rule.tip e ht; leads = subst (λ k. Leads Q k vs p.end) (sym ends) second.2 };
      whole = λ i. record { start = p.start; end = p.end; arrows = stands_whole rule p.arrows n s i };
    }

pub factor_at : (h : Header) (p : Path) (rule : Rule) (n : ℕ) → IsPartedAt h p rule n → IsFactor h.quiver rule.tip p
factor_at h p rule n d = record {
  before = part_before p rule n;
  behind = part_behind p rule n;
  before_is = d.before_is;
  behind_is = d.behind_is;
  meets_before = refl;
  meets_behind = refl;
  whole = d.whole;
}

-- a factor stands behind its front
pub stands_from_factor : (h : Header) (p : Path) (rule : Rule) (f : IsFactor h.quiver rule.tip p) → StandsAt rule p.arrows (path_length f.before)
stands_from_factor h p rule f =
    let lengths = length-factor h.quiver rule.tip p f in
    record {
      fits = omega (arith, lengths);
      same = sym (ap (λ xs. take (path_length rule.tip) (drop (path_length f.before) xs)) (IsFactor-arrows h.quiver rule.tip p f)
          ∙ ap (take (path_length rule.tip)) (drop-append_seam f.before.arrows (rule.tip.arrows ++ f.behind.arrows))
          ∙ take-append_seam rule.tip.arrows f.behind.arrows);
    }

-- two factors by one tip with fronts of one length are one
pub tidy_at : (h : Header) (rules : List Rule) → AreTidy h rules → (k : ℕ) (d : Rule) → k < length rules → IsTidy h (get_or rules k d)
tidy_at h rules tidy k d l = tidy.each k d l

pub listed_at : (rules : List Rule) (k : ℕ) (d : Rule) → k < length rules → Contains rules (get_or rules k d)
listed_at rules k d l = (k, l, get_or_default rules k (get_or rules k d) d l)

-- a factor by a tip ends in a tip at its end
pub ends_at : (h : Header) (rules : List Rule) (p : Path) → AreTidy h rules → (other : Rule) → Contains rules other → (f : IsFactor h.quiver other.tip p)
    → EndsInTip rules (take (path_length f.before + path_length other.tip) p.arrows)
ends_at h rules p tidy other m f =
    let t = All-contains (IsTidy h) rules other tidy.each m in
    let whole : p.arrows ≡ (f.before.arrows ++ other.tip.arrows) ++ f.behind.arrows = IsFactor-arrows h.quiver other.tip p f ∙ sym (append_assoc f.before.arrows other.tip.arrows f.behind.arrows) in
    let front : take (path_length f.before + path_length other.tip) p.arrows ≡ f.before.arrows ++ other.tip.arrows =
    ap₂ (λ n xs. take n xs) (sym (length-append f.before.arrows other.tip.arrows)) whole ∙ take-append_seam (f.before.arrows ++ other.tip.arrows) f.behind.arrows in
    ends_from rules other (take (path_length f.before + path_length other.tip) p.arrows) f.before.arrows (let l = t.not_trivial in omega arith)
    (record { listed = m; whole = front ∙ ap (λ xs. f.before.arrows ++ xs) (sym (append-nil other.tip.arrows)) })

unfoldable pub first_occurrence_at : (h : Header) (rules : List Rule) (p : Path) (place n : ℕ) (d : Rule) → IsAllowed h → AreTidy h rules → IsPath h.quiver p → EndsFirst rules p.arrows place n → FirstOccurrence h rules p
first_occurrence_at h rules p place n d ok tidy hp s =
    let rule : Rule = get_or rules place d in
    let t = tidy_at h rules tidy place d s.inside in
    let parts = parted h p rule n ok.quiver.ends hp t.path t.not_trivial (s.stands d) in
    record {
      rule = rule;
      before = part_before p rule n;
      behind = part_behind p rule n;
      listed = listed_at rules place d s.inside;
      before_is = parts.before_is;
      behind_is = parts.behind_is;
      meets_before = refl;
      meets_behind = refl;
      whole = parts.whole;
      first = λ other m f. elim (cases_lt (path_length f.before + path_length other.tip) (n + path_length rule.tip)) [
        | inl l ↦ absurd (s.first d (path_length f.before + path_length other.tip) l (ends_at h rules p tidy other m f))
        | inr l ↦ (let a = length-factor h.quiver other.tip p f in let b = length-drop (n + path_length rule.tip) p.arrows in omega arith)
      ];
    }

-- without a tip among the arrows there is none in the path
pub no_tip_among : (h : Header) (rules : List Rule) (p : Path) → AreTidy h rules → (HasTip rules p.arrows → ⊥) → HasNoTip h rules p
no_tip_among h rules p tidy n rule m f =
    n (tip_from rules rule p.arrows f.before.arrows f.behind.arrows (let l = (All-contains (IsTidy h) rules rule tidy.each m).not_trivial in omega arith) (record { listed = m; whole = IsFactor-arrows h.quiver rule.tip p f }))

-- a slice of the arrows behind a tip
pub slice_behind : (p : Path) (rule : Rule) (n : ℕ) (xs : List ℕ) (l : ℕ) → xs ≡ p.arrows → l ≡ path_length rule.tip → take (length xs - (n + l)) (drop (n + l) xs) ≡ (part_behind p rule n).arrows
slice_behind p rule n xs l e i = take_rest xs (n + l) ∙ ap₂ (λ k ys. drop (n + k) ys) i e
