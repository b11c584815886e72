-- Rules of which one has its tail reduced.
use Rattle.std.proofs.Common.{ℕ, ◌≡◌, ◌<◌, List, length, get_or, set, sym, ap, ◌∙◌, subst}
use Rattle.std.specs.Prelude.{All}
use Rattle.std.proofs.lemmas.List.Elements.{All-set}
use Rattle.path_algebra.specs.declared.Header.{Header}
use Rattle.path_algebra.specs.declared.rules.Rule.{Rule}
use Rattle.path_algebra.specs.declared.rules.Step.{Step}
use Rattle.path_algebra.specs.Allowed.{IsAllowed}
use Rattle.path_algebra.specs.Rules.{rule_element}
use Rattle.path_reduction.specs.Gaps.{IsTidy, AreTidy}
use Rattle.path_reduction.specs.Derived.{Derives, Lengthens, AreDerived}
use Rattle.path_reduction.proofs.Deriving.{still_derived}
use Rattle.path_basis.specs.Tails.{IsTailReduced, HaveSameTips}
use Rattle.path_basis.proofs.ReducedTails.{tidy_with_tail}
use Rattle.path_basis.proofs.SameTips.{set_tips, tidy_same_tips}

pub one_same_tips : (h : Header) (old new : List Rule) (place : ℕ) (rule with_tail : Rule) → place < length old → rule ≡ get_or old place rule → IsTailReduced h old rule with_tail → new ≡ set old place with_tail → HaveSameTips old new
one_same_tips h old new place rule with_tail l is reduced e =
    subst (HaveSameTips old) (sym e) (set_tips old place rule with_tail l (reduced.tip ∙ ap (λ (x : Rule). x.tip) is))

pub one_tidy : (h : Header) (old new : List Rule) (place : ℕ) (rule with_tail : Rule) → IsAllowed h → AreTidy h old → place < length old → rule ≡ get_or old place rule → IsTailReduced h old rule with_tail
    → new ≡ set old place with_tail → AreTidy h new
one_tidy h old new place rule with_tail ok tidy l is reduced e =
    let t = tidy_with_tail h old rule with_tail ok tidy (place, l, sym is) reduced in
    tidy_same_tips h old new (one_same_tips h old new place rule with_tail l is reduced e) tidy (subst (All (IsTidy h)) (sym e) (All-set (IsTidy h) old place with_tail t tidy.each))

pub one_derived : (h : Header) (old new : List Rule) (place : ℕ) (with_tail : Rule) (steps more : List Step) → AreDerived h steps old → Lengthens steps more → Derives h more with_tail.step (rule_element h with_tail) → new ≡ set old place with_tail
    → AreDerived h more new
one_derived h old new place with_tail steps more derived l d e =
    subst (AreDerived h more) (sym e) (All-set (λ (x : Rule). Derives h more x.step (rule_element h x)) old place with_tail d (still_derived h steps more old l d.lawful derived))
