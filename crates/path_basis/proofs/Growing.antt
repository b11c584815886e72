-- Completions with a rule more.
use Rattle.std.proofs.Common.{ℕ, ◌≡◌, ◌≤◌, ◌+◌, ◌*◌, ◌^◌, inl, inr, List, [], length, take, drop, sym, ap, ◌∙◌, subst, arith, length-append}
use Rattle.std.specs.Prelude.{Contains, All}
use Rattle.std.proofs.lemmas.List.Elements.{All-contains, All-weaker, All-contains_itself, Contains-append_cases}
use Rattle.std.proofs.lemmas.List.{take-append-drop}
use Rattle.std.proofs.Math.Seq.{take-append_seam}
use Rattle.linear_algebra.specs.FieldLaws.{zero_add}
use Rattle.quiver_paths.specs.declared.Path.{Path}
use Rattle.path_algebra.specs.declared.Term.{Term}
use Rattle.path_algebra.specs.declared.Header.{Header}
use Rattle.path_algebra.specs.declared.rules.Rule.{Rule}
use Rattle.path_algebra.specs.declared.rules.Step.{Step}
use Rattle.path_algebra.specs.Elements.{sum_of_terms}
use Rattle.path_algebra.specs.Rules.{rule_element}
use Rattle.path_algebra.proofs.ElementLemmas.{sum_of_terms-below}
use Rattle.path_reduction.specs.Reducing.{beside}
use Rattle.path_reduction.specs.Gaps.{IsTidy}
use Rattle.path_reduction.specs.Derived.{IsDerivation, Derives, Lengthens, AreDerived}
use Rattle.path_reduction.specs.NewRules.{IsNewTo}
use Rattle.path_basis.specs.Inserting.{Inserts}
use Rattle.path_basis.specs.Measure.{free_count}
use Rattle.quiver_paths.specs.PathOrder.{IsSmaller}
use Rattle.quiver_paths.specs.PathList.{path_count}
use Rattle.quiver_paths.proofs.ListLemmas.{AllPairs-nil, Contains-nil}
use Rattle.path_basis.proofs.Measure.{free_count-le}
use Rattle.path_basis.specs.Completing.{IsCompletion, HasGrown}
use Rattle.path_reduction.proofs.Deriving.{still_derived, derives_same, Lengthens-trans}

all_members : {X : Type 0} (P : X → Type 0) (xs : List X) → ((x : X) → Contains xs x → P x) → All P xs
all_members P xs m = All-weaker (Contains xs) P m xs (All-contains_itself xs)

-- a rule is put in, and those that it replaces are put behind what was removed
pub completed : (h : Header) (old removed new after : List Rule) (rule : Rule) (steps : List Step) → IsNewTo h old rule → IsDerivation h steps → AreDerived h steps old → Derives h steps rule.step (rule_element h rule)
    → All (IsTidy h) removed → AreDerived h steps removed → length steps + 131136 * free_count h old ≤ 2 ^ 31 + 131136 * 4098 → Inserts h old rule new removed after → IsCompletion h new after steps
completed h old removed new after rule steps is lawful derived made tidy made_removed room i = record {
  tidy = i.inserted.tidy;
  lawful = lawful;
  derived = all_members (λ (x : Rule). Derives h steps x.step (rule_element h x)) new (λ x m. elim (i.inserted.only x m) [
    | inl e ↦ subst (λ (y : Rule). Derives h steps y.step (rule_element h y)) (sym e) made
    | inr k ↦ All-contains (λ (y : Rule). Derives h steps y.step (rule_element h y)) old x derived k.0
  ]);
  removed_tidy = all_members (IsTidy h) after (λ x m. elim (Contains-append_cases removed i.out x (subst (λ xs. Contains xs x) i.whole m)) [
    | inl k ↦ All-contains (IsTidy h) removed x tidy k
    | inr k ↦ All-contains (IsTidy h) old x is.tidy.each (i.inserted.taken x k).0
  ]);
  removed_derived = all_members (λ (x : Rule). Derives h steps x.step (rule_element h x)) after (λ x m. elim (Contains-append_cases removed i.out x (subst (λ xs. Contains xs x) i.whole m)) [
    | inl k ↦ All-contains (λ (y : Rule). Derives h steps y.step (rule_element h y)) removed x made_removed k
    | inr k ↦ All-contains (λ (y : Rule). Derives h steps y.step (rule_element h y)) old x derived (i.inserted.taken x k).0
  ]);
  room = (let f = i.inserted.fewer in omega (arith, f, room));
}

pub has_grown : (h : Header) (old removed new after : List Rule) (rule : Rule) → Inserts h old rule new removed after → HasGrown h old removed new after
has_grown h old removed new after rule i = record {
  fewer = i.inserted.fewer;
  count = (let c = i.inserted.count in let l = ap length i.whole ∙ length-append removed i.out in omega (arith, c, l));
}

-- the rules were taken from where they stood
pub inserts_taken : (h : Header) (old taken removed new after : List Rule) (rule : Rule) → taken ≡ old → ((g : Header) → IsNewTo g taken rule → Inserts g taken rule new removed after) → IsNewTo h old rule
    → Inserts h old rule new removed after
inserts_taken h old taken removed new after rule e made is = subst (λ xs. Inserts h xs rule new removed after) e (made h (subst (λ xs. IsNewTo h xs rule) (sym e) is))

-- ---- steps behind a front

pub front_lengthens : (mark : ℕ) (steps : List Step) → Lengthens (take mark steps) steps
front_lengthens mark steps = record { more = drop mark steps; whole = sym (take-append-drop mark steps) }

-- a front of what was lengthened is what was there
pub front_again : (mark : ℕ) (old new cut : List Step) → mark ≡ length old → Lengthens old new → cut ≡ take mark new → cut ≡ old
front_again mark old new cut e l is = is ∙ ap (λ n. take n new) e ∙ ap (take (length old)) l.whole ∙ take-append_seam old l.more

-- what was made by a front is made with two more pieces behind it
pub derived_behind : (h : Header) (mark : ℕ) (old middle new : List Step) (rules : List Rule) → Lengthens old middle → Lengthens middle new → IsDerivation h new → AreDerived h (take mark old) rules → AreDerived h new rules
derived_behind h mark old middle new rules l m lawful = still_derived h (take mark old) new rules (Lengthens-trans (take mark old) old new (front_lengthens mark old) (Lengthens-trans old middle new l m)) lawful

-- nothing stands beside what is reduced
pub derives_alone : (h : Header) (old new : List Step) (given terms : List Term) (step number mark : ℕ) (rules : List Rule)
    → ((x : Path → ℕ) → AreDerived h old rules → Derives h old step (beside h x (sum_of_terms h.field h.bound given)) → Derives h new number (beside h x (sum_of_terms h.field h.bound terms)))
    → AreDerived h (take mark old) rules → Derives h old step (sum_of_terms h.field h.bound given) → Derives h new number (sum_of_terms h.field h.bound terms)
derives_alone h old new given terms step number mark rules makes from d =
    derives_same h new number (beside h (λ p. 0) (sum_of_terms h.field h.bound terms)) _ (λ p. zero_add h.field _ (sum_of_terms-below h.field h.bound terms p))
    (makes (λ p. 0) (still_derived h (take mark old) old rules (front_lengthens mark old) d.lawful from)
    (derives_same h old step (sum_of_terms h.field h.bound given) _ (λ p. sym (zero_add h.field _ (sum_of_terms-below h.field h.bound given p))) d))

-- ---- where it begins

pub completion_begins : (h : Header) (rules removed : List Rule) (steps : List Step) → path_count h.quiver h.bound ≤ 4096 → rules ≡ [] → removed ≡ [] → steps ≡ [] → IsCompletion h rules removed steps
completion_begins h rules removed steps few e f g =
    subst (λ xs. IsCompletion h xs removed steps) (sym e) (subst (λ xs. IsCompletion h [] xs steps) (sym f) (subst (IsCompletion h [] []) (sym g) (record {
      tidy = record { each = λ k d l. absurd (omega (arith, l)); ascending = AllPairs-nil (λ (a b : Rule). IsSmaller a.tip b.tip); apart = λ a b m. absurd (Contains-nil a m) };
      lawful = record { are = record { named = λ k s l. absurd (omega (arith, l)) }; factors = λ k d l. absurd (omega (arith, l)) };
      derived = λ k d l. absurd (omega (arith, l));
      removed_tidy = λ k d l. absurd (omega (arith, l));
      removed_derived = λ k d l. absurd (omega (arith, l));
      room = (let c = free_count-le h [] in omega (arith, c, few));
    })))
