-- Deciding what the lines of a basis may say: counts, words, steps and rules.
use Rattle.std.proofs.Common.{◌≡◌, ◌≢◌, ℕ, ◌+◌, ◌<◌, ◌≤◌, ◌^◌, List, [], ◌∷◌, map, length, get_or, codes, decimal, All, ◌⊎◌, inl, inr, refl, ap, arith, length-append}
use Rattle.std.proofs.lemmas.List.{length-map}
use Rattle.std.specs.Str.Parse.{AllDigits, digits_value}
use Rattle.std.proofs.lemmas.Bool.{cases_eq}
use Rattle.linear_algebra.specs.Field.{order}
use Rattle.quiver_paths.specs.declared.Path.{Path}
use Rattle.quiver_paths.specs.declared.Quiver.{Quiver}
use Rattle.quiver_paths.specs.Quiver.{HasEnds, arrow_count}
use Rattle.quiver_paths.specs.Path.{path_length}
use Rattle.path_algebra.specs.declared.Term.{Term}
use Rattle.path_algebra.specs.declared.Header.{Header}
use Rattle.path_algebra.specs.declared.rules.Rule.{Rule}
use Rattle.path_algebra.specs.declared.rules.Step.{Step}
use Rattle.path_algebra.specs.declared.rules.Step.TheVariants as step
use Rattle.path_algebra.specs.Derivations.{IsNumber, NamesEarlier}
use Rattle.path_algebra.specs.BasisClauses.{HasFactor}
use Rattle.header_text.specs.Spelling.{term_text, plus_each}
use Rattle.report_types.specs.Limits.{length_limit}
use Rattle.report_types.specs.BasisBlocks.{IsWrittenRule}
use Rattle.claim_lines.specs.Spelling.{tail_form, rule_line}
use Rattle.claim_lines.specs.Items.{IsCount, FitsWord, FitsStep, FitsRule}
use Rattle.deciding.proofs.Deciding.{Decided, both, like, three, four, fails, if_so, below, at_most, of_each, IsListed, fewer, either, images, pairs, numbers_below, lists_to}
use Rattle.deciding.proofs.DecidedPaths.{number_decided, path_decided, same_paths, short_decided, tail_decided, IsPathBelow, paths_listed, IsTermBelow, terms_listed, tail_terms}

-- ---- numerals

digits_decided : (ds : List ℕ) → Decided (AllDigits 10 ds)
digits_decided [] = inl tt
digits_decided (c ∷ cs) = both (below _ 10) (digits_decided cs)

pub count_decided : (ds : List ℕ) → Decided (IsCount ds)
count_decided ds =
    like (λ h. record { value = digits_value 10 ds; numeral_is = record { writes = record { some = h.0; digits = h.1; value = refl }; plain = h.2 } })
    (λ is. (is.numeral_is.writes.some, is.numeral_is.writes.digits, is.numeral_is.plain))
    (three (below 0 (length ds)) (digits_decided ds) (if_so (cases_eq (get_or ds 0 0) 48) (cases_eq (length ds) 1)))

-- ---- words

pub word_decided : (h : Header) (words : List Path) (w : Path) → Decided (FitsWord h words w)
word_decided h words w =
    like (λ k. record { short = k.0; new = k.1 }) (λ k. (k.short, k.new))
    (both (short_decided h w) (of_each (λ (other : Path). other ≢ w) (λ other. fails (same_paths other w)) words))

pub words_listed : (h : Header) → HasEnds h.quiver → (words : List Path) → IsListed (FitsWord h words)
words_listed h ends words =
    fewer (FitsWord h words) (IsPathBelow h.quiver h.bound) (λ w is. record { path = is.short.path; short = is.short.short }) (paths_listed h.quiver ends h.bound)

-- ---- steps

named_decided : (h : Header) (earlier : ℕ) (s : Step) → Decided (NamesEarlier h earlier s)
named_decided h earlier (step.Relation r) = number_decided (length h.relations) r
named_decided h earlier (step.Left a j) = both (below a (arrow_count h.quiver)) (number_decided earlier j)
named_decided h earlier (step.Right j a) = both (number_decided earlier j) (below a (arrow_count h.quiver))
named_decided h earlier (step.Add j c m) = both (number_decided earlier j) (number_decided earlier m)

factor_decided : (h : Header) (s : Step) → Decided (HasFactor h s)
factor_decided h (step.Relation r) = inl tt
factor_decided h (step.Left a j) = inl tt
factor_decided h (step.Right j a) = inl tt
factor_decided h (step.Add j c m) = both (below 0 c) (below c (order h.field))

pub step_decided : (h : Header) (earlier : ℕ) (s : Step) → Decided (FitsStep h earlier s)
step_decided h earlier s =
    like (λ k. record { room = k.0; named = k.1; factor = k.2 }) (λ k. (k.room, k.named, k.factor)) (three (below (earlier + 1) (2 ^ 32)) (named_decided h earlier s) (factor_decided h s))

left_of : ℕ × ℕ → Step
left_of z = step.Left z.0 z.1

right_of : ℕ × ℕ → Step
right_of z = step.Right z.0 z.1

sum_of : ℕ × (ℕ × ℕ) → Step
sum_of z = step.Add z.0 z.1.0 z.1.1

StepIn : Header → ℕ → Step → Type 0
StepIn h earlier s = ((r : ℕ) × (r < length h.relations + 1) × (step.Relation r ≡ s))
    ⊎ (((z : ℕ × ℕ) × ((z.0 < arrow_count h.quiver) × (z.1 < earlier + 1)) × (left_of z ≡ s))
    ⊎ (((z : ℕ × ℕ) × ((z.0 < earlier + 1) × (z.1 < arrow_count h.quiver)) × (right_of z ≡ s))
    ⊎ ((z : ℕ × (ℕ × ℕ)) × ((z.0 < earlier + 1) × ((z.1.0 < order h.field) × (z.1.1 < earlier + 1))) × (sum_of z ≡ s))))

number_below : (last n : ℕ) → IsNumber last n → n < last + 1
number_below last n is = let to = is.to in omega arith

step_in : (h : Header) (earlier : ℕ) (s : Step) → FitsStep h earlier s → StepIn h earlier s
unfolding StepIn left_of right_of sum_of
step_in h earlier (step.Relation r) is = inl (r, number_below _ r is.named, refl)
step_in h earlier (step.Left a j) is = inr (inl ((a, j), (is.named.0, number_below _ j is.named.1), refl))
step_in h earlier (step.Right j a) is = inr (inr (inl ((j, a), (number_below _ j is.named.0, is.named.1), refl)))
step_in h earlier (step.Add j c m) is = inr (inr (inr ((j, (c, m)), (number_below _ j is.named.0, (is.factor.1, number_below _ m is.named.1)), refl)))

pub steps_listed : (h : Header) (earlier : ℕ) → IsListed (FitsStep h earlier)
unfolding StepIn
steps_listed h earlier =
    fewer (FitsStep h earlier) (StepIn h earlier) (step_in h earlier)
    (either (images step.Relation (numbers_below (length h.relations + 1)))
    (either (images left_of (pairs (numbers_below (arrow_count h.quiver)) (numbers_below (earlier + 1))))
    (either (images right_of (pairs (numbers_below (earlier + 1)) (numbers_below (arrow_count h.quiver))))
    (images sum_of (pairs (numbers_below (earlier + 1)) (pairs (numbers_below (order h.field)) (numbers_below (earlier + 1))))))))

-- ---- rules

written_decided : (h : Header) (steps : ℕ) (r : Rule) → Decided (IsWrittenRule h steps r)
written_decided h steps r =
    like (λ k. record { tip = k.0; tip_limit = k.1; tail = k.2; named = k.3 }) (λ k. (k.tip, k.tip_limit, k.tail, k.named))
    (four (path_decided h.quiver r.tip) (at_most (path_length r.tip) length_limit) (tail_decided h r.tail.terms) (number_decided steps r.step))

pub rule_decided : (h : Header) (steps earlier : ℕ) (r : Rule) → Decided (FitsRule h steps earlier r)
rule_decided h steps earlier r =
    like (λ k. record { few = k.0; room = k.1; written = k.2 }) (λ k. (k.few, k.room, k.written)) (three (below steps (2 ^ 32)) (below (earlier + 1) (2 ^ 32)) (written_decided h steps r))

rule_of : Path × (List Term × ℕ) → Rule
rule_of z = record { tip = z.0; tail = record { terms = z.1.0 }; step = z.1.1 }

-- a rule whose tail has at most so many terms
pub RuleIn : Header → ℕ → ℕ → Rule → Type 0
RuleIn h steps most r = (z : Path × (List Term × ℕ)) × (IsPathBelow h.quiver 65 z.0 × (((length z.1.0 ≤ most) × All (IsTermBelow h h.bound) z.1.0) × (z.1.1 < steps + 1))) × (rule_of z ≡ r)

pub rules_listed : (h : Header) → HasEnds h.quiver → (steps most : ℕ) → IsListed (RuleIn h steps most)
unfolding RuleIn
rules_listed h ends steps most =
    images rule_of (pairs (paths_listed h.quiver ends 65) (pairs (lists_to (IsTermBelow h h.bound) (terms_listed h ends h.bound) most) (numbers_below (steps + 1))))

plus_each_long : (ts : List (List ℕ)) → length ts ≤ length (plus_each ts)
plus_each_long [] = omega arith
plus_each_long (t ∷ ts) = let rest = plus_each_long ts in omega arith

tail_long : (Q : Quiver) (ts : List Term) → length ts ≤ length (tail_form Q ts)
tail_long Q [] = omega arith
tail_long Q (t ∷ ts) = let rest = plus_each_long (map (term_text Q) ts) in let same : length (map (term_text Q) ts) ≡ length ts = length-map ts (term_text Q) in omega arith

rule_long : (Q : Quiver) (r : Rule) → length r.tail.terms ≤ length (rule_line Q r)
rule_long Q r =
    let tail = tail_long Q r.tail.terms in
    let all = length-append (tail_form Q r.tail.terms) (codes "by" ∷ decimal r.step ∷ []) in
    omega arith

pub rule_in : (h : Header) (steps earlier : ℕ) (ts : List (List ℕ)) (r : Rule) → FitsRule h steps earlier r → ts ≡ rule_line h.quiver r → RuleIn h steps (length ts) r
unfolding RuleIn rule_of
rule_in h steps earlier ts r is e =
    let w = is.written in
    let long = rule_long h.quiver r in
    let same : length ts ≡ length (rule_line h.quiver r) = ap length e in (
      (r.tip, (r.tail.terms, r.step)),
      (record { path = w.tip; short = let limit = w.tip_limit in omega arith }, ((omega (arith, long, same), tail_terms h r.tail.terms w.tail), number_below steps r.step w.named)),
      refl,
    )
