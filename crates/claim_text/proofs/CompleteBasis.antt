-- The lines of a basis are read.
use Rattle.std.proofs.Common.{None, ◌≡◌, ◌≢◌, ℕ, ◌+◌, ◌<◌, ◌^◌, true, List, [], ◌∷◌, ◌++◌, map, length, get_or, cond, codes, decimal, inl, inr, refl, sym, ap, ◌∙◌, subst, arith, append_assoc, append-nil, lit<}
use Rattle.std.specs.Prelude.{All, AllPairs, min}
use Rattle.std.proofs.lemmas.Bool.Decides.{eqb_tells}
use Rattle.std.proofs.lemmas.List.{length-append, get_or_append_left}
use Rattle.std.proofs.Math.Seq.{get_or-append_seam}
use Rattle.std.proofs.Math.Nat.{min-eq_left}
use Rattle.quiver_paths.specs.declared.Path.{Path}
use Rattle.quiver_paths.proofs.ListLemmas.{length-pushed}
use Rattle.path_algebra.specs.declared.Header.{Header}
use Rattle.path_algebra.specs.declared.rules.Rule.{Rule}
use Rattle.path_algebra.specs.declared.rules.Step.{Step as DerivationStep}
use Rattle.path_algebra.specs.Allowed.{IsAllowed}
use Rattle.path_algebra.specs.Words.{IsShortPath}
use Rattle.path_algebra.specs.Derivations.{NamesEarlier}
use Rattle.path_algebra.specs.BasisClauses.{HasFactor}
use Rattle.text_lines.proofs.Digits.{numeral-decimal}
use Rattle.header_text.specs.Named.{IsNamed}
use Rattle.header_text.proofs.WholeLemmas.{IsNamed-allowed}
use Rattle.report_types.specs.declared.reports.End.TheVariants.{Done}
use Rattle.report_types.specs.declared.claims.Claim.TheVariants as claim
use Rattle.report_types.specs.BasisBlocks.{AreWords, AreWrittenSteps, IsWrittenRule, AreWrittenRules, IsBasisBlock}
use Rattle.claim_lines.specs.Spelling.{words_line, word_line, steps_line, step_line, rules_line, rule_line}
use Rattle.claim_lines.specs.Items.{IsCount, counted, FitsWord, FitsStep, FitsRule}
use Rattle.claim_lines.proofs.FittingLines.{one_fitting_word, one_fitting_step, one_fitting_rule}
use Rattle.claim_lines.proofs.Clear.{words_clear, word_clear, steps_clear, step_clear, rules_clear, rule_clear}
use Rattle.claim_text.specs.declared.part.Place.{Place}
use Rattle.claim_text.specs.declared.part.Place.TheVariants as place
use Rattle.claim_text.specs.declared.part.Part.{Part}
use Rattle.claim_text.specs.Spelling.{step_lines, block_lines}
use Rattle.claim_text.specs.Part.{words_place, steps_place, with_word_count, with_word, with_step_count, with_step, at_rules, with_rule_count, with_rule}
use Rattle.claim_text.proofs.Runs.{Run, run_none, run_line, run_append, taken}
use Rattle.claim_text.proofs.CompleteObjects.{between}
use Rattle.claim_text.proofs.TakenLines.{takes_number}

-- ---- the places of a block

open_words : (n k : ℕ) → k < n → words_place n k ≡ place.Words n
open_words n k l = elim (eqb_tells k n) [ inl a ↦ absurd (omega (arith, a.1)) | inr a ↦ ap (λ b. cond b place.StepCount (place.Words n)) a.0 ]

full_words : (n k : ℕ) → k ≡ n → words_place n k ≡ place.StepCount
full_words n k e = elim (eqb_tells k n) [ inl a ↦ ap (λ b. cond b place.StepCount (place.Words n)) a.0 | inr a ↦ absurd (a.1 e) ]

open_steps : (n k : ℕ) → k < n → steps_place n k ≡ place.Steps n
open_steps n k l = elim (eqb_tells k n) [ inl a ↦ absurd (omega (arith, a.1)) | inr a ↦ ap (λ b. cond b place.RuleCount (place.Steps n)) a.0 ]

full_steps : (n k : ℕ) → k ≡ n → steps_place n k ≡ place.RuleCount
full_steps n k e = elim (eqb_tells k n) [ inl a ↦ ap (λ b. cond b place.RuleCount (place.Steps n)) a.0 | inr a ↦ absurd (a.1 e) ]

-- ---- items in their lists

at_seam : {X : Type 0} (P : X → Type 0) (done : List X) (x : X) (rest : List X) → All P (done ++ x ∷ rest) → P x
at_seam P done x rest all =
    subst P (get_or-append_seam done x rest x) (all (length done) x (let l = length-append done (x ∷ rest) in omega arith))

before_seam : {X : Type 0} (R : X → X → Type 0) (done : List X) (x : X) (rest : List X) → AllPairs R (done ++ x ∷ rest) → All (λ y. R y x) done
before_seam R done x rest pairs k d l =
    subst (λ y. R y x) (get_or_append_left done (x ∷ rest) d k l)
    (subst (R (get_or (done ++ x ∷ rest) k d)) (get_or-append_seam done x rest d) (pairs k (length done) d l (let m = length-append done (x ∷ rest) in omega arith)))

shift : {X : Type 0} (done : List X) (x : X) (rest : List X) → (done ++ x ∷ []) ++ rest ≡ done ++ x ∷ rest
shift done x rest = append_assoc done (x ∷ []) rest

pub fits_step : (h : Header) (done rest : List DerivationStep) (s : DerivationStep) → AreWrittenSteps h (done ++ s ∷ rest) → FitsStep h (length done) s
fits_step h done rest s are =
    let l = length-append done (s ∷ rest) in
    let few = are.few in
    record {
      room = omega arith;
      named = subst (NamesEarlier h (length done)) (get_or-append_seam done s rest s) (are.named.named (length done) s (omega arith));
      factor = at_seam (HasFactor h) done s rest are.factors;
    }

module _ (h : Header) (ok : IsAllowed h) (line : ℕ) where
  named : IsNamed h.quiver
  named = IsNamed-allowed h ok

  few_relations : length h.relations < 2 ^ 32
  few_relations = let few = ok.few_relations in let big : 256 < 2 ^ 32 = lit< tt in omega arith

  abbrev pub at : Place → List Path → List DerivationStep → List Rule → Part
  at s words steps rules = record { front = record { is_begun = true; header = h }; place = s; line = line; words = words; steps = steps; rules = rules; records = []; modules = []; maps = []; dims = []; matrices = []; block = None; end = Done }

  abbrev pub with_basis : List Path → List DerivationStep → List Rule → Part
  with_basis words steps rules = between h ok (record { line = line; modules = []; maps = []; claim = claim.Basis words steps rules } ∷ []) [] []

  reads_words : (n : ℕ) (done todo : List Path) → length done + length todo ≡ n → AreWords h (done ++ todo)
      → Run (at (words_place n (length done)) done [] []) (map (word_line h.quiver) todo) (at place.StepCount (done ++ todo) [] [])
  reads_words n done [] e are = run_none (at (words_place n (length done)) done [] []) (at place.StepCount (done ++ []) [] []) (λ i. at (sym (full_words n (length done) (omega (arith, e))) i) (append-nil done i) [] [])
  reads_words n done (w ∷ todo) e are =
      let p = at (place.Words n) done [] [] in
      let q = with_word p n w in
      let fits : FitsWord h done w = record { short = at_seam (IsShortPath h) done w todo are.short; new = before_seam (λ (u v : Path). u ≢ v) done w todo are.different } in
      let long = length-pushed done (done ++ w ∷ []) w refl in
      let more = reads_words n (done ++ w ∷ []) todo (omega (arith, e, long)) (subst (AreWords h) (sym (shift done w todo)) are) in
      let here : at (place.Words n) done [] [] ≡ at (words_place n (length done)) done [] [] = ap (λ s. at s done [] []) (sym (open_words n (length done) (omega (arith, e)))) in
      let end = at place.StepCount (done ++ w ∷ todo) [] [] in
      let rest : Run q (map (word_line h.quiver) todo) end = subst (λ ws. Run q (map (word_line h.quiver) todo) (at place.StepCount ws [] [])) (shift done w todo)
      (subst (λ k. Run (at (words_place n k) (done ++ w ∷ []) [] []) (map (word_line h.quiver) todo) (at place.StepCount ((done ++ w ∷ []) ++ todo) [] [])) long more) in
      subst (λ r. Run r (map (word_line h.quiver) (w ∷ todo)) end) here
      (run_line p q end (word_line h.quiver w) (map (word_line h.quiver) todo) (λ c out o. word_clear c out h named w) refl (taken (FitsWord h done) (word_line h.quiver) (with_word p n) w fits (one_fitting_word h named done)) rest)

  reads_steps : (n : ℕ) (words : List Path) (done todo : List DerivationStep) → length done + length todo ≡ n → AreWrittenSteps h (done ++ todo)
      → Run (at (steps_place n (length done)) words done []) (step_lines h.quiver (length done + 1) todo) (at place.RuleCount words (done ++ todo) [])
  reads_steps n words done [] e are = run_none (at (steps_place n (length done)) words done []) (at place.RuleCount words (done ++ []) []) (λ i. at (sym (full_steps n (length done) (omega (arith, e))) i) words (append-nil done i) [])
  reads_steps n words done (x ∷ todo) e are =
      let p = at (place.Steps n) words done [] in
      let q = with_step p n x in
      let k = length done in
      let l = step_line h.quiver (k + 1) x in
      let fits = fits_step h done todo x are in
      let long = length-pushed done (done ++ x ∷ []) x refl in
      let more = reads_steps n words (done ++ x ∷ []) todo (omega (arith, e, long)) (subst (AreWrittenSteps h) (sym (shift done x todo)) are) in
      let here : at (place.Steps n) words done [] ≡ at (steps_place n k) words done [] = ap (λ s. at s words done []) (sym (open_steps n k (omega (arith, e)))) in
      let end = at place.RuleCount words (done ++ x ∷ todo) [] in
      let rest : Run q (step_lines h.quiver (k + 1 + 1) todo) end = subst (λ ss. Run q (step_lines h.quiver (k + 1 + 1) todo) (at place.RuleCount words ss [])) (shift done x todo)
      (subst (λ m. Run (at (steps_place n m) words (done ++ x ∷ []) []) (step_lines h.quiver (m + 1) todo) (at place.RuleCount words ((done ++ x ∷ []) ++ todo) [])) long more) in
      subst (λ r. Run r (step_lines h.quiver (k + 1) (x ∷ todo)) end) here
      (run_line p q end l (step_lines h.quiver (k + 1 + 1) todo) (λ c out o. step_clear c out h named few_relations k x fits) refl (taken (FitsStep h k) (step_line h.quiver (k + 1)) (with_step p n) x fits (one_fitting_step h named few_relations k (k + 1))) rest)

  behind_rules : (n : ℕ) (words : List Path) (steps : List DerivationStep) (rules : List Rule) → length rules ≡ n → at_rules (at (place.Rules n) words steps rules) n ≡ with_basis words steps rules
  behind_rules n words steps rules e = elim (eqb_tells (length rules) n) [
    | inl a ↦ ap (λ b. cond b (with_basis words steps rules) (at (place.Rules n) words steps rules)) a.0
    | inr a ↦ absurd (a.1 e)
  ]

  among_rules : (n : ℕ) (words : List Path) (steps : List DerivationStep) (rules : List Rule) → length rules < n → at_rules (at (place.Rules n) words steps rules) n ≡ at (place.Rules n) words steps rules
  among_rules n words steps rules l = elim (eqb_tells (length rules) n) [
    | inl a ↦ absurd (omega (arith, a.1, l))
    | inr a ↦ ap (λ b. cond b (with_basis words steps rules) (at (place.Rules n) words steps rules)) a.0
  ]

  reads_rules : (n : ℕ) (words : List Path) (steps : List DerivationStep) (done todo : List Rule) → length steps < 2 ^ 32 → length done + length todo ≡ n → AreWrittenRules h (length steps) (done ++ todo)
      → Run (at_rules (at (place.Rules n) words steps done) n) (map (rule_line h.quiver) todo) (with_basis words steps (done ++ todo))
  reads_rules n words steps done [] small e are = run_none (at_rules (at (place.Rules n) words steps done) n) (with_basis words steps (done ++ [])) (ap (λ l. with_basis words steps l) (append-nil done) ∙ sym (behind_rules n words steps done (omega (arith, e))))
  reads_rules n words steps done (x ∷ todo) small e are =
      let p = at (place.Rules n) words steps done in
      let q = with_rule p n x in
      let k = length done in
      let l = rule_line h.quiver x in
      let size = length-append done (x ∷ todo) in
      let few = are.few in
      let fits : FitsRule h (length steps) k x = record { few = small; room = omega arith; written = at_seam (IsWrittenRule h (length steps)) done x todo are.each } in
      let long = length-pushed done (done ++ x ∷ []) x refl in
      let more = reads_rules n words steps (done ++ x ∷ []) todo small (omega (arith, e, long)) (subst (AreWrittenRules h (length steps)) (sym (shift done x todo)) are) in
      let end = with_basis words steps (done ++ x ∷ todo) in
      subst (λ r. Run r (map (rule_line h.quiver) (x ∷ todo)) end) (sym (among_rules n words steps done (omega (arith, e))))
      (run_line p q end l (map (rule_line h.quiver) todo) (λ c out o. rule_clear c out h named (length steps) small x fits.written) refl
      (taken (FitsRule h (length steps) k) (rule_line h.quiver) (with_rule p n) x fits (one_fitting_rule h named (length steps) k))
      (subst (λ rs. Run q (map (rule_line h.quiver) todo) (with_basis words steps rs)) (shift done x todo) more))

  -- ---- the whole block

  count_of : (n : ℕ) → n < 2 ^ 32 → IsCount (decimal n)
  count_of n small = let big : 2 ^ 32 < 2 ^ 64 = lit< tt in record { value = n; numeral_is = (numeral-decimal (decimal n) n (omega arith)).1 refl }

  counts_as : (n : ℕ) → n < 2 ^ 32 → counted (decimal n) ≡ n
  unfolding count_of
  counts_as n small = ap (λ m. min m (2 ^ 32)) (count_of n small).numeral_is.writes.value ∙ min-eq_left (omega arith)

  one_numeral : (w : List ℕ) (a b : List ℕ) → IsCount a → IsCount b → w ∷ a ∷ [] ≡ w ∷ b ∷ [] → a ≡ b
  one_numeral w a b x y e = cc

  number : (n : ℕ) → n < 2 ^ 32 → n < 2 ^ 64
  number n small = let big : 2 ^ 32 < 2 ^ 64 = lit< tt in omega arith

  words_read : (words : List Path) → AreWords h words → Run (at place.WordCount [] [] []) (words_line (decimal (length words)) ∷ map (word_line h.quiver) words) (at place.StepCount words [] [])
  words_read words are =
      let n = length words in
      let p = at place.WordCount [] [] [] in
      let few = are.few in
      let big : 4096 < 2 ^ 64 = lit< tt in
      run_line p (with_word_count p n) (at place.StepCount words [] []) (words_line (decimal n)) (map (word_line h.quiver) words) (λ c out o. words_clear c out n (omega arith)) refl
      (takes_number (with_word_count p) (words_line (decimal n)) (decimal n ∷ []) n (with_word_count p n) refl are.few refl refl) (reads_words n [] words (omega arith) are)

  steps_read : (words : List Path) (steps : List DerivationStep) → AreWrittenSteps h steps
      → Run (at place.StepCount words [] []) (steps_line (decimal (length steps)) ∷ step_lines h.quiver 1 steps) (at place.RuleCount words steps [])
  steps_read words steps are =
      let n = length steps in
      let p = at place.StepCount words [] [] in
      let d = decimal n in
      run_line p (with_step_count p d) (at place.RuleCount words steps []) (steps_line d) (step_lines h.quiver 1 steps) (λ c out o. steps_clear c out n (number n are.few)) refl
      (taken IsCount steps_line (with_step_count p) d (count_of n are.few) (one_numeral (codes "steps")))
      (subst (λ m. Run (at (steps_place m 0) words [] []) (step_lines h.quiver 1 steps) (at place.RuleCount words steps [])) (sym (counts_as n are.few)) (reads_steps n words [] steps (omega arith) are))

  rules_read : (words : List Path) (steps : List DerivationStep) (rules : List Rule) → length steps < 2 ^ 32 → AreWrittenRules h (length steps) rules
      → Run (at place.RuleCount words steps []) (rules_line (decimal (length rules)) ∷ map (rule_line h.quiver) rules) (with_basis words steps rules)
  rules_read words steps rules small are =
      let n = length rules in
      let p = at place.RuleCount words steps [] in
      let d = decimal n in
      run_line p (with_rule_count p d) (with_basis words steps rules) (rules_line d) (map (rule_line h.quiver) rules) (λ c out o. rules_clear c out n (number n are.few)) refl
      (taken IsCount rules_line (with_rule_count p) d (count_of n are.few) (one_numeral (codes "rules")))
      (subst (λ m. Run (at_rules (at (place.Rules m) words steps []) m) (map (rule_line h.quiver) rules) (with_basis words steps rules)) (sym (counts_as n are.few)) (reads_rules n words steps [] rules small (omega arith) are))

  -- the lines behind the first one
  pub basis_read : (words : List Path) (steps : List DerivationStep) (rules : List Rule) → IsBasisBlock h words steps rules
      → Run (at place.WordCount [] [] []) (block_lines h.quiver words steps rules) (with_basis words steps rules)
  basis_read words steps rules block =
      let w = words_line (decimal (length words)) ∷ map (word_line h.quiver) words in
      let s = steps_line (decimal (length steps)) ∷ step_lines h.quiver 1 steps in
      let r = rules_line (decimal (length rules)) ∷ map (rule_line h.quiver) rules in
      run_append (at place.WordCount [] [] []) (at place.StepCount words [] []) (with_basis words steps rules) w (s ++ r) (words_read words block.are_words)
      (run_append (at place.StepCount words [] []) (at place.RuleCount words steps []) (with_basis words steps rules) s r (steps_read words steps block.are_steps) (rules_read words steps rules block.are_steps.few block.are_rules))
