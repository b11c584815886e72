-- What has been read of a basis spells the lines that were read.
use Rattle.std.proofs.Common.{◌≡◌, ℕ, List, [], ◌∷◌, ◌++◌, map, length, cond, decimal, inl, inr, sym, ap, ◌∙◌, subst, arith, append_assoc, append-nil, lit<}
use Rattle.std.proofs.lemmas.Bool.Decides.{eqb_tells}
use Rattle.std.proofs.lemmas.List.Elements.{All-nil}
use Rattle.quiver_paths.specs.declared.Path.{Path}
use Rattle.path_algebra.specs.declared.Header.{Header}
use Rattle.path_algebra.specs.declared.rules.Rule.{Rule}
use Rattle.path_algebra.specs.declared.rules.Step.{Step}
use Rattle.path_algebra.specs.BasisClauses.{HasFactor}
use Rattle.header_text.specs.Spelling.{header_lines}
use Rattle.report_types.specs.declared.claims.Claim.TheVariants as claim
use Rattle.report_types.specs.BasisBlocks.{AreWords, AreWrittenSteps, AreWrittenRules, IsWrittenRule}
use Rattle.claim_lines.specs.declared.heads.Head.TheVariants as head
use Rattle.claim_lines.specs.Spelling.{title_line, claim_line, words_line, word_line, steps_line, rules_line, rule_line}
use Rattle.claim_text.specs.declared.part.Place.TheVariants as place
use Rattle.claim_text.specs.declared.part.Part.{Part}
use Rattle.claim_text.specs.Spelling.{step_lines}
use Rattle.claim_text.specs.Part.{words_place, steps_place, claimed, at_rules}
use Rattle.claim_text.proofs.Reached.{Lines, rules_lines, WordsSound, StepsSound, counted_decimal}
use Rattle.claim_text.proofs.SoundObjects.{base_lines, Between, sound_basis}
use Rattle.claim_text.proofs.SoundPlaces.{AmongWords, AmongSteps, AmongRules, SoundAt, Sound}

-- behind k of n words
pub at_words : (p : Part) (n k : ℕ) (ls : Lines) → k ≡ length p.words → AmongWords p n ls → SoundAt (words_place n k) p ls
unfolding SoundAt
at_words p n k ls e s = elim (eqb_tells k n) [
  | inl same ↦ subst (λ b. SoundAt (cond b place.StepCount (place.Words n)) p ls) (sym same.0) (subst (λ m. AmongWords p m ls) (sym same.1 ∙ e) s)
  | inr other ↦ subst (λ b. SoundAt (cond b place.StepCount (place.Words n)) p ls) (sym other.0) s
]

pub at_steps : (p : Part) (n k : ℕ) (ls : Lines) → k ≡ length p.steps → AmongSteps p n ls → SoundAt (steps_place n k) p ls
unfolding SoundAt
at_steps p n k ls e s = elim (eqb_tells k n) [
  | inl same ↦
      let numeral : s.numeral ≡ decimal (length p.steps) = counted_decimal s.numeral (length p.steps) s.sound.is_count (s.counts ∙ (sym same.1 ∙ e)) s.sound.are_steps.few in
      subst (λ b. SoundAt (cond b place.RuleCount (place.Steps n)) p ls) (sym same.0)
      record { sound = subst (λ d. StepsSound p.front.header p.line p.words p.steps d ls) numeral s.sound; no_rule = s.no_rule; none = s.none }
  | inr other ↦ subst (λ b. SoundAt (cond b place.RuleCount (place.Steps n)) p ls) (sym other.0) s
]

pub no_steps : (h : Header) → AreWrittenSteps h []
no_steps h = record { few = lit< tt; named = record { named = λ k s l. absurd (omega arith) }; factors = All-nil (HasFactor h) }

pub no_rules : (h : Header) (n : ℕ) → AreWrittenRules h n []
no_rules h n = record { few = lit< tt; each = All-nil (IsWrittenRule h n) }

pub words_few : (h : Header) (line : ℕ) (words : List Path) (ls : Lines) → WordsSound h line words (length words) ls → AreWords h words
words_few h line words ls s = record { few = s.few; short = s.short; different = s.different }

-- ---- behind the rules

-- the lines of a basis
basis_lines : (h : Header) (line : ℕ) (words : List Path) (steps : List Step) (rules : List Rule)
    → rules_lines h line words steps (decimal (length rules)) rules ≡ base_lines h (record { line = line; modules = []; maps = []; claim = claim.Basis words steps rules } ∷ []) [] []
basis_lines h line words steps rules =
    flat (header_lines h) (claim_line 1 line head.Basis) (words_line (decimal (length words))) (map (word_line h.quiver) words) (steps_line (decimal (length steps))) (step_lines h.quiver 1 steps)
    (rules_line (decimal (length rules))) (map (rule_line h.quiver) rules)
  where
    flat : (hs : Lines) (b w : List (List ℕ)) (ws : Lines) (s : List (List ℕ)) (ss : Lines) (r : List (List ℕ)) (rs : Lines)
        → (((title_line ∷ (hs ++ b ∷ [])) ++ w ∷ ws) ++ s ∷ ss) ++ r ∷ rs ≡ title_line ∷ (hs ++ ((([] ++ ([] ++ (b ∷ (w ∷ (ws ++ (s ∷ (ss ++ r ∷ rs))))))) ++ []) ++ ([] ++ [])))
    flat hs b w ws s ss r rs = simp (append_assoc, append-nil)

pub sound_rules : (p : Part) (n : ℕ) (ls : Lines) → AmongRules p n ls → Sound (at_rules p n) ls
unfolding SoundAt
sound_rules p n ls s = elim (eqb_tells (length p.rules) n) [
  | inl same ↦
      let h = p.front.header in
      let c = claim.Basis p.words p.steps p.rules in
      let numeral : s.numeral ≡ decimal (length p.rules) = counted_decimal s.numeral (length p.rules) s.sound.is_count (s.counts ∙ sym same.1) s.sound.block.are_rules.few in
      let whole : Between h (record { line = p.line; modules = []; maps = []; claim = c } ∷ []) [] [] ls = record {
        base = sound_basis h p.line p.words p.steps p.rules s.sound.allowed s.sound.is_line s.sound.block;
        lines = s.sound.lines ∙ (ap (λ d. rules_lines h p.line p.words p.steps d p.rules) numeral ∙ basis_lines h p.line p.words p.steps p.rules);
      } in
      let records : record { line = p.line; modules = []; maps = []; claim = c } ∷ [] ≡ p.records ++ record { line = p.line; modules = []; maps = []; claim = c } ∷ [] =
      sym (λ i. s.none.no_record i ++ record { line = p.line; modules = []; maps = []; claim = c } ∷ []) in
      subst (λ b. Sound (cond b (claimed (record p { modules = []; maps = [] }) p.line c) (record p { place = place.Rules n })) ls) (sym same.0) (subst (λ rs. Between h rs [] [] ls) records whole)
  | inr other ↦ subst (λ b. Sound (cond b (claimed (record p { modules = []; maps = [] }) p.line (claim.Basis p.words p.steps p.rules)) (record p { place = place.Rules n })) ls) (sym other.0) record { numeral = s.numeral; counts = s.counts; sound = s.sound; none = record { no_record = s.none.no_record; no_module = s.none.no_module; no_map = s.none.no_map } }
]
