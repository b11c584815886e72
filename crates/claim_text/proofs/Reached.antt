-- What holds of what has been read of a report, and of the lines that were read.
use Rattle.std.proofs.Common.{◌≡◌, ◌≢◌, ℕ, ◌+◌, ◌<◌, ◌≤◌, ◌^◌, List, [], ◌∷◌, ◌++◌, map, length, get_or, decimal, inl, inr, refl, sym, ap, ◌∙◌, subst, arith, append_assoc, lit<}
use Rattle.std.specs.Prelude.{All, AllPairs, min}
use Rattle.std.specs.Str.Parse.{digits_value}
use Rattle.std.proofs.lemmas.Bool.{cases_lt}
use Rattle.std.proofs.lemmas.List.Quantifiers.{all_pairs_push}
use Rattle.std.proofs.lemmas.List.{map-append, length-append, get_or_append_left}
use Rattle.std.proofs.Math.Seq.{get_or-append_seam}
use Rattle.std.proofs.lemmas.List.Elements.{All-push}
use Rattle.quiver_paths.specs.declared.Path.{Path}
use Rattle.quiver_paths.specs.declared.Quiver.{Quiver}
use Rattle.path_algebra.specs.declared.Header.{Header}
use Rattle.path_algebra.specs.declared.rules.Rule.{Rule}
use Rattle.path_algebra.specs.declared.rules.Step.{Step}
use Rattle.path_algebra.specs.Allowed.{IsAllowed}
use Rattle.path_algebra.specs.Words.{IsShortPath}
use Rattle.path_algebra.specs.Derivations.{NamesEarlier, AreSteps}
use Rattle.path_algebra.specs.BasisClauses.{HasFactor}
use Rattle.text_lines.specs.Numerals.{IsNumeral}
use Rattle.text_lines.proofs.Digits.{numeral-decimal}
use Rattle.header_text.specs.Spelling.{header_lines}
use Rattle.report_types.specs.Limits.{IsLine, path_limit}
use Rattle.report_types.specs.BasisBlocks.{AreWords, AreWrittenSteps, IsWrittenRule, IsBasisBlock}
use Rattle.claim_lines.specs.Spelling.{title_line, claim_line, words_line, word_line, steps_line, step_line, rules_line, rule_line}
use Rattle.claim_lines.specs.declared.heads.Head.TheVariants as head
use Rattle.claim_text.specs.Spelling.{step_lines}
use Rattle.claim_lines.specs.Items.{IsCount, counted, FitsWord, FitsStep, FitsRule}

step_lines-push : (Q : Quiver) (k : ℕ) (steps : List Step) (s : Step) → step_lines Q k (steps ++ s ∷ []) ≡ step_lines Q k steps ++ step_line Q (k + length steps) s ∷ []
step_lines-push Q k [] s = ap (λ n. step_line Q n s ∷ []) (omega arith)
step_lines-push Q k (x ∷ steps) s =
    ap (λ r. step_line Q k x ∷ r) (step_lines-push Q (k + 1) steps s ∙ ap (λ n. step_lines Q (k + 1) steps ++ step_line Q n s ∷ []) (omega arith))

abbrev pub Lines : Type 0
Lines = List (List (List ℕ))

-- the lines up to that of the claim
abbrev pub head_lines : Header → ℕ → Lines
head_lines h line = title_line ∷ (header_lines h ++ claim_line 1 line head.Basis ∷ [])

abbrev pub words_lines : Header → ℕ → List ℕ → List Path → Lines
words_lines h line numeral words = head_lines h line ++ words_line numeral ∷ map (word_line h.quiver) words

abbrev pub steps_lines : Header → ℕ → List Path → List ℕ → List Step → Lines
steps_lines h line words numeral steps = words_lines h line (decimal (length words)) words ++ steps_line numeral ∷ step_lines h.quiver 1 steps

abbrev pub rules_lines : Header → ℕ → List Path → List Step → List ℕ → List Rule → Lines
rules_lines h line words steps numeral rules = steps_lines h line words (decimal (length steps)) steps ++ rules_line numeral ∷ map (rule_line h.quiver) rules

-- one line more of a block
pub block_push : (front : Lines) (first : List (List ℕ)) (old more new : Lines) → new ≡ old ++ more → (front ++ first ∷ old) ++ more ≡ front ++ first ∷ new
block_push front first old more new e = append_assoc front (first ∷ old) more ∙ ap (λ r. front ++ first ∷ r) (sym e)

-- a block's first line
pub block_first : (front : Lines) (first : List (List ℕ)) → front ++ first ∷ [] ≡ front ++ first ∷ []
block_first front first = refl

-- among words
pub record WordsSound (h : Header) (line : ℕ) (words : List Path) (n : ℕ) (ls : Lines) : Type 0 where
  pub allowed : IsAllowed h
  pub is_line : IsLine line
  pub few : n ≤ path_limit
  pub short : All (IsShortPath h) words
  pub different : AllPairs (λ (v w : Path). v ≢ w) words
  pub lines : ls ≡ words_lines h line (decimal n) words

-- among steps
pub record StepsSound (h : Header) (line : ℕ) (words : List Path) (steps : List Step) (numeral : List ℕ) (ls : Lines) : Type 0 where
  pub allowed : IsAllowed h
  pub is_line : IsLine line
  pub are_words : AreWords h words
  pub are_steps : AreWrittenSteps h steps
  pub is_count : IsCount numeral
  pub lines : ls ≡ steps_lines h line words numeral steps

-- among rules
pub record RulesSound (h : Header) (line : ℕ) (words : List Path) (steps : List Step) (rules : List Rule) (numeral : List ℕ) (ls : Lines) : Type 0 where
  pub allowed : IsAllowed h
  pub is_line : IsLine line
  pub block : IsBasisBlock h words steps rules
  pub is_count : IsCount numeral
  pub lines : ls ≡ rules_lines h line words steps numeral rules

named_push : (h : Header) (steps : List Step) (s : Step) → AreSteps h steps → NamesEarlier h (length steps) s → (k : ℕ) (d : Step) → k < length (steps ++ s ∷ []) → NamesEarlier h k (get_or (steps ++ s ∷ []) k d)
named_push h steps s are named k d l = elim (cases_lt k (length steps)) [
  | inl inside ↦ subst (NamesEarlier h k) (sym (get_or_append_left steps (s ∷ []) d k inside)) (are.named k d inside)
  | inr past ↦
      let long = length-append steps (s ∷ []) in
      let e : length steps ≡ k = omega arith in
      subst (λ i. NamesEarlier h i (get_or (steps ++ s ∷ []) i d)) e (subst (NamesEarlier h (length steps)) (sym (get_or-append_seam steps s [] d)) named)
]

pub words_push : (h : Header) (line : ℕ) (words : List Path) (n : ℕ) (ls : Lines) (w : Path) → WordsSound h line words n ls → FitsWord h words w
    → WordsSound h line (words ++ w ∷ []) n (ls ++ word_line h.quiver w ∷ [])
words_push h line words n ls w s fits = record {
  allowed = s.allowed;
  is_line = s.is_line;
  few = s.few;
  short = All-push (IsShortPath h) words w s.short fits.short;
  different = all_pairs_push (λ (u v : Path). u ≢ v) words w s.different (λ k d l. fits.new k d l);
  lines = ap (λ r. r ++ word_line h.quiver w ∷ []) s.lines
      ∙ block_push (head_lines h line) (words_line (decimal n)) (map (word_line h.quiver) words) (word_line h.quiver w ∷ []) (map (word_line h.quiver) (words ++ w ∷ [])) (map-append (word_line h.quiver) words (w ∷ []));
}

are_steps_push : (h : Header) (steps : List Step) (s : Step) → AreWrittenSteps h steps → FitsStep h (length steps) s → AreWrittenSteps h (steps ++ s ∷ [])
are_steps_push h steps s are fits = record {
  few = let l = length-append steps (s ∷ []) in let room = fits.room in omega arith;
  named = record { named = named_push h steps s are.named fits.named };
  factors = All-push (HasFactor h) steps s are.factors fits.factor;
}

pub steps_push : (h : Header) (line : ℕ) (words : List Path) (steps : List Step) (numeral : List ℕ) (ls : Lines) (s : Step) → StepsSound h line words steps numeral ls → FitsStep h (length steps) s
    → StepsSound h line words (steps ++ s ∷ []) numeral (ls ++ step_line h.quiver (length steps + 1) s ∷ [])
steps_push h line words steps numeral ls s sound fits = record {
  allowed = sound.allowed;
  is_line = sound.is_line;
  are_words = sound.are_words;
  are_steps = are_steps_push h steps s sound.are_steps fits;
  is_count = sound.is_count;
  lines = ap (λ r. r ++ step_line h.quiver (length steps + 1) s ∷ []) sound.lines
      ∙ block_push (words_lines h line (decimal (length words)) words) (steps_line numeral) (step_lines h.quiver 1 steps) (step_line h.quiver (length steps + 1) s ∷ []) (step_lines h.quiver 1 (steps ++ s ∷ []))
      (step_lines-push h.quiver 1 steps s ∙ ap (λ k. step_lines h.quiver 1 steps ++ step_line h.quiver k s ∷ []) (omega arith));
}

pub rules_push : (h : Header) (line : ℕ) (words : List Path) (steps : List Step) (rules : List Rule) (numeral : List ℕ) (ls : Lines) (r : Rule) → RulesSound h line words steps rules numeral ls
    → FitsRule h (length steps) (length rules) r → RulesSound h line words steps (rules ++ r ∷ []) numeral (ls ++ rule_line h.quiver r ∷ [])
rules_push h line words steps rules numeral ls r sound fits = record {
  allowed = sound.allowed;
  is_line = sound.is_line;
  block = record {
    are_words = sound.block.are_words;
    are_steps = sound.block.are_steps;
    are_rules = record {
      few = let l = length-append rules (r ∷ []) in let room = fits.room in omega arith;
      each = All-push (IsWrittenRule h (length steps)) rules r sound.block.are_rules.each fits.written;
    };
  };
  is_count = sound.is_count;
  lines = ap (λ x. x ++ rule_line h.quiver r ∷ []) sound.lines
      ∙ block_push (steps_lines h line words (decimal (length steps)) steps) (rules_line numeral) (map (rule_line h.quiver) rules) (rule_line h.quiver r ∷ []) (map (rule_line h.quiver) (rules ++ r ∷ [])) (map-append (rule_line h.quiver) rules (r ∷ []));
}

-- a numeral that counts as k < 2^32 is that of k
pub counted_decimal : (numeral : List ℕ) (k : ℕ) → IsCount numeral → counted numeral ≡ k → k < 2 ^ 32 → numeral ≡ decimal k
counted_decimal numeral k is e small =
    let big : 2 ^ 32 < 2 ^ 64 = lit< tt in
    let value : is.value ≡ k = sym is.numeral_is.writes.value ∙ below (digits_value 10 numeral) k e small in
    (numeral-decimal numeral k (omega arith)).0 (subst (IsNumeral numeral) value is.numeral_is)
  where
    below : (n k : ℕ) → min n (2 ^ 32) ≡ k → k < 2 ^ 32 → n ≡ k
    below n k e small = omega (arith, e)
