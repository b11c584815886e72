-- What fits has one spelling: words, steps and rules.
use Rattle.std.proofs.Common.{◌≡◌, ℕ, ◌<◌, ◌^◌, List, [], ◌∷◌, length, codes, refl, sym, arith}
use Rattle.quiver_paths.specs.declared.Path.{Path}
use Rattle.path_algebra.specs.declared.Header.{Header}
use Rattle.path_algebra.specs.declared.rules.Rule.{Rule}
use Rattle.path_algebra.specs.declared.rules.Step.{Step}
use Rattle.header_text.specs.Named.{IsNamed}
use Rattle.claim_lines.specs.Spelling.{word_line, step_line, rule_line}
use Rattle.claim_lines.specs.Items.{FitsWord, FitsStep, FitsRule}
use Rattle.claim_lines.specs.Reading.{rule_form}
use Rattle.claim_lines.proofs.NumberReading.{tail_is}
use Rattle.claim_lines.proofs.PathReading.{one_any_path}
use Rattle.claim_lines.proofs.StepReading.{one_step}
use Rattle.claim_lines.proofs.RuleReading.{one_rule_form, form_of_rule, rule_behind, rule_spelled}

word_same : (a b c : List ℕ) → a ∷ b ∷ [] ≡ a ∷ c ∷ [] → b ≡ c
word_same a b c e = cc

pub one_fitting_word : (h : Header) → IsNamed h.quiver → (words : List Path) (v w : Path) → FitsWord h words v → FitsWord h words w → word_line h.quiver v ≡ word_line h.quiver w → v ≡ w
one_fitting_word h named words v w a b e = one_any_path h.quiver named v w a.short.path b.short.path (word_same _ _ _ e)

pub one_fitting_step : (h : Header) → IsNamed h.quiver → length h.relations < 2 ^ 32 → (earlier k : ℕ) (s t : Step) → FitsStep h earlier s → FitsStep h earlier t → step_line h.quiver k s ≡ step_line h.quiver k t → s ≡ t
one_fitting_step h named few earlier k s t a b e =
    one_step h earlier named few (let room = a.room in omega arith) s t (a.named, a.factor) (b.named, b.factor) (tail_is _ _ _ _ (tail_is _ _ _ _ e))

pub one_fitting_rule : (h : Header) → IsNamed h.quiver → (steps earlier : ℕ) (r s : Rule) → FitsRule h steps earlier r → FitsRule h steps earlier s → rule_line h.quiver r ≡ rule_line h.quiver s → r ≡ s
one_fitting_rule h named steps earlier r s a b e =
    one_rule_form h named steps a.few r s (form_of_rule h steps r a.written) (form_of_rule h steps s b.written)
    (rule_behind h.quiver s (rule_line h.quiver r) (rule_form h.quiver r) (sym (rule_spelled h.quiver r (codes "rule" ∷ rule_form h.quiver r) (rule_form h.quiver r) refl refl)) e)
