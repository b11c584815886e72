-- A line leads what was read to one part.
use Rattle.std.specs.Prelude.{◌≡◌, ℕ, Bool, true, false, List, Option, None, Some}
use Rattle.std.proofs.Common.{sym, ap, ◌∙◌, subst}
use Rattle.text_lines.specs.Reading.{IsDetermined}
use Rattle.header_text.specs.Part.{Part as HeaderPart}
use Rattle.claim_blocks.specs.declared.block.Block.{Block}
use Rattle.claim_blocks.proofs.BlockLaws.{block_one}
use Rattle.claim_text.specs.declared.part.Place.{Place}
use Rattle.claim_text.specs.declared.part.Place.TheVariants as place
use Rattle.claim_text.specs.declared.part.Part.{Part}
use Rattle.claim_text.specs.Part.{at_block, with_word_count, with_word, with_step_count, with_step, with_rule_count, with_rule, with_matrix, with_item}
use Rattle.claim_text.specs.Steps.{Takes, TakesBlock, TokenStep, is_header_line, StepBy, Step}

same_some : {A : Type 0} (x y : A) → Some x ≡ Some y → x ≡ y
same_some x y same = cc

takes_one : {X : Type 0} (Fits : X → Type 0) (spell : X → List (List ℕ)) (taken : X → Part) (ts : List (List ℕ)) (q r : Part) → Takes Fits spell taken ts q → Takes Fits spell taken ts r → q ≡ r
takes_one Fits spell taken ts q r a b = a.leads ∙ ap taken (b.only a.item a.fits a.spelled) ∙ sym b.leads

block_tokens_one : (p : Part) (o : Option Block) (ts : List (List ℕ)) (q r : Part) → TakesBlock p o ts q → TakesBlock p o ts r → q ≡ r
block_tokens_one p None ts q r a b = absurd a
block_tokens_one p (Some now) ts q r a b = a.leads ∙ ap (at_block p) (block_one p.front.header a.named now a.now b.now ts a.step b.step) ∙ sym b.leads

tokens_one : (s : Place) (p : Part) (ts : List (List ℕ)) (q r : Part) → TokenStep s p ts q → TokenStep s p ts r → q ≡ r
tokens_one place.Title p ts q r a b = a.leads ∙ sym b.leads
tokens_one place.Header p ts q r a b = takes_one _ _ (with_item p) ts q r a.first b.first
tokens_one place.WordCount p ts q r a b = takes_one _ _ (with_word_count p) ts q r a b
tokens_one (place.Words n) p ts q r a b = takes_one _ _ (with_word p n) ts q r a b
tokens_one place.StepCount p ts q r a b = takes_one _ _ (with_step_count p) ts q r a b
tokens_one (place.Steps n) p ts q r a b = takes_one _ _ (with_step p n) ts q r a b
tokens_one place.RuleCount p ts q r a b = takes_one _ _ (with_rule_count p) ts q r a b
tokens_one (place.Rules n) p ts q r a b = takes_one _ _ (with_rule p n) ts q r a b
tokens_one place.Between p ts q r a b = takes_one _ _ (with_item p) ts q r a b
tokens_one (place.Matrices o) p ts q r a b = takes_one _ _ (with_matrix p o) ts q r a b
tokens_one place.Block p ts q r a b = block_tokens_one p p.block ts q r a b
tokens_one place.Ended p ts q r a b = absurd a

step_one : (b : Bool) (p : Part) (line : List ℕ) (q r : Part) → StepBy b p line q → StepBy b p line r → q ≡ r
step_one true p line q r a b = a.leads ∙ ap (λ (f : HeaderPart). record p { front = f }) (b.step.only a.front a.step.step) ∙ sym b.leads
step_one false p line q r a b =
    tokens_one p.place p b.tokens q r (subst (λ ts. TokenStep p.place p ts q) (same_some a.tokens b.tokens (sym a.lexed ∙ b.lexed)) a.step) b.step

-- a line leads to one part
pub Step-determined : IsDetermined Step
Step-determined p line q r a b = step_one (is_header_line p.place line) p line q r a b
