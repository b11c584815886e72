-- Lines of tokens that are read one behind the other, none of which has a line feed in a token.
use Rattle.std.proofs.Common.{◌≡◌, ℕ, false, List, [], ◌∷◌, ◌++◌, map, refl, sym, subst}
use Rattle.std.specs.Prelude.{All}
use Rattle.std.proofs.lemmas.List.{map-append}
use Rattle.std.proofs.lemmas.List.Elements.{All-nil, All-cons, All-append}
use Rattle.text_lines.specs.Parts.{Lacks}
use Rattle.text_lines.specs.Strict.{strict_line}
use Rattle.text_lines.specs.Reading.{Reads}
use Rattle.text_lines.proofs.Readings.{Reads-append}
use Rattle.text_lines.proofs.StrictLaws.{strict_tokens-strict_line}
use Rattle.object_lines.proofs.ClearLines.{StandsOutside, space_stands, feed_stands}
use Rattle.claim_lines.proofs.Clear.{Outside, ClearLine, space, feed}
use Rattle.claim_text.specs.declared.part.Part.{Part}
use Rattle.claim_text.specs.Steps.{Takes, TokenStep, is_header_line, StepBy, Step}

pub record Run (p : Part) (ls : List (List (List ℕ))) (q : Part) : Type 0 where
  pub reads : Reads Step p (map strict_line ls) q
  pub lacks : All (All (Lacks 10)) ls

-- a line of tokens that may follow at a place
step_of : (p q : Part) (ts : List (List ℕ)) → ClearLine 32 ts → is_header_line p.place (strict_line ts) ≡ false → TokenStep p.place p ts q → Step p (strict_line ts) q
step_of p q ts clear e step = subst (λ b. StepBy b p (strict_line ts) q) (sym e) record { tokens = ts; lexed = strict_tokens-strict_line ts clear.some clear.lacks; step = step }

pub taken : {X : Type 0} (Fits : X → Type 0) (spell : X → List (List ℕ)) (with : X → Part) (x : X) → Fits x → ((y z : X) → Fits y → Fits z → spell y ≡ spell z → y ≡ z) → Takes Fits spell with (spell x) (with x)
taken Fits spell with x is one = record { item = x; fits = is; spelled = refl; only = λ y also e. one y x also is (sym e); leads = refl }

pub run_none : (p q : Part) → q ≡ p → Run p [] q
run_none p q e = record { reads = e; lacks = All-nil (All (Lacks 10)) }

pub run_line : (p q r : Part) (ts : List (List ℕ)) (ls : List (List (List ℕ))) → ((c : ℕ) → Outside c → StandsOutside c → ClearLine c ts) → is_header_line p.place (strict_line ts) ≡ false → TokenStep p.place p ts q → Run q ls r → Run p (ts ∷ ls) r
run_line p q r ts ls clear e step more = record {
  reads = (q, step_of p q ts (clear 32 space space_stands) e step, more.reads);
  lacks = All-cons (All (Lacks 10)) ts ls (clear 10 feed feed_stands).lacks more.lacks;
}

pub run_append : (p q r : Part) (ls ms : List (List (List ℕ))) → Run p ls q → Run q ms r → Run p (ls ++ ms) r
run_append p q r ls ms a b = record {
  reads = subst (λ xs. Reads Step p xs r) (sym (map-append strict_line ls ms)) (Reads-append Step p q r (map strict_line ls) (map strict_line ms) a.reads b.reads);
  lacks = All-append (All (Lacks 10)) ls ms a.lacks b.lacks;
}
