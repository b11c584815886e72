-- One line more: what the readers of a line give.
use Rattle.std.proofs.Common.{◌≡◌, ℕ, ◌+◌, ◌<◌, ◌≤◌, ◌^◌, List, [], ◌∷◌, ◌++◌, length, codes, decimal, Some, None, sym, ap, ◌∙◌, subst, arith, lit<}
use Rattle.quiver_paths.specs.declared.Path.{Path}
use Rattle.quiver_paths.proofs.ListLemmas.{length-pushed}
use Rattle.path_algebra.specs.declared.Header.{Header}
use Rattle.path_algebra.specs.declared.rules.Rule.{Rule}
use Rattle.path_algebra.specs.declared.rules.Step.{Step}
use Rattle.header_text.specs.Part.{Part as HeaderPart, IsFront}
use Rattle.header_text.specs.Reading.{Reads}
use Rattle.header_text.proofs.Uniqueness.{decimal_one}
use Rattle.report_types.specs.Limits.{path_limit}
use Rattle.claim_lines.specs.Spelling.{words_line, word_line, step_line, rule_line}
use Rattle.claim_lines.specs.Items.{IsCount, FitsWord, FitsStep, FitsRule}
use Rattle.claim_lines.specs.Reading.{IsCountOf}
use Rattle.claim_lines.proofs.NumberReading.{head_is, tail_is}
use Rattle.claim_lines.proofs.FittingLines.{one_fitting_word, one_fitting_step, one_fitting_rule}
use Rattle.claim_text.specs.declared.part.Place.{Place}
use Rattle.claim_text.specs.declared.part.Part.{Part}
use Rattle.claim_text.specs.Part.{words_place, steps_place, with_word_count, with_word, with_step, with_rule}
use Rattle.claim_text.specs.Steps.{Takes}

-- what was read leads to what is read with it
pub takes : {X : Type 0} (Fits : X → Type 0) (spell : X → List (List ℕ)) (taken : X → Part) (tokens : List (List ℕ)) (x : X) (next : Part) → Reads Fits spell tokens (Some x)
    → ((y z : X) → Fits y → Fits z → spell y ≡ spell z → y ≡ z) → next ≡ taken x → Takes Fits spell taken tokens next
takes Fits spell taken tokens x next reads one leads = record { item = x; fits = reads.0; spelled = reads.1; only = λ y is e. one y x is reads.0 (sym e ∙ reads.1); leads = leads }

-- nothing was read, and nothing may follow
pub takes_none : {X : Type 0} (Fits : X → Type 0) (spell : X → List (List ℕ)) (taken : X → Part) (tokens : List (List ℕ)) → Reads Fits spell tokens None → (next : Part) → Takes Fits spell taken tokens next → ⊥
takes_none Fits spell taken tokens none next t = none t.item t.fits t.spelled

-- a count behind its word
pub takes_count : (word : List ℕ) (taken : List ℕ → Part) (tokens rest : List (List ℕ)) (n : ℕ) (next : Part) → tokens ≡ word ∷ rest → (is : IsCountOf rest n) → next ≡ taken is.numeral
    → Takes IsCount (λ numeral. word ∷ numeral ∷ []) taken tokens next
takes_count word taken tokens rest n next e is leads = record {
  item = is.numeral;
  fits = is.is;
  spelled = e ∙ ap (λ r. word ∷ r) is.spelled;
  only = λ other fits same. one_numeral (tail_is _ _ _ _ (sym same ∙ (e ∙ ap (λ r. word ∷ r) is.spelled)));
  leads = leads;
}
  where
    one_numeral : {a b : List ℕ} → a ∷ [] ≡ b ∷ [] → a ≡ b
    one_numeral e = cc

pub no_count : (word : List ℕ) (taken : List ℕ → Part) (tokens rest : List (List ℕ)) → tokens ≡ word ∷ rest → ((numeral : List ℕ) → IsCount numeral → rest ≡ numeral ∷ [] → ⊥)
    → (next : Part) → Takes IsCount (λ numeral. word ∷ numeral ∷ []) taken tokens next → ⊥
no_count word taken tokens rest e none next t = none t.item t.fits (tail_is _ _ _ _ (sym e ∙ t.spelled))

pub no_count_word : (word : List ℕ) (taken : List ℕ → Part) (tokens : List (List ℕ)) → ((rest : List (List ℕ)) → tokens ≡ word ∷ rest → ⊥)
    → (next : Part) → Takes IsCount (λ numeral. word ∷ numeral ∷ []) taken tokens next → ⊥
no_count_word word taken tokens none next t = none (t.item ∷ []) t.spelled

-- a number of words behind its word
pub takes_number : (taken : ℕ → Part) (tokens rest : List (List ℕ)) (n : ℕ) (next : Part) → tokens ≡ codes "words" ∷ rest → n ≤ path_limit → rest ≡ decimal n ∷ [] → next ≡ taken n
    → Takes (λ k. k ≤ path_limit) (λ k. words_line (decimal k)) taken tokens next
takes_number taken tokens rest n next e small spelled leads = record {
  item = n;
  fits = small;
  spelled = e ∙ ap (λ r. codes "words" ∷ r) spelled;
  only = λ k fits same.
      let big : 4096 < 2 ^ 64 = lit< tt in
      decimal_one k n (omega arith) (omega arith) (head_is _ _ _ _ (tail_is _ _ _ _ (sym same ∙ (e ∙ ap (λ r. codes "words" ∷ r) spelled))));
  leads = leads;
}

pub no_number : (taken : ℕ → Part) (tokens rest : List (List ℕ)) → tokens ≡ codes "words" ∷ rest → ((n : ℕ) → n ≤ path_limit → rest ≡ decimal n ∷ [] → ⊥)
    → (next : Part) → Takes (λ k. k ≤ path_limit) (λ k. words_line (decimal k)) taken tokens next → ⊥
no_number taken tokens rest e none next t = none t.item t.fits (tail_is _ _ _ _ (sym e ∙ t.spelled))

-- a header has few relations
pub few_relations : (f : HeaderPart) → IsFront f → length f.header.relations < 2 ^ 32
few_relations f front = let few = front.few_relations in let big : 256 < 2 ^ 32 = lit< tt in omega arith

-- ---- one item more

pub leads_words : (p : Part) (n k : ℕ) (s : Place) → s ≡ words_place n k → k ≡ length p.words → record p { place = s } ≡ with_word_count p n
leads_words p n k s e f = ap (λ x. record p { place = x }) (e ∙ ap (words_place n) f)

pub leads_word : (p : Part) (n k : ℕ) (s : Place) (ws : List Path) (w : Path) → s ≡ words_place n k → k ≡ length ws → ws ≡ p.words ++ w ∷ [] → record p { place = s; words = ws } ≡ with_word p n w
leads_word p n k s ws w e f g = λ i. record p { place = (e ∙ ap (words_place n) (f ∙ length-pushed p.words ws w g)) i; words = g i }

pub leads_step : (p : Part) (n k : ℕ) (s : Place) (ss : List Step) (t : Step) → s ≡ steps_place n k → k ≡ length ss → ss ≡ p.steps ++ t ∷ [] → record p { place = s; steps = ss } ≡ with_step p n t
leads_step p n k s ss t e f g = λ i. record p { place = (e ∙ ap (steps_place n) (f ∙ length-pushed p.steps ss t g)) i; steps = g i }

pub takes_word : (p : Part) (n : ℕ) (h : Header) (words : List Path) (tokens : List (List ℕ)) (w : Path) (next : Part) → IsFront p.front → h ≡ p.front.header → words ≡ p.words
    → Reads (FitsWord h words) (word_line h.quiver) tokens (Some w) → next ≡ with_word p n w
    → Takes (FitsWord p.front.header p.words) (word_line p.front.header.quiver) (with_word p n) tokens next
takes_word p n h words tokens w next front e f reads leads =
    takes (FitsWord p.front.header p.words) (word_line p.front.header.quiver) (with_word p n) tokens w next
    (subst (λ (g : Header). Reads (FitsWord g p.words) (word_line g.quiver) tokens (Some w)) e (subst (λ ws. Reads (FitsWord h ws) (word_line h.quiver) tokens (Some w)) f reads))
    (one_fitting_word p.front.header front.named p.words) leads

pub takes_step : (p : Part) (n : ℕ) (h : Header) (k : ℕ) (tokens : List (List ℕ)) (s : Step) (next : Part) → IsFront p.front → h ≡ p.front.header → k ≡ length p.steps
    → Reads (FitsStep h k) (step_line h.quiver (k + 1)) tokens (Some s) → next ≡ with_step p n s
    → Takes (FitsStep p.front.header (length p.steps)) (step_line p.front.header.quiver (length p.steps + 1)) (with_step p n) tokens next
takes_step p n h k tokens s next front e f reads leads =
    takes (FitsStep p.front.header (length p.steps)) (step_line p.front.header.quiver (length p.steps + 1)) (with_step p n) tokens s next
    (subst (λ (g : Header). Reads (FitsStep g (length p.steps)) (step_line g.quiver (length p.steps + 1)) tokens (Some s)) e (subst (λ m. Reads (FitsStep h m) (step_line h.quiver (m + 1)) tokens (Some s)) f reads))
    (one_fitting_step p.front.header front.named (few_relations p.front front) (length p.steps) (length p.steps + 1)) leads

pub takes_rule : (p : Part) (n : ℕ) (h : Header) (j k : ℕ) (tokens : List (List ℕ)) (r : Rule) (next : Part) → IsFront p.front → h ≡ p.front.header → j ≡ length p.steps → k ≡ length p.rules
    → Reads (FitsRule h j k) (rule_line h.quiver) tokens (Some r) → next ≡ with_rule p n r
    → Takes (FitsRule p.front.header (length p.steps) (length p.rules)) (rule_line p.front.header.quiver) (with_rule p n) tokens next
takes_rule p n h j k tokens r next front e f g reads leads =
    takes (FitsRule p.front.header (length p.steps) (length p.rules)) (rule_line p.front.header.quiver) (with_rule p n) tokens r next
    (subst (λ (x : Header). Reads (FitsRule x (length p.steps) (length p.rules)) (rule_line x.quiver) tokens (Some r)) e
    (subst (λ m. Reads (FitsRule h m (length p.rules)) (rule_line h.quiver) tokens (Some r)) f (subst (λ m. Reads (FitsRule h j m) (rule_line h.quiver) tokens (Some r)) g reads)))
    (one_fitting_rule p.front.header front.named (length p.steps) (length p.rules)) leads
