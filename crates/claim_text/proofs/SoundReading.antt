-- What has been read of a report spells the lines that were read.
use Rattle.std.proofs.Common.{◌≡◌, ◌≢◌, ℕ, ◌+◌, Bool, true, false, List, [], ◌∷◌, ◌++◌, map, length, decimal, refl, sym, ap, ◌∙◌, subst, arith, append_assoc, append-nil}
use Rattle.std.specs.Prelude.{All, AllPairs}
use Rattle.std.specs.List.{concat}
use Rattle.std.proofs.lemmas.List.Elements.{All-nil}
use Rattle.quiver_paths.specs.declared.Path.{Path}
use Rattle.quiver_paths.proofs.ListLemmas.{length-pushed}
use Rattle.path_algebra.specs.declared.rules.Rule.{Rule}
use Rattle.path_algebra.specs.declared.rules.Step.{Step}
use Rattle.path_algebra.specs.Words.{IsShortPath}
use Rattle.text_lines.specs.Lines.{lines}
use Rattle.text_lines.specs.Strict.{strict_line}
use Rattle.text_lines.specs.Reading.{Reads, ReadsWhole}
use Rattle.text_lines.proofs.Cutting.{concat-lines}
use Rattle.text_lines.proofs.StrictLaws.{strict_line-of_tokens}
use Rattle.header_text.specs.Spelling.{text_of}
use Rattle.header_text.specs.Part.{start as header_start, IsStart, IsFront, tokens_of, part_lines}
use Rattle.header_text.proofs.FrontLemmas.{front_after, lines_after, lines_at_start, start_front}
use Rattle.report_types.specs.BasisBlocks.{AreWrittenSteps, AreWrittenRules}
use Rattle.claim_lines.specs.Spelling.{title_line, words_line, steps_line, rules_line}
use Rattle.claim_lines.specs.Items.{counted}
use Rattle.claim_text.specs.declared.part.Place.{Place}
use Rattle.claim_text.specs.declared.part.Place.TheVariants as place
use Rattle.claim_text.specs.declared.part.Part.{Part}
use Rattle.claim_text.specs.Part.{start, report_of, here, with_title, with_word_count, with_word, with_step_count, with_step, with_matrix, with_item}
use Rattle.claim_text.specs.Steps.{TokenStep, LexedStep, FrontStep, is_header_line, StepBy, Step as ReportStep, MayEnd}
use Rattle.claim_text.specs.Texts.{IsTextOf}
use Rattle.claim_text.proofs.Reached.{Lines, head_lines, words_lines, steps_lines, rules_lines, WordsSound, StepsSound, RulesSound, words_push, steps_push, rules_push}
use Rattle.claim_text.proofs.SoundPlaces.{HeaderSound, Whole, SoundAt, Sound, one_more}
use Rattle.claim_text.proofs.SoundBasis.{at_words, at_steps, no_steps, no_rules, words_few, sound_rules}
use Rattle.claim_text.proofs.SoundMatrices.{sound_matrix}
use Rattle.claim_text.proofs.SoundLines.{sound_line}
use Rattle.claim_text.proofs.SoundItems.{sound_item, sound_first}

-- ---- all places

header_starts : IsStart header_start
header_starts = record { unbegun = refl; no_vertex = refl; no_arrow = refl; unbound = refl; no_relation = refl }

sound_title : (p q : Part) (ls : Lines) (ts : List (List ℕ)) → SoundAt place.Title p ls → TokenStep place.Title p ts q → Sound q (ls ++ ts ∷ [])
unfolding SoundAt
sound_title p q ls ts s step =
    subst (λ (r : Part). SoundAt r.place r (ls ++ ts ∷ [])) (sym (step.leads ∙ ap with_title s.0))
    record {
      front = start_front header_start header_starts;
      bare = record { no_word = refl; no_step = refl; no_rule = refl; none = record { no_record = refl; no_module = refl; no_map = refl } };
      lines = one_more ls ts title_line [] step.title s.1 ∙ ap (λ l. title_line ∷ l) (sym (lines_at_start header_start header_starts));
    }

sound_tokens : (s : Place) (p q : Part) (ls : Lines) (ts : List (List ℕ)) → SoundAt s p ls → TokenStep s p ts q → Sound q (ls ++ ts ∷ [])
unfolding SoundAt
sound_tokens place.Title p q ls ts s step = sound_title p q ls ts s step
sound_tokens place.Header p q ls ts s step =
    let t = step.first in
    subst (λ (r : Part). Sound r (ls ++ ts ∷ [])) (sym t.leads) (subst (λ l. Sound (with_item p t.item) (ls ++ l ∷ [])) (sym t.spelled) (sound_first p ls t.item s step.ends t.fits))
sound_tokens place.WordCount p q ls ts s t =
    let n = t.item in
    let h = p.front.header in
    subst (λ (r : Part). SoundAt r.place r (ls ++ ts ∷ [])) (sym t.leads)
    (at_words (with_word_count p n) n (length p.words) (ls ++ ts ∷ []) refl
    record {
      sound = record {
        allowed = s.allowed;
        is_line = s.is_line;
        few = t.fits;
        short = subst (All (IsShortPath h)) (sym s.bare.no_word) (All-nil (IsShortPath h));
        different = subst (AllPairs (λ (v w : Path). v ≢ w)) (sym s.bare.no_word) (λ i j d a b. absurd (omega arith));
        lines = one_more ls ts (words_line (decimal n)) (head_lines h p.line) t.spelled s.lines ∙ ap (λ (ws : List Path). words_lines h p.line (decimal n) ws) (sym s.bare.no_word);
      };
      no_step = s.bare.no_step;
      no_rule = s.bare.no_rule;
      none = record { no_record = s.bare.none.no_record; no_module = s.bare.none.no_module; no_map = s.bare.none.no_map };
    })
sound_tokens (place.Words n) p q ls ts s t =
    let w = t.item in
    subst (λ (r : Part). SoundAt r.place r (ls ++ ts ∷ [])) (sym t.leads)
    (at_words (with_word p n w) n (length p.words + 1) (ls ++ ts ∷ []) (sym (length-pushed p.words (p.words ++ w ∷ []) w refl))
    record {
      sound = subst (λ x. WordsSound p.front.header p.line (p.words ++ w ∷ []) n (ls ++ x ∷ [])) (sym t.spelled) (words_push p.front.header p.line p.words n ls w s.sound t.fits);
      no_step = s.no_step;
      no_rule = s.no_rule;
      none = record { no_record = s.none.no_record; no_module = s.none.no_module; no_map = s.none.no_map };
    })
sound_tokens place.StepCount p q ls ts s t =
    let d = t.item in
    let h = p.front.header in
    subst (λ (r : Part). SoundAt r.place r (ls ++ ts ∷ [])) (sym t.leads)
    (at_steps (with_step_count p d) (counted d) (length p.steps) (ls ++ ts ∷ []) refl
    record {
      numeral = d;
      counts = refl;
      sound = record {
        allowed = s.sound.allowed;
        is_line = s.sound.is_line;
        are_words = words_few h p.line p.words ls s.sound;
        are_steps = subst (AreWrittenSteps h) (sym s.no_step) (no_steps h);
        is_count = t.fits;
        lines = one_more ls ts (steps_line d) (words_lines h p.line (decimal (length p.words)) p.words) t.spelled s.sound.lines ∙ ap (λ (ss : List Step). steps_lines h p.line p.words d ss) (sym s.no_step);
      };
      no_rule = s.no_rule;
      none = record { no_record = s.none.no_record; no_module = s.none.no_module; no_map = s.none.no_map };
    })
sound_tokens (place.Steps n) p q ls ts s t =
    let x = t.item in
    subst (λ (r : Part). SoundAt r.place r (ls ++ ts ∷ [])) (sym t.leads)
    (at_steps (with_step p n x) n (length p.steps + 1) (ls ++ ts ∷ []) (sym (length-pushed p.steps (p.steps ++ x ∷ []) x refl))
    record {
      numeral = s.numeral;
      counts = s.counts;
      sound = subst (λ y. StepsSound p.front.header p.line p.words (p.steps ++ x ∷ []) s.numeral (ls ++ y ∷ [])) (sym t.spelled) (steps_push p.front.header p.line p.words p.steps s.numeral ls x s.sound t.fits);
      no_rule = s.no_rule;
      none = record { no_record = s.none.no_record; no_module = s.none.no_module; no_map = s.none.no_map };
    })
sound_tokens place.RuleCount p q ls ts s t =
    let d = t.item in
    let h = p.front.header in
    subst (λ (r : Part). Sound r (ls ++ ts ∷ [])) (sym t.leads)
    (sound_rules p (counted d) (ls ++ ts ∷ [])
    record {
      numeral = d;
      counts = refl;
      sound = record {
        allowed = s.sound.allowed;
        is_line = s.sound.is_line;
        block = record { are_words = s.sound.are_words; are_steps = s.sound.are_steps; are_rules = subst (AreWrittenRules h (length p.steps)) (sym s.no_rule) (no_rules h (length p.steps)) };
        is_count = t.fits;
        lines = one_more ls ts (rules_line d) (steps_lines h p.line p.words (decimal (length p.steps)) p.steps) t.spelled s.sound.lines ∙ ap (λ (rs : List Rule). rules_lines h p.line p.words p.steps d rs) (sym s.no_rule);
      };
      none = s.none;
    })
sound_tokens (place.Rules n) p q ls ts s t =
    let x = t.item in
    subst (λ (r : Part). Sound r (ls ++ ts ∷ [])) (sym t.leads)
    (sound_rules (record p { rules = p.rules ++ x ∷ [] }) n (ls ++ ts ∷ [])
    record {
      numeral = s.numeral;
      counts = s.counts;
      sound = subst (λ y. RulesSound p.front.header p.line p.words p.steps (p.rules ++ x ∷ []) s.numeral (ls ++ y ∷ [])) (sym t.spelled) (rules_push p.front.header p.line p.words p.steps p.rules s.numeral ls x s.sound t.fits);
      none = record { no_record = s.none.no_record; no_module = s.none.no_module; no_map = s.none.no_map };
    })
sound_tokens place.Between p q ls ts s t =
    subst (λ (r : Part). Sound r (ls ++ ts ∷ [])) (sym t.leads) (subst (λ l. Sound (with_item p t.item) (ls ++ l ∷ [])) (sym t.spelled) (sound_item p ls t.item s t.fits))
sound_tokens (place.Matrices o) p q ls ts s t =
    subst (λ (r : Part). Sound r (ls ++ ts ∷ [])) (sym t.leads) (subst (λ l. Sound (with_matrix p o t.item) (ls ++ l ∷ [])) (sym t.spelled) (sound_matrix p o ls t.item s t.fits))
sound_tokens place.Block p q ls ts s t = sound_line p q p.block ls ts s t
sound_tokens place.Ended p q ls ts s step = absurd step

-- one line more, and its tokens
record SoundStep (q : Part) (ls : Lines) (line : List ℕ) : Type 0 where
  tokens : List (List ℕ)
  spelled : line ≡ strict_line tokens
  sound : SoundAt q.place q (ls ++ tokens ∷ [])

sound_lexed : (p q : Part) (ls : Lines) (line : List ℕ) → SoundAt p.place p ls → LexedStep p line q → SoundStep q ls line
sound_lexed p q ls line s step = record {
  tokens = step.tokens;
  spelled = strict_line-of_tokens line step.tokens step.lexed;
  sound = sound_tokens p.place p q ls step.tokens s step.step;
}

sound_front : (p q : Part) (ls : Lines) (line : List ℕ) → p.place ≡ place.Header → HeaderSound p ls → FrontStep p line q → SoundStep q ls line
unfolding SoundAt
sound_front p q ls line here s step =
    let x = step.step.step.form in
    let fits = step.step.step.follows.1 in
    let ts = tokens_of p.front x in
    let f = step.front in
    let leads = step.step.step.leads in
    let e : ls ++ ts ∷ [] ≡ title_line ∷ part_lines f = ap (λ l. l ++ ts ∷ []) s.lines ∙ ap (λ l. title_line ∷ l) (sym (lines_after p.front x s.front fits) ∙ ap part_lines (sym leads)) in
    let sound : HeaderSound (record p { front = f }) (ls ++ ts ∷ []) = record { front = subst IsFront (sym leads) (front_after p.front x s.front fits); bare = record { no_word = s.bare.no_word; no_step = s.bare.no_step; no_rule = s.bare.no_rule; none = record { no_record = s.bare.none.no_record; no_module = s.bare.none.no_module; no_map = s.bare.none.no_map } }; lines = e } in
    record {
      tokens = ts;
      spelled = strict_line-of_tokens line ts step.step.step.spelled;
      sound = subst (λ (r : Part). SoundAt r.place r (ls ++ ts ∷ [])) (sym step.leads) (subst (λ (w : Place). SoundAt w (record p { front = f }) (ls ++ ts ∷ [])) (sym here) sound);
    }

not_header : (s : Place) (line : List ℕ) → false ≡ true → s ≡ place.Header
not_header s line e = absurd (clash e)
  where
    clash : false ≡ true → ⊥
    clash e = cc

is_header : (s : Place) (line : List ℕ) → is_header_line s line ≡ true → s ≡ place.Header
is_header place.Header line e = refl
is_header place.Title line e = not_header place.Title line e
is_header place.WordCount line e = not_header place.WordCount line e
is_header (place.Words n) line e = not_header (place.Words n) line e
is_header place.StepCount line e = not_header place.StepCount line e
is_header (place.Steps n) line e = not_header (place.Steps n) line e
is_header place.RuleCount line e = not_header place.RuleCount line e
is_header (place.Rules n) line e = not_header (place.Rules n) line e
is_header place.Between line e = not_header place.Between line e
is_header (place.Matrices o) line e = not_header (place.Matrices o) line e
is_header place.Block line e = not_header place.Block line e
is_header place.Ended line e = not_header place.Ended line e

sound_by : (b : Bool) (p q : Part) (ls : Lines) (line : List ℕ) → is_header_line p.place line ≡ b → SoundAt p.place p ls → StepBy b p line q → SoundStep q ls line
unfolding SoundAt
sound_by true p q ls line e s step = let here = is_header p.place line e in sound_front p q ls line here (subst (λ w. SoundAt w p ls) here s) step
sound_by false p q ls line e s step = sound_lexed p q ls line s step

-- the lines that were read, and their tokens
record SoundLines (q : Part) (ls : Lines) (xs : List (List ℕ)) : Type 0 where
  more : Lines
  spelled : xs ≡ map strict_line more
  sound : SoundAt q.place q (ls ++ more)

sound_reads : (p q : Part) (ls : Lines) (xs : List (List ℕ)) → SoundAt p.place p ls → Reads ReportStep p xs q → SoundLines q ls xs
sound_reads p q ls [] s e = record { more = []; spelled = refl; sound = subst (λ (r : Part). SoundAt r.place r (ls ++ [])) (sym e) (subst (SoundAt p.place p) (sym (append-nil ls)) s) }
sound_reads p q ls (x ∷ xs) s reads =
    let one = sound_by (is_header_line p.place x) p reads.0 ls x refl s reads.1 in
    let more = sound_reads reads.0 q (ls ++ one.tokens ∷ []) xs one.sound reads.2 in
    record {
      more = one.tokens ∷ more.more;
      spelled = ap (λ y. y ∷ xs) one.spelled ∙ ap (λ l. strict_line one.tokens ∷ l) more.spelled;
      sound = subst (SoundAt q.place q) (append_assoc ls (one.tokens ∷ []) more.more) more.sound;
    }

-- what is read whole is the spelling of a report
pub read_is_report : (text : List ℕ) (q : Part) → ReadsWhole ReportStep MayEnd start (lines text) q → IsTextOf text (report_of q)
unfolding SoundAt
read_is_report text q whole =
    let all = sound_reads start q [] (lines text) (refl, refl) whole.reads in
    let last : Whole q all.more = subst (λ w. SoundAt w q all.more) whole.ends all.sound in
    record {
      report_is = last.is;
      spelled = sym (concat-lines text) ∙ (ap concat all.spelled ∙ ap text_of last.lines);
    }
