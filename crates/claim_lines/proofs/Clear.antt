-- The tokens of the lines of a report have no space and no line feed.
use Rattle.std.proofs.Common.{◌≡◌, ◌≢◌, ℕ, ◌+◌, ◌<◌, ◌≤◌, ◌^◌, true, false, List, [], ◌∷◌, ◌++◌, map, length, eqb, codes, decimal, refl, sym, ap, ◌∙◌, arith, lit<}
use Rattle.std.specs.Prelude.{All}
use Rattle.std.specs.List.{list_all}
use Rattle.std.proofs.lemmas.Bool.{eqb-true, false_from_ne_true}
use Rattle.std.proofs.lemmas.List.Sums.{AllPass-from_list_all}
use Rattle.std.proofs.lemmas.List.Elements.{All-nil, All-cons, All-append, All-weaker, All-map}
use Rattle.linear_algebra.specs.Field.{order}
use Rattle.quiver_paths.specs.declared.Path.{Path}
use Rattle.quiver_paths.specs.declared.Quiver.{Quiver}
use Rattle.quiver_paths.specs.Name.{is_name_byte}
use Rattle.path_algebra.specs.declared.Term.{Term}
use Rattle.path_algebra.specs.declared.Header.{Header}
use Rattle.path_algebra.specs.declared.rules.Rule.{Rule}
use Rattle.path_algebra.specs.declared.rules.Step.{Step}
use Rattle.path_algebra.specs.declared.rules.Step.TheVariants as step
use Rattle.path_algebra.specs.Rules.{AreElementTerms}
use Rattle.text_lines.specs.Parts.{Lacks}
use Rattle.header_text.specs.Spelling.{arrow_name, path_text, coefficient_text, term_text}
use Rattle.header_text.specs.Named.{IsNamed}
use Rattle.header_text.proofs.Clean.{IsOutside, space_outside, feed_outside, decimal_lacks, arrow_name_lacks, path_lacks, coefficient_lacks, lacks_append, lacks_cons, plus_between_lacks}
use Rattle.header_text.proofs.Readers.{order_small}
use Rattle.report_types.specs.Limits.{IsLine}
use Rattle.report_types.specs.BasisBlocks.{IsWrittenRule}
use Rattle.claim_lines.specs.Spelling.{title_line, words_line, word_line, steps_line, step_form, step_line, rules_line, tail_form, rule_line}
use Rattle.claim_lines.specs.Items.{FitsStep}

-- a byte that stands in no token of a report
pub record Outside (c : ℕ) : Type 0 where
  pub out : IsOutside c
  pub dash : eqb 45 c ≡ false
  pub greater : eqb 62 c ≡ false

pub space : Outside 32
space = record { out = space_outside; dash = refl; greater = refl }

pub feed : Outside 10
feed = record { out = feed_outside; dash = refl; greater = refl }

-- tokens without the byte, at least one
pub record ClearLine (c : ℕ) (ts : List (List ℕ)) : Type 0 where
  pub some : ts ≢ []
  pub lacks : All (Lacks c) ts

clash : true ≡ false → ⊥
clash e = cc

some_token : (t : List ℕ) (ts : List (List ℕ)) → t ∷ ts ≢ []
some_token t ts e = none t ts e
  where
    none : (t : List ℕ) (ts : List (List ℕ)) → t ∷ ts ≡ [] → ⊥
    none t ts e = cc

pub below : (n m : ℕ) → n ≤ m → m < 2 ^ 32 → n < 2 ^ 64
below n m a b = let big : 2 ^ 32 < 2 ^ 64 = lit< tt in omega arith

pub line_below : (n : ℕ) → IsLine n → n < 2 ^ 64
line_below n is = let to = is.to in let big : 4194304 < 2 ^ 64 = lit< tt in omega arith

module _ (c : ℕ) (o : Outside c) where
  -- a word of letters and digits
  pub word_lacks : (w : List ℕ) → list_all is_name_byte w ≡ true → Lacks c w
  word_lacks w e =
      All-weaker (λ b. is_name_byte b ≡ true) (λ b. eqb b c ≡ false)
      (λ b name. false_from_ne_true (eqb b c) (λ s. clash (sym name ∙ (ap is_name_byte (eqb-true b c s) ∙ o.out.name)))) w (AllPass-from_list_all is_name_byte w e)

  pub number_lacks : (n : ℕ) → n < 2 ^ 64 → Lacks c (decimal n)
  number_lacks n h = decimal_lacks c o.out.digit n h

  pub nothing : All (Lacks c) []
  nothing = All-nil (Lacks c)

  pub more : (t : List ℕ) (ts : List (List ℕ)) → Lacks c t → All (Lacks c) ts → All (Lacks c) (t ∷ ts)
  more t ts a b = All-cons (Lacks c) t ts a b

  pub line : (t : List ℕ) (ts : List (List ℕ)) → Lacks c t → All (Lacks c) ts → ClearLine c (t ∷ ts)
  line t ts a b = record { some = some_token t ts; lacks = more t ts a b }

  pub title_clear : ClearLine c title_line
  title_clear = line (codes "report") (codes "1" ∷ []) (word_lacks (codes "report") refl) (more (codes "1") [] (word_lacks (codes "1") refl) nothing)

  pub count_clear : (w : List ℕ) (n : ℕ) → list_all is_name_byte w ≡ true → n < 2 ^ 64 → ClearLine c (w ∷ decimal n ∷ [])
  count_clear w n e h = line w (decimal n ∷ []) (word_lacks w e) (more (decimal n) [] (number_lacks n h) nothing)

  pub words_clear : (n : ℕ) → n < 2 ^ 64 → ClearLine c (words_line (decimal n))
  words_clear n h = count_clear (codes "words") n refl h

  pub steps_clear : (n : ℕ) → n < 2 ^ 64 → ClearLine c (steps_line (decimal n))
  steps_clear n h = count_clear (codes "steps") n refl h

  pub rules_clear : (n : ℕ) → n < 2 ^ 64 → ClearLine c (rules_line (decimal n))
  rules_clear n h = count_clear (codes "rules") n refl h

  pub path_clear : (Q : Quiver) → IsNamed Q → (p : Path) → Lacks c (path_text Q p)
  path_clear Q named p = path_lacks c o.out.name o.out.dot o.out.at_sign Q named p.start p.arrows

  pub word_clear : (h : Header) → IsNamed h.quiver → (w : Path) → ClearLine c (word_line h.quiver w)
  word_clear h named w = line (codes "word") (path_text h.quiver w ∷ []) (word_lacks (codes "word") refl) (more (path_text h.quiver w) [] (path_clear h.quiver named w) nothing)

  form_clear : (h : Header) → IsNamed h.quiver → length h.relations < 2 ^ 32 → (k : ℕ) (s : Step) → FitsStep h k s → All (Lacks c) (step_form h.quiver s)
  form_clear h named few k (step.Relation r) is =
      more (codes "relation") (decimal r ∷ []) (word_lacks (codes "relation") refl) (more (decimal r) [] (number_lacks r (below r (length h.relations) is.named.to few)) nothing)
  form_clear h named few k (step.Left a j) is =
      let room = is.room in
      more (codes "left") (arrow_name h.quiver a ∷ decimal j ∷ []) (word_lacks (codes "left") refl)
      (more (arrow_name h.quiver a) (decimal j ∷ []) (arrow_name_lacks c o.out.name h.quiver named a) (more (decimal j) [] (number_lacks j (below j k is.named.1.to (omega arith))) nothing))
  form_clear h named few k (step.Right j a) is =
      let room = is.room in
      more (codes "right") (decimal j ∷ arrow_name h.quiver a ∷ []) (word_lacks (codes "right") refl)
      (more (decimal j) (arrow_name h.quiver a ∷ []) (number_lacks j (below j k is.named.0.to (omega arith))) (more (arrow_name h.quiver a) [] (arrow_name_lacks c o.out.name h.quiver named a) nothing))
  form_clear h named few k (step.Add j d m) is =
      let room = is.room in
      let low = order_small h.field in
      let big : 27 < 2 ^ 64 = lit< tt in
      let small = is.factor.1 in
      more (codes "add") (decimal j ∷ decimal d ∷ decimal m ∷ []) (word_lacks (codes "add") refl)
      (more (decimal j) (decimal d ∷ decimal m ∷ []) (number_lacks j (below j k is.named.0.to (omega arith)))
      (more (decimal d) (decimal m ∷ []) (number_lacks d (omega arith)) (more (decimal m) [] (number_lacks m (below m k is.named.1.to (omega arith))) nothing)))

  pub step_clear : (h : Header) → IsNamed h.quiver → length h.relations < 2 ^ 32 → (k : ℕ) (s : Step) → FitsStep h k s → ClearLine c (step_line h.quiver (k + 1) s)
  step_clear h named few k s is =
      let room = is.room in
      line (codes "step") (decimal (k + 1) ∷ step_form h.quiver s) (word_lacks (codes "step") refl)
      (more (decimal (k + 1)) (step_form h.quiver s) (number_lacks (k + 1) (below (k + 1) (k + 1) (omega arith) room)) (form_clear h named few k s is))

  terms_clear : (h : Header) → IsNamed h.quiver → (ts : List Term) → AreElementTerms h ts → All (Lacks c) (map (term_text h.quiver) ts)
  terms_clear h named ts are =
      All-map (Lacks c) (term_text h.quiver) ts (All-weaker (λ (t : Term). t.coef < order h.field) (λ (t : Term). Lacks c (term_text h.quiver t))
      (λ t small.
      let low = order_small h.field in
      let big : 27 < 2 ^ 64 = lit< tt in
      lacks_append c (coefficient_text t.coef) (path_text h.quiver t.path) (coefficient_lacks c o.out t.coef (omega arith)) (path_clear h.quiver named t.path)) ts are.small)

  tail_clear : (h : Header) → IsNamed h.quiver → (ts : List Term) → AreElementTerms h ts → All (Lacks c) (tail_form h.quiver ts)
  tail_clear h named [] are = more (codes "0") [] (word_lacks (codes "0") refl) nothing
  tail_clear h named (t ∷ ts) are = plus_between_lacks c o.out.plus (map (term_text h.quiver) (t ∷ ts)) (terms_clear h named (t ∷ ts) are)

  pub rule_clear : (h : Header) → IsNamed h.quiver → (steps : ℕ) → steps < 2 ^ 32 → (r : Rule) → IsWrittenRule h steps r → ClearLine c (rule_line h.quiver r)
  rule_clear h named steps small r is =
      let ts = tail_form h.quiver r.tail.terms in
      let last = codes "by" ∷ decimal r.step ∷ [] in
      line (codes "rule") (path_text h.quiver r.tip ∷ codes "->" ∷ (ts ++ last)) (word_lacks (codes "rule") refl)
      (more (path_text h.quiver r.tip) (codes "->" ∷ (ts ++ last)) (path_clear h.quiver named r.tip)
      (more (codes "->") (ts ++ last) (lacks_cons c 45 (62 ∷ []) o.dash (lacks_cons c 62 [] o.greater (word_lacks [] refl)))
      (All-append (Lacks c) ts last (tail_clear h named r.tail.terms is.tail)
      (more (codes "by") (decimal r.step ∷ []) (word_lacks (codes "by") refl) (more (decimal r.step) [] (number_lacks r.step (below r.step steps is.named.to small)) nothing)))))
