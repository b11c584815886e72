-- Deciding whether a line may follow what has been read of a report.
use Rattle.std.specs.Prelude.{◌==◌}
use Rattle.report_types.specs.declared.claims.Claim.TheVariants as claim
use Rattle.std.proofs.Common.{cond, ◌++◌, ◌≡◌, ℕ, ◌+◌, ◌<◌, ◌≤◌, ◌^◌, Bool, true, false, List, [], ◌∷◌, length, get_or, codes, decimal, inl, inr, Some, None, refl, sym, ap, ◌∙◌, subst, arith, lit<}
use Rattle.std.specs.declared.option.Option.{Option}
use Rattle.text_lines.specs.Strict.{strict_tokens}
use Rattle.text_lines.proofs.Readings.{Goes}
use Rattle.header_text.specs.Part.{Part as HeaderPart, IsFront}
use Rattle.header_text.proofs.FrontLemmas.{front_after}
use Rattle.header_text.proofs.Uniqueness.{decimal_one}
use Rattle.report_types.specs.Limits.{path_limit}
use Rattle.claim_blocks.specs.declared.block.Block.{Block}
use Rattle.claim_blocks.specs.Blocks.{begin_block, whole_block, block_claim}
use Rattle.claim_blocks.proofs.BlockLaws.{block_go}
use Rattle.claim_text.specs.Matrices.{filled}
use Rattle.claim_text.specs.declared.part.Place.{Place}
use Rattle.claim_text.specs.declared.part.Place.TheVariants as place
use Rattle.claim_text.specs.declared.part.Part.{Part}
use Rattle.claim_lines.specs.Spelling.{title_line, words_line, word_line, step_line, rule_line}
use Rattle.claim_lines.specs.Items.{IsCount, counted, FitsWord, FitsStep, FitsRule}
use Rattle.claim_text.specs.Part.{here, counts_of, at_block, rows_of, columns_of, claimed, count_of, name_of, with_title, closed, at_matrices, fill, with_matrix, with_head, with_item, with_word_count, with_word, with_step_count, with_step, at_rules, with_rule_count, with_rule}
use Rattle.claim_text.specs.Steps.{Takes, TakesBlock, FitsItem, item_line, FitsMatrix, TokenStep, LexedStep, FrontStep, is_header_line, StepBy, Step}
use Rattle.deciding.proofs.Deciding.{Decided, both, below, at_most, same_tokens, IsListed, found, just, numbers_below}
use Rattle.claim_lines.proofs.DecidedHeader.{header_goes}
use Rattle.claim_lines.proofs.DecidedItems.{count_decided, word_decided, words_listed, step_decided, steps_listed, rule_decided, RuleIn, rules_listed, rule_in}
use Rattle.claim_lines.proofs.FittingLines.{one_fitting_word, one_fitting_step, one_fitting_rule}
use Rattle.claim_text.specs.declared.part.Owner.{Owner}
use Rattle.claim_text.specs.declared.part.Owner.TheVariants as owner
use Rattle.claim_text.specs.declared.part.Item.{Item}
use Rattle.claim_text.specs.declared.part.Item.TheVariants as item
use Rattle.claim_lines.specs.declared.heads.Head.{Head}
use Rattle.claim_lines.specs.declared.heads.Head.TheVariants as head
use Rattle.object_lines.specs.Spelling.{at_line}
use Rattle.claim_text.proofs.OtherLines.{one_matrix, one_item, item_decided, matrix_decided}
use Rattle.claim_text.proofs.TakenLines.{takes, few_relations}

takes_go : {X : Type 0} (C Fits : X → Type 0) (spell : X → List (List ℕ)) (taken : X → Part) (ts : List (List ℕ)) → ((y z : X) → Fits y → Fits z → spell y ≡ spell z → y ≡ z) → IsListed C
    → ((x : X) → Fits x → ts ≡ spell x → C x) → ((x : X) → Decided (Fits x)) → Goes (Takes Fits spell taken ts)
takes_go {X} C Fits spell taken ts one listed are each =
    elim (found C (λ (x : X). Fits x × (ts ≡ spell x)) listed (λ x h. are x h.0 h.1) (λ x. both (each x) (same_tokens ts (spell x)))) [
      | inl h ↦ inl (taken h.0, takes Fits spell taken ts h.0 (taken h.0) h.1 one refl)
      | inr none ↦ inr (λ q t. none (t.item, (t.fits, t.spelled)))
    ]

title_go : (p : Part) (ts : List (List ℕ)) → Goes (TokenStep place.Title p ts)
title_go p ts = elim (same_tokens ts title_line) [
  | inl e ↦ inl (with_title p, record { title = e; leads = refl })
  | inr differs ↦ inr (λ q t. differs t.title)
]

-- a line of a form that is decided by its tokens
decided_go : {X : Type 0} (Fits : X → Type 0) (spell : X → List (List ℕ)) (taken : X → Part) (ts : List (List ℕ)) → ((y z : X) → Fits y → Fits z → spell y ≡ spell z → y ≡ z)
    → Decided ((x : X) × (Fits x × (ts ≡ spell x))) → Goes (Takes Fits spell taken ts)
decided_go Fits spell taken ts one (inl h) = inl (taken h.0, takes Fits spell taken ts h.0 (taken h.0) h.1 one refl)
decided_go Fits spell taken ts one (inr none) = inr (λ q t. none (t.item, (t.fits, t.spelled)))

item_go : (p : Part) → IsFront p.front → (ts : List (List ℕ)) → Goes (Takes (FitsItem p) (item_line p) (with_item p) ts)
item_go p front ts =
    decided_go (FitsItem p) (item_line p) (with_item p) ts (one_item p front.named (few_relations p.front front)) (item_decided p front.named (few_relations p.front front) ts)

first_go : (p : Part) → IsFront p.front → (ts : List (List ℕ)) → Goes (TokenStep place.Header p ts)
first_go p front ts = elim (below 0 p.front.header.bound) [
  | inl ends ↦ elim (item_go p front ts) [
    | inl go ↦ inl (go.0, record { ends = ends; first = go.1 })
    | inr none ↦ inr (λ q t. none q t.first)
  ]
  | inr early ↦ inr (λ q t. early t.ends)
]

token_same : (a b c : List ℕ) → a ∷ b ∷ [] ≡ a ∷ c ∷ [] → b ≡ c
token_same a b c e = cc

one_number : (m n : ℕ) → m ≤ path_limit → n ≤ path_limit → words_line (decimal m) ≡ words_line (decimal n) → m ≡ n
one_number m n a b e = let big : 4096 < 2 ^ 64 = lit< tt in decimal_one m n (omega arith) (omega arith) (token_same _ _ _ e)

second : (ts : List (List ℕ)) (a b : List ℕ) (rest : List (List ℕ)) → ts ≡ a ∷ b ∷ rest → b ≡ get_or ts 1 []
second ts a b rest e = sym (ap (λ l. get_or l 1 []) e)

counts_go : (word : List ℕ) (taken : List ℕ → Part) (ts : List (List ℕ)) → Goes (Takes IsCount (λ numeral. word ∷ numeral ∷ []) taken ts)
counts_go word taken ts =
    takes_go (λ numeral. numeral ≡ get_or ts 1 []) IsCount (λ numeral. word ∷ numeral ∷ []) taken ts (λ y z a b e. token_same _ _ _ e) (just (get_or ts 1 [])) (λ x is e. second ts word x [] e) count_decided

line_go : (p : Part) → IsFront p.front → (o : Option Block) (ts : List (List ℕ)) → Goes (TakesBlock p o ts)
line_go p front None ts = inr (λ q t. t)
line_go p front (Some b) ts = elim (both (below (counts_of p).modules (2 ^ 32)) (below (counts_of p).maps (2 ^ 32))) [
  | inr many ↦ inr (λ q t. many (t.few_modules, t.few_maps))
  | inl few ↦ elim (block_go p.front.header front.named b ts) [
    | inl go ↦ inl (at_block p go.0, record { few_modules = few.0; few_maps = few.1; named = front.named; now = go.0; step = go.1; leads = refl })
    | inr none ↦ inr (λ q t. none t.now t.step)
  ]
]

tokens_go : (s : Place) (p : Part) → IsFront p.front → (ts : List (List ℕ)) → Goes (TokenStep s p ts)
tokens_go place.Title p front ts = title_go p ts
tokens_go place.Header p front ts = first_go p front ts
tokens_go place.WordCount p front ts =
    takes_go (λ n. n < 4097) (λ n. n ≤ path_limit) (λ n. words_line (decimal n)) (with_word_count p) ts one_number (numbers_below 4097) (λ n few e. omega (arith, few)) (λ n. at_most n path_limit)
tokens_go (place.Words n) p front ts =
    let h = p.front.header in
    takes_go (FitsWord h p.words) (FitsWord h p.words) (word_line h.quiver) (with_word p n) ts (one_fitting_word h front.named p.words) (words_listed h front.named.ends p.words) (λ w is e. is) (word_decided h p.words)
tokens_go place.StepCount p front ts = counts_go (codes "steps") (with_step_count p) ts
tokens_go (place.Steps n) p front ts =
    let h = p.front.header in
    let k = length p.steps in
    takes_go (FitsStep h k) (FitsStep h k) (step_line h.quiver (k + 1)) (with_step p n) ts (one_fitting_step h front.named (few_relations p.front front) k (k + 1)) (steps_listed h k) (λ s is e. is) (step_decided h k)
tokens_go place.RuleCount p front ts = counts_go (codes "rules") (with_rule_count p) ts
tokens_go (place.Rules n) p front ts =
    let h = p.front.header in
    let k = length p.steps in
    let j = length p.rules in
    takes_go (RuleIn h k (length ts)) (FitsRule h k j) (rule_line h.quiver) (with_rule p n) ts (one_fitting_rule h front.named k j) (rules_listed h front.named.ends k (length ts)) (rule_in h k j ts) (rule_decided h k j)
tokens_go place.Between p front ts = item_go p front ts
tokens_go (place.Matrices o) p front ts =
    decided_go (FitsMatrix p o) (at_line (name_of p.front.header.quiver o (length p.matrices))) (with_matrix p o) ts (one_matrix p o) (matrix_decided p o ts)
tokens_go place.Block p front ts = line_go p front p.block ts
tokens_go place.Ended p front ts = inr (λ q t. t)

same_some : {A : Type 0} (x y : A) → Some x ≡ Some y → x ≡ y
same_some x y e = cc

none_some : {A : Type 0} (x : A) → None ≡ Some x → ⊥
none_some x e = cc

lexed_go : (p : Part) → IsFront p.front → (line : List ℕ) (r : Option (List (List ℕ))) → strict_tokens line ≡ r → Goes (LexedStep p line)
lexed_go p front line None is = inr (λ q t. none_some t.tokens (sym is ∙ t.lexed))
lexed_go p front line (Some ts) is = elim (tokens_go p.place p front ts) [
  | inl go ↦ inl (go.0, record { tokens = ts; lexed = is; step = go.1 })
  | inr none ↦ inr (λ q t. none q (subst (λ us. TokenStep p.place p us q) (same_some t.tokens ts (sym t.lexed ∙ is)) t.step))
]

front_go : (p : Part) → IsFront p.front → (line : List ℕ) → Goes (FrontStep p line)
front_go p front line = elim (header_goes p.front front line) [
  | inl go ↦ inl (record p { front = go.0 }, record { front = go.0; step = go.1; leads = refl })
  | inr none ↦ inr (λ q t. none t.front t.step)
]

go_by : (b : Bool) (p : Part) → IsFront p.front → (line : List ℕ) → Goes (StepBy b p line)
go_by true p front line = front_go p front line
go_by false p front line = lexed_go p front line (strict_tokens line) refl

-- a line leads from a part to a part, or to none
pub line_goes : (p : Part) → IsFront p.front → (line : List ℕ) → Goes (Step p line)
line_goes p front line = go_by (is_header_line p.place line) p front line

-- ---- what was read of the header stays a front of one

kept : {X : Type 0} (Fits : X → Type 0) (spell : X → List (List ℕ)) (taken : X → Part) (front : HeaderPart) (ts : List (List ℕ)) (q : Part) → ((x : X) → (taken x).front ≡ front) → Takes Fits spell taken ts q → IsFront front → IsFront q.front
kept Fits spell taken front ts q same t is = subst IsFront (sym (ap (λ (r : Part). r.front) t.leads ∙ same t.item)) is

closed_kept : (p : Part) (o : Owner) → (closed p o).front ≡ p.front
closed_kept p (owner.Module side) = refl
closed_kept p (owner.Map a b) = refl

matrices_kept : (p : Part) (o : Owner) → (at_matrices p o).front ≡ p.front
matrices_kept p o = by (length p.matrices == count_of p.front.header o)
  where
    by : (b : Bool) → (cond b (closed (record p { place = place.Between }) o) (record p { place = place.Matrices o })).front ≡ p.front
    by true = closed_kept (record p { place = place.Between }) o
    by false = refl

fill_kept : (p : Part) (o : Owner) → (fill p o).front ≡ p.front
fill_kept p o = matrices_kept (record p { matrices = filled p.front.header.field (rows_of p.front.header p.dims (here p) o) (columns_of p.front.header p.dims (here p) o) (count_of p.front.header o) p.matrices }) o

rules_kept : (p : Part) (n : ℕ) → (at_rules p n).front ≡ p.front
rules_kept p n = by (length p.rules == n)
  where
    by : (b : Bool) → (cond b (claimed (record p { modules = []; maps = [] }) p.line (claim.Basis p.words p.steps p.rules)) (record p { place = place.Rules n })).front ≡ p.front
    by true = refl
    by false = refl

block_kept : (p : Part) (b : Block) → (at_block p b).front ≡ p.front
block_kept p b = by (whole_block b)
  where
    by : (w : Bool) → (cond w (claimed p p.line (block_claim b)) (record p { place = place.Block; block = Some b })).front ≡ p.front
    by true = refl
    by false = refl

head_kept : (p : Part) (line : ℕ) (x : Head) → (with_head p line x).front ≡ p.front
head_kept p line head.Basis = refl
head_kept p line (head.Module m) = refl
head_kept p line (head.Map f) = refl
head_kept p line (head.Hom a b count) = block_kept (record p { line = line }) (begin_block p.front.header (here p) (head.Hom a b count))
head_kept p line (head.Kernel n f i) = refl
head_kept p line (head.Cokernel n f i) = refl
head_kept p line (head.Radical n a i) = refl
head_kept p line (head.Resolution a n) = block_kept (record p { line = line }) (begin_block p.front.header (here p) (head.Resolution a n))
head_kept p line (head.Ext n a b count c) = block_kept (record p { line = line }) (begin_block p.front.header (here p) (head.Ext n a b count c))
head_kept p line (head.Local m c) = block_kept (record p { line = line }) (begin_block p.front.header (here p) (head.Local m c))
head_kept p line (head.Decomposition a s f g parts) = refl
head_kept p line (head.Translate which n a c) = block_kept (record p { line = line }) (begin_block p.front.header (here p) (head.Translate which n a c))
head_kept p line (head.AlmostSplit n e a f g c l) = block_kept (record p { line = line }) (begin_block p.front.header (here p) (head.AlmostSplit n e a f g c l))

item_kept : (p : Part) (x : Item) → (with_item p x).front ≡ p.front
item_kept p (item.Module side dims) = fill_kept (record p { dims = dims; matrices = [] }) (owner.Module side)
item_kept p (item.Map a b) = fill_kept (record p { matrices = [] }) (owner.Map a b)
item_kept p (item.Claim line x) = head_kept p line x
item_kept p (item.End e) = refl

line_kept : (p q : Part) (o : Option Block) (ts : List (List ℕ)) → TakesBlock p o ts q → IsFront p.front → IsFront q.front
line_kept p q None ts t front = absurd t
line_kept p q (Some b) ts t front = subst (λ (r : Part). IsFront r.front) (sym t.leads) (subst IsFront (sym (block_kept p t.now)) front)

tokens_kept : (s : Place) (p q : Part) (ts : List (List ℕ)) → TokenStep s p ts q → IsFront p.front → IsFront q.front
tokens_kept place.Title p q ts t front = subst (λ (r : Part). IsFront r.front) (sym t.leads) front
tokens_kept place.Header p q ts t front = kept _ _ (with_item p) p.front ts q (item_kept p) t.first front
tokens_kept place.WordCount p q ts t front = kept _ _ (with_word_count p) p.front ts q (λ x. refl) t front
tokens_kept (place.Words n) p q ts t front = kept _ _ (with_word p n) p.front ts q (λ x. refl) t front
tokens_kept place.StepCount p q ts t front = kept _ _ (with_step_count p) p.front ts q (λ x. refl) t front
tokens_kept (place.Steps n) p q ts t front = kept _ _ (with_step p n) p.front ts q (λ x. refl) t front
tokens_kept place.RuleCount p q ts t front = kept _ _ (with_rule_count p) p.front ts q (λ x. rules_kept p (counted x)) t front
tokens_kept (place.Rules n) p q ts t front = kept _ _ (with_rule p n) p.front ts q (λ x. rules_kept (record p { rules = p.rules ++ x ∷ [] }) n) t front
tokens_kept place.Between p q ts t front = kept _ _ (with_item p) p.front ts q (item_kept p) t front
tokens_kept (place.Matrices o) p q ts t front = kept _ _ (with_matrix p o) p.front ts q (λ m. fill_kept (record p { matrices = p.matrices ++ m ∷ [] }) o) t front
tokens_kept place.Block p q ts t front = line_kept p q p.block ts t front
tokens_kept place.Ended p q ts t front = absurd t

kept_by : (b : Bool) (p q : Part) (line : List ℕ) → StepBy b p line q → IsFront p.front → IsFront q.front
kept_by true p q line t front =
    subst (λ (r : Part). IsFront r.front) (sym t.leads) (subst IsFront (sym t.step.step.leads) (front_after p.front t.step.step.form front t.step.step.follows.1))
kept_by false p q line t front = tokens_kept p.place p q t.tokens t.step front

pub front_kept : (p q : Part) (line : List ℕ) → Step p line q → IsFront p.front → IsFront q.front
front_kept p q line t front = kept_by (is_header_line p.place line) p q line t front
