-- One line more of a claim: what the reader of a line gives.
use Rattle.std.proofs.Common.{◌≡◌, ℕ, ◌<◌, ◌≤◌, ◌^◌, List, Some, None, sym, ap, ◌∙◌, subst, arith}
use Rattle.std.specs.Prelude.{Option}
use Rattle.path_algebra.specs.declared.Header.{Header}
use Rattle.header_text.specs.Part.{IsFront}
use Rattle.claim_lines.specs.declared.heads.Head.{Head}
use Rattle.claim_blocks.specs.declared.block.Block.{Block}
use Rattle.claim_blocks.specs.Setting.{Setting}
use Rattle.claim_blocks.specs.Blocks.{FitsHead as FitsLines, begin_block, BlockStep}
use Rattle.claim_text.specs.declared.part.Part.{Part}
use Rattle.claim_text.specs.Part.{here, counts_of, setting_of, at_block, with_block}
use Rattle.claim_text.specs.Steps.{TakesBlock}

-- the first line, over the context
pub fitting_lines : (p : Part) (x : Head) (s : Setting) → s ≡ setting_of p → FitsLines p.front.header (here p) x → FitsLines s.header s.records x
fitting_lines p x s e fits = subst (λ (t : Setting). FitsLines t.header t.records x) (sym e) fits

pub lines_fit : (p : Part) (x : Head) (s : Setting) → s ≡ setting_of p → FitsLines s.header s.records x → FitsLines p.front.header (here p) x
lines_fit p x s e fits = subst (λ (t : Setting). FitsLines t.header t.records x) e fits

pub begins_lines : (p next : Part) (line : ℕ) (x : Head) (s : Setting) (b : Block) → s ≡ setting_of p → b ≡ begin_block s.header s.records x → next ≡ at_block (record p { line = line }) b → next ≡ with_block p line x
begins_lines p next line x s b e begins leads =
    leads ∙ ap (at_block (record p { line = line })) (begins ∙ ap (λ (t : Setting). begin_block t.header t.records x) e)

-- a line more
pub takes_line : (p : Part) (o : Option Block) (b now : Block) (h : Header) (tokens : List (List ℕ)) (next : Part) → o ≡ Some b → h ≡ p.front.header → IsFront p.front → (counts_of p).modules < 2 ^ 32 → (counts_of p).maps < 2 ^ 32
    → BlockStep h b tokens now → next ≡ at_block p now → TakesBlock p o tokens next
takes_line p o b now h tokens next eo eh front few_modules few_maps step leads =
    subst (λ x. TakesBlock p x tokens next) (sym eo)
    record { few_modules = few_modules; few_maps = few_maps; named = front.named; now = now; step = subst (λ k. BlockStep k b tokens now) eh step; leads = leads }

-- no line that was read may follow
pub no_line : (p : Part) (o : Option Block) (b : Block) (h : Header) (tokens : List (List ℕ)) → o ≡ Some b → h ≡ p.front.header → ((now : Block) → BlockStep h b tokens now → ⊥) → (next : Part) → TakesBlock p o tokens next → ⊥
no_line p o b h tokens eo eh none next t =
    let u = subst (λ x. TakesBlock p x tokens next) eo t in
    none u.now (subst (λ k. BlockStep k b tokens u.now) (sym eh) u.step)

pub no_block : (p : Part) (o : Option Block) (tokens : List (List ℕ)) → o ≡ None → (next : Part) → TakesBlock p o tokens next → ⊥
no_block p o tokens e next t = subst (λ x. TakesBlock p x tokens next) e t

pub many_modules : (p : Part) (o : Option Block) (tokens : List (List ℕ)) → 2 ^ 32 ≤ (counts_of p).modules → (next : Part) → TakesBlock p o tokens next → ⊥
many_modules p None tokens many next t = t
many_modules p (Some b) tokens many next t = let few = t.few_modules in absurd (omega (arith, few, many))

pub many_maps : (p : Part) (o : Option Block) (tokens : List (List ℕ)) → 2 ^ 32 ≤ (counts_of p).maps → (next : Part) → TakesBlock p o tokens next → ⊥
many_maps p None tokens many next t = t
many_maps p (Some b) tokens many next t = let few = t.few_maps in absurd (omega (arith, few, many))
