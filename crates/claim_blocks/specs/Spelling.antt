-- How the lines behind the first line of a claim are spelled.
use Rattle.std.specs.Prelude.{ℕ, ◌+◌, List, [], ◌∷◌, ◌++◌, map, length, decimal}
use Rattle.fp_linear.specs.Matrix.{PlainMatrix}
use Rattle.quiver_paths.specs.declared.Path.{Path}
use Rattle.quiver_paths.specs.declared.Quiver.{Quiver}
use Rattle.path_algebra.specs.declared.Header.{Header}
use Rattle.path_algebra.specs.declared.rules.Rule.{Rule}
use Rattle.path_algebra.specs.declared.rules.Step.{Step}
use Rattle.header_text.specs.Spelling.{vertex_name, arrow_name}
use Rattle.module_types.specs.declared.TermRows.{TermRows}
use Rattle.report_types.specs.declared.claims.Claim.{Claim}
use Rattle.report_types.specs.declared.claims.Claim.TheVariants as claim
use Rattle.object_lines.specs.Spelling.{at_lines, row_line, gen_line, phi_line, term_line, ideal_line, power_line, residue_line, left_line, middle_line}
use Rattle.claim_lines.specs.declared.heads.Head.{Head}
use Rattle.claim_lines.specs.declared.heads.Head.TheVariants as head
use Rattle.claim_lines.specs.Spelling.{words_line, steps_line, rules_line, word_line, step_line, rule_line}

-- ---- the claim of a basis

-- the lines of steps, of which the first has the number k
abbrev pub step_lines : Quiver → ℕ → List Step → List (List (List ℕ))
step_lines Q k [] = []
step_lines Q k (s ∷ steps) = step_line Q k s ∷ step_lines Q (k + 1) steps

-- the words, steps and rules of a basis
abbrev pub block_lines : Quiver → List Path → List Step → List Rule → List (List (List ℕ))
block_lines Q words steps rules = words_line (decimal (length words)) ∷ (map (word_line Q) words
    ++ (steps_line (decimal (length steps)) ∷ (step_lines Q 1 steps ++ (rules_line (decimal (length rules)) ∷ map (rule_line Q) rules))))

-- ---- matrices and terms

-- matrices at the arrows, and at the vertices
abbrev pub at_arrows : Header → List PlainMatrix → List (List (List ℕ))
at_arrows h matrices = at_lines (arrow_name h.quiver) 0 matrices

abbrev pub at_vertices : Header → List PlainMatrix → List (List (List ℕ))
at_vertices h matrices = at_lines (vertex_name h.quiver) 0 matrices

-- the lines of things in their order, each by its number, of which the first is k
abbrev pub in_order : {X : Type 0} → (ℕ → X → List (List (List ℕ))) → ℕ → List X → List (List (List ℕ))
in_order lines k [] = []
in_order lines k (x ∷ xs) = lines k x ++ in_order lines (k + 1) xs

-- ---- claims

-- the first line of a claim
abbrev pub head_of : Claim → Head
head_of (claim.Basis words steps rules) = head.Basis
head_of (claim.Module m) = head.Module m
head_of (claim.Map f) = head.Map f
head_of (claim.Hom a b rows) = head.Hom a b rows.row_count
head_of (claim.Kernel n f i) = head.Kernel n f i
head_of (claim.Cokernel n f p) = head.Cokernel n f p
head_of (claim.Radical n a i) = head.Radical n a i
head_of (claim.Resolution a n terms) = head.Resolution a n
head_of (claim.Ext n a b rows c) = head.Ext n a b rows.row_count c
head_of (claim.Local m c ideal power residue) = head.Local m c
head_of (claim.Decomposition a s f g parts) = head.Decomposition a s f g parts
head_of (claim.Translate which n a c rows) = head.Translate which n a c
head_of (claim.AlmostSplit n e a f g c l phi left middle) = head.AlmostSplit n e a f g c l

-- term k of a resolution, with the rows of its generators; the terms from number k on
abbrev pub term_block : Quiver → ℕ → TermRows → List (List (List ℕ))
term_block Q k t = term_line Q k t.vertices ∷ map gen_line t.images

abbrev pub term_lines : Quiver → ℕ → List TermRows → List (List (List ℕ))
term_lines Q k terms = in_order (term_block Q) k terms

-- the lines behind the first
abbrev pub claim_block : Header → Claim → List (List (List ℕ))
claim_block h (claim.Basis words steps rules) = block_lines h.quiver words steps rules
claim_block h (claim.Module m) = []
claim_block h (claim.Map f) = []
claim_block h (claim.Hom a b rows) = map row_line rows.rows
claim_block h (claim.Kernel n f i) = []
claim_block h (claim.Cokernel n f p) = []
claim_block h (claim.Radical n a i) = []
claim_block h (claim.Resolution a n terms) = term_lines h.quiver 0 terms
claim_block h (claim.Ext n a b rows c) = map row_line rows.rows
claim_block h (claim.Local m c ideal power residue) = ideal_line ideal.row_count ∷ (map row_line ideal.rows ++ (power_line power ∷ residue_line residue ∷ []))
claim_block h (claim.Decomposition a s f g parts) = []
claim_block h (claim.Translate which n a c rows) = at_vertices h rows
claim_block h (claim.AlmostSplit n e a f g c l phi left middle) = phi_line phi ∷ left_line ∷ (at_vertices h left ++ (middle_line ∷ at_vertices h middle))
