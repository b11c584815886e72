-- Claims' first lines: what fits has one spelling, and whether some tokens spell one is decided.
use Rattle.std.proofs.Common.{◌≡◌, ℕ, ◌+◌, ◌<◌, ◌^◌, List, drop, inl, inr, sym, ap, ◌∙◌, subst, arith}
use Rattle.report_types.specs.declared.claims.PartClaim.{PartClaim}
use Rattle.report_types.specs.declared.claims.Translation.{Translation}
use Rattle.report_types.specs.declared.claims.Translation.TheVariants.{Tau, Transpose, Taui}
use Rattle.report_types.specs.Limits.{IsLine, unknown_limit, resolution_limit}
use Rattle.deciding.proofs.Deciding.{Decided, both, like, three, four, five, below, at_most, same_tokens, of_each}
use Rattle.deciding.proofs.DecidedPaths.{number_decided}
use Rattle.claim_lines.specs.declared.heads.Counts.{Counts}
use Rattle.claim_lines.specs.declared.heads.Head.{Head}
use Rattle.claim_lines.specs.declared.heads.Head.TheVariants as head
use Rattle.claim_lines.specs.Spelling.{head_form, claim_line}
use Rattle.claim_lines.specs.Items.{ArePartNumbers, AreTranslateNumbers, AreNumbers, FitsClaim}
use Rattle.claim_lines.proofs.Tokens.{number, value_is, line_small}
use Rattle.claim_lines.proofs.HeadReading.{AreFew, head_from, head_back}

-- tokens of which only one thing may be spelled
pub by_candidate : {X : Type 0} (P : X → Type 0) (spell : X → List (List ℕ)) (ts : List (List ℕ)) (y : X) → ((x : X) → P x → ts ≡ spell x → y ≡ x) → Decided (P y) → Decided ((x : X) × (P x × (ts ≡ spell x)))
by_candidate {X} P spell ts y only decided =
    elim (both decided (same_tokens ts (spell y))) [
      | inl h ↦ inl (y, h)
      | inr none ↦ inr (λ (h : (x : X) × (P x × (ts ≡ spell x))). none (subst P (sym (only h.0 h.1.0 h.1.1)) h.1.0, h.1.1 ∙ ap spell (sym (only h.0 h.1.0 h.1.1))))
    ]

pub line_decided : (n : ℕ) → Decided (IsLine n)
line_decided n = like (λ h. record { from = h.0; to = h.1 }) (λ h. (h.from, h.to)) (both (at_most 1 n) (at_most n 4194304))

-- ---- what the tokens say

claim_at : List (List ℕ) → ℕ × Head
claim_at ts = (number ts 3, head_from (drop 4 ts))

pub few_at : (earlier : ℕ) (counts : Counts) → counts.modules < 2 ^ 32 → counts.maps < 2 ^ 32 → (x : ℕ × Head) → FitsClaim earlier counts x → AreFew earlier counts.modules counts.maps
few_at earlier counts a b x fits = let room = fits.room in record { few_claims = omega arith; few_modules = a; few_maps = b }

claim_back : (earlier : ℕ) (counts : Counts) → counts.modules < 2 ^ 32 → counts.maps < 2 ^ 32 → (k : ℕ) (x : ℕ × Head) → FitsClaim earlier counts x → claim_at (claim_line k x.0 x.1) ≡ x
unfolding claim_at
claim_back earlier counts a b k x fits =
    ap (λ (n : ℕ). (n, head_from (head_form x.1))) (value_is x.0 (line_small x.0 fits.is_line))
    ∙ ap (λ (y : Head). (x.0, y)) (head_back earlier counts.modules counts.maps (few_at earlier counts a b x fits) x.1 fits.numbers)

pub one_claim : (earlier : ℕ) (counts : Counts) → counts.modules < 2 ^ 32 → counts.maps < 2 ^ 32 → (k : ℕ) (x y : ℕ × Head) → FitsClaim earlier counts x → FitsClaim earlier counts y
    → claim_line k x.0 x.1 ≡ claim_line k y.0 y.1 → x ≡ y
one_claim earlier counts a b k x y p q e = sym (claim_back earlier counts a b k x p) ∙ (ap claim_at e ∙ claim_back earlier counts a b k y q)

-- ---- decided

part_decided : (earlier modules : ℕ) (p : PartClaim) → Decided (ArePartNumbers earlier modules p)
part_decided earlier modules p = like (λ h. record { is_module = h.0; named = h.1 }) (λ h. (h.is_module, h.named)) (both (number_decided modules p.module) (number_decided earlier p.local))

translate_decided : (modules : ℕ) (which : Translation) → Decided (AreTranslateNumbers modules which)
translate_decided modules Tau = inl tt
translate_decided modules Transpose = inl tt
translate_decided modules (Taui b) = number_decided modules b

numbers_decided : (earlier modules maps : ℕ) (x : Head) → Decided (AreNumbers earlier modules maps x)
numbers_decided k m f head.Basis = inl tt
numbers_decided k m f (head.Module n) = number_decided m n
numbers_decided k m f (head.Map n) = number_decided f n
numbers_decided k m f (head.Hom a b n) = three (number_decided m a) (number_decided m b) (at_most n unknown_limit)
numbers_decided k m f (head.Kernel n g i) = three (number_decided m n) (number_decided f g) (number_decided f i)
numbers_decided k m f (head.Cokernel n g i) = three (number_decided m n) (number_decided f g) (number_decided f i)
numbers_decided k m f (head.Radical n a i) = three (number_decided m n) (number_decided m a) (number_decided f i)
numbers_decided k m f (head.Resolution a n) = both (number_decided m a) (at_most n resolution_limit)
numbers_decided k m f (head.Ext n a b count c) = five (below n resolution_limit) (number_decided m a) (number_decided m b) (at_most count unknown_limit) (number_decided k c)
numbers_decided k m f (head.Local n c) = both (number_decided m n) (number_decided k c)
numbers_decided k m f (head.Decomposition a s g h ps) =
    five (number_decided m a) (number_decided m s) (number_decided f g) (number_decided f h) (of_each (ArePartNumbers k m) (part_decided k m) ps)
numbers_decided k m f (head.Translate which n a c) = four (translate_decided m which) (number_decided m n) (number_decided m a) (number_decided k c)
numbers_decided k m f (head.AlmostSplit n e a g h c l) =
    like (λ x. (x.0, x.1, x.2, x.3.0, x.3.1, x.3.2, x.3.3)) (λ x. (x.0, x.1, x.2, (x.3, x.4, x.5, x.6)))
    (four (number_decided m n) (number_decided m e) (number_decided m a) (four (number_decided f g) (number_decided f h) (number_decided k c) (number_decided k l)))

pub fits_claim_decided : (earlier : ℕ) (counts : Counts) (x : ℕ × Head) → Decided (FitsClaim earlier counts x)
fits_claim_decided earlier counts x =
    like (λ h. record { room = h.0; is_line = h.1; numbers = h.2 }) (λ h. (h.room, h.is_line, h.numbers))
    (three (below (earlier + 1) (2 ^ 32)) (line_decided x.0) (numbers_decided earlier counts.modules counts.maps x.1))

-- whether some tokens are the first line of a claim
pub claim_decided : (earlier : ℕ) (counts : Counts) → counts.modules < 2 ^ 32 → counts.maps < 2 ^ 32 → (k : ℕ) (ts : List (List ℕ)) → Decided ((x : ℕ × Head) × (FitsClaim earlier counts x × (ts ≡ claim_line k x.0 x.1)))
claim_decided earlier counts a b k ts =
    by_candidate (FitsClaim earlier counts) (λ (x : ℕ × Head). claim_line k x.0 x.1) ts (claim_at ts) (λ x fits e. ap claim_at e ∙ claim_back earlier counts a b k x fits) (fits_claim_decided earlier counts (claim_at ts))
