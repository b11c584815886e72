-- Reading a line of a claim that a module is local.
use Rattle.std.proofs.Common.{◌≡◌, ℕ, ◌*◌, ◌<◌, ◌≤◌, ◌^◌, Bool, true, false, List, length, inl, inr, refl, sym, ap, ◌∙◌, subst, arith, lit<}
use Rattle.std.specs.Prelude.{MatchBool}
use Rattle.std.proofs.Math.Nat.{mul-le-mul}
use Rattle.std.proofs.lemmas.Bool.{cases_lt}
use Rattle.linear_algebra.specs.Field.{Gf}
use Rattle.fp_linear.specs.Matrix.{most_entries}
use Rattle.path_algebra.specs.Derivations.{IsNumber}
use Rattle.claim_conditions.specs.declared.Residue.{Residue}
use Rattle.report_types.specs.Limits.{power_limit}
use Rattle.object_lines.specs.Spelling.{row_line, ideal_line, power_line, residue_line}
use Rattle.object_lines.proofs.OneLine.{ideal_one, power_one, residue_one}
use Rattle.claim_blocks.specs.declared.local_block.LocalPlace.TheVariants as place
use Rattle.claim_blocks.specs.declared.local_block.LocalBlock.{LocalBlock}
use Rattle.claim_blocks.specs.LocalBlocks.{FitsIdeal, with_ideal, FitsPower, with_power, with_residue, LocalStepAt}
use Rattle.claim_blocks.specs.PartRows.{PartRows, no_rows, FitsRow, with_row, RowStep}
use Rattle.claim_blocks.proofs.TakenLines.{takes, takes_within, takes_not_within}

-- ---- what fits is spelled in one way

pub few_rows : (w n : ℕ) → FitsIdeal w n → n ≤ 8192
few_rows w n fits = elim (cases_lt 8192 n) [
  | inl large ↦
      let few = fits.few in
      let small = fits.small in
      let square : 8193 * 8193 ≤ n * w = mul-le-mul (let l : 8193 ≤ n = omega (arith, large) in l) (let l : 8193 ≤ w = omega (arith, large, few) in l) in
      absurd (omega (arith, square, small))
  | inr not_large ↦ omega (arith, not_large)
]

pub one_ideal : (w m n : ℕ) → FitsIdeal w m → FitsIdeal w n → ideal_line m ≡ ideal_line n → m ≡ n
one_ideal w m n a b e = ideal_one 8192 (lit< tt) m n (few_rows w m a) (few_rows w n b) e

pub one_power : (r : PartRows) (m n : ℕ) → FitsPower r m → FitsPower r n → power_line m ≡ power_line n → m ≡ n
one_power r m n a b e = power_one m n a.number b.number e

pub one_residue : (r s : Residue) → Unit {0} → Unit {0} → residue_line r ≡ residue_line s → r ≡ s
one_residue r s a b e = residue_one r s e

-- ---- what a reader gives

pub ideal_reads : (b : LocalBlock) (q : Gf) (w n : ℕ) (next : PartRows) (ts : List (List ℕ)) → q ≡ b.ideal.field → w ≡ b.ideal.width → n ≤ w → n * w ≤ most_entries → ts ≡ ideal_line n → next ≡ no_rows q w n
    → LocalStepAt place.Ideal b ts (record b { place = place.Rows; ideal = next })
ideal_reads b q w n next ts f e few small spelled is =
    takes (FitsIdeal b.ideal.width) ideal_line (with_ideal b) ts n (record b { place = place.Rows; ideal = next }) (record { few = subst (λ k. n ≤ k) e few; small = subst (λ k. n * k ≤ most_entries) e small }, spelled)
    (one_ideal b.ideal.width) (ap (λ (r : PartRows). record b { place = place.Rows; ideal = r }) (is ∙ (λ i. no_rows (f i) (e i) n)))

pub ideal_large : (b : LocalBlock) (w n : ℕ) (ts : List (List ℕ)) → w ≡ b.ideal.width → w < 2 ^ 32 → n ≤ w → most_entries < n * w → ts ≡ ideal_line n → (next : LocalBlock) → LocalStepAt place.Ideal b ts next → ⊥
ideal_large b w n ts e range few large spelled next t =
    let l = t.fits.few in
    let big : 2 ^ 32 < 2 ^ 64 = lit< tt in
    let same : t.item ≡ n = ideal_one w (omega (arith, range, big)) t.item n (omega (arith, l, e)) few (sym t.spelled ∙ spelled) in
    let small : n * w ≤ most_entries = subst (λ k. n * k ≤ most_entries) (sym e) (subst (λ k. k * b.ideal.width ≤ most_entries) same t.fits.small) in
    absurd (omega (arith, small, large))

pub power_reads : (b : LocalBlock) (n : ℕ) (ts : List (List ℕ)) → length b.ideal.rows ≡ b.ideal.wanted → IsNumber power_limit n → ts ≡ power_line n → LocalStepAt place.Rows b ts (with_power b n)
power_reads b n ts whole is spelled = inr (takes (FitsPower b.ideal) power_line (with_power b) ts n (with_power b n) (record { whole = whole; number = is }, spelled) (one_power b.ideal) refl)

pub no_power : (b : LocalBlock) (ts : List (List ℕ)) → length b.ideal.rows ≡ b.ideal.wanted → ((n : ℕ) → IsNumber power_limit n → ts ≡ power_line n → ⊥) → (next : LocalBlock) → LocalStepAt place.Rows b ts next → ⊥
no_power b ts whole none next (inl t) = let l = t.fits.left in absurd (omega (arith, l, whole))
no_power b ts whole none next (inr t) = none t.item t.fits.number t.spelled

pub residue_reads : (b : LocalBlock) (r : Residue) (ts : List (List ℕ)) → ts ≡ residue_line r → LocalStepAt place.Residue b ts (with_residue b r)
residue_reads b r ts spelled = takes (λ (s : Residue). Unit {0}) residue_line (with_residue b) ts r (with_residue b r) (tt, spelled) one_residue refl

pub ideal_row : (b : LocalBlock) (taken : Bool) (next : PartRows) (ts : List (List ℕ)) → (length b.ideal.rows ≡ b.ideal.wanted → ⊥)
    → MatchBool taken (RowStep b.ideal ts next) ((r : PartRows) → RowStep b.ideal ts r → ⊥)
    → MatchBool taken (LocalStepAt place.Rows b ts (record b { ideal = next })) ((r : LocalBlock) → LocalStepAt place.Rows b ts r → ⊥)
ideal_row b true next ts not_whole t = inl (takes_within (FitsRow b.ideal) row_line (with_row b.ideal) (λ (r : PartRows). record b { ideal = r }) ts next t)
ideal_row b false next ts not_whole none = λ r t. elim t [
  | inl u ↦ takes_not_within (FitsRow b.ideal) row_line (with_row b.ideal) (λ (r : PartRows). record b { ideal = r }) ts none r u
  | inr u ↦ not_whole u.fits.whole
]
