-- The lines of a claim that a module is local: what was read is the claim, and the claim is read.
use Rattle.std.proofs.Common.{◌≡◌, ℕ, suc, ◌*◌, All, ◌<◌, ◌≤◌, ◌^◌, List, [], ◌∷◌, ◌++◌, length, map, inl, inr, refl, sym, ap, ◌∙◌, subst, arith, append_assoc, lit<}
use Rattle.std.proofs.lemmas.Bool.{cases_eq}
use Rattle.std.proofs.lemmas.List.Elements.{All-nil}
use Rattle.linear_algebra.specs.Rows.{IsRow}
use Rattle.text_lines.proofs.Readings.{Goes}
use Rattle.fp_linear.specs.Matrix.{PlainMatrix, most_entries}
use Rattle.path_algebra.specs.declared.Header.{Header}
use Rattle.path_algebra.specs.Derivations.{IsNumber}
use Rattle.claim_conditions.specs.declared.Residue.{Residue}
use Rattle.report_types.specs.declared.claims.Claim.TheVariants as claim
use Rattle.report_types.specs.declared.claims.Record.{Record}
use Rattle.report_types.specs.Limits.{power_limit}
use Rattle.report_types.specs.Numbers.{modules_of, maps_of}
use Rattle.report_types.specs.ClaimBlocks.{IsLocalBlock}
use Rattle.deciding.proofs.Deciding.{Decided, like, both, at_most}
use Rattle.object_lines.specs.Spelling.{row_line, ideal_line, power_line, residue_line}
use Rattle.object_lines.proofs.ClearLines.{StandsOutside, ideal_clear, power_clear, residue_clear}
use Rattle.object_lines.proofs.DecidedLines.{ideal_decided, power_decided, residue_decided}
use Rattle.object_lines.proofs.MatrixReading.{shape_rows}
use Rattle.object_lines.proofs.OneLine.{ideal_one}
use Rattle.claim_lines.specs.declared.heads.Head.TheVariants as head
use Rattle.claim_lines.specs.Items.{AreNumbers}
use Rattle.claim_lines.proofs.Clear.{ClearLine}
use Rattle.claim_blocks.specs.declared.local_block.LocalPlace.{LocalPlace}
use Rattle.claim_blocks.specs.declared.local_block.LocalPlace.TheVariants as place
use Rattle.claim_blocks.specs.declared.local_block.LocalBlock.{LocalBlock}
use Rattle.claim_blocks.specs.Leading.{Leads}
use Rattle.claim_blocks.specs.LocalBlocks.{FitsLocal, ideal_width, local_block, FitsIdeal, with_ideal, with_ideal_row, FitsPower, with_power, with_residue, LocalStepAt, LocalStep, IsWholeLocal, local_claim}
use Rattle.claim_blocks.specs.PartRows.{PartRows, no_rows, matrix_of, FitsRow, with_row, RowStep}
use Rattle.claim_blocks.specs.Spelling.{claim_block}
use Rattle.claim_blocks.specs.Taking.{Takes}
use Rattle.claim_blocks.proofs.Leading.{leads_within, leads_append}
use Rattle.claim_blocks.proofs.LocalReading.{few_rows, one_ideal, one_power, one_residue}
use Rattle.claim_blocks.proofs.ReadRows.{AreRead, read_none, read_more, read_shape, read_all, lines_more, matrix_back, row_goes_within, row_line_clear}
use Rattle.claim_blocks.proofs.TakenLines.{takes_within, takes_one, takes_own, takes_go}

-- ---- numbers of rows

ideal_found : (w : ℕ) (ts : List (List ℕ)) → Decided ((n : ℕ) × (n ≤ 8192) × (ts ≡ ideal_line n)) → Decided ((n : ℕ) × (FitsIdeal w n × (ts ≡ ideal_line n)))
ideal_found w ts (inr none) = inr (λ x. none (x.0, few_rows w x.0 x.1.0, x.1.1))
ideal_found w ts (inl found) =
    like (λ l. (found.0, (record { few = l.0; small = l.1 }, found.2)))
    (λ x.
    let e : x.0 ≡ found.0 = ideal_one 8192 (lit< tt) x.0 found.0 (few_rows w x.0 x.1.0) found.1 (sym x.1.1 ∙ found.2) in
    (subst (λ n. n ≤ w) e x.1.0.few, subst (λ n. n * w ≤ most_entries) e x.1.0.small)) (both (at_most found.0 w) (at_most (found.0 * w) most_entries))

-- ---- what was read

-- the lines that were read before what is owed
pub record BehindPower (b : LocalBlock) (ls rest : List (List (List ℕ))) : Type 0 where
  pub whole : length b.ideal.rows ≡ b.ideal.wanted
  pub number : IsNumber power_limit b.power
  pub lines : ls ≡ ideal_line b.ideal.wanted ∷ (map row_line b.ideal.rows ++ power_line b.power ∷ rest)

abbrev pub LinesAt : LocalPlace → LocalBlock → List (List (List ℕ)) → Type 0
LinesAt place.Ideal b ls = ls ≡ []
LinesAt place.Rows b ls = ls ≡ ideal_line b.ideal.wanted ∷ map row_line b.ideal.rows
LinesAt place.Residue b ls = BehindPower b ls []
LinesAt place.Whole b ls = BehindPower b ls (residue_line b.residue ∷ [])

module _ (h : Header) (rs : List Record) (m c : ℕ) where
  -- the block behind these lines
  pub record IsLocalSoFar (b : LocalBlock) (ls : List (List (List ℕ))) : Type 0 where
    pub fits : FitsLocal rs c
    pub subject : b.subject ≡ m
    pub hom : b.hom ≡ c
    pub read : AreRead h.field (ideal_width h rs c) b.ideal
    pub small : FitsIdeal (ideal_width h rs c) b.ideal.wanted
    pub at : LinesAt b.place b ls

  pub local_start : FitsLocal rs c → IsLocalSoFar (local_block h rs m c) []
  local_start fits = record {
    fits = fits;
    subject = refl;
    hom = refl;
    read = read_none h.field (ideal_width h rs c) 0;
    small = record { few = omega arith; small = omega arith };
    at = refl;
  }

  ideal_next : (b : LocalBlock) (n : ℕ) (ls : List (List (List ℕ))) → IsLocalSoFar b ls → ls ≡ [] → FitsIdeal b.ideal.width n → IsLocalSoFar (with_ideal b n) (ls ++ ideal_line n ∷ [])
  ideal_next b n ls far none fits = record {
    fits = far.fits;
    subject = far.subject;
    hom = far.hom;
    read = record { field = far.read.field; width_is = far.read.width_is; few = omega arith; all = All-nil (IsRow h.field (ideal_width h rs c)) };
    small = subst (λ w. FitsIdeal w n) far.read.width_is fits;
    at = ap (λ l. l ++ ideal_line n ∷ []) none;
  }

  row_next : (b : LocalBlock) (row : List ℕ) (ls : List (List (List ℕ))) → IsLocalSoFar b ls → b.place ≡ place.Rows → FitsRow b.ideal row → IsLocalSoFar (with_ideal_row b row) (ls ++ row_line row ∷ [])
  row_next b row ls far e fits = record {
    fits = far.fits;
    subject = far.subject;
    hom = far.hom;
    read = read_more h.field (ideal_width h rs c) b.ideal row far.read fits;
    small = far.small;
    at = subst (λ s. LinesAt s (with_ideal_row b row) (ls ++ row_line row ∷ [])) (sym e)
        (let at = subst (λ s. LinesAt s b ls) e far.at in
        ap (λ l. l ++ row_line row ∷ []) at ∙ ap (λ l. ideal_line b.ideal.wanted ∷ l) (lines_more (map row_line b.ideal.rows) b.ideal.rows row refl));
  }

  power_next : (b : LocalBlock) (n : ℕ) (ls : List (List (List ℕ))) → IsLocalSoFar b ls → b.place ≡ place.Rows → FitsPower b.ideal n → IsLocalSoFar (with_power b n) (ls ++ power_line n ∷ [])
  power_next b n ls far e fits = record {
    fits = far.fits;
    subject = far.subject;
    hom = far.hom;
    read = far.read;
    small = far.small;
    at = record { whole = fits.whole; number = fits.number; lines = ap (λ l. l ++ power_line n ∷ []) (subst (λ s. LinesAt s b ls) e far.at) };
  }

  residue_next : (b : LocalBlock) (r : Residue) (ls : List (List (List ℕ))) → IsLocalSoFar b ls → b.place ≡ place.Residue → IsLocalSoFar (with_residue b r) (ls ++ residue_line r ∷ [])
  residue_next b r ls far e =
      let at = subst (λ s. LinesAt s b ls) e far.at in
      record {
        fits = far.fits;
        subject = far.subject;
        hom = far.hom;
        read = far.read;
        small = far.small;
        at = record {
          whole = at.whole;
          number = at.number;
          lines = ap (λ l. l ++ residue_line r ∷ []) at.lines ∙ ap (λ l. ideal_line b.ideal.wanted ∷ l) (append_assoc (map row_line b.ideal.rows) (power_line b.power ∷ []) (residue_line r ∷ []));
        };
      }

  -- a line more is that of its item
  by_item : {X : Type 0} (Fits : X → Type 0) (spell : X → List (List ℕ)) (with : X → LocalBlock) (ts : List (List ℕ)) (ls : List (List (List ℕ))) (next : LocalBlock) → Takes Fits spell with ts next
      → ((x : X) → Fits x → IsLocalSoFar (with x) (ls ++ spell x ∷ [])) → IsLocalSoFar next (ls ++ ts ∷ [])
  by_item Fits spell with ts ls next t each =
      subst (λ b. IsLocalSoFar b (ls ++ ts ∷ [])) (sym t.leads) (subst (λ l. IsLocalSoFar (with t.item) (ls ++ l ∷ [])) (sym t.spelled) (each t.item t.fits))

  next_at : (s : LocalPlace) (b next : LocalBlock) (ts : List (List ℕ)) (ls : List (List (List ℕ))) → b.place ≡ s → IsLocalSoFar b ls → LocalStepAt s b ts next → IsLocalSoFar next (ls ++ ts ∷ [])
  next_at place.Ideal b next ts ls e far t =
      by_item (FitsIdeal b.ideal.width) ideal_line (with_ideal b) ts ls next t (λ n fits. ideal_next b n ls far (subst (λ s. LinesAt s b ls) e far.at) fits)
  next_at place.Rows b next ts ls e far (inl t) = by_item (FitsRow b.ideal) row_line (with_ideal_row b) ts ls next t (λ row fits. row_next b row ls far e fits)
  next_at place.Rows b next ts ls e far (inr t) = by_item (FitsPower b.ideal) power_line (with_power b) ts ls next t (λ n fits. power_next b n ls far e fits)
  next_at place.Residue b next ts ls e far t = by_item (λ (r : Residue). Unit {0}) residue_line (with_residue b) ts ls next t (λ r fits. residue_next b r ls far e)
  next_at place.Whole b next ts ls e far t = absurd t

  pub local_next : (b next : LocalBlock) (ts : List (List ℕ)) (ls : List (List (List ℕ))) → IsLocalSoFar b ls → LocalStep b ts next → IsLocalSoFar next (ls ++ ts ∷ [])
  local_next b next ts ls far t = next_at b.place b next ts ls refl far t

  -- the block of a whole claim
  module _ (b : LocalBlock) (ls : List (List (List ℕ))) (far : IsLocalSoFar b ls) (whole : IsWholeLocal b) where
    behind : BehindPower b ls (residue_line b.residue ∷ [])
    behind = subst (λ s. LinesAt s b ls) whole far.at

    pub local_lines : ls ≡ claim_block h (local_claim b)
    local_lines = behind.lines ∙ ap (λ n. ideal_line n ∷ (map row_line b.ideal.rows ++ (power_line b.power ∷ residue_line b.residue ∷ []))) (sym behind.whole)

    pub local_head_is : head.Local b.subject b.hom ≡ head.Local m c
    local_head_is = λ i. head.Local (far.subject i) (far.hom i)

    pub local_is_claim : (earlier : ℕ) → length rs ≡ suc earlier → AreNumbers earlier (length (modules_of rs)) (length (maps_of rs)) (head.Local m c)
        → IsLocalBlock h rs b.subject b.hom (matrix_of b.ideal) b.power
    local_is_claim earlier e are =
        let w = ideal_width h rs c in
        let size : length b.ideal.rows * w ≤ most_entries = subst (λ n. n * w ≤ most_entries) (sym behind.whole) far.small.small in
        subst (λ x. IsLocalBlock h rs x b.hom (matrix_of b.ideal) b.power) (sym far.subject)
        (subst (λ x. IsLocalBlock h rs m x (matrix_of b.ideal) b.power) (sym far.hom) record {
          is_module = are.0;
          named = record { from = are.1.from; earlier = let to = are.1.to in omega (arith, e, to) };
          homs = far.fits;
          are_rows = record { shape = read_shape h.field w b.ideal far.read size; few = subst (λ n. n ≤ w) (sym behind.whole) far.small.few };
          power_from = behind.number.from;
          power_to = behind.number.to;
        })

-- ---- a claim is read

-- the block of a whole claim
abbrev pub whole_local : Header → List Record → (m c : ℕ) → PlainMatrix → ℕ → Residue → LocalBlock
whole_local h rs m c ideal power residue = record {
  subject = m;
  hom = c;
  place = place.Whole;
  ideal = record { field = h.field; width = ideal_width h rs c; wanted = length ideal.rows; rows = ideal.rows };
  power = power;
  residue = residue;
}

module _ (h : Header) (rs : List Record) (m c : ℕ) (ideal : PlainMatrix) (power : ℕ) (residue : Residue) (is : IsLocalBlock h rs m c ideal power) where
  abbrev pub w : ℕ
  w = ideal_width h rs c

  rows_are : (length ideal.rows ≡ ideal.row_count) × All (IsRow h.field w) ideal.rows
  rows_are = shape_rows h.field ideal.row_count w ideal is.are_rows.shape

  fits : FitsIdeal w (length ideal.rows)
  fits =
      let few = is.are_rows.few in
      let s = is.are_rows.shape in
      let same : ideal.row_count * ideal.col_count ≡ length ideal.rows * w = (λ i. sym rows_are.0 i * s.col_count i) in
      record { few = (let e = rows_are.0 in omega (arith, few, e)); small = subst (λ k. k ≤ most_entries) same s.matrix.fits }

  -- among the rows
  abbrev pub among : PartRows → LocalBlock
  among r = record (local_block h rs m c) { place = place.Rows; ideal = r }

  abbrev pub all_rows : PartRows
  all_rows = record { field = h.field; width = w; wanted = length ideal.rows; rows = ideal.rows }

  abbrev pub rest : List (List (List ℕ))
  rest = power_line power ∷ residue_line residue ∷ []

  behind_rows : Leads LocalStep (among all_rows) rest (whole_local h rs m c ideal power residue)
  behind_rows = (
    with_power (among all_rows) power,
    inr (takes_own (FitsPower all_rows) power_line (with_power (among all_rows)) power (record { whole = refl; number = record { from = is.power_from; to = is.power_to } }) (one_power all_rows)),
    (
      whole_local h rs m c ideal power residue,
      takes_own (λ (r : Residue). Unit {0}) residue_line (with_residue (with_power (among all_rows) power)) residue tt one_residue,
      refl,
    ),
  )

  rows_read : Leads LocalStep (among (no_rows h.field w (length ideal.rows))) (map row_line ideal.rows) (among all_rows)
  rows_read =
      leads_within RowStep LocalStep among (λ p q l t. inl (takes_within (FitsRow p) row_line (with_row p) among l q t)) (no_rows h.field w (length ideal.rows)) all_rows (map row_line ideal.rows)
      (read_all h.field w ideal.rows rows_are.1)

  pub local_read : Leads LocalStep (local_block h rs m c) (claim_block h (claim.Local m c ideal power residue)) (whole_local h rs m c ideal power residue)
  local_read =
      subst (λ n. Leads LocalStep (local_block h rs m c) (ideal_line n ∷ (map row_line ideal.rows ++ rest)) (whole_local h rs m c ideal power residue)) rows_are.0 (
        among (no_rows h.field w (length ideal.rows)),
        takes_own (FitsIdeal w) ideal_line (with_ideal (local_block h rs m c)) (length ideal.rows) fits (one_ideal w),
        leads_append LocalStep (among (no_rows h.field w (length ideal.rows))) (among all_rows) (whole_local h rs m c ideal power residue) (map row_line ideal.rows) rest rows_read behind_rows,
      )

  pub local_back : local_claim (whole_local h rs m c ideal power residue) ≡ claim.Local m c ideal power residue
  local_back = ap (λ (a : PlainMatrix). claim.Local m c a power residue) (matrix_back h.field ideal.row_count w ideal is.are_rows.shape)

-- ---- one line leads to one block, or to none

not_both : {P : Type 0} (r : PartRows) (row : List ℕ) (n : ℕ) → FitsRow r row → FitsPower r n → P
not_both r row n a b = let l = a.left in let e = b.whole in absurd (omega (arith, l, e))

one_at : (s : LocalPlace) (b q r : LocalBlock) (ts : List (List ℕ)) → LocalStepAt s b ts q → LocalStepAt s b ts r → q ≡ r
one_at place.Ideal b q r ts t u = takes_one (FitsIdeal b.ideal.width) ideal_line (with_ideal b) ts q r t u
one_at place.Rows b q r ts (inl t) (inl u) = takes_one (FitsRow b.ideal) row_line (with_ideal_row b) ts q r t u
one_at place.Rows b q r ts (inl t) (inr u) = not_both b.ideal t.item u.item t.fits u.fits
one_at place.Rows b q r ts (inr t) (inl u) = not_both b.ideal u.item t.item u.fits t.fits
one_at place.Rows b q r ts (inr t) (inr u) = takes_one (FitsPower b.ideal) power_line (with_power b) ts q r t u
one_at place.Residue b q r ts t u = takes_one (λ (r : Residue). Unit {0}) residue_line (with_residue b) ts q r t u
one_at place.Whole b q r ts t u = absurd t

pub local_one : (b q r : LocalBlock) (ts : List (List ℕ)) → LocalStep b ts q → LocalStep b ts r → q ≡ r
local_one b q r ts t u = one_at b.place b q r ts t u

power_goes : (b : LocalBlock) (ts : List (List ℕ)) → Goes (Takes (FitsPower b.ideal) power_line (with_power b) ts)
power_goes b ts =
    takes_go (FitsPower b.ideal) power_line (with_power b) ts (one_power b.ideal)
    (like (λ d. (d.1.0, (record { whole = d.0; number = d.1.1 }, d.1.2))) (λ x. (x.1.0.whole, (x.0, x.1.0.number, x.1.1))) (both (cases_eq (length b.ideal.rows) b.ideal.wanted) (power_decided ts)))

either_goes : (b : LocalBlock) (ts : List (List ℕ)) → Goes (Takes (FitsRow b.ideal) row_line (with_ideal_row b) ts) → Goes (Takes (FitsPower b.ideal) power_line (with_power b) ts) → Goes (LocalStepAt place.Rows b ts)
either_goes b ts (inl go) other = inl (go.0, inl go.1)
either_goes b ts (inr none) (inl go) = inl (go.0, inr go.1)
either_goes b ts (inr none) (inr neither) = inr (λ q t. elim t [
  | inl u ↦ none q u
  | inr u ↦ neither q u
])

go_at : (s : LocalPlace) (b : LocalBlock) (ts : List (List ℕ)) → Goes (LocalStepAt s b ts)
go_at place.Ideal b ts =
    takes_go (FitsIdeal b.ideal.width) ideal_line (with_ideal b) ts (one_ideal b.ideal.width) (ideal_found b.ideal.width ts (ideal_decided 8192 (lit< tt) ts))
go_at place.Rows b ts = either_goes b ts (row_goes_within b.ideal (λ (r : PartRows). record b { ideal = r }) ts) (power_goes b ts)
go_at place.Residue b ts =
    takes_go (λ (r : Residue). Unit {0}) residue_line (with_residue b) ts one_residue (like (λ x. (x.0, (x.1, x.2))) (λ x. (x.0, x.1.0, x.1.1)) (residue_decided ts))
go_at place.Whole b ts = inr (λ q t. t)

pub local_go : (b : LocalBlock) (ts : List (List ℕ)) → Goes (LocalStep b ts)
local_go b ts = go_at b.place b ts

some_tokens : (t : List ℕ) (ts : List (List ℕ)) → t ∷ ts ≡ [] → ⊥
some_tokens t ts e = cc

module _ (c : ℕ) (outside : StandsOutside c) where
  clear_at : (s : LocalPlace) (b next : LocalBlock) (ts : List (List ℕ)) → LocalStepAt s b ts next → ClearLine c ts
  clear_at place.Ideal b next ts t =
      let few = few_rows b.ideal.width t.item t.fits in
      let big : 8192 < 2 ^ 64 = lit< tt in
      subst (ClearLine c) (sym t.spelled) record { some = λ e. some_tokens _ _ e; lacks = ideal_clear c outside t.item (omega (arith, few, big)) }
  clear_at place.Rows b next ts (inl t) = subst (ClearLine c) (sym t.spelled) (row_line_clear c outside b.ideal.field b.ideal.width t.item t.fits.is_row)
  clear_at place.Rows b next ts (inr t) =
      let few = t.fits.number.to in
      let big : 256 < 2 ^ 64 = lit< tt in
      subst (ClearLine c) (sym t.spelled) record { some = λ e. some_tokens _ _ e; lacks = power_clear c outside t.item (omega (arith, few, big)) }
  clear_at place.Residue b next ts t = subst (ClearLine c) (sym t.spelled) record { some = λ e. some_tokens _ _ e; lacks = residue_clear c outside t.item }
  clear_at place.Whole b next ts t = absurd t

  pub local_clear : (b next : LocalBlock) (ts : List (List ℕ)) → LocalStep b ts next → ClearLine c ts
  local_clear b next ts t = clear_at b.place b next ts t
