-- Lists that are read token by token.
use Rattle.std.proofs.Common.{◌≡◌, ℕ, List, [], ◌∷◌, ◌++◌, length, cond, true, false, Some, None, inl, inr, refl, sym, ap, ◌∙◌, append_assoc, append-nil, arith}
use Rattle.std.specs.declared.option.Option.{Option}
use Rattle.std.specs.List.{slice_split, onto_first}
use Rattle.std.proofs.lemmas.Bool.{cases_Bool}
use Rattle.std.proofs.lemmas.List.Splits.{slice_split-cons_yes, slice_split-cons_no, length-slice_split}
use Rattle.script_lang.specs.Tokens.{number_to}
use Rattle.script_lang.specs.Arguments.{before, numbers_in, is_slash, row_in, rows_in, matrix_in}

-- the items read so far, and those that are still to be read
abbrev pub behind : {X : Type 0} → List X → Option (List X) → Option (List X)
behind xs None = None
behind xs (Some ys) = Some (xs ++ ys)

pub behind-nothing : {X : Type 0} (r : Option (List X)) → behind [] r ≡ r
behind-nothing None = refl
behind-nothing (Some ys) = refl

pub behind-before : {X : Type 0} (xs : List X) (x : X) (r : Option (List X)) → behind xs (before (Some x) r) ≡ behind (xs ++ x ∷ []) r
behind-before xs x None = refl
behind-before xs x (Some ys) = ap Some (sym (append_assoc xs (x ∷ []) ys))

-- ---- rows

-- the matrix where the tokens end, from the row that was begun and the rows before it
abbrev pub ended : List ℕ → List (List ℕ) → Option (List (List ℕ))
ended [] [] = Some []
ended [] (r ∷ rows) = None
ended (e ∷ row) rows = Some (rows ++ (e ∷ row) ∷ [])

abbrev pub entry_in : (List ℕ → Option (List (List ℕ))) → List ℕ → Option ℕ → Option (List (List ℕ))
entry_in rest row None = None
entry_in rest row (Some n) = rest (row ++ n ∷ [])

abbrev pub slash_in : (List (List ℕ) → Option (List (List ℕ))) → List (List ℕ) → List ℕ → Option (List (List ℕ))
slash_in rest rows [] = None
slash_in rest rows (e ∷ row) = rest (rows ++ (e ∷ row) ∷ [])

-- the matrix with these rows, this front of a row, and what the tokens hold
abbrev pub rest_in : ℕ → List (List ℕ) → List ℕ → List (List ℕ) → Option (List (List ℕ))
rest_in most rows row [] = ended row rows
rest_in most rows row (t ∷ ts) =
    cond (is_slash t) (slash_in (λ r. rest_in most r [] ts) rows row) (entry_in (λ r. rest_in most rows r ts) row (number_to most t))

-- a row whose front was read
abbrev whole_row : Option (List ℕ) → List ℕ → Option (List ℕ)
whole_row None row = None
whole_row (Some []) [] = None
whole_row (Some (n ∷ ns)) [] = Some (n ∷ ns)
whole_row (Some ns) (e ∷ row) = Some ((e ∷ row) ++ ns)

abbrev rows_behind : ℕ → List ℕ → List (List (List ℕ)) → Option (List (List ℕ))
rows_behind most row [] = None
rows_behind most row (p ∷ parts) = before (whole_row (numbers_in most p) row) (rows_in most parts)

whole_row-entry : (r : Option (List ℕ)) (n : ℕ) (row : List ℕ) → whole_row (before (Some n) r) row ≡ whole_row r (row ++ n ∷ [])
whole_row-entry None n row = refl
whole_row-entry (Some []) n [] = refl
whole_row-entry (Some (m ∷ ms)) n [] = refl
whole_row-entry (Some []) n (e ∷ row) = ap (λ l. Some (e ∷ l)) (sym (append-nil (row ++ n ∷ [])))
whole_row-entry (Some (m ∷ ms)) n (e ∷ row) = ap (λ l. Some (e ∷ l)) (sym (append_assoc row (n ∷ []) (m ∷ ms)))

whole_row-none : (a : Option ℕ) (r : Option (List ℕ)) → whole_row (before a r) [] ≡ before a r
whole_row-none None r = refl
whole_row-none (Some n) None = refl
whole_row-none (Some n) (Some ns) = refl

whole_row-row : (most : ℕ) (p : List (List ℕ)) → whole_row (numbers_in most p) [] ≡ row_in most p
whole_row-row most [] = refl
whole_row-row most (t ∷ p) = whole_row-none (number_to most t) (numbers_in most p)

rows_behind-none : (most : ℕ) (ps : List (List (List ℕ))) → (ps ≡ [] → ⊥) → rows_behind most [] ps ≡ rows_in most ps
rows_behind-none most [] some = absurd (some refl)
rows_behind-none most (p ∷ ps) some = ap (λ r. before r (rows_in most ps)) (whole_row-row most p)

split_some : (ts : List (List ℕ)) → slice_split is_slash ts ≡ [] → ⊥
split_some ts none = absurd (omega (arith, length-slice_split is_slash ts, ap length none))

row_ended : (row : List ℕ) (e : ℕ) (ps : List (List (List ℕ))) (most : ℕ) → rows_behind most (e ∷ row) ([] ∷ ps) ≡ before (Some (e ∷ row)) (rows_in most ps)
row_ended row e ps most = ap (λ l. before (Some (e ∷ l)) (rows_in most ps)) (append-nil row)

entry_none : (most : ℕ) (t : List ℕ) (row : List ℕ) (ps : List (List (List ℕ))) → number_to most t ≡ None → rows_behind most row (onto_first t ps) ≡ None
entry_none most t row [] none = rw none refl
entry_none most t row (p ∷ ps) none = rw none refl

entry_some : (most : ℕ) (t : List ℕ) (n : ℕ) (row : List ℕ) (ps : List (List (List ℕ))) → (ps ≡ [] → ⊥) → number_to most t ≡ Some n
    → rows_behind most row (onto_first t ps) ≡ rows_behind most (row ++ n ∷ []) ps
entry_some most t n row [] some is = absurd (some refl)
entry_some most t n row (p ∷ ps) some is =
    ap (λ a. before (whole_row (before a (numbers_in most p)) row) (rows_in most ps)) is
    ∙ ap (λ r. before r (rows_in most ps)) (whole_row-entry (numbers_in most p) n row)

push_some : (row : List ℕ) (n : ℕ) → row ++ n ∷ [] ≡ [] → ⊥
push_some [] n same = cc
push_some (e ∷ row) n same = cc

push_some_row : (rows : List (List ℕ)) (r : List ℕ) → rows ++ r ∷ [] ≡ [] → ⊥
push_some_row [] r same = cc
push_some_row (e ∷ rows) r same = cc

onto_some : (t : List ℕ) (ps : List (List (List ℕ))) → onto_first t ps ≡ [] → ⊥
onto_some t [] same = cc
onto_some t (p ∷ ps) same = cc

pub rest_cases : (most : ℕ) (rows : List (List ℕ)) (row : List ℕ) (ts : List (List ℕ)) → (rows ≡ [] → row ≡ [] → ⊥)
    → rest_in most rows row ts ≡ behind rows (rows_behind most row (slice_split is_slash ts))
rest_cases most [] [] [] some = absurd (some refl refl)
rest_cases most (r ∷ rows) [] [] some = refl
rest_cases most rows (e ∷ row) [] some = sym (ap (behind rows) (row_ended row e [] most))
rest_cases most rows row (t ∷ ts) some =
    elim (cases_Bool (is_slash t)) [
      | inl slash ↦ slash_case row (λ rs r h. rest_cases most rs r ts h) slash some
      | inr no_slash ↦ entry_case (number_to most t) (λ rs r h. rest_cases most rs r ts h) refl no_slash
    ]
  where
    slash_case : (line : List ℕ) (ih : (rs : List (List ℕ)) (r : List ℕ) → (rs ≡ [] → r ≡ [] → ⊥) → rest_in most rs r ts ≡ behind rs (rows_behind most r (slice_split is_slash ts))) → is_slash t ≡ true → (rows ≡ [] → line ≡ [] → ⊥) → rest_in most rows line (t ∷ ts) ≡ behind rows (rows_behind most line (slice_split is_slash (t ∷ ts)))
    slash_case [] ih slash begun = rw slash refl
    slash_case (e ∷ line) ih slash begun =
        ap (λ b. cond b (rest_in most (rows ++ (e ∷ line) ∷ []) [] ts) (entry_in (λ r. rest_in most rows r ts) (e ∷ line) (number_to most t))) slash
        ∙ ih (rows ++ (e ∷ line) ∷ []) [] (λ same _. push_some_row rows (e ∷ line) same)
        ∙ ap (behind (rows ++ (e ∷ line) ∷ [])) (rows_behind-none most (slice_split is_slash ts) (split_some ts))
        ∙ sym (behind-before rows (e ∷ line) (rows_in most (slice_split is_slash ts)))
        ∙ sym (ap (behind rows) (ap (rows_behind most (e ∷ line)) (slice_split-cons_yes is_slash t ts slash) ∙ row_ended line e (slice_split is_slash ts) most))

    entry_case : (a : Option ℕ) (ih : (rs : List (List ℕ)) (r : List ℕ) → (rs ≡ [] → r ≡ [] → ⊥) → rest_in most rs r ts ≡ behind rs (rows_behind most r (slice_split is_slash ts))) → number_to most t ≡ a → is_slash t ≡ false → rest_in most rows row (t ∷ ts) ≡ behind rows (rows_behind most row (slice_split is_slash (t ∷ ts)))
    entry_case None ih is no_slash =
        ap (λ b. cond b (slash_in (λ r. rest_in most r [] ts) rows row) (entry_in (λ r. rest_in most rows r ts) row (number_to most t))) no_slash
        ∙ ap (entry_in (λ r. rest_in most rows r ts) row) is
        ∙ sym (ap (behind rows) (ap (rows_behind most row) (slice_split-cons_no is_slash t ts no_slash) ∙ entry_none most t row (slice_split is_slash ts) is))
    entry_case (Some n) ih is no_slash =
        ap (λ b. cond b (slash_in (λ r. rest_in most r [] ts) rows row) (entry_in (λ r. rest_in most rows r ts) row (number_to most t))) no_slash
        ∙ ap (entry_in (λ r. rest_in most rows r ts) row) is
        ∙ ih rows (row ++ n ∷ []) (λ _ same. push_some row n same)
        ∙ sym (ap (behind rows) (ap (rows_behind most row) (slice_split-cons_no is_slash t ts no_slash) ∙ entry_some most t n row (slice_split is_slash ts) (split_some ts) is))

-- read from the start, it is the matrix of the tokens
pub matrix-rest : (most : ℕ) (ts : List (List ℕ)) → rest_in most [] [] ts ≡ matrix_in most ts
matrix-rest most [] = refl
matrix-rest most (t ∷ ts) =
    elim (cases_Bool (is_slash t)) [
      | inl slash ↦ rw slash refl
      | inr no_slash ↦ entry_case (number_to most t) refl no_slash
    ]
  where
    entry_case : (a : Option ℕ) → number_to most t ≡ a → is_slash t ≡ false → rest_in most [] [] (t ∷ ts) ≡ matrix_in most (t ∷ ts)
    entry_case None is no_slash =
        ap (λ b. cond b None (entry_in (λ r. rest_in most [] r ts) [] (number_to most t))) no_slash
        ∙ ap (entry_in (λ r. rest_in most [] r ts) []) is
        ∙ sym (ap (rows_in most) (slice_split-cons_no is_slash t ts no_slash) ∙ sym (rows_behind-none most (onto_first t (slice_split is_slash ts)) (onto_some t (slice_split is_slash ts))) ∙ entry_none most t [] (slice_split is_slash ts) is)
    entry_case (Some n) is no_slash =
        ap (λ b. cond b None (entry_in (λ r. rest_in most [] r ts) [] (number_to most t))) no_slash
        ∙ ap (entry_in (λ r. rest_in most [] r ts) []) is
        ∙ rest_cases most [] (n ∷ []) ts (λ _ same. push_some [] n same)
        ∙ behind-nothing (rows_behind most (n ∷ []) (slice_split is_slash ts))
        ∙ sym (ap (rows_in most) (slice_split-cons_no is_slash t ts no_slash) ∙ sym (rows_behind-none most (onto_first t (slice_split is_slash ts)) (onto_some t (slice_split is_slash ts))) ∙ entry_some most t n [] (slice_split is_slash ts) (split_some ts) is)

-- ---- the ends of the loop

pub matrix_slash : (most : ℕ) (rows : List (List ℕ)) (row : List ℕ) (t : List ℕ) (ts ws start : List (List ℕ)) → ws ≡ t ∷ ts → rest_in most rows row ws ≡ rest_in most [] [] start
    → is_slash t ≡ true → row ≡ [] → None ≡ matrix_in most start
matrix_slash most rows row t ts ws start is so_far slash empty =
    sym (ap (rest_in most rows row) is ∙ ap (λ r. rest_in most rows r (t ∷ ts)) empty ∙ ap (λ b. cond b None (entry_in (λ r. rest_in most rows r ts) [] (number_to most t))) slash)
    ∙ so_far ∙ matrix-rest most start

pub matrix_entry : (most : ℕ) (rows : List (List ℕ)) (row : List ℕ) (t : List ℕ) (ts ws start : List (List ℕ)) → ws ≡ t ∷ ts → rest_in most rows row ws ≡ rest_in most [] [] start
    → is_slash t ≡ false → number_to most t ≡ None → None ≡ matrix_in most start
matrix_entry most rows row t ts ws start is so_far plain none =
    sym (ap (rest_in most rows row) is ∙ ap (λ b. cond b (slash_in (λ r. rest_in most r [] ts) rows row) (entry_in (λ r. rest_in most rows r ts) row (number_to most t))) plain
    ∙ ap (entry_in (λ r. rest_in most rows r ts) row) none)
    ∙ so_far ∙ matrix-rest most start

pub matrix_ended : (most : ℕ) (rows : List (List ℕ)) (row : List ℕ) (ts start : List (List ℕ)) → rest_in most rows row ts ≡ rest_in most [] [] start
    → ts ≡ [] → ended row rows ≡ matrix_in most start
matrix_ended most rows row ts start so_far none = sym (ap (rest_in most rows row) none) ∙ so_far ∙ matrix-rest most start

pub ended_none : (row : List ℕ) (rows : List (List ℕ)) → row ≡ [] → (rows ≡ [] → ⊥) → ended row rows ≡ None
ended_none [] [] a b = absurd (b refl)
ended_none [] (r ∷ rows) a b = refl
ended_none (e ∷ row) rows a b = cc

pub ended_last : (row : List ℕ) (rows : List (List ℕ)) → (row ≡ [] → ⊥) → ended row rows ≡ Some (rows ++ row ∷ [])
ended_last [] rows a = absurd (a refl)
ended_last (e ∷ row) rows a = refl

pub ended_nothing : (row : List ℕ) (rows : List (List ℕ)) → row ≡ [] → rows ≡ [] → Some rows ≡ ended row rows
ended_nothing [] [] a b = refl
ended_nothing [] (r ∷ rows) a b = cc
ended_nothing (e ∷ row) rows a b = cc
