-- The entries of a functional, taken one part behind the other.
use Rattle.std.proofs.Common.{◌≡◌, ℕ, suc, ◌+◌, ◌<◌, ◌≤◌, List, [], ◌∷◌, ◌++◌, map, take, drop, length, All, decimal, sym, ap, ◌∙◌, subst, arith, append_assoc}
use Rattle.std.specs.Prelude.{slice_index}
use Rattle.std.proofs.lemmas.List.{length-append, map-append, take-append-drop, length-take-le}
use Rattle.std.proofs.lemmas.List.Elements.{All-append, All-take, All-tail}
use Rattle.linear_algebra.specs.BlockFamilies.{total}
use Rattle.linear_algebra.proofs.BlockFamilies.{total_grows}
use Rattle.linear_algebra.specs.Field.{Gf}
use Rattle.linear_algebra.specs.Rows.{IsRow}
use Rattle.object_lines.specs.Spelling.{numbers_form}
use Rattle.object_lines.specs.Reading.{Takes, BeginsOtherwise, IsElement}
use Rattle.object_lines.proofs.RowReading.{row_taken}
use Rattle.object_lines.proofs.Taking.{cons_tail}

module _ (spell : ℕ → List ℕ) (IsOne : ℕ → Type 0) where
  -- items behind items
  pub takes_both : (m n : ℕ) (old mid new : List ℕ) (tokens rest less : List (List ℕ)) → Takes spell IsOne m old mid tokens rest → Takes spell IsOne n mid new rest less → Takes spell IsOne (m + n) old new tokens less
  takes_both m n old mid new tokens rest less t u = record {
    taken = t.taken ++ u.taken;
    counted = let a = t.counted in let b = u.counted in omega (arith, a, b, length-append t.taken u.taken);
    all = All-append IsOne t.taken u.taken t.all u.all;
    behind = u.behind ∙ (ap (λ l. l ++ u.taken) t.behind ∙ append_assoc old t.taken u.taken);
    spelled = t.spelled ∙ (ap (λ l. map spell t.taken ++ l) u.spelled ∙ (sym (append_assoc (map spell t.taken) (map spell u.taken) less) ∙ ap (λ l. l ++ less) (sym (map-append spell t.taken u.taken))));
  }

  -- where so many do not follow, there are not all
  otherwise_by : (n : ℕ) (taken xs : List ℕ) (rest less : List (List ℕ)) → BeginsOtherwise spell IsOne n rest → length taken + n ≤ length xs → All IsOne xs → map spell taken ++ rest ≡ map spell xs ++ less → ⊥
  otherwise_by n [] xs rest less other l all e =
      other (take n xs) (map spell (drop n xs) ++ less) (length-take-le n xs (omega (arith, l))) (All-take IsOne n xs all)
      (e ∙ (ap (λ ys. map spell ys ++ less) (sym (take-append-drop n xs)) ∙ (ap (λ ys. ys ++ less) (map-append spell (take n xs) (drop n xs)) ∙ append_assoc (map spell (take n xs)) (map spell (drop n xs)) less)))
  otherwise_by n (t ∷ taken) [] rest less other l all e = absurd (omega (arith, l))
  otherwise_by n (t ∷ taken) (x ∷ xs) rest less other l all e =
      otherwise_by n taken xs rest less other (omega (arith, l)) (All-tail IsOne x xs all) (cons_tail (spell t) (spell x) (map spell taken ++ rest) (map spell xs ++ less) e)

  pub otherwise_behind : (m n k : ℕ) (old mid : List ℕ) (tokens rest : List (List ℕ)) → Takes spell IsOne m old mid tokens rest → BeginsOtherwise spell IsOne n rest → m + n ≤ k → BeginsOtherwise spell IsOne k tokens
  otherwise_behind m n k old mid tokens rest t other l =
      λ xs less counted all e. otherwise_by n t.taken xs rest less other (let c = t.counted in omega (arith, c, counted, l)) all (sym t.spelled ∙ e)

  module _ (counts : List ℕ) (j n : ℕ) (inside : j < length counts) (is : n ≡ slice_index counts j) where
    -- a part more
    pub takes_part : (old mid new : List ℕ) (tokens rest less : List (List ℕ)) → Takes spell IsOne (total j (slice_index counts)) old mid tokens rest → Takes spell IsOne n mid new rest less
        → Takes spell IsOne (total (j + 1) (slice_index counts)) old new tokens less
    takes_part old mid new tokens rest less t u =
        let next : suc j ≡ j + 1 = omega arith in
        subst (λ k. Takes spell IsOne k old new tokens less) (ap (λ k. total k (slice_index counts)) next)
        (subst (λ k. Takes spell IsOne (total j (slice_index counts) + k) old new tokens less) is (takes_both (total j (slice_index counts)) n old mid new tokens rest less t u))

    pub no_part : (old mid : List ℕ) (tokens rest : List (List ℕ)) → Takes spell IsOne (total j (slice_index counts)) old mid tokens rest → BeginsOtherwise spell IsOne n rest
        → BeginsOtherwise spell IsOne (total (length counts) (slice_index counts)) tokens
    no_part old mid tokens rest t other =
        otherwise_behind (total j (slice_index counts)) n (total (length counts) (slice_index counts)) old mid tokens rest t other
        (let grows = total_grows (slice_index counts) (length counts) j inside in omega (arith, grows, is))

-- entries that are all tokens are a row
pub entries_row : (q : Gf) (n : ℕ) (old new row : List ℕ) (tokens rest : List (List ℕ)) → old ≡ [] → rest ≡ [] → row ≡ new → Takes decimal (IsElement q) n old new tokens rest → IsRow q n row × (tokens ≡ numbers_form row)
entries_row q n old new row tokens rest none done is t =
    let taken = row_taken q n old new tokens rest done t in
    let same : taken.row ≡ row = sym (is ∙ (taken.behind ∙ ap (λ l. l ++ taken.row) none)) in
    (subst (IsRow q n) same taken.is_row, taken.spelled ∙ ap numbers_form same)
