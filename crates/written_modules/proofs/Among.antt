-- Names among others, one by one.
use Rattle.std.proofs.Common.{ℕ, suc, ◌≡◌, ◌<◌, ◌≤◌, ◌+◌, true, false, List, [], ◌∷◌, length, drop, sym, ap, ◌∙◌, arith, add-one}
use Rattle.std.specs.Prelude.{Option, Some, None, nat_eq, slice_index_or}
use Rattle.std.specs.List.{list_any}
use Rattle.std.specs.Cmp.Lexicographic.{pointwise}
use Rattle.std.proofs.Math.ListN.{drop_of_length-le}
use Rattle.std.proofs.Math.Seq.{drop-cons}
use Rattle.std.proofs.lemmas.List.{length-map}
use Rattle.report_types.specs.declared.reports.Why.{Why}
use Rattle.script_types.specs.declared.AtLine.{AtLine}
use Rattle.script_answers.specs.FirstTests.{first_of, unless, are_among}
use Rattle.script_answers.specs.Written.{line_names}
use Rattle.written_modules.specs.Lines.{unknown_name}
use Rattle.written_modules.proofs.Firsts.{passed, stopped, only}
use Rattle.written_modules.proofs.Fitting.{name_at}

module _ (known : List (List ℕ)) (lines : List AtLine) (j : ℕ) (l : AtLine) (inside : j < length lines) (is : l ≡ slice_index_or lines j l) where
  abbrev here : Option Why
  here = unless (list_any (pointwise nat_eq l.name) known) (unknown_name l.name)

  step : are_among known (drop j (line_names lines)) ≡ first_of (here ∷ are_among known (drop (suc j) (line_names lines)) ∷ [])
  step =
      ap (are_among known) (drop-cons (line_names lines) j [] (let n = length-map lines (λ (l : AtLine). l.name) in omega (arith, n, inside)))
      ∙ ap (λ (n : List ℕ). first_of (unless (list_any (pointwise nat_eq n) known) (unknown_name n) ∷ are_among known (drop (suc j) (line_names lines)) ∷ [])) (sym (name_at lines j l inside is))

  pub among_refused : are_among known (line_names lines) ≡ are_among known (drop j (line_names lines)) → false ≡ list_any (pointwise nat_eq l.name) known → are_among known (line_names lines) ≡ Some (unknown_name l.name)
  among_refused so e = so ∙ step ∙ stopped here (are_among known (drop (suc j) (line_names lines)) ∷ []) (unknown_name l.name) (ap (λ b. unless b (unknown_name l.name)) (sym e))

  pub among_more : are_among known (line_names lines) ≡ are_among known (drop j (line_names lines)) → true ≡ list_any (pointwise nat_eq l.name) known → are_among known (line_names lines) ≡ are_among known (drop (j + 1) (line_names lines))
  among_more so e =
      so ∙ step ∙ passed here (are_among known (drop (suc j) (line_names lines)) ∷ []) (ap (λ b. unless b (unknown_name l.name)) (sym e)) ∙ only (are_among known (drop (suc j) (line_names lines)))
      ∙ ap (λ k. are_among known (drop k (line_names lines))) (sym (add-one j))

pub among_end : (known : List (List ℕ)) (lines : List AtLine) (j : ℕ) → length lines ≤ j → are_among known (line_names lines) ≡ are_among known (drop j (line_names lines)) → are_among known (line_names lines) ≡ None
among_end known lines j b so = so ∙ ap (are_among known) (drop_of_length-le (line_names lines) (let n = length-map lines (λ (l : AtLine). l.name) in omega (arith, n, b)))
