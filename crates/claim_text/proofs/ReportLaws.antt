-- Reports as texts: each has one spelling, a text is the spelling of at most one report, or has one first bad line.
use Rattle.std.proofs.Common.{◌≡◌, ℕ, ◌+◌, List, [], ◌∷◌, ◌++◌, length, ◌⊎◌, inl, inr, refl, sym, ap, ◌∙◌}
use Rattle.text_lines.specs.Lines.{lines}
use Rattle.text_lines.proofs.Readings.{reads_one, whole_not_bad, one_bad, ReadOrBad, no_lines_read_or_bad, lines_read_or_bad}
use Rattle.path_algebra.specs.declared.Header.{Header}
use Rattle.header_text.specs.Part.{start as header_start, IsStart, IsFront}
use Rattle.header_text.specs.Spelling.{header_lines, text_of}
use Rattle.header_text.proofs.FrontLemmas.{start_front}
use Rattle.header_text.proofs.Joining.{text_of-append}
use Rattle.deciding.proofs.Deciding.{Decided}
use Rattle.report_types.specs.declared.claims.Record.{Record}
use Rattle.report_types.specs.declared.reports.Report.{Report}
use Rattle.claim_lines.specs.Spelling.{title_line, end_line}
use Rattle.claim_text.specs.declared.part.Place.{Place}
use Rattle.claim_text.specs.declared.part.Place.TheVariants as place
use Rattle.claim_text.specs.declared.part.Part.{Part}
use Rattle.claim_text.specs.Spelling.{record_lines, records_lines, report_text, front_text, record_text, records_text, end_text}
use Rattle.claim_text.specs.Part.{report_of, start}
use Rattle.claim_text.specs.Steps.{Step, MayEnd}
use Rattle.claim_text.specs.Determined.{Step-determined}
use Rattle.claim_text.specs.Texts.{IsTextOf, IsBadLine}
use Rattle.claim_text.proofs.DecidedLines.{line_goes, front_kept}
use Rattle.claim_text.proofs.SoundReading.{read_is_report}
use Rattle.claim_text.proofs.CompleteRecords.{text_reads}

pub one_report : (text : List ℕ) (r s : Report) → IsTextOf text r → IsTextOf text s → r ≡ s
one_report text r s a b =
    let x = text_reads text r a in
    let y = text_reads text s b in
    sym x.report ∙ (ap report_of (reads_one Step Step-determined start x.last y.last (lines text) x.reads y.reads) ∙ y.report)

pub one_bad_line : (text : List ℕ) (j k : ℕ) → IsBadLine text j → IsBadLine text k → j ≡ k
one_bad_line text j k a b = one_bad Step MayEnd Step-determined start (lines text) j k a b

pub report_not_bad : (text : List ℕ) (r : Report) (k : ℕ) → IsTextOf text r → IsBadLine text k → ⊥
report_not_bad text r k is bad =
    let x = text_reads text r is in
    whole_not_bad Step MayEnd Step-determined start x.last (lines text) k record { reads = x.reads; ends = x.ends } bad

ended : (s : Place) → Decided (s ≡ place.Ended)
ended place.Title = inr (λ e. cc)
ended place.Header = inr (λ e. cc)
ended place.WordCount = inr (λ e. cc)
ended (place.Words n) = inr (λ e. cc)
ended place.StepCount = inr (λ e. cc)
ended (place.Steps n) = inr (λ e. cc)
ended place.RuleCount = inr (λ e. cc)
ended (place.Rules n) = inr (λ e. cc)
ended place.Between = inr (λ e. cc)
ended (place.Matrices o) = inr (λ e. cc)
ended place.Block = inr (λ e. cc)
ended place.Ended = inl refl

read_or_bad : (p : Part) → IsFront p.front → (ls : List (List ℕ)) → ReadOrBad Step MayEnd p ls
read_or_bad p front [] = no_lines_read_or_bad Step MayEnd p (ended p.place)
read_or_bad p front (l ∷ ls) = lines_read_or_bad Step MayEnd p l ls (line_goes p front l) (λ q step. read_or_bad q (front_kept p q l step front) ls)

header_starts : IsStart header_start
header_starts = record { unbegun = refl; no_vertex = refl; no_arrow = refl; unbound = refl; no_relation = refl }

pub report_or_bad : (text : List ℕ) → ((r : Report) × IsTextOf text r) ⊎ ((k : ℕ) × IsBadLine text k)
report_or_bad text =
    elim (read_or_bad start (start_front header_start header_starts) (lines text)) [
      | inl whole ↦ inl (report_of whole.0, read_is_report text whole.0 whole.1)
      | inr bad ↦ inr bad
    ]

-- ---- a report in pieces

records_pieces : (h : Header) (M F K : ℕ) (rs : List Record) → text_of (records_lines h M F K rs) ≡ records_text h M F K rs
records_pieces h M F K [] = refl
records_pieces h M F K (r ∷ rs) =
    text_of-append (record_lines h M F K r) (records_lines h (M + length r.modules) (F + length r.maps) (K + 1) rs)
    ∙ ap (λ t. record_text h M F K r ++ t) (records_pieces h (M + length r.modules) (F + length r.maps) (K + 1) rs)

pub report_pieces : (r : Report) → report_text r ≡ front_text r ++ (records_text r.header 0 0 0 r.records ++ end_text r)
report_pieces r =
    let front = title_line ∷ header_lines r.header in
    let records = records_lines r.header 0 0 0 r.records in
    let last = end_line r.header (length r.records) r.end ∷ [] in
    text_of-append front (records ++ last)
    ∙ ap (λ t. text_of front ++ t) (text_of-append records last ∙ ap (λ t. t ++ text_of last) (records_pieces r.header 0 0 0 r.records))
