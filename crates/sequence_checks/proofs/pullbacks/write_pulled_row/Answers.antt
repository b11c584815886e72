use Rattle.std.proofs.Common.{ℕ, ◌≡◌, ◌+◌, sym, ap, ◌∙◌, subst, arith}
use Rattle.std.specs.Prelude.{slice_index}
use Rattle.linear_algebra.specs.Field.{Gf, neg}
use Rattle.linear_algebra.specs.FieldLaws.{neg_below}
use Rattle.fp_linear.specs.Slices.{AreElements, IsWritten}
use Rattle.fp_linear.proofs.Slices.{AreElements-written}
use Rattle.path_algebra.specs.declared.Header.{Header}
use Rattle.translate_checks.proofs.DotSteps.{written_from_start}
use Rattle.sequence_checks.proofs.pullbacks.write_pulled_row.Goals as goal

pub copy_negatives-requires-clause-elements : goal.copy_negatives-requires-clause-elements
copy_negatives-requires-clause-elements c = subst (λ (q : Gf). AreElements q c.write_part_along.new.row) (ap (λ (h : Header). h.field) (sym c.header.ensures.header)) c.write_part_along.ensures.elements

pub returns-clause-row : goal.returns-clause-row
returns-clause-row c = λ t.
    let first = written_from_start c.clear.new.entries c.copy_part.new.into c.write_word_row.new.row 0 c.args.a c.copy_part.ensures in
    let second = subst (λ (q : Gf). IsWritten c.copy_part.new.into c.copy_negatives.new.into c.args.a c.args.b (λ k. neg q (slice_index c.write_part_along.new.row k))) (ap (λ (h : Header). h.field) c.header.ensures.header) c.copy_negatives.ensures in
    record {
      left = c.write_word_row.new.row;
      right = c.write_part_along.new.row;
      mapped = c.write_word_row.ensures.row t;
      valued = c.write_part_along.ensures.row t;
      first = λ k l. second.before k l ∙ ap (slice_index c.copy_part.new.into) (let e : ◌≡◌ {A = ℕ} k (0 + k) = omega arith in e) ∙ first.within k l;
      second = λ k l. second.within k l;
    }

pub returns-clause-elements : goal.returns-clause-elements
returns-clause-elements c =
    let q = c.args.table.now.header.field in
    let first = AreElements-written q c.clear.new.entries c.copy_part.new.into 0 c.args.a (slice_index c.write_word_row.new.row) (c.clear.ensures.elements q)
    (written_from_start c.clear.new.entries c.copy_part.new.into c.write_word_row.new.row 0 c.args.a c.copy_part.ensures) c.write_word_row.ensures.elements.small in
    let second = subst (λ (q : Gf). IsWritten c.copy_part.new.into c.copy_negatives.new.into c.args.a c.args.b (λ k. neg q (slice_index c.write_part_along.new.row k))) (ap (λ (h : Header). h.field) c.header.ensures.header) c.copy_negatives.ensures in
    AreElements-written q c.copy_part.new.into c.copy_negatives.new.into c.args.a c.args.b _ first second (λ k. neg_below q _)
