use Rattle.std.proofs.Common.{◌≡◌, length, take, drop, ◌∙◌, ap, arith}
use Rattle.std.proofs.lemmas.List.{take_at}
use Rattle.linear_algebra.specs.Rows.{rows_of}
use Rattle.linear_algebra.proofs.Rows.{length-rows_of}
use Rattle.word_products.proofs.RowSlices.{IsCutOff, rows-cut_off, HoldsRows-cut_off, IsReduced-few}
use Rattle.word_products.proofs.closure.Closure.reduce.Goals as goal

cut : (c : goal.After-self-3-1) → IsCutOff c.self.inside.rows c.self.inside.columns c.echelon_rows-rank.result c.self.inside.entries.len c.echelon_rows-rank.new.entries
    (drop (length c.echelon_rows-rank.new.entries) c.self.inside.entries.items) c.truncate.new.self.items
cut c = record {
  length_is = (let k = c.self.invariant.count in let o = c.self.inside.entries.ok in omega arith);
  entries_length = (let k = c.self.invariant.count in let o = c.echelon_rows-rank.auto.entries in let v = ap length c.deref_mut.ensures.value in omega arith);
  few = (let f = c.echelon_rows-rank.ensures.form.fits in let e = length-rows_of c.self.inside.rows c.self.inside.columns c.echelon_rows-rank.new.entries in omega arith);
  items_are = c.truncate.ensures.items;
}

rows : (c : goal.After-self-3-1) → rows_of c.echelon_rows-rank.result c.self.inside.columns c.truncate.new.self.items
    ≡ take c.echelon_rows-rank.result (rows_of c.self.inside.rows c.self.inside.columns c.echelon_rows-rank.new.entries)
rows c = rows-cut_off c.self.inside.rows c.self.inside.columns c.echelon_rows-rank.result c.self.inside.entries.len c.echelon_rows-rank.new.entries
    (drop (length c.echelon_rows-rank.new.entries) c.self.inside.entries.items) c.truncate.new.self.items (cut c)

same : (c : goal.After-self-3-1) → length c.echelon_rows-rank.new.pivots ≡ c.self.inside.pivots.len
same c = let o = c.echelon_rows-rank.auto.pivots in let v = ap length c.deref_mut-2.ensures.value in let k = c.self.inside.pivots.ok in omega arith

pub invariant_of-self : goal.invariant_of-self
invariant_of-self c = HoldsRows-cut_off c.self.inside.field c.self.inside.rows c.self.inside.columns c.echelon_rows-rank.result c.self.inside.entries.len
    (length c.self.inside.pivots.items) _ c.echelon_rows-rank.new.entries (drop (length c.echelon_rows-rank.new.entries) c.self.inside.entries.items) c.truncate.new.self.items
    c.self.inside.entries.items (cut c) c.echelon_rows-rank.ensures.elements
    (ap length (take_at c.echelon_rows-rank.new.pivots _ c.self.inside.pivots.len (same c)) ∙ (same c ∙ c.self.inside.pivots.ok.0)) c.self.invariant

pub returns-clause-reduced : goal.returns-clause-reduced
returns-clause-reduced c = rw (rows c, ← c.self.view_is) c.echelon_rows-rank.ensures.form.reduced

pub returns-clause-span : goal.returns-clause-span
returns-clause-span c = rw (rows c, ← c.self.view_is, ← c.deref_mut.ensures.value) c.echelon_rows-rank.ensures.form.span

pub returns-clause-few : goal.returns-clause-few
returns-clause-few c = rw (rows c) (IsReduced-few _ _ c.echelon_rows-rank.ensures.form.reduced)
