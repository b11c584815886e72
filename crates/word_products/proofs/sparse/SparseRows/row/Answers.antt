use Rattle.std.proofs.Common.{◌≡◌, ◌<◌, get_or, length, ap, sym, ◌∙◌, arith}
use Rattle.std.proofs.lemmas.List.{get_or_read}
use Rattle.word_products.specs.SparseRows.{begin_of}
use Rattle.word_products.proofs.SparseLemmas.{pieces-past, piece_is}
use Rattle.word_products.proofs.sparse.SparseRows.row.Goals as goal

pub returns-then-k-len-clause-row : goal.returns-then-k-len-clause-row
returns-then-k-len-clause-row c = rw (← c.self.view_is) (sym (pieces-past c.self.inside.ends.items c.self.inside.entries.items c.args.k (omega (arith, c.len.ensures, c.if-k-len.true, c.self.inside.ends.ok.0))))

inside : (c : goal.After-row_known-1) → c.args.k < length c.self.inside.ends.items
inside c = omega (arith, c.len.ensures, c.if-k-len.false, c.self.inside.ends.ok.0)

start : (c : goal.After-row_known-1) → c.begin_of-start.result ≡ begin_of c.self.inside.ends.items c.args.k
start c = c.begin_of-start.ensures ∙ ap (λ x. begin_of x c.args.k) c.deref.ensures.value

end : (c : goal.After-row_known-1) → c.index.result.now ≡ get_or c.self.inside.ends.items c.args.k 0
end c = get_or_read c.self.inside.ends.items _ _ (inside c) c.index.ensures 0

pub slice_bounds-result-count : goal.slice_bounds-result-count
slice_bounds-result-count c = omega (arith, start c, end c, c.self.invariant.ascending c.args.k (inside c))

pub offset_bounds-deref-start : goal.offset_bounds-deref-start
offset_bounds-deref-start c =
    let e = c.deref-2.type_inv.1 in
    let l = ap length c.deref-2.ensures.value in
    let i = c.self.invariant.inside c.args.k in
    let b = c.self.invariant.ascending c.args.k (inside c) in
    omega (arith, start c, e, l, i, b)

pub returns-clause-row : goal.returns-clause-row
returns-clause-row c =
    let l : c.args.k < length c.self.inside.ends.items = omega (arith, c.len.ensures, c.if-k-len.false, c.self.inside.ends.ok.0) in
    rw (← c.self.view_is, c.deref-2.ensures.value) (piece_is c.self.inside.ends.items c.self.inside.entries.items c.args.k c.begin_of-start.result c.index.result.now l
    (c.begin_of-start.ensures ∙ ap (λ x. begin_of x c.args.k) c.deref.ensures.value) (get_or_read c.self.inside.ends.items _ _ l c.index.ensures 0))
