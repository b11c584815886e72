use Rattle.std.proofs.Common.{suc, ◌≡◌, ◌+◌, refl, sym, ap, ◌∙◌, subst, arith}
use Rattle.std.specs.Prelude.{slice_index_or}
use Rattle.fp_linear.specs.Slices.{AreElements}
use Rattle.path_algebra.specs.declared.Header.{Header}
use Rattle.module_types.specs.declared.TermRows.{TermRows}
use Rattle.module_types.specs.Readings.{read}
use Rattle.module_types.specs.TermCoordinates.{coordinates}
use Rattle.module_checks.specs.Meeting.{AllMeet}
use Rattle.extension_checks.proofs.RowsDecided.{term_is, over_at, outer_rank, cocycles_from, meeting_from, rows_modulo, rows_reduced, rows_cleared, places_inside, all_is, all_means}
use Rattle.extension_checks.proofs.extension.first_failing_rows.Goals as goal

pub cocycle_rank-outer-requires-clause-terms : goal.cocycle_rank-outer-requires-clause-terms
cocycle_rank-outer-requires-clause-terms c =
    let h = c.args.table.now.header in
    let ws = c.args.table.now.words in
    let b = c.args.b.now in
    let terms = c.args.terms.now in
    let n = c.args.n in
    let T = c.requires.terms in
    let rows = c.args.rows.now in
    let m = c.cols-unknowns.ensures.matrix in
    let f = c.requires.field in
    let u = c.requires.coordinates in
    let first = c.index-first.result.now in
    let next = c.index-next.result.now in
    let e = c.index-first.ensures in
    let s : n + 1 ≡ suc n = omega arith in
    let d = subst (λ k. next ≡ slice_index_or terms k next) s c.index-next.ensures in
    let k = c.cols-unknowns.result in
    let kc = c.cols-unknowns.ensures.count in
    over_at h ws b terms n T n first next (omega arith) e d

pub cocycle_rank-outer-requires-clause-unknowns : goal.cocycle_rank-outer-requires-clause-unknowns
cocycle_rank-outer-requires-clause-unknowns c =
    let h = c.args.table.now.header in
    let ws = c.args.table.now.words in
    let b = c.args.b.now in
    let terms = c.args.terms.now in
    let n = c.args.n in
    let T = c.requires.terms in
    let rows = c.args.rows.now in
    let m = c.cols-unknowns.ensures.matrix in
    let f = c.requires.field in
    let u = c.requires.coordinates in
    let first = c.index-first.result.now in
    let next = c.index-next.result.now in
    let e = c.index-first.ensures in
    let s : n + 1 ≡ suc n = omega arith in
    let d = subst (λ k. next ≡ slice_index_or terms k next) s c.index-next.ensures in
    let k = c.cols-unknowns.result in
    let kc = c.cols-unknowns.ensures.count in
    kc ∙ u ∙ ap (λ (term : TermRows). coordinates (read h b) term) (sym (term_is terms n first (let g = T.counted in omega (arith, g)) e))

pub cocycle_rank-outer-requires-clause-block : goal.cocycle_rank-outer-requires-clause-block
cocycle_rank-outer-requires-clause-block c = omega (arith, c.requires.block, c.cols-unknowns.ensures.count, c.clear.auto.entries)

pub cocycle_rank-outer-requires-clause-room : goal.cocycle_rank-outer-requires-clause-room
cocycle_rank-outer-requires-clause-room c =
    let kc = c.cols-unknowns.ensures.count in
    let R = c.requires.room in
    let s = R.shape in
    let g = R.many in
    record { shape = omega (arith, s, kc); places = R.places; many = omega (arith, g, kc) }

pub cocycle_rank-outer-requires-clause-elements : goal.cocycle_rank-outer-requires-clause-elements
cocycle_rank-outer-requires-clause-elements c = c.clear.ensures.elements c.args.table.now.header.field

pub all_meet-requires-clause-field : goal.all_meet-requires-clause-field
all_meet-requires-clause-field c = c.requires.field ∙ ap (λ (g : Header). g.field) (sym c.header.ensures.header)

pub all_meet-requires-clause-elements : goal.all_meet-requires-clause-elements
all_meet-requires-clause-elements c = subst (λ (g : Header). AreElements g.field c.cocycle_rank-outer.new.entries) (sym c.header.ensures.header) c.cocycle_rank-outer.ensures.elements

pub all_meet-requires-clause-inside : goal.all_meet-requires-clause-inside
all_meet-requires-clause-inside c = let s = c.requires.room.shape in omega (arith, s, c.cocycle_rank-outer.auto.entries)

pub boundary_rank-inner-requires-clause-unknowns : goal.boundary_rank-inner-requires-clause-unknowns
boundary_rank-inner-requires-clause-unknowns c = c.cols-unknowns.ensures.count ∙ c.requires.coordinates

pub boundary_rank-inner-requires-clause-line : goal.boundary_rank-inner-requires-clause-line
boundary_rank-inner-requires-clause-line c = omega (arith, c.requires.block, c.cols-unknowns.ensures.count, c.clear.auto.entries, c.cocycle_rank-outer.auto.block)

pub boundary_rank-inner-requires-clause-room : goal.boundary_rank-inner-requires-clause-room
boundary_rank-inner-requires-clause-room c =
    let kc = c.cols-unknowns.ensures.count in
    let R = c.requires.room in
    let s = R.shape in
    let g = R.many in
    let p = R.places in
    record { shape = omega (arith, s, kc, c.cocycle_rank-outer.auto.entries); places = omega (arith, p, c.cocycle_rank-outer.auto.pivots); many = omega (arith, g, kc) }

pub are_cleared-requires-clause-few : goal.are_cleared-requires-clause-few
are_cleared-requires-clause-few c =
    let p = c.requires.room.places in
    omega (arith, p, c.cocycle_rank-outer.auto.pivots, c.boundary_rank-inner.auto.pivots, c.boundary_rank-inner.ensures.few)

pub are_cleared-requires-clause-inside : goal.are_cleared-requires-clause-inside
are_cleared-requires-clause-inside c =
    let t = c.requires.table in
    let h = c.args.table.now.header in
    let ws = c.args.table.now.words in
    let b = c.args.b.now in
    let terms = c.args.terms.now in
    let n = c.args.n in
    let T = c.requires.terms in
    let rows = c.args.rows.now in
    let m = c.cols-unknowns.ensures.matrix in
    let f = c.requires.field in
    let u = c.requires.coordinates in
    let first = c.index-first.result.now in
    let next = c.index-next.result.now in
    let e = c.index-first.ensures in
    let s : n + 1 ≡ suc n = omega arith in
    let d = subst (λ k. next ≡ slice_index_or terms k next) s c.index-next.ensures in
    let k = c.cols-unknowns.result in
    let kc = c.cols-unknowns.ensures.count in
    let r = c.boundary_rank-inner.result in
    let pivots = c.boundary_rank-inner.new.pivots in
    let p = c.boundary_rank-inner.ensures.pivots t in
    places_inside h ws b terms n T t rows m f u r pivots p

pub returns-then-not-all_meet : goal.returns-then-not-all_meet
returns-then-not-all_meet c = λ t.
    let h = c.args.table.now.header in
    let ws = c.args.table.now.words in
    let b = c.args.b.now in
    let terms = c.args.terms.now in
    let n = c.args.n in
    let T = c.requires.terms in
    let rows = c.args.rows.now in
    let m = c.cols-unknowns.ensures.matrix in
    let f = c.requires.field in
    let u = c.requires.coordinates in
    let first = c.index-first.result.now in
    let next = c.index-next.result.now in
    let e = c.index-first.ensures in
    let s : n + 1 ≡ suc n = omega arith in
    let d = subst (λ k. next ≡ slice_index_or terms k next) s c.index-next.ensures in
    let k = c.cols-unknowns.result in
    let kc = c.cols-unknowns.ensures.count in
    let folded = c.cocycle_rank-outer.new.entries in
    let asked = c.cocycle_rank-outer.ensures.asked t in
    (0, (refl, λ z. c.if-not-all_meet.ensures (subst (λ (g : Header). AllMeet g.field rows 1025 folded) (sym c.header.ensures.header) (meeting_from h ws b terms n T t rows m f u first next e d k folded kc asked z))))

pub returns-then-not-is_reduced : goal.returns-then-not-is_reduced
returns-then-not-is_reduced c = λ t.
    let h = c.args.table.now.header in
    let ws = c.args.table.now.words in
    let b = c.args.b.now in
    let terms = c.args.terms.now in
    let n = c.args.n in
    let T = c.requires.terms in
    let rows = c.args.rows.now in
    let m = c.cols-unknowns.ensures.matrix in
    let f = c.requires.field in
    let u = c.requires.coordinates in
    let first = c.index-first.result.now in
    let next = c.index-next.result.now in
    let e = c.index-first.ensures in
    let s : n + 1 ≡ suc n = omega arith in
    let d = subst (λ k. next ≡ slice_index_or terms k next) s c.index-next.ensures in
    let k = c.cols-unknowns.result in
    let kc = c.cols-unknowns.ensures.count in
    let folded = c.cocycle_rank-outer.new.entries in
    let asked = c.cocycle_rank-outer.ensures.asked t in
    let cocycles = cocycles_from h ws b terms n T t rows m f u first next e d k folded kc asked (subst (λ (g : Header). AllMeet g.field rows 1025 folded) c.header.ensures.header c.if-not-all_meet.ensures) in
    let r = c.boundary_rank-inner.result in
    let pivots = c.boundary_rank-inner.new.pivots in
    let p = c.boundary_rank-inner.ensures.pivots t in
    (1, (cocycles, (refl, λ z. c.if-not-is_reduced.ensures (rows_reduced h ws b terms n T t rows m f u r pivots p z))))

pub returns-then-not-are_cleared : goal.returns-then-not-are_cleared
returns-then-not-are_cleared c = λ t.
    let h = c.args.table.now.header in
    let ws = c.args.table.now.words in
    let b = c.args.b.now in
    let terms = c.args.terms.now in
    let n = c.args.n in
    let T = c.requires.terms in
    let rows = c.args.rows.now in
    let m = c.cols-unknowns.ensures.matrix in
    let f = c.requires.field in
    let u = c.requires.coordinates in
    let first = c.index-first.result.now in
    let next = c.index-next.result.now in
    let e = c.index-first.ensures in
    let s : n + 1 ≡ suc n = omega arith in
    let d = subst (λ k. next ≡ slice_index_or terms k next) s c.index-next.ensures in
    let k = c.cols-unknowns.result in
    let kc = c.cols-unknowns.ensures.count in
    let folded = c.cocycle_rank-outer.new.entries in
    let asked = c.cocycle_rank-outer.ensures.asked t in
    let cocycles = cocycles_from h ws b terms n T t rows m f u first next e d k folded kc asked (subst (λ (g : Header). AllMeet g.field rows 1025 folded) c.header.ensures.header c.if-not-all_meet.ensures) in
    let r = c.boundary_rank-inner.result in
    let pivots = c.boundary_rank-inner.new.pivots in
    let p = c.boundary_rank-inner.ensures.pivots t in
    (1, (cocycles, (refl, λ z. c.if-not-are_cleared.ensures (rows_cleared h ws b terms n T t rows m f u r pivots p z))))

pub returns-then-not-adds_up : goal.returns-then-not-adds_up
returns-then-not-adds_up c = λ t.
    let h = c.args.table.now.header in
    let ws = c.args.table.now.words in
    let b = c.args.b.now in
    let terms = c.args.terms.now in
    let n = c.args.n in
    let T = c.requires.terms in
    let rows = c.args.rows.now in
    let m = c.cols-unknowns.ensures.matrix in
    let f = c.requires.field in
    let u = c.requires.coordinates in
    let first = c.index-first.result.now in
    let next = c.index-next.result.now in
    let e = c.index-first.ensures in
    let s : n + 1 ≡ suc n = omega arith in
    let d = subst (λ k. next ≡ slice_index_or terms k next) s c.index-next.ensures in
    let k = c.cols-unknowns.result in
    let kc = c.cols-unknowns.ensures.count in
    let folded = c.cocycle_rank-outer.new.entries in
    let asked = c.cocycle_rank-outer.ensures.asked t in
    let cocycles = cocycles_from h ws b terms n T t rows m f u first next e d k folded kc asked (subst (λ (g : Header). AllMeet g.field rows 1025 folded) c.header.ensures.header c.if-not-all_meet.ensures) in
    let r = c.boundary_rank-inner.result in
    let pivots = c.boundary_rank-inner.new.pivots in
    let p = c.boundary_rank-inner.ensures.pivots t in
    let reduced = rows_modulo h ws b terms n T t rows m f u r pivots p c.if-not-is_reduced.ensures c.if-not-are_cleared.ensures in
    let o = outer_rank h ws b terms n T t rows m f u first next e d c.cocycle_rank-outer.result (c.cocycle_rank-outer.ensures.rank t) in
    (2, (cocycles, (reduced, (refl, λ z. c.if-not-adds_up.ensures (all_means h ws b terms n T t rows m f u r pivots p c.rows.result c.cocycle_rank-outer.result k c.rows.ensures.count kc o z)))))

pub returns : goal.returns
returns c = λ t.
    let h = c.args.table.now.header in
    let ws = c.args.table.now.words in
    let b = c.args.b.now in
    let terms = c.args.terms.now in
    let n = c.args.n in
    let T = c.requires.terms in
    let rows = c.args.rows.now in
    let m = c.cols-unknowns.ensures.matrix in
    let f = c.requires.field in
    let u = c.requires.coordinates in
    let first = c.index-first.result.now in
    let next = c.index-next.result.now in
    let e = c.index-first.ensures in
    let s : n + 1 ≡ suc n = omega arith in
    let d = subst (λ k. next ≡ slice_index_or terms k next) s c.index-next.ensures in
    let k = c.cols-unknowns.result in
    let kc = c.cols-unknowns.ensures.count in
    let folded = c.cocycle_rank-outer.new.entries in
    let asked = c.cocycle_rank-outer.ensures.asked t in
    let cocycles = cocycles_from h ws b terms n T t rows m f u first next e d k folded kc asked (subst (λ (g : Header). AllMeet g.field rows 1025 folded) c.header.ensures.header c.if-not-all_meet.ensures) in
    let r = c.boundary_rank-inner.result in
    let pivots = c.boundary_rank-inner.new.pivots in
    let p = c.boundary_rank-inner.ensures.pivots t in
    let reduced = rows_modulo h ws b terms n T t rows m f u r pivots p c.if-not-is_reduced.ensures c.if-not-are_cleared.ensures in
    let o = outer_rank h ws b terms n T t rows m f u first next e d c.cocycle_rank-outer.result (c.cocycle_rank-outer.ensures.rank t) in
    let all = all_is h ws b terms n T t rows m f u r pivots p c.rows.result c.cocycle_rank-outer.result k c.rows.ensures.count kc o c.if-not-adds_up.ensures in
    (cocycles, (reduced, (all, tt)))
