use Rattle.std.proofs.Common.{◌≡◌, ◌+◌, ap, ◌∙◌, arith}
use Rattle.module_types.specs.declared.TermRows.{TermRows}
use Rattle.module_types.specs.Readings.{read}
use Rattle.module_types.specs.TermMatrices.{count, vertex}
use Rattle.claim_conditions.specs.Terms.{term_at}
use Rattle.projectives.specs.Generators.{count_at}
use Rattle.term_rows.proofs.TermRowCells.{term_is}
use Rattle.resolution_checks.specs.Steps.{words_of_side}
use Rattle.cover_checks.proofs.TermRanks.{independent_at, ranks_at}
use Rattle.cover_checks.proofs.generators.are_independent_at.Goals as goal

pub returns-then-rank-count : goal.returns-then-rank-count
returns-then-rank-count c = λ t B H i.
    let h = c.args.table.now.header in
    let ws = c.args.table.now.words in
    let a = c.args.a.now in
    let terms = c.args.terms.now in
    let k = c.args.k in
    let w = c.args.w in
    let is = term_is ws h a terms k c.requires.terms c.index-term.result.now c.index-term.ensures in
    let n : c.count_vertices-count.result ≡ count_at (count (term_at terms k)) (vertex (term_at terms k)) w = c.count_vertices-count.ensures.count ∙ ap (λ (t : TermRows). count_at (count t) (vertex t) w) is in
    let g = c.in-Some.ensures.folded t B in
    let e = ranks_at (words_of_side h ws t a terms) (read h a) terms k w c.args.field c.requires.field c.args.size c.args.rows B.size_is c.args.entries.now c.fold_generators.new.entries c.echelon_rows-rank.new.entries
    c.echelon_rows-rank.new.pivots c.args.used c.echelon_rows-rank.result c.count_vertices-count.result c.requires.elements c.in-Some.ensures.elements c.echelon_rows-rank.ensures.elements H g.1 c.echelon_rows-rank.ensures.form n i.independent in
    absurd (omega (arith, e, c.if-rank-count.true))

pub returns-then-rank-count-2 : goal.returns-then-rank-count-2
returns-then-rank-count-2 c = λ t B H i.
    let h = c.args.table.now.header in
    let ws = c.args.table.now.words in
    let a = c.args.a.now in
    let terms = c.args.terms.now in
    let k = c.args.k in
    let w = c.args.w in
    let is = term_is ws h a terms k c.requires.terms c.index-term.result.now c.index-term.ensures in
    let n : c.count_vertices-count.result ≡ count_at (count (term_at terms k)) (vertex (term_at terms k)) w = c.count_vertices-count.ensures.count ∙ ap (λ (t : TermRows). count_at (count t) (vertex t) w) is in
    let g = c.in-Some.ensures.folded t B in
    let e = ranks_at (words_of_side h ws t a terms) (read h a) terms k w c.args.field c.requires.field c.args.size c.args.rows B.size_is c.args.entries.now c.fold_generators.new.entries c.echelon_rows-rank.new.entries
    c.echelon_rows-rank.new.pivots c.args.used c.echelon_rows-rank.result c.count_vertices-count.result c.requires.elements c.in-Some.ensures.elements c.echelon_rows-rank.ensures.elements H g.1 c.echelon_rows-rank.ensures.form n i.independent in
    c.if-rank-count-2.true (omega (arith, e))

pub returns : goal.returns
returns c = λ t B H.
    let h = c.args.table.now.header in
    let ws = c.args.table.now.words in
    let a = c.args.a.now in
    let terms = c.args.terms.now in
    let k = c.args.k in
    let w = c.args.w in
    let is = term_is ws h a terms k c.requires.terms c.index-term.result.now c.index-term.ensures in
    let n : c.count_vertices-count.result ≡ count_at (count (term_at terms k)) (vertex (term_at terms k)) w = c.count_vertices-count.ensures.count ∙ ap (λ (t : TermRows). count_at (count t) (vertex t) w) is in
    let g = c.in-Some.ensures.folded t B in
    let e : c.echelon_rows-rank.result ≡ c.count_vertices-count.result + c.args.used = omega (arith, c.if-rank-count.false, c.if-rank-count-2.false) in
    record {
      lie = g.0;
      independent = independent_at (words_of_side h ws t a terms) (read h a) terms k w c.args.field c.requires.field c.args.size c.args.rows B.size_is c.args.entries.now c.fold_generators.new.entries c.echelon_rows-rank.new.entries
          c.echelon_rows-rank.new.pivots c.args.used c.echelon_rows-rank.result c.count_vertices-count.result c.requires.elements c.in-Some.ensures.elements c.echelon_rows-rank.ensures.elements H g.1 c.echelon_rows-rank.ensures.form n e;
    }
