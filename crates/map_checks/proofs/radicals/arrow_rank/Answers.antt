use Rattle.std.proofs.Common.{◌≡◌, sym, ◌∙◌, arith, subst}
use Rattle.quiver_paths.specs.Quiver.{arrow_count}
use Rattle.fp_linear.proofs.Meeting.{rank_fits}
use Rattle.module_types.specs.Algebras.{algebra_at}
use Rattle.module_types.specs.Readings.{read}
use Rattle.map_checks.specs.ArrowRows.{AskArrows}
use Rattle.module_checks.proofs.Sides.{arrows_at}
use Rattle.map_checks.proofs.ArrowRows.{AskArrows-none, AskArrows-more}
use Rattle.map_checks.proofs.radicals.arrow_rank.Goals as goal

pub loop-a-init : goal.loop-a-init
loop-a-init c = record {
  used = omega arith;
  elements = c.requires.elements;
  clear = record { clear = λ k h. c.requires.zeros.clear k (omega arith) };
  asked = AskArrows-none (read c.args.header.now c.args.x.now) c.args.vertex c.args.unknowns c.args.rows c.args.entries.now c.requires.zeros;
}

pub loop-a-preserved : goal.loop-a-preserved
loop-a-preserved c = record {
  used = c.fold_arrow_into-used.ensures.used;
  elements = c.fold_arrow_into-used.ensures.elements;
  clear = c.fold_arrow_into-used.ensures.clear;
  asked = AskArrows-more (read c.args.header.now c.args.x.now) c.args.vertex c.args.unknowns c.args.rows c.loop-a.a c.loop-a.entries c.fold_arrow_into-used.new.entries c.loop-a.invariant.asked c.fold_arrow_into-used.ensures.more;
}

pub returns-clause-form : goal.returns-clause-form
returns-clause-form c =
    let h = c.args.header.now in
    let Q = (algebra_at c.args.x.now.side h).quiver in
    let e : c.loop-a.a ≡ Q.arrows = (let d : c.loop-a.a ≡ arrow_count h.quiver = omega (arith, c.len-a-end.ensures) in d ∙ sym (arrows_at c.args.x.now.side h)) in
    record {
      old = c.loop-a.entries;
      pivots = c.echelon_rows.new.pivots;
      elements = c.loop-a.invariant.elements;
      asked = subst (λ a. AskArrows (read h c.args.x.now) c.args.vertex c.args.unknowns c.args.rows a c.loop-a.entries) e c.loop-a.invariant.asked;
      form = c.echelon_rows.ensures.form;
    }

pub returns-clause-few : goal.returns-clause-few
returns-clause-few c =
    let fits = rank_fits c.args.header.now.field c.args.rows c.args.unknowns c.loop-a.entries c.echelon_rows.new.entries c.echelon_rows.new.pivots c.echelon_rows.result c.loop-a.invariant.elements c.echelon_rows.ensures.elements c.echelon_rows.ensures.form in
    omega (arith, fits, c.requires.room.many)
