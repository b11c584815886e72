use Rattle.std.proofs.Common.{arith, sym, ap, ◌∙◌}
use Rattle.std.proofs.lemmas.List.{get_or_default}
use Rattle.quiver_paths.specs.declared.Path.{Path}
use Rattle.quiver_paths.proofs.PathLemmas.{same_path}
use Rattle.quiver_paths.proofs.PathOrderLemmas.{path_cmp-Equal}
use Rattle.path_algebra.proofs.Places.{place-less, place-equal, place-greater}
use Rattle.path_algebra.proofs.path_places.path_place.Goals as goal

pub loop-low-preserved-in-Less : goal.loop-low-preserved-in-Less
loop-low-preserved-in-Less c = record {
  within = c.loop-low.invariant.within;
  between = λ k l e.
      let old = c.loop-low.invariant.between k l e in
      let past = place-less _ _ k _ _ c.requires (let w = c.loop-low.invariant.within in omega arith) l c.index-paths-middle.is e (sym c.compare.ensures ∙ c.in-Less.is) in
      (omega arith, old.1);
}

pub returns-then-found-path : goal.returns-then-found-path
returns-then-found-path c = λ m.
    let w = c.loop-low.invariant.within in
    let there = place-equal _ _ m.0 _ _ c.requires (omega arith) m.1 c.index-paths-middle.is m.2 (sym c.compare.ensures ∙ c.in-Equal.is) in
    c.if-found-path.true (ap (λ (x : Path). x.end) (c.index-paths-middle.is ∙ get_or_default c.args.paths.now _ c.index-paths-middle.result c.args.path.now (omega arith) ∙ there))

pub returns-in-Equal : goal.returns-in-Equal
returns-in-Equal c =
    let w = c.loop-low.invariant.within in
    let e = path_cmp-Equal c.index-paths-middle.result c.args.path.now (sym c.compare.ensures ∙ c.in-Equal.is) in (
      omega arith,
      get_or_default c.args.paths.now _ c.args.path.now c.index-paths-middle.result (omega arith) ∙ sym c.index-paths-middle.is
          ∙ same_path c.index-paths-middle.result c.args.path.now e.1 c.if-found-path.false e.0,
    )

pub loop-low-preserved : goal.loop-low-preserved
loop-low-preserved c = record {
  within = (let w = c.loop-low.invariant.within in omega arith);
  between = λ k l e.
      let old = c.loop-low.invariant.between k l e in
      (old.0, place-greater _ _ k _ _ c.requires (let w = c.loop-low.invariant.within in omega arith) l c.index-paths-middle.is e (sym c.compare.ensures ∙ c.in-Greater.is));
}
