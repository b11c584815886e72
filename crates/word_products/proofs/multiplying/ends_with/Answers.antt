use Rattle.std.proofs.Common.{◌≡◌, ◌-◌, length, take, drop, ap₂, sym, ◌∙◌, arith, length-drop}
use Rattle.std.proofs.lemmas.List.{take_all}
use Rattle.std.proofs.lemmas.Slice.Eq.{slice_eq-Decides}
use Rattle.std.proofs.lemmas.Bool.Decides.{Decides-eqb}
use Rattle.word_products.proofs.multiplying.ends_with.Goals as goal

pub returns : goal.returns
returns c =
    let n : c.len-3.result - c.len-4.result ≡ length c.args.path.now.arrows - length c.args.tip.now.arrows = ap₂ (λ x y. x - y) c.len-3.ensures c.len-4.ensures in
    let d = slice_eq-Decides Decides-eqb _ _ _ c.eq.ensures in
    let last : take (length c.as_slice.result.now - (c.len-3.result - c.len-4.result)) (drop (c.len-3.result - c.len-4.result) c.as_slice.result.now)
    ≡ drop (length c.args.path.now.arrows - length c.args.tip.now.arrows) c.args.path.now.arrows =
    take_all _ _ (omega (arith, length-drop (c.len-3.result - c.len-4.result) c.as_slice.result.now)) ∙ ap₂ drop n c.as_slice.ensures in (
      λ t. record { fits = (let f = c.if-len.false in omega (arith, c.len.ensures, c.len-2.ensures, f)); last = sym last ∙ d.0 t ∙ c.as_slice-2.ensures },
      λ e. d.1 (last ∙ e.last ∙ sym c.as_slice-2.ensures),
    )
