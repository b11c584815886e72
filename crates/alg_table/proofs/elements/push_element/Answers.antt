use Rattle.std.proofs.Common.{ℕ, ◌≡◌, ◌<◌, ◌+◌, ◌-◌, List, length, get_or, sym, subst, arith}
use Rattle.std.proofs.lemmas.Bool.Decides.{Decides-ltb}
use Rattle.path_algebra.specs.declared.rules.Element.{Element}
use Rattle.alg_table.specs.LastUses.{AllNamed, IsElementAt, last_use}
use Rattle.alg_table.proofs.KeptElements.{names_numbers, named_kept, one_kept_more}
use Rattle.alg_table.proofs.elements.push_element.Goals as goal

pub returns-clause-in_use : goal.returns-clause-in_use
returns-clause-in_use c xs value named held =
    let h = c.args.header.now in
    let lasts = c.args.lasts.now in
    let elements = c.args.elements.now.items in
    let here : c.deref.result.now ≡ elements = c.deref.ensures.value in
    let place : c.len-place.result ≡ length elements = (let room = c.args.elements.now.ok in let count = c.len-place.ensures in omega (arith, room, count)) in
    let used = λ (late : length elements < last_use lasts (length elements + 1)).
    (let next : length elements + 1 - 1 ≡ c.len-place.result = omega (arith, place) in
    let t : c.len-place.result < get_or lasts (length elements + 1 - 1) 0 = omega (arith, late, place) in
    subst (λ (k : ℕ). c.len-place.result < get_or lasts k 0) next t) in
    let numbers = names_numbers h (length elements) c.args.step c.requires.named in
    let kept : AllNamed (IsElementAt h xs c.deref.result.now) c.args.step = subst (λ (es : List Element). AllNamed (IsElementAt h xs es) c.args.step) (sym here) (named_kept h xs lasts elements c.args.step numbers named held) in
    c.let_go_named.ensures.in_use h xs
    (one_kept_more h xs lasts elements c.push.new.self.items c.in_ok-element.element _ c.in_ok-push.ensures.items value c.in_ok-element.ensures.terms
    (λ late. c.in_ok-element.ensures.used xs ((Decides-ltb c.len-place.result (get_or lasts c.len-place.result 0)).1 (used late)) kept) held)
