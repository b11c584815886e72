use Rattle.std.proofs.Common.{◌≡◌, ◌≢◌, ◌++◌, [], ◌∷◌, true, false, refl, sym, ap, ◌∙◌, append_assoc}
use Rattle.header_text.specs.Spelling.{arrows_text}
use Rattle.header_text.proofs.Names.{path_text-trivial, path_text-arrows}
use Rattle.header_text.proofs.writing.push_path.Goals as goal

pub returns-in_ok-extend_from_slice : goal.returns-in_ok-extend_from_slice
returns-in_ok-extend_from_slice c =
    c.in_ok-extend_from_slice.ensures.items ∙ (ap (λ r. r ++ c.vertex_text.result.now) c.in_ok-push.ensures.items
    ∙ (append_assoc c.args.out.now.items (64 ∷ []) c.vertex_text.result.now
    ∙ ap (λ r. c.args.out.now.items ++ r) (ap (λ r. 64 ∷ r) c.vertex_text.ensures ∙ sym (path_text-trivial c.args.quiver.now c.args.path.now (c.if-is_empty.ensures.0 refl)))))

pub returns-in_ok-push_arrows : goal.returns-in_ok-push_arrows
returns-in_ok-push_arrows c =
    let some : c.args.path.now.arrows ≢ [] = λ e. let f : false ≡ true = c.if-is_empty.ensures.1 e in cc in
    c.in_ok-push_arrows.ensures ∙ ap (λ r. c.args.out.now.items ++ r) (ap (λ r. arrows_text c.args.quiver.now r) c.as_slice.ensures ∙ sym (path_text-arrows c.args.quiver.now c.args.path.now some))
