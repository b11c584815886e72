-- Pieces joined one by one, and lines written one by one.
use Rattle.std.proofs.Common.{◌≡◌, ℕ, ◌+◌, ◌<◌, zero, suc, List, [], ◌∷◌, ◌++◌, map, take, length, get_or, cond, eqb, refl, sym, ap, ◌∙◌, append_assoc, append-nil, arith}
use Rattle.std.proofs.lemmas.List.{take_more, map-append}
use Rattle.std.proofs.Math.Dec.{eqb-suc-zero}
use Rattle.std.specs.List.{concat}
use Rattle.text_lines.specs.Parts.{joined}
use Rattle.text_lines.specs.Strict.{strict_line}
use Rattle.path_algebra.specs.declared.Header.{Header}
use Rattle.path_algebra.specs.declared.Relation.{Relation}
use Rattle.quiver_paths.specs.declared.Name.{Name}
use Rattle.header_text.specs.Spelling.{plus_each, plus_between, text_of, header_text, field_line, vertex_line, arrow_line, bound_line, relation_line}

-- one piece more behind at least one
pub joined_more : (c : ℕ) (y : List ℕ) (xs : List (List ℕ)) (x : List ℕ) → joined c ((y ∷ xs) ++ x ∷ []) ≡ joined c (y ∷ xs) ++ c ∷ x
joined_more c y [] x = refl
joined_more c y (z ∷ xs) x = ap (λ r. y ++ (c ∷ r)) (joined_more c z xs x) ∙ sym (append_assoc y (c ∷ joined c (z ∷ xs)) (c ∷ x))

pub plus_each-append : (ts us : List (List ℕ)) → plus_each (ts ++ us) ≡ plus_each ts ++ plus_each us
plus_each-append [] us = refl
plus_each-append (t ∷ ts) us = ap (λ r. (43 ∷ []) ∷ t ∷ r) (plus_each-append ts us)

pub concat-append : (xs ys : List (List ℕ)) → concat (xs ++ ys) ≡ concat xs ++ concat ys
concat-append [] ys = refl
concat-append (x ∷ xs) ys = ap (λ r. x ++ r) (concat-append xs ys) ∙ sym (append_assoc x (concat xs) (concat ys))

pub text_of-append : (xs ys : List (List (List ℕ))) → text_of (xs ++ ys) ≡ text_of xs ++ text_of ys
text_of-append xs ys = ap concat (map-append strict_line xs ys) ∙ concat-append (map strict_line xs) (map strict_line ys)

module _ {X : Type 0} (f : X → List ℕ) where
  joined_behind : (c : ℕ) (y : X) (ys : List X) (x : X) → joined c (map f ((y ∷ ys) ++ x ∷ [])) ≡ (joined c (map f (y ∷ ys)) ++ c ∷ []) ++ f x
  joined_behind c y ys x =
      ap (joined c) (map-append f (y ∷ ys) (x ∷ [])) ∙ (joined_more c (f y) (map f ys) (f x) ∙ sym (append_assoc (joined c (map f (y ∷ ys))) (c ∷ []) (f x)))

  -- the first i pieces and one more
  pub joined_take : (c : ℕ) (xs : List X) (i : ℕ) (d : X) → i < length xs
      → joined c (map f (take (i + 1) xs)) ≡ (joined c (map f (take i xs)) ++ cond (eqb i 0) [] (c ∷ [])) ++ f (get_or xs i d)
  joined_take c [] i d h = absurd (omega arith)
  joined_take c (y ∷ ys) zero d h = refl
  joined_take c (y ∷ ys) (suc i) d h = rw (take_more (y ∷ ys) (suc i) d h, eqb-suc-zero i) (joined_behind c y (take i ys) (get_or ys i d))

  plus_behind : (y : X) (ys : List X) (x : X) → joined 32 (plus_between (map f ((y ∷ ys) ++ x ∷ []))) ≡ (joined 32 (plus_between (map f (y ∷ ys))) ++ 32 ∷ 43 ∷ 32 ∷ []) ++ f x
  plus_behind y ys x =
      let more : plus_each (map f (ys ++ x ∷ [])) ≡ (plus_each (map f ys) ++ (43 ∷ []) ∷ []) ++ f x ∷ [] =
      ap plus_each (map-append f ys (x ∷ [])) ∙ (plus_each-append (map f ys) (f x ∷ []) ∙ sym (append_assoc (plus_each (map f ys)) ((43 ∷ []) ∷ []) (f x ∷ []))) in
      let once = joined_more 32 (f y) (plus_each (map f ys)) (43 ∷ []) in
      let twice = joined_more 32 (f y) (plus_each (map f ys) ++ (43 ∷ []) ∷ []) (f x) in
      ap (λ r. joined 32 (f y ∷ r)) more ∙ (twice ∙ (ap (λ r. r ++ 32 ∷ f x) once
      ∙ (append_assoc (joined 32 (f y ∷ plus_each (map f ys))) (32 ∷ 43 ∷ []) (32 ∷ f x)
      ∙ sym (append_assoc (joined 32 (f y ∷ plus_each (map f ys))) (32 ∷ 43 ∷ 32 ∷ []) (f x)))))

  pub plus_take : (xs : List X) (i : ℕ) (d : X) → i < length xs
      → joined 32 (plus_between (map f (take (i + 1) xs))) ≡ (joined 32 (plus_between (map f (take i xs))) ++ cond (eqb i 0) [] (32 ∷ 43 ∷ 32 ∷ [])) ++ f (get_or xs i d)
  plus_take [] i d h = absurd (omega arith)
  plus_take (y ∷ ys) zero d h = refl
  plus_take (y ∷ ys) (suc i) d h = rw (take_more (y ∷ ys) (suc i) d h, eqb-suc-zero i) (plus_behind y (take i ys) (get_or ys i d))

-- the lines of the first i things and of one more
pub text_take : {X : Type 0} (line : X → List (List ℕ)) (xs : List X) (i : ℕ) (d : X) → i < length xs
    → text_of (map line (take (i + 1) xs)) ≡ text_of (map line (take i xs)) ++ strict_line (line (get_or xs i d))
text_take line xs i d h =
    ap (λ r. text_of (map line r)) (take_more xs i d h)
    ∙ (ap text_of (map-append line (take i xs) (get_or xs i d ∷ []))
    ∙ (text_of-append (map line (take i xs)) (line (get_or xs i d) ∷ []) ∙ ap (λ r. text_of (map line (take i xs)) ++ r) (append-nil (strict_line (line (get_or xs i d))))))

-- a text of pieces after one piece more
pub piece_step : (base old mid new whole sep x more : List ℕ) → old ≡ base ++ whole → mid ≡ old ++ sep → new ≡ mid ++ x → more ≡ (whole ++ sep) ++ x → new ≡ base ++ more
piece_step base old mid new whole sep x more a b c d =
    c ∙ (ap (λ r. r ++ x) (b ∙ (ap (λ r. r ++ sep) a ∙ append_assoc base whole sep)) ∙ (append_assoc base (whole ++ sep) x ∙ ap (λ r. base ++ r) (sym d)))

-- a text of lines after one line more
pub line_step : (base old new whole x more : List ℕ) → old ≡ base ++ whole → new ≡ old ++ x → more ≡ whole ++ x → new ≡ base ++ more
line_step base old new whole x more a b d = b ∙ (ap (λ r. r ++ x) a ∙ (append_assoc base whole x ∙ ap (λ r. base ++ r) (sym d)))

-- a header in its five pieces
pub header_text-pieces : (h : Header) → header_text h ≡ strict_line (field_line h.field) ++ (text_of (map vertex_line h.quiver.vertices)
    ++ (text_of (map (arrow_line h.quiver) h.quiver.arrows) ++ (strict_line (bound_line h.bound) ++ text_of (map (relation_line h.quiver) h.relations))))
header_text-pieces h =
    let vs = map vertex_line h.quiver.vertices in
    let as' = map (arrow_line h.quiver) h.quiver.arrows in
    let rest = bound_line h.bound ∷ map (relation_line h.quiver) h.relations in
    ap (λ r. strict_line (field_line h.field) ++ r) (text_of-append vs (as' ++ rest) ∙ ap (λ r. text_of vs ++ r) (text_of-append as' rest))

-- five pieces one by one
pub five_pieces : (o a b c d e : List ℕ) (p q r s t : List ℕ) → a ≡ o ++ p → b ≡ a ++ q → c ≡ b ++ r → d ≡ c ++ s → e ≡ d ++ t → e ≡ o ++ (p ++ (q ++ (r ++ (s ++ t))))
five_pieces o a b c d e p q r s t f g h i j =
    let e1 : a ++ q ≡ o ++ (p ++ q) = ap (λ x. x ++ q) f ∙ append_assoc o p q in
    let e2 : b ++ r ≡ o ++ ((p ++ q) ++ r) = ap (λ x. x ++ r) (g ∙ e1) ∙ append_assoc o (p ++ q) r in
    let e3 : c ++ s ≡ o ++ (((p ++ q) ++ r) ++ s) = ap (λ x. x ++ s) (h ∙ e2) ∙ append_assoc o ((p ++ q) ++ r) s in
    let e4 : d ++ t ≡ o ++ ((((p ++ q) ++ r) ++ s) ++ t) = ap (λ x. x ++ t) (i ∙ e3) ∙ append_assoc o (((p ++ q) ++ r) ++ s) t in
    j ∙ (e4 ∙ ap (λ x. o ++ x) (simp append_assoc))

pub header_text-written : (h : Header) (vs : List Name) (rs : List Relation) (o a b c d e : List ℕ) → a ≡ o ++ strict_line (field_line h.field)
    → vs ≡ h.quiver.vertices → b ≡ a ++ text_of (map vertex_line vs) → c ≡ b ++ text_of (map (arrow_line h.quiver) h.quiver.arrows)
    → d ≡ c ++ strict_line (bound_line h.bound) → rs ≡ h.relations → e ≡ d ++ text_of (map (relation_line h.quiver) rs) → e ≡ o ++ header_text h
header_text-written h vs rs o a b c d e f same g i j alike k =
    five_pieces o a b c d e _ _ _ _ _ f (g ∙ ap (λ x. a ++ text_of (map vertex_line x)) same) i j (k ∙ ap (λ x. d ++ text_of (map (relation_line h.quiver) x)) alike)
    ∙ ap (λ x. o ++ x) (sym (header_text-pieces h))
