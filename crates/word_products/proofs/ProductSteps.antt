-- One product more of a word with an arrow, case by case.
use Rattle.std.proofs.Common.{ℕ, ◌≡◌, ◌<◌, ◌≤◌, ◌+◌, ◌*◌, List, [], ◌∷◌, ◌++◌, length, get_or, sym, ap, ◌∙◌, subst, arith}
use Rattle.std.specs.Prelude.{Contains, All}
use Rattle.std.proofs.lemmas.List.Elements.{All-contains}
use Rattle.linear_algebra.specs.Field.{order}
use Rattle.linear_algebra.specs.Rows.{unit}
use Rattle.quiver_paths.specs.declared.Arrow.{Arrow}
use Rattle.quiver_paths.specs.declared.Path.{Path}
use Rattle.quiver_paths.specs.Quiver.{arrow_count, source}
use Rattle.quiver_paths.specs.Path.{IsPath, path_length, concat, arrow_path}
use Rattle.quiver_paths.proofs.PathLemmas.{IsPath-concat, IsPath-arrow, IsPath-same}
use Rattle.quiver_paths.proofs.QuiverLemmas.{source_is}
use Rattle.path_algebra.specs.declared.Term.{Term}
use Rattle.path_algebra.specs.declared.Header.{Header}
use Rattle.path_algebra.specs.declared.rules.Rule.{Rule}
use Rattle.word_products.specs.declared.sparse.Entry.{Entry}
use Rattle.path_algebra.specs.Rows.{path_at, row_of}
use Rattle.path_algebra.specs.Rules.{AreElementTerms}
use Rattle.word_products.specs.SparseRows.{acted_terms}
use Rattle.word_products.specs.WordProducts.{KnowsProducts, CanAct, EndsWithArrows, front_before, IsNewProduct, IsPushed}
use Rattle.path_algebra.proofs.Columns.{length-row_of, get_or-row_of}
use Rattle.path_algebra.proofs.Independent.{leads_arrows}
use Rattle.word_products.proofs.WordRows.{word_at, short_word, knows-push, apart-row, long-row, word-row, product-met, length-with}
use Rattle.word_products.proofs.RewrittenRows.{has_ending, front_listed, tail_row}

-- the next product is that of the word at a place with an arrow
pub record IsNext (h : Header) (words : List Path) (rules : List Rule) (rows : List (List Entry)) (i a : ℕ) : Type 0 where
  pub can : CanAct h words rules
  pub place : i < length words
  pub arrow : a < arrow_count h.quiver
  pub count : length rows ≡ i * arrow_count h.quiver + a
  pub known : KnowsProducts h words rules rows

module _ (h : Header) (words : List Path) (rules : List Rule) (rows : List (List Entry)) (i a : ℕ) (next : IsNext h words rules rows i a) where
  -- the word and the arrow that are read
  module _ (word : Path) (x : Arrow) (wi : word ≡ get_or words i word) (xi : x ≡ get_or h.quiver.arrows a x) where
    at : path_at words i ≡ word
    at = word_at words i word next.place (sym wi)

    from : source h.quiver a ≡ x.from
    from = source_is h.quiver a x next.arrow ∙ ap (λ (y : Arrow). y.from) (sym xi)

    meets : word.end ≡ x.from → (path_at words i).end ≡ source h.quiver a
    meets e = ap (λ (p : Path). p.end) at ∙ e ∙ sym from

    pub step_apart : (new : List (List Entry)) → (word.end ≡ x.from → ⊥) → new ≡ rows ++ [] ∷ [] → KnowsProducts h words rules new
    step_apart new d n = subst (KnowsProducts h words rules) (sym n) (knows-push h words rules next.can rows i a [] next.known next.place next.arrow next.count
        (λ becomes red old. apart-row h words rules next.can becomes i a (λ e. d (ap (λ (p : Path). p.end) (sym at) ∙ e ∙ from))))

    pub step_long : (new : List (List Entry)) → word.end ≡ x.from → h.bound ≤ path_length word + 1 → new ≡ rows ++ [] ∷ [] → KnowsProducts h words rules new
    step_long new e b n = subst (KnowsProducts h words rules) (sym n) (knows-push h words rules next.can rows i a [] next.known next.place next.arrow next.count
        (λ becomes red old. long-row h words rules next.can becomes red i a next.place next.arrow (meets e) (omega (arith, b, ap path_length at))))

    product : (path : Path) → path ≡ concat word (arrow_path h.quiver a) → path ≡ concat (path_at words i) (arrow_path h.quiver a)
    product path p = p ∙ ap (λ w. concat w (arrow_path h.quiver a)) (sym at)

    pub step_word : (new : List (List Entry)) (path : Path) (place : ℕ) → word.end ≡ x.from → path ≡ concat word (arrow_path h.quiver a) → place < length words → get_or words place path ≡ path
        → new ≡ rows ++ (record { coef = 1; word = place } ∷ []) ∷ [] → KnowsProducts h words rules new
    step_word new path place e p l f n = subst (KnowsProducts h words rules) (sym n)
        (knows-push h words rules next.can rows i a (record { coef = 1; word = place } ∷ []) next.known next.place next.arrow next.count
        (λ becomes red old. word-row h words rules next.can becomes red i a place next.place l (meets e) (word_at words place path l f ∙ product path p)))

    pub step_new : (path : Path) → word.end ≡ x.from → path ≡ concat word (arrow_path h.quiver a) → path_length word + 1 < h.bound
        → (Contains words path → ⊥) → IsNewProduct h words i a path
    step_new path e p s d = record {
      place = next.place;
      arrow = next.arrow;
      meets = meets e;
      is = product path p;
      short = omega (arith, s, ap path_length p, length-with word h.quiver a);
      new = d;
    }

  -- the path that is rewritten
  module _ (p : Path) (n : IsNewProduct h words i a p) where
    pub step_none : ((k : ℕ) (d : Rule) → k < length rules → EndsWithArrows (get_or rules k d).tip p → ⊥) → (d : Rule) → ⊥
    step_none none d = let e = has_ending h words rules next.can i a p n in none e.0 d e.1 (e.2 d)

    module _ (rule : Rule) (m : Contains rules rule) (w : EndsWithArrows rule.tip p) where
      pub step_front : (front : Path) → front ≡ front_before p rule.tip → Contains words front
      step_front front f = subst (Contains words) (sym f) (front_listed h words rules next.can i a p n rule m w)

      pub step_tail : (new : List (List Entry)) (front : Path) (place : ℕ) (s : List ℕ) → front ≡ front_before p rule.tip → place < length words → get_or words place front ≡ front
          → s ≡ acted_terms h.field rows (arrow_count h.quiver) h.bound rule.tip rule.tail.terms (unit (length words) place) → IsPushed h.field rows new s → KnowsProducts h words rules new
      step_tail new front place s f l e sum pushed = subst (KnowsProducts h words rules) (sym pushed.pushed)
          (knows-push h words rules next.can rows i a pushed.entries next.known next.place next.arrow next.count (λ becomes red old.
          let row : s ≡ row_of words (becomes p) = sum ∙ tail_row h words rules next.can i a p n rule m w becomes red rows old next.count place l (subst (λ y. get_or words place y ≡ y) f e) in
          record {
            value = λ j b. pushed.are.within j (subst (λ k. j < k) (sym (ap length row ∙ length-row_of words (becomes p))) b)
                ∙ ap (λ y. get_or y j 0) row ∙ get_or-row_of words (becomes p) j b
                ∙ sym (product-met h words rules next.can becomes (path_at words i) a (path_at words j) n.meets ∙ ap (λ y. becomes y (path_at words j)) (sym n.is));
          }))

-- the terms of a tail
pub tail_arrows : (h : Header) (words : List Path) (rules : List Rule) → CanAct h words rules → (rule : Rule) → Contains rules rule
    → All (λ (term : Term). All (λ a. a < arrow_count h.quiver) term.path.arrows) rule.tail.terms
tail_arrows h words rules can rule m = λ k d l.
    let is = (All-contains (λ (x : Rule). AreElementTerms h x.tail.terms) rules rule can.tails m).short k d l in
    leads_arrows h.quiver _ _ _ is.path.leads

pub tail_coefs : (h : Header) (words : List Path) (rules : List Rule) → CanAct h words rules → (rule : Rule) → Contains rules rule → All (λ (term : Term). term.coef < order h.field) rule.tail.terms
tail_coefs h words rules can rule m = (All-contains (λ (x : Rule). AreElementTerms h x.tail.terms) rules rule can.tails m).small
