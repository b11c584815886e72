-- Rows acted on, where all products are known; relations that act as zero.
use Rattle.std.proofs.Common.{ℕ, ◌≡◌, ◌<◌, ◌≤◌, ◌*◌, inl, inr, List, [], ◌∷◌, length, get_or, false, ltb, if◌then◌else◌, refl, sym, ap, ◌∙◌, subst, arith}
use Rattle.std.specs.Prelude.{Contains, All}
use Rattle.std.proofs.lemmas.Bool.{cases_lt, cases_Bool, cond-true, cond-false, lt-ltb, le-ltb}
use Rattle.std.proofs.lemmas.Nat.{mul-add-lt}
use Rattle.std.proofs.lemmas.List.Elements.{All-contains, All-head, All-tail}
use Rattle.linear_algebra.specs.Field.{order, mul}
use Rattle.linear_algebra.specs.FieldLaws.{mul_zero}
use Rattle.linear_algebra.specs.Rows.{unit}
use Rattle.linear_algebra.proofs.Rows.{list_of-is, get_or-list_of_past}
use Rattle.quiver_paths.specs.declared.Path.{Path}
use Rattle.quiver_paths.specs.Quiver.{arrow_count}
use Rattle.quiver_paths.specs.Path.{path_length}
use Rattle.path_algebra.specs.declared.Term.{Term}
use Rattle.path_algebra.specs.declared.Relation.{Relation}
use Rattle.path_algebra.specs.declared.Header.{Header}
use Rattle.path_algebra.specs.declared.rules.Rule.{Rule}
use Rattle.word_products.specs.declared.sparse.Entry.{Entry}
use Rattle.path_algebra.specs.Elements.{path_element}
use Rattle.path_algebra.specs.Rows.{path_at, row_of}
use Rattle.path_algebra.specs.Allowed.{IsRelation, IsTerm}
use Rattle.path_algebra.specs.Reduction.{IsReduction, act_arrow, act_arrows, act_terms}
use Rattle.word_products.specs.SparseRows.{acted_by, acted_along, counts, acted_terms}
use Rattle.word_products.specs.WordProducts.{AreProductRows, CanAct}
use Rattle.word_products.specs.Vanishing.{VanishesOn}
use Rattle.path_algebra.proofs.SumsOver.{sum_over-same, sum_over-zeros}
use Rattle.path_algebra.proofs.Columns.{length-row_of, get_or-row_of}
use Rattle.path_algebra.proofs.Acting.{cases_listed}
use Rattle.path_algebra.proofs.Independent.{leads_arrows, arrows_of_words, word_is_of_words}
use Rattle.path_algebra.proofs.IdealActs.{parallel_terms}
use Rattle.word_products.proofs.TermSums.{acted_terms-at, length-acted_terms, counts-true, counts-from}
use Rattle.word_products.proofs.WordRows.{word_at, word_listed, short_word, acted_on, unit-row}
use Rattle.word_products.proofs.RewrittenRows.{act_by_rows}

pub get_or-row_of_past : (words : List Path) (x : Path → ℕ) (j : ℕ) → length words ≤ j → get_or (row_of words x) j 0 ≡ 0
unfolding row_of
get_or-row_of_past words x j l = get_or-list_of_past (length words) _ j 0 l

module _ (h : Header) (words : List Path) (rules : List Rule) (can : CanAct h words rules) (becomes : Path → Path → ℕ) (red : IsReduction h rules becomes)
    (rows : List (List Entry)) (known : AreProductRows h words becomes rows) (count : length rows ≡ length words * arrow_count h.quiver) where
  n : ℕ
  n = arrow_count h.quiver

  pub act_all : (b : ℕ) → b < arrow_count h.quiver → (x : Path → ℕ) → acted_by h.field rows (arrow_count h.quiver) b (row_of words x) ≡ row_of words (act_arrow h becomes words b x)
  act_all b l x = act_by_rows h words becomes rows known b l x (λ j k z. omega (arith, count, mul-add-lt j (arrow_count h.quiver) b (length words) k l))

  pub along_all : (xs : List ℕ) → All (λ a. a < arrow_count h.quiver) xs → (x : Path → ℕ)
      → acted_along h.field rows (arrow_count h.quiver) xs (row_of words x) ≡ row_of words (act_arrows h becomes words xs x)
  unfolding acted_along act_arrows
  along_all [] l x = refl
  along_all (b ∷ xs) l x = ap (acted_along h.field rows (arrow_count h.quiver) xs) (act_all b (All-head (λ a. a < arrow_count h.quiver) b xs l) x)
      ∙ along_all xs (All-tail (λ a. a < arrow_count h.quiver) b xs l) (act_arrow h becomes words b x)

  -- a relation on a word, as a row
  module _ (relation : Relation) (m : Contains h.relations relation) (first : Term) (f : Contains relation.terms first) (i : ℕ) (li : i < length words) where
    lawful : IsRelation h relation
    lawful = All-contains (IsRelation h) h.relations relation can.allowed.relations m

    term_is : (t : Term) → Contains relation.terms t → IsTerm h t
    term_is t c = All-contains (IsTerm h) relation.terms t lawful.terms c

    unit_is : unit (length words) i ≡ row_of words (path_element h.bound (path_at words i))
    unit_is = unit-row h.bound words can.word.ascending i li (short_word h words rules can i li).short

    term_at : (t : Term) → Contains relation.terms t → (j : ℕ) → j < length words
        → (if counts h.bound first.path t then mul h.field t.coef (get_or (acted_along h.field rows (arrow_count h.quiver) t.path.arrows (unit (length words) i)) j 0) else 0)
        ≡ (if ltb (path_length t.path) h.bound then mul h.field t.coef (act_arrows h becomes words t.path.arrows (path_element h.bound (path_at words i)) (path_at words j)) else 0)
    term_at t c j l =
        let parallel = parallel_terms relation.terms lawful.parallel first t f c in
        elim (cases_lt (path_length t.path) h.bound) [
          | inl s ↦
              cond-true _ _ 0 (counts-from h.bound first.path t (record { short = s; starts = sym parallel.starts; ends = sym parallel.ends }))
              ∙ ap (mul h.field t.coef) (ap (λ x. get_or x j 0) (ap (acted_along h.field rows (arrow_count h.quiver) t.path.arrows) unit_is
              ∙ along_all t.path.arrows (leads_arrows h.quiver _ _ _ (term_is t c).path.leads) (path_element h.bound (path_at words i))) ∙ get_or-row_of words _ j l)
              ∙ sym (cond-true _ _ 0 (lt-ltb _ _ s))
          | inr s ↦ cond-false _ _ 0 (not_counted t s) ∙ sym (cond-false _ _ 0 (le-ltb _ _ s))
        ]
      where
        not_counted : (t : Term) → h.bound ≤ path_length t.path → counts h.bound first.path t ≡ false
        not_counted t s = elim (cases_Bool (counts h.bound first.path t)) [ inr e ↦ e | inl e ↦ absurd (omega (arith, s, (counts-true h.bound first.path t e).short)) ]

    pub relation_row : acted_terms h.field rows (arrow_count h.quiver) h.bound first.path relation.terms (unit (length words) i)
        ≡ row_of words (act_terms h becomes words relation.terms (path_element h.bound (path_at words i)))
    unfolding row_of act_terms
    relation_row =
        let width : length (unit (length words) i) ≡ length words = ap length unit_is ∙ length-row_of words (path_element h.bound (path_at words i)) in
        list_of-is (length words) _ (acted_terms h.field rows (arrow_count h.quiver) h.bound first.path relation.terms (unit (length words) i)) 0
        (length-acted_terms h.field rows (arrow_count h.quiver) h.bound first.path relation.terms (unit (length words) i) ∙ width)
        (λ j l. acted_terms-at h.field rows (arrow_count h.quiver) h.bound first.path relation.terms (unit (length words) i) j (subst (λ x. j < x) (sym width) l)
        ∙ sum_over-same h.field relation.terms _ _ (λ t c. term_at t c j l))

    -- it is zero outside the words
    outside : (r : Path) → (Contains words r → ⊥) → act_terms h becomes words relation.terms (path_element h.bound (path_at words i)) r ≡ 0
    unfolding act_terms
    outside r d = sum_over-zeros h.field relation.terms _ (λ t c. elim (cases_Bool (ltb (path_length t.path) h.bound)) [
      | inr e ↦ cond-false _ _ 0 e
      | inl e ↦ cond-true _ _ 0 e ∙ ap (mul h.field t.coef) ((arrows_of_words h words rules becomes (acted_on h words rules can becomes red) t.path.arrows (leads_arrows h.quiver _ _ _ (term_is t c).path.leads)
          (path_element h.bound (path_at words i)) (word_is_of_words h words rules becomes (acted_on h words rules can becomes red) (path_at words i) (word_listed words i li))).outside r d) ∙ mul_zero h.field t.coef
    ])

    pub vanishes-from_row : ((j : ℕ) → get_or (acted_terms h.field rows (arrow_count h.quiver) h.bound first.path relation.terms (unit (length words) i)) j 0 ≡ 0)
        → VanishesOn h words becomes relation (path_at words i)
    vanishes-from_row z r = elim (cases_listed words r) [
      | inr d ↦ outside r d
      | inl c ↦ subst (λ x. act_terms h becomes words relation.terms (path_element h.bound (path_at words i)) x ≡ 0) (word_at words c.0 r c.1 c.2)
          (sym (get_or-row_of words (act_terms h becomes words relation.terms (path_element h.bound (path_at words i))) c.0 c.1) ∙ ap (λ x. get_or x c.0 0) (sym relation_row) ∙ z c.0)
    ]

    pub row-from_vanishes : VanishesOn h words becomes relation (path_at words i)
        → (j : ℕ) → get_or (acted_terms h.field rows (arrow_count h.quiver) h.bound first.path relation.terms (unit (length words) i)) j 0 ≡ 0
    row-from_vanishes v j = ap (λ x. get_or x j 0) relation_row ∙ elim (cases_lt j (length words)) [
      | inl l ↦ get_or-row_of words _ j l ∙ v (path_at words j)
      | inr l ↦ get_or-row_of_past words _ j l
    ]

-- the terms of a relation
pub relation_arrows : (h : Header) (words : List Path) (rules : List Rule) → CanAct h words rules → (relation : Relation) → Contains h.relations relation
    → All (λ (term : Term). All (λ a. a < arrow_count h.quiver) term.path.arrows) relation.terms
relation_arrows h words rules can relation m = λ k d l.
    leads_arrows h.quiver _ _ _ ((All-contains (IsRelation h) h.relations relation can.allowed.relations m).terms k d l).path.leads

pub relation_coefs : (h : Header) (words : List Path) (rules : List Rule) → CanAct h words rules → (relation : Relation) → Contains h.relations relation
    → All (λ (term : Term). term.coef < order h.field) relation.terms
relation_coefs h words rules can relation m = λ k d l. ((All-contains (IsRelation h) h.relations relation can.allowed.relations m).terms k d l).small

pub relation_some : (h : Header) (words : List Path) (rules : List Rule) → CanAct h words rules → (relation : Relation) → Contains h.relations relation → 0 < length relation.terms
relation_some h words rules can relation m = (All-contains (IsRelation h) h.relations relation can.allowed.relations m).some
