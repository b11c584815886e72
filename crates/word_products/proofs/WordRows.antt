-- The rows of the products of words with arrows, word by word and arrow by arrow.
use Rattle.std.proofs.Common.{ℕ, ◌≡◌, ◌≢◌, ◌<◌, ◌≤◌, ◌+◌, ◌*◌, ◌-◌, ◌⊎◌, inl, inr, List, [], ◌∷◌, ◌++◌, length, get_or, Bool, true, false, eqb, if◌then◌else◌, refl, sym, ap, ap₂, ◌∙◌, subst, arith, length-append}
use Rattle.std.proofs.lemmas.Bool.{cases_lt, cases_eq, cases_order, cond-true, cond-false, eq-eqb, ne_eqb}
use Rattle.std.proofs.lemmas.Nat.{mul-add-lt}
use Rattle.std.proofs.lemmas.List.{get_or_append_left, get_or-append_right, get_or_default}
use Rattle.linear_algebra.specs.Field.{add}
use Rattle.linear_algebra.specs.FieldLaws.{order-pos, one-lt-order, zero_add}
use Rattle.linear_algebra.specs.Rows.{unit}
use Rattle.linear_algebra.proofs.Rows.{list_of-same}
use Rattle.quiver_paths.specs.declared.Quiver.{Quiver}
use Rattle.quiver_paths.specs.declared.Path.{Path}
use Rattle.quiver_paths.specs.Quiver.{arrow_count, source}
use Rattle.quiver_paths.specs.Path.{IsPath, Leads, path_length, concat, trivial_path, arrow_path}
use Rattle.quiver_paths.specs.PathOrder.{IsSmaller, IsAscending, DiffersBelow, ComesBefore}
use Rattle.quiver_paths.specs.PathOrder.ComesBefore.{shorter, by_arrows, by_start}
use Rattle.quiver_paths.proofs.PathLemmas.{IsPath-concat, IsPath-arrow, IsPath-same, path_length-concat}
use Rattle.quiver_paths.proofs.PathOrderLemmas.{ComesBefore-from_smaller, smaller_from_comes_before, IsSmaller-from_shorter}
use Rattle.quiver_paths.proofs.PathListLemmas.{smaller_places}
use Rattle.path_algebra.specs.declared.Header.{Header}
use Rattle.path_algebra.specs.declared.rules.Rule.{Rule}
use Rattle.word_products.specs.declared.sparse.Entry.{Entry}
use Rattle.path_algebra.specs.Elements.{path_element}
use Rattle.path_algebra.specs.Words.{IsShortPath}
use Rattle.path_algebra.specs.Rows.{path_at, row_of}
use Rattle.path_algebra.specs.Reduction.{IsReduction}
use Rattle.word_products.specs.WordProducts.{product_with, IsSparseRow, AreProductRows, KnowsProducts, CanAct}
pub use Rattle.path_algebra.proofs.ListedPaths.{word_once, word_listed, sum_to-over}
use Rattle.path_algebra.proofs.ElementLemmas.{path_element-self, path_element-other}
use Rattle.path_algebra.proofs.Reducing.{AreRules}
use Rattle.path_algebra.proofs.Independent.{AreActedOn}
use Rattle.word_products.proofs.SparseActs.{entry_at-none, entry_at-push}

-- ---- places

pub word_place : (words : List Path) → IsAscending words → (i j : ℕ) → i < length words → j < length words → IsSmaller (path_at words i) (path_at words j) → i < j
unfolding path_at
word_place words asc i j l k s = smaller_places words asc i j (trivial_path 0) l k s

pub word_at : (words : List Path) (i : ℕ) (p : Path) → i < length words → get_or words i p ≡ p → path_at words i ≡ p
unfolding path_at
word_at words i p l e = get_or_default words i (trivial_path 0) p l ∙ e

-- a number of a word and an arrow is of one word and one arrow, and grows with the word
pub index_before : (n i j a b : ℕ) → b < n → j < i → j * n + b < i * n + a
index_before n i j a b l s = omega (arith, mul-add-lt j n b i s l)

pub index_once : (n i j a b : ℕ) → a < n → b < n → i * n + a ≡ j * n + b → (i ≡ j) × (a ≡ b)
index_once n i j a b l k e = elim (cases_order i j) [
  | inl s ↦ (s, omega (arith, e, ap (λ x. x * n) s))
  | inr (inl lt) ↦ absurd (omega (arith, e, index_before n j i b a l lt))
  | inr (inr lt) ↦ absurd (omega (arith, e, index_before n i j a b k lt))
]

-- ---- the order of products

leads_start : (Q : Quiver) (xs ys us vs : List ℕ) (s s' e e' : ℕ) → Leads Q s xs e → Leads Q s' ys e' → 0 < length xs → 0 < length ys → xs ++ us ≡ ys ++ vs → s ≡ s'
leads_start Q [] ys us vs s s' e e' l m p r i = absurd (omega (arith, p))
leads_start Q (x ∷ xs) [] us vs s s' e e' l m p r i = absurd (omega (arith, r))
leads_start Q (x ∷ xs) (y ∷ ys) us vs s s' e e' l m p r i = sym l.1 ∙ ap (source Q) (ap (λ z. get_or z 0 0) i) ∙ m.1

pub same_start : (Q : Quiver) (p r : Path) (us vs : List ℕ) → IsPath Q p → IsPath Q r → 0 < path_length p → 0 < path_length r → p.arrows ++ us ≡ r.arrows ++ vs → p.start ≡ r.start
same_start Q p r us vs hp hr l m e = leads_start Q p.arrows r.arrows us vs p.start r.start p.end r.end hp.leads hr.leads l m e

differs_last : (xs ys : List ℕ) (b a : ℕ) → length xs ≡ length ys → DiffersBelow (xs ++ b ∷ []) (ys ++ a ∷ []) → DiffersBelow xs ys ⊎ ((xs ≡ ys) × (b < a))
differs_last [] [] b a e (inl l) = inr (refl, l)
differs_last [] [] b a e (inr d) = absurd d.1
differs_last [] (y ∷ ys) b a e d = absurd (omega (arith, e))
differs_last (x ∷ xs) [] b a e d = absurd (omega (arith, e))
differs_last (x ∷ xs) (y ∷ ys) b a e (inl l) = inl (inl l)
differs_last (x ∷ xs) (y ∷ ys) b a e (inr d) = elim (differs_last xs ys b a (omega (arith, e)) d.1) [
  | inl r ↦ inl (inr (d.0, r))
  | inr r ↦ inr (ap₂ (λ u us. u ∷ us) d.0 r.0, r.1)
]

pub length-with : (w : Path) (Q : Quiver) (a : ℕ) → path_length (concat w (arrow_path Q a)) ≡ path_length w + 1
length-with w Q a = path_length-concat w (arrow_path Q a)

-- a product that is smaller has a smaller number
pub product_before : (Q : Quiver) (words : List Path) → IsAscending words → (i j a b : ℕ) → i < length words → j < length words → b < arrow_count Q
    → IsPath Q (path_at words i) → IsPath Q (path_at words j) → 0 < path_length (path_at words i)
    → IsSmaller (concat (path_at words j) (arrow_path Q b)) (concat (path_at words i) (arrow_path Q a)) → j * arrow_count Q + b < i * arrow_count Q + a
product_before Q words asc i j a b li lj lb hi hj p s = by_case (ComesBefore-from_smaller _ _ s)
  where
    w : Path
    w = path_at words i

    v : Path
    v = path_at words j

    smaller : IsSmaller v w → j * arrow_count Q + b < i * arrow_count Q + a
    smaller l = index_before (arrow_count Q) i j a b lb (word_place words asc j i lj li l)

    by_case : ComesBefore (concat v (arrow_path Q b)) (concat w (arrow_path Q a)) → j * arrow_count Q + b < i * arrow_count Q + a
    by_case (shorter l) = smaller (IsSmaller-from_shorter v w (omega (arith, l, length-with v Q b, length-with w Q a)))
    by_case (by_arrows e d) =
        let lengths : path_length v ≡ path_length w = omega (arith, e, length-with v Q b, length-with w Q a) in
        elim (differs_last v.arrows w.arrows b a lengths d) [
          | inl r ↦ smaller (smaller_from_comes_before v w (by_arrows lengths r))
          | inr r ↦
              let starts : v.start ≡ w.start = same_start Q v w [] [] hj hi (omega (arith, lengths, p)) p (ap (λ x. x ++ []) r.0) in
              let same : j ≡ i = word_once words asc j i lj li (IsPath-same Q v w hj hi starts r.0) in
              omega (arith, ap (λ x. x * arrow_count Q) same, r.1)
        ]
    by_case (by_start e l) =
        let lengths : path_length v ≡ path_length w = omega (arith, ap length e, length-with v Q b, length-with w Q a) in
        absurd (omega (arith, l, same_start Q v w (b ∷ []) (a ∷ []) hj hi (omega (arith, lengths, p)) p e))

-- ---- rows

-- the row of a word
pub unit-is : (t : ℕ) (words : List Path) → IsAscending words → (p j : ℕ) → p < length words → j < length words → path_length (path_at words p) < t
    → (if eqb p j then 1 else 0) ≡ path_element t (path_at words p) (path_at words j)
unit-is t words asc p j l k s = elim (cases_eq p j) [
  | inl e ↦ cond-true (eqb p j) 1 0 (eq-eqb _ _ e) ∙ sym (path_element-self t (path_at words p) s) ∙ ap (λ x. path_element t (path_at words p) (path_at words x)) e
  | inr d ↦ cond-false (eqb p j) 1 0 (ne_eqb _ _ d) ∙ sym (path_element-other t (path_at words p) (path_at words j) (λ i. d (word_once words asc p j l k i)))
]

pub unit-row : (t : ℕ) (words : List Path) → IsAscending words → (p : ℕ) → p < length words → path_length (path_at words p) < t
    → unit (length words) p ≡ row_of words (path_element t (path_at words p))
unfolding unit row_of
unit-row t words asc p l s = list_of-same (length words) _ _ 0 (λ j k. unit-is t words asc p j l k s)

module _ (h : Header) (words : List Path) (rules : List Rule) (can : CanAct h words rules) where
  pub are_rules : AreRules h rules
  are_rules = record { allowed = can.allowed; tips = can.tips; tails = can.tails; greater = can.greater }

  pub acted_on : (becomes : Path → Path → ℕ) → IsReduction h rules becomes → AreActedOn h words rules becomes
  acted_on becomes red = record { are = are_rules; tips_long = can.tips_long; reduced = can.reduced; listed = can.word; reduction = red }

  pub short_word : (i : ℕ) → i < length words → IsShortPath h (path_at words i)
  short_word i l = (can.word.only (path_at words i) (word_listed words i l)).0

  -- no row
  pub knows-none : (rows : List (List Entry)) → rows ≡ [] → KnowsProducts h words rules rows
  knows-none rows e = record { products = λ becomes red. record { row = λ i a li la s. absurd (omega (arith, s, ap length e)) } }

  -- a row more
  pub knows-push : (rows : List (List Entry)) (i a : ℕ) (entries : List Entry) → KnowsProducts h words rules rows → i < length words → a < arrow_count h.quiver
      → length rows ≡ i * arrow_count h.quiver + a
      → ((becomes : Path → Path → ℕ) → IsReduction h rules becomes → AreProductRows h words becomes rows → IsSparseRow h.field words (product_with h becomes (path_at words i) a) entries)
      → KnowsProducts h words rules (rows ++ entries ∷ [])
  knows-push rows i a entries k li la n f = record {
    products = λ becomes red.
        let old = k.products becomes red in
        record {
          row = λ j b lj lb s. elim (cases_lt (j * arrow_count h.quiver + b) (length rows)) [
            | inl l ↦ subst (IsSparseRow h.field words (product_with h becomes (path_at words j) b)) (sym (get_or_append_left rows (entries ∷ []) [] (j * arrow_count h.quiver + b) l)) (old.row j b lj lb l)
            | inr l ↦
                let same : j * arrow_count h.quiver + b ≡ length rows = omega (arith, l, s, length-append rows (entries ∷ [])) in
                let parts = index_once (arrow_count h.quiver) i j a b la lb (sym n ∙ sym same) in
                let read : get_or (rows ++ entries ∷ []) (j * arrow_count h.quiver + b) [] ≡ entries = last_at rows entries (j * arrow_count h.quiver + b) same in
                subst (λ x. IsSparseRow h.field words (product_with h becomes (path_at words x) b) (get_or (rows ++ entries ∷ []) (j * arrow_count h.quiver + b) [])) parts.0
                (subst (λ x. IsSparseRow h.field words (product_with h becomes (path_at words i) x) (get_or (rows ++ entries ∷ []) (j * arrow_count h.quiver + b) [])) parts.1
                (subst (IsSparseRow h.field words (product_with h becomes (path_at words i) a)) (sym read) (f becomes red old)))
          ];
        };
  }
    where
      last_at : (rows : List (List Entry)) (e : List Entry) (k : ℕ) → k ≡ length rows → get_or (rows ++ e ∷ []) k [] ≡ e
      last_at rows e k i = get_or-append_right rows (e ∷ []) (length rows) k [] refl (omega (arith, i)) ∙ ap (λ x. get_or (e ∷ []) x []) nothing
        where
          nothing : ◌≡◌ {A = ℕ} (k - length rows) 0
          nothing = omega (arith, i)

  -- products that are zero
  pub apart-row : (becomes : Path → Path → ℕ) (i a : ℕ) → (path_at words i).end ≢ source h.quiver a → IsSparseRow h.field words (product_with h becomes (path_at words i) a) []
  unfolding product_with
  apart-row becomes i a d = record { value = λ j l. entry_at-none h.field j ∙ sym (cond-false _ _ 0 (ne_eqb _ _ d)) }

  pub product-met : (becomes : Path → Path → ℕ) (w : Path) (a : ℕ) (r : Path) → w.end ≡ source h.quiver a → product_with h becomes w a r ≡ becomes (concat w (arrow_path h.quiver a)) r
  unfolding product_with
  product-met becomes w a r e = cond-true _ _ 0 (eq-eqb _ _ e)

  then_is : (i a : ℕ) → i < length words → a < arrow_count h.quiver → (path_at words i).end ≡ source h.quiver a → IsPath h.quiver (concat (path_at words i) (arrow_path h.quiver a))
  then_is i a l la e = IsPath-concat h.quiver (path_at words i) (arrow_path h.quiver a) (short_word i l).path (IsPath-arrow h.quiver a can.allowed.quiver.ends la) e

  pub long-row : (becomes : Path → Path → ℕ) → IsReduction h rules becomes → (i a : ℕ) → i < length words → a < arrow_count h.quiver → (path_at words i).end ≡ source h.quiver a
      → h.bound ≤ path_length (path_at words i) + 1 → IsSparseRow h.field words (product_with h becomes (path_at words i) a) []
  long-row becomes red i a l la e b = record {
    value = λ j k. entry_at-none h.field j ∙ sym (product-met becomes (path_at words i) a (path_at words j) e
        ∙ red.long (concat (path_at words i) (arrow_path h.quiver a)) (then_is i a l la e) (omega (arith, b, length-with (path_at words i) h.quiver a)) (path_at words j));
  }

  -- a product that is a word
  pub word-row : (becomes : Path → Path → ℕ) → IsReduction h rules becomes → (i a p : ℕ) → i < length words → p < length words → (path_at words i).end ≡ source h.quiver a
      → path_at words p ≡ concat (path_at words i) (arrow_path h.quiver a) → IsSparseRow h.field words (product_with h becomes (path_at words i) a) (record { coef = 1; word = p } ∷ [])
  word-row becomes red i a p l lp e w =
      let is = can.word.only (path_at words p) (word_listed words p lp) in
      record {
        value = λ j k. entry_at-push h.field [] (record { coef = 1; word = p }) j ∙ ap (λ x. add h.field x (if eqb p j then 1 else 0)) (entry_at-none h.field j)
            ∙ zero_chosen (eqb p j) ∙ unit-is h.bound words can.word.ascending p j lp k is.0.short
            ∙ sym (product-met becomes (path_at words i) a (path_at words j) e ∙ ap (λ x. becomes x (path_at words j)) (sym w)
            ∙ red.stays (path_at words p) is.0 is.1 (path_at words j));
      }
    where
      zero_chosen : (b : Bool) → add h.field 0 (if b then 1 else 0) ≡ (if b then 1 else 0)
      zero_chosen true = zero_add h.field 1 (one-lt-order h.field)
      zero_chosen false = zero_add h.field 0 (order-pos h.field)
