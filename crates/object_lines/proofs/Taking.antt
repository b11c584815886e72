-- Items that are spelled by one token each, taken one by one.
use Rattle.std.proofs.Common.{◌≡◌, ℕ, ◌+◌, ◌<◌, List, [], ◌∷◌, ◌++◌, map, length, All, refl, sym, ap, ◌∙◌, inl, arith, append_assoc, append-nil}
use Rattle.std.proofs.lemmas.List.{length-append, length-map, map-append}
use Rattle.std.proofs.lemmas.List.Elements.{All-nil, All-cons, All-head, All-tail, All-append}
use Rattle.deciding.proofs.Deciding.{Decided, like, both}
use Rattle.object_lines.specs.Reading.{Takes, BeginsOtherwise}

pub cons_head : {X : Type 0} (x y : X) (xs ys : List X) → x ∷ xs ≡ y ∷ ys → x ≡ y
cons_head x y xs ys e = cc

pub cons_tail : {X : Type 0} (x y : X) (xs ys : List X) → x ∷ xs ≡ y ∷ ys → xs ≡ ys
cons_tail x y xs ys e = cc

pub cons_not_nil : {X : Type 0} (x : X) (xs : List X) → x ∷ xs ≡ [] → ⊥
cons_not_nil x xs e = cc

pub cons_same : {X : Type 0} (x y : X) (xs ys : List X) → x ≡ y → xs ≡ ys → x ∷ xs ≡ y ∷ ys
cons_same x y xs ys e f = cc

-- fronts of one length are the same, and what stands behind them
pub same_front : {X : Type 0} (xs ys us vs : List X) → length xs ≡ length ys → xs ++ us ≡ ys ++ vs → (xs ≡ ys) × (us ≡ vs)
same_front [] [] us vs l e = (refl, e)
same_front [] (y ∷ ys) us vs l e = absurd (omega (arith, l))
same_front (x ∷ xs) [] us vs l e = absurd (omega (arith, l))
same_front (x ∷ xs) (y ∷ ys) us vs l e =
    let rest = same_front xs ys us vs (omega (arith, l)) (cons_tail x y (xs ++ us) (ys ++ vs) e) in
    (cons_same x y xs ys (cons_head x y (xs ++ us) (ys ++ vs) e) rest.0, rest.1)

pub no_list : {X : Type 0} (xs : List X) → length xs ≡ 0 → xs ≡ []
no_list [] e = refl
no_list (x ∷ xs) e = absurd (omega (arith, e))

module _ (spell : ℕ → List ℕ) (IsOne : ℕ → Type 0) where
  pub takes_none : (old : List ℕ) (tokens : List (List ℕ)) → Takes spell IsOne 0 old old tokens tokens
  takes_none old tokens = record { taken = []; counted = refl; all = All-nil IsOne; behind = sym (append-nil old); spelled = refl }

  -- one item more
  pub takes_more : (count : ℕ) (old mid new : List ℕ) (tokens rest less : List (List ℕ)) (x : ℕ) → Takes spell IsOne count old mid tokens rest → IsOne x → new ≡ mid ++ x ∷ [] → rest ≡ spell x ∷ less
      → Takes spell IsOne (count + 1) old new tokens less
  takes_more count old mid new tokens rest less x t one e f = record {
    taken = t.taken ++ x ∷ [];
    counted = let counted = t.counted in omega (arith, length-append t.taken (x ∷ []));
    all = All-append IsOne t.taken (x ∷ []) t.all (All-cons IsOne x [] one (All-nil IsOne));
    behind = e ∙ (ap (λ l. l ++ x ∷ []) t.behind ∙ append_assoc old t.taken (x ∷ []));
    spelled = t.spelled ∙ (ap (λ l. map spell t.taken ++ l) f ∙ (sym (append_assoc (map spell t.taken) (spell x ∷ []) less) ∙ ap (λ l. l ++ less) (sym (map-append spell t.taken (x ∷ [])))));
  }

  -- where the next token spells no item, there are no more items than were taken
  no_more_by : (taken : List ℕ) (rest : List (List ℕ)) → ((x : ℕ) (less : List (List ℕ)) → IsOne x → rest ≡ spell x ∷ less → ⊥)
      → (xs : List ℕ) (less : List (List ℕ)) → length taken < length xs → All IsOne xs → map spell taken ++ rest ≡ map spell xs ++ less → ⊥
  no_more_by [] rest none [] less l all e = absurd (omega (arith, l))
  no_more_by [] rest none (x ∷ xs) less l all e = none x (map spell xs ++ less) (All-head IsOne x xs all) e
  no_more_by (t ∷ taken) rest none [] less l all e = absurd (omega (arith, l))
  no_more_by (t ∷ taken) rest none (x ∷ xs) less l all e =
      no_more_by taken rest none xs less (omega (arith, l)) (All-tail IsOne x xs all) (cons_tail (spell t) (spell x) (map spell taken ++ rest) (map spell xs ++ less) e)

  pub no_more : (count all' : ℕ) (old mid : List ℕ) (tokens rest : List (List ℕ)) → Takes spell IsOne count old mid tokens rest → count < all'
      → ((x : ℕ) (less : List (List ℕ)) → IsOne x → rest ≡ spell x ∷ less → ⊥) → BeginsOtherwise spell IsOne all' tokens
  no_more count all' old mid tokens rest t l none = λ xs less counted all e.
      let few = t.counted in
      no_more_by t.taken rest none xs less (omega (arith, counted)) all (sym t.spelled ∙ e)

  -- items that are all tokens
  pub taken_all : (count : ℕ) (old new : List ℕ) (tokens rest : List (List ℕ)) → rest ≡ [] → (t : Takes spell IsOne count old new tokens rest) → tokens ≡ map spell t.taken
  taken_all count old new tokens rest none t = t.spelled ∙ (ap (λ l. map spell t.taken ++ l) none ∙ append-nil (map spell t.taken))

  pub from_none : (count : ℕ) (tokens : List (List ℕ)) → BeginsOtherwise spell IsOne count tokens → (xs : List ℕ) → length xs ≡ count → All IsOne xs → tokens ≡ map spell xs → ⊥
  from_none count tokens other xs counted all e = other xs [] counted all (e ∙ sym (append-nil (map spell xs)))

  -- tokens behind the items: there are more tokens than items
  pub not_all : (count : ℕ) (old new : List ℕ) (tokens rest : List (List ℕ)) → (rest ≡ [] → ⊥) → Takes spell IsOne count old new tokens rest → (xs : List ℕ) → length xs ≡ count → tokens ≡ map spell xs → ⊥
  not_all count old new tokens rest some t xs counted e =
      let long = ap length (sym t.spelled ∙ e) in
      let few = t.counted in
      some (no_list rest (omega (arith, long, length-append (map spell t.taken) rest, length-map t.taken spell, length-map xs spell)))

  -- what is spelled alike is the same
  pub one_list : ((x y : ℕ) → IsOne x → IsOne y → spell x ≡ spell y → x ≡ y) → (xs ys : List ℕ) → All IsOne xs → All IsOne ys → map spell xs ≡ map spell ys → xs ≡ ys
  one_list one [] [] a b e = refl
  one_list one [] (y ∷ ys) a b e = absurd (cons_not_nil (spell y) (map spell ys) (sym e))
  one_list one (x ∷ xs) [] a b e = absurd (cons_not_nil (spell x) (map spell xs) e)
  one_list one (x ∷ xs) (y ∷ ys) a b e =
      cons_same x y xs ys (one x y (All-head IsOne x xs a) (All-head IsOne y ys b) (cons_head (spell x) (spell y) (map spell xs) (map spell ys) e))
      (one_list one xs ys (All-tail IsOne x xs a) (All-tail IsOne y ys b) (cons_tail (spell x) (spell y) (map spell xs) (map spell ys) e))

  -- whether tokens are those of items is decided, token by token
  pub items_decided : ((t : List ℕ) → Decided ((x : ℕ) × IsOne x × (t ≡ spell x))) → (ts : List (List ℕ)) → Decided ((xs : List ℕ) × All IsOne xs × (ts ≡ map spell xs))
  items_decided each [] = inl ([], All-nil IsOne, refl)
  items_decided each (t ∷ ts) =
      like (λ h. (h.0.0 ∷ h.1.0, All-cons IsOne h.0.0 h.1.0 h.0.1 h.1.1, cons_same t (spell h.0.0) ts (map spell h.1.0) h.0.2 h.1.2)) (apart t ts)
      (both (each t) (items_decided each ts))
    where
      apart : (t : List ℕ) (ts : List (List ℕ)) → ((xs : List ℕ) × All IsOne xs × (t ∷ ts ≡ map spell xs)) → ((x : ℕ) × IsOne x × (t ≡ spell x)) × ((xs : List ℕ) × All IsOne xs × (ts ≡ map spell xs))
      apart t ts ([], all, e) = absurd (cons_not_nil t ts e)
      apart t ts (x ∷ xs, all, e) = ((x, All-head IsOne x xs all, cons_head t (spell x) ts (map spell xs) e), (xs, All-tail IsOne x xs all, cons_tail t (spell x) ts (map spell xs) e))
