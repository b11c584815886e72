-- Different paths, terms and lists of terms have different spellings.
use Rattle.std.proofs.Common.{◌≡◌, ◌≢◌, ℕ, ◌+◌, ◌<◌, ◌≤◌, ◌^◌, zero, suc, true, false, List, [], ◌∷◌, ◌++◌, map, length, get_or, take, cond, eqb, decimal, inl, inr, refl, sym, ap, ◌∙◌, subst, arith, append_assoc, lit<, lit≤}
use Rattle.std.specs.Prelude.{All, Contains}
use Rattle.std.proofs.lemmas.Bool.{cases_lt}
use Rattle.std.proofs.lemmas.List.{take_more}
use Rattle.std.proofs.lemmas.Bool.Decides.{eqb_tells}
use Rattle.std.proofs.lemmas.List.Elements.{All-nil, All-cons, All-head, All-tail, All-contains}
use Rattle.quiver_paths.specs.declared.Path.{Path}
use Rattle.quiver_paths.specs.declared.Quiver.{Quiver}
use Rattle.quiver_paths.specs.Quiver.{arrow_count, vertex_count, source, target}
use Rattle.quiver_paths.specs.Path.{IsPath, Leads}
use Rattle.quiver_paths.proofs.PathLemmas.{Leads-one, Leads-append, same_path}
use Rattle.quiver_paths.proofs.ListLemmas.{Contains-from_map, Contains-head, Contains-behind}
use Rattle.text_lines.specs.Parts.{parts, Lacks}
use Rattle.text_lines.proofs.Cutting.{parts-joined_all}
use Rattle.text_lines.proofs.Digits.{decimal_is_written, decimal_value}
use Rattle.header_text.specs.Spelling.{vertex_name, arrow_name, arrows_text, path_text, coefficient_text}
use Rattle.header_text.specs.Named.{IsNamed, IsArrows, IsLongPath, IsCoefficientThen}
use Rattle.header_text.proofs.Names.{vertex_name-within, arrow_name-within, path_text-arrows}
use Rattle.header_text.proofs.Clean.{arrow_names_lack, not_lacks, one_cut, decimal_lacks, no_arrow}

-- a name belongs to one vertex and to one arrow
pub one_vertex : (Q : Quiver) → IsNamed Q → (v w : ℕ) → v < vertex_count Q → w < vertex_count Q → vertex_name Q v ≡ vertex_name Q w → v ≡ w
one_vertex Q named v w a b e =
    elim (cases_lt v w) [
      | inl less ↦ absurd (named.vertices_differ v w [] less b (sym (vertex_name-within Q v [] a) ∙ (e ∙ vertex_name-within Q w [] b)))
      | inr least ↦ elim (cases_lt w v) [
        | inl more ↦ absurd (named.vertices_differ w v [] more a (sym (vertex_name-within Q w [] b) ∙ (sym e ∙ vertex_name-within Q v [] a)))
        | inr same ↦ omega arith
      ]
    ]

pub one_arrow : (Q : Quiver) → IsNamed Q → (v w : ℕ) → v < arrow_count Q → w < arrow_count Q → arrow_name Q v ≡ arrow_name Q w → v ≡ w
one_arrow Q named v w a b e =
    elim (cases_lt v w) [
      | inl less ↦ absurd (named.arrows_differ v w no_arrow less b (sym (arrow_name-within Q v no_arrow a) ∙ (e ∙ arrow_name-within Q w no_arrow b)))
      | inr least ↦ elim (cases_lt w v) [
        | inl more ↦ absurd (named.arrows_differ w v no_arrow more a (sym (arrow_name-within Q w no_arrow b) ∙ (sym e ∙ arrow_name-within Q v no_arrow a)))
        | inr same ↦ omega arith
      ]
    ]

cons_head : {X : Type 0} (x y : X) (xs ys : List X) → x ∷ xs ≡ y ∷ ys → x ≡ y
cons_head x y xs ys e = cc

cons_tail : {X : Type 0} (x y : X) (xs ys : List X) → x ∷ xs ≡ y ∷ ys → xs ≡ ys
cons_tail x y xs ys e = cc

cons_not_nil : {X : Type 0} (x : X) (xs : List X) → x ∷ xs ≡ [] → ⊥
cons_not_nil x xs e = cc

cons_same : {X : Type 0} (x y : X) (xs ys : List X) → x ≡ y → xs ≡ ys → x ∷ xs ≡ y ∷ ys
cons_same x y xs ys a b = cc

-- what has one image has one list of images
pub map_one : {X Y : Type 0} (P : X → Type 0) (f : X → Y) → ((a b : X) → P a → P b → f a ≡ f b → a ≡ b) → (xs ys : List X) → All P xs → All P ys → map f xs ≡ map f ys → xs ≡ ys
map_one P f one [] [] a b e = refl
map_one P f one [] (y ∷ ys) a b e = absurd (cons_not_nil (f y) (map f ys) (sym e))
map_one P f one (x ∷ xs) [] a b e = absurd (cons_not_nil (f x) (map f xs) e)
map_one P f one (x ∷ xs) (y ∷ ys) a b e =
    cons_same x y xs ys (one x y (All-head P x xs a) (All-head P y ys b) (cons_head (f x) (f y) (map f xs) (map f ys) e))
    (map_one P f one xs ys (All-tail P x xs a) (All-tail P y ys b) (cons_tail (f x) (f y) (map f xs) (map f ys) e))

map_some : {X Y : Type 0} (f : X → Y) (xs : List X) → xs ≢ [] → map f xs ≢ []
map_some f [] some e = some refl
map_some f (x ∷ xs) some e = cons_not_nil (f x) (map f xs) e

-- the names in the text of arrows
pub arrows_text-parts : (Q : Quiver) → IsNamed Q → (arrows : List ℕ) → arrows ≢ [] → parts 46 (arrows_text Q arrows) ≡ map (arrow_name Q) arrows
arrows_text-parts Q named arrows some = parts-joined_all 46 (map (arrow_name Q) arrows) (map_some (arrow_name Q) arrows some) (arrow_names_lack 46 refl Q named arrows)

pub arrows_text-one : (Q : Quiver) → IsNamed Q → (xs ys : List ℕ) → IsArrows Q xs → IsArrows Q ys → arrows_text Q xs ≡ arrows_text Q ys → xs ≡ ys
arrows_text-one Q named xs ys a b e =
    map_one (λ (k : ℕ). k < arrow_count Q) (arrow_name Q) (one_arrow Q named) xs ys a.places b.places
    (sym (arrows_text-parts Q named xs a.some) ∙ (ap (parts 46) e ∙ arrows_text-parts Q named ys b.some))

-- a name among the names of the arrows
pub name_among : (Q : Quiver) (arrows : List ℕ) (front : List (List ℕ)) (name : List ℕ) (rest : List (List ℕ)) → All (λ a. a < arrow_count Q) arrows
    → map (arrow_name Q) arrows ≡ front ++ name ∷ rest → (a : ℕ) × (a < arrow_count Q) × (arrow_name Q a ≡ name)
name_among Q arrows front name rest all e =
    let found = Contains-from_map (arrow_name Q) arrows name (subst (λ (r : List (List ℕ)). Contains r name) (sym e) (behind front)) in
    (found.0, All-contains (λ (a : ℕ). a < arrow_count Q) arrows found.0 all found.1, found.2)
  where
    behind : (xs : List (List ℕ)) → Contains (xs ++ name ∷ rest) name
    behind [] = Contains-head name rest
    behind (x ∷ xs) = Contains-behind x (xs ++ name ∷ rest) name (behind xs)

pub Leads-places : (Q : Quiver) (u : ℕ) (arrows : List ℕ) (w : ℕ) → Leads Q u arrows w → All (λ a. a < arrow_count Q) arrows
Leads-places Q u [] w leads = All-nil (λ a. a < arrow_count Q)
Leads-places Q u (a ∷ arrows) w leads = All-cons (λ x. x < arrow_count Q) a arrows leads.0 (Leads-places Q (target Q a) arrows w leads.2)

pub IsLongPath-arrows : (Q : Quiver) (p : Path) → IsLongPath Q p → IsArrows Q p.arrows
IsLongPath-arrows Q p long = record { some = long.some; places = Leads-places Q p.start p.arrows p.end long.path.leads }

Leads-start : (Q : Quiver) (u v w z : ℕ) (arrows : List ℕ) → arrows ≢ [] → Leads Q u arrows w → Leads Q v arrows z → u ≡ v
Leads-start Q u v w z [] some a b = absurd (some refl)
Leads-start Q u v w z (x ∷ arrows) some a b = sym a.1 ∙ b.1

-- a path that is not trivial is known by its arrows
pub path_by_arrows : (Q : Quiver) (p r : Path) → IsLongPath Q p → IsPath Q r → p.arrows ≡ r.arrows → p ≡ r
path_by_arrows Q p r a b e =
    let other = subst (λ xs. Leads Q r.start xs r.end) (sym e) b.leads in
    let starts = Leads-start Q p.start r.start p.end r.end p.arrows a.some a.path.leads other in
    let ends = Leads-one Q p.start p.arrows p.end r.end a.path.leads (subst (λ u. Leads Q u p.arrows r.end) (sym starts) other) in
    same_path p r starts ends e

pub one_path : (Q : Quiver) → IsNamed Q → (p r : Path) → IsLongPath Q p → IsLongPath Q r → path_text Q p ≡ path_text Q r → p ≡ r
one_path Q named p r a b e =
    path_by_arrows Q p r a b.path (arrows_text-one Q named p.arrows r.arrows (IsLongPath-arrows Q p a) (IsLongPath-arrows Q r b)
    (sym (path_text-arrows Q p a.some) ∙ (e ∙ path_text-arrows Q r b.some)))

pub decimal_one : (m n : ℕ) → m < 2 ^ 64 → n < 2 ^ 64 → decimal m ≡ decimal n → m ≡ n
decimal_one m n a b e = decimal_value (decimal m) m n b e (decimal_is_written m a)

-- a coefficient and what stands behind it can be told from the token
pub coefficient_one : (q : ℕ) (c d : ℕ) (x y token : List ℕ) → q ≤ 27 → IsCoefficientThen q token c x → 0 < d → d < q → Lacks 42 y → token ≡ coefficient_text d ++ y → (c ≡ d) × (x ≡ y)
coefficient_one q c d x y token most cut nonzero small lacks e =
    elim (eqb_tells c 1) [
      | inl one ↦ elim (eqb_tells d 1) [
        | inl other ↦ (one.1 ∙ sym other.1, sym (plain c x one.0 ∙ refl) ∙ (sym cut.spelled ∙ (e ∙ plain d y other.0)))
        | inr other ↦ absurd (not_lacks 42 (decimal d) y (subst (Lacks 42) (sym (plain c x one.0) ∙ (sym cut.spelled ∙ (e ∙ marked d y other.0))) (cut.plain one.1)))
      ]
      | inr more ↦ elim (eqb_tells d 1) [
        | inl other ↦ absurd (not_lacks 42 (decimal c) x (subst (Lacks 42) (sym (plain d y other.0) ∙ (sym e ∙ (cut.spelled ∙ marked c x more.0))) lacks))
        | inr other ↦
            let both = one_cut 42 (decimal c) (decimal d) x y (decimal_lacks 42 (lit≤ tt) c (fits c cut.small)) (decimal_lacks 42 (lit≤ tt) d (fits d small))
            (sym (marked c x more.0) ∙ (sym cut.spelled ∙ (e ∙ marked d y other.0))) in
            (decimal_one c d (fits c cut.small) (fits d small) both.0, both.1)
      ]
    ]
  where
    plain : (n : ℕ) (r : List ℕ) → eqb n 1 ≡ true → coefficient_text n ++ r ≡ r
    plain n r h = ap (λ b. cond b [] (decimal n ++ 42 ∷ []) ++ r) h

    marked : (n : ℕ) (r : List ℕ) → eqb n 1 ≡ false → coefficient_text n ++ r ≡ decimal n ++ 42 ∷ r
    marked n r h = ap (λ b. cond b [] (decimal n ++ 42 ∷ []) ++ r) h ∙ append_assoc (decimal n) (42 ∷ []) r

    fits : (n : ℕ) → n < q → n < 2 ^ 64
    fits n h = let big : 27 < 2 ^ 64 = lit< tt in omega arith

-- arrows that lead to a vertex where the next one does not start lead nowhere
pub leads_stuck : (Q : Quiver) (u : ℕ) (arrows : List ℕ) (i d at' : ℕ) → i < length arrows → Leads Q u (take i arrows) at' → source Q (get_or arrows i d) ≢ at' → (w : ℕ) → Leads Q u arrows w → ⊥
leads_stuck Q u [] i d at' inside front other w leads = omega arith
leads_stuck Q u (a ∷ arrows) zero d at' inside front other w leads = other (leads.1 ∙ front)
leads_stuck Q u (a ∷ arrows) (suc i) d at' inside front other w leads = leads_stuck Q (target Q a) arrows i d at' (omega arith) front.2 other w leads.2

pub leads_on : (Q : Quiver) (u : ℕ) (arrows : List ℕ) (i d at' : ℕ) → i < length arrows → Leads Q u (take i arrows) at' → get_or arrows i d < arrow_count Q → source Q (get_or arrows i d) ≡ at'
    → Leads Q u (take (i + 1) arrows) (target Q (get_or arrows i d))
leads_on Q u arrows i d at' inside front place starts =
    rw (take_more arrows i d inside) (Leads-append Q u (take i arrows) at' (get_or arrows i d ∷ []) (target Q (get_or arrows i d)) front (place, starts, refl))

-- where a path starts
pub path_starts : (Q : Quiver) (p : Path) (arrows : List ℕ) (d : ℕ) → IsPath Q p → arrows ≡ p.arrows → arrows ≢ [] → p.start ≡ source Q (get_or arrows 0 d)
path_starts Q p arrows d path e some = first Q p.start arrows d p.end some (subst (λ xs. Leads Q p.start xs p.end) (sym e) path.leads)
  where
    first : (Q : Quiver) (u : ℕ) (xs : List ℕ) (d w : ℕ) → xs ≢ [] → Leads Q u xs w → u ≡ source Q (get_or xs 0 d)
    first Q u [] d w some leads = absurd (some refl)
    first Q u (x ∷ xs) d w some leads = sym leads.1
