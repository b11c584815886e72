-- What the readers of names, paths and coefficients conclude.
use Rattle.std.proofs.Common.{◌≡◌, ◌≢◌, ℕ, ◌-◌, ◌<◌, ◌≤◌, ◌^◌, Bool, true, false, List, [], ◌∷◌, ◌++◌, map, length, get_or, cond, eqb, decimal, Some, None, inl, inr, refl, sym, ap, ◌∙◌, subst, arith, append_assoc, append-nil, lit<, lit≤}
use Rattle.std.specs.Prelude.{All}
use Rattle.std.specs.declared.option.Option.{Option}
use Rattle.std.proofs.lemmas.Bool.Decides.{eqb_tells}
use Rattle.std.proofs.lemmas.List.Splits.{join_with_byte-slice_split}
use Rattle.linear_algebra.specs.Field.{Gf, f2, f3, f4, f5, f7, f8, f9, f11, f13, f16, f25, f27, order}
use Rattle.quiver_paths.specs.declared.Path.{Path}
use Rattle.quiver_paths.specs.declared.Quiver.{Quiver}
use Rattle.quiver_paths.specs.Quiver.{arrow_count, source}
use Rattle.quiver_paths.specs.Path.{IsPath, Leads}
use Rattle.text_lines.specs.Parts.{parts, joined, Lacks}
use Rattle.text_lines.proofs.Cutting.{parts-some}
use Rattle.header_text.specs.Spelling.{arrow_name, arrows_text, path_text, coefficient_text}
use Rattle.header_text.specs.Named.{IsNamed, IsArrows, IsLongPath}
use Rattle.header_text.specs.Reading.{Reads}
use Rattle.header_text.proofs.Names.{path_text-arrows}
use Rattle.header_text.proofs.Clean.{one_cut, not_lacks, decimal_lacks}
use Rattle.header_text.proofs.Uniqueness.{name_among, arrows_text-parts, arrows_text-one, IsLongPath-arrows, decimal_one, path_starts}

pub order_small : (f : Gf) → order f ≤ 27
order_small f2 = lit≤ tt
order_small f3 = lit≤ tt
order_small f4 = lit≤ tt
order_small f5 = lit≤ tt
order_small f7 = lit≤ tt
order_small f8 = lit≤ tt
order_small f9 = lit≤ tt
order_small f11 = lit≤ tt
order_small f13 = lit≤ tt
order_small f16 = lit≤ tt
order_small f25 = lit≤ tt
order_small f27 = lit≤ tt

-- a name that no arrow has is in no text of arrows
pub no_arrows : (Q : Quiver) → IsNamed Q → (token : List ℕ) (done : List ℕ) (name : List ℕ) (names rest : List (List ℕ)) → parts 46 token ≡ map (arrow_name Q) done ++ names
    → names ≡ name ∷ rest → ((x : ℕ) → x < arrow_count Q → name ≡ arrow_name Q x → ⊥) → (xs : List ℕ) → IsArrows Q xs → token ≡ arrows_text Q xs → ⊥
no_arrows Q named token done name names rest whole next none xs are e =
    let found = name_among Q xs (map (arrow_name Q) done) name rest are.places
    (sym (arrows_text-parts Q named xs are.some) ∙ (ap (parts 46) (sym e) ∙ (whole ∙ ap (λ r. map (arrow_name Q) done ++ r) next))) in
    none found.0 found.1 (sym found.2)

some_names : (Q : Quiver) (token arrows : List ℕ) → parts 46 token ≡ map (arrow_name Q) arrows → arrows ≢ []
some_names Q token arrows e none = parts-some 46 token (e ∙ ap (map (arrow_name Q)) none)

pub all_arrows : (Q : Quiver) (token arrows : List ℕ) (names : List (List ℕ)) → parts 46 token ≡ map (arrow_name Q) arrows ++ names → names ≡ [] → All (λ a. a < arrow_count Q) arrows
    → IsArrows Q arrows × (token ≡ arrows_text Q arrows)
all_arrows Q token arrows names whole none places =
    let e : parts 46 token ≡ map (arrow_name Q) arrows = whole ∙ (ap (λ r. map (arrow_name Q) arrows ++ r) none ∙ append-nil (map (arrow_name Q) arrows)) in
    (record { some = some_names Q token arrows e; places = places }, sym (join_with_byte-slice_split 46 token) ∙ ap (joined 46) e)

-- arrows that do not lead on are those of no path
pub no_path : (Q : Quiver) (arrows : List ℕ) (d start : ℕ) → IsArrows Q arrows → start ≡ source Q (get_or arrows 0 d) → ((w : ℕ) → Leads Q start arrows w → ⊥) → (p : Path) → IsPath Q p → arrows ≡ p.arrows → ⊥
no_path Q arrows d start are at' none p path e =
    none p.end (subst (λ xs. Leads Q start xs p.end) (sym e) (subst (λ u. Leads Q u p.arrows p.end) (path_starts Q p arrows d path e are.some ∙ sym at') path.leads))

-- a path of the arrows that the token spells is the path that it spells
pub path_of_arrows : (Q : Quiver) → IsNamed Q → (token arrows : List ℕ) → IsArrows Q arrows → token ≡ arrows_text Q arrows → (r : Option Path)
    → Reads (IsPath Q) (λ p. p.arrows) arrows r → Reads (IsLongPath Q) (path_text Q) token r
path_of_arrows Q named token arrows are spelled None none = λ p long e.
    none p long.path (arrows_text-one Q named arrows p.arrows are (IsLongPath-arrows Q p long) (sym spelled ∙ (e ∙ path_text-arrows Q p long.some)))
path_of_arrows Q named token arrows are spelled (Some p) found =
    let some : p.arrows ≢ [] = λ e. are.some (found.1 ∙ e) in
    (record { path = found.0; some = some }, spelled ∙ (ap (arrows_text Q) found.1 ∙ sym (path_text-arrows Q p some)))

pub no_arrows_no_path : (Q : Quiver) (token : List ℕ) → ((xs : List ℕ) → IsArrows Q xs → token ≡ arrows_text Q xs → ⊥) → (p : Path) → IsLongPath Q p → token ≡ path_text Q p → ⊥
no_arrows_no_path Q token none p long e = none p.arrows (IsLongPath-arrows Q p long) (e ∙ path_text-arrows Q p long.some)

small_fits : (n q : ℕ) → n < q → q ≤ 27 → n < 2 ^ 64
small_fits n q h most = let big : 27 < 2 ^ 64 = lit< tt in omega arith

digits_by : (digits rest r : List ℕ) (c : ℕ) (b : Bool) → Lacks 42 digits → Lacks 42 (decimal c) → Lacks 42 r → digits ++ 42 ∷ rest ≡ cond b [] (decimal c ++ 42 ∷ []) ++ r → (b ≡ false) × (digits ≡ decimal c)
digits_by digits rest r c true a l b e = absurd (not_lacks 42 digits rest (subst (Lacks 42) (sym e) b))
digits_by digits rest r c false a l b e = (refl, (one_cut 42 digits (decimal c) rest r a l (e ∙ append_assoc (decimal c) (42 ∷ []) r)).0)

-- what stands before the star is the numeral of the coefficient
coefficient_digits : (q : ℕ) (token digits rest r : List ℕ) (c : ℕ) → q ≤ 27 → token ≡ digits ++ 42 ∷ rest → Lacks 42 digits → c < q → Lacks 42 r → token ≡ coefficient_text c ++ r
    → (eqb c 1 ≡ false) × (digits ≡ decimal c)
coefficient_digits q token digits rest r c most cut lacks small plain e =
    digits_by digits rest r c (eqb c 1) lacks (decimal_lacks 42 (lit≤ tt) c (small_fits c q small most)) plain (sym cut ∙ e)

pub no_numeral : (q : ℕ) (token digits rest : List ℕ) → q ≤ 27 → token ≡ digits ++ 42 ∷ rest → Lacks 42 digits → ((n : ℕ) → n ≤ q - 1 → digits ≡ decimal n → ⊥)
    → (c : ℕ) (r : List ℕ) → 0 < c → c < q → Lacks 42 r → token ≡ coefficient_text c ++ r → ⊥
no_numeral q token digits rest most cut lacks none c r nonzero small plain e = none c (omega arith) (coefficient_digits q token digits rest r c most cut lacks small plain e).1

pub low_numeral : (q : ℕ) (token digits rest : List ℕ) (n : ℕ) → q ≤ 27 → token ≡ digits ++ 42 ∷ rest → Lacks 42 digits → digits ≡ decimal n → n < 2
    → (c : ℕ) (r : List ℕ) → 0 < c → c < q → Lacks 42 r → token ≡ coefficient_text c ++ r → ⊥
low_numeral q token digits rest n most cut lacks is low c r nonzero small plain e =
    let known = coefficient_digits q token digits rest r c most cut lacks small plain e in
    let big : 2 < 2 ^ 64 = lit< tt in
    let same : n ≡ c = decimal_one n c (omega arith) (small_fits c q small most) (sym is ∙ known.1) in
    elim (eqb_tells c 1) [ inl one ↦ clash (sym one.0 ∙ known.0) | inr more ↦ more.1 (omega arith) ]
  where
    clash : true ≡ false → ⊥
    clash x = cc

pub not_empty : {X : Type 0} (xs : List X) → xs ≢ [] → 0 < length xs
not_empty [] some = absurd (some refl)
not_empty (x ∷ xs) some = omega arith
