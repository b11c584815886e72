-- Paths, trivial ones included, and terms of tails: their spellings differ, and what their readers conclude.
use Rattle.std.proofs.Common.{◌≡◌, ◌≢◌, ℕ, ◌<◌, true, false, List, [], ◌∷◌, ◌++◌, ◌⊎◌, map, length, take, drop, codes, ◌-◌, suc, get_or, Some, None, inl, inr, refl, sym, ap, ◌∙◌, subst, arith}
use Rattle.std.specs.declared.option.Option.{Option}
use Rattle.std.proofs.lemmas.List.Elements.{All-head}
use Rattle.linear_algebra.specs.Field.{order}
use Rattle.quiver_paths.specs.declared.Path.{Path}
use Rattle.quiver_paths.specs.declared.Arrow.{Arrow}
use Rattle.quiver_paths.specs.declared.Quiver.{Quiver}
use Rattle.quiver_paths.specs.Path.{IsPath, Leads}
use Rattle.quiver_paths.specs.Quiver.{arrow_count}
use Rattle.std.proofs.lemmas.List.Elements.{All-get_or}
use Rattle.path_algebra.specs.Allowed.{is_letter, IsArrowName}
use Rattle.path_algebra.specs.declared.Term.{Term}
use Rattle.path_algebra.specs.declared.Header.{Header}
use Rattle.text_lines.specs.Parts.{Lacks, joined}
use Rattle.header_text.specs.Spelling.{vertex_name, arrow_name, arrows_text, path_text, coefficient_text, term_text}
use Rattle.header_text.specs.Named.{IsNamed, IsLongPath, IsArrows, IsCoefficientThen}
use Rattle.header_text.specs.Reading.{Reads}
use Rattle.header_text.proofs.Names.{arrow_name-within, path_text-trivial, path_text-arrows}
use Rattle.header_text.proofs.Clean.{no_arrow, path_lacks}
use Rattle.header_text.proofs.Uniqueness.{one_vertex, one_path, IsLongPath-arrows, coefficient_one}
use Rattle.header_text.proofs.Readers.{order_small}
use Rattle.std.proofs.Math.Seq.{take-length}
use Rattle.claim_lines.specs.Spelling.{word_line}
use Rattle.claim_lines.specs.Items.{FitsWord}
use Rattle.claim_lines.specs.Reading.{IsTailTerm}

pub cases_nil : (xs : List ℕ) → (xs ≡ []) ⊎ (xs ≢ [])
cases_nil [] = inl refl
cases_nil (x ∷ xs) = inr (λ e. some_none x xs e)
  where
    some_none : (x : ℕ) (xs : List ℕ) → x ∷ xs ≡ [] → ⊥
    some_none x xs e = cc

bool_clash : true ≡ false → ⊥
bool_clash e = cc

first_of_joined : (name : List ℕ) (names : List (List ℕ)) → is_letter (get_or name 0 0) ≡ true → is_letter (get_or (joined 46 (name ∷ names)) 0 0) ≡ true
first_of_joined [] names letter = absurd (bool_clash (sym letter))
first_of_joined (b ∷ name) [] letter = letter
first_of_joined (b ∷ name) (n ∷ names) letter = letter

first_of_arrows : (Q : Quiver) → IsNamed Q → (arrows : List ℕ) → IsArrows Q arrows → is_letter (get_or (arrows_text Q arrows) 0 0) ≡ true
first_of_arrows Q named [] are = absurd (are.some refl)
first_of_arrows Q named (a ∷ arrows) are =
    let inside : a < length Q.arrows = All-head (λ x. x < arrow_count Q) a arrows are.places in
    let name = All-get_or (λ (x : Arrow). IsArrowName x.name) Q.arrows a no_arrow inside named.arrow_names in
    first_of_joined (arrow_name Q a) (map (arrow_name Q) arrows) (ap (λ n. is_letter (get_or n 0 0)) (arrow_name-within Q a no_arrow inside) ∙ name.letter)

-- a path that is not trivial is spelled by a letter first
pub long_begins : (Q : Quiver) → IsNamed Q → (p : Path) → IsLongPath Q p → is_letter (get_or (path_text Q p) 0 0) ≡ true
long_begins Q named p long = ap (λ t. is_letter (get_or t 0 0)) (path_text-arrows Q p long.some) ∙ first_of_arrows Q named p.arrows (IsLongPath-arrows Q p long)

not_letter : (b : ℕ) → is_letter b ≡ false → (text : List ℕ) → get_or text 0 0 ≡ b → is_letter (get_or text 0 0) ≡ true → ⊥
not_letter b h text e letter = bool_clash (sym letter ∙ (ap is_letter e ∙ h))

same_tail : (x y : ℕ) (xs ys : List ℕ) → x ∷ xs ≡ y ∷ ys → xs ≡ ys
same_tail x y xs ys e = cc

same_path : (p r : Path) → p.start ≡ r.start → p.end ≡ r.end → p.arrows ≡ r.arrows → p ≡ r
same_path p r a b c = λ k. record { start = a k; end = b k; arrows = c k }

trivial_end : (Q : Quiver) (p : Path) → IsPath Q p → p.arrows ≡ [] → p.start ≡ p.end
trivial_end Q p path none = subst (λ xs. Leads Q p.start xs p.end) none path.leads

trivial_same : (Q : Quiver) (p r : Path) → IsPath Q p → IsPath Q r → p.arrows ≡ [] → r.arrows ≡ [] → p.start ≡ r.start → p ≡ r
trivial_same Q p r a b e f s = same_path p r s (sym (trivial_end Q p a e) ∙ (s ∙ trivial_end Q r b f)) (e ∙ sym f)

not_both : (Q : Quiver) → IsNamed Q → (p r : Path) → IsPath Q r → p.arrows ≡ [] → r.arrows ≢ [] → path_text Q p ≡ path_text Q r → ⊥
not_both Q named p r path e some same =
    not_letter 64 refl (path_text Q r) (ap (λ t. get_or t 0 0) (sym same ∙ path_text-trivial Q p e)) (long_begins Q named r record { path = path; some = some })

-- two paths of one spelling are one
pub one_any_path : (Q : Quiver) → IsNamed Q → (p r : Path) → IsPath Q p → IsPath Q r → path_text Q p ≡ path_text Q r → p ≡ r
one_any_path Q named p r a b e = elim (cases_nil p.arrows) [
  | inl none ↦ elim (cases_nil r.arrows) [
    | inl also ↦ trivial_same Q p r a b none also
        (one_vertex Q named p.start r.start a.starts b.starts (same_tail 64 64 _ _ (sym (path_text-trivial Q p none) ∙ (e ∙ path_text-trivial Q r also))))
    | inr some ↦ absurd (not_both Q named p r b none some e)
  ]
  | inr some ↦ elim (cases_nil r.arrows) [
    | inl none ↦ absurd (not_both Q named r p a none some (sym e))
    | inr also ↦ one_path Q named p r record { path = a; some = some } record { path = b; some = also } e
  ]
]

-- the vertex behind `@` makes the path
pub trivial_reads : (Q : Quiver) → IsNamed Q → (token name : List ℕ) → token ≡ 64 ∷ name → (r : Option Path)
    → Reads (λ (p : Path). IsPath Q p × (p.arrows ≡ [])) (λ (p : Path). vertex_name Q p.start) name r → Reads (IsPath Q) (path_text Q) token r
trivial_reads Q named token name e None none = λ p path same. elim (cases_nil p.arrows) [
  | inl nil ↦ none p (path, nil) (same_tail 64 64 name (vertex_name Q p.start) (sym e ∙ (same ∙ path_text-trivial Q p nil)))
  | inr some ↦ not_letter 64 refl (path_text Q p) (ap (λ t. get_or t 0 0) (sym same ∙ e)) (long_begins Q named p record { path = path; some = some })
]
trivial_reads Q named token name e (Some p) found = (found.0.0, e ∙ (ap (λ n. 64 ∷ n) found.1 ∙ sym (path_text-trivial Q p found.0.1)))

-- a token without `@` in front spells no trivial path
pub long_reads : (Q : Quiver) → IsNamed Q → (token : List ℕ) → (get_or token 0 0 ≡ 64 → ⊥) → (r : Option Path) → Reads (IsLongPath Q) (path_text Q) token r → Reads (IsPath Q) (path_text Q) token r
long_reads Q named token no_at None none = λ p path same. elim (cases_nil p.arrows) [
  | inl nil ↦ no_at (ap (λ t. get_or t 0 0) (same ∙ path_text-trivial Q p nil))
  | inr some ↦ none p record { path = path; some = some } same
]
long_reads Q named token no_at (Some p) found = (found.0.path, found.1)

-- ---- terms of tails

pub tail_path_lacks : (h : Header) → IsNamed h.quiver → (t : Term) → Lacks 42 (path_text h.quiver t.path)
tail_path_lacks h named t = path_lacks 42 refl refl refl h.quiver named t.path.start t.path.arrows

-- the coefficient that was cut off is the term's
tail_cut : (h : Header) → IsNamed h.quiver → (token : List ℕ) (c : ℕ) (rest : List ℕ) → IsCoefficientThen (order h.field) token c rest → (t : Term) → IsTailTerm h t
    → token ≡ term_text h.quiver t → (c ≡ t.coef) × (rest ≡ path_text h.quiver t.path)
tail_cut h named token c rest cut t term e =
    coefficient_one (order h.field) c t.coef rest (path_text h.quiver t.path) token (order_small h.field) cut term.nonzero term.small (tail_path_lacks h named t) e

pub no_coefficient_no_tail : (h : Header) → IsNamed h.quiver → (token : List ℕ) → ((c : ℕ) (rest : List ℕ) → 0 < c → c < order h.field → Lacks 42 rest → token ≡ coefficient_text c ++ rest → ⊥)
    → (t : Term) → IsTailTerm h t → token ≡ term_text h.quiver t → ⊥
no_coefficient_no_tail h named token none t term e = none t.coef (path_text h.quiver t.path) term.nonzero term.small (tail_path_lacks h named t) e

pub no_path_no_tail : (h : Header) → IsNamed h.quiver → (token : List ℕ) (c : ℕ) (rest : List ℕ) → IsCoefficientThen (order h.field) token c rest
    → ((p : Path) → IsPath h.quiver p → rest ≡ path_text h.quiver p → ⊥) → (t : Term) → IsTailTerm h t → token ≡ term_text h.quiver t → ⊥
no_path_no_tail h named token c rest cut none t term e = none t.path term.path (tail_cut h named token c rest cut t term e).1

pub is_tail_term : (h : Header) (token : List ℕ) (c : ℕ) (rest : List ℕ) (p : Path) → IsCoefficientThen (order h.field) token c rest → IsPath h.quiver p → rest ≡ path_text h.quiver p
    → IsTailTerm h record { coef = c; path = p } × (token ≡ term_text h.quiver record { coef = c; path = p })
is_tail_term h token c rest p cut path spelled =
    (record { nonzero = cut.nonzero; small = cut.small; path = path }, cut.spelled ∙ ap (λ r. coefficient_text c ++ r) spelled)

term_same : (s t : Term) → s.coef ≡ t.coef → s.path ≡ t.path → s ≡ t
term_same s t a b = λ k. record { coef = a k; path = b k }

-- two terms of one spelling are one
pub one_tail_term : (h : Header) → IsNamed h.quiver → (s t : Term) → IsTailTerm h s → IsTailTerm h t → term_text h.quiver s ≡ term_text h.quiver t → s ≡ t
one_tail_term h named s t a b e =
    let both = tail_cut h named (term_text h.quiver s) s.coef (path_text h.quiver s.path)
    record { nonzero = a.nonzero; small = a.small; spelled = refl; plain = λ one. tail_path_lacks h named s } t b e in
    term_same s t both.0 (one_any_path h.quiver named s.path t.path a.path b.path both.1)

-- a token that begins with `@` is that and its rest
pub at_and_rest : (token rest : List ℕ) → get_or token 0 0 ≡ 64 → rest ≡ drop 1 token → token ≡ 64 ∷ rest
at_and_rest [] rest e f = absurd (omega (arith, e))
at_and_rest (b ∷ token) rest e f = ap (λ x. x ∷ token) e ∙ ap (λ r. 64 ∷ r) (sym f)

pub take_all : (token : List ℕ) → take (length token - 1) (drop 1 token) ≡ drop 1 token
take_all [] = refl
take_all (b ∷ token) = ap (λ n. take n token) one_less ∙ take-length token
  where
    one_less : suc (length token) - 1 ≡ length token
    one_less = omega arith

second_same : (a b c : List ℕ) → a ∷ b ∷ [] ≡ a ∷ c ∷ [] → b ≡ c
second_same a b c e = cc

-- a path that is spelled, but is no word that may follow
pub no_other_word : (h : Header) → IsNamed h.quiver → (words : List Path) (tokens rest : List (List ℕ)) (p : Path) → tokens ≡ codes "word" ∷ rest → IsPath h.quiver p → rest ≡ path_text h.quiver p ∷ []
    → (FitsWord h words p → ⊥) → (x : Path) → FitsWord h words x → tokens ≡ word_line h.quiver x → ⊥
no_other_word h named words tokens rest p first path spelled none x is e =
    let same : x ≡ p = one_any_path h.quiver named x p is.short.path path
    (second_same (codes "word") (path_text h.quiver x) (path_text h.quiver p) (sym e ∙ (first ∙ ap (λ r. codes "word" ∷ r) spelled))) in
    none (subst (FitsWord h words) same is)
