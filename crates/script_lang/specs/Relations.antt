-- Relations by their tokens. Whether their paths are composable, long enough, parallel and different is asked of the line as a whole.
use Rattle.std.specs.Prelude.{ℕ, ◌-◌, Bool, List, [], ◌∷◌, codes, length, slice_index, position, if◌then◌else◌, Some, None}
use Rattle.std.specs.declared.option.Option.{Option}
use Rattle.linear_algebra.specs.Field.{Gf, order, neg}
use Rattle.quiver_paths.specs.declared.Arrow.{Arrow}
use Rattle.quiver_paths.specs.declared.Quiver.{Quiver}
use Rattle.quiver_paths.specs.declared.Path.{Path}
use Rattle.quiver_paths.specs.Quiver.{source, target}
use Rattle.path_algebra.specs.declared.Term.{Term}
use Rattle.path_algebra.specs.declared.Relation.{Relation}
use Rattle.path_algebra.specs.declared.Header.{Header}
use Rattle.text_lines.specs.Parts.{parts, joined}
use Rattle.script_lang.specs.Tokens.{is_word, number_to}
use Rattle.script_lang.specs.Arguments.{before}

-- the place of the arrow with this name
abbrev pub arrow_place : List Arrow → List ℕ → Option ℕ
arrow_place arrows name = position (λ (a : Arrow). is_word a.name name) arrows

-- the places of the arrows with these names
abbrev pub places_in : List Arrow → List (List ℕ) → Option (List ℕ)
places_in arrows [] = Some []
places_in arrows (n ∷ ns) = before (arrow_place arrows n) (places_in arrows ns)

-- from the start of the first arrow to the end of the last
abbrev pub path_of : Quiver → Option (List ℕ) → Option Path
path_of Q None = None
path_of Q (Some []) = None
path_of Q (Some (a ∷ arrows)) = Some (record { start = source Q a; end = target Q (slice_index (a ∷ arrows) (length arrows)); arrows = a ∷ arrows })

-- names of arrows, joined by `.`
abbrev pub path_in : Quiver → List ℕ → Option Path
path_in Q token = path_of Q (places_in Q.arrows (parts 46 token))

abbrev pub term_of : Option ℕ → Option Path → Option Term
term_of None p = None
term_of (Some c) None = None
term_of (Some c) (Some p) = Some (record { coef = c; path = p })

-- a path, or `C*` and a path, C up to q − 1: what stands before the first `*`, and what stands behind it
abbrev pub term_from : Gf → Quiver → List (List ℕ) → Option Term
term_from f Q [] = None
term_from f Q (p ∷ []) = term_of (Some 1) (path_in Q p)
term_from f Q (c ∷ p ∷ more) = term_of (number_to (order f - 1) c) (path_in Q (joined 42 (p ∷ more)))

unfoldable pub term_in : Gf → Quiver → List ℕ → Option Term
term_in f Q token = term_from f Q (parts 42 token)

abbrev pub negative : Gf → Option Term → Option Term
negative f None = None
negative f (Some t) = Some (record { coef = neg f t.coef; path = t.path })

abbrev pub is_plus : List ℕ → Bool
is_plus token = is_word token (codes "+")

abbrev pub is_minus : List ℕ → Bool
is_minus token = is_word token (codes "-")

-- a term behind its sign
abbrev pub signed_term : Gf → Quiver → List ℕ → List ℕ → Option Term
signed_term f Q sign token =
    if is_plus sign then term_in f Q token
    else if is_minus sign then negative f (term_in f Q token)
    else None

-- the term of the first token, behind its sign
abbrev pub next_signed : Gf → Quiver → List ℕ → List (List ℕ) → Option Term
next_signed f Q sign [] = None
next_signed f Q sign (t ∷ ts) = signed_term f Q sign t

-- terms, each behind its sign
abbrev pub signed_terms : Gf → Quiver → List (List ℕ) → Option (List Term)
signed_terms f Q [] = Some []
signed_terms f Q (s ∷ []) = None
signed_terms f Q (s ∷ t ∷ ts) = before (signed_term f Q s t) (signed_terms f Q ts)

-- the first term may lack its sign, which is then plus
abbrev pub with_sign : List (List ℕ) → List (List ℕ)
with_sign [] = codes "+" ∷ []
with_sign (t ∷ ts) = if is_minus t then t ∷ ts else codes "+" ∷ t ∷ ts

abbrev pub relation_of : Option (List Term) → Option Relation
relation_of None = None
relation_of (Some ts) = Some (record { terms = ts })

abbrev pub relation_in : Header → List (List ℕ) → Option Relation
relation_in h args = relation_of (signed_terms h.field h.quiver (with_sign args))
