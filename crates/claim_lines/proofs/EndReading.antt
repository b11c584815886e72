-- Last lines: what a line says is found from its tokens, but for the arrow and the path that it names; and what their readers conclude.
use Rattle.std.proofs.Common.{◌≡◌, ◌≢◌, ℕ, ◌<◌, ◌^◌, List, [], ◌∷◌, zero, suc, length, get_or, cond, codes, decimal, refl, sym, ap, ◌∙◌, subst, arith, lit≤}
use Rattle.std.specs.declared.option.Option.{Option}
use Rattle.quiver_paths.specs.declared.Path.{Path}
use Rattle.quiver_paths.specs.Quiver.{arrow_count}
use Rattle.path_algebra.specs.declared.Header.{Header}
use Rattle.header_text.specs.Named.{IsNamed}
use Rattle.header_text.specs.Reading.{Reads}
use Rattle.header_text.proofs.Uniqueness.{one_arrow}
use Rattle.report_types.specs.declared.reports.End.{End}
use Rattle.report_types.specs.declared.reports.End.TheVariants.{Done, Refused}
use Rattle.report_types.specs.declared.reports.Why.{Why}
use Rattle.report_types.specs.declared.reports.Why.TheVariants as why
use Rattle.report_types.specs.Ends.{IsWhy, IsBoundPath, IsFullEnd, IsEmptyEnd, IsPathLimit}
use Rattle.report_types.specs.Limits.{IsLine}
use Rattle.claim_lines.specs.Spelling.{why_form, end_line}
use Rattle.claim_lines.specs.Items.{FitsEnd}
use Rattle.claim_lines.proofs.Tokens.{is_same, token, number, value_is, number_is, few_is, one, two}
use Rattle.claim_lines.proofs.NumberReading.{head_is, tail_is}
use Rattle.claim_lines.proofs.PathReading.{one_any_path}
use Rattle.claim_lines.proofs.ReferenceReading.{reference_at, reference_back}

-- ---- found from the tokens

abbrev pub why_from : ℕ → Path → List (List ℕ) → Why
why_from a p ts =
    let w = token ts 0 in
    cond (is_same w (codes "NotBuilt")) why.NotBuilt
    (cond (is_same w (codes "UnknownName")) (why.UnknownName (reference_at (token ts 1)))
    (cond (is_same w (codes "NameTaken")) (why.NameTaken (token ts 1))
    (cond (is_same w (codes "Side")) why.Side
    (cond (is_same w (codes "Shape")) why.Shape
    (cond (is_same w (codes "RelationFails")) (why.RelationFails (number ts 1))
    (cond (is_same w (codes "BoundFails")) (why.BoundFails p)
    (cond (is_same w (codes "NotHom")) (why.NotHom a)
    (cond (is_same w (codes "DimLimit")) (why.DimLimit (number ts 1))
    (cond (is_same w (codes "HomLimit")) (why.HomLimit (number ts 1))
    (cond (is_same w (codes "TermLimit")) (why.TermLimit (number ts 1) (number ts 2))
    (cond (is_same w (codes "DualLimit")) (why.DualLimit (number ts 1) (number ts 2))
    (cond (is_same w (codes "Zero")) why.Zero
    (cond (is_same w (codes "Decomposable")) why.Decomposable
    why.Projective)))))))))))))

abbrev pub no_path : Path
no_path = record { start = 0; end = 0; arrows = [] }

-- the arrow and the path
abbrev pub arrow_in : Why → ℕ
arrow_in (why.NotHom a) = a
arrow_in w = 0

abbrev pub path_in : Why → Path
path_in (why.BoundFails p) = p
path_in w = no_path

-- ---- what is spelled is found

pub why_back : (h : Header) → length h.relations < 2 ^ 32 → (w : Why) → IsWhy h w → why_from (arrow_in w) (path_in w) (why_form h w) ≡ w
why_back h few why.NotBuilt is = refl
why_back h few (why.UnknownName t) is = ap why.UnknownName (reference_back t is)
why_back h few (why.NameTaken n) is = refl
why_back h few why.Side is = refl
why_back h few why.Shape is = refl
why_back h few (why.RelationFails r) is = one why.RelationFails _ r (number_is _ r few is)
why_back h few (why.BoundFails p) is = refl
why_back h few (why.NotHom a) is = refl
why_back h few (why.PathLimit n) is = absurd is
why_back h few (why.DimLimit n) is = one why.DimLimit _ n (value_is n is)
why_back h few (why.HomLimit n) is = one why.HomLimit _ n (value_is n is)
why_back h few (why.TermLimit s n) is = two why.TermLimit _ _ s n (few_is s 16 is.0 (lit≤ tt)) (value_is n is.1)
why_back h few (why.DualLimit s n) is = two why.DualLimit _ _ s n (few_is s 16 is.0 (lit≤ tt)) (value_is n is.1)
why_back h few why.Zero is = refl
why_back h few why.Decomposable is = refl
why_back h few why.Projective is = refl

-- ---- what readers conclude

pub why_found : (h : Header) → length h.relations < 2 ^ 32 → (ts : List (List ℕ)) (w : Why) → IsWhy h w → ts ≡ why_form h w → why_from (arrow_in w) (path_in w) ts ≡ w
why_found h few ts w is e = ap (why_from (arrow_in w) (path_in w)) e ∙ why_back h few w is

pub none_why : (h : Header) → length h.relations < 2 ^ 32 → (ts : List (List ℕ)) → ((a : ℕ) (p : Path) → IsWhy h (why_from a p ts) → ts ≡ why_form h (why_from a p ts) → ⊥)
    → (w : Why) → IsWhy h w → ts ≡ why_form h w → ⊥
none_why h few ts none w is e =
    let same = why_found h few ts w is e in
    none (arrow_in w) (path_in w) (subst (IsWhy h) (sym same) is) (e ∙ ap (why_form h) (sym same))

-- an arrow, and a path, that its name tells
arrow_same : (h : Header) → IsNamed h.quiver → (a b : ℕ) (y : Why) → why.NotHom b ≡ y → a < arrow_count h.quiver → IsWhy h y → why_form h (why.NotHom a) ≡ why_form h y → why.NotHom a ≡ y
arrow_same h named a b y same inside is e =
    let other : b < arrow_count h.quiver = subst (IsWhy h) (sym same) is in
    let names = e ∙ ap (why_form h) (sym same) in
    ap why.NotHom (one_arrow h.quiver named a b inside other (head_is _ _ _ _ (tail_is _ _ _ _ names))) ∙ same

path_same : (h : Header) → IsNamed h.quiver → (p q : Path) (y : Why) → why.BoundFails q ≡ y → IsBoundPath h p → IsWhy h y → why_form h (why.BoundFails p) ≡ why_form h y → why.BoundFails p ≡ y
path_same h named p q y same inside is e =
    let other : IsBoundPath h q = subst (IsWhy h) (sym same) is in
    let names = e ∙ ap (why_form h) (sym same) in
    ap why.BoundFails (one_any_path h.quiver named p q inside.path other.path (head_is _ _ _ _ (tail_is _ _ _ _ names))) ∙ same

pub one_why : (h : Header) → IsNamed h.quiver → length h.relations < 2 ^ 32 → (x y : Why) → IsWhy h x → IsWhy h y → why_form h x ≡ why_form h y → x ≡ y
one_why h named few why.NotBuilt y a b e = sym (why_back h few why.NotBuilt a) ∙ why_found h few _ y b e
one_why h named few (why.UnknownName t) y a b e = sym (why_back h few (why.UnknownName t) a) ∙ why_found h few _ y b e
one_why h named few (why.NameTaken n) y a b e = sym (why_back h few (why.NameTaken n) a) ∙ why_found h few _ y b e
one_why h named few why.Side y a b e = sym (why_back h few why.Side a) ∙ why_found h few _ y b e
one_why h named few why.Shape y a b e = sym (why_back h few why.Shape a) ∙ why_found h few _ y b e
one_why h named few (why.RelationFails r) y a b e = sym (why_back h few (why.RelationFails r) a) ∙ why_found h few _ y b e
one_why h named few (why.BoundFails p) y a b e = path_same h named p (path_in y) y (why_found h few _ y b e) a b e
one_why h named few (why.NotHom n) y a b e = arrow_same h named n (arrow_in y) y (why_found h few _ y b e) a b e
one_why h named few (why.PathLimit n) y a b e = absurd a
one_why h named few (why.DimLimit n) y a b e = sym (why_back h few (why.DimLimit n) a) ∙ why_found h few _ y b e
one_why h named few (why.HomLimit n) y a b e = sym (why_back h few (why.HomLimit n) a) ∙ why_found h few _ y b e
one_why h named few (why.TermLimit s n) y a b e = sym (why_back h few (why.TermLimit s n) a) ∙ why_found h few _ y b e
one_why h named few (why.DualLimit s n) y a b e = sym (why_back h few (why.DualLimit s n) a) ∙ why_found h few _ y b e
one_why h named few why.Zero y a b e = sym (why_back h few why.Zero a) ∙ why_found h few _ y b e
one_why h named few why.Decomposable y a b e = sym (why_back h few why.Decomposable a) ∙ why_found h few _ y b e
one_why h named few why.Projective y a b e = sym (why_back h few why.Projective a) ∙ why_found h few _ y b e

-- ---- the whole line

end_not_refused : codes "end" ≡ codes "refused" → ⊥
end_not_refused e = absurd (omega (arith, ap (λ w. get_or w 0 0) e))

pub no_done : (h : Header) (claims : ℕ) (ts : List (List ℕ)) → (ts ≡ decimal claims ∷ [] → ⊥) → (x : End) → IsFullEnd h x → codes "end" ∷ ts ≡ end_line h claims x → ⊥
no_done h claims ts none Done is e = none (tail_is _ _ _ _ e)
no_done h claims ts none (Refused line w) is e = end_not_refused (head_is _ _ _ _ e)

pub no_refused : (h : Header) (claims : ℕ) (ts : List (List ℕ)) → ((x : ℕ × Why) → IsLine x.0 × IsWhy h x.1 → ts ≡ decimal x.0 ∷ why_form h x.1 → ⊥) → (x : End) → IsFullEnd h x
    → codes "refused" ∷ ts ≡ end_line h claims x → ⊥
no_refused h claims ts none Done is e = end_not_refused (sym (head_is _ _ _ _ e))
no_refused h claims ts none (Refused line w) is e = none (line, w) is (tail_is _ _ _ _ e)

-- too many paths
pub record IsLimit (w : Why) : Type 0 where
  pub count : ℕ
  pub is : why.PathLimit count ≡ w
  pub small : count < 2 ^ 64

pub limit_is : (w : Why) → IsPathLimit w → IsLimit w
limit_is why.NotBuilt is = absurd is
limit_is (why.UnknownName t) is = absurd is
limit_is (why.NameTaken n) is = absurd is
limit_is why.Side is = absurd is
limit_is why.Shape is = absurd is
limit_is (why.RelationFails r) is = absurd is
limit_is (why.BoundFails p) is = absurd is
limit_is (why.NotHom a) is = absurd is
limit_is (why.PathLimit n) is = record { count = n; is = refl; small = is }
limit_is (why.DimLimit n) is = absurd is
limit_is (why.HomLimit n) is = absurd is
limit_is (why.TermLimit s n) is = absurd is
limit_is (why.DualLimit s n) is = absurd is
limit_is why.Zero is = absurd is
limit_is why.Decomposable is = absurd is
limit_is why.Projective is = absurd is

pub no_limit : (h : Header) (ts : List (List ℕ)) → ((x : ℕ × ℕ) → IsLine x.0 × (x.1 < 2 ^ 64) → ts ≡ codes "refused" ∷ decimal x.0 ∷ codes "PathLimit" ∷ decimal x.1 ∷ [] → ⊥)
    → (x : End) → IsEmptyEnd x → ts ≡ end_line h 0 x → ⊥
no_limit h ts none Done is e = absurd is
no_limit h ts none (Refused line w) is e =
    let l = limit_is w is.1 in
    none (line, l.count) (is.0, l.small) (e ∙ ap (λ (y : Why). end_line h 0 (Refused line y)) (sym l.is))

pub empty_reads : (h : Header) (claims : ℕ) (ts : List (List ℕ)) (r : Option End) → claims ≡ 0 → Reads IsEmptyEnd (end_line h 0) ts r → Reads (FitsEnd h claims) (end_line h claims) ts r
empty_reads h claims ts r e reads = subst (λ (n : ℕ). Reads (FitsEnd h n) (end_line h n) ts r) (sym e) reads

pub full_reads : (h : Header) (claims : ℕ) (ts : List (List ℕ)) (r : Option End) → claims ≢ 0 → Reads (IsFullEnd h) (end_line h claims) ts r → Reads (FitsEnd h claims) (end_line h claims) ts r
full_reads h zero ts r some reads = absurd (some refl)
full_reads h (suc n) ts r some reads = reads
