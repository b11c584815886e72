-- Last lines: what fits has one spelling, whether some tokens spell one is decided, and no token has a space or a line feed.
use Rattle.std.proofs.Common.{◌≡◌, ℕ, ◌+◌, ◌<◌, ◌^◌, zero, suc, List, [], ◌∷◌, drop, length, codes, ◌⊎◌, inl, inr, refl, sym, ap, ◌∙◌, arith}
use Rattle.quiver_paths.specs.declared.Path.{Path}
use Rattle.quiver_paths.specs.declared.names.Suffix.{Suffix}
use Rattle.quiver_paths.specs.declared.names.Suffix.TheVariants as suffix
use Rattle.quiver_paths.specs.Path.{path_length}
use Rattle.quiver_paths.specs.Quiver.{arrow_count}
use Rattle.path_algebra.specs.declared.Header.{Header}
use Rattle.header_text.specs.Named.{IsNamed}
use Rattle.header_text.proofs.Uniqueness.{decimal_one}
use Rattle.report_types.specs.declared.reports.End.{End}
use Rattle.report_types.specs.declared.reports.End.TheVariants.{Done, Refused}
use Rattle.report_types.specs.declared.reports.Why.{Why}
use Rattle.report_types.specs.declared.reports.Why.TheVariants as why
use Rattle.report_types.specs.Ends.{IsToken, IsWhy, IsBoundPath, IsFullEnd, IsEmptyEnd}
use Rattle.report_types.specs.Limits.{resolution_limit, part_limit}
use Rattle.deciding.proofs.Deciding.{Decided, both, like, below, at_most, same_tokens, IsListed, found, just, either, images, numbers_below}
use Rattle.deciding.proofs.DecidedPaths.{number_decided, path_decided, IsPathBelow, paths_listed}
use Rattle.claim_lines.specs.Spelling.{why_form, end_line}
use Rattle.claim_lines.specs.Items.{FitsEnd}
use Rattle.claim_lines.proofs.Tokens.{number, value_is, line_small}
use Rattle.claim_lines.proofs.NumberReading.{head_is, tail_is}
use Rattle.claim_lines.proofs.DecidedHeader.{name_decided, arrow_name_decided}
use Rattle.claim_lines.proofs.DecidedClaims.{by_candidate, line_decided}
use Rattle.claim_lines.proofs.EndReading.{why_from, no_path, why_found, one_why, limit_is, IsLimit}

-- ---- one spelling

same_end : (m n : ℕ) (v w : Why) → m ≡ n → v ≡ w → Refused m v ≡ Refused n w
same_end m n v w e f = ap (λ x. Refused x v) e ∙ ap (Refused n) f

clash : codes "end" ≡ codes "refused" → ⊥
clash e = absurd (omega (arith, ap (λ w. first w) e))
  where
    first : List ℕ → ℕ
    first [] = 0
    first (b ∷ bs) = b

pub one_full_end : (h : Header) → IsNamed h.quiver → length h.relations < 2 ^ 32 → (k : ℕ) (x y : End) → IsFullEnd h x → IsFullEnd h y → end_line h k x ≡ end_line h k y → x ≡ y
one_full_end h named few k Done Done a b e = refl
one_full_end h named few k Done (Refused n w) a b e = absurd (clash (head_is _ _ _ _ e))
one_full_end h named few k (Refused m v) Done a b e = absurd (clash (sym (head_is _ _ _ _ e)))
one_full_end h named few k (Refused m v) (Refused n w) a b e =
    let rest = tail_is _ _ _ _ e in
    same_end m n v w (decimal_one m n (line_small m a.0) (line_small n b.0) (head_is _ _ _ _ rest)) (one_why h named few v w a.1 b.1 (tail_is _ _ _ _ rest))

limits_same : (h : Header) (v w : Why) → IsLimit v → IsLimit w → why_form h v ≡ why_form h w → v ≡ w
limits_same h v w a b e =
    let same = ap (why_form h) a.is ∙ (e ∙ ap (why_form h) (sym b.is)) in
    sym a.is ∙ (ap why.PathLimit (decimal_one a.count b.count a.small b.small (head_is _ _ _ _ (tail_is _ _ _ _ same))) ∙ b.is)

pub one_empty_end : (h : Header) (k : ℕ) (x y : End) → IsEmptyEnd x → IsEmptyEnd y → end_line h k x ≡ end_line h k y → x ≡ y
one_empty_end h k Done y a b e = absurd a
one_empty_end h k (Refused m v) Done a b e = absurd b
one_empty_end h k (Refused m v) (Refused n w) a b e =
    let rest = tail_is _ _ _ _ e in
    same_end m n v w (decimal_one m n (line_small m a.0) (line_small n b.0) (head_is _ _ _ _ rest)) (limits_same h v w (limit_is v a.1) (limit_is w b.1) (tail_is _ _ _ _ rest))

pub one_end : (h : Header) → IsNamed h.quiver → length h.relations < 2 ^ 32 → (k : ℕ) (x y : End) → FitsEnd h k x → FitsEnd h k y → end_line h k x ≡ end_line h k y → x ≡ y
one_end h named few zero x y a b e = one_empty_end h 0 x y a b e
one_end h named few (suc k) x y a b e = one_full_end h named few (suc k) x y a b e

-- ---- decided

token_decided : (n : List ℕ) (v : Suffix) → Decided (IsToken n v)
token_decided n suffix.Whole = name_decided n
token_decided n suffix.Map = arrow_name_decided n
token_decided n suffix.Inv = arrow_name_decided n
token_decided n (suffix.Part k) = both (arrow_name_decided n) (number_decided part_limit k)

bound_path_decided : (h : Header) (p : Path) → Decided (IsBoundPath h p)
bound_path_decided h p = like (λ x. record { path = x.0; long = omega (arith, x.1.0, x.1.1) }) (λ x. (x.path, ((let long = x.long in omega arith), (let long = x.long in omega arith))))
    (both (path_decided h.quiver p) (both (at_most (path_length p) h.bound) (at_most h.bound (path_length p))))

why_is_decided : (h : Header) (w : Why) → Decided (IsWhy h w)
why_is_decided h why.NotBuilt = inl tt
why_is_decided h (why.UnknownName t) = token_decided t.name t.suffix
why_is_decided h (why.NameTaken n) = arrow_name_decided n
why_is_decided h why.Side = inl tt
why_is_decided h why.Shape = inl tt
why_is_decided h (why.RelationFails r) = number_decided (length h.relations) r
why_is_decided h (why.BoundFails p) = bound_path_decided h p
why_is_decided h (why.NotHom a) = below a (arrow_count h.quiver)
why_is_decided h (why.PathLimit n) = inr (λ x. x)
why_is_decided h (why.DimLimit n) = below n (2 ^ 64)
why_is_decided h (why.HomLimit n) = below n (2 ^ 64)
why_is_decided h (why.TermLimit s n) = both (at_most s resolution_limit) (below n (2 ^ 64))
why_is_decided h (why.DualLimit s n) = both (at_most s resolution_limit) (below n (2 ^ 64))
why_is_decided h why.Zero = inl tt
why_is_decided h why.Decomposable = inl tt
why_is_decided h why.Projective = inl tt

-- the causes that some tokens can spell: what they tell, but for the arrow and the path
MayBe : Header → List (List ℕ) → Why → Type 0
MayBe h ts w = (w ≡ why_from 0 no_path ts) ⊎ (((a : ℕ) × (a < arrow_count h.quiver) × (why.NotHom a ≡ w)) ⊎ ((p : Path) × IsPathBelow h.quiver (h.bound + 1) p × (why.BoundFails p ≡ w)))

causes_listed : (h : Header) → IsNamed h.quiver → (ts : List (List ℕ)) → IsListed (MayBe h ts)
unfolding MayBe
causes_listed h named ts = either (just (why_from 0 no_path ts)) (either (images why.NotHom (numbers_below (arrow_count h.quiver))) (images why.BoundFails (paths_listed h.quiver named.ends (h.bound + 1))))

may_be : (h : Header) → length h.relations < 2 ^ 32 → (ts : List (List ℕ)) (w : Why) → IsWhy h w → ts ≡ why_form h w → MayBe h ts w
unfolding MayBe
may_be h few ts why.NotBuilt is e = inl (sym (why_found h few ts why.NotBuilt is e))
may_be h few ts (why.UnknownName t) is e = inl (sym (why_found h few ts (why.UnknownName t) is e))
may_be h few ts (why.NameTaken n) is e = inl (sym (why_found h few ts (why.NameTaken n) is e))
may_be h few ts why.Side is e = inl (sym (why_found h few ts why.Side is e))
may_be h few ts why.Shape is e = inl (sym (why_found h few ts why.Shape is e))
may_be h few ts (why.RelationFails r) is e = inl (sym (why_found h few ts (why.RelationFails r) is e))
may_be h few ts (why.BoundFails p) is e = inr (inr (p, record { path = is.path; short = let long = is.long in omega arith }, refl))
may_be h few ts (why.NotHom a) is e = inr (inl (a, is, refl))
may_be h few ts (why.PathLimit n) is e = absurd is
may_be h few ts (why.DimLimit n) is e = inl (sym (why_found h few ts (why.DimLimit n) is e))
may_be h few ts (why.HomLimit n) is e = inl (sym (why_found h few ts (why.HomLimit n) is e))
may_be h few ts (why.TermLimit s n) is e = inl (sym (why_found h few ts (why.TermLimit s n) is e))
may_be h few ts (why.DualLimit s n) is e = inl (sym (why_found h few ts (why.DualLimit s n) is e))
may_be h few ts why.Zero is e = inl (sym (why_found h few ts why.Zero is e))
may_be h few ts why.Decomposable is e = inl (sym (why_found h few ts why.Decomposable is e))
may_be h few ts why.Projective is e = inl (sym (why_found h few ts why.Projective is e))

pub why_decided : (h : Header) → IsNamed h.quiver → length h.relations < 2 ^ 32 → (ts : List (List ℕ)) → Decided ((w : Why) × (IsWhy h w × (ts ≡ why_form h w)))
why_decided h named few ts =
    found (MayBe h ts) (λ (w : Why). IsWhy h w × (ts ≡ why_form h w)) (causes_listed h named ts) (λ w x. may_be h few ts w x.0 x.1) (λ w. both (why_is_decided h w) (same_tokens ts (why_form h w)))

-- the line and the cause found
refused_found : (h : Header) (k : ℕ) (ts : List (List ℕ)) (x : End) → IsFullEnd h x → ts ≡ end_line h k x → (ts ≡ end_line h k Done → ⊥)
    → (w : Why) → (IsWhy h w × (drop 2 ts ≡ why_form h w)) → ((v : Why) → IsWhy h v → why_form h v ≡ why_form h w → v ≡ w) → Refused (number ts 1) w ≡ x
refused_found h k ts Done is e none w found only = absurd (none e)
refused_found h k ts (Refused n v) is e none w found only =
    same_end (number ts 1) n w v (ap (λ r. number r 1) e ∙ value_is n (line_small n is.0)) (sym (only v is.1 (sym (ap (drop 2) e) ∙ found.1)))

no_refused_found : (h : Header) (k : ℕ) (ts : List (List ℕ)) (x : End) → IsFullEnd h x → ts ≡ end_line h k x → (ts ≡ end_line h k Done → ⊥) → ((w : Why) × (IsWhy h w × (drop 2 ts ≡ why_form h w)) → ⊥) → ⊥
no_refused_found h k ts Done is e none lack = none e
no_refused_found h k ts (Refused n v) is e none lack = lack (v, (is.1, ap (drop 2) e))

full_decided : (h : Header) → IsNamed h.quiver → length h.relations < 2 ^ 32 → (k : ℕ) (ts : List (List ℕ)) → Decided ((x : End) × (IsFullEnd h x × (ts ≡ end_line h k x)))
full_decided h named few k ts = elim (same_tokens ts (end_line h k Done)) [
  | inl e ↦ inl (Done, (tt, e))
  | inr none ↦ elim (why_decided h named few (drop 2 ts)) [
    | inl w ↦ by_candidate (IsFullEnd h) (end_line h k) ts (Refused (number ts 1) w.0)
        (λ x is e. refused_found h k ts x is e none w.0 w.1 (λ v fits same. one_why h named few v w.0 fits w.1.0 same)) (both (line_decided (number ts 1)) (inl w.1.0))
    | inr lack ↦ inr (λ (x : (x : End) × (IsFullEnd h x × (ts ≡ end_line h k x))). no_refused_found h k ts x.0 x.1.0 x.1.1 none lack)
  ]
]

limit_found : (h : Header) (ts : List (List ℕ)) (x : End) → IsEmptyEnd x → ts ≡ end_line h 0 x → Refused (number ts 1) (why.PathLimit (number ts 3)) ≡ x
limit_found h ts Done is e = absurd is
limit_found h ts (Refused n w) is e =
    let l = limit_is w is.1 in
    let same = e ∙ ap (λ (v : Why). end_line h 0 (Refused n v)) (sym l.is) in
    same_end (number ts 1) n (why.PathLimit (number ts 3)) w (ap (λ r. number r 1) same ∙ value_is n (line_small n is.0)) (ap why.PathLimit (ap (λ r. number r 3) same ∙ value_is l.count l.small) ∙ l.is)

pub end_decided : (h : Header) → IsNamed h.quiver → length h.relations < 2 ^ 32 → (k : ℕ) (ts : List (List ℕ)) → Decided ((x : End) × (FitsEnd h k x × (ts ≡ end_line h k x)))
end_decided h named few zero ts =
    by_candidate IsEmptyEnd (end_line h 0) ts (Refused (number ts 1) (why.PathLimit (number ts 3))) (limit_found h ts) (both (line_decided (number ts 1)) (below (number ts 3) (2 ^ 64)))
end_decided h named few (suc k) ts = full_decided h named few (suc k) ts
