-- The lines of what may follow: each is spelled once, it is decided whether tokens spell one, and no token has a space or a line feed.
use Rattle.std.specs.Prelude.{nat_eq}
use Rattle.std.specs.Cmp.Lexicographic.{pointwise}
use Rattle.std.proofs.Common.{◌≡◌, ◌≢◌, ℕ, ◌+◌, ◌*◌, ◌<◌, ◌^◌, true, false, List, [], ◌∷◌, length, get_or, codes, inl, inr, refl, sym, ap, ◌∙◌, subst, true≢false, arith, lit<}
use Rattle.std.proofs.lemmas.Bool.{cases_eq}
use Rattle.fp_linear.specs.Matrix.{PlainMatrix}
use Rattle.quiver_paths.specs.declared.Quiver.{Quiver}
use Rattle.path_algebra.specs.declared.Header.{Header}
use Rattle.text_lines.specs.Parts.{Lacks}
use Rattle.header_text.specs.Named.{IsNamed}
use Rattle.header_text.proofs.Clean.{arrow_name_lacks, vertex_name_lacks}
use Rattle.module_types.specs.Shapes.{HasShape}
use Rattle.object_lines.specs.declared.objects.ModuleHead.{ModuleHead}
use Rattle.object_lines.specs.Spelling.{map_line, at_line}
use Rattle.object_lines.specs.Items.{head_line}
use Rattle.object_lines.proofs.OneLine.{module_one, map_one, at_one}
use Rattle.object_lines.proofs.DecidedLines.{module_decided, map_decided, at_decided}
use Rattle.object_lines.proofs.ClearLines.{StandsOutside, at_clear, module_clear, map_clear}
use Rattle.report_types.specs.declared.claims.PartClaim.{PartClaim}
use Rattle.report_types.specs.declared.reports.End.{End}
use Rattle.report_types.specs.declared.reports.End.TheVariants.{Done, Refused}
use Rattle.report_types.specs.Numbers.{claim_of}
use Rattle.report_types.specs.NamedClaims.{IsLocalClaim}
use Rattle.deciding.proofs.Deciding.{Decided, both, three, like, fails, below, of_each}
use Rattle.claim_lines.specs.declared.heads.Head.{Head}
use Rattle.claim_lines.specs.declared.heads.Head.TheVariants as head
use Rattle.claim_lines.specs.Spelling.{claim_line, end_line}
use Rattle.claim_lines.specs.Items.{FitsClaim}
use Rattle.claim_lines.proofs.Clear.{Outside, ClearLine}
use Rattle.claim_lines.proofs.ClearClaims.{claim_clear}
use Rattle.claim_lines.proofs.ClearEnds.{end_clear}
use Rattle.claim_lines.proofs.DecidedClaims.{one_claim, claim_decided}
use Rattle.claim_lines.proofs.DecidedEnds.{one_end, end_decided}
use Rattle.claim_blocks.proofs.DecidedHeads.{local_decided, lines_decided}
use Rattle.claim_text.specs.declared.part.Owner.{Owner}
use Rattle.claim_text.specs.declared.part.Owner.TheVariants as owner
use Rattle.claim_text.specs.declared.part.Part.{Part}
use Rattle.claim_text.specs.declared.part.Item.{Item}
use Rattle.claim_text.specs.declared.part.Item.TheVariants as item
use Rattle.claim_text.specs.Part.{here, counts_of, name_of, rows_of, columns_of}
use Rattle.claim_text.specs.Steps.{FitsModule, FitsMap, FitsKind, FitsHead, FitsLast, FitsItem, item_line, FitsMatrix}

wide : (n : ℕ) → n < 2 ^ 32 → n < 2 ^ 64
wide n small = let big : 2 ^ 32 < 2 ^ 64 = lit< tt in omega arith

cons_not_nil : (t : List ℕ) (ts : List (List ℕ)) → t ∷ ts ≡ [] → ⊥
cons_not_nil t ts e = cc

-- different words
other_word : (a b : List ℕ) → pointwise nat_eq a a ≡ true → pointwise nat_eq a b ≡ false → a ≡ b → ⊥
other_word a b yes' differs e = true≢false (sym yes' ∙ (ap (pointwise nat_eq a) e ∙ differs))

first_same : (xs ys : List (List ℕ)) → xs ≡ ys → get_or xs 0 [] ≡ get_or ys 0 []
first_same xs ys e = ap (λ l. get_or l 0 []) e

-- what is spelled once and decided, and decided further
narrowed : {X : Type 0} (F G : X → Type 0) (spell : X → List (List ℕ)) (ts : List (List ℕ)) → ((x y : X) → F x → F y → spell x ≡ spell y → x ≡ y) → Decided ((x : X) × (F x × (ts ≡ spell x)))
    → ((x : X) → Decided (G x)) → Decided ((x : X) × (F x × G x × (ts ≡ spell x)))
narrowed F G spell ts one (inr none) each = inr (λ h. none (h.0, (h.1.0, h.1.2)))
narrowed F G spell ts one (inl h) each = elim (each h.0) [
  | inl g ↦ inl (h.0, (h.1.0, g, h.1.1))
  | inr not_g ↦ inr (λ k. not_g (subst G (one k.0 h.0 k.1.0 h.1.0 (sym k.1.2 ∙ h.1.1)) k.1.1))
]

no_item : {X : Type 0} (xs : List X) → Decided (xs ≡ [])
no_item [] = inl refl
no_item {X} (x ∷ xs) = inr (λ e. some x xs e)
  where
    some : {X : Type 0} (x : X) (xs : List X) → x ∷ xs ≡ [] → ⊥
    some x xs e = cc

-- ---- matrices

module _ (p : Part) (o : Owner) where
  abbrev q_name : List ℕ
  q_name = name_of p.front.header.quiver o (length p.matrices)

  abbrev m : ℕ
  m = rows_of p.front.header p.dims (here p) o (length p.matrices)

  abbrev n : ℕ
  n = columns_of p.front.header p.dims (here p) o (length p.matrices)

  pub one_matrix : (x y : PlainMatrix) → FitsMatrix p o x → FitsMatrix p o y → at_line q_name x ≡ at_line q_name y → x ≡ y
  one_matrix x y a b e = at_one q_name p.front.header.field m n x y a.shape b.shape e

  pub matrix_decided : (ts : List (List ℕ)) → Decided ((x : PlainMatrix) × (FitsMatrix p o x × (ts ≡ at_line q_name x)))
  matrix_decided ts =
      let q = p.front.header.field in
      like (λ h. (h.0, (record { shape = h.1.0; entries = h.1.1 }, h.1.2))) (λ h. (h.0, (h.1.0.shape, h.1.0.entries, h.1.1)))
      (narrowed (HasShape q m n) (λ (x : PlainMatrix). x.row_count * x.col_count ≢ 0) (at_line q_name) ts (at_one q_name q m n) (like (λ h. (h.0, (h.1, h.2))) (λ h. (h.0, h.1.0, h.1.1)) (at_decided q_name q m n ts))
      (λ x. fails (cases_eq (x.row_count * x.col_count) 0)))

name_lacks : (c : ℕ) → StandsOutside c → (Q : Quiver) → IsNamed Q → (o : Owner) (i : ℕ) → Lacks c (name_of Q o i)
name_lacks c apart Q named (owner.Module side) i = arrow_name_lacks c apart.out.name Q named i
name_lacks c apart Q named (owner.Map s t) i = vertex_name_lacks c apart.out.name Q named i

pub matrix_clear : (c : ℕ) → Outside c → StandsOutside c → (p : Part) (o : Owner) (x : PlainMatrix) → IsNamed p.front.header.quiver → FitsMatrix p o x
    → ClearLine c (at_line (name_of p.front.header.quiver o (length p.matrices)) x)
matrix_clear c out apart p o x named fits = record {
  some = λ e. cons_not_nil _ _ e;
  lacks = at_clear c apart (name_of p.front.header.quiver o (length p.matrices)) (name_lacks c apart p.front.header.quiver named o (length p.matrices)) p.front.header.field (m p o) (n p o) x fits.shape;
}

-- ---- between whole objects and claims

module _ (p : Part) (named : IsNamed p.front.header.quiver) (few : length p.front.header.relations < 2 ^ 32) where
  abbrev h : Header
  h = p.front.header

  pub one_item : (x y : Item) → FitsItem p x → FitsItem p y → item_line p x ≡ item_line p y → x ≡ y
  one_item (item.Module s ds) (item.Module t es) a b e =
      ap (λ (z : ModuleHead). item.Module z.side z.dims)
      (module_one h ((counts_of p).modules + 1) record { side = s; dims = ds } record { side = t; dims = es } record { counted = a.counted; small = a.small } record { counted = b.counted; small = b.small } e)
  one_item (item.Map s t) (item.Map u v) a b e =
      ap (λ (z : ℕ × ℕ). item.Map z.0 z.1)
      (map_one ((counts_of p).maps + 1) (counts_of p).modules (wide (counts_of p).modules a.few_modules) (s, t) (u, v) record { from = a.named_source; to = a.named_target } record { from = b.named_source; to = b.named_target } e)
  one_item (item.Claim k x) (item.Claim l y) a b e =
      ap (λ (z : ℕ × Head). item.Claim z.0 z.1) (one_claim (length p.records) (counts_of p) a.few_modules a.few_maps (length p.records + 1) (k, x) (l, y) a.claim b.claim e)
  one_item (item.End x) (item.End y) a b e = ap item.End (one_end h named few (length p.records) x y a.ends b.ends e)
  one_item (item.Module s ds) (item.Map u v) a b e = absurd (other_word (codes "module") (codes "map") refl refl (first_same _ _ e))
  one_item (item.Module s ds) (item.Claim l y) a b e = absurd (other_word (codes "module") (codes "claim") refl refl (first_same _ _ e))
  one_item (item.Module s ds) (item.End Done) a b e = absurd (other_word (codes "module") (codes "end") refl refl (first_same _ _ e))
  one_item (item.Module s ds) (item.End (Refused l w)) a b e = absurd (other_word (codes "module") (codes "refused") refl refl (first_same _ _ e))
  one_item (item.Map u v) (item.Module s ds) a b e = absurd (other_word (codes "map") (codes "module") refl refl (first_same _ _ e))
  one_item (item.Map u v) (item.Claim l y) a b e = absurd (other_word (codes "map") (codes "claim") refl refl (first_same _ _ e))
  one_item (item.Map u v) (item.End Done) a b e = absurd (other_word (codes "map") (codes "end") refl refl (first_same _ _ e))
  one_item (item.Map u v) (item.End (Refused l w)) a b e = absurd (other_word (codes "map") (codes "refused") refl refl (first_same _ _ e))
  one_item (item.Claim l y) (item.Module s ds) a b e = absurd (other_word (codes "claim") (codes "module") refl refl (first_same _ _ e))
  one_item (item.Claim l y) (item.Map u v) a b e = absurd (other_word (codes "claim") (codes "map") refl refl (first_same _ _ e))
  one_item (item.Claim l y) (item.End Done) a b e = absurd (other_word (codes "claim") (codes "end") refl refl (first_same _ _ e))
  one_item (item.Claim l y) (item.End (Refused k w)) a b e = absurd (other_word (codes "claim") (codes "refused") refl refl (first_same _ _ e))
  one_item (item.End Done) (item.Module s ds) a b e = absurd (other_word (codes "end") (codes "module") refl refl (first_same _ _ e))
  one_item (item.End Done) (item.Map u v) a b e = absurd (other_word (codes "end") (codes "map") refl refl (first_same _ _ e))
  one_item (item.End Done) (item.Claim l y) a b e = absurd (other_word (codes "end") (codes "claim") refl refl (first_same _ _ e))
  one_item (item.End (Refused k w)) (item.Module s ds) a b e = absurd (other_word (codes "refused") (codes "module") refl refl (first_same _ _ e))
  one_item (item.End (Refused k w)) (item.Map u v) a b e = absurd (other_word (codes "refused") (codes "map") refl refl (first_same _ _ e))
  one_item (item.End (Refused k w)) (item.Claim l y) a b e = absurd (other_word (codes "refused") (codes "claim") refl refl (first_same _ _ e))

  -- ---- decided

  module_item : (ts : List (List ℕ)) → Decided ((x : ModuleHead) × (FitsModule p x.side x.dims × (ts ≡ head_line ((counts_of p).modules + 1) x)))
  module_item ts =
      like (λ g. (g.1.0, (record { behind_basis = g.0.0; no_map = g.0.1; room = g.0.2; counted = g.1.1.counted; small = g.1.1.small }, g.1.2)))
      (λ g. ((g.1.0.behind_basis, g.1.0.no_map, g.1.0.room), (g.0, record { counted = g.1.0.counted; small = g.1.0.small }, g.1.1)))
      (both (three (below 0 (length p.records)) (no_item p.maps) (below ((counts_of p).modules + 1) (2 ^ 32))) (module_decided h ((counts_of p).modules + 1) ts))

  map_item : (ts : List (List ℕ)) → Decided ((x : ℕ × ℕ) × (FitsMap p x.0 x.1 × (ts ≡ map_line ((counts_of p).maps + 1) x.0 x.1)))
  map_item ts = by (three (below 0 (length p.records)) (below (counts_of p).modules (2 ^ 32)) (below ((counts_of p).maps + 1) (2 ^ 32)))
    where
      by : Decided ((0 < length p.records) × ((counts_of p).modules < 2 ^ 32) × ((counts_of p).maps + 1 < 2 ^ 32)) → Decided ((x : ℕ × ℕ) × (FitsMap p x.0 x.1 × (ts ≡ map_line ((counts_of p).maps + 1) x.0 x.1)))
      by (inr bad) = inr (λ g. bad (g.1.0.behind_basis, g.1.0.few_modules, g.1.0.room))
      by (inl ok) =
          like (λ g. (g.0, (record { behind_basis = ok.0; few_modules = ok.1; room = ok.2; named_source = g.1.from; named_target = g.1.to }, g.2)))
          (λ g. (g.0, record { from = g.1.0.named_source; to = g.1.0.named_target }, g.1.1)) (map_decided ((counts_of p).maps + 1) (counts_of p).modules (wide (counts_of p).modules ok.1) ts)

  kind_decided : (x : Head) → Decided (FitsKind p x)
  kind_decided head.Basis = like (λ g. record { first = g.0; no_module = g.1; no_map = g.2 }) (λ g. (g.first, g.no_module, g.no_map)) (three (no_item p.records) (no_item p.modules) (no_item p.maps))
  kind_decided (head.Module a) = below 0 (length p.records)
  kind_decided (head.Map f) = below 0 (length p.records)
  kind_decided (head.Kernel a f i) = below 0 (length p.records)
  kind_decided (head.Cokernel a f i) = below 0 (length p.records)
  kind_decided (head.Radical a b i) = below 0 (length p.records)
  kind_decided (head.Decomposition a s f g parts) =
      both (below 0 (length p.records)) (of_each (λ (x : PartClaim). IsLocalClaim (claim_of p.records x.local)) (λ x. local_decided (claim_of p.records x.local)) parts)
  kind_decided (head.Hom a b count) = both (below 0 (length p.records)) (lines_decided p.front.header (here p) (head.Hom a b count))
  kind_decided (head.Resolution a k) = both (below 0 (length p.records)) (lines_decided p.front.header (here p) (head.Resolution a k))
  kind_decided (head.Ext k a b count c) = both (below 0 (length p.records)) (lines_decided p.front.header (here p) (head.Ext k a b count c))
  kind_decided (head.Local a c) = both (below 0 (length p.records)) (lines_decided p.front.header (here p) (head.Local a c))
  kind_decided (head.Translate which a b c) = both (below 0 (length p.records)) (lines_decided p.front.header (here p) (head.Translate which a b c))
  kind_decided (head.AlmostSplit a e b f g c l) = both (below 0 (length p.records)) (lines_decided p.front.header (here p) (head.AlmostSplit a e b f g c l))

  claim_item : (ts : List (List ℕ)) → Decided ((x : ℕ × Head) × (FitsHead p x.0 x.1 × (ts ≡ claim_line (length p.records + 1) x.0 x.1)))
  claim_item ts = by (both (below (counts_of p).modules (2 ^ 32)) (below (counts_of p).maps (2 ^ 32)))
    where
      by : Decided (((counts_of p).modules < 2 ^ 32) × ((counts_of p).maps < 2 ^ 32)) → Decided ((x : ℕ × Head) × (FitsHead p x.0 x.1 × (ts ≡ claim_line (length p.records + 1) x.0 x.1)))
      by (inr bad) = inr (λ g. bad (g.1.0.few_modules, g.1.0.few_maps))
      by (inl ok) =
          like (λ g. (g.0, (record { few_modules = ok.0; few_maps = ok.1; claim = g.1.0; kind = g.1.1 }, g.1.2))) (λ g. (g.0, (g.1.0.claim, g.1.0.kind, g.1.1)))
          (narrowed (FitsClaim (length p.records) (counts_of p)) (λ (x : ℕ × Head). FitsKind p x.1) (λ (x : ℕ × Head). claim_line (length p.records + 1) x.0 x.1) ts
          (one_claim (length p.records) (counts_of p) ok.0 ok.1 (length p.records + 1)) (claim_decided (length p.records) (counts_of p) ok.0 ok.1 (length p.records + 1) ts)
          (λ x. kind_decided x.1))

  last_item : (ts : List (List ℕ)) → Decided ((x : End) × (FitsLast p x × (ts ≡ end_line h (length p.records) x)))
  last_item ts =
      like (λ g. (g.1.0, (record { few = g.0.0; no_module = g.0.1; no_map = g.0.2; ends = g.1.1.0 }, g.1.1.1))) (λ g. ((g.1.0.few, g.1.0.no_module, g.1.0.no_map), (g.0, (g.1.0.ends, g.1.1))))
      (both (three (below (length p.records) (2 ^ 32)) (no_item p.modules) (no_item p.maps)) (end_decided h named few (length p.records) ts))

  no_form : (ts : List (List ℕ)) → ((x : ModuleHead) × (FitsModule p x.side x.dims × (ts ≡ head_line ((counts_of p).modules + 1) x)) → ⊥)
      → ((x : ℕ × ℕ) × (FitsMap p x.0 x.1 × (ts ≡ map_line ((counts_of p).maps + 1) x.0 x.1)) → ⊥)
      → ((x : ℕ × Head) × (FitsHead p x.0 x.1 × (ts ≡ claim_line (length p.records + 1) x.0 x.1)) → ⊥)
      → ((x : End) × (FitsLast p x × (ts ≡ end_line h (length p.records) x)) → ⊥) → (x : Item) → FitsItem p x × (ts ≡ item_line p x) → ⊥
  no_form ts a b c d (item.Module side dims) g = a (record { side = side; dims = dims }, g)
  no_form ts a b c d (item.Map s t) g = b ((s, t), g)
  no_form ts a b c d (item.Claim l x) g = c ((l, x), g)
  no_form ts a b c d (item.End x) g = d (x, g)

  pub item_decided : (ts : List (List ℕ)) → Decided ((x : Item) × (FitsItem p x × (ts ≡ item_line p x)))
  item_decided ts = by (module_item ts) (map_item ts) (claim_item ts) (last_item ts)
    where
      by : Decided ((x : ModuleHead) × (FitsModule p x.side x.dims × (ts ≡ head_line ((counts_of p).modules + 1) x)))
          → Decided ((x : ℕ × ℕ) × (FitsMap p x.0 x.1 × (ts ≡ map_line ((counts_of p).maps + 1) x.0 x.1)))
          → Decided ((x : ℕ × Head) × (FitsHead p x.0 x.1 × (ts ≡ claim_line (length p.records + 1) x.0 x.1)))
          → Decided ((x : End) × (FitsLast p x × (ts ≡ end_line h (length p.records) x))) → Decided ((x : Item) × (FitsItem p x × (ts ≡ item_line p x)))
      by (inl g) b c d = inl (item.Module g.0.side g.0.dims, g.1)
      by (inr a) (inl g) c d = inl (item.Map g.0.0 g.0.1, g.1)
      by (inr a) (inr b) (inl g) d = inl (item.Claim g.0.0 g.0.1, g.1)
      by (inr a) (inr b) (inr c) (inl g) = inl (item.End g.0, g.1)
      by (inr a) (inr b) (inr c) (inr d) = inr (λ g. no_form ts a b c d g.0 g.1)

pub item_clear : (c : ℕ) → Outside c → StandsOutside c → (p : Part) (x : Item) → IsNamed p.front.header.quiver → length p.front.header.relations < 2 ^ 32 → FitsItem p x → ClearLine c (item_line p x)
item_clear c out apart p (item.Module side dims) named few fits = record {
  some = λ e. cons_not_nil _ _ e;
  lacks = module_clear c apart p.front.header ((counts_of p).modules + 1) (wide ((counts_of p).modules + 1) fits.room) record { side = side; dims = dims } record { counted = fits.counted; small = fits.small };
}
item_clear c out apart p (item.Map s t) named few fits = record {
  some = λ e. cons_not_nil _ _ e;
  lacks = map_clear c apart ((counts_of p).maps + 1) (counts_of p).modules s t (wide ((counts_of p).maps + 1) fits.room) (wide (counts_of p).modules fits.few_modules) record { from = fits.named_source; to = fits.named_target };
}
item_clear c out apart p (item.Claim line x) named few fits = claim_clear c out (length p.records) (counts_of p) fits.few_modules fits.few_maps (line, x) fits.claim
item_clear c out apart p (item.End x) named few fits = end_clear c out p.front.header named few (length p.records) (wide (length p.records) fits.few) x fits.ends
