-- No token of a last line has a space or a line feed.
use Rattle.std.proofs.Common.{ℕ, ◌<◌, ◌^◌, zero, suc, List, [], ◌∷◌, ◌++◌, length, codes, decimal, refl, lit≤}
use Rattle.quiver_paths.specs.declared.names.Suffix.{Suffix}
use Rattle.quiver_paths.specs.declared.names.Suffix.TheVariants as suffix
use Rattle.path_algebra.specs.declared.Header.{Header}
use Rattle.text_lines.specs.Parts.{Lacks}
use Rattle.header_text.specs.Spelling.{arrow_name, path_text}
use Rattle.header_text.specs.Named.{IsNamed}
use Rattle.header_text.proofs.Clean.{name_lacks, arrow_name_lacks, lacks_append, lacks_cons}
use Rattle.report_types.specs.declared.reports.End.{End}
use Rattle.report_types.specs.declared.reports.End.TheVariants.{Done, Refused}
use Rattle.report_types.specs.declared.reports.Why.{Why}
use Rattle.report_types.specs.declared.reports.Why.TheVariants as why
use Rattle.report_types.specs.Ends.{IsToken, IsWhy, IsFullEnd, IsEmptyEnd, IsPathLimit}
use Rattle.claim_lines.specs.Spelling.{suffix_text, reference_text, why_form, end_line}
use Rattle.claim_lines.specs.Items.{FitsEnd}
use Rattle.claim_lines.proofs.Tokens.{line_small, small, few_small}
use Rattle.claim_lines.proofs.ReferenceReading.{part_small}
use Rattle.claim_lines.proofs.Clear.{Outside, ClearLine, word_lacks, number_lacks, path_clear}
use Rattle.claim_lines.proofs.ClearClaims.{Clears, done, any, word, wide, of_line}

module _ (c : ℕ) (o : Outside c) where
  token_lacks : (n : List ℕ) (v : Suffix) → IsToken n v → Lacks c (n ++ suffix_text v)
  token_lacks n suffix.Whole is = lacks_append c n [] (name_lacks c o.out.name n is) (word_lacks c o [] refl)
  token_lacks n suffix.Map is = lacks_append c n (codes ".map") (name_lacks c o.out.name n is.name) (lacks_cons c 46 (codes "map") o.out.dot (word_lacks c o (codes "map") refl))
  token_lacks n suffix.Inv is = lacks_append c n (codes ".inv") (name_lacks c o.out.name n is.name) (lacks_cons c 46 (codes "inv") o.out.dot (word_lacks c o (codes "inv") refl))
  token_lacks n (suffix.Part k) is =
      lacks_append c n (46 ∷ decimal k) (name_lacks c o.out.name n is.0.name) (lacks_cons c 46 (decimal k) o.out.dot (number_lacks c o k (part_small k is.1)))

  why_clear : (h : Header) → IsNamed h.quiver → length h.relations < 2 ^ 32 → (w : Why) → IsWhy h w → Clears c o (why_form h w)
  why_clear h named few why.NotBuilt is = word c o (codes "NotBuilt") _ refl (done c o)
  why_clear h named few (why.UnknownName t) is = word c o (codes "UnknownName") _ refl (any c o (reference_text t) _ (token_lacks t.name t.suffix is) (done c o))
  why_clear h named few (why.NameTaken n) is = word c o (codes "NameTaken") _ refl (any c o n _ (name_lacks c o.out.name n is.name) (done c o))
  why_clear h named few why.Side is = word c o (codes "Side") _ refl (done c o)
  why_clear h named few why.Shape is = word c o (codes "Shape") _ refl (done c o)
  why_clear h named few (why.RelationFails r) is = word c o (codes "RelationFails") _ refl (wide c o r _ (small _ r few is) (done c o))
  why_clear h named few (why.BoundFails p) is = word c o (codes "BoundFails") _ refl (any c o (path_text h.quiver p) _ (path_clear c o h.quiver named p) (done c o))
  why_clear h named few (why.NotHom a) is = word c o (codes "NotHom") _ refl (any c o (arrow_name h.quiver a) _ (arrow_name_lacks c o.out.name h.quiver named a) (done c o))
  why_clear h named few (why.PathLimit n) is = absurd is
  why_clear h named few (why.DimLimit n) is = word c o (codes "DimLimit") _ refl (wide c o n _ is (done c o))
  why_clear h named few (why.HomLimit n) is = word c o (codes "HomLimit") _ refl (wide c o n _ is (done c o))
  why_clear h named few (why.TermLimit s n) is = word c o (codes "TermLimit") _ refl (wide c o s _ (few_small s 16 is.0 (lit≤ tt)) (wide c o n _ is.1 (done c o)))
  why_clear h named few (why.DualLimit s n) is = word c o (codes "DualLimit") _ refl (wide c o s _ (few_small s 16 is.0 (lit≤ tt)) (wide c o n _ is.1 (done c o)))
  why_clear h named few why.Zero is = word c o (codes "Zero") _ refl (done c o)
  why_clear h named few why.Decomposable is = word c o (codes "Decomposable") _ refl (done c o)
  why_clear h named few why.Projective is = word c o (codes "Projective") _ refl (done c o)

  limit_clear : (h : Header) (w : Why) → IsPathLimit w → Clears c o (why_form h w)
  limit_clear h why.NotBuilt is = absurd is
  limit_clear h (why.UnknownName t) is = absurd is
  limit_clear h (why.NameTaken n) is = absurd is
  limit_clear h why.Side is = absurd is
  limit_clear h why.Shape is = absurd is
  limit_clear h (why.RelationFails r) is = absurd is
  limit_clear h (why.BoundFails p) is = absurd is
  limit_clear h (why.NotHom a) is = absurd is
  limit_clear h (why.PathLimit n) is = word c o (codes "PathLimit") _ refl (wide c o n _ is (done c o))
  limit_clear h (why.DimLimit n) is = absurd is
  limit_clear h (why.HomLimit n) is = absurd is
  limit_clear h (why.TermLimit s n) is = absurd is
  limit_clear h (why.DualLimit s n) is = absurd is
  limit_clear h why.Zero is = absurd is
  limit_clear h why.Decomposable is = absurd is
  limit_clear h why.Projective is = absurd is

  pub full_end_clear : (h : Header) → IsNamed h.quiver → length h.relations < 2 ^ 32 → (k : ℕ) → k < 2 ^ 64 → (x : End) → IsFullEnd h x → ClearLine c (end_line h k x)
  full_end_clear h named few k b Done is = of_line c o (codes "end") _ refl (wide c o k _ b (done c o))
  full_end_clear h named few k b (Refused n w) is = of_line c o (codes "refused") _ refl (wide c o n _ (line_small n is.0) (why_clear h named few w is.1))

  pub empty_end_clear : (h : Header) (k : ℕ) (x : End) → IsEmptyEnd x → ClearLine c (end_line h k x)
  empty_end_clear h k Done is = absurd is
  empty_end_clear h k (Refused n w) is = of_line c o (codes "refused") _ refl (wide c o n _ (line_small n is.0) (limit_clear h w is.1))

  pub end_clear : (h : Header) → IsNamed h.quiver → length h.relations < 2 ^ 32 → (k : ℕ) → k < 2 ^ 64 → (x : End) → FitsEnd h k x → ClearLine c (end_line h k x)
  end_clear h named few zero b x is = empty_end_clear h 0 x is
  end_clear h named few (suc k) b x is = full_end_clear h named few (suc k) b x is
