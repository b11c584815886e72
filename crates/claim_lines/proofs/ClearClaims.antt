-- No token of a claim's first line has a space or a line feed.
use Rattle.std.proofs.Common.{◌≡◌, ℕ, ◌+◌, ◌<◌, ◌≤◌, ◌^◌, true, List, [], ◌∷◌, codes, decimal, refl, arith, lit<, lit≤}
use Rattle.std.specs.Prelude.{All}
use Rattle.std.specs.List.{list_all}
use Rattle.std.proofs.lemmas.List.Elements.{All-head, All-tail}
use Rattle.quiver_paths.specs.Name.{is_name_byte}
use Rattle.path_algebra.specs.Derivations.{IsNumber}
use Rattle.text_lines.specs.Parts.{Lacks}
use Rattle.report_types.specs.declared.claims.PartClaim.{PartClaim}
use Rattle.report_types.specs.declared.claims.Translation.TheVariants.{Tau, Transpose, Taui}
use Rattle.claim_lines.specs.declared.heads.Counts.{Counts}
use Rattle.claim_lines.specs.declared.heads.Head.{Head}
use Rattle.claim_lines.specs.declared.heads.Head.TheVariants as head
use Rattle.claim_lines.specs.Spelling.{parts_form, head_form, claim_line}
use Rattle.claim_lines.specs.Items.{ArePartNumbers, AreNumbers, FitsClaim}
use Rattle.claim_lines.proofs.Tokens.{line_small, small, few_small}
use Rattle.claim_lines.proofs.HeadReading.{AreFew}
use Rattle.claim_lines.proofs.DecidedClaims.{few_at}
use Rattle.claim_lines.proofs.Clear.{Outside, ClearLine, word_lacks, number_lacks, nothing, more, line}

module _ (c : ℕ) (o : Outside c) where
  -- no token has the byte
  pub record Clears (ts : List (List ℕ)) : Type 0 where
    pub all : All (Lacks c) ts

  pub done : Clears []
  done = record { all = nothing c o }

  pub any : (t : List ℕ) (ts : List (List ℕ)) → Lacks c t → Clears ts → Clears (t ∷ ts)
  any t ts a rest = record { all = more c o t ts a rest.all }

  pub word : (w : List ℕ) (ts : List (List ℕ)) → list_all is_name_byte w ≡ true → Clears ts → Clears (w ∷ ts)
  word w ts e rest = any w ts (word_lacks c o w e) rest

  pub wide : (n : ℕ) (ts : List (List ℕ)) → n < 2 ^ 64 → Clears ts → Clears (decimal n ∷ ts)
  wide n ts a rest = any (decimal n) ts (number_lacks c o n a) rest

  number : (last n : ℕ) (ts : List (List ℕ)) → last < 2 ^ 32 → IsNumber last n → Clears ts → Clears (decimal n ∷ ts)
  number last n ts a is rest = wide n ts (small last n a is) rest

  count : (most n : ℕ) (ts : List (List ℕ)) → n ≤ most → most ≤ 4096 → Clears ts → Clears (decimal n ∷ ts)
  count most n ts a b rest = wide n ts (few_small n most a b) rest

  pub of_line : (w : List ℕ) (ts : List (List ℕ)) → list_all is_name_byte w ≡ true → Clears ts → ClearLine c (w ∷ ts)
  of_line w ts e rest = line c o w ts (word_lacks c o w e) rest.all

  using_one : (k n : ℕ) → k < 2 ^ 32 → IsNumber k n → Clears (codes "using" ∷ decimal n ∷ [])
  using_one k n a is = word (codes "using") _ refl (number k n _ a is done)

  parts_clear : (k m : ℕ) → k < 2 ^ 32 → m < 2 ^ 32 → (ps : List PartClaim) → All (ArePartNumbers k m) ps → Clears (parts_form ps)
  parts_clear k m a b [] are = done
  parts_clear k m a b (p ∷ ps) are =
      let is = All-head (ArePartNumbers k m) p ps are in
      number m p.module _ b is.is_module (number k p.local _ a is.named (parts_clear k m a b ps (All-tail (ArePartNumbers k m) p ps are)))

  three_numbers : (m n l x y z : ℕ) → m < 2 ^ 32 → n < 2 ^ 32 → l < 2 ^ 32 → IsNumber m x → IsNumber n y → IsNumber l z → Clears (decimal x ∷ decimal y ∷ decimal z ∷ [])
  three_numbers m n l x y z a b d p q r = number m x _ a p (number n y _ b q (number l z _ d r done))

  head_clear : (k m f : ℕ) → AreFew k m f → (x : Head) → AreNumbers k m f x → Clears (head_form x)
  head_clear k m f few head.Basis is = word (codes "basis") _ refl done
  head_clear k m f few (head.Module n) is = word (codes "module") _ refl (number m n _ few.few_modules is done)
  head_clear k m f few (head.Map n) is = word (codes "map") _ refl (number f n _ few.few_maps is done)
  head_clear k m f few (head.Hom a b n) is = word (codes "hom") _ refl (number m a _ few.few_modules is.0 (number m b _ few.few_modules is.1 (count 1024 n _ is.2 (lit≤ tt) done)))
  head_clear k m f few (head.Kernel n g i) is = word (codes "kernel") _ refl (three_numbers m f f n g i few.few_modules few.few_maps few.few_maps is.0 is.1 is.2)
  head_clear k m f few (head.Cokernel n g i) is = word (codes "cokernel") _ refl (three_numbers m f f n g i few.few_modules few.few_maps few.few_maps is.0 is.1 is.2)
  head_clear k m f few (head.Radical n a i) is = word (codes "radical") _ refl (three_numbers m m f n a i few.few_modules few.few_modules few.few_maps is.0 is.1 is.2)
  head_clear k m f few (head.Resolution a n) is = word (codes "resolution") _ refl (number m a _ few.few_modules is.0 (count 16 n _ is.1 (lit≤ tt) done))
  head_clear k m f few (head.Ext n a b rows r) is =
      word (codes "ext") _ refl (count 16 n _ (let low = is.0 in omega arith) (lit≤ tt)
      (number m a _ few.few_modules is.1 (number m b _ few.few_modules is.2 (count 1024 rows _ is.3 (lit≤ tt) (using_one k r few.few_claims is.4)))))
  head_clear k m f few (head.Local n r) is = word (codes "local") _ refl (number m n _ few.few_modules is.0 (using_one k r few.few_claims is.1))
  head_clear k m f few (head.Decomposition a s g h ps) is =
      word (codes "decomposition") _ refl (number m a _ few.few_modules is.0 (number m s _ few.few_modules is.1
      (number f g _ few.few_maps is.2 (number f h _ few.few_maps is.3 (word (codes "parts") _ refl (parts_clear k m few.few_claims few.few_modules ps is.4))))))
  head_clear k m f few (head.Translate Tau n a r) is =
      word (codes "tau") _ refl (number m n _ few.few_modules is.1 (number m a _ few.few_modules is.2 (using_one k r few.few_claims is.3)))
  head_clear k m f few (head.Translate Transpose n a r) is =
      word (codes "transpose") _ refl (number m n _ few.few_modules is.1 (number m a _ few.few_modules is.2 (using_one k r few.few_claims is.3)))
  head_clear k m f few (head.Translate (Taui b) n a r) is =
      word (codes "taui") _ refl (number m n _ few.few_modules is.1 (number m a _ few.few_modules is.2 (number m b _ few.few_modules is.0 (using_one k r few.few_claims is.3))))
  head_clear k m f few (head.AlmostSplit n e a g h r l) is =
      word (codes "almostsplit") _ refl (number m n _ few.few_modules is.0 (number m e _ few.few_modules is.1 (number m a _ few.few_modules is.2
      (number f g _ few.few_maps is.3 (number f h _ few.few_maps is.4 (word (codes "using") _ refl (number k r _ few.few_claims is.5 (number k l _ few.few_claims is.6 done))))))))

  pub claim_clear : (earlier : ℕ) (counts : Counts) → counts.modules < 2 ^ 32 → counts.maps < 2 ^ 32 → (x : ℕ × Head) → FitsClaim earlier counts x → ClearLine c (claim_line (earlier + 1) x.0 x.1)
  claim_clear earlier counts a b x fits =
      let room = fits.room in
      let big : 2 ^ 32 < 2 ^ 64 = lit< tt in
      of_line (codes "claim") _ refl (wide (earlier + 1) _ (omega arith) (word (codes "line") _ refl (wide x.0 _ (line_small x.0 fits.is_line)
      (head_clear earlier counts.modules counts.maps (few_at earlier counts a b x fits) x.1 fits.numbers))))
