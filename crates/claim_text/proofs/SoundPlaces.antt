-- What holds of what has been read of a report and of the lines that were read, place by place.
use Rattle.std.proofs.Common.{◌≡◌, ℕ, ◌+◌, ◌<◌, List, [], ◌∷◌, ◌++◌, length, decimal, ap, ◌∙◌, arith}
use Rattle.std.specs.Prelude.{Option, None, Some}
use Rattle.path_algebra.specs.Allowed.{IsAllowed}
use Rattle.header_text.specs.Part.{IsFront, part_lines}
use Rattle.module_types.specs.Shapes.{AreMatrices}
use Rattle.object_lines.specs.Spelling.{at_lines}
use Rattle.report_types.specs.Limits.{IsLine}
use Rattle.report_types.specs.Lawful.{IsReport}
use Rattle.claim_lines.specs.declared.heads.Head.{Head}
use Rattle.claim_lines.specs.Spelling.{title_line, claim_line}
use Rattle.claim_lines.specs.Items.{counted, FitsClaim}
use Rattle.claim_blocks.specs.declared.block.Block.{Block}
use Rattle.claim_blocks.specs.Blocks.{FitsHead as FitsLines}
use Rattle.claim_blocks.proofs.BlockLaws.{IsSoFar}
use Rattle.claim_text.specs.declared.part.Owner.{Owner}
use Rattle.claim_text.specs.declared.part.Owner.TheVariants as owner
use Rattle.claim_text.specs.declared.part.Place.{Place}
use Rattle.claim_text.specs.declared.part.Place.TheVariants as place
use Rattle.claim_text.specs.declared.part.Part.{Part}
use Rattle.claim_text.specs.declared.part.Item.{Item}
use Rattle.claim_text.specs.declared.part.Item.TheVariants as item
use Rattle.claim_text.specs.Spelling.{report_lines}
use Rattle.claim_text.specs.Part.{start, report_of, here, counts_of, name_of, rows_of, columns_of}
use Rattle.claim_text.specs.Steps.{FitsModule, FitsMap, item_line}
use Rattle.claim_text.proofs.Reached.{Lines, head_lines, WordsSound, StepsSound, RulesSound}
use Rattle.claim_text.proofs.SoundObjects.{base_lines, Base, Between}

-- no record, and no object of one, was read
pub record NoObject (p : Part) : Type 0 where
  pub no_record : p.records ≡ []
  pub no_module : p.modules ≡ []
  pub no_map : p.maps ≡ []

-- nothing behind the header was read
pub record IsBare (p : Part) : Type 0 where
  pub no_word : p.words ≡ []
  pub no_step : p.steps ≡ []
  pub no_rule : p.rules ≡ []
  pub none : NoObject p

pub record HeaderSound (p : Part) (ls : Lines) : Type 0 where
  pub front : IsFront p.front
  pub bare : IsBare p
  pub lines : ls ≡ title_line ∷ part_lines p.front

pub record HeadSound (p : Part) (ls : Lines) : Type 0 where
  pub allowed : IsAllowed p.front.header
  pub is_line : IsLine p.line
  pub bare : IsBare p
  pub lines : ls ≡ head_lines p.front.header p.line

pub record AmongWords (p : Part) (n : ℕ) (ls : Lines) : Type 0 where
  pub sound : WordsSound p.front.header p.line p.words n ls
  pub no_step : p.steps ≡ []
  pub no_rule : p.rules ≡ []
  pub none : NoObject p

pub record AmongSteps (p : Part) (n : ℕ) (ls : Lines) : Type 0 where
  pub numeral : List ℕ
  pub counts : counted numeral ≡ n
  pub sound : StepsSound p.front.header p.line p.words p.steps numeral ls
  pub no_rule : p.rules ≡ []
  pub none : NoObject p

pub record AmongRules (p : Part) (n : ℕ) (ls : Lines) : Type 0 where
  pub numeral : List ℕ
  pub counts : counted numeral ≡ n
  pub sound : RulesSound p.front.header p.line p.words p.steps p.rules numeral ls
  pub none : NoObject p

pub record BehindSteps (p : Part) (ls : Lines) : Type 0 where
  pub sound : StepsSound p.front.header p.line p.words p.steps (decimal (length p.steps)) ls
  pub no_rule : p.rules ≡ []
  pub none : NoObject p

-- the first line of an object was read
abbrev pub FitsOwner : Part → Owner → Type 0
FitsOwner p (owner.Module side) = FitsModule p side p.dims
FitsOwner p (owner.Map s t) = FitsMap p s t

abbrev pub item_of : Part → Owner → Item
item_of p (owner.Module side) = item.Module side p.dims
item_of p (owner.Map s t) = item.Map s t

pub record AmongMatrices (p : Part) (o : Owner) (ls : Lines) : Type 0 where
  pub base : Base p.front.header p.records p.modules p.maps
  pub fits : FitsOwner p o
  pub are : AreMatrices p.front.header.field (length p.matrices) (rows_of p.front.header p.dims (here p) o) (columns_of p.front.header p.dims (here p) o) p.matrices
  pub lines : ls ≡ (base_lines p.front.header p.records p.modules p.maps ++ item_line p (item_of p o) ∷ []) ++ at_lines (name_of p.front.header.quiver o) 0 p.matrices

-- among the lines of a claim, so many of which were read
pub record BlockSound (p : Part) (b : Block) (ls : Lines) : Type 0 where
  pub head : Head
  pub fits : FitsLines p.front.header (here p) head
  pub base : Base p.front.header p.records p.modules p.maps
  pub first : FitsClaim (length p.records) (counts_of p) (p.line, head)
  pub more : Lines
  pub so_far : IsSoFar p.front.header (here p) head b more
  pub lines : ls ≡ base_lines p.front.header p.records p.modules p.maps ++ claim_line (length p.records + 1) p.line head ∷ more

abbrev pub AmongLines : Part → Option Block → Lines → Type 0
AmongLines p None ls = ⊥
AmongLines p (Some b) ls = BlockSound p b ls

pub record Whole (p : Part) (ls : Lines) : Type 0 where
  pub is : IsReport (report_of p)
  pub lines : ls ≡ report_lines (report_of p)

unfoldable pub SoundAt : Place → Part → Lines → Type 0
SoundAt place.Title p ls = (p ≡ start) × (ls ≡ [])
SoundAt place.Header p ls = HeaderSound p ls
SoundAt place.WordCount p ls = HeadSound p ls
SoundAt (place.Words n) p ls = AmongWords p n ls
SoundAt place.StepCount p ls = AmongWords p (length p.words) ls
SoundAt (place.Steps n) p ls = AmongSteps p n ls
SoundAt place.RuleCount p ls = BehindSteps p ls
SoundAt (place.Rules n) p ls = AmongRules p n ls
SoundAt place.Between p ls = Between p.front.header p.records p.modules p.maps ls
SoundAt (place.Matrices o) p ls = AmongMatrices p o ls
SoundAt place.Block p ls = AmongLines p p.block ls
SoundAt place.Ended p ls = Whole p ls

abbrev pub Sound : Part → Lines → Type 0
Sound p ls = SoundAt p.place p ls

pub one_more : (ls : Lines) (t u : List (List ℕ)) (ms : Lines) → t ≡ u → ls ≡ ms → ls ++ t ∷ [] ≡ ms ++ u ∷ []
one_more ls t u ms e f = ap (λ x. ls ++ x ∷ []) e ∙ ap (λ l. l ++ u ∷ []) f

pub no_first : (p : Part) → 0 < length p.records → p.records ≡ [] → ⊥
no_first p some e = let n = ap length e in absurd (omega (arith, some, n))
