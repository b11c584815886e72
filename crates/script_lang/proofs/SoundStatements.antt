-- The statements that were read so far: such as the grammar allows, in the order of their lines.
use Rattle.std.proofs.Common.{◌≡◌, ℕ, ◌<◌, ◌≤◌, List, [], ◌∷◌, ◌++◌, All, IsTrue, true, false, sym, true≢false, arith}
use Rattle.std.specs.Prelude.{AllPairs}
use Rattle.std.proofs.lemmas.List.Elements.{All-nil, All-push, All-weaker}
use Rattle.std.proofs.lemmas.List.Quantifiers.{all_pairs_push}
use Rattle.linear_algebra.specs.Field.{Gf}
use Rattle.path_algebra.specs.Allowed.{IsArrowName}
use Rattle.script_types.specs.declared.AtLine.{AtLine}
use Rattle.script_types.specs.declared.Statement.{Statement}
use Rattle.script_types.specs.declared.StatementKind.{StatementKind}
use Rattle.script_types.specs.declared.StatementKind.TheVariants.{Rep, Std, Sum, Map, Kernel, Cokernel, Radical, Dual, Hom, Resolve, Ext, Decompose, Transpose, Tau, Taui, Ars}
use Rattle.script_lang.specs.Parts.{kind_takes, kind_with}
use Rattle.script_types.specs.Ranges.{IsAtLine, IsStatement}

-- statements over a field, their lines ascending behind `low` and up to `high`
pub record AreSound (f : Gf) (low high : ℕ) (ss : List Statement) : Type 0 where
  pub behind : All (λ (t : Statement). low < t.line) ss
  pub limit : All (λ (t : Statement). t.line ≤ high) ss
  pub ascending : AllPairs (λ (t u : Statement). t.line < u.line) ss
  pub kinds : All (λ (t : Statement). IsStatement f t.kind) ss

-- a statement that may stand behind them
pub record IsNext (f : Gf) (low high : ℕ) (ss : List Statement) (s : Statement) : Type 0 where
  pub behind : low < s.line
  pub limit : s.line ≤ high
  pub last : All (λ (t : Statement). t.line < s.line) ss
  pub kind : IsStatement f s.kind

pub sound_none : (f : Gf) (low high : ℕ) → AreSound f low high []
sound_none f low high = record {
  behind = All-nil (λ (t : Statement). low < t.line);
  limit = All-nil (λ (t : Statement). t.line ≤ high);
  ascending = λ i j d a b. absurd (omega (arith, b));
  kinds = All-nil (λ (t : Statement). IsStatement f t.kind);
}

pub sound_further : (f : Gf) (low high more : ℕ) (ss : List Statement) → high ≤ more → AreSound f low high ss → AreSound f low more ss
sound_further f low high more ss le are = record {
  behind = are.behind;
  limit = All-weaker (λ (t : Statement). t.line ≤ high) (λ (t : Statement). t.line ≤ more) (λ t l. omega arith) ss are.limit;
  ascending = are.ascending;
  kinds = are.kinds;
}

pub next_further : (f : Gf) (low high more : ℕ) (ss : List Statement) (s : Statement) → high ≤ more → IsNext f low high ss s → IsNext f low more ss s
next_further f low high more ss s le is = let l = is.limit in record { behind = is.behind; limit = omega arith; last = is.last; kind = is.kind }

-- a statement at a line behind all
pub next_here : (f : Gf) (low high n : ℕ) (ss : List Statement) (k : StatementKind) → low < n → high < n → AreSound f low high ss → IsStatement f k → IsNext f low n ss (record { line = n; kind = k })
next_here f low high n ss k a b are is = record {
  behind = a;
  limit = omega arith;
  last = All-weaker (λ (t : Statement). t.line ≤ high) (λ (t : Statement). t.line < n) (λ t l. omega arith) ss are.limit;
  kind = is;
}

pub sound_push : (f : Gf) (low high : ℕ) (ss : List Statement) (s : Statement) → AreSound f low high ss → IsNext f low high ss s → AreSound f low high (ss ++ s ∷ [])
sound_push f low high ss s are is = record {
  behind = All-push (λ (t : Statement). low < t.line) ss s are.behind is.behind;
  limit = All-push (λ (t : Statement). t.line ≤ high) ss s are.limit is.limit;
  ascending = all_pairs_push (λ (t u : Statement). t.line < u.line) ss s are.ascending (λ k d less. is.last k d less);
  kinds = All-push (λ (t : Statement). IsStatement f t.kind) ss s are.kinds is.kind;
}

never : {X : Type 0} → false ≡ true → X
never h = absurd (true≢false (sym h))

-- a statement with a line `at` more
pub kind_with_fits : (f : Gf) (k : StatementKind) (l : AtLine) → IsTrue (kind_takes k l) → IsAtLine f l → IsStatement f k → IsStatement f (kind_with k l)
kind_with_fits f (Rep name dims lines) l takes at k = record {
  name_is = k.name_is;
  some = k.some;
  dims_are = k.dims_are;
  lines_are = All-push (IsAtLine f) lines l k.lines_are at;
  at_arrows = All-push (λ (m : AtLine). IsArrowName m.name) lines l k.at_arrows (record { name = at.name; letter = takes });
}
kind_with_fits f (Map name a b lines) l takes at k = (k.0, k.1, All-push (IsAtLine f) lines l k.2 at)
kind_with_fits f (Std name which vertex) l takes at k = never takes
kind_with_fits f (Sum name a b) l takes at k = never takes
kind_with_fits f (Kernel name a) l takes at k = never takes
kind_with_fits f (Cokernel name a) l takes at k = never takes
kind_with_fits f (Radical name a) l takes at k = never takes
kind_with_fits f (Dual name a) l takes at k = never takes
kind_with_fits f (Hom a b) l takes at k = never takes
kind_with_fits f (Resolve a n) l takes at k = never takes
kind_with_fits f (Ext n a b) l takes at k = never takes
kind_with_fits f (Decompose a name) l takes at k = never takes
kind_with_fits f (Transpose name a) l takes at k = never takes
kind_with_fits f (Tau name a) l takes at k = never takes
kind_with_fits f (Taui name a) l takes at k = never takes
kind_with_fits f (Ars a left middle) l takes at k = never takes
