-- How large the terms are that translates are decided for, and the memory that is lent.
use Rattle.std.specs.Prelude.{ℕ, ◌+◌, ◌*◌, List}
use Rattle.quiver_paths.specs.declared.Path.{Path}
use Rattle.path_algebra.specs.declared.Header.{Header}
use Rattle.module_types.specs.declared.Side.{Side}
use Rattle.module_types.specs.declared.TermRows.{TermRows}
use Rattle.module_types.specs.Algebras.{other_side}
use Rattle.claim_conditions.specs.Terms.{vertices_at}
use Rattle.term_rows.specs.SumDims.{sum_dim, IsRoomFor}

-- two rows, a place for each word, and a matrix
abbrev pub translate_room : ℕ → ℕ
translate_room words = 2 * 512 + words + 262144

-- term 0, and what stands on the other side for the terms 0 and 1, has at each vertex a dimension of at most 512
pub record AreSmallAcross (words : List Path) (h : Header) (side : Side) (terms : List TermRows) : Type 0 where
  pub cover : IsRoomFor h (sum_dim words side (vertices_at terms 0)) 512
  pub cover_across : IsRoomFor h (sum_dim words (other_side side) (vertices_at terms 0)) 512
  pub syzygy_across : IsRoomFor h (sum_dim words (other_side side) (vertices_at terms 1)) 512
