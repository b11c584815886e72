-- What a name of a vertex or an arrow is: 1 to 16 ASCII letters, digits and underscores.
use Rattle.std.specs.Prelude.{ℕ, ◌<◌, ◌≤◌, List, length, All, IsTrue, Bool, ◌||◌, ◌&&◌, ◌==◌, nat_le}

-- a letter, a digit or `_`
abbrev pub is_name_byte : ℕ → Bool
is_name_byte b =
    (nat_le 97 b && nat_le b 122) || (nat_le 65 b && nat_le b 90) || (nat_le 48 b && nat_le b 57) || (b == 95)

pub record IsName (text : List ℕ) : Type 0 where
  pub some : 0 < length text
  pub short : length text ≤ 16
  pub spelled : All (λ b. IsTrue (is_name_byte b)) text
