-- Reading a text line by line. What is read so far is called a part. A grammar says by Step how a line extends a part,
-- and by MayEnd where a text may end. Its lines are those of the module Lines, line feeds included.
use Rattle.std.specs.Prelude.{◌≡◌, ℕ, ◌+◌, List, [], ◌∷◌, ◌++◌, length}

-- the lines, one after another, lead from a part to a part
abbrev pub Reads : {Part : Type 0} → (Part → List ℕ → Part → Type 0) → Part → List (List ℕ) → Part → Type 0
Reads Step part [] last = last ≡ part
Reads {Part} Step part (line ∷ rest) last = (next : Part) × Step part line next × Reads Step next rest last

-- the lines lead to a part where the text may end
pub record ReadsWhole {Part : Type 0} (Step : Part → List ℕ → Part → Type 0) (MayEnd : Part → Type 0) (first : Part) (text : List (List ℕ)) (last : Part) : Type 0 where
  pub reads : Reads Step first text last
  pub ends : MayEnd last

-- the first of the lines may not follow the part, or there is none and the text may not end
abbrev pub IsStuck : {Part : Type 0} → (Part → List ℕ → Part → Type 0) → (Part → Type 0) → Part → List (List ℕ) → Type 0
IsStuck Step MayEnd part [] = ¬ MayEnd part
IsStuck {Part} Step MayEnd part (line ∷ rest) = (next : Part) → ¬ Step part line next

-- Line k, counted from 1, is the first bad one: the lines before it are read, and it may not follow them. Where the
-- text ends too early this is the number of lines plus one.
pub record IsFirstBad {Part : Type 0} (Step : Part → List ℕ → Part → Type 0) (MayEnd : Part → Type 0) (first : Part) (text : List (List ℕ)) (k : ℕ) : Type 0 where
  pub front : List (List ℕ)
  pub rest : List (List ℕ)
  pub reached : Part
  pub split : text ≡ front ++ rest
  pub reads : Reads Step first front reached
  pub stuck : IsStuck Step MayEnd reached rest
  pub number : k ≡ length front + 1

-- after a part and a line at most one part follows
abbrev pub IsDetermined : {Part : Type 0} → (Part → List ℕ → Part → Type 0) → Type 0
IsDetermined {Part} Step = (part : Part) (line : List ℕ) (p q : Part) → Step part line p → Step part line q → p ≡ q
