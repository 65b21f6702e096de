-- The connections that a worker has had.
use Rattle.std.specs.Prelude.{◌≡◌, ℕ, List, [], ◌∷◌, ◌++◌, Option, Some, None, ⊤}

-- a connection that was given back: what there was to read of it as it came, what is left of that, what was written, and how many reads and writes failed
pub record Had : Type 0 where
  pub given : List ℕ
  pub left : List ℕ
  pub written : List ℕ
  pub read_faults : ℕ
  pub write_faults : ℕ

-- one more stands behind those that were told: it told what there was to read, what is left of it and what was written
pub record HasOneMore (before now : List Had) (hand : Option (Option (List ℕ))) (left written : Option (List ℕ)) (read_faults write_faults : ℕ) : Type 0 where
  pub last : Had
  pub more : now ≡ before ++ last ∷ []
  pub came : hand ≡ Some (Some last.given)
  pub rest : left ≡ Some last.left
  pub said : written ≡ Some last.written
  pub reads : last.read_faults ≡ read_faults
  pub writes : last.write_faults ≡ write_faults

-- where they are told behind it, the connection in hand is one more of those that were told
abbrev pub GivesBack : Option (List Had) → Option (List Had) → Option (Option (List ℕ)) → Option (List ℕ) → Option (List ℕ) → ℕ → ℕ → Type 0
GivesBack before None hand left written reads writes = ⊤
GivesBack None (Some now) hand left written reads writes = ⊥
GivesBack (Some before) (Some now) hand left written reads writes = HasOneMore before now hand left written reads writes
