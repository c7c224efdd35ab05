-- What a contract sees of the system's files and writers.
use Rattle.std.specs.Prelude.{ℕ, Bool, List, [], Option, None, Some}

-- the count of faults, whether a file is selected, and the bytes left of it, where the file tells them: none where
-- no file is selected
pub record RealState : Type 0 where
  pub faults : ℕ
  pub is_selected : Bool
  pub left : Option (List ℕ)

-- the count of faults, and the bytes that the writer holds, where it tells them
pub record RealWriter : Type 0 where
  pub faults : ℕ
  pub contents : Option (List ℕ)

-- the bytes left of the selected file, by what a file has left
abbrev pub left_of : {F : Type 0} → (F → Option (List ℕ)) → Option F → Option (List ℕ)
left_of remaining None = Some []
left_of remaining (Some file) = remaining file
