-- Which bytes are a name.
use Rattle.std.specs.Prelude.{ℕ, Bool, false, ◌&&◌, ◌||◌, not, List, [], ◌∷◌, codes, IsTrue, ◌==◌, nat_le, length, nat_eq}
use Rattle.std.specs.List.{list_all, starts_with}
use Rattle.std.specs.Str.{bytes_eq}

-- a byte that may stand in a word: from ! to ~, and none of ( ) , :
abbrev pub is_name_byte : ℕ → Bool
is_name_byte b = nat_le 33 b && nat_le b 126 && not (b == 40) && not (b == 41) && not (b == 44) && not (b == 58)

-- the arrow -> stands somewhere in the bytes
abbrev pub has_arrow : List ℕ → Bool
has_arrow [] = false
has_arrow (b ∷ rest) = starts_with nat_eq (b ∷ rest) (codes "->") || has_arrow rest

-- a word that opens a section of a file
unfoldable pub is_section_word : List ℕ → Bool
is_section_word bs = bytes_eq bs (codes "Ops") || bytes_eq bs (codes "Automaton") || bytes_eq bs (codes "States") || bytes_eq bs (codes "Final") || bytes_eq bs (codes "Transitions")

-- at least one byte, each that of a word, with no arrow, and no section word
abbrev pub is_name : List ℕ → Bool
is_name bs = not (length bs == 0) && list_all is_name_byte bs && not (has_arrow bs) && not (is_section_word bs)

-- the bytes are a name
abbrev pub IsName : List ℕ → Type 0
IsName bs = IsTrue (is_name bs)
