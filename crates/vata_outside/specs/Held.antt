-- Files that are held in memory.
use Rattle.std.specs.Prelude.{◌≡◌, ◌<◌, ℕ, List, [], length, map, drop, Option, None, Some, ⊤, string_bytes}
use Rattle.std.specs.List.{slice_get}
use Rattle.vata_outside.specs.Outside.{File, bytes_of}
use Rattle.vata_outside.specs.declared.held.Held.{Held}

-- a held file as its name and its bytes
abbrev pub file_of : Held → File
file_of h = (string_bytes h.name, h.bytes.items)

-- the file at a place, if there is one
abbrev pub selected_of : List Held → Option ℕ → Option Held
selected_of held None = None
selected_of held (Some i) = slice_get held i

-- the bytes of a file from a place on, and none where there is no file
abbrev pub left_from : ℕ → Option Held → List ℕ
left_from at None = []
left_from at (Some h) = drop at h.bytes.items

-- a place, if there is one, is that of a held file
abbrev pub IsHeldPlace : List Held → Option ℕ → Type 0
IsHeldPlace held None = ⊤
IsHeldPlace held (Some i) = i < length held

-- the place of the first file of that name, if there is one
abbrev pub IsPlace : List Held → List ℕ → Option ℕ → Type 0
IsPlace held name None = bytes_of name (map file_of held) ≡ None
IsPlace held name (Some i) = (h : Held) × (i < length held) × (slice_get held i ≡ Some h) × (bytes_of name (map file_of held) ≡ Some h.bytes.items)
