-- The list of settings after `-o`.
use Rattle.std.specs.Prelude.{ℕ, ◌≤◌, ⊤, Bool, true, false, ◌==◌, List, [], ◌∷◌, codes, bytes_eq, take, drop, Option, None, Some, is_some, if◌then◌else◌, option_map, option_and_then}
use Rattle.std.specs.List.{slice_split}
use Rattle.vata_words.specs.Numbers.{number_up_to}
use Rattle.vata_words.specs.declared.request.Dir.TheVariants.{Up, Down}
use Rattle.vata_words.specs.declared.settings.Setting.{Setting}
use Rattle.vata_words.specs.declared.settings.Setting.TheVariants.{Direction, Simulation, Budget}
use Rattle.vata_words.specs.declared.settings.Settings.{Settings}

-- `budget=` and a number from 1 to 1,000,000
abbrev pub budget_of : List ℕ → Option Setting
budget_of text = if bytes_eq (take 7 text) (codes "budget=") then option_map Budget (number_up_to 1000000 (drop 7 text)) else None

-- one setting
abbrev pub setting_of : List ℕ → Option Setting
setting_of text =
    if bytes_eq text (codes "dir=up") then Some (Direction Up)
    else if bytes_eq text (codes "dir=down") then Some (Direction Down)
    else if bytes_eq text (codes "sim=yes") then Some (Simulation true)
    else if bytes_eq text (codes "sim=no") then Some (Simulation false)
    else budget_of text

-- a budget is from 1 to 1,000,000
abbrev pub IsGood : Setting → Type 0
IsGood (Direction dir) = ⊤
IsGood (Simulation sim) = ⊤
IsGood (Budget budget) = (1 ≤ budget) × (budget ≤ 1000000)

-- before the first setting
abbrev pub no_settings : Settings
no_settings = record { dir = None; sim = None; budget = None }

-- settings with one more, whose key may not stand among them
abbrev pub with_setting : Settings → Setting → Option Settings
with_setting before (Direction dir) = if is_some before.dir then None else Some (record before { dir = Some dir })
with_setting before (Simulation sim) = if is_some before.sim then None else Some (record before { sim = Some sim })
with_setting before (Budget budget) = if is_some before.budget then None else Some (record before { budget = Some budget })

-- settings with one more in text
abbrev pub with_text : Settings → List ℕ → Option Settings
with_text before text = option_and_then (with_setting before) (setting_of text)

-- settings with more of them in text, one after the other
abbrev pub settings_after : Settings → List (List ℕ) → Option Settings
settings_after before [] = Some before
settings_after before (text ∷ texts) = option_and_then (λ now. settings_after now texts) (with_text before text)

-- `,`
abbrev pub is_comma : ℕ → Bool
is_comma byte = byte == 44

-- the settings that a word parts by commas
abbrev pub settings_of : List ℕ → Option Settings
settings_of word = settings_after no_settings (slice_split is_comma word)

-- the pieces of what is left of a list, if anything is
abbrev pub pieces_left : Option (List ℕ) → List (List ℕ)
pieces_left None = []
pieces_left (Some text) = slice_split is_comma text
