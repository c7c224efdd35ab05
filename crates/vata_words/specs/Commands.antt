-- The seven commands, and what each takes.
use Rattle.std.specs.Prelude.{ℕ, Bool, true, false, List, codes, bytes_eq, Option, None, Some, if◌then◌else◌, is_none, ◌&&◌}
use Rattle.vata_words.specs.declared.command.Command.{Command}
use Rattle.vata_words.specs.declared.command.Command.TheVariants.{Load, Union, Isect, Sim, Red, Incl, Bench}
use Rattle.vata_words.specs.declared.settings.Settings.{Settings}

-- the command that a word names
abbrev pub command_of : List ℕ → Option Command
command_of word =
    if bytes_eq word (codes "load") then Some Load
    else if bytes_eq word (codes "union") then Some Union
    else if bytes_eq word (codes "isect") then Some Isect
    else if bytes_eq word (codes "sim") then Some Sim
    else if bytes_eq word (codes "red") then Some Red
    else if bytes_eq word (codes "incl") then Some Incl
    else if bytes_eq word (codes "bench") then Some Bench
    else None

-- how many arguments the command takes
abbrev pub arguments_of : Command → ℕ
arguments_of Load = 1
arguments_of Union = 2
arguments_of Isect = 2
arguments_of Sim = 1
arguments_of Red = 1
arguments_of Incl = 2
arguments_of Bench = 1

-- the commands with a trim flag
abbrev pub takes_trim : Command → Bool
takes_trim Load = true
takes_trim Union = true
takes_trim Isect = true
takes_trim Sim = false
takes_trim Red = false
takes_trim Incl = false
takes_trim Bench = false

-- each of these settings is for the command
abbrev pub takes_settings : Command → Settings → Bool
takes_settings Load given = false
takes_settings Union given = false
takes_settings Isect given = false
takes_settings Sim given = is_none given.sim && is_none given.budget
takes_settings Red given = false
takes_settings Incl given = true
takes_settings Bench given = false
