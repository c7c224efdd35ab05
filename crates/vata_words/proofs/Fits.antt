-- What a line asks for lies within the line.
use Rattle.std.proofs.Common.{◌≡◌, ℕ, ◌≤◌, Option, None, Some, IfOk, Bool, true, false, ◌==◌, if◌then◌else◌, arith, lit≤, refl, Err}
use Rattle.std.specs.Prelude.{unwrap_or}
use Rattle.std.proofs.lemmas.Bool.Decides.{nat_tests}
use Rattle.vata_words.specs.Numbers.{IsFrom1To}
use Rattle.vata_words.specs.Commands.{arguments_of}
use Rattle.vata_words.specs.Reading.{IsWithin, HasGoodBudget}
use Rattle.vata_words.specs.Requests.{asked, asked_unless, asked_by, bench_of, budget_in, misplaced, FitsLine}
use Rattle.vata_words.specs.declared.request.WordFault.TheVariants.{FileCount}
use Rattle.vata_words.specs.declared.command.Command.{Command}
use Rattle.vata_words.specs.declared.command.Command.TheVariants.{Load, Union, Isect, Sim, Red, Incl, Bench}
use Rattle.vata_words.specs.declared.settings.Settings.{Settings}
use Rattle.vata_words.specs.declared.given.Given.{Given}

or_usual : (budget : Option ℕ) → IsFrom1To 1000000 budget → (1 ≤ unwrap_or budget 100000) × (unwrap_or budget 100000 ≤ 1000000)
or_usual None good = (lit≤ tt, lit≤ tt)
or_usual (Some n) good = good

budget_fits : (settings : Option (ℕ × Settings)) → HasGoodBudget settings → (1 ≤ budget_in settings) × (budget_in settings ≤ 1000000)
budget_fits None good = (lit≤ tt, lit≤ tt)
budget_fits (Some placed) good = or_usual placed.1.budget good

bench_fits : (given : Given) (count : ℕ) (number : Option ℕ) → IsFrom1To 10000 number → IfOk (bench_of given number) (FitsLine count)
bench_fits given count None good = tt
bench_fits given count (Some n) good = good

asked_fits : (command : Command) (given : Given) (count : ℕ) → IsWithin given count → given.arguments ≡ arguments_of command → IfOk (asked command given) (FitsLine count)
asked_fits Load given count within same = within.2 (omega arith)
asked_fits Union given count within same = (within.2 (omega arith), within.3 (omega arith))
asked_fits Isect given count within same = (within.2 (omega arith), within.3 (omega arith))
asked_fits Sim given count within same = within.2 (omega arith)
asked_fits Red given count within same = within.2 (omega arith)
asked_fits Incl given count within same =
    let budget = budget_fits given.settings within.5 in
    (budget.0, budget.1, within.2 (omega arith), within.3 (omega arith))
asked_fits Bench given count within same = bench_fits given count given.number within.4

counted_fits : (command : Command) (given : Given) (count : ℕ) (same : Bool) → IsWithin given count → (given.arguments == arguments_of command) ≡ same
    → IfOk (if same then asked command given else Err (FileCount given.arguments)) (FitsLine count)
counted_fits command given count true within is = asked_fits command given count within (grind (arith, nat_tests))
counted_fits command given count false within is = tt

unless_fits : (place : Option ℕ) (command : Command) (given : Given) (count : ℕ) → IsWithin given count → IfOk (asked_unless place command given) (FitsLine count)
unless_fits (Some at) command given count within = tt
unless_fits None command given count within = counted_fits command given count (given.arguments == arguments_of command) within refl

-- a request names only words of its line, and its numbers keep within their limits
pub request_fits : (command : Option Command) (given : Given) (count : ℕ) → IsWithin given count → IfOk (asked_by command given) (FitsLine count)
request_fits None given count within = tt
request_fits (Some command) given count within = unless_fits (misplaced command given) command given count within
