use Rattle.std.proofs.Common.{◌≡◌, ◌+◌, drop}
use Rattle.std.specs.Prelude.{[]}
use Rattle.certificate_lines.specs.Pairs.{states_in}
use Rattle.certificate_lines.specs.Telling.{span}
use Rattle.certificate_lines.proofs.pairs.places_of.Given as goal

-- what is said of the names from this one on is said of all
abbrev pub invariant-loop-name : goal.invariant-loop-name
invariant-loop-name l = record {
  same : states_in l.states l.at l.places.items (drop l.name-index l.names) ≡ states_in l.states l.fn.from [] l.names;
  within : l.at + span (drop l.name-index l.names) ≡ l.fn.from + span l.names;
}
