use Rattle.std.proofs.Common.{◌≡◌, ◌≤◌, true, drop, min}
use Rattle.std.specs.Str.Parse.{digits_value_after, digits_value}
use Rattle.timbuk_definitions.specs.Grammar.{are_digits}
use Rattle.timbuk_text.proofs.tables.rank_of.Given as goal

-- the value goes on from the rank over the digits that are left
abbrev pub invariant-loop-digit : goal.invariant-loop-digit
invariant-loop-digit l = record {
  small : l.rank ≤ 33;
  digits : are_digits (drop l.digit-index l.digits) ≡ true;
  value : min (digits_value_after 10 l.rank (drop l.digit-index l.digits)) 33 ≡ min (digits_value 10 l.digits) 33;
}
