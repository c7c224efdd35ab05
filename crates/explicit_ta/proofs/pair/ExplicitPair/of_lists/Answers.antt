use Rattle.std.proofs.Common.{length, ◌∙◌, ap}
use Rattle.explicit_ta.proofs.Unions.{zip_long, joint_parents}
use Rattle.explicit_ta.proofs.UpSteps.{symbols_within}
use Rattle.explicit_ta.proofs.pair.ExplicitPair.of_lists.Goals as goal

pub parts_of-requires-clause-places : goal.parts_of-requires-clause-places
parts_of-requires-clause-places c = ap length c.deref.ensures.value ∙ zip_long c.args.symbols c.args.right.symbols c.args.places.items c.requires.places

pub parts_of-requires-clause-parents : goal.parts_of-requires-clause-parents
parts_of-requires-clause-parents c =
    rw c.deref.ensures.value (joint_parents c.args.left c.args.right c.requires.paired c.args.symbols c.args.places.items c.requires.symbols c.symbols-distinct.ensures.alphabet.distinct c.requires.places)

pub parts_of-requires-clause-symbols : goal.parts_of-requires-clause-symbols
parts_of-requires-clause-symbols c = rw c.deref.ensures.value (symbols_within c.args.right c.requires.paired.right.automaton c.args.symbols c.args.places.items c.requires.places)

pub invariant_of-result : goal.invariant_of-result
invariant_of-result c =
    let parts = rw c.deref.ensures.value at c.in_ok-parts.ensures in
    record {
      paired = c.requires.paired;
      symbols_are = c.requires.symbols;
      placed = c.requires.places;
      rules_of = parts.rules_of;
      left_width = parts.left_width;
      left_are = parts.left_are;
      right_width = parts.right_width;
      right_are = parts.right_are;
      up = parts.up;
    }
