use Rattle.std.proofs.Common.{◌<◌, ◌+◌, ℕ, List, [], length, sym, subst}
use Rattle.std.specs.Prelude.{All}
use Rattle.tree_definitions.specs.Tree.{Symbol}
use Rattle.certificate_lines.proofs.Paired.{states_within, no_places}
use Rattle.entry_lines.proofs.Judging.{found_within}
use Rattle.entry_lines.proofs.reader.named_of.Goals as goal

pub judged_of-requires-clause-places : goal.judged_of-requires-clause-places
judged_of-requires-clause-places c =
    let names = c.args.right.now in
    let within : All (λ s. s < length names) c.in-Ok.places.items = states_within names (c.args.at + length c.bytes.result.now + 3) [] c.deref.result.now c.in-Ok.places.items (no_places (length names)) c.in-Ok.ensures in
    subst (λ (xs : List ℕ). All (λ s. s < length c.args.b.now.states) xs) (sym c.deref-2.ensures.value) (subst (λ (names : List (List ℕ)). All (λ s. s < length names) c.in-Ok.places.items) c.requires.right within)

pub judged_of-requires-clause-symbol : goal.judged_of-requires-clause-symbol
judged_of-requires-clause-symbol c =
    subst (λ (xs : List Symbol). c.in-Some-find_called.symbol < length xs) c.requires.symbols
    (found_within c.args.symbols.now c.args.written.name c.len.result c.in-Some-find_called.symbol (sym c.in-Some-find_called.ensures))
