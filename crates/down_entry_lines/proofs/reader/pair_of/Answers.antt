use Rattle.std.proofs.Common.{◌≡◌, ◌<◌, ◌+◌, ℕ, List, [], length, sym, ap, ◌∙◌, subst}
use Rattle.std.specs.Prelude.{All}
use Rattle.std.specs.Str.{bytes_eq}
use Rattle.std.proofs.lemmas.List.Quantifiers.{position-Some}
use Rattle.certificate_lines.proofs.Paired.{states_within, no_places}
use Rattle.certificate_lines.proofs.Sets.{with_length}
use Rattle.down_entry_lines.proofs.reader.pair_of.Goals as goal

pub set_of-requires : goal.set_of-requires
set_of-requires c =
    let names = c.args.right.now in
    let within : All (λ s. s < length names) c.in-Ok.places.items = states_within names (c.args.at + 5 + length c.bytes.result.now + 3) [] c.args.members.now c.in-Ok.places.items (no_places (length names)) c.in-Ok.ensures in
    let size : length names ≡ length c.states.result.now = ap length (c.requires.right ∙ sym c.states.ensures.value) in
    subst (λ (xs : List ℕ). All (λ s. s < length c.states.result.now) xs) (sym c.deref.ensures.value) (subst (λ n. All (λ s. s < n) c.in-Ok.places.items) size within)

pub returns-clause-fits : goal.returns-clause-fits
returns-clause-fits c = record {
  state = subst (λ (xs : List (List ℕ)). c.in-Some.q < length xs) c.requires.left (position-Some (bytes_eq c.args.state.now) c.args.left.now c.in-Some.q c.args.state.now (sym c.in-Some.ensures)).0;
  set = ap length c.in-Ok-set_of.ensures ∙ with_length (length c.states.result.now) c.deref.result.now ∙ ap length c.states.ensures.value;
}
