use Rattle.std.proofs.Common.{◌≡◌, ◌↔◌, ℕ, List, ap, ◌∙◌, subst}
use Rattle.std.specs.Prelude.{Contains, IsTrue}
use Rattle.std.specs.List.{AllZip}
use Rattle.tree_definitions.specs.Automaton.{Rule}
use Rattle.tree_definitions.specs.Cover.{Pair}
use Rattle.tree_definitions.specs.UpTrail.{UpEntry}
use Rattle.up_conditions.specs.Trailing.{HasStateAt}
use Rattle.up_conditions.proofs.Named.{same_states}
use Rattle.up_conditions.proofs.entry_steps.has_rule.Goals as goal

pub returns : goal.returns
returns c states zip =
    let entries = c.args.entries.now in
    let entry = c.args.entry.now in
    let rules = c.args.rules.now in
    let listed = c.as_slice.result.now in
    let named : listed ≡ entry.kids = c.as_slice.ensures.value ∙ ap (λ (e : UpEntry). e.kids) c.entry.view_is in
    let found = c.in_ok-kids.kids.items in
    let same : found ≡ states = same_states entries entry.kids found states (subst (λ (ks : List ℕ). AllZip (HasStateAt entries) ks found) named c.in_ok-kids.ensures) zip in
    let symbol : c.entry.inside.symbol ≡ entry.symbol = ap (λ (e : UpEntry). e.symbol) c.entry.view_is in
    let parent : c.pair.inside.state ≡ entry.pair.state = ap (λ (o : Pair). o.state) (c.pair.view_is ∙ c.pair_of-pair.ensures) in
    let line : record { symbol = c.entry.inside.symbol; kids = found; parent = c.pair.inside.state } ≡ record { symbol = entry.symbol; kids = states; parent = entry.pair.state } =
    ap (λ n. record { symbol = n; kids = found; parent = c.pair.inside.state }) symbol ∙ ap (λ (ks : List ℕ). record { symbol = entry.symbol; kids = ks; parent = c.pair.inside.state }) same
    ∙ ap (λ n. record { symbol = entry.symbol; kids = states; parent = n }) parent in
    subst (λ (r : Rule). IsTrue c.has.result ↔ Contains rules r) line c.has.ensures
