use Rattle.std.proofs.Common.{◌≡◌, ◌-◌, ℕ, List, length, map, ap, sym, ◌∙◌}
use Rattle.witness_trees.specs.Judged.{place_in, Verdict, Is}
use Rattle.tree_definitions.specs.Witness.{NodeRow}
use Rattle.witness_trees.specs.Views.{line_view}
use Rattle.witness_trees.proofs.Lines.{line_refused, node_judged, named_unknown, named_bad, named_right}
use Rattle.witness_trees.proofs.reader.node_of.Goals as goal

pub returns-in-Err : goal.returns-in-Err
returns-in-Err c = line_refused line_view c.args.symbols.now c.args.k c.args.at c.args.line.now c.in-Err.error c.in-Err.ensures.spelled

pub returns-in_default : goal.returns-in_default
returns-in_default c =
    let l = line_view c.in-Ok.line in
    let count : c.len.result ≡ length c.in-Ok.line.kids.items = c.len.ensures ∙ c.in-Ok.line.kids.ok.0 in
    node_judged c.args.symbols.now c.args.k c.args.at c.args.line.now l c.requires.node c.in-Ok.ensures.spelled
    ∙ named_unknown c.args.k c.args.at l _ (ap (place_in c.args.symbols.now c.in-Ok.line.name) (sym count) ∙ sym c.find_called.ensures ∙ c.in_default.is)

pub returns-then-not-in_order : goal.returns-then-not-in_order
returns-then-not-in_order c =
    let l = line_view c.in-Ok.line in
    let count : c.len.result ≡ length c.in-Ok.line.kids.items = c.len.ensures ∙ c.in-Ok.line.kids.ok.0 in
    node_judged c.args.symbols.now c.args.k c.args.at c.args.line.now l c.requires.node c.in-Ok.ensures.spelled
    ∙ named_bad c.args.k c.args.at c.in-Some.symbol l _ (ap (place_in c.args.symbols.now c.in-Ok.line.name) (sym count) ∙ sym c.find_called.ensures ∙ c.in-Some.is) (sym c.are_in_order-in_order.ensures ∙ c.if-not-in_order.true)

pub returns-in-Ok-places_from : goal.returns-in-Ok-places_from
returns-in-Ok-places_from c =
    let l = line_view c.in-Ok.line in
    let count : c.len.result ≡ length c.in-Ok.line.kids.items = c.len.ensures ∙ c.in-Ok.line.kids.ok.0 in
    let kids : map (λ n. n - 1) c.in-Ok.line.kids.items ≡ c.in-Ok-places_from.kids.items = sym (c.in-Ok-places_from.ensures ∙ ap (map (λ n. n - 1)) c.deref.ensures.value) in
    node_judged c.args.symbols.now c.args.k c.args.at c.args.line.now l c.requires.node c.in-Ok.ensures.spelled
    ∙ named_right c.args.k c.args.at c.in-Some.symbol l _ (ap (place_in c.args.symbols.now c.in-Ok.line.name) (sym count) ∙ sym c.find_called.ensures ∙ c.in-Some.is) (sym c.are_in_order-in_order.ensures ∙ c.if-not-in_order.false)
    ∙ ap (node c.in-Some.symbol) kids
  where
    node : ℕ → List ℕ → Verdict NodeRow
    node i ks = Is (record { symbol = i; kids = ks })
