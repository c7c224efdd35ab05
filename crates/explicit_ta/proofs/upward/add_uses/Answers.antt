use Rattle.std.proofs.Common.{◌≡◌, ◌∙◌, get_or, ap, subst}
use Rattle.std.proofs.lemmas.List.{take_all}
use Rattle.tree_definitions.specs.Automaton.{Rule}
use Rattle.explicit_ta.specs.Index.{GainsUses}
use Rattle.explicit_ta.proofs.Lists.{item_is}
use Rattle.explicit_ta.proofs.Indexing.{uses_more}
use Rattle.explicit_ta.proofs.upward.add_uses.Goals as goal

pub loop-q-preserved : goal.loop-q-preserved
loop-q-preserved c =
    let kids = c.as_slice-kids.result.now in
    let i = c.loop-q.q-index in
    let q = get_or kids i 0 in
    let line : Rule = record { symbol = 0; kids = c.in_ok-copy.copy.items; parent = q } in
    let same : line ≡ record { symbol = 0; kids = kids; parent = q } = ap (λ l. record { symbol = 0; kids = l; parent = q }) c.in_ok-copy.ensures.ok in
    rw c.in_ok-push.ensures.items (uses_more c.args.lines.now.items c.loop-q.lines.items kids i q line c.loop-q-test.true (item_is kids i 0 c.loop-q-test.true) same c.loop-q.invariant)

pub returns : goal.returns
returns c =
    let kids = c.as_slice-kids.result.now in
    let old = c.args.lines.now.items in
    let new = c.loop-q.lines.items in
    let all : GainsUses old new kids kids = subst (GainsUses old new kids) (take_all c.loop-q.q-index kids c.loop-q-test.false) c.loop-q.invariant in
    subst (λ l. GainsUses old new l l) (c.as_slice-kids.ensures ∙ ap (λ r. r.kids) c.rule.view_is) all
