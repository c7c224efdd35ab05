use Rattle.std.proofs.Common.{◌≡◌, ◌≢◌, length, refl, sym, ap, ◌∙◌, subst}
use Rattle.std.specs.Prelude.{AllPairs}
use Rattle.tree_definitions.specs.Relation.{Holds}
use Rattle.tree_definitions.specs.UpTrail.{UpTrail}
use Rattle.certificate_kinds.specs.Certificates.{FitsUpTrail}
use Rattle.antichain_up.specs.Orders.{TwoOrders}
use Rattle.antichain_up.specs.SearchState.{IsGoing, IsRejected, IsFull, IsAfter, entries_of}
use Rattle.antichain_up.proofs.Joined.{joint_distinct}
use Rattle.antichain_up.proofs.Ending.{pairs_apart, up_answer, up_fits, entry_nodes, tree_answer, tree_fits, trail_answer, trail_fits, never_full, are_orders, told_up, told_trail, relation_fits}
use Rattle.antichain_up.proofs.search.told.Goals as goal

pub kept_pairs-requires-clause-apart : goal.kept_pairs-requires-clause-apart
kept_pairs-requires-clause-apart g c =
    let A = g.J.Joint.left c.args.j.now in
    let B = g.J.Joint.right c.args.j.now in
    let o = c.args.orders.now in
    let s = c.args.search.now in
    let h : IsGoing A B o c.args.budget s = subst (λ p. IsAfter A B o c.args.budget p s) c.in-Going.is c.requires.after in
    pairs_apart A B o c.args.budget s (are_orders A B o o.left o.right refl refl c.requires.left c.requires.right) h

pub tree-requires-clause-distinct : goal.tree-requires-clause-distinct
tree-requires-clause-distinct g c =
    let A = g.J.Joint.left c.args.j.now in
    let B = g.J.Joint.right c.args.j.now in
    let paired = c.sizes-states.ensures.paired in
    subst (λ xs. AllPairs ◌≢◌ xs) (sym c.symbols.ensures.value) (joint_distinct A.symbols B.symbols paired.left.automaton.symbols paired.right.automaton.symbols)

pub tree-requires-clause-nodes : goal.tree-requires-clause-nodes
tree-requires-clause-nodes g c =
    let A = g.J.Joint.left c.args.j.now in
    let B = g.J.Joint.right c.args.j.now in
    let o = c.args.orders.now in
    let s = c.args.search.now in
    let h : IsRejected A B o s = subst (λ p. IsAfter A B o c.args.budget p s) c.in-Rejected.is c.requires.after in
    let left = c.sizes-states.ensures.paired.left in
    entry_nodes A B o c.args.budget s left.automaton left.narrow h c.symbols.result.now c.symbols.ensures.value

pub returns-in_ok-copy-in-Going-2-clause-answer : goal.returns-in_ok-copy-in-Going-2-clause-answer
returns-in_ok-copy-in-Going-2-clause-answer g c =
    let A = g.J.Joint.left c.args.j.now in
    let B = g.J.Joint.right c.args.j.now in
    let o = c.args.orders.now in
    let s = c.args.search.now in
    let h : IsGoing A B o c.args.budget s = subst (λ p. IsAfter A B o c.args.budget p s) c.in-Going.is c.requires.after in
    let left = relation_fits (length A.states) c.size-lefts.result o.left o.left refl c.requires.left.square (c.size-lefts.ensures.value ∙ ap (λ (x : TwoOrders). length x.left) c.orders.view_is) c.size-lefts.ensures.limit in
    let right = relation_fits (length B.states) c.size-rights.result o.right o.right refl c.requires.right.square (c.size-rights.ensures.value ∙ ap (λ (x : TwoOrders). length x.right) c.orders.view_is) c.size-rights.ensures.limit in
    let X = c.in_ok-pairs-in-Going.pairs.items in
    let found = c.in_ok-pairs-in-Going.ensures in
    told_up A B o o.left o.right refl refl c.requires.left c.requires.right c.in_ok-copy-in-Going.field-0 c.in_ok-copy-in-Going-2.field-0 (c.in_ok-copy-in-Going.ensures ∙ ap (λ (x : TwoOrders). x.left) c.orders.view_is) (c.in_ok-copy-in-Going-2.ensures ∙ ap (λ (x : TwoOrders). x.right) c.orders.view_is) X
    (up_fits A B o c.args.budget s h c.requires.few left right X found.kept found.rising found.few)
    (up_answer A B o c.args.budget s h c.requires.left.simulation c.requires.right.simulation (c.requires.closed c.in-Going.is) X found.kept found.rising)

pub returns-in_ok-nodes-in-Rejected-clause-answer : goal.returns-in_ok-nodes-in-Rejected-clause-answer
returns-in_ok-nodes-in-Rejected-clause-answer g c =
    let A = g.J.Joint.left c.args.j.now in
    let B = g.J.Joint.right c.args.j.now in
    let o = c.args.orders.now in
    let s = c.args.search.now in
    let h : IsRejected A B o s = subst (λ p. IsAfter A B o c.args.budget p s) c.in-Rejected.is c.requires.after in
    let joint = c.symbols.ensures.value in
    let n = c.in_ok-nodes-in-Rejected.nodes in
    let cert = tree_answer A B o c.args.budget s c.sizes-states.ensures.paired.left.narrow h c.symbols.result.now joint n c.in_ok-nodes-in-Rejected.ensures.tree in
    (tree_fits A B o c.args.budget s n cert c.in_ok-nodes-in-Rejected.ensures.list (c.in_ok-nodes-in-Rejected.ensures.symbols ∙ joint), cert)

pub returns-in_ok-copy-in-Full-2-clause-answer : goal.returns-in_ok-copy-in-Full-2-clause-answer
returns-in_ok-copy-in-Full-2-clause-answer g c =
    let A = g.J.Joint.left c.args.j.now in
    let B = g.J.Joint.right c.args.j.now in
    let o = c.args.orders.now in
    let s = c.args.search.now in
    let h : IsFull A B o c.args.budget s = subst (λ p. IsAfter A B o c.args.budget p s) c.in-Full.is c.requires.after in
    let left = relation_fits (length A.states) c.size-lefts.result o.left o.left refl c.requires.left.square (c.size-lefts.ensures.value ∙ ap (λ (x : TwoOrders). length x.left) c.orders.view_is) c.size-lefts.ensures.limit in
    let right = relation_fits (length B.states) c.size-rights.result o.right o.right refl c.requires.right.square (c.size-rights.ensures.value ∙ ap (λ (x : TwoOrders). length x.right) c.orders.view_is) c.size-rights.ensures.limit in
    let E = c.in_ok-entries-in-Full.entries.items in
    let same : E ≡ entries_of s = c.in_ok-entries-in-Full.ensures in
    told_trail A B o o.left o.right refl refl c.requires.left c.requires.right c.in_ok-copy-in-Full.field-0 c.in_ok-copy-in-Full-2.field-0 (c.in_ok-copy-in-Full.ensures ∙ ap (λ (x : TwoOrders). x.left) c.orders.view_is) (c.in_ok-copy-in-Full-2.ensures ∙ ap (λ (x : TwoOrders). x.right) c.orders.view_is) c.args.budget E
    (subst (λ xs. FitsUpTrail A B o.left o.right c.args.budget xs) (sym same) (trail_fits A B o c.args.budget s c.sizes-states.ensures.paired.left.automaton h c.requires.some c.requires.few left right))
    (subst (λ xs. UpTrail A B (Holds o.left) (Holds o.right) c.args.budget xs) (sym same) (trail_answer A B o c.args.budget s h c.requires.left.simulation c.requires.right.simulation))

pub returns-in_ok-copy-in-Full-2-clause-decided : goal.returns-in_ok-copy-in-Full-2-clause-decided
returns-in_ok-copy-in-Full-2-clause-decided g c large =
    let A = g.J.Joint.left c.args.j.now in
    let B = g.J.Joint.right c.args.j.now in
    let o = c.args.orders.now in
    let s = c.args.search.now in
    let h : IsFull A B o c.args.budget s = subst (λ p. IsAfter A B o c.args.budget p s) c.in-Full.is c.requires.after in
    never_full A B o c.args.budget s (are_orders A B o o.left o.right refl refl c.requires.left c.requires.right) h c.requires.left.simulation c.requires.right.simulation large
