use Rattle.std.proofs.Common.{◌≡◌, ◌≤◌, ℕ, List, length, Contains, sym, subst}
use Rattle.std.proofs.lemmas.Result.{IfOk-weaker}
use Rattle.tree_definitions.specs.Automaton.{Rule}
use Rattle.tree_definitions.specs.Relation.{IsAt}
use Rattle.bool_ops.specs.Paths.{IsByKids, Leads, Matches, root_of}
use Rattle.bool_ops.proofs.Paths.{matches_in}
use Rattle.bool_ops.proofs.by_kids.ByKids.matching.Goals as goal

pub returns-clause-whole : goal.returns-clause-whole
returns-clause-whole c =
    let nodes = c.args.self.now.nodes in
    let lists = c.args.self.now.lists in
    let left = c.args.left.now in
    IfOk-weaker c.rules_at.result _
    (λ v. (rules : List Rule) → IsByKids rules nodes lists → (s : ℕ) (right : Rule) → IsAt rules s right → 2 ≤ length right.kids → left.symbol ≡ right.symbol
    → Matches c.args.pairs.now left.kids c.args.place c.args.state right.kids → Contains v.items s)
    (λ v each rules h s right sat two e m.
    matches_in nodes lists rules c.in_ok-level.level.items v.items h (λ n z list a b d. each n z list (subst (λ xs. Contains xs n) (sym c.deref.ensures.value) a) b d)
    s right sat two (λ to way. c.in_ok-level.ensures right.kids to m (subst (λ z. Leads nodes (root_of z) right.kids to) (sym e) way)))
    c.rules_at.ensures.whole
