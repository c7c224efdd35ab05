use Rattle.std.proofs.Common.{ℕ, List, drop}
use Rattle.bool_ops.specs.Paths.{Leads, LevelLeads, Matches, root_of}
use Rattle.bool_ops.proofs.by_kids.ByKids.last_level.Given as goal

-- some node leads on by the states from this place
abbrev pub invariant-loop-i : goal.invariant-loop-i
invariant-loop-i l = (states : List ℕ) (end : ℕ) → Matches l.pairs l.left.kids l.place l.state states
    → Leads l.self.nodes (root_of l.left.symbol) states end → LevelLeads l.self.nodes l.level.items (drop l.i states) end
