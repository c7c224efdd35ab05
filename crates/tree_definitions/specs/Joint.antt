-- Two automata over joint places: those of A, then those of B.
use Rattle.std.specs.Prelude.{◌≡◌, ◌⊎◌, ℕ, ◌+◌, ◌++◌, List, map, length, filter, not, Bool, ◌==◌, ◌&&◌, bytes_eq}
use Rattle.std.specs.List.{list_any}
use Rattle.tree_definitions.specs.Tree.{Symbol}
use Rattle.tree_definitions.specs.Automaton.{Rules, Automaton, HasRule}

-- the joint place of B's state s: it stands behind the states of A, which keep their places
abbrev pub right : Automaton → ℕ → ℕ
right A s = length A.states + s

-- the rules of both: one of A, or one of B with its states at their joint places
abbrev pub JointRule : Automaton → Automaton → Rules
JointRule A B a kids q =
    HasRule A a kids q
    ⊎ ((ks : List ℕ) × (s : ℕ) × (kids ≡ map (right A) ks) × (q ≡ right A s) × HasRule B a ks s)

-- equal in name and rank
abbrev pub same_symbol : Symbol → Symbol → Bool
same_symbol a b = bytes_eq a.name b.name && (a.rank == b.rank)

-- the symbols of the first list, then those of the second that the first lacks
abbrev pub joint_symbols : List Symbol → List Symbol → List Symbol
joint_symbols xs ys = xs ++ filter (λ y. not (list_any (same_symbol y) xs)) ys
