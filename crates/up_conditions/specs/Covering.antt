-- Rules whose steps listed pairs cover.
use Rattle.std.specs.Prelude.{◌≡◌, ◌≢◌, ℕ, ◌<◌, Bool, true, false, List, [], All}
use Rattle.tree_definitions.specs.Tree.{Symbol}
use Rattle.tree_definitions.specs.Automaton.{Automaton, Rule, IsLabel}
use Rattle.tree_definitions.specs.Cover.{Pair, Post}
use Rattle.tree_definitions.specs.Relation.{Relation, Row, IsAt}
use Rattle.tree_definitions.specs.UpCert.{IsCoveredUp, AreListed}

-- each step of the rule, under a symbol of A, from listed pairs for its children is covered by a listed pair
abbrev pub IsRuleCovered : Automaton → Automaton → Relation → Relation → List Pair → Rule → Type 0
IsRuleCovered A B RA RB X rule =
    (a : Symbol) → IsLabel A rule.symbol a → (sets : List Row) → AreListed X rule.kids sets → IsCoveredUp RA RB X rule.parent (Post B a sets)

-- the rule has no children, or it has some
abbrev pub IsOfPart : Bool → Rule → Type 0
IsOfPart true rule = rule.kids ≡ []
IsOfPart false rule = rule.kids ≢ []

-- so it is if the rule is of this part
abbrev pub IsPartCovered : Bool → Automaton → Automaton → Relation → Relation → List Pair → Rule → Type 0
IsPartCovered leaves A B RA RB X rule = IsOfPart leaves rule → IsRuleCovered A B RA RB X rule

-- the rule is of this part, and isn't covered
abbrev pub IsUncoveredPart : Bool → Automaton → Automaton → Relation → Relation → List Pair → Rule → Type 0
IsUncoveredPart leaves A B RA RB X rule = IsOfPart leaves rule × ¬ IsRuleCovered A B RA RB X rule

-- the rule has no children, and its step isn't covered
abbrev pub IsUncoveredLeaf : Automaton → Automaton → Relation → Relation → List Pair → Rule → Type 0
IsUncoveredLeaf A B RA RB X rule = (rule.kids ≡ []) × ¬ IsRuleCovered A B RA RB X rule

-- the rule has children, and a step of it isn't covered
abbrev pub IsUncoveredStep : Automaton → Automaton → Relation → Relation → List Pair → Rule → Type 0
IsUncoveredStep A B RA RB X rule = (rule.kids ≢ []) × ¬ IsRuleCovered A B RA RB X rule

-- the rule's symbol is one of so many
abbrev pub AreLabelled : ℕ → List Rule → Type 0
AreLabelled n rules = All (λ (rule : Rule). rule.symbol < n) rules

-- each item before place n, counted from 0, is of this kind
abbrev pub AllBefore : {X : Type 0} → List X → (X → Type 0) → ℕ → Type 0
AllBefore {X} xs Kind n = (i : ℕ) (x : X) → i < n → IsAt xs i x → Kind x
