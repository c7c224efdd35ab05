-- The child tuples of a state, and of states that stand so many places behind those of a set.
use Rattle.std.specs.Prelude.{◌≡◌, ◌↔◌, ◌≤◌, ◌+◌, ◌-◌, ℕ, List, map, All, Contains}
use Rattle.tree_definitions.specs.Automaton.{Rule}
use Rattle.tree_definitions.specs.Relation.{Row, Has}
use Rattle.ta_model.specs.declared.joint.DownGroup.{DownGroup}
use Rattle.ta_model.specs.Tuples.{IsRising}
use Rattle.shared_clusters.specs.Clusters.{Group, HasRule as Keeps, AreTuplesOf}

-- each place less by n
abbrev pub lowered : ℕ → List ℕ → List ℕ
lowered n = map (λ q. q - n)

-- the children of a rule whose parent has place n or a later one do too
abbrev pub AreBehind : List (List Group) → ℕ → Type 0
AreBehind clusters n = (rule : Rule) → Keeps clusters rule → n ≤ rule.parent → All (λ q. n ≤ q) rule.kids

-- n places behind, these are the children of a rule under the symbol whose parent is the state
abbrev pub LeadTo : List (List Group) → ℕ → ℕ → ℕ → List ℕ → Type 0
LeadTo clusters n a s kids = Keeps clusters (record { symbol = a; kids = map (λ q. n + q) kids; parent = n + s })

-- the tuples are those that so lead to members of the set, and they rise
pub record AreTuplesInto (clusters : List (List Group)) (n a : ℕ) (set : Row) (tuples : List (List ℕ)) : Type 0 where
  pub rising : IsRising tuples
  pub members : (kids : List ℕ) → Contains tuples kids ↔ ((s : ℕ) × Has set s × LeadTo clusters n a s kids)

-- the group has all child tuples of q under a symbol of q, and all of the set, which stands n places behind
pub record IsDownGroupAt (clusters : List (List Group)) (n q : ℕ) (set : Row) (group : DownGroup) : Type 0 where
  pub some : (kids : List ℕ) × Keeps clusters (record { symbol = group.symbol; kids = kids; parent = q })
  pub rule_tuples : AreTuplesOf clusters q group.symbol group.rules
  pub set_tuples : AreTuplesInto clusters n group.symbol set group.tuples

-- each is a group of q and the set, and each of these symbols has one
pub record AreDownGroupsAt (clusters : List (List Group)) (n q : ℕ) (set : Row) (symbols : List ℕ) (groups : List DownGroup) : Type 0 where
  pub each : (group : DownGroup) → Contains groups group → IsDownGroupAt clusters n q set group
  pub all_symbols : (a : ℕ) → Contains symbols a → (group : DownGroup) × Contains groups group × (group.symbol ≡ a)
