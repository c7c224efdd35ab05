-- Downward and upward simulations.
use Rattle.std.specs.Prelude.{ℕ, List, ◌∷◌, ◌++◌, length}
use Rattle.std.specs.List.{AllZip}
use Rattle.tree_definitions.specs.Tree.{Symbol}
use Rattle.tree_definitions.specs.Automaton.{Rules, Automaton, HasRule, IsFinal}
use Rattle.tree_definitions.specs.Relation.{Relation, Matrix, Holds, IsSquare}

-- a downward simulation: where q is below r, each rule to q has one to r with the same symbol and, place by place, children above
abbrev pub IsDown : Rules → Relation → Type 0
IsDown H R =
    (q r : ℕ) → R q r → (a : Symbol) (kids : List ℕ) → H a kids q → (above : List ℕ) × H a above r × AllZip R kids above

-- an upward simulation: two facts of each q that is below an r
pub record IsUp (A : Automaton) (R : Relation) : Type 0 where
  -- if q is final, r is
  pub finals : (q r : ℕ) → R q r → IsFinal A q → IsFinal A r
  -- each rule with q at some place leads, with r there and the other children kept, to a state above its parent
  pub rules : (q r : ℕ) → R q r → (a : Symbol) (front back : List ℕ) (parent : ℕ) → HasRule A a (front ++ q ∷ back) parent
      → (above : ℕ) × HasRule A a (front ++ r ∷ back) above × R parent above

-- the greatest downward simulation between n places: q is below r in some downward simulation
abbrev pub GreatestDown : ℕ → Rules → Relation
GreatestDown n H q r = (m : Matrix) × IsSquare n m × IsDown H (Holds m) × Holds m q r

-- the greatest upward simulation between the states of A: q is below r in some upward simulation
abbrev pub GreatestUp : Automaton → Relation
GreatestUp A q r = (m : Matrix) × IsSquare (length A.states) m × IsUp A (Holds m) × Holds m q r
