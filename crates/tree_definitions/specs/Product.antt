-- The product of two automata.
use Rattle.std.specs.Prelude.{◌≡◌, ◌↔◌, ◌⊎◌, ℕ, ◌<◌, List, ◌++◌, map, Contains, AllPairs, codes, decimal}
use Rattle.std.specs.List.{AllZip}
use Rattle.tree_definitions.specs.Tree.{Symbol, Tree}
use Rattle.tree_definitions.specs.Automaton.{Automaton, HasSymbols, HasRule, IsAutomaton, IsFinal}
use Rattle.tree_definitions.specs.Language.{Reaches}
use Rattle.tree_definitions.specs.Relation.{IsAt}
use Rattle.tree_definitions.specs.Joint.{joint_symbols}

-- a place of A and a place of B
pub record Both : Type 0 where
  pub left : ℕ
  pub right : ℕ

-- the earlier of two pairs, by the left place and then by the right one
abbrev pub Precedes : Both → Both → Type 0
Precedes x y = (x.left < y.left) ⊎ ((x.left ≡ y.left) × (x.right < y.right))

-- the name pI_J of the places I and J
abbrev pub pair_name : Both → List ℕ
pair_name x = codes "p" ++ decimal x.left ++ codes "_" ++ decimal x.right

-- one tree reaches both places
abbrev pub AreReachedTogether : Automaton → Automaton → Both → Type 0
AreReachedTogether A B x = (t : Tree) × Reaches A t x.left × Reaches B t x.right

-- P is the product of A and B, with these pairs as its states
pub record MultipliesTo (A B P : Automaton) (pairs : List Both) : Type 0 where
  pub bits : P.bits ≡ A.bits
  pub name : P.name ≡ codes "isect"
  pub symbols : HasSymbols P (joint_symbols A.symbols B.symbols)
  -- all pairs that one tree reaches together, in order
  pub rising : AllPairs Precedes pairs
  pub reached : (x : Both) → Contains pairs x ↔ AreReachedTogether A B x
  pub states : P.states ≡ map pair_name pairs
  -- final where both parts are
  pub finals : (k : ℕ) → IsFinal P k ↔ ((x : Both) × IsAt pairs k x × IsFinal A x.left × IsFinal B x.right)
  -- a rule of A and one of B with the same symbol, between these pairs
  pub rules : (a : Symbol) (kids : List ℕ) (k : ℕ)
      → HasRule P a kids k ↔ ((xs : List Both) × (x : Both) × AllZip (IsAt pairs) kids xs × IsAt pairs k x
      × HasRule A a (map (λ x. x.left) xs) x.left × HasRule B a (map (λ x. x.right) xs) x.right)
  -- and no line beside them
  pub fitting : IsAutomaton P

-- P is the product of A and B
abbrev pub IsProduct : Automaton → Automaton → Automaton → Type 0
IsProduct A B P = (pairs : List Both) × MultipliesTo A B P pairs
