-- The limits of a command: what is counted, and when it is over its number.
use Rattle.std.specs.Prelude.{◌<◌, ◌⊎◌, ℕ, ◌+◌, List, length}
use Rattle.tree_definitions.specs.Automaton.{Automaton}
use Rattle.tree_definitions.specs.Joint.{joint_symbols}
use Rattle.bool_ops.specs.Results.{HasMoreRules, HasMoreStates}
use Rattle.quotient.specs.Merged.{HasMoreUseful}
use Rattle.vata_core.specs.Answer.{OfOne, OfTwo}
use Rattle.vata_words.specs.declared.request.Dir.{Dir}
use Rattle.vata_words.specs.declared.request.Dir.TheVariants.{Up, Down}
use Rattle.vata_core.specs.Request.{Request, Unary, Binary}
use Rattle.vata_core.specs.declared.words.UnaryCommand.{UnaryCommand}
use Rattle.vata_core.specs.declared.words.UnaryCommand.TheVariants.{Load, Sim, Red}
use Rattle.vata_core.specs.declared.words.BinaryCommand.{BinaryCommand}
use Rattle.vata_core.specs.declared.words.BinaryCommand.TheVariants.{Union, Isect, Incl}
use Rattle.vata_core.specs.declared.measure.Measure.{Measure}
use Rattle.vata_core.specs.declared.measure.Measure.TheVariants.{Symbols, Pairs, Rules, Relation}

-- the order in which they are looked at
abbrev pub turn : Measure → ℕ
turn Symbols = 0
turn Pairs = 1
turn Rules = 2
turn Relation = 3

abbrev pub HasManySymbols : Automaton → Automaton → Type 0
HasManySymbols A B = 65535 < length (joint_symbols A.symbols B.symbols)

abbrev pub ExceedsUnion : Measure → Automaton → Automaton → Type 0
ExceedsUnion Symbols A B = HasManySymbols A B
ExceedsUnion Pairs A B = ⊥
ExceedsUnion Rules A B = ⊥
ExceedsUnion Relation A B = ⊥

abbrev pub ExceedsProduct : Measure → Automaton → Automaton → Type 0
ExceedsProduct Symbols A B = HasManySymbols A B
ExceedsProduct Pairs A B = HasMoreStates A B 1000000
ExceedsProduct Rules A B = HasMoreRules A B 2000000
ExceedsProduct Relation A B = ⊥

abbrev pub ExceedsSimulation : Measure → Automaton → Type 0
ExceedsSimulation Symbols A = ⊥
ExceedsSimulation Pairs A = ⊥
ExceedsSimulation Rules A = ⊥
ExceedsSimulation Relation A = 20000 < length A.states

abbrev pub ExceedsQuotient : Measure → Automaton → Type 0
ExceedsQuotient Symbols A = ⊥
ExceedsQuotient Pairs A = ⊥
ExceedsQuotient Rules A = ⊥
ExceedsQuotient Relation A = HasMoreUseful A 20000

-- a relation that a search of this direction needs has more than 20,000 states
abbrev pub HasManyStates : Dir → Automaton → Automaton → Type 0
HasManyStates Up A B = (20000 < length A.states) ⊎ (20000 < length B.states)
HasManyStates Down A B = 20000 < length A.states + length B.states

abbrev pub ExceedsInclusion : Dir → Measure → Automaton → Automaton → Type 0
ExceedsInclusion dir Symbols A B = HasManySymbols A B
ExceedsInclusion dir Pairs A B = ⊥
ExceedsInclusion dir Rules A B = ⊥
ExceedsInclusion dir Relation A B = HasManyStates dir A B

-- for A the measure of a command is over its number
abbrev pub ExceedsUnary : UnaryCommand → Automaton → Measure → Type 0
ExceedsUnary (Load trim) A what = ⊥
ExceedsUnary (Sim dir) A what = ExceedsSimulation what A
ExceedsUnary Red A what = ExceedsQuotient what A

-- for A and B it is
abbrev pub ExceedsBinary : BinaryCommand → Automaton → Automaton → Measure → Type 0
ExceedsBinary (Union trim) A B what = ExceedsUnion what A B
ExceedsBinary (Isect trim) A B what = ExceedsProduct what A B
ExceedsBinary (Incl dir sim budget) A B what = ExceedsInclusion dir what A B

-- for these automata the request's measure is over its number
abbrev pub Exceeds : Request → List Automaton → Measure → Type 0
Exceeds (Unary command file) As what = OfOne (λ A. ExceedsUnary command A what) As
Exceeds (Binary command first second) As what = OfTwo (λ A B. ExceedsBinary command A B what) As

-- of the measures that are over their numbers it is the first
pub record IsFirstOver (Over : Measure → Type 0) (what : Measure) : Type 0 where
  pub over : Over what
  pub first : (earlier : Measure) → turn earlier < turn what → Over earlier → ⊥

-- of the request's measures it is the first that is over its number
abbrev pub IsPast : Request → List Automaton → Measure → Type 0
IsPast request As what = IsFirstOver (Exceeds request As) what

-- none of the request's measures is over its number
abbrev pub IsWithin : Request → List Automaton → Type 0
IsWithin request As = (what : Measure) → Exceeds request As what → ⊥
