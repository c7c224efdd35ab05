-- Where a text stops being a file, and where it passes a limit.
use Rattle.std.specs.Prelude.{◌≡◌, ◌⊎◌, ℕ, ◌<◌, ◌≤◌, List, [], ◌∷◌, ◌++◌, length, Contains, Option, Some, None}
use Rattle.tree_definitions.specs.Tree.{Symbol}
use Rattle.tree_definitions.specs.Automaton.{Automaton}
use Rattle.timbuk_definitions.specs.Token.{Lexeme, IsLexed, tokens_of, offset_after}
use Rattle.timbuk_definitions.specs.Grammar.{Item, Title, OpName, OpRank, StateName, FinalName, RuleName, KidName, ParentName, NamedRule, BeginsFile, item_tokens, AreFileTokens, BeginFileTokens}
use Rattle.timbuk_definitions.specs.Reading.{symbol_of, state_of, rule_in, symbols_of, states_of, rules_of}

-- the token after the front is the first that no file goes on with
pub record IsStuckAfter (lexemes front : List Lexeme) : Type 0 where
  pub lexeme : Lexeme
  pub back : List Lexeme
  pub whole : lexemes ≡ front ++ lexeme ∷ back
  pub begins : BeginFileTokens (tokens_of front)
  pub stuck : ¬ BeginFileTokens (tokens_of (front ++ lexeme ∷ []))

-- the tokens begin a file, and are none
pub record EndsEarly (lexemes : List Lexeme) : Type 0 where
  pub begins : BeginFileTokens (tokens_of lexemes)
  pub none : ¬ AreFileTokens (tokens_of lexemes)

-- the first byte of the first token with which the tokens begin no file, or the text's length where there is none
abbrev pub IsBadPlace : List ℕ → ℕ → Type 0
IsBadPlace text at = (gap : List ℕ) × (lexemes : List Lexeme) × IsLexed text gap lexemes
    × (((front : List Lexeme) × IsStuckAfter lexemes front × (at ≡ offset_after gap front))
    ⊎ (EndsEarly lexemes × (at ≡ length text)))

-- what is counted, in the order in which it is looked at
pub data Limit : Type 0 where
  Names Rank Symbols States Rules : Limit

abbrev pub number_of : Limit → ℕ
number_of Names = 0
number_of Rank = 1
number_of Symbols = 2
number_of States = 3
number_of Rules = 4

-- the name that an item gives to a symbol, a state or the automaton
abbrev pub name_in : Item → Option (List ℕ)
name_in x = elim x.role [ Title w ↦ Some w | OpName w ↦ Some w | StateName w ↦ Some w | FinalName w ↦ Some w | RuleName w ↦ Some w | KidName i w ↦ Some w | ParentName r ↦ Some r.parent | _ ↦ None ]

-- x is new, and the list has as many as it may
abbrev pub IsFull : {X : Type 0} → ℕ → List X → X → Type 0
IsFull most listed x = ¬ Contains listed x × (most ≤ length listed)

-- the item after these is over the limit
abbrev pub IsOver : Limit → List Item → Item → Type 0
IsOver Names front x = (w : List ℕ) × (name_in x ≡ Some w) × (1000 < length w)
IsOver Rank front x = elim x.role [ OpRank a ↦ 32 < a.rank | KidName i w ↦ 32 ≤ i | _ ↦ ⊥ ]
IsOver Symbols front x = (a : Symbol) × (symbol_of x ≡ Some a) × IsFull 65535 (symbols_of front) a
IsOver States front x = (w : List ℕ) × (state_of x ≡ Some w) × IsFull 1000000 (states_of front) w
IsOver Rules front x = (r : NamedRule) × (rule_in x ≡ Some r) × IsFull 2000000 (rules_of front) r

-- no item of these is over a limit
abbrev pub IsWithin : List Item → Type 0
IsWithin items = (front back : List Item) (x : Item) (what : Limit) → items ≡ front ++ x ∷ back → ¬ IsOver what front x

-- the lists of A are no longer than those of a file
pub record IsSmall (A : Automaton) : Type 0 where
  pub few_symbols : length A.symbols ≤ 65535
  pub few_states : length A.states ≤ 1000000
  pub few_rules : length A.rules ≤ 2000000

-- the items of the text up to some token before its bad place, of which the last is the first that is over a limit
pub record PassesLimit (text : List ℕ) (what : Limit) (at : ℕ) : Type 0 where
  pub gap : List ℕ
  pub lexemes : List Lexeme
  pub lexed : IsLexed text gap lexemes
  pub front : List Lexeme
  pub lexeme : Lexeme
  pub back : List Lexeme
  pub whole : lexemes ≡ front ++ lexeme ∷ back
  pub items : List Item
  pub item : Item
  pub begins : BeginsFile (items ++ item ∷ [])
  pub tokens : item_tokens (items ++ item ∷ []) ≡ tokens_of (front ++ lexeme ∷ [])
  pub over : IsOver what items item
  pub within : IsWithin items
  pub least : (other : Limit) → number_of other < number_of what → ¬ IsOver other items item
  pub place : at ≡ offset_after gap front

-- the text passes no limit
abbrev pub PassesNoLimit : List ℕ → Type 0
PassesNoLimit text = (what : Limit) (at : ℕ) → ¬ PassesLimit text what at
