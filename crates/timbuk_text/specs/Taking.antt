-- What it means to take a token into the store.
use Rattle.std.specs.Prelude.{◌≡◌, ℕ, ◌<◌, ◌≤◌, Bool, true, false, List, [], ◌∷◌, ◌++◌, length, None}
use Rattle.std.specs.List.{AllZip, list_any}
use Rattle.std.specs.Str.Parse.{digits_value}
use Rattle.tree_definitions.specs.Name.{IsName}
use Rattle.tree_definitions.specs.Tree.{Symbol}
use Rattle.tree_definitions.specs.Automaton.{Rule}
use Rattle.tree_definitions.specs.Relation.{IsAt}
use Rattle.timbuk_definitions.specs.Token.{Token}
use Rattle.timbuk_definitions.specs.Grammar.{Item, Role, Plain, Title, OpName, OpRank, StateName, FinalName, RuleName, KidName, RuleArrow, ParentName, NamedRule, are_digits}
use Rattle.timbuk_definitions.specs.Place.{Limit, Names, Rank, Symbols, States, Rules, number_of, IsOver, IsFull}
use Rattle.timbuk_definitions.specs.Reading.{with_new}
use Rattle.timbuk_text.specs.declared.table.Action.{Action}
use Rattle.timbuk_text.specs.declared.error.Counted.{Counted}
use Rattle.timbuk_text.specs.Store.{Store, HasItems, IsFew}

-- the symbol of the name and the children that are being read
abbrev pub symbol_read : Store → Symbol
symbol_read s = record { name = s.head; rank = length s.kids }

-- the rule of the symbol and the children that are being read, with this parent
abbrev pub line_read : Store → ℕ → Rule
line_read s q = record { symbol = s.symbol; kids = s.kids; parent = q }

-- the rule whose symbol and children are in the store, with this parent
pub record IsRuleRead (s : Store) (w : List ℕ) (r : NamedRule) : Type 0 where
  pub symbol : IsAt s.symbols s.symbol r.symbol
  pub kids : AllZip (IsAt s.states) s.kids r.kids
  pub parent : r.parent ≡ w

-- what a token with these bytes says, by what it has to say and what is in the store
abbrev pub Says : Store → Action → List ℕ → Role → Type 0
Says s Action.Plain w role = role ≡ Plain
Says s Action.Title w role = (role ≡ Title w) × (s.title ≡ None)
Says s Action.OpName w role = role ≡ OpName w
Says s Action.OpRank w role = role ≡ OpRank (record { name = s.head; rank = digits_value 10 w })
Says s Action.State w role = role ≡ StateName w
Says s Action.Final w role = role ≡ FinalName w
Says s Action.Head w role = role ≡ RuleName w
Says s Action.Kid w role = role ≡ KidName (length s.kids) w
Says s Action.Arrow w role = role ≡ RuleArrow (symbol_read s)
Says s Action.Parent w role = (r : NamedRule) × (role ≡ ParentName r) × IsRuleRead s w r

-- a child is read
pub record HasKid (w : List ℕ) (old new : Store) : Type 0 where
  pub head : new.head ≡ old.head
  pub few : length old.kids < 32
  pub place : ℕ
  pub kids : new.kids ≡ old.kids ++ place ∷ []
  pub state : IsAt new.states place w

-- what is being read after it
abbrev pub After : Action → List ℕ → Store → Store → Type 0
After Action.Plain w old new = new ≡ old
After Action.Title w old new = Unit {0}
After Action.OpName w old new = (new.head ≡ w) × (new.title ≡ old.title)
After Action.OpRank w old new = new.title ≡ old.title
After Action.State w old new = Unit {0}
After Action.Final w old new = Unit {0}
After Action.Head w old new = (new.head ≡ w) × (new.kids ≡ [])
After Action.Kid w old new = HasKid w old new
After Action.Arrow w old new = (new.kids ≡ old.kids) × IsAt new.symbols new.symbol (symbol_read old)
After Action.Parent w old new = Unit {0}

-- what has to be known of the bytes and of the store
abbrev pub IsReady : Action → Store → List ℕ → Type 0
IsReady Action.Plain s w = Unit {0}
IsReady Action.OpRank s w = IsName s.head × (are_digits w ≡ true)
IsReady Action.Arrow s w = IsName s.head × (length s.kids ≤ 32)
IsReady action s w = IsName w

abbrev pub item : Token → Role → Item
item t role = record { token = t; role = role }

-- the item is in the lists and over no limit
pub record Adds (old new : Store) (items : List Item) (x : Item) : Type 0 where
  pub lists : HasItems new (items ++ x ∷ [])
  pub within : (what : Limit) → ¬ IsOver what items x

-- the token is taken
pub record Takes (action : Action) (w : List ℕ) (old new : Store) : Type 0 where
  pub adds : (items : List Item) (t : Token) (role : Role) → Says old action w role → HasItems old items → Adds old new items (item t role)
  pub after : After action w old new
  pub grows : (i : ℕ) (n : List ℕ) → IsAt old.states i n → IsAt new.states i n
  pub few : IsFew new

-- the first limit that the item is over
pub record IsLeast (items : List Item) (x : Item) (what : Limit) : Type 0 where
  pub over : IsOver what items x
  pub least : (other : Limit) → number_of other < number_of what → ¬ IsOver other items x

-- the token is over this limit
abbrev pub Passes : Action → List ℕ → Store → Limit → Type 0
Passes action w old what = (items : List Item) (t : Token) (role : Role) → Says old action w role → HasItems old items → IsLeast items (item t role) what

abbrev pub limit_of : Counted → Limit
limit_of Counted.Names = Names
limit_of Counted.Rank = Rank
limit_of Counted.Symbols = Symbols
limit_of Counted.States = States
limit_of Counted.Rules = Rules

-- the value is in the list, at this place: at its end if the old one lacked it
pub record Interns {X : Type 0} (same : X → X → Bool) (most : ℕ) (old new : List X) (x : X) (place : ℕ) : Type 0 where
  pub list : new ≡ with_new same old x
  pub at : IsAt new place x
  pub room : ¬ IsFull most old x
  pub few : length new ≤ most

-- the same, as far as a test of equality tells
pub record InternsBy {X : Type 0} (same : X → X → Bool) (most : ℕ) (old new : List X) (x : X) (place : ℕ) : Type 0 where
  pub list : new ≡ with_new same old x
  pub at : (y : X) × IsAt new place y × (same x y ≡ true)
  pub room : list_any (same x) old ≡ false → length old < most
  pub few : length new ≤ most

-- the test finds the value nowhere, and the list is full
pub record IsFullBy {X : Type 0} (same : X → X → Bool) (most : ℕ) (old : List X) (x : X) : Type 0 where
  pub new : list_any (same x) old ≡ false
  pub full : most ≤ length old
