-- The grammar of a file: what is written, and its tokens.
use Rattle.std.specs.Prelude.{◌≡◌, ℕ, suc, Bool, ◌&&◌, nat_le, IsTrue, IfSome, List, [], ◌∷◌, ◌++◌, map, length, codes, Option, Some, None}
use Rattle.std.specs.List.{AllByRecursion, flat_map, list_all}
use Rattle.std.specs.Str.Parse.{digits_value}
use Rattle.tree_definitions.specs.Tree.{Symbol}
use Rattle.tree_definitions.specs.Name.{IsName}
use Rattle.timbuk_definitions.specs.Token.{Token, Mark, Arrow, Word, IsWord}

-- each byte is a digit
abbrev pub are_digits : List ℕ → Bool
are_digits w = list_all (λ b. nat_le 48 b && nat_le b 57) w

-- a word of digits alone
pub record IsDigits (w : List ℕ) : Type 0 where
  pub word : IsWord w
  pub digits : IsTrue (are_digits w)

-- a state as it is written: its name, and digits that say nothing
pub record StateText : Type 0 where
  pub name : List ℕ
  pub digits : Option (List ℕ)

-- a symbol of `Ops`
pub record OpText : Type 0 where
  pub name : List ℕ
  pub digits : List ℕ

-- a rule; with no parentheses it has None for its children
pub record RuleText : Type 0 where
  pub name : List ℕ
  pub kids : Option (List StateText)
  pub parent : StateText

pub record FileText : Type 0 where
  pub ops : List OpText
  pub title : Option (List ℕ)
  pub states : List StateText
  pub finals : List StateText
  pub rules : List RuleText

abbrev pub FitsState : StateText → Type 0
FitsState s = IsName s.name × IfSome s.digits IsDigits

abbrev pub FitsOp : OpText → Type 0
FitsOp o = IsName o.name × IsDigits o.digits

abbrev pub FitsKids : Option (List StateText) → Type 0
FitsKids kids = IfSome kids (AllByRecursion FitsState)

pub record FitsRule (r : RuleText) : Type 0 where
  pub name : IsName r.name
  pub kids : FitsKids r.kids
  pub parent : FitsState r.parent

pub record FitsFile (f : FileText) : Type 0 where
  pub ops : AllByRecursion FitsOp f.ops
  pub title : IfSome f.title IsName
  pub states : AllByRecursion FitsState f.states
  pub finals : AllByRecursion FitsState f.finals
  pub rules : AllByRecursion FitsRule f.rules

-- a rule by names
pub record NamedRule : Type 0 where
  pub symbol : Symbol
  pub kids : List (List ℕ)
  pub parent : List ℕ

-- what a token of a file says
pub data Role : Type 0 where
  -- nothing
  Plain : Role
  -- the automaton's name
  Title : List ℕ → Role
  -- the name of a symbol in `Ops`, and the digits that end it
  OpName : List ℕ → Role
  OpRank : Symbol → Role
  -- a name in `States`, or in `Final States`
  StateName : List ℕ → Role
  FinalName : List ℕ → Role
  -- the name that begins a rule, its child at this place, its arrow, where the symbol is known, and its parent's name
  RuleName : List ℕ → Role
  KidName : ℕ → List ℕ → Role
  RuleArrow : Symbol → Role
  ParentName : NamedRule → Role

-- a token with what it says
pub record Item : Type 0 where
  pub token : Token
  pub role : Role

abbrev pub word : List ℕ → Role → Item
word w role = record { token = Word w; role = role }

abbrev pub section : List ℕ → Item
section w = word w Plain

abbrev pub mark : ℕ → Item
mark b = record { token = Mark b; role = Plain }

abbrev pub op_symbol : OpText → Symbol
op_symbol o = record { name = o.name; rank = digits_value 10 o.digits }

-- name ":" digits
abbrev pub op_items : OpText → List Item
op_items o = word o.name (OpName o.name) ∷ mark 58 ∷ word o.digits (OpRank (op_symbol o)) ∷ []

-- [ ":" digits ]
abbrev pub digits_items : Option (List ℕ) → List Item
digits_items None = []
digits_items (Some ds) = mark 58 ∷ word ds Plain ∷ []

-- name [ ":" digits ]
abbrev pub state_items : Role → StateText → List Item
state_items role s = word s.name role ∷ digits_items s.digits

abbrev pub kid_items : ℕ → StateText → List Item
kid_items i s = state_items (KidName i s.name) s

-- { "," state } ")"
abbrev pub later_kids_items : ℕ → List StateText → List Item
later_kids_items i [] = mark 41 ∷ []
later_kids_items i (k ∷ ks) = mark 44 ∷ kid_items i k ++ later_kids_items (suc i) ks

-- [ state { "," state } ] ")"
abbrev pub open_kids_items : List StateText → List Item
open_kids_items [] = mark 41 ∷ []
open_kids_items (k ∷ ks) = kid_items 0 k ++ later_kids_items 1 ks

-- [ "(" [ state { "," state } ] ")" ]
abbrev pub kids_items : Option (List StateText) → List Item
kids_items None = []
kids_items (Some ks) = mark 40 ∷ open_kids_items ks

abbrev pub names_of : List StateText → List (List ℕ)
names_of ss = map (λ s. s.name) ss

abbrev pub kid_names : Option (List StateText) → List (List ℕ)
kid_names None = []
kid_names (Some ks) = names_of ks

abbrev pub rule_of : List ℕ → List (List ℕ) → List ℕ → NamedRule
rule_of name kids parent = record { symbol = record { name = name; rank = length kids }; kids = kids; parent = parent }

-- "->" state
abbrev pub parent_items : List ℕ → List (List ℕ) → StateText → List Item
parent_items name kids parent =
    record { token = Arrow; role = RuleArrow (record { name = name; rank = length kids }) }
    ∷ state_items (ParentName (rule_of name kids parent.name)) parent

abbrev pub rule_items : RuleText → List Item
rule_items r = word r.name (RuleName r.name) ∷ (kids_items r.kids ++ parent_items r.name (kid_names r.kids) r.parent)

abbrev pub title_items : Option (List ℕ) → List Item
title_items None = []
title_items (Some w) = word w (Title w) ∷ []

abbrev pub transitions_items : List RuleText → List Item
transitions_items rules = section (codes "Transitions") ∷ flat_map rule_items rules

abbrev pub finals_items : List StateText → List RuleText → List Item
finals_items finals rules =
    section (codes "Final") ∷ section (codes "States")
    ∷ (flat_map (λ s. state_items (FinalName s.name) s) finals ++ transitions_items rules)

abbrev pub states_items : List StateText → List StateText → List RuleText → List Item
states_items states finals rules =
    section (codes "States") ∷ (flat_map (λ s. state_items (StateName s.name) s) states ++ finals_items finals rules)

abbrev pub items_of : FileText → List Item
items_of f =
    section (codes "Ops") ∷ (flat_map op_items f.ops
    ++ section (codes "Automaton") ∷ (title_items f.title ++ states_items f.states f.finals f.rules))

abbrev pub item_tokens : List Item → List Token
item_tokens xs = map (λ x. x.token) xs

-- the items of some file
abbrev pub IsFile : List Item → Type 0
IsFile items = (f : FileText) × FitsFile f × (items ≡ items_of f)

-- the items with which some file begins
abbrev pub BeginsFile : List Item → Type 0
BeginsFile items = (more : List Item) × IsFile (items ++ more)

-- the tokens of some file, and the tokens with which some file begins
abbrev pub AreFileTokens : List Token → Type 0
AreFileTokens ts = (items : List Item) × IsFile items × (item_tokens items ≡ ts)

abbrev pub BeginFileTokens : List Token → Type 0
BeginFileTokens ts = (items : List Item) × BeginsFile items × (item_tokens items ≡ ts)
