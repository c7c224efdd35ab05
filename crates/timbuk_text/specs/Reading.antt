-- How far a reader has come in a text.
use Rattle.std.specs.Prelude.{◌≡◌, ℕ, List, drop, codes, unwrap_or}
use Rattle.tree_definitions.specs.Automaton.{Automaton}
use Rattle.timbuk_definitions.specs.Token.{Lexeme, text_of}
use Rattle.timbuk_definitions.specs.Cursor.{BeginsWhite}
use Rattle.timbuk_definitions.specs.Grammar.{Item}
use Rattle.timbuk_definitions.specs.Machine.{Spot}
use Rattle.timbuk_definitions.specs.Progress.{HasRead}
use Rattle.timbuk_text.specs.declared.table.Stand.{Stand}
use Rattle.timbuk_text.specs.Table.{stand_of}
use Rattle.timbuk_text.specs.Store.{Store, HasItems, Carries, IsFew}

-- the tokens before this place are read: the store has what they say
pub record IsReading (text : List ℕ) (at : ℕ) (stand : Stand) (s : Store) : Type 0 where
  pub gap : List ℕ
  pub front : List Lexeme
  pub back : List Lexeme
  pub items : List Item
  pub spot : Spot
  pub read : HasRead text gap front back items spot
  pub rest : drop at text ≡ text_of back
  pub solid : ¬ BeginsWhite (drop at text)
  pub stands : stand ≡ stand_of spot
  pub lists : HasItems s items
  pub carries : Carries s spot
  pub few : IsFew s

-- the automaton of the lists
abbrev pub automaton_of : Store → Automaton
automaton_of s = record {
  bits = 0;
  name = unwrap_or s.title (codes "anonymous");
  symbols = s.symbols;
  states = s.states;
  finals = s.finals;
  rules = s.rules;
}
