-- The automaton with one rule, under its one symbol from its one state to itself, is well formed.
use Rattle.std.proofs.Common.{◌≢◌, ◌<◌, inl, ℕ, List, [], ◌∷◌, refl, arith}
use Rattle.std.specs.Prelude.{All, AllPairs}
use Rattle.std.proofs.lemmas.List.Elements.{All-cons, All-nil}
use Rattle.tree_definitions.specs.Tree.{Symbol}
use Rattle.tree_definitions.specs.Automaton.{Automaton, Rule, IsAutomaton, FitsRule}
use Rattle.tree_definitions.specs.Name.{IsName}
use Rattle.ta_model.specs.Listing.{IsListed}

single : {X : Type 0} (P : X → Type 0) (x : X) → P x → All P (x ∷ [])
single P x p = All-cons P x [] p (All-nil P)

alone : {X : Type 0} (x : X) → AllPairs ◌≢◌ (x ∷ [])
alone x i j d below within same = absurd (omega arith)

-- the automaton with this name, this state and this symbol
abbrev pub one : List ℕ → List ℕ → List ℕ → Automaton
one title state symbol = record {
  bits = 0;
  name = title;
  symbols = record { name = symbol; rank = 1 } ∷ [];
  states = state ∷ [];
  finals = 0 ∷ [];
  rules = record { symbol = 0; kids = 0 ∷ []; parent = 0 } ∷ [];
}

pub one_rule : (title state symbol : List ℕ) → IsName title → IsName state → IsName symbol → IsListed (one title state symbol)
one_rule title state symbol t s l =
    let a : Symbol = record { name = symbol; rank = 1 } in
    let line : Rule = record { symbol = 0; kids = 0 ∷ []; parent = 0 } in
    let fits : FitsRule (one title state symbol) line = record { symbol = (a, refl, refl); kids = single (λ q. q < 1) 0 (omega arith); parent = omega arith } in
    let automaton : IsAutomaton (one title state symbol) = record {
      symbols = alone a;
      states = alone state;
      finals = alone 0;
      rules = alone line;
      final_states = single (λ q. q < 1) 0 (omega arith);
      fitting = single (FitsRule (one title state symbol)) line fits;
      form = inl refl;
    } in
    record {
      automaton = automaton;
      narrow = refl;
      name = t;
      symbol_names = single (λ b. IsName b.name) a l;
      state_names = single IsName state s;
      few_symbols = omega arith;
      few_states = omega arith;
      few_rules = omega arith;
    }
