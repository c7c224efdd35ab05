-- A printed text spells what was printed.
use Rattle.std.proofs.Common.{◌≡◌, ℕ, ◌+◌, ◌<◌, ◌^◌, List, [], ◌∷◌, length, get_or, take, sym, subst, arith}
use Rattle.std.specs.Prelude.{Result, Ok, Err, IfOk, OnOk, All}
use Rattle.std.specs.List.{AllByRecursion}
use Rattle.std.proofs.lemmas.List.{take_more}
use Rattle.std.proofs.lemmas.List.Elements.{recursion_from_All, All-push}
use Rattle.tree_definitions.specs.Name.{IsName}
use Rattle.tree_definitions.specs.Tree.{Symbol}
use Rattle.std.specs.List.Sorted.{IsPermutation}
use Rattle.std.proofs.lemmas.List.Sorted.{All-permutation}
use Rattle.std.proofs.lemmas.Option.{slice_get_within}
use Rattle.tree_definitions.specs.Automaton.{Automaton, Rule}
use Rattle.ta_model.specs.Listing.{IsListed}
use Rattle.timbuk_text.specs.Fitting.{IsRuleOver}
use Rattle.timbuk_definitions.specs.Reading.{Spells}
use Rattle.tree_definitions.specs.Canonical.{canon}
use Rattle.timbuk_definitions.specs.Printed.{print, HasNames}
use Rattle.timbuk_definitions.proofs.CanonicalText.{print_read_back}

both_each : (xs : List Symbol) → AllByRecursion (λ (a : Symbol). IsName a.name) xs → AllByRecursion (λ (a : Symbol). a.rank < 256) xs → AllByRecursion (λ (a : Symbol). IsName a.name × (a.rank < 2 ^ 64)) xs
both_each [] h k = tt
both_each (x ∷ xs) h k = ((h.0, omega (arith, k.0)), both_each xs h.1 k.1)

names : (A : Automaton) → IsListed A → All (λ (a : Symbol). a.rank < 256) A.symbols → HasNames A
names A h small = record {
  name = h.name;
  symbols = both_each A.symbols (recursion_from_All (λ (a : Symbol). IsName a.name) A.symbols h.symbol_names) (recursion_from_All (λ (a : Symbol). a.rank < 256) A.symbols small);
  states = recursion_from_All IsName A.states h.state_names;
}

pub spells_as : {X E : Type 0} (f : X → List ℕ) (A : Automaton) (r : Result X E) → IfOk r (λ v. f v ≡ print A) → OnOk r (All (λ (a : Symbol). a.rank < 256) A.symbols) → OnOk r (IsListed A) → IfOk r (λ v. Spells (f v) (canon A))
spells_as f A (Ok v) text small listed = subst (λ t. Spells t (canon A)) (sym text) (print_read_back A listed.automaton listed.narrow (names A listed small))
spells_as f A (Err x) text small listed = text

-- one more symbol of small rank
pub rank_taken : (symbols : List Symbol) (i : ℕ) (a : Symbol) → i < length symbols → a ≡ get_or symbols i a → All (λ (s : Symbol). s.rank < 256) (take i symbols) → a.rank < 256 → All (λ (s : Symbol). s.rank < 256) (take (i + 1) symbols)
rank_taken symbols i a l is h small =
    subst (All (λ (s : Symbol). s.rank < 256)) (sym (take_more symbols i a l)) (All-push (λ (s : Symbol). s.rank < 256) (take i symbols) (get_or symbols i a) h (subst (λ (s : Symbol). s.rank < 256) is small))

-- what the printer asks of the parts of an automaton
pub finals_over : (A : Automaton) → IsListed A → (finals sorted : List ℕ) → finals ≡ A.finals → IsPermutation finals sorted → (states : List (List ℕ)) → states ≡ A.states → All (λ q. q < length states) sorted
finals_over A h finals sorted is p states same =
    subst (λ xs. All (λ q. q < length xs) sorted) (sym same) (All-permutation (λ q. q < length A.states) _ _ p (subst (All (λ q. q < length A.states)) (sym is) h.automaton.final_states))

pub rules_over : (A : Automaton) → IsListed A → (symbols : List Symbol) → symbols ≡ A.symbols → (states : List (List ℕ)) → states ≡ A.states → (rs : List Rule) → rs ≡ A.rules → All (IsRuleOver symbols (length states)) rs
rules_over A h symbols sames states same rs is =
    subst (λ xs. All (IsRuleOver xs (length states)) rs) (sym sames)
    (subst (λ xs. All (IsRuleOver A.symbols (length xs)) rs) (sym same) (subst (All (IsRuleOver A.symbols (length A.states))) (sym is) over))
  where
    over : All (IsRuleOver A.symbols (length A.states)) A.rules
    over = λ k d l. let f = h.automaton.fitting k d l in record { symbol = slice_get_within A.symbols _ f.symbol.0 f.symbol.1; kids = f.kids; parent = f.parent }
