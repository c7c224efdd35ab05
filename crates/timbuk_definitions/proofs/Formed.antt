-- What a text spells is an automaton: no list has a repeat, and each place is in range.
use Rattle.std.proofs.Common.{◌≡◌, ◌≢◌, inl, ℕ, zero, suc, ◌<◌, List, [], ◌∷◌, length, get_or, refl, sym, ap, ◌∙◌, subst, arith}
use Rattle.std.specs.Prelude.{AllPairs, filter_map}
use Rattle.std.specs.List.{AllByRecursion, AllZip}
use Rattle.std.specs.Str.{bytes_eq}
use Rattle.std.proofs.lemmas.List.Elements.{All-from_recursion}
use Rattle.std.proofs.lemmas.Slice.Eq.{bytes_eq-Decides}
use Rattle.tree_definitions.specs.Tree.{Symbol}
use Rattle.tree_definitions.specs.Automaton.{Automaton, Rule, IsState, FitsRule as FitsLine, IsAutomaton}
use Rattle.tree_definitions.specs.Relation.{IsAt}
use Rattle.tree_definitions.specs.Joint.{same_symbol}
use Rattle.tree_definitions.proofs.Members.{at_unique}
use Rattle.timbuk_definitions.specs.Grammar.{Item, NamedRule, IsFile}
use Rattle.timbuk_definitions.specs.Reading.{same_rule, symbol_of, state_of, final_of, rule_in, finals_of, rules_of, IsRuleAt, HasLists}
use Rattle.timbuk_definitions.proofs.Firsts.{one_place, at_index, first_distinct, first_contains}
use Rattle.timbuk_definitions.proofs.Spelled.{symbol_decides, rule_decides}
use Rattle.timbuk_definitions.proofs.Built.{RuleKnown, file_rules, each_contains}

-- of two lists that go together, the values at one place
zip_at : {X Y : Type 0} (R : X → Y → Type 0) (xs : List X) (ys : List Y) → AllZip R xs ys → (i : ℕ) (d : X) → i < length xs → (y : Y) × IsAt ys i y × R (get_or xs i d) y
zip_at R [] ys h i d l = absurd (omega arith)
zip_at R (x ∷ xs) [] h i d l = absurd h
zip_at R (x ∷ xs) (y ∷ ys) h zero d l = (y, refl, h.0)
zip_at R (x ∷ xs) (y ∷ ys) h (suc i) d l = zip_at R xs ys h.1 i d (omega arith)

pub zip_length : {X Y : Type 0} (R : X → Y → Type 0) (xs : List X) (ys : List Y) → AllZip R xs ys → length xs ≡ length ys
zip_length R [] [] h = refl
zip_length R [] (y ∷ ys) h = absurd h
zip_length R (x ∷ xs) [] h = absurd h
zip_length R (x ∷ xs) (y ∷ ys) h = ap suc (zip_length R xs ys h.1)

-- a list has no repeats where what it stands for has none
pub zip_distinct : {X Y : Type 0} (R : X → Y → Type 0) → ((x : X) (y y' : Y) → R x y → R x y' → y ≡ y') → (xs : List X) (ys : List Y) → AllZip R xs ys → AllPairs ◌≢◌ ys → AllPairs ◌≢◌ xs
zip_distinct R one xs ys h distinct i j d l m same =
    let p = zip_at R xs ys h i d (omega arith) in
    let q = zip_at R xs ys h j d m in
    let e : p.0 ≡ q.0 = one (get_or xs j d) p.0 q.0 (subst (λ x. R x p.0) same p.2) q.2 in
    let both : i ≡ j = one_place ys distinct i j q.0 (subst (IsAt ys i) e p.1) q.1 in
    omega (arith, both)

zip_each : {X Y : Type 0} (R : X → Y → Type 0) (P : X → Type 0) → ((x : X) (y : Y) → R x y → P x) → (xs : List X) (ys : List Y) → AllZip R xs ys → AllByRecursion P xs
zip_each R P f [] ys h = tt
zip_each R P f (x ∷ xs) [] h = absurd h
zip_each R P f (x ∷ xs) (y ∷ ys) h = (f x y h.0, zip_each R P f xs ys h.1)

zip_each_with : {X Y : Type 0} (R : X → Y → Type 0) (P : X → Type 0) (Q : Y → Type 0) → ((x : X) (y : Y) → R x y → Q y → P x) → (xs : List X) (ys : List Y) → AllZip R xs ys → AllByRecursion Q ys → AllByRecursion P xs
zip_each_with R P Q f [] ys h k = tt
zip_each_with R P Q f (x ∷ xs) [] h k = absurd h
zip_each_with R P Q f (x ∷ xs) (y ∷ ys) h k = (f x y h.0 k.0, zip_each_with R P Q f xs ys h.1 k.1)

pub zip_functional : {X Y : Type 0} (R : X → Y → Type 0) → ((x : X) (y y' : Y) → R x y → R x y' → y ≡ y') → (xs : List X) (ys ys' : List Y) → AllZip R xs ys → AllZip R xs ys' → ys ≡ ys'
zip_functional R one [] [] [] h g = refl
zip_functional R one [] [] (y ∷ ys) h g = absurd g
zip_functional R one [] (y ∷ ys) ys' h g = absurd h
zip_functional R one (x ∷ xs) [] ys' h g = absurd h
zip_functional R one (x ∷ xs) (y ∷ ys) [] h g = absurd g
zip_functional R one (x ∷ xs) (y ∷ ys) (y' ∷ ys') h g = λ i. one x y y' h.0 g.0 i ∷ zip_functional R one xs ys ys' h.1 g.1 i

pub rule_functional : (symbols : List Symbol) (states : List (List ℕ)) (l : Rule) (r s : NamedRule) → IsRuleAt symbols states l r → IsRuleAt symbols states l s → r ≡ s
rule_functional symbols states l r s h g =
    let a = at_unique symbols l.symbol r.symbol s.symbol h.symbol g.symbol in
    let k = zip_functional (IsAt states) (at_unique states) l.kids r.kids s.kids h.kids g.kids in
    let p = at_unique states l.parent r.parent s.parent h.parent g.parent in
    λ i. record { symbol = a i; kids = k i; parent = p i }

within : {X : Type 0} (xs : List X) (i : ℕ) (x : X) → IsAt xs i x → i < length xs
within xs i x h = (at_index xs i x x h).0

line_fits : (A : Automaton) (l : Rule) (r : NamedRule) → IsRuleAt A.symbols A.states l r → r.symbol.rank ≡ length r.kids → FitsLine A l
line_fits A l r h rank = record {
  symbol = (r.symbol, h.symbol, zip_length (IsAt A.states) l.kids r.kids h.kids ∙ sym rank);
  kids = All-from_recursion (IsState A) l.kids (zip_each (IsAt A.states) (IsState A) (within A.states) l.kids r.kids h.kids);
  parent = within A.states l.parent r.parent h.parent;
}

pub file_formed : (items : List Item) (A : Automaton) → IsFile items → HasLists items A → IsAutomaton A
file_formed items A file lists =
    let symbols : AllPairs ◌≢◌ A.symbols = subst (AllPairs ◌≢◌) (sym lists.symbols) (first_distinct same_symbol symbol_decides (filter_map symbol_of items)) in
    let states : AllPairs ◌≢◌ A.states = subst (AllPairs ◌≢◌) (sym lists.states) (first_distinct bytes_eq bytes_eq-Decides (filter_map state_of items)) in
    let known = each_contains (RuleKnown items) (rules_of items) (λ r m. file_rules items file r ((first_contains same_rule rule_decides (filter_map rule_in items) r).0 m)) in
    record {
      symbols = symbols;
      states = states;
      finals = zip_distinct (IsAt A.states) (at_unique A.states) A.finals (finals_of items) lists.finals (first_distinct bytes_eq bytes_eq-Decides (filter_map final_of items));
      rules = zip_distinct (IsRuleAt A.symbols A.states) (rule_functional A.symbols A.states) A.rules (rules_of items) lists.rules (first_distinct same_rule rule_decides (filter_map rule_in items));
      final_states = All-from_recursion (IsState A) A.finals (zip_each (IsAt A.states) (IsState A) (within A.states) A.finals (finals_of items) lists.finals);
      fitting = All-from_recursion (FitsLine A) A.rules (zip_each_with (IsRuleAt A.symbols A.states) (FitsLine A) (RuleKnown items) (λ l r at k. line_fits A l r at k.rank) A.rules (rules_of items) lists.rules known);
      form = inl lists.narrow;
    }
