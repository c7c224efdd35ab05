-- The tokens that name states: each takes its name into the list of states.
use Rattle.std.proofs.Common.{◌≡◌, ◌≢◌, ℕ, ◌<◌, ◌≤◌, Bool, List, [], ◌∷◌, ◌++◌, length, Some, refl, sym, ap, ◌∙◌, subst, arith}
use Rattle.std.specs.Prelude.{AllPairs, Contains, filter_map, nat_eq}
use Rattle.std.specs.List.{AllZip}
use Rattle.std.specs.Str.{bytes_eq}
use Rattle.std.specs.Ordering.{eq_by_cmp}
use Rattle.std.proofs.lemmas.Bool.Decides.{Decides-eqb}
use Rattle.std.proofs.lemmas.Slice.Eq.{bytes_eq-Decides}
use Rattle.tree_definitions.specs.Automaton.{Rule}
use Rattle.tree_definitions.specs.Canonical.{rule_cmp}
use Rattle.tree_definitions.specs.Relation.{IsAt}
use Rattle.tree_definitions.specs.Joint.{same_symbol}
use Rattle.tree_definitions.proofs.Members.{at_unique}
use Rattle.tree_definitions.proofs.CanonicalForms.{rules_total, rules_exact, ties_decide}
use Rattle.timbuk_definitions.specs.Token.{Token}
use Rattle.timbuk_definitions.specs.Grammar.{Item, StateName, FinalName, KidName, ParentName, NamedRule}
use Rattle.timbuk_definitions.specs.Reading.{with_new, same_rule, symbol_of, state_of, symbols_of, states_of, finals_of, rules_of, IsRuleAt}
use Rattle.timbuk_definitions.specs.Place.{Names, Rank, States, Rules, IsFull}
use Rattle.timbuk_definitions.proofs.Firsts.{one_place, first_distinct}
use Rattle.timbuk_definitions.proofs.Spelled.{symbol_decides, rule_decides, rule_unique}
use Rattle.timbuk_definitions.proofs.Formed.{rule_functional, zip_length}
use Rattle.timbuk_text.specs.declared.table.Action.{Action}
use Rattle.timbuk_text.specs.Rules.{Puts}
use Rattle.timbuk_text.specs.Store.{Store, HasItems, IsFew}
use Rattle.timbuk_text.specs.Taking.{IsRuleRead, item, Adds, Takes, IsLeast, Passes, Interns, line_read}
use Rattle.timbuk_text.proofs.Listed.{with_option, at_new, zip_new, zip_left, zip_right, firsts_push}
use Rattle.timbuk_text.proofs.Taken.{pushed, no_some, one_some, zip_grown, rules_grown, within_all, long, names_least, rank_least, states_least, rules_least, full_as, is_full_as, TooLong}

-- One name of a state is taken into the list.
module _ (old : Store) (w : List ℕ) (states : List (List ℕ)) (q : ℕ) (s : Interns bytes_eq 1000000 old.states states w q) where
  pub grows : (i : ℕ) (n : List ℕ) → IsAt old.states i n → IsAt states i n
  grows i n h = subst (λ l. IsAt l i n) (sym s.list) (at_new bytes_eq old.states w i n h)

  module _ (items : List Item) (x : Item) (h : HasItems old items) (eq : state_of x ≡ Some w) where
    list : states ≡ with_option bytes_eq old.states (state_of x)
    list = s.list ∙ sym (ap (with_option bytes_eq old.states) eq)

    distinct : AllPairs ◌≢◌ states
    distinct = subst (AllPairs ◌≢◌)
        (sym (list ∙ ap (λ l. with_option bytes_eq l (state_of x)) h.states ∙ sym (firsts_push bytes_eq bytes_eq-Decides state_of items x)))
        (first_distinct bytes_eq bytes_eq-Decides (filter_map state_of (items ++ x ∷ [])))

    one_state : (i j : ℕ) (n : List ℕ) → IsAt states i n → IsAt states j n → i ≡ j
    one_state i j n a b = one_place states distinct i j n a b

    old_finals : AllZip (IsAt states) old.finals (finals_of items)
    old_finals = zip_grown old.states states grows old.finals (finals_of items) h.finals

    old_rules : AllZip (IsRuleAt old.symbols states) old.rules (rules_of items)
    old_rules = rules_grown old.symbols old.symbols old.states states (λ i a at. at) grows old.rules (rules_of items) h.rules

  room : (items : List Item) → HasItems old items → ¬ IsFull 1000000 (states_of items) w
  room items h = full_as 1000000 old.states (states_of items) w h.states s.room

-- `States`
abbrev with_states : Store → List (List ℕ) → Store
with_states old states = record old { states = states }

pub state_taken : (old : Store) (w : List ℕ) (states : List (List ℕ)) (q : ℕ) → length w ≤ 1000 → Interns bytes_eq 1000000 old.states states w q → IsFew old → Takes Action.State w old (with_states old states)
state_taken old w states q short s few = record {
  adds = λ items t role says h. subst (λ r. Adds old (with_states old states) items (item t r)) (sym says) (record {
    lists = pushed old (with_states old states) items (item t (StateName w)) h (record {
      title = refl;
      one_title = λ v e. absurd cc;
      symbols = refl;
      states = s.list;
      finals = old_finals old w states q s items (item t (StateName w)) h refl;
      rules = old_rules old w states q s items (item t (StateName w)) h refl;
    });
    within = within_all items (item t (StateName w)) (one_some TooLong w (long w short)) (λ o. o) (no_some (IsFull 65535 (symbols_of items)))
        (one_some (IsFull 1000000 (states_of items)) w (room old w states q s items h)) (no_some (IsFull 2000000 (rules_of items)));
  });
  after = tt;
  grows = grows old w states q s;
  few = record { symbols = few.symbols; states = s.few; rules = few.rules };
}

pub state_long : (old : Store) (w : List ℕ) → 1000 < length w → Passes Action.State w old Names
state_long old w over = λ items t role says h. subst (λ r. IsLeast items (item t r) Names) (sym says) (names_least items (item t (StateName w)) (w, refl, over))

pub state_full : (old : Store) (w : List ℕ) → length w ≤ 1000 → IsFull 1000000 old.states w → Passes Action.State w old States
state_full old w short full = λ items t role says h. subst (λ r. IsLeast items (item t r) States) (sym says)
    (states_least items (item t (StateName w)) (w, refl, is_full_as 1000000 old.states (states_of items) w h.states full) (one_some TooLong w (long w short)) (λ o. o) (no_some (IsFull 65535 (symbols_of items))))

-- `Final States`
abbrev with_final : Store → List (List ℕ) → ℕ → Store
with_final old states q = record old { states = states; finals = with_new nat_eq old.finals q }

pub final_taken : (old : Store) (w : List ℕ) (states : List (List ℕ)) (q : ℕ) → length w ≤ 1000 → Interns bytes_eq 1000000 old.states states w q → IsFew old → Takes Action.Final w old (with_final old states q)
final_taken old w states q short s few = record {
  adds = λ items t role says h. subst (λ r. Adds old (with_final old states q) items (item t r)) (sym says) (
      let x : Item = item t (FinalName w) in
      record {
        lists = pushed old (with_final old states q) items (item t (FinalName w)) h (record {
          title = refl;
          one_title = λ v e. absurd cc;
          symbols = refl;
          states = s.list;
          finals = zip_new (IsAt states) nat_eq bytes_eq (λ a b. Decides-eqb a b) bytes_eq-Decides (at_unique states) (one_state old w states q s items (item t (FinalName w)) h refl)
              old.finals (finals_of items) q w (old_finals old w states q s items (item t (FinalName w)) h refl) s.at;
          rules = old_rules old w states q s items (item t (FinalName w)) h refl;
        });
        within = within_all items (item t (FinalName w)) (one_some TooLong w (long w short)) (λ o. o) (no_some (IsFull 65535 (symbols_of items)))
            (one_some (IsFull 1000000 (states_of items)) w (room old w states q s items h)) (no_some (IsFull 2000000 (rules_of items)));
      }
      );
  after = tt;
  grows = grows old w states q s;
  few = record { symbols = few.symbols; states = s.few; rules = few.rules };
}

pub final_long : (old : Store) (w : List ℕ) → 1000 < length w → Passes Action.Final w old Names
final_long old w over = λ items t role says h. subst (λ r. IsLeast items (item t r) Names) (sym says) (names_least items (item t (FinalName w)) (w, refl, over))

pub final_full : (old : Store) (w : List ℕ) → length w ≤ 1000 → IsFull 1000000 old.states w → Passes Action.Final w old States
final_full old w short full = λ items t role says h. subst (λ r. IsLeast items (item t r) States) (sym says)
    (states_least items (item t (FinalName w)) (w, refl, is_full_as 1000000 old.states (states_of items) w h.states full) (one_some TooLong w (long w short)) (λ o. o) (no_some (IsFull 65535 (symbols_of items))))

-- The children of a rule.
abbrev with_kid : Store → List (List ℕ) → ℕ → Store
with_kid old states q = record old { states = states; kids = old.kids ++ q ∷ [] }

pub kid_taken : (old : Store) (w : List ℕ) (states : List (List ℕ)) (q : ℕ) → length w ≤ 1000 → length old.kids < 32 → Interns bytes_eq 1000000 old.states states w q → IsFew old → Takes Action.Kid w old (with_kid old states q)
kid_taken old w states q short fits s few = record {
  adds = λ items t role says h. subst (λ r. Adds old (with_kid old states q) items (item t r)) (sym says) (record {
    lists = pushed old (with_kid old states q) items (item t (KidName (length old.kids) w)) h (record {
      title = refl;
      one_title = λ v e. absurd cc;
      symbols = refl;
      states = s.list;
      finals = old_finals old w states q s items (item t (KidName (length old.kids) w)) h refl;
      rules = old_rules old w states q s items (item t (KidName (length old.kids) w)) h refl;
    });
    within = within_all items (item t (KidName (length old.kids) w)) (one_some TooLong w (long w short)) (λ o. omega (arith, o, fits)) (no_some (IsFull 65535 (symbols_of items)))
        (one_some (IsFull 1000000 (states_of items)) w (room old w states q s items h)) (no_some (IsFull 2000000 (rules_of items)));
  });
  after = record { head = refl; few = fits; place = q; kids = refl; state = s.at };
  grows = grows old w states q s;
  few = record { symbols = few.symbols; states = s.few; rules = few.rules };
}

pub kid_long : (old : Store) (w : List ℕ) → 1000 < length w → Passes Action.Kid w old Names
kid_long old w over = λ items t role says h. subst (λ r. IsLeast items (item t r) Names) (sym says) (names_least items (item t (KidName (length old.kids) w)) (w, refl, over))

pub kid_high : (old : Store) (w : List ℕ) → length w ≤ 1000 → 32 ≤ length old.kids → Passes Action.Kid w old Rank
kid_high old w short over = λ items t role says h. subst (λ r. IsLeast items (item t r) Rank) (sym says) (rank_least items (item t (KidName (length old.kids) w)) over (one_some TooLong w (long w short)))

pub kid_full : (old : Store) (w : List ℕ) → length w ≤ 1000 → length old.kids < 32 → IsFull 1000000 old.states w → Passes Action.Kid w old States
kid_full old w short fits full = λ items t role says h. subst (λ r. IsLeast items (item t r) States) (sym says)
    (states_least items (item t (KidName (length old.kids) w)) (w, refl, is_full_as 1000000 old.states (states_of items) w h.states full) (one_some TooLong w (long w short)) (λ o. omega (arith, o, fits)) (no_some (IsFull 65535 (symbols_of items))))

-- The parent of a rule, and the rule.
abbrev same_line : Rule → Rule → Bool
same_line = eq_by_cmp rule_cmp

abbrev with_rule : Store → List (List ℕ) → List Rule → Store
with_rule old states rules = record old { states = states; rules = rules }

module _ (old : Store) (w : List ℕ) (states : List (List ℕ)) (q : ℕ) (s : Interns bytes_eq 1000000 old.states states w q) (items : List Item) (t : Token) (h : HasItems old items) (r : NamedRule) (read : IsRuleRead old w r) where
  abbrev parent : Item
  parent = item t (ParentName r)

  named : state_of parent ≡ Some w
  named = ap Some read.parent

  line_at : IsRuleAt old.symbols states (line_read old q) r
  line_at = record {
    symbol = read.symbol;
    kids = zip_grown old.states states (grows old w states q s) old.kids r.kids read.kids;
    parent = subst (IsAt states q) (sym read.parent) s.at;
  }

  symbols_distinct : AllPairs ◌≢◌ old.symbols
  symbols_distinct = subst (AllPairs ◌≢◌) (sym h.symbols) (first_distinct same_symbol symbol_decides (filter_map symbol_of items))

  one_line : (l l' : Rule) (r : NamedRule) → IsRuleAt old.symbols states l r → IsRuleAt old.symbols states l' r → l ≡ l'
  one_line = rule_unique old.symbols states symbols_distinct (distinct old w states q s items parent h named)

  rules_zip : AllZip (IsRuleAt old.symbols states) old.rules (rules_of items)
  rules_zip = old_rules old w states q s items parent h named

  new_rules : AllZip (IsRuleAt old.symbols states) (with_new same_line old.rules (line_read old q)) (with_new same_rule (rules_of items) r)
  new_rules = zip_new (IsRuleAt old.symbols states) same_line same_rule (ties_decide rules_total rules_exact) rule_decides (rule_functional old.symbols states) one_line old.rules (rules_of items) (line_read old q) r rules_zip line_at

  rules_long : length old.rules ≡ length (rules_of items)
  rules_long = zip_length (IsRuleAt old.symbols states) old.rules (rules_of items) rules_zip

  rules_room : ¬ IsFull 2000000 old.rules (line_read old q) → ¬ IsFull 2000000 (rules_of items) r
  rules_room n full = n (
    λ m. (let p = zip_left (IsRuleAt old.symbols states) old.rules (rules_of items) (line_read old q) rules_zip m in
        full.0 (subst (Contains (rules_of items)) (rule_functional old.symbols states (line_read old q) p.0 r p.2 line_at) p.1)),
    omega (arith, full.1, rules_long),
  )

  rules_full : IsFull 2000000 old.rules (line_read old q) → IsFull 2000000 (rules_of items) r
  rules_full full = (
    λ m. (let p = zip_right (IsRuleAt old.symbols states) old.rules (rules_of items) r rules_zip m in
        full.0 (subst (Contains old.rules) (one_line p.0 (line_read old q) r p.2 line_at) p.1)),
    omega (arith, full.1, rules_long),
  )

  states_room : ¬ IsFull 1000000 (states_of items) r.parent
  states_room = subst (λ n. ¬ IsFull 1000000 (states_of items) n) (sym read.parent) (room old w states q s items h)

  not_long : length w ≤ 1000 → ¬ TooLong r.parent
  not_long short = subst (λ n. ¬ TooLong n) (sym read.parent) (long w short)

  parent_adds : (rules : List Rule) → length w ≤ 1000 → Puts old.rules rules (line_read old q) → Adds old (with_rule old states rules) items parent
  parent_adds rules short u = record {
    lists = pushed old (with_rule old states rules) items parent h (record {
      title = refl;
      one_title = λ v e. absurd cc;
      symbols = refl;
      states = list old w states q s items parent h named;
      finals = old_finals old w states q s items parent h named;
      rules = subst (λ l. AllZip (IsRuleAt old.symbols states) l (with_new same_rule (rules_of items) r)) (sym u.list) new_rules;
    });
    within = within_all items parent (one_some TooLong r.parent (not_long short)) (λ o. o) (no_some (IsFull 65535 (symbols_of items)))
        (one_some (IsFull 1000000 (states_of items)) r.parent states_room) (one_some (IsFull 2000000 (rules_of items)) r (rules_room u.room));
  }

  parent_least : length w ≤ 1000 → IsFull 2000000 old.rules (line_read old q) → IsLeast items parent Rules
  parent_least short full = rules_least items parent (r, refl, rules_full full) (one_some TooLong r.parent (not_long short)) (λ o. o) (no_some (IsFull 65535 (symbols_of items)))
      (one_some (IsFull 1000000 (states_of items)) r.parent states_room)

pub parent_taken : (old : Store) (w : List ℕ) (states : List (List ℕ)) (q : ℕ) (rules : List Rule) → length w ≤ 1000 → Interns bytes_eq 1000000 old.states states w q
    → Puts old.rules rules (line_read old q) → IsFew old → Takes Action.Parent w old (with_rule old states rules)
parent_taken old w states q rules short s u few = record {
  adds = λ items t role says h. subst (λ r. Adds old (with_rule old states rules) items (item t r)) (sym says.1) (parent_adds old w states q s items t h says.0 says.2 rules short u);
  after = tt;
  grows = grows old w states q s;
  few = record { symbols = few.symbols; states = s.few; rules = u.few };
}

pub parent_long : (old : Store) (w : List ℕ) → 1000 < length w → Passes Action.Parent w old Names
parent_long old w over = λ items t role says h. subst (λ r. IsLeast items (item t r) Names) (sym says.1)
    (names_least items (item t (ParentName says.0)) (w, ap Some says.2.parent, over))

pub parent_full : (old : Store) (w : List ℕ) → length w ≤ 1000 → IsFull 1000000 old.states w → Passes Action.Parent w old States
parent_full old w short full = λ items t role says h. subst (λ r. IsLeast items (item t r) States) (sym says.1)
    (states_least items (item t (ParentName says.0)) (w, ap Some says.2.parent, is_full_as 1000000 old.states (states_of items) w h.states full)
    (one_some TooLong says.0.parent (subst (λ n. ¬ TooLong n) (sym says.2.parent) (long w short))) (λ o. o) (no_some (IsFull 65535 (symbols_of items))))

pub rule_full : (old : Store) (w : List ℕ) (states : List (List ℕ)) (q : ℕ) → length w ≤ 1000 → Interns bytes_eq 1000000 old.states states w q → IsFull 2000000 old.rules (line_read old q) → Passes Action.Parent w old Rules
rule_full old w states q short s full = λ items t role says h. subst (λ r. IsLeast items (item t r) Rules) (sym says.1) (parent_least old w states q s items t h says.0 says.2 short full)
