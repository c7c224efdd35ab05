-- The automaton of all trees over a leaf and a fork, in itself: both certificates can be met.
use Rattle.std.proofs.Common.{◌≡◌, inl, inr, ℕ, zero, suc, ◌<◌, List, [], ◌∷◌, ◌++◌, length, true, refl, sym, ap, subst, arith}
use Rattle.std.specs.Prelude.{◌≢◌, Contains, All, AllPairs}
use Rattle.std.specs.List.{AllZip}
use Rattle.std.proofs.Math.Decide.{ℕ_discrete}
use Rattle.std.proofs.lemmas.List.Elements.{All-nil, All-cons, All-contains}
use Rattle.tree_definitions.specs.Tree.{Symbol, Node, NoTrees, More, Tree}
use Rattle.tree_definitions.specs.Automaton.{Automaton, Rule, IsLabel, IsRule, HasRule, IsFinal, IsState, FitsRule, IsAutomaton}
use Rattle.tree_definitions.specs.Language.{Accepts}
use Rattle.tree_definitions.specs.Relation.{Relation, Places, Row, Matrix, Holds, Has, IsAt}
use Rattle.tree_definitions.specs.Simulation.{IsDown, IsUp}
use Rattle.tree_definitions.specs.Joint.{JointRule, right}
use Rattle.tree_definitions.specs.Cover.{Pair, Post}
use Rattle.tree_definitions.specs.UpCert.{UpCert, AreListed, IsCoveredUp}
use Rattle.tree_definitions.specs.DownCert.{DownCert, Downs, IsCoveredDown, SentTo}
use Rattle.tree_definitions.proofs.Members.{contains_none, contains_cases, contains_head, contains_at, at_within}
use Rattle.tree_definitions.proofs.Matrices.{rows_of, rows_hold, rows_say}
use Rattle.tree_definitions.proofs.Listing.{parent_state, kid_states}
use Rattle.tree_definitions.proofs.Joins.{joint_kids}
use Rattle.tree_definitions.proofs.Greatest.{AllZip-itself}

abbrev leaf : Symbol
leaf = record { name = 97 ∷ []; rank = 0 }

abbrev fork : Symbol
fork = record { name = 102 ∷ []; rank = 2 }

-- a -> q and f(q,q) -> q
abbrev leaf_rule : Rule
leaf_rule = record { symbol = 0; kids = []; parent = 0 }

abbrev fork_rule : Rule
fork_rule = record { symbol = 1; kids = 0 ∷ 0 ∷ []; parent = 0 }

abbrev pub all : Automaton
all = record {
  bits = 0;
  name = [];
  symbols = leaf ∷ fork ∷ [];
  states = (113 ∷ []) ∷ [];
  finals = 0 ∷ [];
  rules = leaf_rule ∷ fork_rule ∷ [];
}

-- f(a,a)
abbrev pub tree : Tree
tree = Node fork (More (Node leaf NoTrees) (More (Node leaf NoTrees) NoTrees))

pub accepts_tree : Accepts all tree
unfolding IsRule IsLabel
accepts_tree = (0, contains_head 0 [], (0 ∷ 0 ∷ [], (1, (1, (fork, refl, refl), refl)), (([], (0, (0, (leaf, refl, refl), refl)), tt), (([], (0, (0, (leaf, refl, refl), refl)), tt), tt))))

pub one_apart : {X : Type 0} (x : X) → AllPairs ◌≢◌ (x ∷ [])
one_apart x i j d l k = absurd (omega arith)

two_apart : {X : Type 0} (x y : X) → x ≢ y → AllPairs ◌≢◌ (x ∷ y ∷ [])
two_apart x y n zero zero d l k = absurd (omega arith)
two_apart x y n zero (suc zero) d l k = n
two_apart x y n zero (suc (suc j)) d l k = absurd (omega arith)
two_apart x y n (suc i) zero d l k = absurd (omega arith)
two_apart x y n (suc i) (suc j) d l k = absurd (omega arith)

pub fits : IsAutomaton all
fits = record {
  symbols = two_apart leaf fork (λ e. let f : 0 ≡ 2 = ap (λ (a : Symbol). a.rank) e in omega arith);
  states = one_apart (113 ∷ []);
  finals = one_apart 0;
  rules = two_apart leaf_rule fork_rule (λ e. let f : 0 ≡ 1 = ap (λ (r : Rule). r.symbol) e in omega arith);
  final_states = All-cons (IsState all) 0 [] first (All-nil (IsState all));
  fitting = All-cons (FitsRule all) leaf_rule (fork_rule ∷ []) leaf_fits (All-cons (FitsRule all) fork_rule [] fork_fits (All-nil (FitsRule all)));
  form = inl refl;
}
  where
    first : IsState all 0
    first = omega arith

    leaf_fits : FitsRule all leaf_rule
    leaf_fits = record { symbol = (leaf, refl, refl); kids = All-nil (IsState all); parent = first }

    fork_fits : FitsRule all fork_rule
    fork_fits = record { symbol = (fork, refl, refl); kids = All-cons (IsState all) 0 (0 ∷ []) first (All-cons (IsState all) 0 [] first (All-nil (IsState all))); parent = first }

-- the one state
state_is : (q : ℕ) → IsState all q → q ≡ 0
state_is q l = omega arith

parent_is : (a : Symbol) (kids : List ℕ) (p : ℕ) → HasRule all a kids p → p ≡ 0
parent_is a kids p h = state_is p (parent_state all fits a kids p h)

abbrev pair : Pair
pair = record { state = 0; set = true ∷ [] }

abbrev pub pairs : List Pair
pairs = pair ∷ []

only : (x : Pair) → Contains pairs x → pair ≡ x
only x m = elim (contains_cases pair [] x m) [ inl e ↦ e | inr n ↦ absurd (contains_none x n) ]

only_place : (i j : ℕ) (x y : Pair) → IsAt pairs i x → IsAt pairs j y → i ≡ j
only_place zero zero x y p q = refl
only_place zero (suc j) x y p q = absurd cc
only_place (suc i) j x y p q = absurd cc

member_is : (s : ℕ) → Has (true ∷ []) s → s ≡ 0
member_is zero m = refl
member_is (suc s) m = absurd cc

-- each of n places is in relation with itself alone
abbrev pub identity : ℕ → Matrix
identity n = rows_of n ◌≡◌ ℕ_discrete

itself : (n q : ℕ) → q < n → Holds (identity n) q q
itself n q l = rows_hold n ◌≡◌ ℕ_discrete q q l l refl

same : (n q r : ℕ) → Holds (identity n) q r → q ≡ r
same n q r h = (rows_say n ◌≡◌ ℕ_discrete q r h).2

abbrev One : Relation
One = Holds (identity 1)

abbrev Two : Relation
Two = Holds (identity 2)

is_up : IsUp all One
is_up = record {
  finals = λ q r e f. subst (IsFinal all) (same 1 q r e) f;
  rules = λ q r e a front back p h. (p, subst (λ z. HasRule all a (front ++ z ∷ back) p) (same 1 q r e) h, itself 1 p (parent_state all fits a (front ++ q ∷ back) p h));
}

-- the listed sets have the states beside them
has_each : (kids : List ℕ) (sets : List Row) → AreListed pairs kids sets → AllZip Has sets kids
has_each [] [] l = tt
has_each [] (P ∷ Ps) l = absurd l
has_each (q ∷ qs) [] l = absurd l
has_each (q ∷ qs) (P ∷ Ps) l =
    (subst (λ (x : Pair). Has x.set x.state) (only (record { state = q; set = P }) l.0) refl, has_each qs Ps l.1)

covered_up : (a : Symbol) (kids : List ℕ) (p : ℕ) → HasRule all a kids p → (sets : List Row) → AreListed pairs kids sets
    → IsCoveredUp One One pairs p (Post all a sets)
covered_up a kids p h sets l =
    let e : p ≡ 0 = parent_is a kids p h in
    let zero_self : One 0 0 = itself 1 0 (omega arith) in (
      pair,
      contains_head pair [],
      record {
        state = subst (λ z. One z 0) (sym e) zero_self;
        set = λ s m. (0, (kids, subst (HasRule all a kids) e h, has_each kids sets l), subst (λ z. One z 0) (sym (member_is s m)) zero_self);
      },
    )

pub up_certificate : UpCert all all One One pairs
up_certificate = record {
  left = is_up;
  right = is_up;
  accepting = λ x m r. r.none 0 (subst (λ (y : Pair). Has y.set 0) (only x m) refl) (contains_head 0 []);
  leaves = λ a p h. covered_up a [] p h [] tt;
  steps = λ a q qs p h sets l. covered_up a (q ∷ qs) p h sets l;
  apart = λ i j x y ne p q c. ne (only_place i j x y p q);
}

is_down : IsDown (JointRule all all) Two
is_down q r e a kids rule =
    (kids, subst (JointRule all all a kids) (same 2 q r e) rule, AllZip-itself Two (λ k. k < 2) (itself 2) kids (joint_kids all all fits fits a kids q rule))

covered_down : (q : ℕ) → q ≡ 0 → (S : Places) → S 0 → IsCoveredDown all Two pairs q S
covered_down q e S h = inr (
  pair,
  contains_head pair [],
  record {
    state = subst (λ z. Two z 0) (sym e) (itself 2 0 (omega arith));
    set = λ s m. (0, h, subst (λ z. Two (right all z) (right all 0)) (sym (member_is s m)) (itself 2 1 (omega arith)));
  },
)

pub down_certificate : DownCert all all Two pairs
down_certificate = record {
  simulation = is_down;
  finals = λ f h. covered_down f (state_is f (All-contains (IsState all) all.finals f fits.final_states h)) (IsFinal all) (contains_head 0 []);
  choices = choices;
  apart = λ i j x y ne p q c. ne (only_place i j x y p q);
}
  where
    -- the tuple of the rule itself is sent to some place
    choices : (x : Pair) → Contains pairs x → (a : Symbol) (kids : List ℕ) → HasRule all a kids x.state
        → (choice : List ℕ → ℕ) → ((tuple : List ℕ) → Downs all a x.set tuple → choice tuple < length kids)
        → (i : ℕ) × (q : ℕ) × IsAt kids i q × IsCoveredDown all Two pairs q (SentTo all a x.set choice i)
    choices x m a kids h choice low =
        let d : Downs all a x.set kids = (x.state, subst (λ (y : Pair). Has y.set y.state) (only x m) refl, h) in
        let at : (q : ℕ) × IsAt kids (choice kids) q = at_within kids (choice kids) (low kids d) in
        let e : at.0 ≡ 0 = state_is at.0 (All-contains (IsState all) kids at.0 (kid_states all fits a kids x.state h) (contains_at kids (choice kids) at.0 at.1)) in
        (choice kids, at.0, at.1, covered_down at.0 e (SentTo all a x.set choice (choice kids)) (kids, d, refl, subst (IsAt kids (choice kids)) e at.1))

pub states : All (λ pair. IsState all pair.state) pairs
states = All-cons (λ (pair : Pair). IsState all pair.state) pair [] (omega arith) (All-nil (λ (pair : Pair). IsState all pair.state))
