use Rattle.std.proofs.Common.{◌≡◌, ◌≢◌, ◌<◌, ◌≤◌, ◌↔◌, ◌∙◌, ℕ, List, length, map, codes, refl, sym, ap, subst, arith}
use Rattle.std.specs.Prelude.{All, AllPairs, Contains}
use Rattle.std.specs.List.{AllZip}
use Rattle.std.proofs.lemmas.List.{length-map}
use Rattle.tree_definitions.specs.Tree.{Symbol}
use Rattle.tree_definitions.specs.Automaton.{Automaton, Rule, IsAutomaton}
use Rattle.tree_definitions.specs.Canonical.{canon, in_order, rule_cmp}
use Rattle.tree_definitions.specs.Name.{IsName}
use Rattle.tree_definitions.specs.Product.{pair_name}
use Rattle.tree_definitions.specs.Relation.{Has}
use Rattle.tree_definitions.proofs.CanonicalForms.{rules_total, rules_exact}
use Rattle.tree_definitions.proofs.InOrder.{in_order_same}
use Rattle.ta_model.specs.Listing.{IsListed}
use Rattle.bool_ops.specs.Joined.{FitTogether, IsPairOf}
use Rattle.bool_ops.proofs.Assembled.{multiplies}
use Rattle.bool_ops.proofs.Counted.{no_more}
use Rattle.bool_ops.proofs.Finished.{left_states, right_states, small_states, all_fit, rising_apart}
use Rattle.bool_ops.proofs.Names.{title_is_name}
use Rattle.bool_ops.proofs.WellFormed.{well_formed, joint_names, zip_length}
use Rattle.bool_ops.proofs.intersect.assemble.Goals as goal

pub finals-requires-3-clause-left : goal.finals-requires-3-clause-left
finals-requires-3-clause-left c =
    let A = c.args.left.now in
    let n : length c.in_ok-left_finals.left_finals ≡ length A.states = c.in_ok-left_finals.ensures.size ∙ ap length c.states.ensures.value in
    subst (λ k. All (λ x. x.left < k) c.in_ok-states.states) (sym n)
    (left_states A c.args.right.now c.args.alphabet.now c.args.theirs.now c.args.pairs.now c.args.found.now c.in_ok-states.states c.requires.left.automaton
    c.requires.right.automaton c.requires.stand c.requires.closed c.in_ok-states.ensures.members)

pub finals-requires-3-clause-right : goal.finals-requires-3-clause-right
finals-requires-3-clause-right c =
    let B = c.args.right.now in
    let n : length c.in_ok-right_finals.right_finals ≡ length B.states = c.in_ok-right_finals.ensures.size ∙ ap length c.states-3.ensures.value in
    subst (λ k. All (λ x. x.right < k) c.in_ok-states.states) (sym n)
    (right_states c.args.left.now B c.args.alphabet.now c.args.theirs.now c.args.pairs.now c.args.found.now c.in_ok-states.states c.requires.left.automaton
    c.requires.right.automaton c.requires.stand c.requires.closed c.in_ok-states.ensures.members)

pub rules_of-requires-clause-fits : goal.rules_of-requires-clause-fits
rules_of-requires-clause-fits c =
    subst (λ rs. All (FitTogether rs c.args.theirs.now c.in_ok-states.states) c.args.found.now) (sym c.rules.ensures.value)
    (all_fit c.args.left.now c.args.right.now c.args.alphabet.now c.args.theirs.now c.args.pairs.now c.args.found.now c.in_ok-states.states c.requires.left.automaton
    c.requires.right.automaton c.requires.stand c.requires.closed c.in_ok-states.ensures.members)

pub known-requires : goal.known-requires
known-requires c = title_is_name

-- an automaton by its parts
abbrev parts : List ℕ → List Symbol → List (List ℕ) → List ℕ → List Rule → Automaton
parts n s p fs rs = record { bits = 0; name = n; symbols = s; states = p; finals = fs; rules = rs }

same_parts : (n m : List ℕ) (s t : List Symbol) (p q : List (List ℕ)) (fs : List ℕ) (rs : List Rule) → n ≡ m → s ≡ t → p ≡ q
    → parts n s p fs rs ≡ parts m t q fs rs
same_parts n m s t p q fs rs a b c =
    ap (λ z. parts z s p fs rs) a ∙ ap (λ z. parts m z p fs rs) b ∙ ap (λ z. parts m t z fs rs) c

pub new-product-requires : goal.new-product-requires
new-product-requires c =
    let A = c.args.left.now in
    let B = c.args.right.now in
    let S = c.args.alphabet.now in
    let theirs = c.args.theirs.now in
    let pairs = c.args.pairs.now in
    let found = c.args.found.now in
    let Z = c.in_ok-states.states in
    let L = c.in_ok-left_finals.left_finals in
    let R = c.in_ok-right_finals.right_finals in
    let fs = c.in_ok-finals.finals.items in
    let rs = c.in_ok-rules.rules.items in
    let title : c.in_ok-name.name ≡ codes "isect" = c.in_ok-name.ensures in
    let symbols : c.in_ok-symbols.symbols.items ≡ S = c.in_ok-symbols.ensures.items_if_clones_equal (λ x y same. same) ∙ c.symbols.ensures.value in
    let zip : AllZip (IsPairOf A.rules theirs Z) found rs = subst (λ rules. AllZip (IsPairOf rules theirs Z) found rs) c.rules.ensures.value c.in_ok-rules.ensures in
    let names : All IsName (map pair_name Z) = subst (All IsName) c.in_ok-names.ensures.value c.in_ok-names.ensures.names in
    let symbol_names : All (λ a. IsName a.name) S =
    subst (All (λ a. IsName a.name)) (sym c.requires.symbols) (joint_names (λ a. IsName a.name) A.symbols B.symbols c.requires.left.symbol_names c.requires.right.symbol_names) in
    let few_symbols : length S ≤ 65535 = subst (λ s. length s ≤ 65535) (sym c.requires.symbols) c.requires.few_symbols in
    let small = small_states A B S theirs pairs found Z c.requires.left.automaton c.requires.right.automaton c.requires.stand c.requires.closed c.in_ok-states.ensures.members c.requires.left.few_states
    c.requires.right.few_states in
    subst IsListed (sym (same_parts c.in_ok-name.name (codes "isect") c.in_ok-symbols.symbols.items S c.in_ok-names.names.items (map pair_name Z) fs rs title symbols c.in_ok-names.ensures.value))
    (well_formed A B S theirs pairs found Z L R fs rs c.requires.stand c.requires.closed c.requires.few (rising_apart Z c.in_ok-states.ensures.rising) c.len-pairs.ensures.distinct
    c.requires.left.automaton.rules c.requires.distinct c.in_ok-states.ensures.size small c.in_ok-finals.ensures zip names title_is_name symbol_names few_symbols)

pub returns-clause-product : goal.returns-clause-product
returns-clause-product c =
    let A = c.args.left.now in
    let B = c.args.right.now in
    let S = c.args.alphabet.now in
    let theirs = c.args.theirs.now in
    let pairs = c.args.pairs.now in
    let found = c.args.found.now in
    let Z = c.in_ok-states.states in
    let L = c.in_ok-left_finals.left_finals in
    let R = c.in_ok-right_finals.right_finals in
    let fs = c.in_ok-finals.finals.items in
    let rs = c.in_ok-rules.rules.items in
    let title : c.in_ok-name.name ≡ codes "isect" = c.in_ok-name.ensures in
    let symbols : c.in_ok-symbols.symbols.items ≡ S = c.in_ok-symbols.ensures.items_if_clones_equal (λ x y same. same) ∙ c.symbols.ensures.value in
    let zip : AllZip (IsPairOf A.rules theirs Z) found rs = subst (λ rules. AllZip (IsPairOf rules theirs Z) found rs) c.rules.ensures.value c.in_ok-rules.ensures in
    let lefts : (q : ℕ) → Has L q ↔ Contains A.finals q = subst (λ xs. (q : ℕ) → Has L q ↔ Contains xs q) c.finals.ensures.value c.in_ok-left_finals.ensures.members in
    let rights : (q : ℕ) → Has R q ↔ Contains B.finals q = subst (λ xs. (q : ℕ) → Has R q ↔ Contains xs q) c.finals-2.ensures.value c.in_ok-right_finals.ensures.members in
    let U : Automaton = record { bits = 0; name = codes "isect"; symbols = S; states = map pair_name Z; finals = fs; rules = rs } in
    let made : c.new-product.result ≡ U = c.new-product.ensures
    ∙ same_parts c.in_ok-name.name (codes "isect") c.in_ok-symbols.symbols.items S c.in_ok-names.names.items (map pair_name Z) fs rs title symbols c.in_ok-names.ensures.value in
    let fitting : IsAutomaton U = subst IsAutomaton made c.name-name.ensures.listed.automaton in (
      U,
      (
        Z,
        multiplies A B S theirs pairs found Z L R fs rs c.requires.symbols c.requires.stand c.requires.closed c.requires.few c.in_ok-states.ensures.rising
            (rising_apart Z c.in_ok-states.ensures.rising) c.in_ok-states.ensures.members lefts rights c.in_ok-finals.ensures zip c.requires.left.narrow fitting,
      ),
      c.in_ok-canonical.ensures ∙ ap canon made,
    )

pub returns-clause-few_states : goal.returns-clause-few_states
returns-clause-few_states c =
    let Z = c.in_ok-states.states in
    let states : c.in_ok-canonical.canonical.states ≡ map pair_name Z =
    ap (λ (o : Automaton). o.states) c.in_ok-canonical.ensures ∙ ap (λ (o : Automaton). o.states) c.new-product.ensures ∙ c.in_ok-names.ensures.value in
    let size = ap length states ∙ length-map Z pair_name ∙ c.in_ok-states.ensures.size in
    let few = c.requires.closed.few in
    omega (arith, size, few)

pub returns-clause-few_rules : goal.returns-clause-few_rules
returns-clause-few_rules c =
    let rs = c.in_ok-rules.rules.items in
    let rules : c.in_ok-canonical.canonical.rules ≡ in_order rule_cmp rs =
    ap (λ (o : Automaton). o.rules) c.in_ok-canonical.ensures ∙ ap (λ (o : Automaton). in_order rule_cmp o.rules) c.new-product.ensures in
    let most = no_more {X = Rule} {Y = Rule} (λ x y. x ≡ y) (λ x z y e d. e ∙ sym d) (in_order rule_cmp rs) rs (subst (AllPairs ◌≢◌) rules c.rules-rules.ensures.listed.automaton.rules)
    (λ x h. (x, (in_order_same rule_cmp rules_total rules_exact rs x).0 h, refl)) in
    let size = zip_length (IsPairOf c.rules.result.now c.args.theirs.now c.in_ok-states.states) c.args.found.now rs c.in_ok-rules.ensures in
    let same = ap length rules in
    let few = c.requires.few in
    omega (arith, most, size, same, few)
