use Rattle.std.proofs.Common.{◌≡◌, ◌⊎◌, inl, inr, ℕ, List, [], ◌∷◌, get_or, refl, sym, ◌∙◌, ap, subst, ◌++◌}
use Rattle.std.specs.Prelude.{All, codes}
use Rattle.explicit_ta.specs.Pair.{marked}
use Rattle.tree_definitions.specs.Automaton.{Automaton}
use Rattle.tree_definitions.specs.Name.{IsName, is_section_word}
use Rattle.tree_definitions.specs.Union.{IsUnion}
use Rattle.ta_model.specs.Listing.{IsListed}
use Rattle.explicit_ta.proofs.Parts.{same_lists}
use Rattle.explicit_ta.proofs.Unions.{marked_name_is, union_with, union_listed, union_is, zip_long}
use Rattle.explicit_ta.proofs.union.union_of.Goals as goal

pub rules_of_both-requires-clause-places : goal.rules_of_both-requires-clause-places
rules_of_both-requires-clause-places c = zip_long c.args.symbols.now c.args.right.now.symbols c.args.places.now c.requires.places

-- each name with a mark is a name
all_marked : (names shown : List (List ℕ)) (b : ℕ) → (b ≡ 49) ⊎ (b ≡ 50) → shown ≡ names → All IsName names → All (λ n. IsName (n ++ 95 ∷ b ∷ [])) shown
all_marked names shown b mark is all =
    subst (All (λ n. IsName (n ++ 95 ∷ b ∷ []))) (sym is) (λ k d lt. marked_name_is (get_or names k d) b mark (all k d lt))

pub known-requires : goal.known-requires
unfolding is_section_word
known-requires c = refl

pub add_marked-requires : goal.add_marked-requires
add_marked-requires c = all_marked c.args.left.now.states c.states-2.result.now 49 (inl refl) c.states-2.ensures.value c.requires.paired.left.state_names

pub add_marked-requires-2 : goal.add_marked-requires-2
add_marked-requires-2 c = all_marked c.args.right.now.states c.states-3.result.now 50 (inr refl) c.states-3.ensures.value c.requires.paired.right.state_names

pub new-requires : goal.new-requires
new-requires c =
    let A = c.args.left.now in
    let B = c.args.right.now in
    let symbols = c.args.symbols.now in
    let places = c.args.places.now in
    let U = union_with A B c.requires.paired symbols places c.requires.symbols c.requires.distinct c.requires.places in
    let first : c.add_marked.new.all.items ≡ marked (codes "_1") A.states =
    c.in_ok-add_marked.ensures ∙ ap (λ l. l ++ marked (codes "_1") c.states-2.result.now) c.new-names.ensures.items ∙ ap (marked (codes "_1")) c.states-2.ensures.value in
    let names : c.add_marked-2.new.all.items ≡ U.states =
    c.in_ok-add_marked-2.ensures ∙ ap (λ l. l ++ marked (codes "_2") c.states-3.result.now) first ∙ ap (λ l. marked (codes "_1") A.states ++ marked (codes "_2") l) c.states-3.ensures.value in
    let finals : c.in_ok-finals.finals.items ≡ U.finals = rw (c.states.ensures.value, c.finals.ensures.value, c.finals-2.ensures.value) at c.in_ok-finals.ensures in
    let is : ◌≡◌ {A = Automaton} (record { bits = 0; name = c.in_ok-name.name; symbols = c.in_ok-joint.joint.items; states = c.add_marked-2.new.all.items; finals = c.in_ok-finals.finals.items; rules = c.in_ok-rules.rules.items }) U =
    same_lists (record { bits = 0; name = c.in_ok-name.name; symbols = c.in_ok-joint.joint.items; states = c.add_marked-2.new.all.items; finals = c.in_ok-finals.finals.items; rules = c.in_ok-rules.rules.items }) U
    refl c.in_ok-name.ensures (c.in_ok-joint.ensures.items_if_clones_equal (λ x y same. same)) names finals c.in_ok-rules.ensures in
    subst IsListed (sym is) (union_listed A B c.requires.paired symbols places c.requires.symbols c.requires.distinct c.requires.places)

pub returns-clause-union : goal.returns-clause-union
returns-clause-union c =
    let A = c.args.left.now in
    let B = c.args.right.now in
    let symbols = c.args.symbols.now in
    let places = c.args.places.now in
    let U = union_with A B c.requires.paired symbols places c.requires.symbols c.requires.distinct c.requires.places in
    let first : c.add_marked.new.all.items ≡ marked (codes "_1") A.states =
    c.in_ok-add_marked.ensures ∙ ap (λ l. l ++ marked (codes "_1") c.states-2.result.now) c.new-names.ensures.items ∙ ap (marked (codes "_1")) c.states-2.ensures.value in
    let names : c.add_marked-2.new.all.items ≡ U.states =
    c.in_ok-add_marked-2.ensures ∙ ap (λ l. l ++ marked (codes "_2") c.states-3.result.now) first ∙ ap (λ l. marked (codes "_1") A.states ++ marked (codes "_2") l) c.states-3.ensures.value in
    let finals : c.in_ok-finals.finals.items ≡ U.finals = rw (c.states.ensures.value, c.finals.ensures.value, c.finals-2.ensures.value) at c.in_ok-finals.ensures in
    let is : ◌≡◌ {A = Automaton} (record { bits = 0; name = c.in_ok-name.name; symbols = c.in_ok-joint.joint.items; states = c.add_marked-2.new.all.items; finals = c.in_ok-finals.finals.items; rules = c.in_ok-rules.rules.items }) U =
    same_lists (record { bits = 0; name = c.in_ok-name.name; symbols = c.in_ok-joint.joint.items; states = c.add_marked-2.new.all.items; finals = c.in_ok-finals.finals.items; rules = c.in_ok-rules.rules.items }) U
    refl c.in_ok-name.ensures (c.in_ok-joint.ensures.items_if_clones_equal (λ x y same. same)) names finals c.in_ok-rules.ensures in
    subst (IsUnion A B) (sym (c.new.ensures ∙ is)) (union_is A B c.requires.paired symbols places c.requires.symbols c.requires.distinct c.requires.places)
