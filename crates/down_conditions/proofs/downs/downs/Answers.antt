use Rattle.std.proofs.Common.{◌↔◌, ◌<◌, ℕ, List, length, get_or, sym, ap, subst, arith}
use Rattle.std.specs.Prelude.{All, Contains}
use Rattle.std.proofs.lemmas.List.Elements.{Contains-get_or}
use Rattle.std.proofs.lemmas.Option.{slice_get_within}
use Rattle.std.proofs.lemmas.Result.{IfOk-weaker}
use Rattle.tree_definitions.specs.Tree.{Symbol}
use Rattle.tree_definitions.specs.Relation.{IsAt}
use Rattle.tree_definitions.proofs.Members.{contains_none}
use Rattle.down_conditions.specs.Refuting.{AreDowns, IsChosen}
use Rattle.down_conditions.proofs.Downed.{chosen_downs, down_label}
use Rattle.down_conditions.proofs.downs.downs.Goals as goal

pub returns-in_default-clause-downs : goal.returns-in_default-clause-downs
returns-in_default-clause-downs c tuple = (
  λ h. absurd (contains_none h.0 (subst (λ (xs : List ℕ). Contains xs h.0) c.new.ensures.items h.2)),
  λ d. absurd (c.in_default.ensures.none (subst (λ (xs : List Symbol). Contains xs c.args.symbol.now) (sym c.requires.alphabet) (down_label c.args.b.now c.symbols-symbols.ensures.listed.narrow c.args.symbol.now c.args.set.now tuple d))),
)

pub at-requires : goal.at-requires
at-requires c =
    let w = slice_get_within c.args.alphabet.now c.in-Some.k c.args.symbol.now c.in-Some.ensures.found in
    let e = ap (λ (xs : List Symbol). length xs) c.requires.alphabet in
    let size = c.requires.size in
    omega (arith, w, e, size)

pub rules_to-requires-clause-list : goal.rules_to-requires-clause-list
rules_to-requires-clause-list c i d l =
    let list = c.at.result.now in
    let x = get_or list i d in
    let m = c.requires.by_symbol.within c.in-Some.k list c.at.ensures x (Contains-get_or list i d l) in
    slice_get_within c.args.b.now.rules x m.0 m.1

pub returns-clause-downs : goal.returns-clause-downs
returns-clause-downs c =
    let B = c.args.b.now in
    let a = c.args.symbol.now in
    let set = c.args.set.now in
    let list = c.at.result.now in
    let fits = c.symbols-symbols.ensures.listed.automaton in
    let symbol : IsAt B.symbols c.in-Some.k a = subst (λ (xs : List Symbol). IsAt xs c.in-Some.k a) c.requires.alphabet c.in-Some.ensures.found in
    IfOk-weaker c.rules_to.result (λ v. (r : ℕ) → Contains v.items r ↔ IsChosen B.rules list set (length list) r) (λ v. AreDowns B a set v.items)
    (λ v are. chosen_downs B fits c.symbols-symbols.ensures.listed.narrow c.args.by_symbol.now c.requires.by_symbol a c.in-Some.k list symbol c.at.ensures set v.items are)
    c.rules_to.ensures

pub returns-clause-within : goal.returns-clause-within
returns-clause-within c =
    let B = c.args.b.now in
    let set = c.args.set.now in
    let list = c.at.result.now in
    IfOk-weaker c.rules_to.result (λ v. (r : ℕ) → Contains v.items r ↔ IsChosen B.rules list set (length list) r) (λ v. All (λ r. r < length B.rules) v.items)
    (λ v are i d l. let r = get_or v.items i d in let k = (are r).0 (Contains-get_or v.items i d l) in slice_get_within B.rules r k.1 k.4)
    c.rules_to.ensures
