use Rattle.std.proofs.Common.{◌↔◌, ℕ, List, length, get_or, sym, ap, subst, arith}
use Rattle.std.specs.Prelude.{Contains}
use Rattle.std.proofs.lemmas.List.Elements.{Contains-get_or}
use Rattle.std.proofs.lemmas.Option.{slice_get_within}
use Rattle.std.proofs.lemmas.Result.{IfOk-weaker}
use Rattle.bit_rows.specs.Rows.{IsEmptyFrom}
use Rattle.tree_definitions.specs.Tree.{Symbol}
use Rattle.tree_definitions.specs.Automaton.{Rule}
use Rattle.tree_definitions.specs.Cover.{Post}
use Rattle.tree_definitions.specs.Relation.{Row, Has, IsAt}
use Rattle.up_conditions.specs.Stepping.{AreSets, IsParentAt}
use Rattle.up_conditions.proofs.Stepped.{from_post, post_label, to_post}
use Rattle.up_conditions.proofs.stepping.post.Goals as goal

pub returns-in_default-clause-members : goal.returns-in_default-clause-members
returns-in_default-clause-members c =
    let B = c.args.b.now in
    let a = c.args.symbol.now in
    IfOk-weaker c.zeros.result (λ row. IsEmptyFrom row 0) (λ row. (sets : List Row) → AreSets c.args.pairs.now c.args.chosen.now sets → (s : ℕ) → Has row s ↔ Post B a sets s)
    (λ row empty sets are s. (
      λ h. absurd (empty s (omega arith) h),
      λ p. absurd (c.in_default.ensures.none (subst (λ (xs : List Symbol). Contains xs a) (sym c.requires.symbols) (post_label B c.states-states.ensures.listed.narrow a sets s p))),
    ))
    c.zeros.ensures.members

pub at-requires : goal.at-requires
at-requires c =
    let w = slice_get_within c.args.symbols.now c.in-Some.k c.args.symbol.now c.in-Some.ensures.found in
    let e = ap (λ (xs : List Symbol). length xs) c.requires.symbols in
    let size = c.requires.size in
    omega (arith, w, e, size)

pub parents_of-requires-clause-list : goal.parents_of-requires-clause-list
parents_of-requires-clause-list c i d l =
    let list = c.at.result.now in
    let x = get_or list i d in
    let m = c.requires.by_symbol.within c.in-Some.k list c.at.ensures x (Contains-get_or list i d l) in
    let w = slice_get_within c.args.b.now.rules x m.0 m.1 in
    let e = ap (λ (xs : List Rule). length xs) c.rules.ensures.value in
    omega (arith, w, e)

pub returns-clause-members : goal.returns-clause-members
returns-clause-members c =
    let B = c.args.b.now in
    let a = c.args.symbol.now in
    let pairs = c.args.pairs.now in
    let chosen = c.args.chosen.now in
    let list = c.at.result.now in
    let fits = c.states-states.ensures.listed.automaton in
    let narrow = c.states-states.ensures.listed.narrow in
    let symbol : IsAt B.symbols c.in-Some.k a = subst (λ (xs : List Symbol). IsAt xs c.in-Some.k a) c.requires.symbols c.in-Some.ensures.found in
    IfOk-weaker c.parents_of.result (λ row. (s : ℕ) → Has row s ↔ ((j : ℕ) × IsParentAt c.rules.result.now list pairs chosen j s))
    (λ row. (sets : List Row) → AreSets pairs chosen sets → (s : ℕ) → Has row s ↔ Post B a sets s)
    (λ row members sets are s.
    let ours = subst (λ (rules : List Rule). Has row s ↔ ((j : ℕ) × IsParentAt rules list pairs chosen j s)) c.rules.ensures.value (members s) in (
      λ h. let p = ours.0 h in to_post B fits narrow c.args.by_symbol.now c.requires.by_symbol a c.in-Some.k list symbol c.at.ensures pairs chosen sets are s p.0 p.1,
      λ p. ours.1 (from_post B fits narrow c.args.by_symbol.now c.requires.by_symbol a c.in-Some.k list symbol c.at.ensures pairs chosen sets are s p),
    ))
    c.parents_of.ensures.members
