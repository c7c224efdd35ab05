use Rattle.std.proofs.Common.{◌≡◌, ◌<◌, ◌+◌, ℕ, List, [], ◌∷◌, ◌++◌, length, get_or, set, sym, ap, ◌∙◌, subst, refl, arith}
use Rattle.std.proofs.lemmas.List.Elements.{Contains-get_or}
use Rattle.std.proofs.lemmas.Option.{slice_get_read, slice_get_within}
use Rattle.tree_definitions.specs.Automaton.{Rule}
use Rattle.tree_definitions.specs.Relation.{IsAt}
use Rattle.tree_definitions.proofs.Members.{at_unique}
use Rattle.trim_ops.specs.Marking.{Parenting}
use Rattle.trim_ops.proofs.Marked.{parent_within}
use Rattle.trim_ops.proofs.Indexing.{parenting_add}
use Rattle.trim_ops.proofs.index.rules_by_parent.Goals as goal

pub add-requires : goal.add-requires
add-requires c =
    let rules = c.args.rules.now in
    let rule = c.index-rules-r.result in
    let at : IsAt rules c.loop-r.r rule = slice_get_read rules (length rules) c.loop-r.r rule refl c.loop-r-test.true c.index-rules-r.is in
    let l : rule.parent < c.args.states = parent_within c.args.states rules c.loop-r.r rule c.requires.within at in
    let e : c.rule.inside.parent ≡ rule.parent = ap (λ (o : Rule). o.parent) c.rule.view_is in
    let size : length c.loop-r.index ≡ c.args.states = c.loop-r.invariant.size in
    omega arith

pub loop-r-preserved : goal.loop-r-preserved
loop-r-preserved c =
    let rules = c.args.rules.now in
    let r = c.loop-r.r in
    let lists = c.loop-r.index in
    let rule = c.index-rules-r.result in
    let at : IsAt rules r rule = slice_get_read rules (length rules) r rule refl c.loop-r-test.true c.index-rules-r.is in
    let e : c.rule.inside.parent ≡ rule.parent = ap (λ (o : Rule). o.parent) c.rule.view_is in
    let m = parenting_add rules c.args.states r lists rule at (parent_within c.args.states rules r rule c.requires.within at) c.loop-r.invariant in
    let P : List (List ℕ) → Type 0 = λ u. Parenting rules c.args.states (r + 1) u in
    subst P (ap (λ q. set lists q (get_or lists q [] ++ r ∷ [])) (sym e) ∙ sym c.in_ok-add.ensures) m

pub returns-clause-index : goal.returns-clause-index
returns-clause-index c =
    let rules = c.args.rules.now in
    let m = c.loop-r.invariant in
    record {
      within = λ q list at k d l. let n = m.named q list at (get_or list k d) (Contains-get_or list k d l) in slice_get_within rules (get_or list k d) n.0 n.1;
      parent = λ q list r rule at h rat. let n = m.named q list at r h in ap (λ (o : Rule). o.parent) (at_unique rules r rule n.0 rat n.1) ∙ n.2;
      whole = λ list r rule at rat. m.whole list r rule at rat (let w = slice_get_within rules r rule rat in omega (arith, w, c.loop-r-test.false));
    }
