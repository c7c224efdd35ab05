use Rattle.std.proofs.Common.{◌<◌, ◌⊎◌, ◌∙◌, ℕ, List, get_or, length, sym, subst}
use Rattle.std.specs.Prelude.{◌↔◌, Contains}
use Rattle.std.proofs.lemmas.List.{length-set, take_all}
use Rattle.tree_definitions.specs.Relation.{Has}
use Rattle.antichain_up.proofs.Marks.{marked_more}
use Rattle.antichain_up.proofs.answers.mark.Goals as goal

pub loop-j-preserved : goal.loop-j-preserved
loop-j-preserved c =
    let kids = c.args.kids.now in
    let i = c.loop-j.j-index in
    let w : get_or kids i 0 < length c.loop-j.marks = subst (λ n. get_or kids i 0 < n) (sym c.loop-j.invariant.many) (c.requires i 0 c.loop-j-test.true) in
    record {
      many = length-set c.loop-j.marks (get_or kids i 0) _ ∙ c.loop-j.invariant.many;
      set = marked_more c.args.marks.now c.loop-j.marks kids i c.loop-j-test.true w c.loop-j.invariant.set;
    }

pub returns-clause-set : goal.returns-clause-set
returns-clause-set c s =
    let P : List ℕ → Type 0 = λ ks. Has c.loop-j.marks s ↔ (Has c.args.marks.now s ⊎ Contains ks s) in
    subst P (take_all c.loop-j.j-index c.args.kids.now c.loop-j-test.false) (c.loop-j.invariant.set s)
