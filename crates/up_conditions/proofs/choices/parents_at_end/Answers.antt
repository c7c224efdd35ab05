use Rattle.std.proofs.Common.{◌≡◌, ◌↔◌, inl, inr, ◌≤◌, ◌+◌, ℕ, length, get_or, refl, sym, ap, ◌∙◌, subst, arith}
use Rattle.std.proofs.lemmas.Option.{slice_get-get_or, slice_get_read}
use Rattle.tree_definitions.specs.Automaton.{Rule}
use Rattle.tree_definitions.specs.Relation.{Has, IsAt, Row}
use Rattle.tree_definitions.proofs.Members.{at_unique}
use Rattle.up_conditions.specs.Choosing.{IsEarly, LeadsTo}
use Rattle.up_conditions.proofs.Filtered.{early_before, early_here, early_in, early_later, in_early}
use Rattle.up_conditions.proofs.choices.parents_at_end.Goals as goal
use Rattle.up_conditions.proofs.choices.parents_at_end.Goals.{then-len-count, else-len-count}

pub loop-r-preserved : goal.loop-r-preserved
loop-r-preserved c =
    let list = c.args.places.now in
    let rules = c.args.rules.now in
    let count = c.args.count in
    let i = c.loop-r.r-index in
    let x = get_or list i 0 in
    let lat : IsAt list i x = slice_get-get_or list i 0 c.loop-r-test.true in
    let rule = c.index-rules-r.result in
    let rat : IsAt rules x rule = slice_get_read rules (length rules) x rule refl (c.requires.places i 0 c.loop-r-test.true) c.index-rules-r.is in
    let long : c.len.result ≡ length rule.kids = c.len.ensures.value ∙ ap (λ (o : Rule). length o.kids) c.rule.view_is in
    let parent : c.rule.inside.parent ≡ rule.parent = ap (λ (o : Rule). o.parent) c.rule.view_is in
    let inv = c.loop-r.invariant in
    let Goal : Row → Type 0 = λ row. record {
      long : length row ≡ c.args.states;
      members : (s : ℕ) → Has row s ↔ ((r : ℕ) × IsEarly list (LeadsTo rules count s) (i + 1) r);
    } in
    elim c.if-len-count.branch [
      | then-len-count w ↦ subst Goal (sym w.row-is) (record {
        long = w.set.ensures.long ∙ inv.long;
        members = λ s. (
          λ h. elim ((w.set.ensures.members s).0 h) [
            | inl new ↦ (x, early_here list (LeadsTo rules count s) i x lat (rule, rat, sym long ∙ w.if-len-count.true, sym parent ∙ sym new))
            | inr old ↦ let e = (inv.members s).0 old in (e.0, early_later list (LeadsTo rules count s) i x lat e.0 e.1)
          ],
          λ e. elim (early_before list (LeadsTo rules count s) i x lat e.0 e.1) [
            | inl new ↦
                let k = new.0 in
                let same : k.0 ≡ rule = at_unique rules x k.0 rule k.1 rat in
                (w.set.ensures.members s).1 (inl (sym k.3 ∙ ap (λ (o : Rule). o.parent) same ∙ sym parent))
            | inr old ↦ (w.set.ensures.members s).1 (inr ((inv.members s).1 (e.0, old)))
          ],
        );
      })
      | else-len-count w ↦ subst Goal (sym w.row-is) (record {
        long = inv.long;
        members = λ s. (
          λ h. let e = (inv.members s).0 h in (e.0, early_later list (LeadsTo rules count s) i x lat e.0 e.1),
          λ e. elim (early_before list (LeadsTo rules count s) i x lat e.0 e.1) [
            | inl new ↦
                let k = new.0 in
                let same : k.0 ≡ rule = at_unique rules x k.0 rule k.1 rat in
                absurd (w.if-len-count.false (long ∙ sym (ap (λ (o : Rule). length o.kids) same) ∙ k.2))
            | inr old ↦ (inv.members s).1 (e.0, old)
          ],
        );
      })
    ]

pub returns-clause-members : goal.returns-clause-members
returns-clause-members c s =
    let list = c.args.places.now in
    let Kind = LeadsTo c.args.rules.now c.args.count s in
    let end : length list ≤ c.loop-r.r-index = omega (arith, c.loop-r-test.false) in (
      λ m. let e = (c.loop-r.invariant.members s).0 m in let h = early_in list Kind e.0 c.loop-r.r-index e.1 in (e.0, h.0, h.1),
      λ h. (c.loop-r.invariant.members s).1 (h.0, in_early list Kind h.0 c.loop-r.r-index end h.1 h.2),
    )
