use Rattle.std.proofs.Common.{◌<◌, ◌++◌, [], length, map, sym, ap, ◌∙◌, subst, arith}
use Rattle.std.specs.Prelude.{All}
use Rattle.std.specs.List.{flat_map}
use Rattle.std.proofs.lemmas.List.{append-nil}
use Rattle.tree_definitions.specs.Automaton.{Rule}
use Rattle.timbuk_definitions.specs.Printed.{rule_text}
use Rattle.rule_order.specs.Groups.{AreOrdered}
use Rattle.rule_order.proofs.Ordered.{ordered_none, ordered_more, ordered_all}
use Rattle.timbuk_text.specs.Fitting.{IsRuleOver}
use Rattle.timbuk_text.proofs.Lines.{more_lines, in_group}
use Rattle.timbuk_text.proofs.printer.put_groups.Goals as goal

pub loop-parent-init : goal.loop-parent-init
loop-parent-init c = ([], ordered_none c.args.rules.now, sym (append-nil _))

pub put_lines-requires : goal.put_lines-requires
put_lines-requires c = subst (λ refs. All (IsRuleOver c.args.symbols.now (length c.args.states.now)) (map (λ g. g.1.now) refs)) (sym c.deref.ensures.value)
    (in_group (IsRuleOver c.args.symbols.now (length c.args.states.now)) c.args.rules.now c.loop-parent.parent _ c.requires.places c.in_ok-group.ensures)

pub loop-parent-preserved : goal.loop-parent-preserved
loop-parent-preserved c =
    let h = c.loop-parent.invariant in
    let group = map (λ g. g.1.now) c.group.new.group.items in
    let lines = rule_text c.args.symbols.now c.args.states.now in (
      h.0 ++ group,
      ordered_more c.args.rules.now c.loop-parent.parent h.0 group h.1 c.in_ok-group.ensures,
      more_lines lines h.0 group c.args.out.now.items c.loop-parent.out.items c.put_lines.new.out.items h.2
          (c.in_ok-put_lines.ensures ∙ ap (λ refs. c.loop-parent.out.items ++ flat_map lines (map (λ g. g.1.now) refs)) c.deref.ensures.value),
    )

pub returns : goal.returns
returns c =
    let h = c.loop-parent.invariant in
    let whole = subst (λ n. AreOrdered c.args.rules.now n h.0) (omega (arith, c.loop-parent-test.false, c.loop-parent.auto.parent-end)) h.1 in
    let low : All (λ (r : Rule). r.parent < length c.args.states.now) c.args.rules.now = λ k d l. (c.requires.places k d l).parent in
    h.2 ∙ ap (λ rs. c.args.out.now.items ++ flat_map (rule_text c.args.symbols.now c.args.states.now) rs) (ordered_all c.args.rules.now (length c.args.states.now) h.0 low c.requires.distinct whole)
