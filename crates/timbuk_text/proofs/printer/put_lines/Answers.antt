use Rattle.std.proofs.Common.{◌<◌, ◌++◌, length, map, sym, ap, ◌∙◌, subst, arith}
use Rattle.std.specs.List.{flat_map}
use Rattle.std.proofs.lemmas.List.{append-nil, length-map, take_all}
use Rattle.std.proofs.lemmas.List.Elements.{All-get_or}
use Rattle.std.proofs.Math.ListN.{get_or-map}
use Rattle.timbuk_definitions.specs.Printed.{rule_text}
use Rattle.timbuk_text.specs.Fitting.{IsRuleOver}
use Rattle.timbuk_text.proofs.Lines.{one_line}
use Rattle.timbuk_text.proofs.printer.put_lines.Goals as goal

pub loop-keyed-init : goal.loop-keyed-init
loop-keyed-init c = sym (append-nil _)

pub put_rule-requires : goal.put_rule-requires
put_rule-requires c =
    let refs = c.args.group.now in
    let inside = subst (λ n. c.loop-keyed.keyed-index < n) (sym (length-map refs (λ g. g.1.now))) c.loop-keyed-test.true in
    let is = ap (λ g. g.1.now) c.keyed-item.is ∙ sym (get_or-map (λ g. g.1.now) refs c.loop-keyed.keyed-index c.keyed-item.result) in
    subst (IsRuleOver c.args.symbols.now (length c.args.states.now)) (sym is) (All-get_or (IsRuleOver c.args.symbols.now (length c.args.states.now)) (map (λ g. g.1.now) refs) c.loop-keyed.keyed-index _ inside c.requires)

pub loop-keyed-preserved : goal.loop-keyed-preserved
loop-keyed-preserved c =
    let refs = c.args.group.now in
    let inside = subst (λ n. c.loop-keyed.keyed-index < n) (sym (length-map refs (λ g. g.1.now))) c.loop-keyed-test.true in
    let is = ap (λ g. g.1.now) c.keyed-item.is ∙ sym (get_or-map (λ g. g.1.now) refs c.loop-keyed.keyed-index c.keyed-item.result) in
    one_line (rule_text c.args.symbols.now c.args.states.now) (map (λ g. g.1.now) refs) c.loop-keyed.keyed-index c.keyed-item.result.1.now inside is
    c.args.out.now.items c.loop-keyed.out.items c.put_rule.new.out.items c.loop-keyed.invariant c.in_ok-put_rule.ensures

pub returns : goal.returns
returns c =
    c.loop-keyed.invariant ∙ ap (λ rs. c.args.out.now.items ++ flat_map (rule_text c.args.symbols.now c.args.states.now) rs)
    (take_all c.loop-keyed.keyed-index (map (λ g. g.1.now) c.args.group.now) (omega (arith, c.loop-keyed-test.false, length-map c.args.group.now (λ g. g.1.now))))
