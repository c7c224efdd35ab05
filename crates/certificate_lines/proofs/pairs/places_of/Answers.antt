use Rattle.std.proofs.Common.{sym, ◌∙◌}
use Rattle.certificate_lines.proofs.Worded.{no_state, one_state, no_names_left}
use Rattle.certificate_lines.proofs.pairs.places_of.Goals as goal

pub returns-in_default-find : goal.returns-in_default-find
returns-in_default-find c =
    sym c.loop-name.invariant.same ∙ no_state c.args.states.now c.args.names.now c.loop-name.name-index c.loop-name.at c.loop-name.places.items c.name-item.result c.loop-name-test.true c.name-item.is c.in_default-find.ensures

pub loop-name-preserved : goal.loop-name-preserved
loop-name-preserved c =
    let m = one_state c.args.states.now c.args.names.now c.loop-name.name-index c.loop-name.at c.loop-name.places.items c.name-item.result c.loop-name-test.true c.name-item.is
    c.in-Some.place c.push.new.self.items c.bytes.result.now c.in-Some.ensures c.in-Ok-push.ensures.items c.bytes.ensures.value in
    record {
      same = m.0 ∙ c.loop-name.invariant.same;
      within = m.1 ∙ c.loop-name.invariant.within;
    }

pub returns : goal.returns
returns c = sym c.loop-name.invariant.same ∙ no_names_left c.args.states.now c.args.names.now c.loop-name.name-index c.loop-name.at c.loop-name.places.items c.loop-name-test.false
