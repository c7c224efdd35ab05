use Rattle.std.proofs.Common.{◌≡◌, ◌++◌, ◌∷◌, take, sym, ap, ◌∙◌}
use Rattle.std.specs.Prelude.{not}
use Rattle.std.specs.List.{list_any}
use Rattle.std.proofs.lemmas.Bool.{true≢false}
use Rattle.tree_definitions.specs.Joint.{same_symbol}
use Rattle.incl_certificate.specs.Joint.{lacking}
use Rattle.incl_certificate.proofs.Joined.{same_symbol-Decides}
use Rattle.incl_certificate.proofs.Lacking.{ends_early, differs, passed, matched, from_not}
use Rattle.incl_certificate.proofs.joint.are_lacking.Goals as goal
use Rattle.incl_certificate.proofs.joint.are_lacking.Goals.{then-not-is_before+in-Some+else-ne, else-not-is_before}

pub returns-in_default : goal.returns-in_default
returns-in_default c =
    ends_early (λ a. not (list_any (same_symbol a) (take c.args.count c.args.nodes.now.symbols))) c.args.symbols.now c.loop-symbol.rest.now c.args.second.now c.loop-symbol.symbol-index _
    c.loop-symbol.invariant c.in_default.ensures.cases c.loop-symbol-test.true c.symbol-item.is (ap not (sym c.is_before.ensures ∙ c.if-not-is_before.true))

pub returns-then-ne : goal.returns-then-ne
returns-then-ne c =
    differs (λ a. not (list_any (same_symbol a) (take c.args.count c.args.nodes.now.symbols))) c.args.symbols.now c.args.second.now c.in-Some.others.now c.loop-symbol.symbol-index c.symbol-item.result c.in-Some.next.now
    (c.loop-symbol.invariant ∙ ap (λ l. lacking (take c.args.count c.args.nodes.now.symbols) (take c.loop-symbol.symbol-index c.args.second.now) ++ l) c.in-Some.ensures.cases.0)
    c.loop-symbol-test.true c.symbol-item.is (ap not (sym c.is_before.ensures ∙ c.if-not-is_before.true))
    (λ same. true≢false (sym c.if-ne.true ∙ c.ne.ensures ∙ ap not ((same_symbol-Decides c.in-Some.next.now c.symbol-item.result).1 same)))

pub loop-symbol-preserved : goal.loop-symbol-preserved
loop-symbol-preserved c =
    elim c.if-not-is_before.branch [
      | then-not-is_before+in-Some+else-ne w ↦
          let same : w.in-Some.next.now ≡ c.symbol-item.result =
          (same_symbol-Decides w.in-Some.next.now c.symbol-item.result).0 (from_not _ (sym w.ne.ensures ∙ w.if-ne.false)) in
          rw w.rest-is
          (matched (λ a. not (list_any (same_symbol a) (take c.args.count c.args.nodes.now.symbols))) c.args.symbols.now w.in-Some.others.now c.args.second.now c.loop-symbol.symbol-index c.symbol-item.result
          (c.loop-symbol.invariant ∙ ap (λ l. lacking (take c.args.count c.args.nodes.now.symbols) (take c.loop-symbol.symbol-index c.args.second.now) ++ l) (w.in-Some.ensures.cases.0 ∙ ap (λ a. a ∷ w.in-Some.others.now) same))
          c.loop-symbol-test.true c.symbol-item.is (ap not (sym c.is_before.ensures ∙ w.if-not-is_before.true)))
      | else-not-is_before w ↦
          rw w.rest-is
          (passed (λ a. not (list_any (same_symbol a) (take c.args.count c.args.nodes.now.symbols))) c.args.symbols.now c.loop-symbol.rest.now c.args.second.now c.loop-symbol.symbol-index c.symbol-item.result
          c.loop-symbol.invariant c.loop-symbol-test.true c.symbol-item.is (ap not (sym c.is_before.ensures ∙ w.if-not-is_before.false)))
    ]
