use Rattle.std.proofs.Common.{◌∙◌, ◌≡◌, ap, subst, List, ℕ}
use Rattle.std.specs.Prelude.{OnOk, IsErrOf}
use Rattle.tree_definitions.specs.Automaton.{Rule}
use Rattle.timbuk_definitions.specs.Place.{IsFull}
use Rattle.timbuk_text.specs.declared.error.Counted.{Counted}
use Rattle.timbuk_text.specs.declared.tables.Stop.{Stop}
use Rattle.timbuk_text.specs.Rules.{Puts, rules_in}
use Rattle.timbuk_text.proofs.tables.Tables.put_rule.Goals as goal

pub returns-clause-ok : goal.returns-clause-ok
returns-clause-ok c =
    let line : List ℕ → Rule = λ ks. record { symbol = c.args.self.now.symbol; kids = ks; parent = c.args.parent } in
    subst (λ r. OnOk c.put.result (Puts (rules_in c.args.self.now.rules) (rules_in c.put.new.self) r)) (ap line (c.in_ok-kids.ensures.ok ∙ c.as_slice.ensures)) c.put.ensures.ok

pub returns-clause-stop : goal.returns-clause-stop
returns-clause-stop c =
    let line : List ℕ → Rule = λ ks. record { symbol = c.args.self.now.symbol; kids = ks; parent = c.args.parent } in
    subst (λ r. (which : Counted) → IsErrOf c.put.result (Stop.Limit which) → (which ≡ Counted.Rules) × IsFull 2000000 (rules_in c.args.self.now.rules) r) (ap line (c.in_ok-kids.ensures.ok ∙ c.as_slice.ensures)) c.put.ensures.stop
