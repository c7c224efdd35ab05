use Rattle.std.proofs.Common.{◌≡◌, ◌∙◌}
use Rattle.std.proofs.lemmas.Result.{IfOk-weaker}
use Rattle.indexmap.proofs.CallerLemmas.{Drains-YieldsInOrder}
use Rattle.timbuk_text.proofs.tables.list_of.Goals as goal

pub returns : goal.returns
returns g c = IfOk-weaker c.from_iter.result _ (λ v. v.items ≡ c.args.set.keys) (λ v h.
    h.4.0 ∙ Drains-YieldsInOrder _ _ h.0 h.1 h.2.2 ((h.3.2 tt).0, (h.3.0, h.3.1, (h.3.2 tt).1)) ∙ h.2.0) c.from_iter.ensures.ran
