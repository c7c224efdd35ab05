use Rattle.std.proofs.Common.{sym, subst, ◌∙◌}
use Rattle.ta_model.specs.Listing.{IsListed}
use Rattle.timbuk_text.proofs.tables.Tables.into_listed.Goals as goal

pub new-requires : goal.new-requires
new-requires c = subst IsListed (λ i. record {
  bits = 0;
  name = sym c.in_ok-name.ensures i;
  symbols = sym c.in_ok-symbols.ensures i;
  states = sym (c.in_ok-states.ensures ∙ c.words.ensures.value) i;
  finals = sym c.in_ok-finals.ensures i;
  rules = sym c.in_ok-rules.ensures i;
}) c.requires

pub returns : goal.returns
returns c = c.new.ensures ∙ (λ i. record {
  bits = 0;
  name = c.in_ok-name.ensures i;
  symbols = c.in_ok-symbols.ensures i;
  states = (c.in_ok-states.ensures ∙ c.words.ensures.value) i;
  finals = c.in_ok-finals.ensures i;
  rules = c.in_ok-rules.ensures i;
})
