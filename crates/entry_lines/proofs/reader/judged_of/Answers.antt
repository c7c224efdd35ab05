use Rattle.std.proofs.Common.{length, ap, ◌∙◌}
use Rattle.certificate_lines.proofs.Sets.{with_length}
use Rattle.entry_lines.proofs.reader.judged_of.Goals as goal

pub is_text-requires : goal.is_text-requires
is_text-requires c = record {
  pair = record {
    state = c.requires.state;
    set = ap length c.in-Ok.ensures ∙ with_length (length c.states.result.now) c.args.places.now ∙ ap length c.states.ensures.value;
  };
  symbol = c.requires.symbol;
}
