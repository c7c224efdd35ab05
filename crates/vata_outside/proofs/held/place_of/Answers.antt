use Rattle.std.proofs.Common.{ap, sym, ◌∙◌}
use Rattle.std.specs.Str.{bytes_eq}
use Rattle.std.proofs.lemmas.Option.{slice_get_read}
use Rattle.vata_outside.proofs.Places.{bytes_of_found}
use Rattle.vata_outside.proofs.held.place_of.Goals as goal
use Rattle.std.proofs.Common.{refl, arith, length, ◌<◌}

pub returns-then-eq : goal.returns-then-eq
returns-then-eq c =
    let lt : c.loop-i.i < length c.args.held.now = omega arith in (
      c.index-held-i.result,
      lt,
      slice_get_read c.args.held.now (length c.args.held.now) c.loop-i.i c.index-held-i.result refl lt c.index-held-i.is,
      c.loop-i.invariant ∙ bytes_of_found c.args.name.now c.args.held.now c.loop-i.i c.index-held-i.result lt c.index-held-i.is
          (ap (λ n. bytes_eq n c.args.name.now) (sym c.as_str.ensures.value) ∙ sym c.if-eq.ensures),
    )
