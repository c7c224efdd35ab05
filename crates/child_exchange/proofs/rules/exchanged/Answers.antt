use Rattle.std.proofs.Common.{ℕ, List, sym, subst, arith}
use Rattle.std.proofs.lemmas.Option.{slice_get_within}
use Rattle.tree_definitions.specs.Relation.{IsAt}
use Rattle.tree_definitions.proofs.Members.{place_of}
use Rattle.child_exchange.proofs.Exchanges.{set_here}
use Rattle.child_exchange.proofs.rules.exchanged.Goals as goal

pub returns : goal.returns
returns c = (
  λ t. absurd cc,
  λ h.
      let r = c.args.r in
      let list = c.args.list.now in
      let there : IsAt h.1.kids c.args.p r = subst (λ (ks : List ℕ). IsAt ks c.args.p r) (sym h.4) (set_here c.args.rule.now.kids c.args.p r c.requires.place) in
      let k = place_of list h.0 (c.requires.whole h.0 h.1 h.2 there) in
      let w = slice_get_within list k.0 h.0 k.1 in
      absurd (c.loop-s.invariant k.0 h.0 h.1 (omega (arith, w, c.loop-s-test.false)) k.1 h.2 (h.3, h.4, h.5)),
)
