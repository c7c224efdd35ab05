use Rattle.std.proofs.Common.{◌↔◌, ℕ, List, sym, ◌∙◌, subst}
use Rattle.std.specs.Prelude.{Contains}
use Rattle.tree_definitions.specs.Automaton.{Rule, IsFinal}
use Rattle.tree_definitions.specs.Relation.{Has, Holds}
use Rattle.child_exchange.specs.Exchanging.{IsUpBy}
use Rattle.up_conditions.proofs.Simulating.{lines_from_up, up_from_lines}
use Rattle.up_conditions.proofs.upward.is_up_simulation.Goals as goal

pub returns-then-not-stays_in : goal.returns-then-not-stays_in
returns-then-not-stays_in c = (
  λ t. absurd cc,
  λ u.
      let row = c.in_ok-is_final.is_final in
      let ours : (q : ℕ) → Has row q ↔ IsFinal c.args.a.now q = subst (λ (xs : List ℕ). (q : ℕ) → Has row q ↔ Contains xs q) c.finals.ensures.value c.in_ok-is_final.ensures.members in
      sym c.if-not-stays_in.true ∙ c.stays_in.ensures.1 (λ q r h f. (ours r).1 (u.finals q r h (subst (λ (xs : List ℕ). Contains xs q) c.finals-2.ensures.value f))),
)

pub returns : goal.returns
returns c =
    let A = c.args.a.now in
    let R = Holds c.args.sim.now in
    let row = c.in_ok-is_final.is_final in
    let ours : (q : ℕ) → Has row q ↔ IsFinal A q = subst (λ (xs : List ℕ). (q : ℕ) → Has row q ↔ Contains xs q) c.finals.ensures.value c.in_ok-is_final.ensures.members in
    let IsUpLines : List Rule → Type 0 = λ rules. IsUpBy rules R in (
      λ t. up_from_lines A R
          (λ q r h f. (ours r).0 (c.stays_in.ensures.0 c.if-not-stays_in.false q r h (subst (λ (xs : List ℕ). Contains xs q) (sym c.finals-2.ensures.value) f)))
          (subst IsUpLines c.rules-2.ensures.value (c.is_up_by.ensures.0 t)),
      λ u. c.is_up_by.ensures.1 (subst IsUpLines (sym c.rules-2.ensures.value) (lines_from_up A c.finals.ensures.listed.automaton c.finals.ensures.listed.narrow R u)),
    )
