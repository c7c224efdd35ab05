use Rattle.std.proofs.Common.{◌≡◌, ◌++◌, List, length, take, drop, refl, sym, ap, ◌∙◌, take-append-drop}
use Rattle.std.specs.Prelude.{IsTrue, ◌↔◌, not}
use Rattle.std.proofs.Math.Seq.{take-append_seam}
use Rattle.std.proofs.lemmas.Bool.{true≢false}
use Rattle.std.proofs.lemmas.Slice.Eq.{slice_eq-Decides}
use Rattle.tree_definitions.specs.Tree.{Symbol}
use Rattle.incl_certificate.specs.Joint.{lacking}
use Rattle.incl_certificate.proofs.Joined.{same_symbol-Decides}
use Rattle.incl_certificate.proofs.Lacking.{from_not, cancel_left}
use Rattle.incl_certificate.proofs.joint.are_joint.Goals as goal

front_is : (symbols first more : List Symbol) → symbols ≡ first ++ more → take (length first) symbols ≡ first
front_is symbols first more e = ap (take (length first)) e ∙ take-append_seam first more

pub returns-then-ne-clause-joint : goal.returns-then-ne-clause-joint
returns-then-ne-clause-joint c = (
  λ no. absurd (true≢false (sym no)),
  λ same.
      let first = c.args.first.now in
      let front : c.split_at.result.0.now ≡ first = c.split_at.ensures.front ∙ ap (take (length first)) c.symbols-symbols.ensures.value ∙ front_is c.args.nodes.now.symbols first (lacking first c.args.second.now) same in
      absurd (true≢false (sym c.if-ne.true ∙ c.ne.ensures ∙ ap not ((slice_eq-Decides same_symbol-Decides c.split_at.result.0.now first _ refl).1 front))),
)

pub returns-clause-joint : goal.returns-clause-joint
returns-clause-joint c =
    let first = c.args.first.now in
    let symbols = c.args.nodes.now.symbols in
    let front : take (length first) symbols ≡ first =
    ap (take (length first)) (sym c.symbols-symbols.ensures.value) ∙ sym c.split_at.ensures.front ∙ (slice_eq-Decides same_symbol-Decides c.split_at.result.0.now first _ refl).0 (from_not _ (sym c.ne.ensures ∙ c.if-ne.false)) in
    let whole : symbols ≡ first ++ c.split_at.result.1.now =
    sym (take-append-drop (length first) symbols)
    ∙ ap (λ l. l ++ drop (length first) symbols) front
    ∙ ap (λ l. first ++ l) (sym (c.split_at.ensures.back ∙ ap (drop (length first)) c.symbols-symbols.ensures.value)) in
    let says : IsTrue c.are_lacking.result ↔ (c.split_at.result.1.now ≡ lacking first c.args.second.now) = rw front at c.are_lacking.ensures in (
      λ yes. whole ∙ ap (λ l. first ++ l) (says.0 yes),
      λ same. says.1 (cancel_left first c.split_at.result.1.now (lacking first c.args.second.now) (sym whole ∙ same)),
    )
