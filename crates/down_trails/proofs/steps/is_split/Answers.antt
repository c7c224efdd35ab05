use Rattle.std.proofs.Common.{◌≡◌, ℕ, List, length, sym, ap, ◌∙◌, eq-eqb}
use Rattle.std.proofs.lemmas.Bool.{eqb-true}
use Rattle.std.proofs.lemmas.List.{length-map}
use Rattle.smallvec.specs.SmallVec.{SmallVec}
use Rattle.listed_pairs.specs.DownEntries.{entries_of}
use Rattle.down_trails.proofs.Splitting.{tuples_same}
use Rattle.down_trails.proofs.steps.is_split.Goals as goal

pub returns : goal.returns
returns c =
    let A = c.args.a.now in
    let B = c.args.b.now in
    let all = entries_of c.args.entries.now in
    let e = c.args.e in
    let r = c.args.r in
    let choice = c.args.choice.now in
    let of = c.in_ok-tuples.ensures.split.0 in
    let same = c.in_ok-tuples.ensures.split.1 in
    let count : length of.tuples ≡ (length c.as_slice.result.now) = ap (λ (ts : List (List ℕ)). length ts) same ∙ length-map c.in_ok-tuples.tuples.items (λ (v : SmallVec ℕ). v.items) ∙ sym (ap (λ (xs : List (SmallVec ℕ)). length xs) c.as_slice.ensures.value) in (
      λ t. (of, eqb-true (length choice) (length c.as_slice.result.now) t ∙ sym count),
      λ h. eq-eqb (length choice) (length c.as_slice.result.now) (h.1 ∙ ap (λ (ts : List (List ℕ)). length ts) (tuples_same A B all e r h.0 of c.rules-rules.ensures.listed.narrow) ∙ count),
    )
