use Rattle.std.proofs.Common.{◌≡◌, ◌≢◌, ◌<◌, inl, inr, ℕ, length, refl, sym, ◌∙◌, subst, arith, ⊎_elim}
use Rattle.std.specs.Prelude.{All}
use Rattle.std.proofs.lemmas.Bool.{cases_eq}
use Rattle.std.proofs.lemmas.List.{length-map}
use Rattle.std.proofs.lemmas.List.Elements.{All-contains}
use Rattle.std.proofs.lemmas.Option.{slice_get_read, slice_get_within}
use Rattle.smallvec.specs.SmallVec.{SmallVec}
use Rattle.tree_definitions.specs.Relation.{IsAt}
use Rattle.tree_definitions.proofs.Members.{at_unique, contains_at}
use Rattle.ta_model.specs.Tuples.{kids_of}
use Rattle.down_trails.proofs.Splitting.{at_map}
use Rattle.down_trails.proofs.sent.sent_to.Goals as goal

pub add_sent-requires : goal.add_sent-requires
add_sent-requires c =
    let tuples = c.args.tuples.now in
    let i = c.loop-k.k in
    let n = c.args.n in
    let this = c.index-tuples-k.result in
    let at : IsAt tuples i this = slice_get_read tuples (length tuples) i this refl c.loop-k-test.true c.index-tuples-k.is in
    let there = at_map (λ (v : SmallVec ℕ). v.items) tuples i this at in
    let all : All (λ q. q < n) this.items = All-contains (λ t. All (λ q. q < n) t) (kids_of tuples) this.items c.requires (contains_at (kids_of tuples) i this.items there) in
    subst (λ m. All (λ q. q < m) c.as_slice.result.now) (sym c.loop-k.invariant.long) (subst (λ t. All (λ q. q < n) t) (sym c.as_slice.ensures) all)

pub loop-k-preserved : goal.loop-k-preserved
loop-k-preserved c =
    let tuples = c.args.tuples.now in
    let choice = c.args.choice.now in
    let place = c.args.place in
    let i = c.loop-k.k in
    let this = c.index-tuples-k.result in
    let at : IsAt tuples i this = slice_get_read tuples (length tuples) i this refl c.loop-k-test.true c.index-tuples-k.is in
    let there : IsAt (kids_of tuples) i this.items = at_map (λ (v : SmallVec ℕ). v.items) tuples i this at in
    let inv = c.loop-k.invariant in
    record {
      long = c.add_sent.ensures.long ∙ inv.long;
      members = λ s. (
        λ h. elim ((c.add_sent.ensures.members s).0 h) [
          | inl e ↦ (i, this.items, omega arith, e.0, there, subst (λ t. IsAt t place s) c.as_slice.ensures e.1)
          | inr old ↦ let k = (inv.members s).0 old in (k.0, k.1, (let l = k.2 in omega (arith, l)), k.3, k.4, k.5)
        ],
        λ k. ⊎_elim
            (λ (e : k.0 ≡ i).
            let same : k.1 ≡ this.items = at_unique (kids_of tuples) i k.1 this.items (subst (λ z. IsAt (kids_of tuples) z k.1) e k.4) there in
            (c.add_sent.ensures.members s).1 (inl (subst (λ z. IsAt choice z place) e k.3, subst (λ t. IsAt t place s) (same ∙ sym c.as_slice.ensures) k.5)))
            (λ (d : k.0 ≢ i). (c.add_sent.ensures.members s).1 (inr ((inv.members s).1 (k.0, k.1, (let l = k.2 in omega (arith, l, d)), k.3, k.4, k.5))))
            (cases_eq k.0 i),
      );
    }

pub returns-clause-members : goal.returns-clause-members
returns-clause-members c s =
    let inv = c.loop-k.invariant in (
      λ h. let k = (inv.members s).0 h in (k.0, k.1, k.3, k.4, k.5),
      λ k.
          let w = slice_get_within (kids_of c.args.tuples.now) k.0 k.1 k.3 in
          let long = length-map c.args.tuples.now (λ (v : SmallVec ℕ). v.items) in
          (inv.members s).1 (k.0, k.1, omega (arith, w, long, c.loop-k-test.false), k.2, k.3, k.4),
    )
