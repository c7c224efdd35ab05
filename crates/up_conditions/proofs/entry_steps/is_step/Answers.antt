use Rattle.std.proofs.Common.{◌≡◌, ◌↔◌, ◌<◌, ◌≤◌, ℕ, false, List, [], length, map, refl, sym, ap, ◌∙◌, subst, arith}
use Rattle.std.specs.Prelude.{All, IsTrue}
use Rattle.std.specs.List.{AllZip}
use Rattle.std.proofs.lemmas.List.Elements.{All-contains, All-weaker}
use Rattle.std.proofs.lemmas.Option.{slice_get_read}
use Rattle.tree_definitions.specs.Tree.{Symbol}
use Rattle.tree_definitions.specs.Cover.{Pair, Post}
use Rattle.tree_definitions.specs.Relation.{AreEqual, Has, IsAt, Row}
use Rattle.tree_definitions.specs.UpTrail.{IsUpStep, UpEntry}
use Rattle.tree_definitions.proofs.Listing.{at_number, number_at}
use Rattle.tree_definitions.proofs.Members.{at_unique, contains_at}
use Rattle.up_conditions.specs.Choosing.{AreOpen}
use Rattle.up_conditions.specs.Trailing.{HasSetAt}
use Rattle.up_conditions.proofs.Looked.{under_open}
use Rattle.up_conditions.proofs.Named.{listed_of_rule, pairs_before, rule_of_listed, same_row, same_sets, sets_of, states_of}
use Rattle.up_conditions.proofs.entry_steps.is_step.Goals as goal

pub returns-then-not-branch : goal.returns-then-not-branch
returns-then-not-branch c entry eat =
    let A = c.args.a.now in
    let B = c.args.b.now in
    let entries = c.args.entries.now in
    let place = c.args.at in
    let e = c.index-entries-at.result in
    let listed = c.symbols-symbols.ensures.listed in
    let here : IsAt entries place e = slice_get_read entries (length entries) place e refl c.requires.within c.index-entries-at.is in
    subst (λ (o : UpEntry). IsTrue false ↔ IsUpStep A B entries place o) (at_unique entries place e entry here eat) (
      λ t. absurd cc,
      λ h.
          let states = map (λ (pair : Pair). pair.state) h.pairs in
          let stands = at_number A.bits A.symbols e.symbol h.symbol listed.narrow h.stands in
          sym c.if-not-branch.true ∙ (c.in_ok-has_rule.ensures states (states_of entries place e.kids h.pairs h.named)).1
          (listed_of_rule A listed c.args.rules.now c.requires.rules e.symbol h.symbol stands states e.pair.state h.rule),
    )

pub step_from-requires-clause-named : goal.step_from-requires-clause-named
step_from-requires-clause-named c =
    let entries = c.args.entries.now in
    let place = c.args.at in
    let e = c.index-entries-at.result in
    let here : IsAt entries place e = slice_get_read entries (length entries) place e refl c.requires.within c.index-entries-at.is in
    let named : c.as_slice-named.result.now ≡ e.kids = c.as_slice-named.ensures.value ∙ ap (λ (o : UpEntry). o.kids) c.entry.view_is in
    let whole = c.requires.within in
    let within = All-weaker (λ k. k < place) (λ k. k < length entries) (λ k l. omega (arith, l, whole)) e.kids (c.requires.named place e here) in
    subst (λ (ks : List ℕ). All (λ k. k < length entries) ks) (sym named) within

pub returns : goal.returns
returns c entry eat =
    let A = c.args.a.now in
    let B = c.args.b.now in
    let entries = c.args.entries.now in
    let place = c.args.at in
    let e = c.index-entries-at.result in
    let listed = c.symbols-symbols.ensures.listed in
    let here : IsAt entries place e = slice_get_read entries (length entries) place e refl c.requires.within c.index-entries-at.is in
    let one = contains_at entries place e here in
    let inside = c.requires.within in
    let whole : place ≤ length entries = omega (arith, inside) in
    let p = pairs_before entries place e.kids whole (c.requires.named place e here) in
    let states = map (λ (pair : Pair). pair.state) p.0 in
    let sets = map (λ (pair : Pair). pair.set) p.0 in
    let have_sets = sets_of entries place e.kids p.0 p.1 in
    let i = c.entry.inside.symbol in
    let its : i ≡ e.symbol = ap (λ (o : UpEntry). o.symbol) c.entry.view_is in
    let label = c.index-symbols-entry.result in
    let all = c.symbols-symbols.result.now in
    let long : length all ≡ length A.symbols = ap (λ (xs : List Symbol). length xs) c.symbols-symbols.ensures.value in
    let below : e.symbol < length A.symbols = All-contains (λ (o : UpEntry). o.symbol < length A.symbols) entries e c.requires.labels one in
    let read : IsAt all i label = slice_get_read all (length A.symbols) i label (sym long) (omega (arith, below, its)) c.index-symbols-entry.is in
    let stands : IsAt A.symbols e.symbol label = subst (λ k. IsAt A.symbols k label) its (subst (λ (xs : List Symbol). IsAt xs i label) c.symbols-symbols.ensures.value read) in
    let listed_kids = c.as_slice-named.result.now in
    let named : listed_kids ≡ e.kids = c.as_slice-named.ensures.value ∙ ap (λ (o : UpEntry). o.kids) c.entry.view_is in
    let P : c.pair.inside.set ≡ e.pair.set = ap (λ (o : Pair). o.set) (c.pair.view_is ∙ c.pair_of-pair.ensures) in
    let row = c.in_ok-row.row in
    let zip = subst (λ (ks : List ℕ). AllZip (HasSetAt entries) ks sets) (sym named) have_sets in
    let list = c.under-places.result.now in
    let starts : AreOpen B label [] list = under_open B c.place_of-symbol.ensures.listed label c.place_of-symbol.result list c.place_of-symbol.ensures.place c.under-places.ensures.under in
    let members : (s : ℕ) → Has row s ↔ Post B label sets s = c.in_ok-row.ensures.members label [] sets refl starts zip in
    let size : length e.pair.set ≡ length B.states = All-contains (λ (o : UpEntry). length o.pair.set ≡ length B.states) entries e c.requires.sets one in
    let long_row : length row ≡ length e.pair.set = c.in_ok-row.ensures.long ∙ sym size in
    subst (λ (o : UpEntry). IsTrue c.equals.result ↔ IsUpStep A B entries place o) (at_unique entries place e entry here eat) (
      λ t.
          let same : row ≡ e.pair.set = c.equals.ensures.0 t ∙ P in
          record {
            symbol = label;
            stands = number_at A.bits A.symbols e.symbol label listed.narrow stands;
            pairs = p.0;
            named = p.1;
            rule = rule_of_listed A listed c.args.rules.now c.requires.rules e.symbol label stands states e.pair.state
                ((c.in_ok-has_rule.ensures states (states_of entries place e.kids p.0 p.1)).0 c.if-not-branch.false);
            set = subst (λ (o : Row). AreEqual (Has o) (Post B label sets)) same members;
          },
      λ h.
          let theirs = map (λ (pair : Pair). pair.set) h.pairs in
          let which : h.symbol ≡ label = at_unique A.symbols e.symbol h.symbol label (at_number A.bits A.symbols e.symbol h.symbol listed.narrow h.stands) stands in
          let both : theirs ≡ sets = same_sets entries e.kids theirs sets (sets_of entries place e.kids h.pairs h.named) have_sets in
          let exact = subst (λ (Ps : List Row). AreEqual (Has e.pair.set) (Post B label Ps)) both (subst (λ (a : Symbol). AreEqual (Has e.pair.set) (Post B a theirs)) which h.set) in
          c.equals.ensures.1 (same_row row e.pair.set long_row (λ s. (λ m. (exact s).1 ((members s).0 m), λ m. (members s).1 ((exact s).0 m))) ∙ sym P),
    )
