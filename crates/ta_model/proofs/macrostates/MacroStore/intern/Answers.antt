use Rattle.std.proofs.Common.{◌≡◌, List, [], ◌∷◌, ◌++◌, length, sym, ap, ◌∙◌, subst, refl}
use Rattle.std.specs.Prelude.{Contains}
use Rattle.std.proofs.lemmas.Bool.{false≢true}
use Rattle.tree_definitions.specs.Relation.{IsAt}
use Rattle.ta_model.specs.Macrostates.{AreMacrostates, IsInterned, Macrostates, StoreGrows}
use Rattle.ta_model.proofs.Interning.{any_member, grows_by_one, interned, interned_known, position_finds, still_macrostates}
use Rattle.ta_model.proofs.macrostates.MacroStore.intern.Goals as goal
use Rattle.ta_model.proofs.macrostates.MacroStore.intern.Goals.{In-Ok}

pub returns-in-Some-clause-ok : goal.returns-in-Some-clause-ok
returns-in-Some-clause-ok c =
    let at = position_finds c.self.inside.rows.keys c.args.set.now c.in-Some.i (sym c.in-Some.ensures.index) in
    interned_known c.args.self.now c.args.set.now c.in-Some.i (subst (λ (m : Macrostates). IsAt m.rows c.in-Some.i c.args.set.now) c.self.view_is at)

-- the store as it was
abbrev Old : In-Ok → Macrostates
Old c = record { states = c.self.inside.states; rows = c.self.inside.rows.keys }

-- the store as it is now
abbrev New : In-Ok → Macrostates
New c = record { states = c.self.inside.states; rows = c.insert_full.new.self.keys }

lacks : (c : In-Ok) → Contains c.self.inside.rows.keys c.args.set.now → ⊥
lacks c h = false≢true (c.in_default.ensures.found ∙ any_member c.self.inside.rows.keys c.args.set.now h)

put_in : (c : In-Ok) → IsInterned (Old c) c.args.set.now (New c) c.in-Ok.i
put_in c =
    let stored = c.in-Ok.ensures.stored in
    interned c.self.inside.states c.self.inside.rows.keys c.insert_full.new.self.keys c.args.set.now c.in_ok-copy.copy stored.0 c.in-Ok.i c.in_ok-copy.ensures (lacks c)
    c.in-Ok.ensures.keys stored.1 stored.2

one_more : (c : In-Ok) → New c ≡ record { states = c.self.inside.states; rows = c.self.inside.rows.keys ++ c.args.set.now ∷ [] }
one_more c = (put_in c).fresh (lacks c)

still : (c : In-Ok) → AreMacrostates (New c)
still c =
    subst AreMacrostates (sym (one_more c))
    (still_macrostates (Old c) c.args.set.now c.self.invariant (c.requires ∙ ap (λ (m : Macrostates). m.states) (sym c.self.view_is)) (lacks c))

pub returns-clause-ok : goal.returns-clause-ok
returns-clause-ok c = subst (λ (m : Macrostates). IsInterned m c.args.set.now (New c) c.in-Ok.i) c.self.view_is (put_in c)

pub invariant_of-self-2 : goal.invariant_of-self-2
invariant_of-self-2 c = still c

pub returns-clause-grows : goal.returns-clause-grows
returns-clause-grows c =
    subst (λ (m : Macrostates). StoreGrows m (New c)) c.self.view_is (subst (StoreGrows (Old c)) (sym (one_more c)) (grows_by_one (Old c) c.args.set.now))

pub returns-clause-store : goal.returns-clause-store
returns-clause-store c = still c
