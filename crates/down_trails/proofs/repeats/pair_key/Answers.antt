use Rattle.std.proofs.Common.{◌≡◌, ◌++◌, ◌∷◌, [], ℕ, List, map, ap, subst, ◌∙◌}
use Rattle.std.specs.Global.{Vec}
use Rattle.tree_definitions.specs.Cover.{Pair}
use Rattle.tree_definitions.specs.Relation.{Has}
use Rattle.down_trails.specs.Keys.{AreMembers}
use Rattle.down_trails.proofs.Alike.{parts_pushed}
use Rattle.down_trails.proofs.repeats.pair_key.Goals as goal

pub returns : goal.returns
returns c =
    let state = c.in_ok-state.state in
    let members = c.in_ok-members.members in
    let its : state.items ≡ c.args.pair.now.state ∷ [] = c.in_ok-state.ensures.items ∙ ap (λ (x : Pair). x.state ∷ []) c.pair.view_is in
    let first = parts_pushed c.new-key.result.items c.push.new.self.items state c.in_ok-push.ensures.items ∙ ap (λ (xs : List (Vec ℕ)). map (λ (part : Vec ℕ). part.items) xs ++ state.items ∷ []) c.new-key.ensures.items in
    let second = parts_pushed c.push.new.self.items c.push-2.new.self.items members c.in_ok-push-2.ensures.items in
    record {
      members = members.items;
      set = subst (λ (x : Pair). AreMembers (Has x.set) members.items) c.pair.view_is c.in_ok-members.ensures;
      key_is = second ∙ ap (λ (xs : List (List ℕ)). xs ++ members.items ∷ []) first ∙ ap (λ (x : List ℕ). x ∷ members.items ∷ []) its;
    }
