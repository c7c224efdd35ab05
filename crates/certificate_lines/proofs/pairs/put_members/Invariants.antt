use Rattle.std.proofs.Common.{◌≡◌, ◌++◌, ◌∷◌, ◌-◌, length}
use Rattle.std.specs.List.{flat_map}
use Rattle.listed_pairs.specs.Members.{members}
use Rattle.listed_pairs.proofs.Listing.{rest_from}
use Rattle.certificate_lines.specs.Pairs.{state_name}
use Rattle.certificate_lines.proofs.pairs.put_members.Given as goal

-- what is written and what is left are the members' names
abbrev pub invariant-loop-s : goal.invariant-loop-s
invariant-loop-s l =
    l.out.items ++ flat_map (λ s. 32 ∷ state_name l.names s) (rest_from l.from l.set) ≡ l.initial.out.items ++ flat_map (λ s. 32 ∷ state_name l.names s) (members l.set)

abbrev pub decreases-loop-s : goal.decreases-loop-s
decreases-loop-s l = length l.set - l.from
