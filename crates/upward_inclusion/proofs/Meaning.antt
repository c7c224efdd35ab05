-- What a right answer means.
use Rattle.std.proofs.Common.{◌<◌, ◌*◌, ◌^◌, ℕ, Bool, true, false, List, length, refl}
use Rattle.tree_definitions.specs.Automaton.{Automaton, IsAutomaton, IsState}
use Rattle.tree_definitions.specs.Cover.{Pair}
use Rattle.tree_definitions.specs.Language.{Included}
use Rattle.tree_definitions.specs.Relation.{Matrix, Holds}
use Rattle.tree_definitions.specs.UpCert.{UpCert}
use Rattle.tree_definitions.specs.UpTrail.{UpEntry, UpTrail}
use Rattle.tree_definitions.specs.Witness.{NodeRow, NoCert}
use Rattle.tree_definitions.specs.Tree.{Symbol}
use Rattle.tree_definitions.proofs.Greatest.{greatest_up_reflexive}
use Rattle.tree_definitions.proofs.Upward.{up_included}
use Rattle.tree_definitions.proofs.UpTrails.{up_trail_bound}
use Rattle.certificate_kinds.specs.Fitting.{AreUpEntries}
use Rattle.upward_inclusion.specs.Inclusion.{IsSearched}

-- what is searched over is reflexive
pub searched_reflexive : (sim : Bool) (A : Automaton) (R : Matrix) → IsAutomaton A → IsSearched sim A R → (q : ℕ) → IsState A q → Holds R q q
searched_reflexive true A R fits g q l = (g.pairs q q).1 (greatest_up_reflexive A fits q l)
searched_reflexive false A R fits g q l = (g.pairs q q).1 (refl, l)

module _ (A B : Automaton) (RA RB : Matrix) where
  pub pairs_mean : (X : List Pair) → UpCert A B (Holds RA) (Holds RB) X → Included A B
  pairs_mean X c = up_included A B (Holds RA) (Holds RB) X c

  pub tree_means : (symbols : List Symbol) (nodes : List NodeRow) → NoCert A B symbols nodes → ¬ Included A B
  tree_means symbols nodes c h = c.refused (h c.tree c.accepted)

  pub trail_means : (sim : Bool) (K : ℕ) (entries : List UpEntry) → IsAutomaton A → IsAutomaton B → IsSearched sim A RA → IsSearched sim B RB
      → AreUpEntries A B K entries → UpTrail A B (Holds RA) (Holds RB) K entries → K < length A.states * 2 ^ length B.states
  trail_means sim K entries left right l r fits t =
      up_trail_bound A B (Holds RA) (Holds RB) K entries (searched_reflexive sim A RA left l) (searched_reflexive sim B RB right r)
      (λ i entry at. (fits.fitting i entry at).pair) t
