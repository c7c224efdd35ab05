-- What an upward search for inclusion may answer.
use Rattle.std.specs.Prelude.{◌≡◌, ℕ}
use Rattle.tree_definitions.specs.Automaton.{Automaton}
use Rattle.tree_definitions.specs.Relation.{Matrix, Holds}
use Rattle.tree_definitions.specs.UpCert.{UpCert}
use Rattle.tree_definitions.specs.UpTrail.{UpTrail as IsUpTrail}
use Rattle.tree_definitions.specs.Witness.{NoCert}
use Rattle.certificate_kinds.specs.Certificates.{FitsUp, FitsTree, FitsUpTrail}
use Rattle.certificate_kinds.specs.declared.certificate.Certificate.{Certificate}
use Rattle.certificate_kinds.specs.declared.certificate.Certificate.TheVariants.{Up, Down, Tree, UpTrail, DownTrail}

-- a right answer of an upward search over these relations and with this budget. It can be written for A and B, and is
-- pairs that show inclusion; a tree that A accepts and B doesn't; or one entry more than the budget. All its conditions hold
abbrev pub IsUpAnswer : Automaton → Automaton → Matrix → Matrix → ℕ → Certificate → Type 0
IsUpAnswer A B RA RB K (Up left right pairs) =
    (left ≡ RA) × (right ≡ RB) × FitsUp A B left right pairs.items × UpCert A B (Holds left) (Holds right) pairs.items
IsUpAnswer A B RA RB K (Down both pairs) = ⊥
IsUpAnswer A B RA RB K (Tree nodes) = FitsTree A B nodes × NoCert A B nodes.symbols nodes.rows
IsUpAnswer A B RA RB K (UpTrail left right budget entries) =
    (left ≡ RA) × (right ≡ RB) × (budget ≡ K)
    × FitsUpTrail A B left right budget entries.items × IsUpTrail A B (Holds left) (Holds right) budget entries.items
IsUpAnswer A B RA RB K (DownTrail both budget entries) = ⊥

-- the certificate is no trail
abbrev pub IsDecided : Certificate → Type 0
IsDecided (Up left right pairs) = Unit {0}
IsDecided (Down both pairs) = Unit {0}
IsDecided (Tree nodes) = Unit {0}
IsDecided (UpTrail left right budget entries) = ⊥
IsDecided (DownTrail both budget entries) = ⊥
