use Rattle.std.proofs.Common.{refl}
use Rattle.std.proofs.lemmas.List.{map-append}
use Rattle.vata_outside.specs.Held.{file_of}
use Rattle.vata_outside.proofs.Places.{selected_of_push}
use Rattle.vata_outside.proofs.memory.MemFiles.add.Goals as goal

pub returns-clause-ok : goal.returns-clause-ok
returns-clause-ok c =
    rw (c.in_ok-push.ensures.items, ← c.self.view_is, selected_of_push _ _ _ c.self.invariant.1, map-append file_of, c.in_ok-name.ensures.ok, c.in_ok-bytes.ensures.items) refl
