-- What the reader's values stand for.
use Rattle.witness_trees.specs.declared.reader.Line.{Line}
use Rattle.witness_trees.specs.Judged.{Written}

abbrev pub line_view : Line → Written
line_view line = record { number = line.number; place = line.place; name = line.name; kids = line.kids.items }
