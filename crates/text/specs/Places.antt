-- A reader's place: the index of the next line.
use Rattle.std.specs.Prelude.{ℕ, ◌+◌, List, drop}
use Rattle.std.specs.Borrow.{Bor}
use Rattle.text.specs.Lines.{line_length}
use Rattle.text.specs.declared.Reader.{Reader}

-- the reader of a text of which nothing was read
abbrev pub opened : Bor (List ℕ) → Reader
opened text = record { text = text; at = 0 }

-- the reader behind its next line
abbrev pub moved : Reader → Reader
moved r = record { text = r.text; at = r.at + line_length (drop r.at r.text.now) }
