-- What contracts see of an accepted line.
use Rattle.dj_tree.specs.Trees as plain
use Rattle.dj_tree.specs.Plain.{plain_source}
use Rattle.dj_line.specs.declared.line.Line.{Line}

-- the source of a line, as plain trees
abbrev pub plain_line : Line → plain.Source
plain_line line = plain_source line.source
