-- The errors of a source, by the faults that they stand for.
use Rattle.std.specs.Prelude.{⊤}
use Rattle.dj_tree.specs.Trees.{Source}
use Rattle.dj_calculus.specs.Accepted.{FirstFault}
use Rattle.dj_faults.specs.LineFaults.{fault_of}
use Rattle.dj_line.specs.declared.errors.LineError.{LineError}
use Rattle.dj_line.specs.declared.errors.LineError.TheVariants.{Refused, NoMemory}

-- the error has its cause in the source
abbrev pub IsLineError : Source → LineError → Type 0
IsLineError source (Refused fault at) = FirstFault source (fault_of fault) at
IsLineError source NoMemory = ⊤
