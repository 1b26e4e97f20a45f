use Rattle.std.specs.Prelude.{⊤}
use Rattle.arena_walk.specs.declared.visit.WalkError.{WalkError}
use Rattle.arena_walk.specs.declared.visit.WalkError.TheVariants.{Visitor, NoMemory}

-- P holds of the visitor's fault, if that is the error
abbrev pub IfVisitor : {E : Type 0} → WalkError E → (E → Type 0) → Type 0
IfVisitor (Visitor fault) P = P fault
IfVisitor NoMemory P = ⊤
