-- What contracts see of the files and of the output.
use Rattle.std.specs.Prelude.{ℕ, List, Option}
use Rattle.dj_system.specs.OpenFile.{left_open}
use Rattle.dj_system.specs.declared.files.SystemFiles.{SystemFiles}
use Rattle.dj_system.specs.declared.output.Output.{Output}

-- the bytes that are left of a path, where that path is open and its file tells them. `remaining` is what files tell.
abbrev pub left_of : {R F D : Type 0} → (F → Option (List ℕ)) → SystemFiles R F D → List ℕ → Option (List ℕ)
left_of remaining files path = left_open remaining files.reading path

-- how often reading has failed
abbrev pub read_faults : {R F D : Type 0} → SystemFiles R F D → ℕ
read_faults files = files.faults

-- what the writer of an output holds, where it tells that
abbrev pub held_by : {W : Type 0} → (W → Option (List ℕ)) → Output W → Option (List ℕ)
held_by contents output = contents output.writer

-- how often writing has failed
abbrev pub write_faults : {W : Type 0} → Output W → ℕ
write_faults output = output.faults
