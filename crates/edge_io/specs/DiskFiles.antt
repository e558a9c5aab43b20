-- The files of the system. Source: the project's own rule.
use Rattle.std.specs.Prelude.{ℕ, None, false}
use Rattle.edge_io.specs.Files.{FilesView}
use Rattle.edge_io.specs.declared.disk_files.DiskFiles.{DiskFiles}

-- how often a path led nowhere
abbrev pub absences_of : {R : Type 0} → DiskFiles R → ℕ
absences_of files = files.absences

-- how often a file could not be read
abbrev pub faults_of : {R : Type 0} → DiskFiles R → ℕ
faults_of files = files.faults

-- it tells no content, and any fetch may fail
abbrev pub view_of : {R : Type 0} → DiskFiles R → FilesView
view_of files = record { told = None; absences = files.absences; faults = files.faults; reliable = false }
