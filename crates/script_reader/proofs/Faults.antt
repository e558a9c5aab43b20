-- The fault that is read of a file is that of no script.
use Rattle.std.proofs.Common.{◌≡◌, ℕ, List, Err}
use Rattle.line_reader.specs.File.{Fault}
use Rattle.line_reader.proofs.FileFaults as files
use Rattle.script_reader.specs.Words.{command_in}
use Rattle.script_reader.specs.Script.{IsLineOf, script_in}
use Rattle.script_reader.specs.Faults.{operands_after, IsFaultOf}
use Rattle.script_reader.proofs.FirstWord.{first_fault}
use Rattle.script_reader.proofs.Scripts.{reading}

pub is_fault : (bytes : List ℕ) (fault : Fault) → script_in bytes ≡ Err fault → IsFaultOf bytes fault
unfolding script_in
is_fault bytes fault e = files.is_fault command_in IsLineOf reading operands_after first_fault bytes fault e

pub fault_is : (bytes : List ℕ) (fault : Fault) → IsFaultOf bytes fault → script_in bytes ≡ Err fault
unfolding script_in
fault_is bytes fault it = files.fault_is command_in IsLineOf reading operands_after first_fault bytes fault it
