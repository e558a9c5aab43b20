-- The fault that is read of a file is that of no plan.
use Rattle.std.proofs.Common.{◌≡◌, ℕ, List, Err}
use Rattle.plan_reader.specs.Words.{event_in}
use Rattle.plan_reader.specs.Plan.{Fault, IsLineOf, plan_in}
use Rattle.plan_reader.specs.Faults.{numbers_after, IsFaultOf}
use Rattle.plan_reader.proofs.FirstWord.{first_fault}
use Rattle.plan_reader.proofs.Plans.{reading}
use Rattle.line_reader.proofs.FileFaults as files

pub is_fault : (bytes : List ℕ) (fault : Fault) → plan_in bytes ≡ Err fault → IsFaultOf bytes fault
unfolding plan_in
is_fault bytes fault e = files.is_fault event_in IsLineOf reading numbers_after first_fault bytes fault e

pub fault_is : (bytes : List ℕ) (fault : Fault) → IsFaultOf bytes fault → plan_in bytes ≡ Err fault
unfolding plan_in
fault_is bytes fault it = files.fault_is event_in IsLineOf reading numbers_after first_fault bytes fault it
