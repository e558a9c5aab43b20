-- The registers of which LDR and STR load and store all bytes: vectors and predicates.
-- Source: DDI 0487, C8.2, LDR and STR (vector, predicate).
use Rattle.std.specs.Prelude.{ℕ, ◌/◌, ◌<◌, Bool, List, ℤ}
use Rattle.sm_types.specs.declared.vector.VectorAccess.{VectorAccess}
use Rattle.sm_types.specs.declared.vector.VectorAccess.TheVariants as form
use Rattle.sve_vectors.specs.Predicates.{truths_of}
use Rattle.sve_vectors.specs.Registers.{VectorRegisters, vector_at, predicate_at}
use Rattle.sve_vectors.specs.State.{SveState, with_vector, with_predicate}
use Rattle.sve_access.specs.declared.transfers.Register.{Register}
use Rattle.sve_access.specs.declared.transfers.Register.TheVariants.{Vector, Predicate}

-- there is such a register
abbrev pub IsRegister : Register → Type 0
IsRegister (Vector zt) = zt < 32
IsRegister (Predicate pt) = pt < 16

-- the instruction that loads or stores it
abbrev pub register_access : Register → Bool → ℤ → ℕ → VectorAccess
register_access (Vector zt) store times rn = form.Vector store times rn zt
register_access (Predicate pt) store times rn = form.Predicate store times rn pt

-- how many bytes it has, where a vector has l
abbrev pub register_size : Register → ℕ → ℕ
register_size (Vector zt) l = l
register_size (Predicate pt) l = l / 8

-- its bytes
abbrev pub register_bytes : Register → VectorRegisters → List ℕ
register_bytes (Vector zt) r = vector_at r zt
register_bytes (Predicate pt) r = predicate_at r pt

-- with its bytes written
abbrev pub with_register : SveState → Register → List ℕ → SveState
with_register s (Vector zt) bytes = with_vector s zt bytes
with_register s (Predicate pt) bytes = with_predicate s pt (truths_of bytes)
