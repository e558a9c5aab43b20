-- The answer to a vector: what its instruction does in its state, as a line. Source: docs/VECTORS.md.
use Rattle.std.specs.Prelude.{ℕ, ◌+◌, ◌++◌, ◌==◌, ◌||◌, Bool, List, [], ◌∷◌, codes, decimal, map, unwrap_or}
use Rattle.std.specs.Prelude.{if◌then◌else◌}
use Rattle.std.specs.List.{concat, flat_map}
use Rattle.sm_types.specs.declared.length.VecLen.{VecLen}
use Rattle.sm_types.specs.declared.scalars.Scalars.{Scalars}
use Rattle.paged_memory.specs.Memory.{AddressSpace, bytes_with}
use Rattle.sve_vectors.specs.Lengths.{vector_bytes}
use Rattle.sve_vectors.specs.Predicates.{predicate_bytes}
use Rattle.text_lines.specs.Numbers.{hex64}
use Rattle.text_lines.specs.Rows.{are_zero}
use Rattle.text_lines.specs.Words.{exception_name, exception_values}
use Rattle.machine_step.specs.ProcessorState.{ProcessorState}
use Rattle.machine_step.specs.Effect.{Effect, Raises, Calls, Becomes, Asks, effect_of}
use Rattle.vector_runner.specs.Field.{Field, Vector, field_text, X, Sp, Nzcv, Tpidr, Tpidr2, Svcr, Z, P, Ffr, Za, M}
use Rattle.vector_runner.specs.State.{state_of, data_address}

-- ---- the fields of a state that are not zero

abbrev pub number_field : (ℕ → Field) → ℕ → List Field
number_field name value = if value == 0 then [] else name value ∷ []

abbrev pub bytes_field : (List ℕ → Field) → List ℕ → List Field
bytes_field name bytes = if are_zero bytes then [] else name bytes ∷ []

-- those of some registers, the first of them number n
unfoldable pub numbered_fields : {A : Type 0} → (ℕ → A → List Field) → ℕ → List A → List Field
numbered_fields field n [] = []
numbered_fields field n (a ∷ others) = field n a ++ numbered_fields field (n + 1) others

-- those of general registers
abbrev pub x_fields : List ℕ → List Field
x_fields values = numbered_fields (λ n value. number_field (X n) value) 0 values

-- those of registers of bytes
abbrev pub bytes_fields : (ℕ → List ℕ → Field) → List (List ℕ) → List Field
bytes_fields name registers = numbered_fields (λ n bytes. bytes_field (name n) bytes) 0 registers

unfoldable pub flags_field : Scalars → List Field
flags_field s = if s.n || s.z || s.c || s.v then Nzcv s.n s.z s.c s.v ∷ [] else []

unfoldable pub modes_field : Bool → Bool → List Field
modes_field streaming za_on = if streaming || za_on then Svcr streaming za_on ∷ [] else []

-- those of the other scalar registers
abbrev pub scalar_fields : Scalars → ℕ → ℕ → Bool → Bool → List Field
scalar_fields s tpidr tpidr2 streaming za_on =
    number_field Sp s.sp
    ++ (flags_field s
    ++ (number_field Tpidr tpidr
    ++ (number_field Tpidr2 tpidr2
    ++ modes_field streaming za_on)))

-- those of the vectors of ZA, where it is on
abbrev pub array_fields : Bool → List (List ℕ) → List Field
array_fields za_on za = if za_on then bytes_fields Za za else []

-- bytes up to the last that is not zero
unfoldable pub up_to_last : List ℕ → List ℕ
up_to_last [] = []
up_to_last (b ∷ bytes) = if are_zero (b ∷ bytes) then [] else b ∷ up_to_last bytes

-- the bytes of the data, which can be read (4)
unfoldable pub data_in : AddressSpace → List ℕ
data_in m = up_to_last (unwrap_or (bytes_with 4 m data_address 4096) [])

-- the fields of a state that are not zero, in the order of a line
unfoldable pub fields_of : ProcessorState → List Field
fields_of s =
    x_fields s.scalars.x
    ++ (scalar_fields s.scalars s.tpidr s.tpidr2 s.streaming s.za_on
    ++ (bytes_fields Z s.bank.registers.vectors
    ++ (bytes_fields P (map predicate_bytes s.bank.registers.predicates)
    ++ (bytes_field Ffr (predicate_bytes s.bank.registers.ffr)
    ++ (array_fields s.za_on s.bank.za
    ++ bytes_field M (data_in s.memory))))))

-- ---- the line

-- fields, each after a space (32)
unfoldable pub spaced : List Field → List ℕ
spaced fields = flat_map (λ f. 32 ∷ field_text f) fields

-- what an instruction does: the state after it, a call of the kernel, an exception with its values, or an
-- operation on a word that the threads share
unfoldable pub effect_text : Effect → List ℕ
effect_text (Raises exception) =
    concat (codes "raise " ∷ exception_name exception ∷ exception_values exception ∷ [])
effect_text (Calls number) = concat (codes "call " ∷ decimal number ∷ [])
effect_text (Becomes s) = concat (codes "next pc=" ∷ hex64 s.scalars.pc ∷ spaced (fields_of s) ∷ [])
effect_text (Asks op next) = codes "shared"

-- the answer to a vector
unfoldable pub answer : VecLen → VecLen → Vector → List ℕ
answer vl svl v = effect_text (effect_of (vector_bytes vl) (state_of vl svl v))
