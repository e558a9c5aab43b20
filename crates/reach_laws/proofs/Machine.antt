-- Each instruction leads from a state with the ranges of its types to such states.
use Rattle.std.proofs.Common.{◌≡◌, ℕ, ◌*◌, ◌^◌, ◌<◌, ◌⊎◌, ◌&&◌, not, Bool, true, false, List, length, refl, sym, ap, arith, subst, inl}
use Rattle.std.proofs.Common.{inr, Option, Some, None, IsTrue}
use Rattle.std.specs.Prelude.{option_and_then}
use Rattle.std.specs.Option.{option_or}
use Rattle.sm_types.specs.Checks.{fault_when}
use Rattle.sm_types.specs.declared.insn.Insn.{Insn}
use Rattle.sm_types.specs.declared.insn.Insn.TheVariants as insn
use Rattle.sm_types.specs.declared.insn.System.{System}
use Rattle.sm_types.specs.declared.insn.System.TheVariants.{Svc, Brk, Udf, Hint, Dmb, Dsb, Isb}
use Rattle.sm_types.specs.declared.shared_op.SharedOp.{SharedOp}
use Rattle.sm_types.specs.declared.stop.Exception.{Exception}
use Rattle.sm_types.specs.declared.stop.Exception.TheVariants.{IllegalStreaming, NotStreaming, ZaInactive}
use Rattle.sm_types.specs.declared.vector.VectorAccess.{VectorAccess}
use Rattle.sm_types.specs.declared.matrix.ArrayAccess.{ArrayAccess}
use Rattle.sm_types.specs.declared.matrix.ArrayAccess.TheVariants.{Zero, Transfer}
use Rattle.sm_types.specs.declared.matrix.TileAccess.{TileAccess}
use Rattle.plain_lemmas.proofs.Options.{first_none, second_none}
use Rattle.a64_table.specs.Ranges.{IsInRow}
use Rattle.sve_table.specs.Ranges.{IsInVectorRow}
use Rattle.a64_encode.specs.Either.{instruction_of}
use Rattle.sve_vectors.specs.Registers.{predicate_at}
use Rattle.za_array.specs.Array.{zero_vectors}
use Rattle.scalar_exec.specs.Step.{is_scalar}
use Rattle.mem_access.specs.SharedAccess.{touched}
use Rattle.machine_step.specs.ProcessorState.{ProcessorState}
use Rattle.machine_step.specs.Mode.{length_at}
use Rattle.machine_step.specs.System.{core_past}
use Rattle.machine_step.specs.Effect.{word_of, insn_at, is_of_tiles, is_of_array, is_first_fault, mode_fault}
use Rattle.machine_step.specs.Effect.{alignment_fault, fetch_fault, undefined_fault, illegal_fault, memory_fault, data_fault, early_fault}
use Rattle.machine_step.specs.Effect.{fault_of}
use Rattle.machine_step.specs.Effect.{system_effect, accessed, accesses, computed, vector_computed, registers_of, matrix_computed}
use Rattle.machine_step.specs.Effect.{matrix_of, vector_accessed, with_core, with_access, with_array}
use Rattle.machine_step.specs.Effect.{array_accessed, slice_accessed, next_of, perform, unless_fault, effect_of}
use Rattle.matrix_step.specs.Step.{matrix_step}
use Rattle.sm_types.specs.declared.matrix.StreamingLength.{StreamingLength}
use Rattle.vector_step.specs.Step.{vector_step}
use Rattle.sve_access.specs.After.{vector_fault}
use Rattle.sve_access.specs.After.{after_access as after_vector_access}
use Rattle.za_access.specs.Vectors.{after_vector}
use Rattle.za_access.specs.Vectors as za
use Rattle.za_access.specs.Slices.{after_slice}
use Rattle.za_access.specs.Contents.{Contents}
use Rattle.reach_laws.proofs.Fits.{IsLength}
use Rattle.reach_laws.proofs.Typed.{IsTyped, LeadsToTyped, current_length}
use Rattle.reach_laws.proofs.Scalars.{fits_past}
use Rattle.reach_laws.proofs.ScalarSteps.{step_fits}
use Rattle.reach_laws.proofs.Memory.{word_below}
use Rattle.reach_laws.proofs.Accesses.{access_fits, answered_fits}
use Rattle.reach_laws.proofs.Registers.{predicate_long}
use Rattle.reach_laws.proofs.Vectors.{CoreHolds, vector_step_holds}
use Rattle.reach_laws.proofs.VectorAccesses.{vector_access_holds, array_access_holds, slice_access_holds, ContentsHold}
use Rattle.reach_laws.proofs.Arrays.{matrix_step_holds}
use Rattle.reach_laws.proofs.Modes.{current_is, current_fits, typed_scalars, typed_past, typed_mode, typed_system}

left : {A : Type 0} → A ⊎ ⊥ → A
left (inl a) = a
left (inr none) = absurd none

right : {A : Type 0} → ⊥ ⊎ A → A
right (inl none) = absurd none
right (inr a) = a

module _ (vl svl : ℕ) (v : IsLength vl) (w : IsLength svl) (s : ProcessorState) (t : IsTyped vl svl s) where
  system_typed : (x : System) → LeadsToTyped vl svl (system_effect x s)
  system_typed (Svc imm) = tt
  system_typed (Brk imm) = tt
  system_typed (Udf imm) = tt
  system_typed (Hint imm) = typed_past vl svl s t
  system_typed (Dmb imm) = typed_past vl svl s t
  system_typed (Dsb imm) = typed_past vl svl s t
  system_typed (Isb imm) = typed_past vl svl s t

  computed_typed : (it : Insn) → IsTrue (is_scalar it) → IsInRow it → IsTyped vl svl (computed it s)
  computed_typed it is r = typed_scalars vl svl s _ t (step_fits it s.scalars is r t.scalars)

  accessed_typed : (it : Insn) → IsInRow it → IsTyped vl svl (accessed it s)
  accessed_typed it r =
      let a = access_fits it s.scalars s.memory r t.scalars t.memory in
      record {
        scalars = fits_past _ a.scalars;
        tpidr = t.tpidr;
        tpidr2 = t.tpidr2;
        registers = t.registers;
        za = t.za;
        off = t.off;
        memory = a.memory;
      }

  access_typed : (it : Insn) → IsInRow it → (o : Option SharedOp) → touched it s.scalars ≡ o → LeadsToTyped vl svl (accesses o it s)
  access_typed it r None is = accessed_typed it r
  access_typed it r (Some op) is = λ answer lt. typed_scalars vl svl s _ t
      (fits_past _ (answered_fits it answer s.scalars r t.scalars lt op is))

  abbrev l : ℕ
  l = current_length vl svl s.streaming

  now : length_at vl s ≡ l
  now = current_is vl svl s t

  long : IsLength l
  long = current_fits vl svl v w s.streaming

  core_holds : CoreHolds l (registers_of s)
  core_holds = record { scalars = t.scalars; registers = t.registers }

  vector_typed : (it : Insn) → IsInVectorRow it → IsTyped vl svl (vector_computed vl it s)
  vector_typed it r =
      subst (λ n. IsTyped vl svl (core_past (with_core s (vector_step n it (registers_of s))))) (sym now)
      (let h = vector_step_holds l long (registers_of s) core_holds it r in
      record {
        scalars = fits_past _ h.scalars;
        tpidr = t.tpidr;
        tpidr2 = t.tpidr2;
        registers = h.registers;
        za = t.za;
        off = t.off;
        memory = t.memory;
      })

  vector_access_typed : (x : VectorAccess) → IsInVectorRow (insn.VectorAccess x) → memory_fault vl (insn.VectorAccess x) s ≡ None
      → IsTyped vl svl (vector_accessed vl x s)
  vector_access_typed x r none =
      subst (λ n. IsTyped vl svl (core_past (with_access s (after_vector_access x s.scalars n s.bank.registers s.memory)))) (sym now)
      (let h = vector_access_holds l long s.scalars s.bank.registers t.registers s.memory t.memory x r
      (subst (λ n. vector_fault x s.scalars n s.bank.registers s.memory ≡ None) now none) in
      record {
        scalars = fits_past _ t.scalars;
        tpidr = t.tpidr;
        tpidr2 = t.tpidr2;
        registers = h.registers;
        za = t.za;
        off = t.off;
        memory = h.memory;
      })

  on_off : s.za_on ≡ true → (za : List (List ℕ)) → s.za_on ≡ false → za ≡ zero_vectors svl
  on_off on za off = (let none : ⊥ = cc in absurd none)

  -- ZA is on, or stays
  matrix_typed : (it : Insn) → (is_of_tiles it ≡ true → s.streaming ≡ true) → IsInVectorRow it
      → (s.za_on ≡ false → (matrix_step it (matrix_of s)).za ≡ zero_vectors svl) → IsTyped vl svl (matrix_computed it s)
  matrix_typed it tiles r off =
      let full : is_of_tiles it ≡ true → l ≡ svl = λ is. ap (current_length vl svl) (tiles is) in
      let h = matrix_step_holds svl w (matrix_of s) l it full r (record { scalars = t.scalars; registers = t.registers; za = t.za }) in
      record {
        scalars = fits_past _ h.scalars;
        tpidr = t.tpidr;
        tpidr2 = t.tpidr2;
        registers = h.registers;
        za = h.za;
        off = off;
        memory = t.memory;
      }

  contents_typed : (after : Contents) → s.za_on ≡ true → ContentsHold svl after → IsTyped vl svl (core_past (with_array s after))
  contents_typed after on h = record {
    scalars = fits_past _ t.scalars;
    tpidr = t.tpidr;
    tpidr2 = t.tpidr2;
    registers = t.registers;
    za = h.za;
    off = on_off on after.za;
    memory = h.memory;
  }

  array_typed : (x : ArrayAccess) → s.za_on ≡ true → IsInVectorRow (insn.ArrayAccess x) → memory_fault vl (insn.ArrayAccess x) s ≡ None
      → IsTyped vl svl (array_accessed x s)
  array_typed (Zero mask) on r none = matrix_typed (insn.ArrayAccess (Zero mask)) (λ is. (let no : ⊥ = cc in absurd no)) r (on_off on _)
  array_typed (Transfer store rv offset rn) on r none =
      let count = t.za.square.count in
      contents_typed _ on (subst (λ n. ContentsHold svl (after_vector store rv offset rn s.scalars n s.bank.za s.memory)) (sym count)
      (array_access_holds svl w s.scalars s.bank.za t.za s.memory t.memory store rv offset rn
      (subst (λ n. za.vector_fault store offset rn s.scalars n s.memory ≡ None) count none)))

  slice_typed : (x : TileAccess) → s.streaming ≡ true → s.za_on ≡ true → IsInVectorRow (insn.TileAccess x)
      → memory_fault vl (insn.TileAccess x) s ≡ None → IsTyped vl svl (slice_accessed x s)
  slice_typed x streaming on r none =
      let count = t.za.square.count in
      let pg = predicate_at s.bank.registers x.pg in
      let full : l ≡ svl = ap (current_length vl svl) streaming in
      let pg_long = predicate_long l s.bank.registers t.registers x.pg (let b = r.pg in omega arith) in
      let bits : 8 * length pg ≡ svl = let whole = w.whole in omega arith in
      contents_typed _ on (subst (λ n. ContentsHold svl (after_slice x s.scalars pg n s.bank.za s.memory)) (sym count)
      (slice_access_holds svl w s.scalars s.bank.za t.za s.memory t.memory x pg r bits none))

  streaming_off : (x : StreamingLength) → s.za_on ≡ false → (matrix_step (insn.StreamingLength x) (matrix_of s)).za ≡ zero_vectors svl
  unfolding matrix_step
  streaming_off x off = t.off off

  pub next_typed : (it : Insn) → IsInRow it ⊎ IsInVectorRow it → memory_fault vl it s ≡ None → (is_of_tiles it ≡ true → s.streaming ≡ true)
      → (is_of_array it ≡ true → s.za_on ≡ true) → LeadsToTyped vl svl (next_of vl it s)
  next_typed (insn.System x) r none tiles array = system_typed x
  next_typed (insn.SystemMove x) r none tiles array = typed_system vl svl x s t
  next_typed (insn.LoadStore x) r none tiles array = access_typed (insn.LoadStore x) (left r) _ refl
  next_typed (insn.LoadLiteral x) r none tiles array = access_typed (insn.LoadLiteral x) (left r) _ refl
  next_typed (insn.LoadStorePair x) r none tiles array = access_typed (insn.LoadStorePair x) (left r) _ refl
  next_typed (insn.Atomic x) r none tiles array = access_typed (insn.Atomic x) (left r) _ refl
  next_typed (insn.AddSubImmediate x) r none tiles array = computed_typed (insn.AddSubImmediate x) refl (left r)
  next_typed (insn.AddSubRegister x) r none tiles array = computed_typed (insn.AddSubRegister x) refl (left r)
  next_typed (insn.LogicalRegister x) r none tiles array = computed_typed (insn.LogicalRegister x) refl (left r)
  next_typed (insn.AddSubExtended x) r none tiles array = computed_typed (insn.AddSubExtended x) refl (left r)
  next_typed (insn.LogicalImmediate x) r none tiles array = computed_typed (insn.LogicalImmediate x) refl (left r)
  next_typed (insn.MoveWide x) r none tiles array = computed_typed (insn.MoveWide x) refl (left r)
  next_typed (insn.BitfieldMove x) r none tiles array = computed_typed (insn.BitfieldMove x) refl (left r)
  next_typed (insn.Extract x) r none tiles array = computed_typed (insn.Extract x) refl (left r)
  next_typed (insn.PcRelative x) r none tiles array = computed_typed (insn.PcRelative x) refl (left r)
  next_typed (insn.Branch x) r none tiles array = computed_typed (insn.Branch x) refl (left r)
  next_typed (insn.BranchRegister x) r none tiles array = computed_typed (insn.BranchRegister x) refl (left r)
  next_typed (insn.AddSubCarry x) r none tiles array = computed_typed (insn.AddSubCarry x) refl (left r)
  next_typed (insn.ConditionalSelect x) r none tiles array = computed_typed (insn.ConditionalSelect x) refl (left r)
  next_typed (insn.ConditionalCompare x) r none tiles array = computed_typed (insn.ConditionalCompare x) refl (left r)
  next_typed (insn.OneSource x) r none tiles array = computed_typed (insn.OneSource x) refl (left r)
  next_typed (insn.TwoSource x) r none tiles array = computed_typed (insn.TwoSource x) refl (left r)
  next_typed (insn.Multiply x) r none tiles array = computed_typed (insn.Multiply x) refl (left r)
  next_typed (insn.VectorAccess x) r none tiles array = vector_access_typed x (right r) none
  next_typed (insn.Mode x) r none tiles array = typed_past vl svl _ (typed_mode vl svl x s t)
  next_typed (insn.ArrayAccess x) r none tiles array = array_typed x (array refl) (right r) none
  next_typed (insn.TileAccess x) r none tiles array = slice_typed x (tiles refl) (array refl) (right r) none
  next_typed (insn.TileMove x) r none tiles array = matrix_typed (insn.TileMove x) tiles (right r) (on_off (array refl) _)
  next_typed (insn.TileAdd x) r none tiles array = matrix_typed (insn.TileAdd x) tiles (right r) (on_off (array refl) _)
  next_typed (insn.OuterProduct x) r none tiles array = matrix_typed (insn.OuterProduct x) tiles (right r) (on_off (array refl) _)
  next_typed (insn.StreamingLength x) r none tiles array = matrix_typed (insn.StreamingLength x) tiles (right r) (streaming_off x)
  next_typed other r none tiles array = vector_typed other (right r)

-- ---- the instruction at PC

gate : (a b : Bool) (e : Exception) → fault_when (a && not b) e ≡ None → a ≡ true → b ≡ true
gate true true e none is = refl
gate true false e none is = (let no : ⊥ = cc in absurd no)
gate false b e none is = (let no : ⊥ = cc in absurd no)

-- an instruction that a word of 32 bits means has the fields of a row
abbrev pub HaveRows : Type 0
HaveRows = (word : ℕ) (it : Insn) → word < 2 ^ 32 → instruction_of word ≡ Some it → IsInRow it ⊎ IsInVectorRow it

module _ (rows : HaveRows) (vl svl : ℕ) (v : IsLength vl) (w : IsLength svl) (s : ProcessorState) (t : IsTyped vl svl s) where
  row_of : (o : Option ℕ) (it : Insn) → word_of s ≡ o → option_and_then instruction_of o ≡ Some it → IsInRow it ⊎ IsInVectorRow it
  row_of None it is e = (let no : ⊥ = cc in absurd no)
  row_of (Some word) it is e = rows word it (word_below s.memory s.scalars.pc word t.memory is) e

  by_insn : (o : Option Insn) → insn_at s ≡ o → option_and_then (λ it. mode_fault it s.streaming s.za_on) o ≡ None
      → option_and_then (λ it. memory_fault vl it s) o ≡ None → LeadsToTyped vl svl (perform vl o s)
  by_insn None is modes memory = tt
  by_insn (Some it) is modes memory =
      let rest = second_none (fault_when (is_first_fault it && s.streaming) IllegalStreaming) _ modes in
      let tiles = first_none (fault_when (is_of_tiles it && not s.streaming) NotStreaming) _ rest in
      let arrays = first_none (fault_when (is_of_array it && not s.za_on) ZaInactive) None
      (second_none (fault_when (is_of_tiles it && not s.streaming) NotStreaming) _ rest) in
      next_typed vl svl v w s t it (row_of (word_of s) it refl is) memory (gate (is_of_tiles it) s.streaming NotStreaming tiles)
      (gate (is_of_array it) s.za_on ZaInactive arrays)

  by_fault : (o : Option Exception) → fault_of vl s ≡ o → LeadsToTyped vl svl (unless_fault vl o s)
  unfolding fault_of
  by_fault (Some e) is = tt
  by_fault None is =
      let early = first_none (early_fault s) (option_or (data_fault vl s) None) is in
      let access = first_none (data_fault vl s) None (second_none (early_fault s) (option_or (data_fault vl s) None) is) in
      let illegal = first_none (illegal_fault s) None
      (second_none (undefined_fault (word_of s)) _ (second_none (fetch_fault (word_of s)) _ (second_none (alignment_fault s) _ early))) in
      by_insn (insn_at s) refl illegal access

  pub effect_typed : LeadsToTyped vl svl (effect_of vl s)
  unfolding effect_of
  effect_typed = by_fault (fault_of vl s) refl
