-- What each instruction of the routines does.
use Rattle.std.proofs.Common.{◌≡◌, ℕ, ◌+◌, ◌-◌, ◌*◌, ◌%◌, ◌^◌, ◌<◌, ◌≤◌, ◌==◌, Bool, true, false, not, cond, List, [], length}
use Rattle.std.proofs.Common.{Some, None, refl, ap, ◌∙◌, arith, pos}
use Rattle.std.specs.Prelude.{slice_get, slice_index, slice_index_or, slice_set, ℤ, ◌*ℤ◌, bit_or}
use Rattle.std.specs.Int.{w64, cast_unsigned}
use Rattle.std.proofs.lemmas.Nat.{or_shifted}
use Rattle.sm_types.specs.Bytes.{little_number}
use Rattle.sm_types.specs.declared.insn.Insn.{Insn}
use Rattle.sm_types.specs.declared.insn.Insn.TheVariants as insn
use Rattle.sm_types.specs.declared.insn.Branch.TheVariants as branch
use Rattle.sm_types.specs.declared.insn.AccessSize.{AccessSize}
use Rattle.bit_ops.specs.Shifts.{shifted}
use Rattle.bit_ops.specs.Sums.{sum_of}
use Rattle.vector_elements.specs.Numbers.{wrapped}
use Rattle.predicates.specs.Counts.{vector_lengths, lengths_added}
use Rattle.a64_encode.specs.Either.{instruction_of}
use Rattle.paged_memory.specs.Memory.{AddressSpace, word_at, bytes_with, first_without, run_of}
use Rattle.scalar_exec.specs.Registers.{x_of, x_or_sp, with_x, with_x_or_sp, past, register_of, next_address}
use Rattle.scalar_exec.specs.Conditional.{same}
use Rattle.scalar_exec.specs.Branches.{branch, branch_if, branch_target, branch_to}
use Rattle.scalar_exec.specs.Logic.{logical_register, logical_to_x, combined}
use Rattle.scalar_exec.specs.Moves.{move_wide, moved}
use Rattle.scalar_exec.specs.Sums.{add_sub_immediate, add_sub_register, sum_to_sp, sum_to_x}
use Rattle.scalar_exec.specs.Step.{scalar_step}
use Rattle.mem_access.specs.Access.{bytes_in, load_store_access}
use Rattle.mem_access.specs.Runs.{first_shared, with_bytes}
use Rattle.mem_access.specs.Transfer.{written}
use Rattle.mem_access.proofs.Lists.{written_run}
use Rattle.sve_access.specs.After.{read_bytes}
use Rattle.matrix_step.specs.Lengths.{after_streaming_length}
use Rattle.matrix_step.specs.Step.{matrix_step}
use Rattle.za_access.specs.Vectors.{vector_number, vector_access, array_after, stored}
use Rattle.machine_step.specs.ProcessorState.{ProcessorState}
use Rattle.machine_step.specs.Mode.{with_za}
use Rattle.machine_step.specs.System.{system_register, with_system_register, core_past}
use Rattle.machine_step.specs.Effect.{Becomes, effect_of, with_array}
use Rattle.lazy_saving.specs.Code.{place_of}
use Rattle.lazy_saving.proofs.Meanings as word
use Rattle.lazy_saving.proofs.Registers.{Used, at}
use Rattle.lazy_saving.proofs.Running.{Has, scalar_runs, move_runs, mode_runs, length_runs, load_runs, load_of, array_runs}

-- ---- places

-- the words stand there and can be executed
pub record Fetches (m : AddressSpace) (a : ℕ) (words : List ℕ) : Type 0 where
  pub aligned : a % 4 ≡ 0
  pub executable : (k w : ℕ) → slice_get words k ≡ Some w → word_at m (place_of a k) ≡ Some w

pub has_at : (s : ProcessorState) (u : Used) (a k w : ℕ) (words : List ℕ) (it : Insn) → Fetches s.memory a words
    → slice_get words k ≡ Some w → instruction_of w ≡ Some it → Has (at s u (place_of a k)) it
has_at s u a k w words it h there means =
    let aligned = h.aligned in
    record { word = w; aligned = omega (arith, aligned); fetched = h.executable k w there; means = means }

pub next_place : (a k : ℕ) → next_address (place_of a k) ≡ place_of a (k + 1)
next_place a k = omega arith

pub place_on : (a k n : ℕ) (z : ℤ) → cast_unsigned w64 (z *ℤ pos 4) ≡ 4 * n → branch_target (place_of a k) z ≡ place_of a (k + n)
place_on a k n z e = ap (λ d. (place_of a k + d) % 2 ^ 64) e ∙ (let r : (place_of a k + 4 * n) % 2 ^ 64 ≡ place_of a (k + n) =
    omega arith in r)

pub place_back : (a k n : ℕ) (z : ℤ) → cast_unsigned w64 (z *ℤ pos 4) ≡ 2 ^ 64 - 4 * n → n < 100
    → branch_target (place_of a (k + n)) z ≡ place_of a k
place_back a k n z e small =
    ap (λ d. (place_of a (k + n) + d) % 2 ^ 64) e
    ∙ (let r : (place_of a (k + n) + (2 ^ 64 - 4 * n)) % 2 ^ 64 ≡ place_of a k = omega (arith, small) in r)

module _ (vl : ℕ) (s : ProcessorState) where
  -- ---- system registers and modes

  pub reads_pointer : (u : Used) (pc : ℕ) → Has (at s u pc) word.read_pointer
      → effect_of vl (at s u pc) ≡ Becomes (at s (record u { x14 = s.tpidr2 }) (next_address pc))
  unfolding with_x past system_register
  reads_pointer u pc h = move_runs vl (at s u pc) (at s (record u { x14 = s.tpidr2 }) (next_address pc)) _ h refl

  pub clears_pointer : (u : Used) (pc : ℕ) → Has (at s u pc) word.clear_pointer
      → effect_of vl (at s u pc) ≡ Becomes (at (record s { tpidr2 = 0 }) u (next_address pc))
  unfolding x_of past with_system_register
  clears_pointer u pc h = move_runs vl (at s u pc) (at (record s { tpidr2 = 0 }) u (next_address pc)) _ h refl

  pub turns_off : (u : Used) (pc : ℕ) → Has (at s u pc) word.array_off
      → effect_of vl (at s u pc) ≡ Becomes (at (with_za false s) u (next_address pc))
  unfolding past
  turns_off u pc h = mode_runs vl (at s u pc) (at (with_za false s) u (next_address pc)) _ h refl

  pub turns_on : (u : Used) (pc : ℕ) → Has (at s u pc) word.array_on
      → effect_of vl (at s u pc) ≡ Becomes (at (with_za true s) u (next_address pc))
  unfolding past
  turns_on u pc h = mode_runs vl (at s u pc) (at (with_za true s) u (next_address pc)) _ h refl

  -- ---- branches

  branches : (u : Used) (pc target : ℕ) (taken b : Bool) → taken ≡ b
      → ◌≡◌ {A = ProcessorState} (record (at s u pc) {
        scalars = cond taken (record (at s u pc).scalars {
          pc =
              target;
        }) (past (at s u pc).scalars);
      })
      (at s u (cond b target (next_address pc)))
  unfolding past
  branches u pc target true true e = refl
  branches u pc target false false e = refl
  branches u pc target true false e = cc
  branches u pc target false true e = cc

  pub compares : (u : Used) (pc target : ℕ) (nonzero wide : Bool) (words : ℤ) (rt : ℕ) (b : Bool)
      → Has (at s u pc) (insn.Branch (branch.Compare nonzero wide words rt))
      → same nonzero (not (register_of wide (at s u pc).scalars rt == 0)) ≡ b → branch_target pc words ≡ target
      → effect_of vl (at s u pc) ≡ Becomes (at s u (cond b target (next_address pc)))
  unfolding branch branch_if scalar_step
  compares u pc target nonzero wide words rt b h taken goes =
      scalar_runs vl (at s u pc) (at s u (cond b target (next_address pc))) _ h refl
      (branches u pc (branch_target pc words) (same nonzero (not (register_of wide (at s u pc).scalars rt == 0))) b taken
      ∙ ap (λ t. at s u (cond b t (next_address pc))) goes)

  pub returns : (u : Used) (pc : ℕ) → Has (at s u pc) word.back → effect_of vl (at s u pc) ≡ Becomes (at s u u.x30)
  unfolding branch_to scalar_step x_of
  returns u pc h = scalar_runs vl (at s u pc) (at s u u.x30) _ h refl refl

  pub calls : (u : Used) (pc target : ℕ) (words : ℤ) → Has (at s u pc) (insn.Branch (branch.Unconditional true words))
      → branch_target pc words ≡ target
      → effect_of vl (at s u pc) ≡ Becomes (at s (record u { x30 = next_address pc }) target)
  unfolding branch scalar_step with_x
  calls u pc target words h goes =
      scalar_runs vl (at s u pc) (at s (record u { x30 = next_address pc }) target) _ h refl
      (ap (λ t. at s (record u { x30 = next_address pc }) t) goes)

  -- ---- computations

  pub joins_zeros : (x0 x14 x17 x30 pc : ℕ)
      → Has (at s (record { x0 = x0; x14 = x14; x15 = 0; x16 = 0; x17 = x17; x30 = x30 }) pc) word.both_zeros
      → effect_of vl (at s (record { x0 = x0; x14 = x14; x15 = 0; x16 = 0; x17 = x17; x30 = x30 }) pc)
      ≡ Becomes (at s (record { x0 = x0; x14 = x14; x15 = 0; x16 = 0; x17 = x17; x30 = x30 }) (next_address pc))
  unfolding scalar_step logical_register logical_to_x combined shifted with_x past x_of
  joins_zeros x0 x14 x17 x30 pc h =
      scalar_runs vl _ (at s (record { x0 = x0; x14 = x14; x15 = 0; x16 = 0; x17 = x17; x30 = x30 }) (next_address pc)) _ h refl refl

  pub starts_count : (u : Used) (pc : ℕ) → Has (at s u pc) word.no_slice_yet
      → effect_of vl (at s u pc) ≡ Becomes (at s (record u { x15 = 0 }) (next_address pc))
  unfolding scalar_step move_wide moved with_x past
  starts_count u pc h = scalar_runs vl (at s u pc) (at s (record u { x15 = 0 }) (next_address pc)) _ h refl refl

  pub counts_on : (u : Used) (pc n : ℕ) → Has (at s u pc) word.next_slice → (u.x15 % 2 ^ 32 + 1 + 0) % 2 ^ 32 ≡ n
      → effect_of vl (at s u pc) ≡ Becomes (at s (record u { x15 = n }) (next_address pc))
  unfolding scalar_step add_sub_immediate sum_to_sp sum_of with_x_or_sp x_or_sp past
  counts_on u pc n h e =
      scalar_runs vl (at s u pc) (at s (record u { x15 = n }) (next_address pc)) _ h refl
      (ap (λ k. at s (record u { x15 = k }) (next_address pc)) e)

  pub counts_left : (u : Used) (pc n : ℕ) → Has (at s u pc) word.slices_left
      → (u.x15 % 2 ^ 32 + (2 ^ 32 - 1 - u.x14 % 2 ^ 32 * 2 ^ 0 % 2 ^ 32) + 1) % 2 ^ 32 ≡ n
      → effect_of vl (at s u pc) ≡ Becomes (at s (record u { x17 = n }) (next_address pc))
  unfolding scalar_step add_sub_register sum_to_x sum_of shifted with_x x_of past
  counts_left u pc n h e =
      scalar_runs vl (at s u pc) (at s (record u { x17 = n }) (next_address pc)) _ h refl
      (ap (λ k. at s (record u { x17 = k }) (next_address pc)) e)

  length_of_one : (n : ℕ) → n < 2 ^ 64 → vector_lengths (pos 1) n ≡ n
  unfolding vector_lengths wrapped
  length_of_one n lt = let e : 1 * n ≡ n = omega arith in let r : 1 * n % 2 ^ 64 ≡ n = omega (arith, lt) in r

  pub moves_on : (u : Used) (pc n : ℕ) → Has (at s u pc) word.next_piece → length s.bank.za < 2 ^ 64
      → (u.x16 + length s.bank.za) % 2 ^ 64 ≡ n
      → effect_of vl (at s u pc) ≡ Becomes (at s (record u { x16 = n }) (next_address pc))
  unfolding matrix_step after_streaming_length lengths_added with_x_or_sp x_or_sp past
  moves_on u pc n h small e =
      length_runs vl (at s u pc) (at s (record u { x16 = n }) (next_address pc)) _ h
      (ap (λ d. at s (record u { x16 = (u.x16 + d) % 2 ^ 64 }) (next_address pc)) (length_of_one (length s.bank.za) small)
      ∙ ap (λ k. at s (record u { x16 = k }) (next_address pc)) e)

  or_nothing : (n : ℕ) → n < 2 ^ 64 → bit_or 0 (n % 2 ^ 64 * 2 ^ 0 % 2 ^ 64) ≡ n
  or_nothing n lt =
      let e : n % 2 ^ 64 * 2 ^ 0 % 2 ^ 64 ≡ n = omega (arith, lt) in
      ap (bit_or 0) e ∙ or_shifted 0 64 n lt ∙ (let z : 0 * 2 ^ 64 + n ≡ n = omega arith in z)

  pub gives_block : (u : Used) (pc b : ℕ) → Has (at s u pc) word.give_block → slice_index s.scalars.x 19 ≡ b → b < 2 ^ 64
      → effect_of vl (at s u pc) ≡ Becomes (at s (record u { x0 = b }) (next_address pc))
  unfolding scalar_step logical_register logical_to_x combined shifted with_x past x_of
  gives_block u pc b h is small =
      scalar_runs vl (at s u pc) (at s (record u { x0 = b }) (next_address pc)) _ h refl
      (ap (λ k. at s (record u { x0 = bit_or 0 (k % 2 ^ 64 * 2 ^ 0 % 2 ^ 64) }) (next_address pc)) is
      ∙ ap (λ k. at s (record u { x0 = k }) (next_address pc)) (or_nothing b small))

  -- ---- loads of the block

  pub loads : (u : Used) (pc : ℕ) (n : AccessSize) (imm rn rt a v : ℕ) (bs : List ℕ) (t : ProcessorState)
      → Has (at s u pc) (insn.LoadStore (load_of n imm rn rt))
      → (load_store_access (load_of n imm rn rt) (at s u pc).scalars).address ≡ a
      → (load_store_access (load_of n imm rn rt) (at s u pc).scalars).on_sp ≡ false
      → first_shared a (bytes_in n) ≡ None → bytes_with 4 s.memory a (bytes_in n) ≡ Some bs → little_number bs ≡ v
      → ◌≡◌ {A = ProcessorState} (record (at s u pc) { scalars = past (with_x (at s u pc).scalars rt v) }) t
      → effect_of vl (at s u pc) ≡ Becomes t
  loads u pc n imm rn rt a v bs t h place base private there value is =
      load_runs vl (at s u pc) n imm rn rt a bs h place base private there
      ∙ ap (λ k. Becomes (record (at s u pc) { scalars = past (with_x (at s u pc).scalars rt k) })) value ∙ ap Becomes is

  -- ---- vectors of ZA

  mod_below : (i size : ℕ) → i < size → i % size ≡ i
  mod_below i size lt = grind (arith, lt)

  number_is : (i size : ℕ) → i < size → size ≤ 256 → (i % 2 ^ 32 + 0) % size ≡ i
  number_is i size lt small =
      let e : i % 2 ^ 32 + 0 ≡ i = omega (arith, lt, small) in
      ap (λ k. k % size) e ∙ mod_below i size lt

  access_is : (u : Used) (pc : ℕ) (store : Bool) (rv : ℕ) → u.x16 < 2 ^ 64
      → vector_access store 0 16 (at s u pc).scalars (length s.bank.za) ≡ record {
        bytes = run_of u.x16 (length s.bank.za);
        on_sp = false;
        aligned = false;
        address = 0;
        size = 1;
        reads = not store;
        writes = store;
      }
  unfolding vector_access x_or_sp
  access_is u pc store rv small =
      let z : 0 * length s.bank.za ≡ 0 = omega arith in
      let e : (u.x16 + 0 * length s.bank.za) % 2 ^ 64 ≡ u.x16 = omega (arith, small, z) in
      ap (λ a. record {
        bytes = run_of a (length s.bank.za);
        on_sp = false;
        aligned = false;
        address = 0;
        size = 1;
        reads = not store;
        writes = store;
      }) e

  pub stores_slice : (u : Used) (pc i : ℕ) → Has (at s u pc) word.store_slice → s.za_on ≡ true → u.x16 < 2 ^ 64
      → u.x15 ≡ i → i < length s.bank.za → length s.bank.za ≤ 256 → length (slice_index_or s.bank.za i []) ≡ length s.bank.za
      → first_shared u.x16 (length s.bank.za) ≡ None → first_without 2 s.memory u.x16 (length s.bank.za) ≡ None
      → effect_of vl (at s u pc)
      ≡ Becomes (at (record s { memory = with_bytes s.memory u.x16 (slice_index_or s.bank.za i []) }) u (next_address pc))
  unfolding array_after stored x_of past
  stores_slice u pc i h on small number lt size long private there =
      let reach = access_is u pc true 15 small in
      let is : vector_number 15 0 (at s u pc).scalars (length s.bank.za) ≡ i =
      ap (λ k. (k % 2 ^ 32 + 0) % length s.bank.za) number ∙ number_is i (length s.bank.za) lt size in
      array_runs vl (at s u pc) true 15 0 16 u.x16 h on reach private there
      ∙ ap (λ (access : _). Becomes (core_past (with_array (at s u pc) (record {
        za = s.bank.za;
        memory = written s.memory access.bytes (Some (slice_index_or s.bank.za (vector_number 15 0 (at s u pc).scalars
            (length s.bank.za)) []));
      })))) reach
      ∙ ap (λ k. Becomes (core_past (with_array (at s u pc) (record {
        za = s.bank.za;
        memory = written s.memory (run_of u.x16 (length s.bank.za)) (Some (slice_index_or s.bank.za k []));
      })))) is
      ∙ ap (λ m. Becomes (core_past (with_array (at s u pc) (record { za = s.bank.za; memory = m }))))
      (written_run s.memory u.x16 (length s.bank.za) (slice_index_or s.bank.za i []) long)

  pub loads_slice : (u : Used) (pc i : ℕ) → Has (at s u pc) word.load_slice → s.za_on ≡ true → u.x16 < 2 ^ 64
      → u.x15 ≡ i → i < length s.bank.za → length s.bank.za ≤ 256
      → first_shared u.x16 (length s.bank.za) ≡ None → first_without 4 s.memory u.x16 (length s.bank.za) ≡ None
      → effect_of vl (at s u pc)
      ≡ Becomes (at (record s {
        bank = record s.bank {
          za = slice_set s.bank.za i (read_bytes s.memory (run_of u.x16 (length s.bank.za)));
        };
      }) u (next_address pc))
  unfolding array_after stored x_of past
  loads_slice u pc i h on small number lt size private there =
      let reach = access_is u pc false 15 small in
      let is : vector_number 15 0 (at s u pc).scalars (length s.bank.za) ≡ i =
      ap (λ k. (k % 2 ^ 32 + 0) % length s.bank.za) number ∙ number_is i (length s.bank.za) lt size in
      array_runs vl (at s u pc) false 15 0 16 u.x16 h on reach private there
      ∙ ap (λ (access : _). Becomes (core_past (with_array (at s u pc) (record {
        za = slice_set s.bank.za (vector_number 15 0 (at s u pc).scalars (length s.bank.za)) (read_bytes s.memory access.bytes);
        memory = s.memory;
      })))) reach
      ∙ ap (λ k. Becomes (core_past (with_array (at s u pc) (record {
        za = slice_set s.bank.za k (read_bytes s.memory (run_of u.x16 (length s.bank.za)));
        memory = s.memory;
      })))) is
