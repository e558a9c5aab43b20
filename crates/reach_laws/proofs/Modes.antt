-- Writes to system registers and to the modes keep the ranges of a state.
use Rattle.std.proofs.Common.{◌≡◌, ℕ, ◌^◌, ◌<◌, ◌≤◌, Bool, true, false, List, [], length, refl, sym, ap, ◌∙◌, arith, subst, replicate}
use Rattle.std.proofs.Common.{if◌then◌else◌}
use Rattle.std.specs.Bool.{beq}
use Rattle.std.proofs.lemmas.List.{length-replicate, get_or-replicate}
use Rattle.std.proofs.lemmas.List.Elements.{All-replicate}
use Rattle.sm_types.specs.declared.scalars.Scalars.{Scalars}
use Rattle.sm_types.specs.declared.matrix.Mode.{Mode}
use Rattle.sm_types.specs.declared.matrix.ModePart.{ModePart}
use Rattle.sm_types.specs.declared.matrix.ModePart.TheVariants.{Sm, Za, Both}
use Rattle.sm_types.specs.declared.insn.SystemMove.{SystemMove}
use Rattle.sm_types.specs.declared.insn.SystemMoveOp.{SystemMoveOp}
use Rattle.sm_types.specs.declared.insn.SystemMoveOp.TheVariants.{Mrs, Msr}
use Rattle.sm_types.specs.declared.insn.SystemRegister.{SystemRegister}
use Rattle.sm_types.specs.declared.insn.SystemRegister.TheVariants.{Nzcv, TpidrEl0, Tpidr2El0, Svcr}
use Rattle.bit_ops.specs.Sums.{bool_number}
use Rattle.sve_vectors.specs.Registers.{VectorRegisters, zero_registers}
use Rattle.za_array.specs.Array.{zero_vectors}
use Rattle.machine_step.specs.ProcessorState.{ProcessorState}
use Rattle.machine_step.specs.Mode.{length_at, with_sm, with_za, with_part, mode_written}
use Rattle.machine_step.specs.System.{nzcv_of, with_nzcv, system_register, with_system_register, moved, core_past, system_move, bit_at}
use Rattle.reach_laws.proofs.Fits.{Fits, AreBytes, Holds, IsArray, IsLength}
use Rattle.reach_laws.proofs.Typed.{IsTyped, current_length}
use Rattle.reach_laws.proofs.Scalars.{fits_x, fits_past, x_fits}
use Rattle.reach_laws.proofs.Registers.{holds_zero}

pub zero_array : (size : ℕ) → IsArray size (zero_vectors size)
zero_array size = record {
  square = record {
    count = length-replicate size (replicate {A = ℕ} size 0);
    long = λ v below. ap length (get_or-replicate size v (replicate {A = ℕ} size 0) [] below) ∙ length-replicate {A = ℕ} size 0;
  };
  bytes = All-replicate AreBytes size (replicate size 0) (All-replicate (λ b. b < 256) size 0 (omega arith));
}

module _ (vl svl : ℕ) where
  pub current_is : (s : ProcessorState) → IsTyped vl svl s → length_at vl s ≡ current_length vl svl s.streaming
  current_is s t = elim s.streaming as (λ on. (if on then length s.bank.za else vl) ≡ (if on then svl else vl)) [
    | true ↦ t.za.square.count
    | false ↦ refl
  ]

  pub current_fits : IsLength vl → IsLength svl → (on : Bool) → IsLength (current_length vl svl on)
  current_fits v w true = w
  current_fits v w false = v

  pub typed_scalars : (s : ProcessorState) (x : Scalars) → IsTyped vl svl s → Fits x → IsTyped vl svl (record s { scalars = x })
  typed_scalars s x t h = record {
    scalars = h;
    tpidr = t.tpidr;
    tpidr2 = t.tpidr2;
    registers = t.registers;
    za = t.za;
    off = t.off;
    memory = t.memory;
  }

  pub typed_past : (s : ProcessorState) → IsTyped vl svl s → IsTyped vl svl (core_past s)
  typed_past s t = typed_scalars s _ t (fits_past s.scalars t.scalars)

  -- ---- modes

  registers_after : (now on : Bool) (r : VectorRegisters) (size : ℕ) → size ≡ svl → Holds (current_length vl svl now) r
      → Holds (current_length vl svl on) (if beq now on then r else zero_registers (if on then size else vl))
  registers_after true true r size e h = h
  registers_after false false r size e h = h
  registers_after true false r size e h = holds_zero vl
  registers_after false true r size e h = subst (λ n. Holds svl (zero_registers n)) (sym e) (holds_zero svl)

  pub typed_sm : (on : Bool) (s : ProcessorState) → IsTyped vl svl s → IsTyped vl svl (with_sm vl on s)
  typed_sm on s t = record {
    scalars = t.scalars;
    tpidr = t.tpidr;
    tpidr2 = t.tpidr2;
    registers = registers_after s.streaming on s.bank.registers (length s.bank.za) t.za.square.count t.registers;
    za = t.za;
    off = t.off;
    memory = t.memory;
  }

  array_after : (now on : Bool) (za : List (List ℕ)) → IsArray svl za → IsArray svl (if beq now on then za else zero_vectors (length za))
  array_after true true za h = h
  array_after false false za h = h
  array_after true false za h = subst (λ n. IsArray svl (zero_vectors n)) (sym h.square.count) (zero_array svl)
  array_after false true za h = subst (λ n. IsArray svl (zero_vectors n)) (sym h.square.count) (zero_array svl)

  off_after : (now on : Bool) (za : List (List ℕ)) → IsArray svl za → (now ≡ false → za ≡ zero_vectors svl) → on ≡ false
      → (if beq now on then za else zero_vectors (length za)) ≡ zero_vectors svl
  off_after true true za h off e = (let none : ⊥ = cc in absurd none)
  off_after false true za h off e = (let none : ⊥ = cc in absurd none)
  off_after false false za h off e = off refl
  off_after true false za h off e = ap zero_vectors h.square.count

  pub typed_za : (on : Bool) (s : ProcessorState) → IsTyped vl svl s → IsTyped vl svl (with_za on s)
  typed_za on s t = record {
    scalars = t.scalars;
    tpidr = t.tpidr;
    tpidr2 = t.tpidr2;
    registers = t.registers;
    za = array_after s.za_on on s.bank.za t.za;
    off = off_after s.za_on on s.bank.za t.za t.off;
    memory = t.memory;
  }

  typed_part : (part : ModePart) (on : Bool) (s : ProcessorState) → IsTyped vl svl s → IsTyped vl svl (with_part vl part on s)
  typed_part Sm on s t = typed_sm on s t
  typed_part Za on s t = typed_za on s t
  typed_part Both on s t = typed_za on (with_sm vl on s) (typed_sm on s t)

  pub typed_mode : (x : Mode) (s : ProcessorState) → IsTyped vl svl s → IsTyped vl svl (mode_written vl x s)
  typed_mode x s t = typed_part x.part x.start s t

  -- ---- system registers

  bit_small : (b : Bool) → bool_number b ≤ 1
  bit_small true = omega arith
  bit_small false = omega arith

  nzcv_fits : (s : Scalars) → nzcv_of s < 2 ^ 64
  unfolding nzcv_of
  nzcv_fits s =
      let n = bit_small s.n in
      let z = bit_small s.z in
      let c = bit_small s.c in
      let v = bit_small s.v in
      omega arith

  register_fits : (r : SystemRegister) (s : ProcessorState) → IsTyped vl svl s → system_register r s < 2 ^ 64
  unfolding system_register
  register_fits Nzcv s t = nzcv_fits s.scalars
  register_fits TpidrEl0 s t = t.tpidr
  register_fits Tpidr2El0 s t = t.tpidr2
  register_fits Svcr s t = let a = bit_small s.streaming in let b = bit_small s.za_on in omega arith

  typed_register : (r : SystemRegister) (s : ProcessorState) (value : ℕ) → IsTyped vl svl s → value < 2 ^ 64
      → IsTyped vl svl (with_system_register vl r s value)
  unfolding with_system_register with_nzcv
  typed_register Nzcv s value t lt = typed_scalars s _ t
      (record { count = t.scalars.count; x = t.scalars.x; sp = t.scalars.sp; pc = t.scalars.pc })
  typed_register TpidrEl0 s value t lt = record {
    scalars = t.scalars;
    tpidr = lt;
    tpidr2 = t.tpidr2;
    registers = t.registers;
    za = t.za;
    off = t.off;
    memory = t.memory;
  }
  typed_register Tpidr2El0 s value t lt = record {
    scalars = t.scalars;
    tpidr = t.tpidr;
    tpidr2 = lt;
    registers = t.registers;
    za = t.za;
    off = t.off;
    memory = t.memory;
  }
  typed_register Svcr s value t lt = typed_za (bit_at value 1) (with_sm vl (bit_at value 0) s) (typed_sm (bit_at value 0) s t)

  typed_moved : (op : SystemMoveOp) (x : SystemMove) (s : ProcessorState) → IsTyped vl svl s → IsTyped vl svl (moved vl op x s)
  typed_moved Mrs x s t = typed_scalars s _ t (fits_x s.scalars x.rt _ t.scalars (register_fits x.register s t))
  typed_moved Msr x s t = typed_register x.register s _ t (x_fits s.scalars x.rt t.scalars)

  pub typed_system : (x : SystemMove) (s : ProcessorState) → IsTyped vl svl s → IsTyped vl svl (system_move vl x s)
  unfolding system_move
  typed_system x s t = typed_past (moved vl x.op x s) (typed_moved x.op x s t)
