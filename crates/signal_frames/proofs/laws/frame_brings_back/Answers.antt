use Rattle.std.proofs.Common.{◌≡◌, ℕ, ◌+◌, ◌-◌, ◌≤◌, Bool, true, false, List, length, take, None, Some, refl, ap, sym, ◌∙◌, arith}
use Rattle.std.specs.Prelude.{◌<◌, nat_lt}
use Rattle.std.proofs.lemmas.Bool.Decides.{nat_tests}
use Rattle.paged_memory.specs.Memory.{bytes_with}
use Rattle.machine_step.specs.ProcessorState.{ProcessorState}
use Rattle.machine_step.specs.Mode.{length_at}
use Rattle.signal_frames.specs.Layout.{head_size}
use Rattle.signal_frames.specs.Frame.{size_of}
use Rattle.signal_frames.specs.Saved.{body_of, is_head, is_zero_past, saved_length, saved_size, saved_registers, saved_array, saved_za_on}
use Rattle.signal_frames.specs.Return.{fault_at, restored}
use Rattle.signal_frames.specs.Law.{IsInRange, MayReturnTo, HasFrameAtSp}
use Rattle.signal_frames.specs.Reading.{IsSaved}
use Rattle.signal_frames.specs.declared.head.Expected.{Expected}
use Rattle.signal_frames.specs.declared.masking.Masking.{Masking}
use Rattle.sm_types.specs.declared.version.Version.{Version}
use Rattle.sm_types.specs.declared.version.Version.TheVariants.{One, Two}
use Rattle.signal_frames.proofs.Lengths.{least_head}
use Rattle.signal_frames.proofs.Fields.{number_in_head, head_in_head, head_says}
use Rattle.signal_frames.proofs.Fetching.{front_read}
use Rattle.signal_frames.proofs.Faults.{read_head, bad_head, fault_of_saved, returned_is, unmasked_is}
use Rattle.signal_frames.proofs.Restored.{same_state}
use Rattle.signal_frames.proofs.Parts.{bytes_of, tpidr_at, tpidr2_at}
use Rattle.signal_frames.proofs.Round.{numbers_of, rest_of, frame_numbers, body_back, scalars_back, Fields, fields_back, saved_back}
use Rattle.signal_frames.proofs.Round.{head_back, past_back, registers_back, array_back, long_frame}
use Rattle.signal_frames.proofs.laws.frame_brings_back.Goals as goal

-- a frame that stands at SP, whose head passes
module _ (version : Version) (masking : Masking) (depth vl signal : ℕ) (s t : ProcessorState) (h : IsInRange vl s)
    (has : HasFrameAtSp version masking vl signal s t) where
  abbrev e : Expected
  e = record { version = version; depth = depth; vl = vl; svl = length t.bank.za }

  abbrev f : List ℕ
  f = bytes_of (numbers_of version masking vl signal s)

  fields : Fields version vl s f
  fields = fields_back version masking vl signal s h

  long : length f ≡ size_of version vl s
  long = long_frame version masking vl signal s h

  bytes : bytes_with 4 t.memory t.scalars.sp (size_of version vl s) ≡ Some f
  bytes = has ∙ ap Some (frame_numbers version masking vl signal s)

  front : bytes_with 4 t.memory t.scalars.sp (head_size version) ≡ Some (take (head_size version) f)
  front =
      let size : ℕ = size_of version vl s in
      let split : head_size version + (size - head_size version) ≡ size = omega arith in
      front_read t.memory t.scalars.sp (head_size version) (size - head_size version) f
      (ap (bytes_with 4 t.memory t.scalars.sp) split ∙ bytes)

  size_in_head : saved_size (take (head_size version) f) ≡ size_of version vl s
  size_in_head =
      let some : 320 ≤ head_size version = least_head version in
      number_in_head (head_size version) f 8 4 (omega arith) ∙ fields.size

  pub saved : is_head e f ≡ true → IsSaved e t.memory t.scalars.sp (take (head_size version) f) f
  saved good = record {
    stands = record { bytes = ap (bytes_with 4 t.memory t.scalars.sp) long ∙ bytes };
    first = refl;
    fields = good;
    size = long ∙ sym fields.size;
    read = ap (bytes_with 4 t.memory t.scalars.sp)
        (read_head e t.memory t.scalars.sp (take (head_size version) f) true front (head_in_head e f ∙ good) ∙ size_in_head) ∙ bytes;
  }

  -- where the return is made its fields have passed
  pub passes : (b : Bool) → is_head e f ≡ b → fault_at e t.memory t.scalars.sp ≡ None → b ≡ true
  passes true is made = refl
  passes false is made =
      let stops : Some t.scalars.sp ≡ fault_at e t.memory t.scalars.sp =
      bad_head e t.memory t.scalars.sp (take (head_size version) f) front (head_in_head e f ∙ is) in
      let none : Some t.scalars.sp ≡ None = stops ∙ made in
      cc

  pub zeros : is_zero_past (saved_length f) (body_of version f) ≡ true
  zeros =
      ap (is_zero_past (saved_length f)) (body_back version masking vl signal s h)
      ∙ ap (λ k. is_zero_past k (rest_of vl s)) fields.current ∙ past_back vl s h

  pub back_to : length t.bank.za ≡ length s.bank.za → restored version f t ≡ record s { memory = t.memory }
  back_to svl =
      let body : body_of version f ≡ rest_of vl s = body_back version masking vl signal s h in
      let registers : saved_registers (saved_length f) (body_of version f) ≡ s.bank.registers =
      ap (saved_registers (saved_length f)) body ∙ ap (λ k. saved_registers k (rest_of vl s)) fields.current ∙ registers_back vl s h in
      let array : saved_array (saved_length f) (length t.bank.za) (saved_za_on f) (body_of version f) ≡ s.bank.za =
      ap (saved_array (saved_length f) (length t.bank.za) (saved_za_on f)) body
      ∙ ap (λ k. saved_array k (length t.bank.za) (saved_za_on f) (rest_of vl s)) fields.current
      ∙ ap (λ k. saved_array (length_at vl s) k (saved_za_on f) (rest_of vl s)) svl
      ∙ ap (λ k. saved_array (length_at vl s) (length s.bank.za) k (rest_of vl s)) fields.za_on ∙ array_back vl s s.za_on h refl in
      sym (same_state version f t s.scalars s.streaming s.za_on s.tpidr s.tpidr2 s.bank.registers s.bank.za
      (sym (scalars_back version masking vl signal s h)) (sym fields.streaming) (sym fields.za_on)
      (sym (tpidr_at (numbers_of version masking vl signal s) h.count h.tpidr))
      (sym (tpidr2_at (numbers_of version masking vl signal s) h.count h.tpidr2)) (sym registers) (sym array))

pub returns-clause-back : goal.returns-clause-back
returns-clause-back c = λ version masking depth vl signal s t h ranges has made.
    let e : Expected = record { version = version; depth = depth; vl = vl; svl = length t.bank.za } in
    let f : List ℕ = bytes_of (numbers_of version masking vl signal s) in
    let good : is_head e f ≡ true = refl ∙ passes version masking depth vl signal s t h has (is_head e f) refl made in
    let saved : IsSaved e t.memory t.scalars.sp (take (head_size version) f) f = saved version masking depth vl signal s t h has good in
    let svl : length t.bank.za ≡ length s.bank.za =
    sym (head_says e f good).array ∙ (fields_back version masking vl signal s h).array in (
      returned_is e t f refl saved.read ∙ back_to version masking depth vl signal s t h has svl,
      unmasked_is e t f refl saved.read ∙ saved_back version masking vl signal s h ranges,
    )

within : (version : Version) (masking : Masking) (depth : ℕ) → MayReturnTo version masking depth → nat_lt 0 depth ≡ true
within One masking depth may = let some : 0 < depth = may in grind (arith, nat_tests)
within Two masking depth may = let some : masking.depth < depth = may.2 in grind (arith, nat_tests)

pub returns-clause-made : goal.returns-clause-made
returns-clause-made c = λ version masking depth vl signal s t h least most may svl ranges has.
    let e : Expected = record { version = version; depth = depth; vl = vl; svl = length t.bank.za } in
    let f : List ℕ = bytes_of (numbers_of version masking vl signal s) in
    let good : is_head e f ≡ true =
    ap (λ k. is_head (record { version = version; depth = depth; vl = vl; svl = k }) f) svl
    ∙ head_back version masking depth vl signal s h least most ranges may in
    fault_of_saved true true e t.memory t.scalars.sp (take (head_size version) f) f (within version masking depth may)
    (saved version masking depth vl signal s t h has good) (zeros version masking depth vl signal s t h has)
