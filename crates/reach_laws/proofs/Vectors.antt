-- Vector instructions that access no memory keep the ranges of registers.
use Rattle.std.proofs.Common.{◌≡◌, ℕ, ◌*◌, ◌/◌, ◌^◌, ◌<◌, ◌≤◌, Bool, true, false, List, [], ◌∷◌, ◌++◌, length, drop, map}
use Rattle.std.proofs.Common.{sym, ap, ◌∙◌, arith, subst, inl, inr, length-append, length-drop, if◌then◌else◌}
use Rattle.std.specs.Prelude.{nat_lt}
use Rattle.std.specs.List.{range_with_len}
use Rattle.std.proofs.lemmas.Bool.Decides.{nat_tests}
use Rattle.std.proofs.lemmas.Bool.{cases_lt}
use Rattle.std.proofs.lemmas.Nat.{mul-le}
use Rattle.std.proofs.Math.Nat.{div-le_self}
use Rattle.std.proofs.lemmas.List.{length-map, length-replicate, length-take-le}
use Rattle.std.proofs.lemmas.List.FromFn.{length-range_with_len}
use Rattle.std.proofs.lemmas.List.Elements.{All-append, All-take, All-drop}
use Rattle.sm_types.specs.declared.scalars.Scalars.{Scalars}
use Rattle.sm_types.specs.declared.insn.Insn.{Insn}
use Rattle.sm_types.specs.declared.insn.Insn.TheVariants as insn
use Rattle.sm_types.specs.declared.vector as types
use types.{VectorCopy.VectorCopy, VectorPermute.VectorPermute, VectorReduction.VectorReduction, VectorCompare.VectorCompare}
use types.{Predicate.Predicate}
use types.{PredicateCount.PredicateCount, ElementCount.ElementCount, Sve2.Sve2}
use types.VectorCopy.TheVariants as copy
use types.VectorPermute.TheVariants as permute
use types.VectorReduction.TheVariants as reduction
use types.VectorCompare.TheVariants as compare
use types.Predicate.TheVariants as predicate
use types.PredicateCount.TheVariants as count
use types.ElementCount.TheVariants as element
use types.Sve2.TheVariants as sve2
use Rattle.sve_table.specs.Ranges.{IsInVectorRow, IsVectorCopy, IsVectorPermute, IsVectorReduction, IsPredicateCount, IsElementCount}
use Rattle.sve_table.specs.Ranges.{IsSve2, IsMultiplier}
use Rattle.vector_elements.specs.declared.size.Size.{Size}
use Rattle.vector_elements.specs.declared.size.Size.TheVariants.{B, H, S, D}
use Rattle.vector_elements.specs.Elements.{element_of, active_of, is_active}
use Rattle.vector_elements.specs.Numbers.{bytes_in}
use Rattle.vector_elements.proofs.Lists.{length-listed, length-digits}
use Rattle.outer_products.proofs.Numbers.{wrapped_fits}
use Rattle.sve_vectors.specs.Registers.{VectorRegisters, vector_at, predicate_at}
use Rattle.sve_exec.specs.Arithmetic.{vector_arithmetic}
use Rattle.sve_exec.specs.Logical.{vector_logical}
use Rattle.sve_exec.specs.Binary.{predicated_binary}
use Rattle.sve_exec.specs.MultiplyAdd.{multiply_add}
use Rattle.sve_exec.specs.Unary.{predicated_unary}
use Rattle.sve_exec.specs.Shift.{vector_shift}
use Rattle.sve_exec.specs.Multiply.{vector_multiply}
use Rattle.sve_exec.specs.Ternary.{vector_ternary}
use Rattle.sve_exec.specs.Widening.{vector_widening}
use Rattle.sve_exec.specs.Copies.{duplicated, copied_merging, copied_zeroing, index_from, vector_add_immediate, vector_multiply_immediate}
use Rattle.sve_exec.specs.Copies.{selected}
use Rattle.sve_perm.specs.Permute.{interleaved, reversed, table_of, extracted, unpacked}
use Rattle.sve_perm.specs.Active.{last_element_of}
use Rattle.predicates.specs.Predicates.{predicate_of, bit_for}
use Rattle.predicates.specs.Compare.{vectors_compared, immediate_compared}
use Rattle.predicates.specs.Logical.{pattern_predicate, no_elements, predicate_logical}
use Rattle.predicates.specs.Loops.{while_predicate, true_count}
use Rattle.predicates.specs.Flags.{governed}
use Rattle.predicates.specs.Counts.{element_count, counted_up, counted_down, vector_lengths, lengths_added}
use Rattle.predicates.specs.Patterns.{pattern_count, floor_power, number_or_none}
use Rattle.predicates.proofs.Powers.{floor_power-is}
use Rattle.vector_step.specs.Core.{VectorCore}
use Rattle.vector_step.specs.Sizes.{element_size}
use Rattle.vector_step.specs.Vectors.{after_arithmetic, after_logical, after_binary, after_multiply_add, after_unary, after_shift}
use Rattle.vector_step.specs.Vectors.{after_sve2}
use Rattle.vector_step.specs.Copies.{after_copy}
use Rattle.vector_step.specs.Permutes.{after_permute, after_reduction}
use Rattle.vector_step.specs.Predicates.{after_compare, after_predicate, after_predicate_count, to_predicate_flags, to_predicate, mask_at}
use Rattle.vector_step.specs.Counts.{after_element_count}
use Rattle.vector_step.specs.Step.{vector_step}
use Rattle.signal_frames.proofs.Lengths.{length-predicate}
use Rattle.reach_laws.proofs.Fits.{Fits, AreBytes, Holds, IsLength}
use Rattle.reach_laws.proofs.Scalars.{fits_x, fits_x_or_sp, fits_flags}
use Rattle.reach_laws.proofs.Bytes.{element_below, are_digits}
use Rattle.reach_laws.proofs.Registers.{holds_vector, holds_predicate, holds_truths, holds_ffr, holds_each, holds_like, vector_long}
use Rattle.reach_laws.proofs.Registers.{vector_bytes_at, predicate_long}

extract_from : (amount n : ℕ) → (if nat_lt amount n then amount else 0) ≤ n
extract_from amount n = grind (arith, nat_tests)

module _ (l : ℕ) (w : IsLength l) (r : VectorRegisters) (h : Holds l r) where
  copies_hold : (x : VectorCopy) (s : Scalars) → IsVectorCopy x → Holds l (after_copy x s r)
  unfolding after_copy duplicated copied_merging copied_zeroing index_from vector_add_immediate vector_multiply_immediate selected
  copies_hold (copy.Register size rn zd) s i = holds_each l r zd zd (element_size size) _ h w.whole i.2
  copies_hold (copy.PredicatedRegister size pg rn zd) s i = holds_each l r zd zd (element_size size) _ h w.whole i.3
  copies_hold (copy.Immediate size shifted imm zd) s i = holds_each l r zd zd (element_size size) _ h w.whole i.2
  copies_hold (copy.PredicatedImmediate size pg true shifted imm zd) s i = holds_each l r zd zd (element_size size) _ h w.whole i.3
  copies_hold (copy.PredicatedImmediate size pg false shifted imm zd) s i = holds_each l r zd zd (element_size size) _ h w.whole i.3
  copies_hold (copy.Index size start step zd) s i = holds_each l r zd zd (element_size size) _ h w.whole i.3
  copies_hold (copy.AddImmediate op size shifted imm zdn) s i = holds_each l r zdn zdn (element_size size) _ h w.whole i.2
  copies_hold (copy.MultiplyImmediate size imm zdn) s i = holds_each l r zdn zdn (element_size size) _ h w.whole i.2
  copies_hold (copy.Select size zm pg zn zd) s i = holds_each l r zd zm (element_size size) _ h w.whole i.1
  copies_hold (copy.Prefix zn zd) s i = holds_vector l r zd _ h (vector_long l r h zn i.0) (vector_bytes_at l r h zn)

  permutes_hold : (x : VectorPermute) → IsVectorPermute x → Holds l (after_permute x r)
  unfolding after_permute interleaved reversed table_of extracted unpacked
  permutes_hold (permute.Interleave op size zm zn zd) i = holds_like l r zd zn (element_size size) _ h w.whole i.2
  permutes_hold (permute.Reverse size zn zd) i = holds_like l r zd zn (element_size size) _ h w.whole i.1
  permutes_hold (permute.Table size zm zn zd) i = holds_like l r zd zn (element_size size) _ h w.whole i.2
  permutes_hold (permute.Extract amount zm zdn) i =
      let n = vector_at r zdn in
      let m = vector_at r zm in
      let a = vector_long l r h zdn i.2 in
      let b = vector_long l r h zm i.1 in
      let from = if nat_lt amount (length n) then amount else 0 in
      let le : from ≤ length n = extract_from amount (length n) in
      holds_vector l r zdn _ h
      (length-take-le (length n) (drop from (n ++ m)) (let d = length-drop from (n ++ m) in let e = length-append n m in omega arith) ∙ a)
      (All-take (λ x. x < 256) (length n) (drop from (n ++ m))
      (All-drop (λ x. x < 256) from (n ++ m) (All-append (λ x. x < 256) n m (vector_bytes_at l r h zdn) (vector_bytes_at l r h zm))))
  permutes_hold (permute.Unpack signed high size zn zd) i = holds_like l r zd zn (element_size size) _ h w.whole i.1

  sve2_holds : (x : Sve2) → IsSve2 x → Holds l (after_sve2 x r)
  unfolding after_sve2 vector_multiply vector_ternary vector_widening
  sve2_holds (sve2.Multiply op size zm zn zd) i = holds_each l r zd zn (element_size size) _ h w.whole i.2
  sve2_holds (sve2.Ternary op zm zk zdn) i = holds_each l r zdn zdn D _ h w.whole i.2
  sve2_holds (sve2.Widening op top size zm zn zd) i = holds_each l r zd zd (element_size size) _ h w.whole i.3

pub length-of : (e bytes : ℕ) (truth : ℕ → Bool) → length (predicate_of e bytes truth) ≡ bytes
unfolding predicate_of
length-of e bytes truth =
    length-predicate (map (bit_for e truth) (range_with_len 0 (8 * bytes)))
    ∙ ap (λ n. n / 8) (length-map (range_with_len 0 (8 * bytes)) (bit_for e truth) ∙ length-range_with_len 0 (8 * bytes))
    ∙ omega arith

-- what the registers of a core hold
pub record CoreHolds (l : ℕ) (s : VectorCore) : Type 0 where
  pub scalars : Fits s.scalars
  pub registers : Holds l s.registers

size_range : (size : Size) → 256 ^ bytes_in size ≤ 2 ^ 64
size_range B = omega arith
size_range H = omega arith
size_range S = omega arith
size_range D = omega arith

element_fits : (size : Size) (bytes : List ℕ) (i : ℕ) → AreBytes bytes → element_of (bytes_in size) bytes i < 2 ^ 64
element_fits size bytes i h =
    let e = element_below (bytes_in size) bytes i h in
    let m = size_range size in
    omega (arith, e, m)

module _ (l : ℕ) (w : IsLength l) (s : VectorCore) (c : CoreHolds l s) where
  reductions_hold : (x : VectorReduction) → IsVectorReduction x → CoreHolds l (after_reduction l x s)
  unfolding after_reduction last_element_of
  reductions_hold (reduction.Last active size pg zn rd) i = record {
    scalars = fits_x s.scalars rd _ c.scalars
        (element_fits (element_size size) (vector_at s.registers zn) _ (vector_bytes_at l s.registers c.registers zn));
    registers = c.registers;
  }
  reductions_hold (reduction.Reduce op size pg zn vd) i = record {
    scalars = c.scalars;
    registers = holds_vector l s.registers vd _ c.registers (length-digits l _) (are_digits l _);
  }

  to_flags_holds : (n : ℕ) (size : Size) (mask : List Bool) (bytes : List ℕ) → length bytes ≡ l / 8
      → CoreHolds l (to_predicate_flags s n size mask bytes)
  to_flags_holds n size mask bytes e = record {
    scalars = fits_flags s.scalars _ c.scalars;
    registers = holds_truths l s.registers n bytes c.registers w.whole e;
  }

  to_predicate_holds : (n : ℕ) (bytes : List ℕ) → length bytes ≡ l / 8 → CoreHolds l (to_predicate s n bytes)
  to_predicate_holds n bytes e = record {
    scalars = c.scalars;
    registers = holds_truths l s.registers n bytes c.registers w.whole e;
  }

  compares_hold : (x : VectorCompare) → CoreHolds l (after_compare l x s)
  unfolding after_compare vectors_compared immediate_compared
  compares_hold (compare.Vectors op size zm pg zn pd) = to_flags_holds pd (element_size size) _ _
      (length-of (bytes_in (element_size size)) (l / 8) _)
  compares_hold (compare.Immediate op size imm pg zn pd) = to_flags_holds pd (element_size size) _ _
      (length-of (bytes_in (element_size size)) (l / 8) _)

  predicates_hold : (x : Predicate) → CoreHolds l (after_predicate l x s)
  unfolding after_predicate pattern_predicate no_elements predicate_logical
  predicates_hold (predicate.True size pattern pd) = to_predicate_holds pd _ (length-of (bytes_in (element_size size)) (l / 8) _)
  predicates_hold (predicate.False pd) = to_predicate_holds pd _ (length-of 1 (l / 8) _)
  predicates_hold (predicate.Test pg pn) = record { scalars = fits_flags s.scalars _ c.scalars; registers = c.registers }
  predicates_hold (predicate.Logical op false pm pg pn pd) = to_predicate_holds pd _ (length-of 1 (l / 8) _)
  predicates_hold (predicate.Logical op true pm pg pn pd) = to_flags_holds pd B _ _ (length-of 1 (l / 8) _)

-- ---- counts

nothing : floor_power 0 ≤ 0
unfolding floor_power
nothing = omega arith

power_small : (n : ℕ) → n < 2 ^ 64 → floor_power n ≤ n
power_small n lt = elim (cases_lt 0 n) [
  | inl some ↦ (floor_power-is n some lt).within
  | inr none ↦ let z : n ≡ 0 = omega arith in subst (λ k. floor_power k ≤ k) (sym z) nothing
]

pattern_small : (pattern n : ℕ) → n < 2 ^ 64 → pattern_count pattern n ≤ n
unfolding pattern_count number_or_none
pattern_small pattern n lt = let p = power_small n lt in grind (arith, nat_tests)

count_fits : (size : Size) (pattern multiplier l : ℕ) → l ≤ 256 → IsMultiplier multiplier → element_count size pattern multiplier l < 2 ^ 64
unfolding element_count
count_fits size pattern multiplier l small m =
    let d = div-le_self l (bytes_in size) in
    let p = pattern_small pattern (l / bytes_in size) (omega (arith, d)) in
    let le = mul-le (pattern_count pattern (l / bytes_in size)) multiplier 256 16 (omega (arith, d, p)) m.1 in
    omega (arith, le)

counts_fit : (l : ℕ) (x : ElementCount) (s : Scalars) → l ≤ 256 → IsElementCount x → Fits s → Fits (after_element_count l x s)
unfolding after_element_count counted_up counted_down vector_lengths lengths_added
counts_fit l (element.Count size pattern multiplier rd) s small i h = fits_x s rd _ h
    (count_fits (element_size size) pattern multiplier l small i.2)
counts_fit l (element.Change false size pattern multiplier rd) s small i h = fits_x s rd _ h (omega arith)
counts_fit l (element.Change true size pattern multiplier rd) s small i h = fits_x s rd _ h (wrapped_fits D _)
counts_fit l (element.Length imm rd) s small i h = fits_x s rd _ h (wrapped_fits D _)
counts_fit l (element.AddLength predicate imm rn rd) s small i h = fits_x_or_sp s rd _ h (omega arith)

true_small : (xs : List Bool) → true_count xs ≤ length xs
true_small [] = omega arith
true_small (true ∷ xs) = let h = true_small xs in omega arith
true_small (false ∷ xs) = let h = true_small xs in omega arith

governed_small : (mask results : List Bool) → length (governed mask results) ≤ length mask
unfolding governed
governed_small [] results = omega arith
governed_small (on ∷ mask) [] = omega arith
governed_small (true ∷ mask) (x ∷ results) = let h = governed_small mask results in omega arith
governed_small (false ∷ mask) (x ∷ results) = let h = governed_small mask results in omega arith

module _ (l : ℕ) (w : IsLength l) (s : VectorCore) (c : CoreHolds l s) where
  mask_small : (n : ℕ) (size : Size) → n < 16 → length (mask_at s n size) ≤ 256
  unfolding active_of
  mask_small n size below =
      let e = length-listed (is_active (bytes_in size) (predicate_at s.registers n))
      (8 * length (predicate_at s.registers n) / bytes_in size) in
      let p = predicate_long l s.registers c.registers n below in
      let d = div-le_self (8 * length (predicate_at s.registers n)) (bytes_in size) in
      let small = w.small in
      omega (arith, e, p, d)

  predicate_counts_hold : (x : PredicateCount) → IsPredicateCount x → CoreHolds l (after_predicate_count l x s)
  unfolding after_predicate_count while_predicate
  predicate_counts_hold (count.While signed wide size rm rn pd) i =
      to_flags_holds l w s c pd (element_size size) _ _ (length-of (bytes_in (element_size size)) (l / 8) _)
  predicate_counts_hold (count.Active size pg pn rd) i = record {
    scalars = fits_x s.scalars rd _ c.scalars
        (let mask = mask_at s pg (element_size size) in
        let results = mask_at s pn (element_size size) in
        let a = true_small (governed mask results) in
        let b = governed_small mask results in
        let d = mask_small pg (element_size size) i.1 in
        omega (arith, a, b, d));
    registers = c.registers;
  }
  predicate_counts_hold count.SetFfr i = record {
    scalars = c.scalars;
    registers = holds_ffr l s.registers _ c.registers (length-replicate l true);
  }
  predicate_counts_hold (count.ReadFfr pd) i = record {
    scalars = c.scalars;
    registers = holds_predicate l s.registers pd _ c.registers c.registers.long.ffr_length;
  }
  predicate_counts_hold (count.WriteFfr pn) i = record {
    scalars = c.scalars;
    registers = holds_ffr l s.registers _ c.registers (c.registers.long.predicate_length pn i);
  }

  of_registers_hold : (r : VectorRegisters) → Holds l r → CoreHolds l (record s { registers = r })
  of_registers_hold r h = record { scalars = c.scalars; registers = h }

  pub vector_step_holds : (it : Insn) → IsInVectorRow it → CoreHolds l (vector_step l it s)
  unfolding vector_step after_arithmetic after_logical after_binary after_multiply_add after_unary after_shift vector_arithmetic
      vector_logical predicated_binary multiply_add predicated_unary vector_shift
  vector_step_holds (insn.VectorArithmetic x) i = of_registers_hold _
      (holds_each l s.registers x.zd x.zn (element_size x.size) _ c.registers w.whole i.zn)
  vector_step_holds (insn.VectorLogical x) i = of_registers_hold _ (holds_each l s.registers x.zd x.zn D _ c.registers w.whole i.zn)
  vector_step_holds (insn.PredicatedBinary x) i = of_registers_hold _
      (holds_each l s.registers x.zdn x.zdn (element_size x.size) _ c.registers w.whole i.zdn)
  vector_step_holds (insn.MultiplyAdd x) i = of_registers_hold _
      (holds_each l s.registers x.zda x.zda (element_size x.size) _ c.registers w.whole i.zda)
  vector_step_holds (insn.PredicatedUnary x) i = of_registers_hold _
      (holds_each l s.registers x.zd x.zd (element_size x.size) _ c.registers w.whole i.zd)
  vector_step_holds (insn.VectorShift x) i = of_registers_hold _
      (holds_each l s.registers x.zd x.zn (element_size x.size) _ c.registers w.whole i.zn)
  vector_step_holds (insn.VectorCopy x) i = of_registers_hold _ (copies_hold l w s.registers c.registers x s.scalars i)
  vector_step_holds (insn.VectorPermute x) i = of_registers_hold _ (permutes_hold l w s.registers c.registers x i)
  vector_step_holds (insn.VectorReduction x) i = reductions_hold l w s c x i
  vector_step_holds (insn.VectorCompare x) i = compares_hold l w s c x
  vector_step_holds (insn.Predicate x) i = predicates_hold l w s c x
  vector_step_holds (insn.PredicateCount x) i = predicate_counts_hold x i
  vector_step_holds (insn.ElementCount x) i = record {
    scalars = counts_fit l x s.scalars w.small i c.scalars;
    registers = c.registers;
  }
  vector_step_holds (insn.Sve2 x) i = of_registers_hold _ (sve2_holds l w s.registers c.registers x i)
  vector_step_holds other i = c
