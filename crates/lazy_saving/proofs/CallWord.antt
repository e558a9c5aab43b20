-- The word of a BL means it.
use Rattle.std.proofs.Common.{◌≡◌, ℕ, ◌+◌, ◌*◌, ◌/◌, ◌%◌, ◌^◌, ◌<◌, true, inl, Option, Some, None, refl, ap, ◌∙◌, arith}
use Rattle.std.specs.Prelude.{bit_and, slice_get}
use Rattle.std.proofs.lemmas.Nat.{and_block, and_le_r}
use Rattle.sm_types.specs.declared.insn.Insn.{Insn}
use Rattle.sm_types.specs.declared.insn.Insn.TheVariants as insn
use Rattle.sm_types.specs.declared.insn.Branch.TheVariants as branch
use Rattle.insn_forms.specs.declared.line.Line.{Line}
use Rattle.insn_forms.specs.Fields.{field_in, field_of, signed_value}
use Rattle.insn_forms.specs.Tables.{Means, fits_in, insn_in}
use Rattle.a64_table.specs.declared.operation.Operation.{Operation}
use Rattle.a64_table.specs.Table.{scalar}
use Rattle.a64_table.specs.Conditions.{fits_of}
use Rattle.a64_table.specs.Named.{named, named_branch}
use Rattle.a64_encode.specs.Either.{instruction_of}
use Rattle.a64_encode.proofs.Either.{either}
use Rattle.sm_types.specs.Routines.{call_word}

-- a line of the table gives the word the instruction
abbrev Gives : ℕ → Insn → Option (Line Operation) → Type 0
Gives word it None = ⊥
Gives word it (Some line) =
    (bit_and word line.mask ≡ line.value) × (fits_in scalar line.operation word ≡ true) × (it ≡ insn_in scalar line.operation word)

means_by : (word place : ℕ) (it : Insn) (o : Option (Line Operation)) → slice_get scalar.lines place ≡ o → Gives word it o
    → word < 2 ^ 32 → Means scalar word it
means_by word place it None e f lt = absurd f
means_by word place it (Some line) e f lt = record {
  is_word = lt;
  place = place;
  line = line;
  listed = e;
  matches = f.0;
  fits = f.1;
  gives = f.2;
}

fixed_bits : (n : ℕ) → n < 2 ^ 26 → bit_and (call_word n) 0xFC000000 ≡ 0x94000000
fixed_bits n lt =
    let low = and_le_r n 0 in
    let none : bit_and n 0 ≡ 0 = omega (arith, low) in
    and_block 26 0x25 0x3F n 0 lt (omega arith) ∙ ap (λ k. 0x94000000 + k) none

distance_bits : (n : ℕ) → n < 2 ^ 26 → (0x94000000 + n) / 2 ^ 0 % 2 ^ 0 * 2 ^ 26 + (0x94000000 + n) / 2 ^ 0 % 2 ^ 26 ≡ n
distance_bits n lt = omega (arith, lt)

pub call_means : (n : ℕ) → n < 2 ^ 26
    → instruction_of (call_word n) ≡ Some (insn.Branch (branch.Unconditional true (signed_value 26 n)))
unfolding scalar fits_of named named_branch field_in field_of
call_means n lt =
    let it : Insn = insn.Branch (branch.Unconditional true (signed_value 26 n)) in
    (either (call_word n) it (omega (arith, lt))).1
    (inl (means_by (call_word n) 38 it (slice_get scalar.lines 38) refl (
      fixed_bits n lt,
      refl,
      ap (λ k. insn.Branch (branch.Unconditional true (signed_value 26 k)))
          (let e = distance_bits n lt in let back : n ≡ (0x94000000 + n) / 2 ^ 0 % 2 ^ 0 * 2 ^ 26 + (0x94000000 + n) / 2 ^ 0 % 2 ^ 26 =
          omega (arith, e) in back),
    ) (omega (arith, lt))))
