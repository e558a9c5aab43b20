-- The reach of an immediate: the numbers of so many bits in two's complement, and no others.
use Rattle.std.proofs.Common.{◌≡◌, ℕ, ◌-◌, ◌*◌, ◌/◌, ◌%◌, ◌^◌, ◌<◌, ◌≤◌, ◌==◌, not, Bool, true, false, cond, nat_lt}
use Rattle.std.proofs.Common.{nat_le, List, [], ◌∷◌, Option, Some, None, refl, sym, ap, ◌∙◌, subst, arith, eq-eqb, ltb-true}
use Rattle.std.proofs.Common.{ltb-false, ℤ, pos, ◌-ℤ◌, ◌*ℤ◌, lt-ltb, le-leb, ◌⊎◌, inl, inr}
use Rattle.std.specs.Option.{option_or}
use Rattle.std.proofs.lemmas.Int.{ints}
use Rattle.std.proofs.Math.Nat.{mul-mod_left, mul-div_left}
use Rattle.std.proofs.lemmas.Option.{same_Some}
use Rattle.plain_lemmas.proofs.Numbers.{two_pow-halves}
use Rattle.insn_forms.specs.declared.field.Field.{Field}
use Rattle.insn_forms.specs.declared.line.Line.{Line}
use Rattle.insn_forms.specs.Fields.{bits_of, field_in, signed_value}
use Rattle.insn_forms.specs.Tables.{meaning_in, meaning_by, stands_for, numbers_in, signed_numbers_in}
use Rattle.insn_forms.proofs.Bits.{field_in-lt}
use Rattle.a64_table.specs.declared.operation.Operation.{Operation}
use Rattle.a64_table.specs.declared.operation.Operation.TheVariants.{G9, G10, G19}
use Rattle.a64_table.specs.declared.operation.BranchOp.TheVariants.{B, Bl, BCond, Cbz, Cbnz, Tbz, Tbnz}
use Rattle.a64_table.specs.declared.fields.TheConstants.{IMM14, IMM19, IMM21, IMM26}
use Rattle.a64_table.specs.declared.rows.TheConstants.{SCALAR_LINES}
use Rattle.a64_table.specs.Named.{named, named_branch}
use Rattle.a64_table.specs.Table.{scalar, meaning_of}
use Rattle.sve_table.specs.Groups.{is_vector_group}
use Rattle.sve_table.specs.Table.{vector_meaning_of}
use Rattle.sve_table.proofs.OfVectors.{meaning_vector}
use Rattle.sm_types.specs.declared.insn.Insn.{Insn}
use Rattle.sm_types.specs.declared.insn.Insn.TheVariants as insn
use Rattle.sm_types.specs.declared.insn.Branch.{Branch}
use Rattle.sm_types.specs.declared.insn.Branch.TheVariants as branch
use Rattle.a64_encode.specs.Either.{instruction_of}
use Rattle.asm_operands.specs.Fields.{signed_field}

-- a number that a field of so many bits has in two's complement
pub record Holds (bits : ℕ) (z : ℤ) : Type 0 where
  pub number : ℕ
  pub lt : number < 2 ^ bits
  pub value : z ≡ signed_value bits number

-- ---- each instruction that a word means has an immediate of its field

unfoldable pub branch_range : Branch → Type 0
branch_range (branch.Unconditional link z) = Holds 26 z
branch_range (branch.Conditional condition z) = Holds 19 z
branch_range (branch.Compare nonzero wide z rt) = Holds 19 z
branch_range (branch.TestBit nonzero bit z rt) = Holds 14 z

unfoldable pub in_range : Insn → Type 0
in_range (insn.PcRelative it) = Holds 21 it.imm
in_range (insn.Branch it) = branch_range it
in_range (insn.LoadLiteral it) = Holds 19 it.words
in_range other = Unit {0}

field_range : (f : Field) (v : ℕ) → Holds (bits_of f) (signed_value (bits_of f) (field_in f v))
field_range f v = record { number = field_in f v; lt = field_in-lt f v; value = refl }

named_range : (op : Operation) (v : ℕ) → in_range (named op (numbers_in v) (signed_numbers_in v))
unfolding named named_branch in_range branch_range
named_range (G9 op) v = field_range IMM21 v
named_range (G10 B) v = field_range IMM26 v
named_range (G10 Bl) v = field_range IMM26 v
named_range (G10 BCond) v = field_range IMM19 v
named_range (G10 Cbz) v = field_range IMM19 v
named_range (G10 Cbnz) v = field_range IMM19 v
named_range (G10 Tbz) v = field_range IMM14 v
named_range (G10 Tbnz) v = field_range IMM14 v
named_range (G19 op) v = field_range IMM19 v
named_range op v = tt

row_range : (b : Bool) (op : Operation) (v : ℕ) (rest : Option Insn) (other : Insn) → (rest ≡ Some other → in_range other)
    → cond b (Some (named op (numbers_in v) (signed_numbers_in v))) rest ≡ Some other → in_range other
row_range true op v rest other h e = subst in_range (same_Some _ other e) (named_range op v)
row_range false op v rest other h e = h e

rows_range : (rows : List (Line Operation)) (v : ℕ) (other : Insn) → meaning_in scalar rows v ≡ Some other → in_range other
unfolding meaning_in scalar
rows_range [] v other e = cc
rows_range (row ∷ rows) v other e =
    row_range (stands_for scalar row v) row.operation v (meaning_in scalar rows v) other (rows_range rows v other) e

scalar_range : (v : ℕ) (other : Insn) → meaning_of v ≡ Some other → in_range other
unfolding meaning_of meaning_by scalar
scalar_range v other e = rows_range SCALAR_LINES v other e

-- a vector instruction has no distance
group_range : (other : Insn) → is_vector_group other ≡ true → in_range other
unfolding is_vector_group in_range
group_range (insn.PcRelative it) e = cc
group_range (insn.Branch it) e = cc
group_range (insn.LoadLiteral it) e = cc
group_range other e = tt

no_vector : (v : ℕ) (other : Insn) → vector_meaning_of v ≡ Some other → in_range other
no_vector v other e = group_range other (meaning_vector v other e)

either_range : (a b : Option Insn) (other : Insn) → (a ≡ Some other → in_range other) → (b ≡ Some other → in_range other)
    → option_or a b ≡ Some other → in_range other
either_range (Some it) b other f g e = f e
either_range None b other f g e = g e

pub word_range : (v : ℕ) (other : Insn) → instruction_of v ≡ Some other → in_range other
unfolding instruction_of
word_range v other e = either_range (meaning_of v) (vector_meaning_of v) other (scalar_range v other) (no_vector v other) e

-- ---- a field holds each such number of its unit

record IsBack (bits : ℕ) (z : ℤ) : Type 0 where
  count : ℕ
  some : 0 < count
  low : count ≤ 2 ^ (bits - 1)
  value : z ≡ pos 0 -ℤ pos count

record IsAhead (bits : ℕ) (z : ℤ) : Type 0 where
  count : ℕ
  low : count < 2 ^ (bits - 1)
  value : z ≡ pos count

by_half : (bits number : ℕ) (z : ℤ) (b : Bool) → 0 < bits → number < 2 ^ bits → nat_lt number (2 ^ (bits - 1)) ≡ b
    → z ≡ cond b (pos number) (pos number -ℤ pos (2 ^ bits)) → IsAhead bits z ⊎ IsBack bits z
by_half bits number z true some lt low e = inl (record { count = number; low = ltb-true _ _ low; value = e })
by_half bits number z false some lt low e =
    let d = two_pow-halves bits some in
    let high = ltb-false _ _ low in
    inr (record {
      count = 2 ^ bits - number;
      some = omega (arith, lt);
      low = omega (arith, d, high);
      value = e ∙ omega (arith, ints, lt);
    })

two_ways : (bits : ℕ) (z : ℤ) → 0 < bits → Holds bits z → IsAhead bits z ⊎ IsBack bits z
unfolding signed_value
two_ways bits z some h = by_half bits h.number z (nat_lt h.number (2 ^ (bits - 1))) some h.lt refl h.value

not_none : (exact low : Bool) (n : ℕ) → exact ≡ true → low ≡ true
    → ◌≡◌ {A = Option ℕ} (cond (not exact) None (cond low (Some n) None)) None → ⊥
not_none true true n e f h = cc
not_none true false n e f h = cc
not_none false low n e f h = cc

exactly : (scale size count : ℕ) → size ≡ count * scale → (size % scale == 0) ≡ true
exactly scale size count e = eq-eqb _ 0 (ap (λ n. n % scale) e ∙ mul-mod_left count scale)

counts : (scale size count : ℕ) → 0 < scale → size ≡ count * scale → size / scale ≡ count
counts scale size count some e = ap (λ n. n / scale) e ∙ mul-div_left count some

pub holds_ahead : (bits scale size count : ℕ) → 0 < scale → size ≡ count * scale → count < 2 ^ (bits - 1)
    → signed_field bits scale false size ≡ None → ⊥
unfolding signed_field
holds_ahead bits scale size count some e lt h =
    not_none (size % scale == 0) (nat_lt (size / scale) (2 ^ (bits - 1))) (size / scale) (exactly scale size count e)
    (ap (λ n. nat_lt n (2 ^ (bits - 1))) (counts scale size count some e) ∙ lt-ltb count (2 ^ (bits - 1)) lt) h

pub holds_back : (bits scale size count : ℕ) → 0 < scale → size ≡ count * scale → count ≤ 2 ^ (bits - 1)
    → signed_field bits scale true size ≡ None → ⊥
unfolding signed_field
holds_back bits scale size count some e le h =
    not_none (size % scale == 0) (nat_le (size / scale) (2 ^ (bits - 1))) ((2 ^ bits - size / scale) % 2 ^ bits)
    (exactly scale size count e)
    (ap (λ n. nat_le n (2 ^ (bits - 1))) (counts scale size count some e) ∙ le-leb count (2 ^ (bits - 1)) le) h

-- a unit times a count is one
module _ (scale : ℕ) (some_scale : 0 < scale)
    (ahead_by : (count : ℕ) → pos count *ℤ pos scale ≡ pos (count * scale))
    (back_by : (count : ℕ) → (pos 0 -ℤ pos count) *ℤ pos scale ≡ pos 0 -ℤ pos (count * scale)) where
  size_ahead : (m size : ℕ) → pos m ≡ pos size → size ≡ m
  size_ahead m size e = omega (arith, ints, e)

  size_back : (m size : ℕ) → pos 0 -ℤ pos m ≡ pos 0 -ℤ pos size → size ≡ m
  size_back m size e = omega (arith, ints, e)

  size_none : (m size : ℕ) → pos m ≡ pos 0 -ℤ pos size → size ≡ 0
  size_none m size e = omega (arith, ints, e)

  back_none : (m size : ℕ) → pos 0 -ℤ pos m ≡ pos size → size ≡ 0
  back_none m size e = omega (arith, ints, e)

  no_unit : 0 ≡ 0 * scale
  no_unit = omega arith

  one_way : (bits size : ℕ) (z : ℤ) (back : Bool) → IsAhead bits z ⊎ IsBack bits z
      → z *ℤ pos scale ≡ cond back (pos 0 -ℤ pos size) (pos size) → signed_field bits scale back size ≡ None → ⊥
  one_way bits size z false (inl a) e h =
      holds_ahead bits scale size a.count some_scale
      (size_ahead (a.count * scale) size (sym (ahead_by a.count) ∙ ap (λ x. x *ℤ pos scale) (sym a.value) ∙ e)) a.low h
  one_way bits size z true (inl a) e h =
      let none = size_none (a.count * scale) size (sym (ahead_by a.count) ∙ ap (λ x. x *ℤ pos scale) (sym a.value) ∙ e) in
      holds_back bits scale size 0 some_scale (none ∙ no_unit) (omega arith) h
  one_way bits size z false (inr b) e h =
      let none = back_none (b.count * scale) size (sym (back_by b.count) ∙ ap (λ x. x *ℤ pos scale) (sym b.value) ∙ e) in
      let p : 0 < 2 ^ (bits - 1) = omega (arith, b.some, b.low) in
      holds_ahead bits scale size 0 some_scale (none ∙ no_unit) p h
  one_way bits size z true (inr b) e h =
      holds_back bits scale size b.count some_scale
      (size_back (b.count * scale) size (sym (back_by b.count) ∙ ap (λ x. x *ℤ pos scale) (sym b.value) ∙ e)) b.low h

  pub ranges : (bits size : ℕ) (z : ℤ) (back : Bool) → 0 < bits → Holds bits z
      → z *ℤ pos scale ≡ cond back (pos 0 -ℤ pos size) (pos size) → signed_field bits scale back size ≡ None → ⊥
  ranges bits size z back some h = one_way bits size z back (two_ways bits z some h)
