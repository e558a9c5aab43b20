-- The words by which calls are told are those of BL and BLR, by the tables.
use Rattle.std.proofs.Common.{inl, inr, ◌≡◌, ℕ, ◌*◌, ◌/◌, ◌%◌, ◌^◌, ◌<◌, Bool, true, false, cond, ◌==◌, ◌&&◌, ◌||◌, refl, ap, sym, ◌∙◌}
use Rattle.std.proofs.Common.{List, [], ◌∷◌, Option, subst, eqb-true, eq-eqb, ℤ, arith, Some}
use Rattle.std.specs.Prelude.{bit_and, unwrap_or}
use Rattle.std.specs.List.{list_all}
use Rattle.std.proofs.lemmas.Bool.{and_parts, cases_Bool, false_from_ne_true, and_from, or_right, or_left}
use Rattle.std.proofs.lemmas.Nat.{and_assoc, and_mask}
use Rattle.plain_lemmas.proofs.Options.{either_some}
use Rattle.sm_types.specs.declared.insn.Insn.{Insn}
use Rattle.sm_types.specs.declared.insn.BranchRegisterOp.TheVariants.{Br, Blr, Ret}
use Rattle.insn_forms.specs.declared.field.Field.{Field}
use Rattle.insn_forms.specs.declared.line.Line.{Line}
use Rattle.insn_forms.specs.Tables.{Table, insn_in, meaning_in, meaning_by, stands_for, fits_in}
use Rattle.insn_forms.proofs.Bits.{field_masked}
use Rattle.insn_forms.proofs.Tables.{differ, not_alike}
use Rattle.a64_table.specs.declared.operation.Operation.{Operation}
use Rattle.a64_table.specs.declared.operation.Operation.TheVariants as operation
use Rattle.a64_table.specs.declared.operation.BranchOp.TheVariants.{B, Bl, BCond, Cbz, Cbnz, Tbz, Tbnz}
use Rattle.a64_table.specs.declared.rows.TheConstants.{SCALAR_LINES}
use Rattle.a64_table.specs.Named.{named, named_branch}
use Rattle.a64_table.specs.Table.{scalar, meaning_of}
use Rattle.sve_table.specs.declared.operation.VectorOperation.{VectorOperation}
use Rattle.sve_table.specs.declared.operation.VectorOperation.TheVariants as vectors
use Rattle.sve_table.specs.declared.rows.TheConstants.{VECTOR_LINES}
use Rattle.sve_table.specs.Named.{named as vector_named}
use Rattle.sve_table.specs.Table.{vector, vector_meaning_of}
use Rattle.a64_encode.specs.Either.{instruction_of}
use Rattle.abi_checker.specs.Marks.{is_call_word, is_call_insn}

-- ---- the lines of a table

-- what is so of the instruction of each line that the word matches is so of the word's
module _ {O I : Type 0} (t : Table O I) (word : ℕ) (P : I → Type 0) (safe : Line O → Bool)
    (sound : (line : Line O) → safe line ≡ true → bit_and word line.mask ≡ line.value → P (insn_in t line.operation word)) where
  one_some : (x y : I) → Some x ≡ Some y → P x → P y
  one_some x y e h = subst P (ap (λ o. unwrap_or o x) e) h

  all_mean : (lines : List (Line O)) → list_all safe lines ≡ true → (it : I) → meaning_in t lines word ≡ Some it → P it
  unfolding meaning_in stands_for
  all_mean [] e it h = cc
  all_mean (line ∷ lines) e it h =
      let parts = and_parts (safe line) (list_all safe lines) e in
      let test : Bool = (bit_and word line.mask == line.value) && fits_in t line.operation word in
      let choose : Bool → Option I = λ b. cond b (Some (insn_in t line.operation word)) (meaning_in t lines word) in
      elim (cases_Bool test) [
        | inl held ↦
            one_some (insn_in t line.operation word) it (sym (ap choose held) ∙ h)
            (sound line parts.0
            (eqb-true (bit_and word line.mask) line.value
            (and_parts (bit_and word line.mask == line.value) (fits_in t line.operation word) held).0))
        | inr other ↦ all_mean lines parts.1 it (sym (ap choose other) ∙ h)
      ]

-- ---- the operations

abbrev is_call_op : Operation → Bool
is_call_op (operation.G10 Bl) = true
is_call_op (operation.G11 Blr) = true
is_call_op other = false

call_named : (op : Operation) (n : Field → ℕ) (s : Field → ℤ) → is_call_insn (named op n s) ≡ is_call_op op
unfolding named named_branch
call_named (operation.G1 op) n s = refl
call_named (operation.G2 op) n s = refl
call_named (operation.G3 op inverted) n s = refl
call_named (operation.G4 op) n s = refl
call_named (operation.G5 op) n s = refl
call_named (operation.G6 op) n s = refl
call_named (operation.G7 op wide) n s = refl
call_named (operation.G8 wide) n s = refl
call_named (operation.G9 op) n s = refl
call_named (operation.G10 B) n s = refl
call_named (operation.G10 Bl) n s = refl
call_named (operation.G10 BCond) n s = refl
call_named (operation.G10 Cbz) n s = refl
call_named (operation.G10 Cbnz) n s = refl
call_named (operation.G10 Tbz) n s = refl
call_named (operation.G10 Tbnz) n s = refl
call_named (operation.G11 Br) n s = refl
call_named (operation.G11 Blr) n s = refl
call_named (operation.G11 Ret) n s = refl
call_named (operation.G12 op) n s = refl
call_named (operation.G13 op) n s = refl
call_named (operation.G14 op immediate) n s = refl
call_named (operation.G15 op) n s = refl
call_named (operation.G16 op) n s = refl
call_named (operation.G17 op) n s = refl
call_named (operation.G18 form) n s = refl
call_named (operation.G19 op) n s = refl
call_named (operation.G20 op wide index) n s = refl
call_named (operation.G21 form) n s = refl
call_named (operation.G22 op) n s = refl
call_named (operation.G23 op register) n s = refl

no_vector_call : (op : VectorOperation) (n : Field → ℕ) (s : Field → ℤ) → is_call_insn (vector_named op n s) ≡ false
unfolding vector_named
no_vector_call (vectors.G24 op) n s = refl
no_vector_call (vectors.G25 op) n s = refl
no_vector_call (vectors.G26 op) n s = refl
no_vector_call (vectors.G27 op) n s = refl
no_vector_call (vectors.G28 op) n s = refl
no_vector_call (vectors.G29 op size) n s = refl
no_vector_call (vectors.G30 form) n s = refl
no_vector_call (vectors.G31 form) n s = refl
no_vector_call (vectors.G32 form) n s = refl
no_vector_call (vectors.G33 form) n s = refl
no_vector_call (vectors.G34 form) n s = refl
no_vector_call (vectors.G35 form) n s = refl
no_vector_call (vectors.G36 form) n s = refl
no_vector_call (vectors.G37 form) n s = refl
no_vector_call (vectors.G38 form) n s = refl
no_vector_call (vectors.G39 start part) n s = refl
no_vector_call (vectors.G40 form) n s = refl
no_vector_call (vectors.G41 store size) n s = refl
no_vector_call (vectors.G42 to_tile size) n s = refl
no_vector_call (vectors.G43 vertical wide) n s = refl
no_vector_call (vectors.G44 op wide) n s = refl
no_vector_call (vectors.G45 form) n s = refl

-- ---- the bits

-- the fixed bits of BL and of BLR
abbrev is_bl_line : ℕ → ℕ → Bool
is_bl_line mask value = (mask == 0xFC000000) && (value == 0x94000000)

abbrev is_blr_line : ℕ → ℕ → Bool
is_blr_line mask value = (mask == 0xFFFFFC1F) && (value == 0xD63F0000)

-- the line has no word of a BL, and none of a BLR
abbrev off_call : ℕ → ℕ → Bool
off_call mask value =
    differ 0xFC000000 0x94000000 mask value
    && (differ 0xFFFFFC00 0xD63F0000 mask value || differ 0x1F 0 mask value)

-- ---- the lines

unfoldable scalar_line : Line Operation → Bool
scalar_line line =
    cond (is_call_op line.operation) (is_bl_line line.mask line.value || is_blr_line line.mask line.value)
    (off_call line.mask line.value)

unfoldable vector_line : Line VectorOperation → Bool
vector_line line = off_call line.mask line.value

all_scalar : list_all scalar_line SCALAR_LINES ≡ true
unfolding scalar_line differ
all_scalar = refl

all_vector : list_all vector_line VECTOR_LINES ≡ true
unfolding vector_line differ
all_vector = refl

choose : (b x y : Bool) → b ≡ true → cond b x y ≡ true → x ≡ true
choose true x y e h = h
choose false x y e h = cc

pass : (b x y : Bool) → b ≡ false → cond b x y ≡ true → y ≡ true
pass true x y e h = cc
pass false x y e h = h

-- ---- a word

module _ (word : ℕ) (small : word < 2 ^ 32) where
  high_bl : bit_and word 0xFC000000 ≡ word / 2 ^ 26 * 2 ^ 26
  high_bl =
      let e : word / 2 ^ 26 % 2 ^ 6 * 2 ^ 26 ≡ bit_and word 0xFC000000 = field_masked word 6 26 in
      let f : word / 2 ^ 26 % 2 ^ 6 ≡ word / 2 ^ 26 = omega (arith, small) in
      sym e ∙ ap (λ n. n * 2 ^ 26) f

  high_blr : bit_and word 0xFFFFFC00 ≡ word / 2 ^ 10 * 2 ^ 10
  high_blr =
      let e : word / 2 ^ 10 % 2 ^ 22 * 2 ^ 10 ≡ bit_and word 0xFFFFFC00 = field_masked word 22 10 in
      let f : word / 2 ^ 10 % 2 ^ 22 ≡ word / 2 ^ 10 = omega (arith, small) in
      sym e ∙ ap (λ n. n * 2 ^ 10) f

  low_blr : bit_and word 0x1F ≡ word % 32
  low_blr = and_mask word 5

  -- a BL or BLR by its fixed bits
  bl_is : bit_and word 0xFC000000 ≡ 0x94000000 → is_call_word word ≡ true
  bl_is e =
      let high = high_bl in
      let top : word / 2 ^ 26 ≡ 0x25 = omega (arith, high, e) in
      or_left _ _ (eq-eqb (word / 2 ^ 26) 0x25 top)

  blr_is : bit_and word 0xFFFFFC1F ≡ 0xD63F0000 → is_call_word word ≡ true
  blr_is e =
      let a : bit_and word 0xFFFFFC00 ≡ 0xD63F0000 = sym (and_assoc 0xFFFFFC00 word 0xFFFFFC1F) ∙ ap (λ n. bit_and n 0xFFFFFC00) e in
      let b : bit_and word 0x1F ≡ 0 = sym (and_assoc 0x1F word 0xFFFFFC1F) ∙ ap (λ n. bit_and n 0x1F) e in
      let high = high_blr in
      let top : word / 2 ^ 10 ≡ 0x358FC0 = omega (arith, high, a) in
      or_right _ _ (and_from _ _ (eq-eqb (word / 2 ^ 10) 0x358FC0 top) (eq-eqb (word % 32) 0 (sym low_blr ∙ b)))

  by_line : (mask value : ℕ) → (is_bl_line mask value || is_blr_line mask value) ≡ true → bit_and word mask ≡ value
      → is_call_word word ≡ true
  by_line mask value e is = elim (cases_Bool (is_bl_line mask value)) [
    | inl bl ↦
        let both = and_parts (mask == 0xFC000000) (value == 0x94000000) bl in
        bl_is (ap (bit_and word) (sym (eqb-true mask 0xFC000000 both.0)) ∙ is ∙ eqb-true value 0x94000000 both.1)
    | inr other ↦
        let blr : is_blr_line mask value ≡ true = sym (ap (λ b. b || is_blr_line mask value) other) ∙ e in
        let both = and_parts (mask == 0xFFFFFC1F) (value == 0xD63F0000) blr in
        blr_is (ap (bit_and word) (sym (eqb-true mask 0xFFFFFC1F both.0)) ∙ is ∙ eqb-true value 0xD63F0000 both.1)
  ]

  -- and other words are of neither
  no_call : (mask value : ℕ) → off_call mask value ≡ true → bit_and word mask ≡ value → is_call_word word ≡ true → ⊥
  no_call mask value off is call =
      let parts = and_parts _ _ off in
      elim (cases_Bool (word / 2 ^ 26 == 0x25)) [
        | inl bl ↦
            let top = eqb-true (word / 2 ^ 26) 0x25 bl in
            not_alike word 0xFC000000 0x94000000 mask value parts.0 (high_bl ∙ ap (λ n. n * 2 ^ 26) top) is
        | inr other ↦
            let rest : ((word / 2 ^ 10 == 0x358FC0) && (word % 32 == 0)) ≡ true =
            sym (ap (λ b. b || ((word / 2 ^ 10 == 0x358FC0) && (word % 32 == 0))) other) ∙ call in
            let both = and_parts (word / 2 ^ 10 == 0x358FC0) (word % 32 == 0) rest in
            let top = eqb-true (word / 2 ^ 10) 0x358FC0 both.0 in
            let low = eqb-true (word % 32) 0 both.1 in
            elim (cases_Bool (differ 0xFFFFFC00 0xD63F0000 mask value)) [
              | inl high ↦
                  not_alike word 0xFFFFFC00 0xD63F0000 mask value high (high_blr ∙ ap (λ n. n * 2 ^ 10) top) is
              | inr same ↦
                  let lows : differ 0x1F 0 mask value ≡ true = sym (ap (λ b. b || differ 0x1F 0 mask value) same) ∙ parts.1 in
                  not_alike word 0x1F 0 mask value lows (low_blr ∙ low) is
            ]
      ]

  scalar_sound : (line : Line Operation) → scalar_line line ≡ true → bit_and word line.mask ≡ line.value
      → is_call_word word ≡ is_call_insn (insn_in scalar line.operation word)
  unfolding scalar scalar_line
  scalar_sound line safe is = elim (cases_Bool (is_call_op line.operation)) [
    | inl call ↦
        by_line line.mask line.value (choose _ _ _ call safe) is ∙ sym (call_named line.operation _ _ ∙ call)
    | inr none ↦
        false_from_ne_true (is_call_word word) (no_call line.mask line.value (pass _ _ _ none safe) is)
        ∙ sym (call_named line.operation _ _ ∙ none)
  ]

  vector_sound : (line : Line VectorOperation) → vector_line line ≡ true → bit_and word line.mask ≡ line.value
      → is_call_word word ≡ is_call_insn (insn_in vector line.operation word)
  unfolding vector vector_line
  vector_sound line safe is =
      false_from_ne_true (is_call_word word) (no_call line.mask line.value safe is) ∙ sym (no_vector_call line.operation _ _)

  pub calls_are : (it : Insn) → instruction_of word ≡ Some it → is_call_word word ≡ is_call_insn it
  unfolding instruction_of meaning_of vector_meaning_of meaning_by scalar vector
  calls_are it e = elim (either_some (meaning_of word) (vector_meaning_of word) it e) [
    | inl h ↦
        all_mean scalar word (λ i. is_call_word word ≡ is_call_insn i) scalar_line scalar_sound SCALAR_LINES all_scalar it h
    | inr h ↦
        all_mean vector word (λ i. is_call_word word ≡ is_call_insn i) vector_line vector_sound VECTOR_LINES all_vector it h
  ]
