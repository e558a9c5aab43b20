-- What a word means by both tables, and which of them gives it.
use Rattle.std.proofs.Common.{◌≡◌, ◌↔◌, inl, inr, ℕ, ◌<◌, ◌^◌, true, false, Option, Some, None, refl, ap, ◌∙◌, ℤ}
use Rattle.std.specs.Option.{option_or}
use Rattle.std.proofs.lemmas.Bool.{both_ways}
use Rattle.plain_lemmas.proofs.Options.{either_some}
use Rattle.sm_types.specs.declared.insn.Insn.{Insn}
use Rattle.insn_forms.specs.declared.field.Field.{Field}
use Rattle.insn_forms.specs.Tables.{Table, Means}
use Rattle.insn_forms.proofs.FirstLine.{one_meaning, meaning_holds, means_holds}
use Rattle.a64_table.specs.declared.operation.Operation.{Operation}
use Rattle.a64_table.specs.declared.operation.Operation.TheVariants as operation
use Rattle.a64_table.specs.Named.{named}
use Rattle.a64_table.specs.Table.{scalar, meaning_of}
use Rattle.a64_table.proofs.Checks.{one_row}
use Rattle.sve_table.specs.Groups.{is_vector_group}
use Rattle.sve_table.specs.Table.{vector, vector_meaning_of}
use Rattle.sve_table.proofs.Checks.{one_row as vector_row}
use Rattle.sve_table.proofs.OfVectors.{vector_meaning, means_vector, meaning_vector}
use Rattle.a64_encode.specs.Either.{MeansEither, Stands, HasAtMostOneRowOfBoth, instruction_of}
use Rattle.a64_encode.proofs.Apart.{apart}

-- ---- the instructions of scalar words are of no vector group, and those of vector words are
named_scalar : (op : Operation) (n : Field → ℕ) (s : Field → ℤ) → is_vector_group (named op n s) ≡ false
unfolding is_vector_group named
named_scalar (operation.G1 op) n s = refl
named_scalar (operation.G2 op) n s = refl
named_scalar (operation.G3 op inverted) n s = refl
named_scalar (operation.G4 op) n s = refl
named_scalar (operation.G5 op) n s = refl
named_scalar (operation.G6 op) n s = refl
named_scalar (operation.G7 op wide) n s = refl
named_scalar (operation.G8 wide) n s = refl
named_scalar (operation.G9 op) n s = refl
named_scalar (operation.G10 op) n s = refl
named_scalar (operation.G11 op) n s = refl
named_scalar (operation.G12 op) n s = refl
named_scalar (operation.G13 op) n s = refl
named_scalar (operation.G14 op immediate) n s = refl
named_scalar (operation.G15 op) n s = refl
named_scalar (operation.G16 op) n s = refl
named_scalar (operation.G17 op) n s = refl
named_scalar (operation.G18 form) n s = refl
named_scalar (operation.G19 op) n s = refl
named_scalar (operation.G20 op wide index) n s = refl
named_scalar (operation.G21 form) n s = refl
named_scalar (operation.G22 op) n s = refl
named_scalar (operation.G23 op register) n s = refl

pub means_scalar : (word : ℕ) (it : Insn) → Means scalar word it → is_vector_group it ≡ false
unfolding scalar
means_scalar word it m = means_holds scalar word (λ i. is_vector_group i ≡ false) named_scalar it m

pub meaning_scalar : (word : ℕ) (it : Insn) → meaning_of word ≡ Some it → is_vector_group it ≡ false
unfolding scalar meaning_of
meaning_scalar word it e = meaning_holds scalar word (λ i. is_vector_group i ≡ false) named_scalar it e

-- no instruction has a word in both tables
pub never_both : (word other : ℕ) (it : Insn) → Means scalar word it → Means vector other it → ⊥
never_both word other it m n = both_ways (is_vector_group it) (means_scalar word it m) (means_vector other it n)

pub by_scalar : (word : ℕ) (it : Insn) → instruction_of word ≡ Some it → is_vector_group it ≡ false → meaning_of word ≡ Some it
unfolding instruction_of
by_scalar word it e g = elim (either_some (meaning_of word) (vector_meaning_of word) it e) [
  | inl h ↦ h
  | inr h ↦ absurd (both_ways (is_vector_group it) g (meaning_vector word it h))
]

pub by_vector : (word : ℕ) (it : Insn) → instruction_of word ≡ Some it → is_vector_group it ≡ true → vector_meaning_of word ≡ Some it
unfolding instruction_of
by_vector word it e g = elim (either_some (meaning_of word) (vector_meaning_of word) it e) [
  | inl h ↦ absurd (both_ways (is_vector_group it) (meaning_scalar word it h) g)
  | inr h ↦ h
]

-- ---- both tables
pub scalar_meaning : (word : ℕ) (it : Insn) → word < 2 ^ 32 → (meaning_of word ≡ Some it) ↔ Means scalar word it
unfolding meaning_of
scalar_meaning word it lt = one_meaning scalar word (one_row word) lt it

pub at_most_one : (word : ℕ) → HasAtMostOneRowOfBoth word
at_most_one word = record { scalar_row = one_row word; vector_row = vector_row word; apart = apart word }

stands : {O : Type 0} (t : Table O Insn) (word : ℕ) (it : Insn) → Means t word it → Stands t word
stands t word it m = record { place = m.place; line = m.line; listed = m.listed; matches = m.matches; fits = m.fits }

-- a word that means something by one table means nothing by the other
pub scalar_alone : (word : ℕ) (it : Insn) → word < 2 ^ 32 → vector_meaning_of word ≡ Some it → meaning_of word ≡ None
scalar_alone word it lt e = go (meaning_of word) refl
  where
    go : (found : Option Insn) → meaning_of word ≡ found → found ≡ None
    go None f = refl
    go (Some other) f =
        absurd (apart word (stands scalar word other ((scalar_meaning word other lt).0 f))
        (stands vector word it ((vector_meaning word it lt).0 e)))

pub either : (word : ℕ) (it : Insn) → word < 2 ^ 32 → (instruction_of word ≡ Some it) ↔ MeansEither word it
unfolding instruction_of
either word it lt = (
  λ e. elim (either_some (meaning_of word) (vector_meaning_of word) it e) [
    | inl h ↦ inl ((scalar_meaning word it lt).0 h)
    | inr h ↦ inr ((vector_meaning word it lt).0 h)
  ],
  λ m. elim m [
    | inl n ↦ ap (λ o. option_or o (vector_meaning_of word)) ((scalar_meaning word it lt).1 n)
    | inr n ↦ let h = (vector_meaning word it lt).1 n in
        ap (λ o. option_or o (vector_meaning_of word)) (scalar_alone word it lt h) ∙ h
  ],
)

-- a word that means an instruction has 32 bits
pub is_word : (word : ℕ) (it : Insn) → MeansEither word it → word < 2 ^ 32
is_word word it m = elim m [ inl n ↦ n.is_word | inr n ↦ n.is_word ]
