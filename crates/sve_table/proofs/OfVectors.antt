-- What a word means by the table is of a vector group.
use Rattle.std.proofs.Common.{◌≡◌, ◌↔◌, ℕ, ◌<◌, ◌^◌, Some, true, refl, ℤ}
use Rattle.sm_types.specs.declared.insn.Insn.{Insn}
use Rattle.insn_forms.specs.declared.field.Field.{Field}
use Rattle.insn_forms.specs.Tables.{Means}
use Rattle.insn_forms.proofs.FirstLine.{one_meaning, meaning_holds, means_holds}
use Rattle.sve_table.specs.declared.operation.VectorOperation.{VectorOperation}
use Rattle.sve_table.specs.declared.operation.VectorOperation.TheVariants as operation
use Rattle.sve_table.specs.Groups.{is_vector_group}
use Rattle.sve_table.specs.Named.{named}
use Rattle.sve_table.specs.Table.{vector, vector_meaning_of}
use Rattle.sve_table.proofs.Checks.{one_row}

-- what a word means by the first row that stands for it is what it means by any
pub vector_meaning : (word : ℕ) (it : Insn) → word < 2 ^ 32 → (vector_meaning_of word ≡ Some it) ↔ Means vector word it
unfolding vector_meaning_of
vector_meaning word it lt = one_meaning vector word (one_row word) lt it

named_group : (op : VectorOperation) (n : Field → ℕ) (s : Field → ℤ) → is_vector_group (named op n s) ≡ true
unfolding is_vector_group named
named_group (operation.G24 op) n s = refl
named_group (operation.G25 op) n s = refl
named_group (operation.G26 op) n s = refl
named_group (operation.G27 op) n s = refl
named_group (operation.G28 op) n s = refl
named_group (operation.G29 op size) n s = refl
named_group (operation.G30 form) n s = refl
named_group (operation.G31 form) n s = refl
named_group (operation.G32 form) n s = refl
named_group (operation.G33 form) n s = refl
named_group (operation.G34 form) n s = refl
named_group (operation.G35 form) n s = refl
named_group (operation.G36 form) n s = refl
named_group (operation.G37 form) n s = refl
named_group (operation.G38 form) n s = refl
named_group (operation.G39 start part) n s = refl
named_group (operation.G40 form) n s = refl
named_group (operation.G41 store size) n s = refl
named_group (operation.G42 to_tile size) n s = refl
named_group (operation.G43 vertical wide) n s = refl
named_group (operation.G44 op wide) n s = refl
named_group (operation.G45 form) n s = refl

pub means_vector : (word : ℕ) (it : Insn) → Means vector word it → is_vector_group it ≡ true
unfolding vector
means_vector word it m = means_holds vector word (λ i. is_vector_group i ≡ true) named_group it m

pub meaning_vector : (word : ℕ) (it : Insn) → vector_meaning_of word ≡ Some it → is_vector_group it ≡ true
unfolding vector vector_meaning_of
meaning_vector word it e = meaning_holds vector word (λ i. is_vector_group i ≡ true) named_group it e
