-- What is told of the marked calls of a thread of a report is one.
use Rattle.std.proofs.Common.{◌≡◌, ℕ, List, sym, ◌∙◌, subst}
use Rattle.sm_types.specs.declared.config.Config.{Config}
use Rattle.paged_memory.specs.Image.{Program}
use Rattle.abi_checker.specs.Checked.{IsChecked}
use Rattle.abi_checker.specs.declared.abi.Abi.{Abi}
use Rattle.abi_checker.specs.declared.abi.Abi.TheVariants.{Yes, No}
use Rattle.abi_checker.specs.declared.abi.AbiKind.{AbiKind}
use Rattle.abi_checker.specs.declared.abi.AbiKind.TheVariants.{TooDeep}
use Rattle.abi_checker.proofs.Once.{one_checked}
use Rattle.command_lines.specs.LawLines.{lawful_line, unlawful_line}
use Rattle.report_reader.specs.Block.{Block}
use Rattle.smemu.specs.Checks.{IsCheckOf, IsLawfulOf, IsUnlawfulOf, kind_word}
use Rattle.smemu_laws.proofs.OneAnswer.{one_block}

one_check : (file report : List ℕ) (thread : ℕ) (a b : Abi) → IsCheckOf file report thread a → IsCheckOf file report thread b → a ≡ b
one_check file report thread a b h g =
    let one = one_block file report thread h.at g.at in
    let there : IsChecked g.at.program g.at.config thread g.at.block.journal g.at.block.count a =
    subst (λ (k : Block). IsChecked g.at.program g.at.config thread k.journal k.count a) one.block
    (subst (λ (c : Config). IsChecked g.at.program c thread h.at.block.journal h.at.block.count a) one.config
    (subst (λ (p : Program). IsChecked p h.at.config thread h.at.block.journal h.at.block.count a) one.program h.checked)) in
    one_checked g.at.program g.at.config thread g.at.block.journal g.at.block.count a b there g.checked

-- the numbers and the kind of what is told
first_of : Abi → ℕ
first_of (Yes calls unreturned) = calls
first_of (No count pc kind) = count

second_of : Abi → ℕ
second_of (Yes calls unreturned) = unreturned
second_of (No count pc kind) = pc

kind_of : Abi → AbiKind
kind_of (Yes calls unreturned) = TooDeep
kind_of (No count pc kind) = kind

pub one_lawful : (file report : List ℕ) (thread : ℕ) (text other : List ℕ) → IsLawfulOf file report thread text
    → IsLawfulOf file report thread other → text ≡ other
unfolding first_of second_of
one_lawful file report thread text other h g =
    let same = one_check file report thread (Yes h.calls h.unreturned) (Yes g.calls g.unreturned) h.check g.check in
    h.is_text ∙ (λ i. lawful_line (first_of (same i)) (second_of (same i))) ∙ sym g.is_text

pub one_unlawful : (file report : List ℕ) (thread : ℕ) (text other : List ℕ) → IsUnlawfulOf file report thread text
    → IsUnlawfulOf file report thread other → text ≡ other
unfolding first_of second_of kind_of
one_unlawful file report thread text other h g =
    let same = one_check file report thread (No h.count h.pc h.kind) (No g.count g.pc g.kind) h.check g.check in
    h.is_text ∙ (λ i. unlawful_line (first_of (same i)) (second_of (same i)) (kind_word (kind_of (same i)))) ∙ sym g.is_text

apart : (calls unreturned count pc : ℕ) (kind : AbiKind) → ◌≡◌ {A = Abi} (Yes calls unreturned) (No count pc kind) → ⊥
apart calls unreturned count pc kind e = cc

pub lawful_or_not : (file report : List ℕ) (thread : ℕ) (text other : List ℕ) → IsLawfulOf file report thread text
    → IsUnlawfulOf file report thread other → ⊥
lawful_or_not file report thread text other h g =
    apart h.calls h.unreturned g.count g.pc g.kind
    (one_check file report thread (Yes h.calls h.unreturned) (No g.count g.pc g.kind) h.check g.check)
