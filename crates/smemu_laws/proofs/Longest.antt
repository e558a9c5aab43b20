-- The most bytes that a program file has which is written.
use Rattle.std.proofs.Common.{◌≡◌, ℕ, ◌≤◌, List, [], ◌∷◌, length, subst}
use Rattle.sm_types.specs.declared.numbers.Numbers.{Numbers}
use Rattle.cmd_words.specs.Words.{Argument, Request}
use Rattle.cmd_words.specs.declared.verb.Verb.{Verb}
use Rattle.cmd_words.specs.declared.verb.Verb.TheVariants.{Asm}
use Rattle.edge_io.specs.Files.{Told}
use Rattle.elf_headers.specs.declared.fault.LoadFault.TheVariants as load
use Rattle.elf_loader.proofs.Checks.{long_refused}
use Rattle.elf_loader.specs.Loading.{load_fault}
use Rattle.command_lines.specs.declared.status.Status.TheVariants.{Done}
use Rattle.smemu.specs.Answers.{IsOutcome, IsProgramOf, IsToldBy, outcomes_of, of_file}
use Rattle.smemu.proofs.Whole.{sound_short}

short : (operands : List Argument) (options : Numbers) (files : List (List ℕ)) (text : List ℕ)
    → of_file (λ file o. IsProgramOf file) operands options files text → length text ≤ 67108864
short operands options (file ∷ []) text h = sound_short load_fault load.TooLong 67108864 long_refused text h.written.loads.accepted
short operands options files text h = absurd h

pub longest : (told : Told) (request : Request) (text : List ℕ) → request.verb ≡ Asm → IsOutcome told request Done text
    → length text ≤ 67108864
longest told request text is h =
    short request.operands request.options h.files text
    (subst (λ (v : Verb). IsToldBy (outcomes_of v Done) request.operands request.options h.files text) is h.ends)
