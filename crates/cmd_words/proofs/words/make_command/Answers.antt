use Rattle.std.proofs.Common.{map, length, [], ◌∷◌, refl, sym, arith}
use Rattle.std.specs.String.{string_bytes}
use Rattle.std.specs.Prelude.{unwrap_or}
use Rattle.std.proofs.lemmas.List.{length-map}
use Rattle.cmd_words.specs.Forms.{form_of}
use Rattle.cmd_words.specs.Given.{given_of, numbers_given}
use Rattle.cmd_words.specs.Options.{default_options, default_of, with_number}
use Rattle.cmd_words.specs.Words.{NameSaid, WorkloadSaid}
use Rattle.cmd_words.specs.declared.setting.Setting.TheVariants.{Cores}
use Rattle.cmd_words.specs.declared.form.Operand.TheVariants.{Name, Workload}
use Rattle.cmd_words.specs.declared.verb.Verb.TheVariants.{Run, Sim, Dis, Asm, Vectors}
use Rattle.cmd_words.specs.declared.verb.Verb.TheVariants.{Gen, Bench, Help, Version}
use Rattle.cmd_words.proofs.Numbers.{both_ends}
use Rattle.cmd_words.proofs.Reading.{asked_for, both_named, given_options, named, no_options}
use Rattle.cmd_words.proofs.Reading.{bench_options, number_in_range, numbered, operand_stands, to_end, vector_numbers}
use Rattle.cmd_words.proofs.words.make_command.Goals as goal

pub returns-in_ok-name_at-in-Run-clause-command : goal.returns-in_ok-name_at-in-Run-clause-command
returns-in_ok-name_at-in-Run-clause-command c =
    let words = map string_bytes c.args.words.now in
    let program = string_bytes c.in_ok-name_at-in-Run.field-0 in
    let size = sym (length-map c.args.words.now string_bytes) in
    let read = rw c.in-Run.is at c.requires.read in
    rw c.config.ensures
    (asked_for words c.args.given.now Run (NameSaid program ∷ []) (numbers_given c.args.given.now) (length c.args.words.now) size read
    (rw c.in-Run.is at c.requires.verb) (named words program c.in_ok-name_at-in-Run.ensures.ok)
    (given_options words (Name ∷ []) c.args.given.now (to_end words _ c.args.given.now (length c.args.words.now) size read)))

pub returns-in_ok-name_at-in-Sim-2-clause-command : goal.returns-in_ok-name_at-in-Sim-2-clause-command
returns-in_ok-name_at-in-Sim-2-clause-command c =
    let words = map string_bytes c.args.words.now in
    let program = string_bytes c.in_ok-name_at-in-Sim.field-0 in
    let plan = string_bytes c.in_ok-name_at-in-Sim-2.field-0 in
    let size = sym (length-map c.args.words.now string_bytes) in
    let read = rw c.in-Sim.is at c.requires.read in
    rw c.config-in-Sim.ensures
    (asked_for words c.args.given.now Sim (NameSaid program ∷ NameSaid plan ∷ []) (numbers_given c.args.given.now) (length c.args.words.now)
    size read (rw c.in-Sim.is at c.requires.verb)
    (both_named words program plan c.in_ok-name_at-in-Sim.ensures.ok c.in_ok-name_at-in-Sim-2.ensures.ok)
    (given_options words (Name ∷ Name ∷ []) c.args.given.now (to_end words _ c.args.given.now (length c.args.words.now) size read)))

pub returns-in_ok-name_at-in-Dis-clause-command : goal.returns-in_ok-name_at-in-Dis-clause-command
returns-in_ok-name_at-in-Dis-clause-command c =
    let words = map string_bytes c.args.words.now in
    asked_for words c.args.given.now Dis (NameSaid (string_bytes c.in_ok-name_at-in-Dis.field-0) ∷ []) default_options
    (length c.args.words.now)
    (sym (length-map c.args.words.now string_bytes)) (rw c.in-Dis.is at c.requires.read) (rw c.in-Dis.is at c.requires.verb)
    (named words (string_bytes c.in_ok-name_at-in-Dis.field-0) c.in_ok-name_at-in-Dis.ensures.ok) (no_options Dis words refl)

pub returns-in_ok-name_at-in-Asm-clause-command : goal.returns-in_ok-name_at-in-Asm-clause-command
returns-in_ok-name_at-in-Asm-clause-command c =
    let words = map string_bytes c.args.words.now in
    asked_for words c.args.given.now Asm (NameSaid (string_bytes c.in_ok-name_at-in-Asm.field-0) ∷ []) default_options
    (length c.args.words.now)
    (sym (length-map c.args.words.now string_bytes)) (rw c.in-Asm.is at c.requires.read) (rw c.in-Asm.is at c.requires.verb)
    (named words (string_bytes c.in_ok-name_at-in-Asm.field-0) c.in_ok-name_at-in-Asm.ensures.ok) (no_options Asm words refl)

pub returns-in_ok-name_at-in-Vectors-clause-command : goal.returns-in_ok-name_at-in-Vectors-clause-command
returns-in_ok-name_at-in-Vectors-clause-command c =
    let words = map string_bytes c.args.words.now in
    let file = string_bytes c.in_ok-name_at-in-Vectors.field-0 in
    let size = sym (length-map c.args.words.now string_bytes) in
    let read = rw c.in-Vectors.is at c.requires.read in
    rw c.config-in-Vectors.ensures
    (asked_for words c.args.given.now Vectors (NameSaid file ∷ []) (numbers_given c.args.given.now) (length c.args.words.now) size read
    (rw c.in-Vectors.is at c.requires.verb) (named words file c.in_ok-name_at-in-Vectors.ensures.ok)
    (vector_numbers words c.args.given.now (to_end words (form_of Vectors) c.args.given.now (length c.args.words.now) size read)))

pub workload_at-requires-clause-number : goal.workload_at-requires-clause-number
workload_at-requires-clause-number c =
    operand_stands (map string_bytes c.args.words.now) (form_of Gen) c.args.given.now (length c.args.words.now) 0 Workload
    (rw c.in-Gen.is at c.requires.read) refl (omega arith)

pub returns-in-Gen-clause-command : goal.returns-in-Gen-clause-command
returns-in-Gen-clause-command c =
    let words = map string_bytes c.args.words.now in
    asked_for words c.args.given.now Gen (WorkloadSaid c.workload_at.result ∷ []) default_options (length c.args.words.now)
    (sym (length-map c.args.words.now string_bytes)) (rw c.in-Gen.is at c.requires.read) (rw c.in-Gen.is at c.requires.verb)
    (numbered words c.workload_at.result c.workload_at.ensures.number) (no_options Gen words refl)

pub workload_at-requires-in-Bench-clause-number : goal.workload_at-requires-in-Bench-clause-number
workload_at-requires-in-Bench-clause-number c =
    operand_stands (map string_bytes c.args.words.now) (form_of Bench) c.args.given.now (length c.args.words.now) 0 Workload
    (rw c.in-Bench.is at c.requires.read) refl (omega arith)

pub returns-in-Bench-clause-command : goal.returns-in-Bench-clause-command
returns-in-Bench-clause-command c =
    let words = map string_bytes c.args.words.now in
    let size = sym (length-map c.args.words.now string_bytes) in
    let read = rw c.in-Bench.is at c.requires.read in
    let cores = unwrap_or (given_of c.args.given.now Cores) (default_of Cores) in
    rw c.number.ensures
    (asked_for words c.args.given.now Bench (WorkloadSaid c.workload_at-in-Bench.result ∷ []) (with_number default_options Cores cores)
    (length c.args.words.now) size read (rw c.in-Bench.is at c.requires.verb)
    (numbered words c.workload_at-in-Bench.result c.workload_at-in-Bench.ensures.number)
    (bench_options words c.args.given.now (to_end words (form_of Bench) c.args.given.now (length c.args.words.now) size read)))

pub returns-in-Bench-clause-in_range : goal.returns-in-Bench-clause-in_range
returns-in-Bench-clause-in_range c =
    let given = given_of c.args.given.now Cores in
    let cores = both_ends (unwrap_or given (default_of Cores)) 64 (number_in_range Cores given (c.requires.read.in_range Cores)) in
    let number = c.workload_at-in-Bench.ensures.in_range in
    (number.0, number.1, rw c.number.ensures cores.0, rw c.number.ensures cores.1)

pub returns-in-Help-clause-command : goal.returns-in-Help-clause-command
returns-in-Help-clause-command c =
    let words = map string_bytes c.args.words.now in
    asked_for words c.args.given.now Help [] default_options (length c.args.words.now)
    (sym (length-map c.args.words.now string_bytes)) (rw c.in-Help.is at c.requires.read) (rw c.in-Help.is at c.requires.verb)
    refl (no_options Help words refl)

pub returns-in-Version-clause-command : goal.returns-in-Version-clause-command
returns-in-Version-clause-command c =
    let words = map string_bytes c.args.words.now in
    asked_for words c.args.given.now Version [] default_options (length c.args.words.now)
    (sym (length-map c.args.words.now string_bytes)) (rw c.in-Version.is at c.requires.read) (rw c.in-Version.is at c.requires.verb)
    refl (no_options Version words refl)
