-- What is fetched of a file, with a limit of one byte more than it may have, stands for the whole file.
use Rattle.std.proofs.Common.{◌≡◌, ℕ, ◌<◌, ◌≤◌, inl, inr, List, take, length, true, Option, Some, None, Result, Ok, refl, sym, ◌∙◌}
use Rattle.std.proofs.Common.{ap, arith}
use Rattle.std.proofs.lemmas.Bool.Decides.{nat_tests}
use Rattle.std.proofs.lemmas.Option.{same_Some}
use Rattle.std.proofs.lemmas.List.{length-take-le, take_all}
use Rattle.std.proofs.lemmas.Bool.{cases_lt}
use Rattle.std.specs.Prelude.{IfSome, option_map, nat_lt}
use Rattle.asm_core.specs.Faults.{asm_fault}
use Rattle.ckpt_fields.specs.Rows as ckpt
use Rattle.ckpt_fields.specs.Rows.{checkpoint_fault}
use Rattle.asm_core.specs.declared.fault.AsmFault.TheVariants as asm
use Rattle.elf_headers.specs.declared.fault.LoadFault.TheVariants as load
use Rattle.elf_loader.proofs.Checks.{long_refused}
use Rattle.edge_io.specs.Files.{Told, FilesView}
use Rattle.smemu.specs.Answers.{IsFile}
use Rattle.smemu.specs.Ends.{Change}
use Rattle.smemu.specs.Views.{IsFront, IsOpened, IsRejected, IsUnopened}
use Rattle.smemu.specs.declared.refusal.Refusal.{Refusal}
use Rattle.smemu.specs.declared.refusal.Refusal.TheVariants as refusal
use Rattle.plan_reader.specs.Plan.{plan_in}
use Rattle.plan_reader.specs.Plan as plan
use Rattle.line_reader.specs.declared.text_fault.TextKind.TheVariants as text_kind
use Rattle.report_reader.specs.Reading.{Fault}
use Rattle.report_reader.specs.Report.{Report, report_in}
use Rattle.report_reader.specs.declared.fault.ReportKind.TheVariants as part
use Rattle.script_reader.specs.Script.{script_in}
use Rattle.sm_types.specs.declared.length.VecLen.{VecLen}
use Rattle.vector_runner.specs.Grammar as grammar
use Rattle.vector_runner.specs.Grammar.{vectors_in}
use Rattle.smemu.specs.Rejections.{Judge, fault_in, fault_told, plan_judge, program_judge, report_judge, script_judge, source_judge}
use Rattle.smemu.specs.Rejections.{checkpoint_judge, field_told, vectors_judge}
use Rattle.smemu.specs.declared.rejection.Rejection.{Rejection}
use Rattle.smemu.specs.declared.rejection.Rejection.TheVariants as rejection

-- what was fetched is the whole file, where it is short enough
whole_file : (n : ℕ) (file fetched : List ℕ) → take n file ≡ fetched → length fetched < n → file ≡ fetched
whole_file n file fetched e h =
    elim (cases_lt (length file) n) [
      | inl short ↦ sym (take_all n file (omega arith)) ∙ e
      | inr long ↦ absurd (let l : length (take n file) ≡ n = length-take-le n file long in let same = ap length e in omega arith)
    ]

-- the file of the name has this fault
pub record IsFaulty {F : Type 0} (fault_of : List ℕ → Option F) (told : Told) (name : List ℕ) (fault : F) : Type 0 where
  pub file : List ℕ
  pub is_file : IsFile told name file
  pub faulty : fault_of file ≡ Some fault

-- ---- files of a kind, of which those that are too long have a fault of their own

module _ {F : Type 0} (fault_of : List ℕ → Option F) (too_long : F)
    (largest : ℕ)
    (long_fault : (file : List ℕ) → largest < length file → fault_of file ≡ Some too_long) where
  faulty_or_not : (o : Option F) (f : F) → o ≡ None → o ≡ Some f → ⊥
  faulty_or_not o f e h = cc

  same_fault : (f g : F) → ◌≡◌ {A = Option F} (Some f) (Some g) → f ≡ g
  same_fault f g e = cc

  -- a file without a fault is short enough
  pub sound_short : (file : List ℕ) → fault_of file ≡ None → length file ≤ largest
  sound_short file h =
      elim (cases_lt largest (length file)) [
        | inl long ↦ absurd (faulty_or_not (fault_of file) too_long h (long_fault file long))
        | inr short ↦ short
      ]

  faulty_whole : (n : ℕ) (file fetched : List ℕ) (fault : F) → largest < n → take n file ≡ fetched → fault_of fetched ≡ Some fault
      → fault_of file ≡ Some fault
  faulty_whole n file fetched fault l e h =
      elim (cases_lt (length file) n) [
        | inl short ↦ ap fault_of (sym (take_all n file (omega arith)) ∙ e) ∙ h
        | inr long ↦
            let size : length fetched ≡ n = sym (ap length e) ∙ length-take-le n file long in
            let is_long : too_long ≡ fault = same_fault too_long fault (sym (long_fault fetched (omega arith)) ∙ h) in
            long_fault file (omega arith) ∙ ap Some is_long
      ]

  -- the file of the name, where what was fetched has no fault
  sound_file : (told : Told) (n : ℕ) (name fetched : List ℕ) → largest < n
      → IfSome told (λ files. option_map (take n) (files name) ≡ Some fetched) → fault_of fetched ≡ None → IsFile told name fetched
  sound_file None n name fetched l e h = tt
  sound_file (Some files) n name fetched l e h =
      elim (files name) as (λ o. option_map (take n) o ≡ Some fetched → o ≡ Some fetched) [
        | None ↦ λ x. cc
        | Some file ↦ λ x. ap Some (whole_file n file fetched (same_Some (take n file) fetched x)
            (let s = sound_short fetched h in omega arith))
      ] e

  -- the file of the name, where what was fetched has a fault
  faulty_file : (told : Told) (n : ℕ) (name fetched : List ℕ) (fault : F) → largest < n
      → IfSome told (λ files. option_map (take n) (files name) ≡ Some fetched) → fault_of fetched ≡ Some fault
      → IsFaulty fault_of told name fault
  faulty_file None n name fetched fault l e h = record { file = fetched; is_file = tt; faulty = h }
  faulty_file (Some files) n name fetched fault l e h =
      elim (files name) as (λ o. files name ≡ o → option_map (take n) o ≡ Some fetched → IsFaulty fault_of (Some files) name fault) [
        | None ↦ λ is x. cc
        | Some file ↦ λ is x. record {
          file = file;
          is_file = is;
          faulty = faulty_whole n file fetched fault l (same_Some (take n file) fetched x) h;
        }
      ] refl e

-- ---- program files, sources, and reports

is_long : (source : List ℕ) → 67108864 < length source → nat_lt 67108864 (length source) ≡ true
is_long source h = grind (arith, nat_tests)

-- a source of more than 64 MiB is refused for its length
long_source : (source : List ℕ) → 67108864 < length source → asm_fault source ≡ Some asm.TooLong
unfolding asm_fault
long_source source h = rw (is_long source h) refl

is_long_report : (file : List ℕ) → 1073741824 < length file → nat_lt 1073741824 (length file) ≡ true
is_long_report file h = grind (arith, nat_tests)

-- and so is a report of more than 1 GiB
long_report : (file : List ℕ) → 1073741824 < length file → fault_in (report_in file) ≡ Some (record { line = 0; kind = part.TooLong })
unfolding report_in
long_report file h = rw (is_long_report file h) refl

-- a plan of more than 64 MiB too
long_plan : (file : List ℕ) → 67108864 < length file → fault_in (plan_in file) ≡ Some (record { line = 0; kind = text_kind.TooLong })
unfolding plan_in
long_plan file h = rw (is_long file h) refl

-- and a script
long_script : (file : List ℕ) → 67108864 < length file
    → fault_in (script_in file) ≡ Some (record { line = 0; kind = text_kind.TooLong })
unfolding script_in
long_script file h = rw (is_long file h) refl

-- the most bytes of a file that is accepted: a longer one is rejected for its length
pub record IsBounded (judge : Judge) (largest : ℕ) : Type 0 where
  pub too_long : Rejection
  pub long : (file : List ℕ) → largest < length file → judge file ≡ Some too_long

pub program_bounded : IsBounded program_judge 67108864
program_bounded =
    record { too_long = rejection.Program load.TooLong; long = λ file h. ap (option_map rejection.Program) (long_refused file h) }

pub source_bounded : IsBounded source_judge 67108864
source_bounded =
    record { too_long = rejection.Source asm.TooLong; long = λ file h. ap (option_map rejection.Source) (long_source file h) }

pub report_bounded : IsBounded report_judge 1073741824
report_bounded = record {
  too_long = rejection.Report 0 part.TooLong;
  long = λ file h. ap (option_map (λ (fault : Fault). rejection.Report fault.line fault.kind)) (long_report file h);
}

pub plan_bounded : IsBounded plan_judge 67108864
plan_bounded = record {
  too_long = rejection.Plan 0 text_kind.TooLong;
  long = λ file h. ap (option_map (λ (fault : plan.Fault). rejection.Plan fault.line fault.kind)) (long_plan file h);
}

pub script_bounded : IsBounded script_judge 67108864
script_bounded = record {
  too_long = rejection.Plan 0 text_kind.TooLong;
  long = λ file h. ap (option_map (λ (fault : plan.Fault). rejection.Plan fault.line fault.kind)) (long_script file h);
}

long_checkpoint : (said : Report) (file : List ℕ) → 67108864 < length file → checkpoint_fault said file ≡ Some ckpt.TooLong
unfolding checkpoint_fault
long_checkpoint said file h = rw (is_long file h) refl

pub checkpoint_bounded : (said : Report) → IsBounded (checkpoint_judge (Ok said)) 67108864
checkpoint_bounded said = record {
  too_long = rejection.Checkpoint (field_told ckpt.TooLong);
  long = λ file h. ap (option_map (λ (fault : ckpt.Fault). rejection.Checkpoint (field_told fault))) (long_checkpoint said file h);
}

long_vectors : (vl svl : VecLen) (file : List ℕ) → 67108864 < length file → fault_in (vectors_in vl svl file) ≡ Some grammar.TooLong
unfolding vectors_in
long_vectors vl svl file h = rw (is_long file h) refl

pub vectors_bounded : (vl svl : VecLen) → IsBounded (vectors_judge vl svl) 67108864
vectors_bounded vl svl = record {
  too_long = rejection.Vectors (fault_told grammar.TooLong);
  long = λ file h. ap (option_map (λ (fault : grammar.Fault). rejection.Vectors (fault_told fault))) (long_vectors vl svl file h);
}

-- what is read has no fault
pub no_fault_in : {A F : Type 0} (f : F → Rejection) (read : Result A F) (value : A) → read ≡ Ok value
    → option_map f (fault_in read) ≡ None
no_fault_in f read value e = ap (λ r. option_map f (fault_in r)) e

-- what was fetched is the file, where it is accepted
pub opened_file : (judge : Judge) (largest : ℕ) → IsBounded judge largest → (told : Told) (n : ℕ) (name fetched : List ℕ) → largest < n
    → IsFront told n name fetched → judge fetched ≡ None → IsOpened told name judge fetched
opened_file judge largest b told n name fetched l front accepted = record {
  is_file = sound_file judge b.too_long largest b.long told n name fetched l front accepted;
  accepted = accepted;
}

-- why a file is not opened, where what was fetched of it is not accepted
pub unopened_file : (judge : Judge) (largest : ℕ) → IsBounded judge largest → (files : Change FilesView) (n : ℕ)
    (name fetched : List ℕ) (r : Refusal) → largest < n → IsFront files.before.told n name fetched → IsRejected judge fetched r
    → IsUnopened files name judge r
unopened_file judge largest b files n name fetched (refusal.Rejected rejection) l front h =
    let whole = faulty_file judge b.too_long largest b.long files.before.told n name fetched rejection l front h in
    record { file = whole.file; is_file = whole.is_file; rejects = whole.faulty }
unopened_file judge largest b files n name fetched refusal.Memory l front h = tt
unopened_file judge largest b files n name fetched r l front h = absurd h
