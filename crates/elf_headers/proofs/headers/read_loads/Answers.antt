use Rattle.std.proofs.Common.{◌≡◌, ◌∙◌, sym, ap, arith, List, [], ◌∷◌, ◌++◌}
use Rattle.elf_headers.specs.declared.program_header.ProgramHeader.{ProgramHeader}
use Rattle.elf_headers.specs.Header.{program_header_count}
use Rattle.elf_headers.specs.Loads.{load_of, loads_of}
use Rattle.elf_headers.proofs.Below.{answers_below-zero, answers_below-none, answers_below-some}
use Rattle.elf_headers.proofs.headers.read_loads.Goals as goal
use Rattle.elf_headers.proofs.headers.read_loads.Goals.{in-Some+in_ok-push-in-Some, in-None}

pub loop-i-init : goal.loop-i-init
loop-i-init c = c.new-loads.ensures.items ∙ sym (answers_below-zero _)

pub loop-i-preserved : goal.loop-i-preserved
loop-i-preserved c = elim c.match-read_load.branch [
  | in-Some+in_ok-push-in-Some w ↦
      ap (λ v. v.items) w.loads-is ∙ w.in_ok-push-in-Some.ensures.items
      ∙ ap (λ (l : List ProgramHeader). l ++ w.in-Some.load ∷ []) c.loop-i.invariant
      ∙ sym (answers_below-some (load_of c.args.file.now) c.loop-i.i w.in-Some.load (sym c.read_load.ensures ∙ w.in-Some.is))
  | in-None w ↦ ap (λ v. v.items) w.loads-is ∙ c.loop-i.invariant
      ∙ sym (answers_below-none (load_of c.args.file.now) c.loop-i.i (sym c.read_load.ensures ∙ w.in-None.is))
]

pub returns : goal.returns
unfolding loads_of
returns c = let all : c.loop-i.i ≡ program_header_count c.args.file.now = omega arith in rw (← all) c.loop-i.invariant
