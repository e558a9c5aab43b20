use Rattle.std.proofs.Common.{arith, get_or, ◌+◌}
use Rattle.elf_headers.specs.declared.program_header.ProgramHeader.{ProgramHeader}
use Rattle.elf_sections.specs.LoadMap.{IsEnd}
use Rattle.elf_sections.proofs.LoadMaps.{end_own, end_next, at_read, no_load}
use Rattle.elf_sections.proofs.load_map.end_from.Goals as goal
use Rattle.elf_sections.proofs.load_map.end_from.Goals.{else-i-loads-via-then-i-loads+else-loads-i, else-i-loads-via-else-i-loads}

pub returns-then-loads-i : goal.returns-then-loads-i
returns-then-loads-i c =
    λ d. at_read (λ (s : ProgramHeader). IsEnd c.args.loads.now s (get_or c.args.ends.now (c.args.i + 1) 0)) c.args.loads.now c.args.i
    no_load d (omega arith)
    (end_next c.args.loads.now c.args.i (get_or c.args.ends.now (c.args.i + 1) 0) no_load c.requires.order (omega arith) (omega arith)
    (c.requires.next no_load c.if-i-loads.true))

pub returns-else-i-loads : goal.returns-else-i-loads
returns-else-i-loads c = λ d.
    at_read (λ (s : ProgramHeader). IsEnd c.args.loads.now s
    ((get_or c.args.loads.now c.args.i no_load).address + (get_or c.args.loads.now c.args.i no_load).memory_size)) c.args.loads.now
    c.args.i no_load d (omega arith)
    (end_own c.args.loads.now c.args.i no_load c.requires.order (omega arith)
    (λ l. elim c.else-i-loads.branch [
      | else-i-loads-via-then-i-loads+else-loads-i w ↦ omega arith
      | else-i-loads-via-else-i-loads w ↦
          absurd (omega arith)
    ]))
