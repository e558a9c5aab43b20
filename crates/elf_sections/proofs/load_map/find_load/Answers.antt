use Rattle.std.proofs.Common.{◌≡◌, true, false, leb, arith, rules}
use Rattle.std.specs.List.Sorted.{IsPartitionPoint}
use Rattle.std.proofs.lemmas.List.Sorted.{IsPartitionedBy-leb, IsPartitionPoint-from_clause}
use Rattle.elf_headers.specs.declared.program_header.ProgramHeader.{ProgramHeader}
use Rattle.elf_sections.proofs.LoadMaps.{found_before, not_before, none_before}
use Rattle.elf_sections.proofs.load_map.find_load.Goals as goal
use Rattle.elf_sections.proofs.load_map.find_load.Goals.{After-partition_point-past, else-past-gt0-via-then-past-gt0+else-a-loads}
use Rattle.elf_sections.proofs.load_map.find_load.Goals.{else-past-gt0-via-else-past-gt0}

-- the place of the search
point : (c : After-partition_point-past)
    → IsPartitionPoint (λ (s : ProgramHeader). leb s.address c.args.a ≡ true) (λ (s : ProgramHeader). leb s.address c.args.a ≡ false)
    c.args.loads.now c.partition_point-past.result
point c =
    IsPartitionPoint-from_clause (λ (s : ProgramHeader). leb s.address c.args.a) c.args.loads.now c.partition_point-past.result
    c.partition_point-past.ensures.partitioned
    (IsPartitionedBy-leb (λ (s : ProgramHeader). s.address) c.args.loads.now c.args.a c.requires.order) (λ a r q k. search rules)

pub returns-then-a-loads-clause-found : goal.returns-then-a-loads-clause-found
returns-then-a-loads-clause-found c =
    found_before c.args.loads.now c.partition_point-past.result c.args.a
    (point (goal.at.returns-then-a-loads-clause-found c).After-partition_point-past) (omega arith) (omega arith) c.if-a-loads.true

pub returns-else-past-gt0-clause-none : goal.returns-else-past-gt0-clause-none
returns-else-past-gt0-clause-none c =
    let p = point (goal.at.returns-else-past-gt0-clause-none c).After-partition_point-past in
    elim c.else-past-gt0.branch [
      | else-past-gt0-via-then-past-gt0+else-a-loads w ↦
          not_before c.args.loads.now c.partition_point-past.result c.args.a c.requires p (omega arith) (omega arith) (omega arith)
      | else-past-gt0-via-else-past-gt0 w ↦ none_before c.args.loads.now c.partition_point-past.result c.args.a p (omega arith)
    ]
