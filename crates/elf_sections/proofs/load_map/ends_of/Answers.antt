use Rattle.std.proofs.Common.{◌≡◌, ◌+◌, ◌-◌, arith, length-set}
use Rattle.elf_sections.proofs.LoadMaps.{ends_more}
use Rattle.elf_sections.proofs.load_map.ends_of.Goals as goal

pub loop-left-preserved : goal.loop-left-preserved
loop-left-preserved c =
    let e : c.loop-left.left - 1 + 1 ≡ c.loop-left.left = omega arith in
    record {
      count = rw length-set c.loop-left.invariant.count;
      within = omega arith;
      ends =
          ends_more c.args.loads.now c.loop-left.ends.items (c.loop-left.left - 1) c.end_from.result (omega arith)
          c.loop-left.invariant.count
          (rw e c.loop-left.invariant.ends) c.end_from.ensures;
    }
