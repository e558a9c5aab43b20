use Rattle.std.proofs.Common.{ap, ◌∙◌, map, arith}
use Rattle.paged_memory.specs.Image.{extent_of}
use Rattle.elf_loader.proofs.Extents.{parts_more, parts_all}
use Rattle.elf_loader.proofs.parts.parts_of.Goals as goal

pub loop-load-init : goal.loop-load-init
loop-load-init c = ap (map extent_of) c.in_ok-parts.ensures.items

pub loop-load-preserved : goal.loop-load-preserved
loop-load-preserved c =
    ap (map extent_of) c.in_ok-push.ensures.items
    ∙ parts_more c.args.file.now c.loop-load.parts.items c.part_of.result c.args.loads.now c.loop-load.load-index _ c.loop-load-test.true
    c.loop-load.invariant c.part_of.ensures

pub returns-clause-ok : goal.returns-clause-ok
returns-clause-ok c =
    parts_all c.args.file.now c.loop-load.parts.items c.args.loads.now c.loop-load.load-index (omega arith) c.loop-load.invariant
