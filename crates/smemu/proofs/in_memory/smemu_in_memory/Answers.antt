use Rattle.edge_io.specs.MemFiles as mem_files
use Rattle.edge_io.specs.MemSink as mem_sink
use Rattle.smemu.specs.Ends.{call}
use Rattle.smemu.proofs.InMemory.{lacks_memory_alone}
use Rattle.smemu.proofs.in_memory.smemu_in_memory.Goals as goal

pub returns-clause-lacks : goal.returns-clause-lacks
returns-clause-lacks g c =
    lacks_memory_alone (call mem_files.view_of mem_sink.view_of c.args.words.now c.args.files.now c.smemu_main.new.files c.args.out.now
    c.smemu_main.new.out) c.smemu_main.result c.smemu_main.ensures.refused c.smemu_main.ensures.complete
