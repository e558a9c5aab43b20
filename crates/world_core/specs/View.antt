-- What the code's world stands for.
use Rattle.world_core.specs.Parts.{world_from}
use Rattle.world_core.specs.World.{World}
use Rattle.world_core.specs.declared.world.World.{World as Parts}

abbrev pub world_of : Parts → World
world_of w = world_from w.config w.queue.items w.cores.items w.done.items w.port.history
