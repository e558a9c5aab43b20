use Rattle.std.specs.Prelude.{Some}
use Rattle.run_queue.specs.Ticketed.{origin_from}
use Rattle.run_queue.proofs.queue.ContextQueue.new.Given as goal

abbrev pub ghosts-open : goal.ghosts-open
ghosts-open g a = record { origin = Some (origin_from a.image.now a.config.now (g.P.Port.name a.port.now)) }
