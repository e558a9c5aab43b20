-- A context with its ticket, as a queue has it.
use Rattle.std.specs.Prelude.{ℕ, List, Option}
use Rattle.sm_types.specs.declared.config.Config.{Config}
use Rattle.sm_types.specs.declared.stop.Stop.{Stop}
use Rattle.shared_region.specs.Tickets.{TicketView}
use Rattle.paged_memory.specs.Image.{Program}
use Rattle.kernel_contexts.specs.declared.context.Context.{Context}
use Rattle.kernel_contexts.specs.Context.{image_of, config_of, thread_of, stop_of}
use Rattle.run_queue.specs.declared.origin.Origin.{Origin}

abbrev pub origin_from : Program → Config → List ℕ → Origin
origin_from image config name = record { image = image; config = config; name = name }

-- from what a context started, and the name of the port to which its ticket belongs
abbrev pub origin_in : Context → TicketView → Origin
origin_in c ticket = origin_from (image_of c) (config_of c) ticket.name

-- its thread's number, from what it started, and why it stopped, if it has
pub record Ticketed : Type 0 where
  pub thread : ℕ
  pub origin : Origin
  pub stop : Option Stop

abbrev pub ticketed : Context → TicketView → Ticketed
ticketed c ticket = record { thread = thread_of c; origin = origin_in c ticket; stop = stop_of c }
