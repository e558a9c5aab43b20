-- Which requests take threads of the system: those that are carried out on several cores at once, and those
-- of vectors, which have workers.
use Rattle.std.specs.Prelude.{◌≡◌, ◌==◌, ℕ, Bool, true, false, not}
use Rattle.cmd_words.specs.Command.{request_of, IsInRange}
use Rattle.cmd_words.specs.Words.{Request}
use Rattle.cmd_words.specs.declared.command.Command.{Command}
use Rattle.cmd_words.specs.declared.verb.Verb.{Verb}
use Rattle.cmd_words.specs.declared.verb.Verb.TheVariants.{Run, Bench, Vectors}

-- a command on so many cores takes threads
abbrev pub verb_takes : Verb → ℕ → Bool
verb_takes Run cores = not (cores == 1)
verb_takes Bench cores = not (cores == 1)
verb_takes Vectors cores = true
verb_takes verb cores = false

-- a request takes threads
abbrev pub takes_threads : Request → Bool
takes_threads request = verb_takes request.verb request.options.cores

-- a command takes threads, and has numbers that words may give
pub record IsThreaded (asked : Command) : Type 0 where
  pub in_range : IsInRange asked
  pub takes : takes_threads (request_of asked) ≡ true
