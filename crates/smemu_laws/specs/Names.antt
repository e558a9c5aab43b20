-- The names among the operands of a request.
use Rattle.std.specs.Prelude.{ℕ, List, [], ◌∷◌, map}
use Rattle.cmd_words.specs.Words.{Argument, NameSaid, ThreadSaid, WorkloadSaid, CountSaid}
use Rattle.smemu.specs.Requests.{Named}

-- the names that operands say, in their order
abbrev pub names_said : List Argument → List (List ℕ)
names_said [] = []
names_said (NameSaid name ∷ operands) = name ∷ names_said operands
names_said (ThreadSaid thread ∷ operands) = names_said operands
names_said (WorkloadSaid number ∷ operands) = names_said operands
names_said (CountSaid count ∷ operands) = names_said operands

-- the names of files
abbrev pub names_of : List Named → List (List ℕ)
names_of files = map (λ (named : Named). named.name) files
