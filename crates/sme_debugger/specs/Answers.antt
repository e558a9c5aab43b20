-- What the commands of a debugger do: where each leads, and what it prints.
use Rattle.std.specs.Prelude.{◌≡◌, ◌≢◌, ℕ, ◌+◌, ◌-◌, ◌<◌, ◌≤◌, ◌⊎◌, ◌∷◌, [], List, min, nat_lt, codes, decimal}
use Rattle.std.specs.Prelude.{if◌then◌else◌}
use Rattle.std.specs.Prelude.{Result}
use Rattle.std.specs.List.{concat}
use Rattle.edge_io.specs.Sink.{SinkView, Writes}
use Rattle.edge_io.specs.declared.sink.PutFault.{PutFault}
use Rattle.kernel_contexts.specs.State.{State}
use Rattle.sme_debugger.specs.Recording.{Recording, Shows}
use Rattle.sme_debugger.specs.Texts.{registers_text, za_text, slice_named, slice_text, memory_text, place_text}
use Rattle.script_reader.specs.declared.command.DebugCommand.{DebugCommand}
use Rattle.script_reader.specs.declared.command.DebugCommand.TheVariants.{Step, Back, Goto, Break, Registers}
use Rattle.script_reader.specs.declared.command.DebugCommand.TheVariants.{Za, Slice, Memory, Where}

-- the line of a move past the end of the run
unfoldable pub end_text : ℕ → List ℕ
end_text last = concat (codes "end " ∷ decimal last ∷ codes "\n" ∷ [])

-- a move to a count; where that is past the last one, to the last one, which alone is told
pub record Goes (last aim place : ℕ) (text : List ℕ) : Type 0 where
  pub leads : place ≡ min aim last
  pub prints : text ≡ (if nat_lt last aim then end_text last else [])

-- no state that is shown at a count between the two has this PC
abbrev pub NoneBetween : Recording → ℕ → ℕ → ℕ → Type 0
NoneBetween r above below address =
    (count : ℕ) (s : State)
    → above < count → count < below → Shows r count s → s.core.scalars.pc ≢ address

-- the next count at which the state that is shown has this PC
pub record IsNext (r : Recording) (from address place : ℕ) : Type 0 where
  pub above : from < place
  pub within : place ≤ r.last
  pub state : State
  pub shown : Shows r place state
  pub there : state.core.scalars.pc ≡ address
  pub first : NoneBetween r from place address

-- there is none up to the last count
abbrev pub HasNone : Recording → ℕ → ℕ → Type 0
HasNone r from address = NoneBetween r from (r.last + 1) address

-- a move to the next count with this PC, where there is one; else to the last count, which alone is told
abbrev pub Breaks : Recording → ℕ → ℕ → ℕ → List ℕ → Type 0
Breaks r from address place text =
    (IsNext r from address place × (text ≡ []))
    ⊎ (HasNone r from address × (place ≡ r.last) × (text ≡ end_text r.last))

-- a command that shows the state at the place, and does not move
pub record Prints (r : Recording) (from : ℕ) (text_of : State → List ℕ) (place : ℕ) (text : List ℕ)
    : Type 0 where
  pub stays : place ≡ from
  pub state : State
  pub shown : Shows r from state
  pub prints : text ≡ text_of state

-- the text of a command that shows a state
abbrev pub shown_text : DebugCommand → State → List ℕ
shown_text Registers s = registers_text s
shown_text Za s = za_text s
shown_text (Slice elem tile direction number) s =
    slice_text (slice_named elem tile direction number) s.core.bank.za s.core.za_on
shown_text (Memory address size) s = memory_text address size s.core.memory
shown_text Where s = place_text s
shown_text move s = []

-- from a place of a recorded run a command leads to a place and prints a text
abbrev pub Answers : Recording → ℕ → DebugCommand → ℕ → List ℕ → Type 0
Answers r from (Step n) place text = Goes r.last (from + n) place text
Answers r from (Back n) place text = (place ≡ from - n) × (text ≡ [])
Answers r from (Goto n) place text = Goes r.last n place text
Answers r from (Break address) place text = Breaks r from address place text
Answers r from command place text = Prints r from (shown_text command) place text

-- a place to which a command leads, and a text of it that was written to a sink with this result
pub record IsWritten (answers : ℕ → List ℕ → Type 0) (place : ℕ) (before after : SinkView)
    (result : Result Unit PutFault)
    : Type 0 where
  pub text : List ℕ
  pub answer : answers place text
  pub written : Writes before after result text

-- the same, wherever it leads
pub record IsPartWritten (answers : ℕ → List ℕ → Type 0) (before after : SinkView)
    (result : Result Unit PutFault)
    : Type 0 where
  pub place : ℕ
  pub is : IsWritten answers place before after result
