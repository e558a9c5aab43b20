-- Where commands lead, and what they print.
use Rattle.std.proofs.Common.{◌≡◌, ◌≢◌, true, false, ℕ, ◌<◌, ◌≤◌, List, [], refl, ap, sym, arith, Ok, Err}
use Rattle.std.specs.Prelude.{nat_lt, if◌then◌else◌, Result, OnErr}
use Rattle.std.proofs.lemmas.Bool.Decides.{nat_tests}
use Rattle.edge_io.specs.Sink.{SinkView, Writes}
use Rattle.edge_io.specs.declared.sink.PutFault.{PutFault}
use Rattle.edge_io.specs.declared.sink.PutFault.TheVariants.{Failed}
use Rattle.edge_io.proofs.Writing.{writes_none}
use Rattle.script_reader.specs.declared.command.DebugCommand.{DebugCommand}
use Rattle.script_reader.specs.declared.command.DebugCommand.TheVariants.{Step, Back, Goto, Break, Registers}
use Rattle.script_reader.specs.declared.command.DebugCommand.TheVariants.{Za, Slice, Memory, Where}
use Rattle.sme_debugger.specs.Recording.{Recording}
use Rattle.sme_debugger.specs.Answers.{Goes, Prints, Answers, shown_text, end_text, IsWritten}

pub goes_there : (last aim : ℕ) → aim ≤ last → Goes last aim aim []
goes_there last aim within =
    let under : nat_lt last aim ≡ false = grind (arith, nat_tests) in
    record { leads = omega arith; prints = ap (λ b. if b then end_text last else []) (sym under) }

pub goes_past : (last aim : ℕ) → last < aim → Goes last aim last (end_text last)
goes_past last aim past =
    let over : nat_lt last aim ≡ true = grind (arith, nat_tests) in
    record { leads = omega arith; prints = ap (λ b. if b then end_text last else []) (sym over) }

-- a command that prints nothing
pub silent : (answers : ℕ → List ℕ → Type 0) (place : ℕ) (sink : SinkView) → answers place []
    → IsWritten answers place sink sink (Ok tt)
silent answers place sink answer = record { text = []; answer = answer; written = writes_none sink }

-- a sink fails in one way
pub only_failed : (before after : SinkView) (fault : PutFault) (text : List ℕ) → Writes before after (Err fault) text
    → Writes before after (Err Failed) text
only_failed before after Failed text w = w

-- a command that is no move prints what it shows
pub prints_what_it_shows : (r : Recording) (from : ℕ) (command : DebugCommand) → ((n : ℕ) → command ≢ Step n) → ((n : ℕ) → command ≢ Back n)
    → ((n : ℕ) → command ≢ Goto n) → ((n : ℕ) → command ≢ Break n) → Prints r from (shown_text command) ≡ Answers r from command
prints_what_it_shows r from (Step n) step back goto break = absurd (step n refl)
prints_what_it_shows r from (Back n) step back goto break = absurd (back n refl)
prints_what_it_shows r from (Goto n) step back goto break = absurd (goto n refl)
prints_what_it_shows r from (Break n) step back goto break = absurd (break n refl)
prints_what_it_shows r from Registers step back goto break = refl
prints_what_it_shows r from Za step back goto break = refl
prints_what_it_shows r from (Slice elem tile direction number) step back goto break = refl
prints_what_it_shows r from (Memory address size) step back goto break = refl
prints_what_it_shows r from Where step back goto break = refl

-- what holds, holds after a fault
pub on_err : {P : Type 0} (r : Result Unit PutFault) → P → OnErr r P
on_err (Ok x) p = tt
on_err (Err fault) p = p
