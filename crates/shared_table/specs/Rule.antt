-- What holds of a table and of all its seats between any two steps, and what a step tells its seat.
use Rattle.std.specs.Prelude.{◌≡◌, ℕ, ◌<◌, List, [], All, length}
use mathlib.Core.Option.{some}
use lib.ListN.{get_elem?}
use Rattle.atomic_table.specs.Table.{State, Me}
use Rattle.sm_types.specs.declared.shared_op.OpKind.TheVariants.{Load}
use Rattle.sm_types.specs.declared.shared_op.SharedOp.{SharedOp}
use Rattle.sm_types.specs.declared.shared_op.Event.{Event}
use Rattle.sm_types.specs.declared.shared_words.Entry.{Entry}
use Rattle.shared_region.specs.WordRule.{answer_of}
use Rattle.shared_region.specs.History.{event_of, part_of, ends_in, IsLegal}
use Rattle.shared_table.specs.declared.view.Told.{Told}
use Rattle.shared_table.specs.declared.view.Told.TheVariants.{Never, Out, Back}
use Rattle.shared_table.specs.declared.view.SeatView.{SeatView}
use Rattle.shared_table.specs.declared.view.SeatView.TheVariants.{Maker, Thread, Spent}
use Rattle.shared_table.specs.Cells.{cells_of}
use Rattle.shared_table.specs.Views.{told, with_event}

-- what the maker's book tells of a number agrees with the events of that thread in the history: none where
-- the number was never given, and those of the list where its seat came back
abbrev pub Agrees : Told → List Event → Type 0
Agrees Never events = events ≡ []
Agrees Out events = Unit {0}
Agrees (Back known) events = events ≡ known

-- What seat number id knows fits the history, the maker's book, and `owner`, which says of each thread that
-- has a seat which one it is, so that no two seats have one number. The maker's seat is the first and has
-- that book; the list of a thread's seat is the thread's part of the history. Nothing is asked of a spent
-- seat.
abbrev pub Fits : List Entry → List Told → (ℕ → ℕ) → ℕ → SeatView → Type 0
Fits history book owner id (Maker known) = (id ≡ 0) × (known ≡ book)
Fits history book owner id (Thread thread events) =
    (owner thread ≡ id) × (told book thread ≡ Out) × (part_of thread history ≡ events)
Fits history book owner id Spent = Unit {0}

-- There is a legal history that ends in the table's words, with entries of threads 0 to 31 alone. A thread's
-- part of it is the list of the one seat that has its number; where that seat was joined, the list that the
-- maker's book keeps; and where the number was never given, it is empty.
pub record IsKept (words : List ℕ) (views : List SeatView) : Type 0 where
  pub history : List Entry
  pub book : List Told
  pub owner : ℕ → ℕ
  pub legal : IsLegal history
  pub ends : cells_of (ends_in history) ≡ words
  pub small : All (λ e. e.thread < 32) history
  pub long : length book ≡ 32
  pub agrees : (thread : ℕ) → Agrees (told book thread) (part_of thread history)
  pub fits : (id : ℕ) (v : SeatView) → get_elem? views id ≡ some v → Fits history book owner id v

abbrev pub Holds : State ℕ SeatView → Type 0
Holds state = IsKept state.words state.views

-- the step found that number in its word, and the seat's list got the operation, with the answer for that
-- number, at its end
abbrev pub Logged : SharedOp → Me ℕ SeatView → ℕ → Me ℕ SeatView → Type 0
Logged op me found after = after ≡ (with_event me.0 (event_of op (answer_of op.kind found)), me.1)

-- an operation, where some operation must be named
abbrev pub no_op : SharedOp
no_op = record { kind = Load; place = 0; a = 0; b = 0 }
