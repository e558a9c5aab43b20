-- What clauses say of a table and of a seat.
use Rattle.std.specs.Prelude.{◌≡◌, ◌≢◌, ℕ, List, ◌∷◌, map, slice_index_or}
use Rattle.atomic_table.specs.Seated.{TableId}
use Rattle.sm_types.specs.declared.shared_op.Event.{Event}
use Rattle.shared_region.specs.Tickets.{TicketView}
use Rattle.shared_table.specs.declared.seat.Seat.{Seat}
use Rattle.shared_table.specs.declared.table.SharedTable.{SharedTable}
use Rattle.shared_table.specs.declared.view.SeatView.{SeatView}
use Rattle.shared_table.specs.declared.view.SeatView.TheVariants.{Maker}
use Rattle.shared_table.specs.declared.view.Told.{Told}
use Rattle.shared_table.specs.declared.view.Told.TheVariants.{Out}
use Rattle.shared_table.specs.Views.{thread_in, events_in, book_in, told, list_of}

-- what the seat knows
abbrev pub view_of : Seat → SeatView
view_of seat = seat.inner.me.0

-- which table it is, as plain data
abbrev pub name_of : TableId → List ℕ
name_of id = id.words ∷ id.slots ∷ id.views_name ∷ id.atom ∷ id.block ∷ id.offset ∷ id.slot_names

-- the name of a table, which is that of its ports
abbrev pub table_name : SharedTable → List ℕ
table_name table = name_of table.table.shared.table_id

-- the name of the table that a seat is of
abbrev pub seat_name : Seat → List ℕ
seat_name seat = name_of seat.inner.table_id

-- what the seat tells as a ticket: its thread's number, where it is a thread's, the events that it was given,
-- and the name of its table
abbrev pub ticket_of : Seat → TicketView
ticket_of seat = record {
  number = thread_in (view_of seat);
  events = events_in (view_of seat);
  name = seat_name seat;
}

-- it is the maker's seat
abbrev pub IsMaker : Seat → Type 0
IsMaker seat = view_of seat ≡ Maker (book_in (view_of seat))

-- what the maker's seat tells of a number, and `Out` of one above 31
abbrev pub kept_of : Seat → ℕ → Told
kept_of seat thread = slice_index_or (book_in (view_of seat)) thread Out

-- the lists that it keeps, by the threads' numbers
abbrev pub kept_lists : Seat → List (List Event)
kept_lists seat = map list_of (book_in (view_of seat))

-- each seat that was split from it was joined to it again
abbrev pub AreAllBack : Seat → Type 0
AreAllBack seat = (thread : ℕ) → told (book_in (view_of seat)) thread ≢ Out
