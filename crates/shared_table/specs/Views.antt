-- What the seats of a table know.
use Rattle.std.specs.Prelude.{ℕ, List, [], ◌∷◌, ◌++◌, Option, Some, None}
use Rattle.std.specs.Prelude.{slice_index_or, slice_set, replicate}
use Rattle.sm_types.specs.declared.shared_op.Event.{Event}
use Rattle.shared_table.specs.declared.view.Told.{Told}
use Rattle.shared_table.specs.declared.view.Told.TheVariants.{Never, Out, Back}
use Rattle.shared_table.specs.declared.view.SeatView.{SeatView}
use Rattle.shared_table.specs.declared.view.SeatView.TheVariants.{Maker, Thread, Spent}

-- no number was given
unfoldable pub new_book : List Told
new_book = replicate 32 Never

-- what a maker's seat tells of a number: it was never given, where the seat has nothing of it
abbrev pub told : List Told → ℕ → Told
told book thread = slice_index_or book thread Never

-- the list that it keeps of a number
abbrev pub list_of : Told → List Event
list_of Never = []
list_of Out = []
list_of (Back events) = events

-- the number of a seat's thread, where it is a thread's
abbrev pub thread_in : SeatView → Option ℕ
thread_in (Maker book) = None
thread_in (Thread thread events) = Some thread
thread_in Spent = None

-- the events that it was given
abbrev pub events_in : SeatView → List Event
events_in (Maker book) = []
events_in (Thread thread events) = events
events_in Spent = []

-- the book of the maker's seat
abbrev pub book_in : SeatView → List Told
book_in (Maker book) = book
book_in (Thread thread events) = []
book_in Spent = []

-- a thread's seat after one more event, which its list has at the end
abbrev pub with_event : SeatView → Event → SeatView
with_event (Maker book) event = Maker book
with_event (Thread thread events) event = Thread thread (events ++ event ∷ [])
with_event Spent event = Spent

-- the maker's seat after the seat of a thread was split from it
abbrev pub with_split : ℕ → SeatView → SeatView
with_split thread maker = Maker (slice_set (book_in maker) thread Out)

-- a maker's book after this seat came back: a thread's list stands at its number
abbrev pub book_with : List Told → SeatView → List Told
book_with book (Maker other) = other
book_with book (Thread thread events) = slice_set book thread (Back events)
book_with book Spent = book

-- the maker's seat after another was joined to it
abbrev pub with_joined : SeatView → SeatView → SeatView
with_joined maker other = Maker (book_with (book_in maker) other)
