-- The first word of a command that is at fault.
use Rattle.std.proofs.Common.{◌≡◌, ℕ, ◌^◌, ◌≤◌, Bool, true, false, cond, List, [], ◌∷◌, Some, None, Result, Ok, Err, refl, sym, ◌∙◌, arith}
use Rattle.std.specs.Prelude.{codes, ◌||◌, is_some, option_map}
use Rattle.std.specs.Str.{bytes_eq}
use Rattle.line_reader.specs.Phrases.{Phrase, and_then, field, number_of, number, ended}
use Rattle.line_reader.specs.Places.{Slot, word_fault, IsFirst}
use Rattle.line_reader.specs.declared.text_fault.TextKind.{TextKind}
use Rattle.line_reader.specs.declared.text_fault.TextKind.TheVariants.{Unknown, BadNumber}
use Rattle.line_reader.proofs.Readings.{fitting}
use Rattle.line_reader.proofs.Slots.{first_of, field_first, ended_first, grouped, number_is, word_first}
use Rattle.sm_types.specs.declared.vector.Elem.{Elem}
use Rattle.sm_types.specs.declared.vector.Elem.TheVariants as elem
use Rattle.script_reader.specs.Words.{verb_of, size_of, direction_of, address_of, slice_said, memory_said, command_of, command_in}
use Rattle.script_reader.specs.Faults.{any_number, byte_count, is_size, is_direction, operands_after}
use Rattle.script_reader.specs.Faults as slot
use Rattle.script_reader.specs.declared.command.DebugCommand.{DebugCommand}
use Rattle.script_reader.specs.declared.command.DebugCommand.TheVariants as command
use Rattle.script_reader.specs.declared.command.Direction.TheVariants as direction
use Rattle.script_reader.specs.declared.words.Verb.{Verb}
use Rattle.script_reader.specs.declared.words.Verb.TheVariants as verb
use Rattle.script_reader.proofs.Addresses.{address_fits}

-- ---- which words are read

size_by : (b h s d q : Bool) → is_some (cond b (Some elem.B) (cond h (Some elem.H) (cond s (Some elem.S)
    (cond d (Some elem.D) (cond q (Some elem.Q) None))))) ≡ (b || h || s || d || q)
size_by true h s d q = refl
size_by false true s d q = refl
size_by false false true d q = refl
size_by false false false true q = refl
size_by false false false false true = refl
size_by false false false false false = refl

size_fits : (word : List ℕ) → is_some (size_of word) ≡ is_size word
unfolding size_of is_size
size_fits word =
    size_by (bytes_eq word (codes "b")) (bytes_eq word (codes "h")) (bytes_eq word (codes "s")) (bytes_eq word (codes "d"))
    (bytes_eq word (codes "q"))

direction_by : (h v : Bool) → is_some (cond h (Some direction.Horizontal) (cond v (Some direction.Vertical) None)) ≡ (h || v)
direction_by true v = refl
direction_by false true = refl
direction_by false false = refl

direction_fits : (word : List ℕ) → is_some (direction_of word) ≡ is_direction word
unfolding direction_of is_direction
direction_fits word = direction_by (bytes_eq word (codes "h")) (bytes_eq word (codes "v"))

byte_counts : 4097 ≤ 2 ^ 64
byte_counts = omega arith

-- ---- the operands of a command

-- what is to stand after its word, as the code has it
abbrev operands : Verb → List Slot
operands verb.Step = any_number ∷ []
operands verb.Back = any_number ∷ []
operands verb.Goto = any_number ∷ []
operands verb.Break = slot.address ∷ []
operands verb.Slice = slot.size ∷ any_number ∷ slot.direction ∷ any_number ∷ []
operands verb.Memory = slot.address ∷ byte_count ∷ []
operands verb.Registers = []
operands verb.Za = []
operands verb.Where = []

-- the operands of a command, once its word is read
abbrev command_for : Verb → Phrase DebugCommand
command_for v words = and_then (command_of v words) ended

-- a count is the last word
count_first : (make : ℕ → DebugCommand) (words : List (List ℕ)) (k : TextKind)
    → and_then (and_then (number 0 (2 ^ 32) words) (λ count left. Ok (make count, left))) ended ≡ Err k
    → first_of (any_number ∷ []) words ≡ Some k
count_first make words k e =
    field_first (number_of 0 (2 ^ 32)) any_number [] words (λ count left. ended (make count) left) k
    (number_is 0 (2 ^ 32) fitting) (λ count left h. ended_first (make count) left k h)
    (sym (grouped (number 0 (2 ^ 32) words) (λ count left. Ok (make count, left)) ended) ∙ e)

break_first : (words : List (List ℕ)) (k : TextKind) → command_for verb.Break words ≡ Err k → first_of (operands verb.Break) words ≡ Some k
unfolding command_of
break_first words k e =
    field_first address_of slot.address [] words (λ address left. ended (command.Break address) left) k address_fits
    (λ address left h. ended_first (command.Break address) left k h)
    (sym (grouped (field BadNumber address_of words) (λ address left. Ok (command.Break address, left)) ended) ∙ e)

bytes_first : (address : ℕ) (words : List (List ℕ)) (k : TextKind)
    → and_then (and_then (number 0 4097 words) (λ count left. Ok (command.Memory address count, left))) ended ≡ Err k
    → first_of (byte_count ∷ []) words ≡ Some k
bytes_first address words k e =
    field_first (number_of 0 4097) byte_count [] words (λ count left. ended (command.Memory address count) left) k
    (number_is 0 4097 byte_counts) (λ count left h. ended_first (command.Memory address count) left k h)
    (sym (grouped (number 0 4097 words) (λ count left. Ok (command.Memory address count, left)) ended) ∙ e)

-- an address, and the number of bytes
abbrev bytes_of : ℕ → List (List ℕ) → Result (DebugCommand × List (List ℕ)) TextKind
bytes_of address left = and_then (number 0 4097 left) (λ count left. Ok (command.Memory address count, left))

memory_first : (words : List (List ℕ)) (k : TextKind) → and_then (memory_said words) ended ≡ Err k
    → first_of (operands verb.Memory) words ≡ Some k
unfolding memory_said
memory_first words k e =
    field_first address_of slot.address (byte_count ∷ []) words (λ address left. and_then (bytes_of address left) ended) k address_fits
    (λ address left h. bytes_first address left k h)
    (sym (grouped (field BadNumber address_of words) bytes_of ended) ∙ e)

-- the rest of a slice
abbrev way_of : Elem → ℕ → List (List ℕ) → Result (DebugCommand × List (List ℕ)) TextKind
way_of size tile left =
    and_then (field Unknown direction_of left)
    (λ way left. and_then (number 0 (2 ^ 32) left) (λ slice left. Ok (command.Slice size tile way slice, left)))

abbrev tile_of : Elem → List (List ℕ) → Result (DebugCommand × List (List ℕ)) TextKind
tile_of size left = and_then (number 0 (2 ^ 32) left) (λ tile left. way_of size tile left)

way_first : (size : Elem) (tile : ℕ) (words : List (List ℕ)) (k : TextKind) → and_then (way_of size tile words) ended ≡ Err k
    → first_of (slot.direction ∷ any_number ∷ []) words ≡ Some k
way_first size tile words k e =
    field_first direction_of slot.direction (any_number ∷ []) words
    (λ way left. and_then (and_then (number 0 (2 ^ 32) left) (λ slice left. Ok (command.Slice size tile way slice, left))) ended) k
    direction_fits (λ way left h. count_first (command.Slice size tile way) left k h)
    (sym (grouped (field Unknown direction_of words)
    (λ way left. and_then (number 0 (2 ^ 32) left) (λ slice left. Ok (command.Slice size tile way slice, left))) ended) ∙ e)

tile_first : (size : Elem) (words : List (List ℕ)) (k : TextKind) → and_then (tile_of size words) ended ≡ Err k
    → first_of (any_number ∷ slot.direction ∷ any_number ∷ []) words ≡ Some k
tile_first size words k e =
    field_first (number_of 0 (2 ^ 32)) any_number (slot.direction ∷ any_number ∷ []) words
    (λ tile left. and_then (way_of size tile left) ended) k (number_is 0 (2 ^ 32) fitting)
    (λ tile left h. way_first size tile left k h)
    (sym (grouped (number 0 (2 ^ 32) words) (way_of size) ended) ∙ e)

slice_first : (words : List (List ℕ)) (k : TextKind) → and_then (slice_said words) ended ≡ Err k
    → first_of (operands verb.Slice) words ≡ Some k
unfolding slice_said
slice_first words k e =
    field_first size_of slot.size (any_number ∷ slot.direction ∷ any_number ∷ []) words
    (λ size left. and_then (tile_of size left) ended) k size_fits
    (λ size left h. tile_first size left k h)
    (sym (grouped (field Unknown size_of words) tile_of ended) ∙ e)

operands_first : (v : Verb) (words : List (List ℕ)) (k : TextKind) → command_for v words ≡ Err k → first_of (operands v) words ≡ Some k
unfolding command_of
operands_first verb.Step words k e = count_first command.Step words k e
operands_first verb.Back words k e = count_first command.Back words k e
operands_first verb.Goto words k e = count_first command.Goto words k e
operands_first verb.Break words k e = break_first words k e
operands_first verb.Slice words k e = slice_first words k e
operands_first verb.Memory words k e = memory_first words k e
operands_first verb.Registers words k e = ended_first command.Registers words k e
operands_first verb.Za words k e = ended_first command.Za words k e
operands_first verb.Where words k e = ended_first command.Where words k e

-- ---- the word of a command

-- it tells what is to stand after it
operands_by : (a b c d e f g h i : Bool)
    → cond (a || b || c) (Some (any_number ∷ [])) (cond d (Some (slot.address ∷ []))
    (cond e (Some (slot.size ∷ any_number ∷ slot.direction ∷ any_number ∷ [])) (cond f (Some (slot.address ∷ byte_count ∷ []))
    (cond (g || h || i) (Some []) None))))
    ≡ option_map operands (cond a (Some verb.Step) (cond b (Some verb.Back) (cond c (Some verb.Goto) (cond d (Some verb.Break)
    (cond e (Some verb.Slice) (cond f (Some verb.Memory) (cond g (Some verb.Registers) (cond h (Some verb.Za)
    (cond i (Some verb.Where) None)))))))))
operands_by true b c d e f g h i = refl
operands_by false true c d e f g h i = refl
operands_by false false true d e f g h i = refl
operands_by false false false true e f g h i = refl
operands_by false false false false true f g h i = refl
operands_by false false false false false true g h i = refl
operands_by false false false false false false true h i = refl
operands_by false false false false false false false true i = refl
operands_by false false false false false false false false true = refl
operands_by false false false false false false false false false = refl

operands_follow : (word : List ℕ) → operands_after word ≡ option_map operands (verb_of word)
unfolding operands_after verb_of
operands_follow word =
    operands_by (bytes_eq word (codes "step")) (bytes_eq word (codes "back")) (bytes_eq word (codes "goto"))
    (bytes_eq word (codes "break")) (bytes_eq word (codes "slice")) (bytes_eq word (codes "mem")) (bytes_eq word (codes "regs"))
    (bytes_eq word (codes "za")) (bytes_eq word (codes "where"))

pub first_fault : (words : List (List ℕ)) (k : TextKind) → command_in words ≡ Err k → IsFirst (word_fault operands_after words) k
unfolding command_in
first_fault words k e = word_first verb_of command_for operands operands_after operands_follow operands_first words k e
