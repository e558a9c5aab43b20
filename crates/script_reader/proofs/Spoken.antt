-- The words of a command, and what they say.
use Rattle.std.proofs.Common.{◌≡◌, ℕ, ◌^◌, ◌<◌, ◌≤◌, List, [], ◌∷◌, Some, None, Result, Ok, refl, sym, ap, ◌∙◌, arith, subst}
use Rattle.std.specs.Prelude.{codes, decimal}
use Rattle.line_reader.specs.Phrases.{and_then, first_word, field, number, ended}
use Rattle.line_reader.specs.declared.text_fault.TextKind.{TextKind}
use Rattle.line_reader.specs.declared.text_fault.TextKind.TheVariants.{Unknown, BadNumber}
use Rattle.line_reader.proofs.Readings.{between, chosen, pair_is, first_is, first_read, field_is, field_read}
use Rattle.line_reader.proofs.Readings.{fitting, number_first, number_read, ended_is}
use Rattle.sm_types.specs.declared.vector.Elem.{Elem}
use Rattle.sm_types.specs.declared.vector.Elem.TheVariants as elem
use Rattle.script_reader.specs.Words.{verb_of, size_of, direction_of, address_of, slice_said, memory_said, command_of, command_in}
use Rattle.script_reader.specs.Script.{IsAddress, size_letter, direction_letter, AreWordsFor}
use Rattle.script_reader.specs.declared.command.DebugCommand.{DebugCommand}
use Rattle.script_reader.specs.declared.command.DebugCommand.TheVariants as command
use Rattle.script_reader.specs.declared.command.Direction.{Direction}
use Rattle.script_reader.specs.declared.command.Direction.TheVariants as direction
use Rattle.script_reader.specs.declared.words.Verb.{Verb}
use Rattle.script_reader.specs.declared.words.Verb.TheVariants as verb
use Rattle.script_reader.proofs.Addresses.{address_is, address_said}

-- ---- each word

abbrev verb_word : Verb → List ℕ
verb_word verb.Step = codes "step"
verb_word verb.Back = codes "back"
verb_word verb.Goto = codes "goto"
verb_word verb.Break = codes "break"
verb_word verb.Slice = codes "slice"
verb_word verb.Memory = codes "mem"
verb_word verb.Registers = codes "regs"
verb_word verb.Za = codes "za"
verb_word verb.Where = codes "where"

verb_is : (word : List ℕ) (v : Verb) → verb_of word ≡ Some v → word ≡ verb_word v
unfolding verb_of
verb_is word v e =
    chosen verb_word word (codes "step") verb.Step v _ refl
    (chosen verb_word word (codes "back") verb.Back v _ refl
    (chosen verb_word word (codes "goto") verb.Goto v _ refl
    (chosen verb_word word (codes "break") verb.Break v _ refl
    (chosen verb_word word (codes "slice") verb.Slice v _ refl
    (chosen verb_word word (codes "mem") verb.Memory v _ refl
    (chosen verb_word word (codes "regs") verb.Registers v _ refl
    (chosen verb_word word (codes "za") verb.Za v _ refl
    (chosen verb_word word (codes "where") verb.Where v None refl (λ h. cc))))))))) e

verb_said : (v : Verb) → verb_of (verb_word v) ≡ Some v
unfolding verb_of
verb_said verb.Step = refl
verb_said verb.Back = refl
verb_said verb.Goto = refl
verb_said verb.Break = refl
verb_said verb.Slice = refl
verb_said verb.Memory = refl
verb_said verb.Registers = refl
verb_said verb.Za = refl
verb_said verb.Where = refl

size_is : (word : List ℕ) (size : Elem) → size_of word ≡ Some size → word ≡ size_letter size
unfolding size_of
size_is word size e =
    chosen size_letter word (codes "b") elem.B size _ refl
    (chosen size_letter word (codes "h") elem.H size _ refl
    (chosen size_letter word (codes "s") elem.S size _ refl
    (chosen size_letter word (codes "d") elem.D size _ refl
    (chosen size_letter word (codes "q") elem.Q size None refl (λ h. cc))))) e

size_said : (size : Elem) → size_of (size_letter size) ≡ Some size
unfolding size_of
size_said elem.B = refl
size_said elem.H = refl
size_said elem.S = refl
size_said elem.D = refl
size_said elem.Q = refl

direction_is : (word : List ℕ) (it : Direction) → direction_of word ≡ Some it → word ≡ direction_letter it
unfolding direction_of
direction_is word it e =
    chosen direction_letter word (codes "h") direction.Horizontal it _ refl
    (chosen direction_letter word (codes "v") direction.Vertical it None refl (λ h. cc)) e

direction_said : (it : Direction) → direction_of (direction_letter it) ≡ Some it
unfolding direction_of
direction_said direction.Horizontal = refl
direction_said direction.Vertical = refl

byte_counts : 4097 ≤ 2 ^ 64
byte_counts = omega arith

-- ---- what the operands of a command say

-- a word put before others
abbrev behind_word : List ℕ → List (List ℕ) → List (List ℕ)
behind_word word words = word ∷ words

-- a command with a count
abbrev with_count : (ℕ → DebugCommand) → ℕ → List (List ℕ) → Result (DebugCommand × List (List ℕ)) TextKind
with_count make count left = Ok (make count, left)

record IsCounted (make : ℕ → DebugCommand) (words : List (List ℕ)) (c : DebugCommand) : Type 0 where
  count : ℕ
  below : count < 2 ^ 32
  is : words ≡ decimal count ∷ []
  said : make count ≡ c

counted : (make : ℕ → DebugCommand) (words : List (List ℕ)) (c : DebugCommand) (left : List (List ℕ))
    → and_then (number 0 (2 ^ 32) words) (with_count make) ≡ Ok (c, left) → left ≡ [] → IsCounted make words c
counted make words c left h none =
    let it = between (number 0 (2 ^ 32) words) (with_count make) (c, left) h in
    let n = number_first (2 ^ 32) fitting 0 words it.value it.words it.before in
    let said = pair_is (make it.value) c it.words left it.behind in
    record {
      count = it.value;
      below = n.2;
      is = n.0 ∙ ap (behind_word (decimal it.value)) (said.1 ∙ none);
      said = said.0;
    }

-- a command without operands
alone : (v : Verb) (made c : DebugCommand) (words left : List (List ℕ))
    → ◌≡◌ {A = Result (DebugCommand × List (List ℕ)) TextKind} (Ok (made, words)) (Ok (c, left)) → left ≡ []
    → (made ≡ c) × (verb_word v ∷ words ≡ verb_word v ∷ [])
alone v made c words left h none =
    let said = pair_is made c words left h in (said.0, ap (behind_word (verb_word v)) (said.1 ∙ none))

slice_is : (words : List (List ℕ)) (c : DebugCommand) (left : List (List ℕ)) → slice_said words ≡ Ok (c, left) → left ≡ []
    → AreWordsFor c (codes "slice" ∷ words)
unfolding slice_said
slice_is words c left h none =
    let size = between (field Unknown size_of words) _ (c, left) h in
    let tile = between (number 0 (2 ^ 32) size.words) _ (c, left) size.behind in
    let way = between (field Unknown direction_of tile.words) _ (c, left) tile.behind in
    let slice = between (number 0 (2 ^ 32) way.words) _ (c, left) way.behind in
    let said = pair_is (command.Slice size.value tile.value way.value slice.value) c slice.words left slice.behind in
    let first = field_is Unknown size_of words size.value size.words size.before in
    let second = number_first (2 ^ 32) fitting 0 size.words tile.value tile.words tile.before in
    let third = field_is Unknown direction_of tile.words way.value way.words way.before in
    let fourth = number_first (2 ^ 32) fitting 0 way.words slice.value slice.words slice.before in
    let last : way.words ≡ decimal slice.value ∷ [] = fourth.0 ∙ ap (behind_word (decimal slice.value)) (said.1 ∙ none) in
    let ways : tile.words ≡ direction_letter way.value ∷ decimal slice.value ∷ [] =
    third.is ∙ ap (λ (w : List ℕ). w ∷ way.words) (direction_is third.word way.value third.said)
    ∙ ap (behind_word (direction_letter way.value)) last in
    let tiles : size.words ≡ decimal tile.value ∷ direction_letter way.value ∷ decimal slice.value ∷ [] =
    second.0 ∙ ap (behind_word (decimal tile.value)) ways in
    let sizes : words ≡ size_letter size.value ∷ decimal tile.value ∷ direction_letter way.value ∷ decimal slice.value ∷ [] =
    first.is ∙ ap (λ (w : List ℕ). w ∷ size.words) (size_is first.word size.value first.said)
    ∙ ap (behind_word (size_letter size.value)) tiles in
    subst (λ (x : DebugCommand). AreWordsFor x (codes "slice" ∷ words)) said.0
    (second.2, fourth.2, ap (behind_word (codes "slice")) sizes)

memory_is : (words : List (List ℕ)) (c : DebugCommand) (left : List (List ℕ)) → memory_said words ≡ Ok (c, left) → left ≡ []
    → AreWordsFor c (codes "mem" ∷ words)
unfolding memory_said
memory_is words c left h none =
    let address = between (field BadNumber address_of words) _ (c, left) h in
    let count = between (number 0 4097 address.words) _ (c, left) address.behind in
    let said = pair_is (command.Memory address.value count.value) c count.words left count.behind in
    let first = field_is BadNumber address_of words address.value address.words address.before in
    let second = number_first 4097 byte_counts 0 address.words count.value count.words count.before in
    let last : address.words ≡ decimal count.value ∷ [] = second.0 ∙ ap (behind_word (decimal count.value)) (said.1 ∙ none) in
    let all : words ≡ first.word ∷ decimal count.value ∷ [] = first.is ∙ ap (behind_word first.word) last in
    subst (λ (x : DebugCommand). AreWordsFor x (codes "mem" ∷ words)) said.0
    (first.word, address_is first.word address.value first.said, omega (arith, second.2), ap (behind_word (codes "mem")) all)

break_is : (words : List (List ℕ)) (c : DebugCommand) (left : List (List ℕ)) → command_of verb.Break words ≡ Ok (c, left) → left ≡ []
    → AreWordsFor c (codes "break" ∷ words)
unfolding command_of
break_is words c left h none =
    let address = between (field BadNumber address_of words) _ (c, left) h in
    let said = pair_is (command.Break address.value) c address.words left address.behind in
    let first = field_is BadNumber address_of words address.value address.words address.before in
    let all : words ≡ first.word ∷ [] = first.is ∙ ap (behind_word first.word) (said.1 ∙ none) in
    subst (λ (x : DebugCommand). AreWordsFor x (codes "break" ∷ words)) said.0
    (first.word, address_is first.word address.value first.said, ap (behind_word (codes "break")) all)

-- the words behind that of the command are its operands
operands_are : (v : Verb) (words : List (List ℕ)) (c : DebugCommand) (left : List (List ℕ)) → command_of v words ≡ Ok (c, left)
    → left ≡ [] → AreWordsFor c (verb_word v ∷ words)
unfolding command_of
operands_are verb.Step words c left h none =
    let it = counted command.Step words c left h none in
    subst (λ (x : DebugCommand). AreWordsFor x (codes "step" ∷ words)) it.said (it.below, ap (behind_word (codes "step")) it.is)
operands_are verb.Back words c left h none =
    let it = counted command.Back words c left h none in
    subst (λ (x : DebugCommand). AreWordsFor x (codes "back" ∷ words)) it.said (it.below, ap (behind_word (codes "back")) it.is)
operands_are verb.Goto words c left h none =
    let it = counted command.Goto words c left h none in
    subst (λ (x : DebugCommand). AreWordsFor x (codes "goto" ∷ words)) it.said (it.below, ap (behind_word (codes "goto")) it.is)
operands_are verb.Break words c left h none = break_is words c left h none
operands_are verb.Slice words c left h none = slice_is words c left h none
operands_are verb.Memory words c left h none = memory_is words c left h none
operands_are verb.Registers words c left h none =
    let it = alone verb.Registers command.Registers c words left h none in
    subst (λ (x : DebugCommand). AreWordsFor x (codes "regs" ∷ words)) it.0 it.1
operands_are verb.Za words c left h none =
    let it = alone verb.Za command.Za c words left h none in
    subst (λ (x : DebugCommand). AreWordsFor x (codes "za" ∷ words)) it.0 it.1
operands_are verb.Where words c left h none =
    let it = alone verb.Where command.Where c words left h none in
    subst (λ (x : DebugCommand). AreWordsFor x (codes "where" ∷ words)) it.0 it.1

-- words that say a command are words of it
pub command_words : (words : List (List ℕ)) (c : DebugCommand) → command_in words ≡ Ok c → AreWordsFor c words
unfolding command_in
command_words words c h =
    let v = between (first_word verb_of words) _ c h in
    let on = between (command_of v.value v.words) _ c v.behind in
    let last = ended_is on.value c on.words on.behind in
    let said = first_is verb_of words v.value v.words v.before in
    let first : words ≡ verb_word v.value ∷ v.words =
    said.is ∙ ap (λ (w : List ℕ). w ∷ v.words) (verb_is said.word v.value said.said) in
    let rest = operands_are v.value v.words on.value on.words on.before last.1 in
    subst (λ (x : DebugCommand). AreWordsFor x words) last.0
    (subst (λ (ws : List (List ℕ)). AreWordsFor on.value ws) (sym first) rest)

-- ---- the words of a command say it

on_read : (v : Verb) (words : List (List ℕ)) (c : DebugCommand) → command_of v words ≡ Ok (c, [])
    → command_in (verb_word v ∷ words) ≡ Ok c
unfolding command_in ended
on_read v words c is =
    ap (λ r. and_then r (λ v left. and_then (command_of v left) ended)) (first_read verb_of (verb_word v) words v (verb_said v))
    ∙ ap (λ r. and_then r ended) is

count_read : (make : ℕ → DebugCommand) (count : ℕ) → count < 2 ^ 32
    → and_then (number 0 (2 ^ 32) (decimal count ∷ [])) (with_count make) ≡ Ok (make count, [])
count_read make count below =
    ap (λ r. and_then r (with_count make)) (number_read (2 ^ 32) fitting 0 count [] (omega arith) below)

-- the rest of a slice
abbrev last_of : Elem → ℕ → Direction → List (List ℕ) → Result (DebugCommand × List (List ℕ)) TextKind
last_of size tile way left = and_then (number 0 (2 ^ 32) left) (λ slice left. Ok (command.Slice size tile way slice, left))

abbrev way_of : Elem → ℕ → List (List ℕ) → Result (DebugCommand × List (List ℕ)) TextKind
way_of size tile left = and_then (field Unknown direction_of left) (λ way left. last_of size tile way left)

abbrev tile_of : Elem → List (List ℕ) → Result (DebugCommand × List (List ℕ)) TextKind
tile_of size left = and_then (number 0 (2 ^ 32) left) (λ tile left. way_of size tile left)

slice_read : (size : Elem) (tile : ℕ) (way : Direction) (slice : ℕ) → tile < 2 ^ 32 → slice < 2 ^ 32
    → slice_said (size_letter size ∷ decimal tile ∷ direction_letter way ∷ decimal slice ∷ [])
    ≡ Ok (command.Slice size tile way slice, [])
unfolding slice_said
slice_read size tile way slice low below =
    ap (λ r. and_then r tile_of)
    (field_read Unknown size_of (size_letter size) (decimal tile ∷ direction_letter way ∷ decimal slice ∷ []) size (size_said size))
    ∙ ap (λ r. and_then r (way_of size))
    (number_read (2 ^ 32) fitting 0 tile (direction_letter way ∷ decimal slice ∷ []) (omega arith) low)
    ∙ ap (λ r. and_then r (last_of size tile))
    (field_read Unknown direction_of (direction_letter way) (decimal slice ∷ []) way (direction_said way))
    ∙ ap (λ r. and_then r (λ slice left. Ok (command.Slice size tile way slice, left)))
    (number_read (2 ^ 32) fitting 0 slice [] (omega arith) below)

memory_read : (word : List ℕ) (address count : ℕ) → IsAddress word address → count ≤ 4096
    → memory_said (word ∷ decimal count ∷ []) ≡ Ok (command.Memory address count, [])
unfolding memory_said
memory_read word address count it most =
    ap (λ r. and_then r (λ address left. and_then (number 0 4097 left) (λ count left. Ok (command.Memory address count, left))))
    (field_read BadNumber address_of word (decimal count ∷ []) address (address_said word address it))
    ∙ ap (λ r. and_then r (λ count left. Ok (command.Memory address count, left)))
    (number_read 4097 byte_counts 0 count [] (omega arith) (omega arith))

pub words_read : (c : DebugCommand) (words : List (List ℕ)) → AreWordsFor c words → command_in words ≡ Ok c
unfolding command_of
words_read (command.Step count) words it =
    ap command_in it.1 ∙ on_read verb.Step (decimal count ∷ []) (command.Step count) (count_read command.Step count it.0)
words_read (command.Back count) words it =
    ap command_in it.1 ∙ on_read verb.Back (decimal count ∷ []) (command.Back count) (count_read command.Back count it.0)
words_read (command.Goto count) words it =
    ap command_in it.1 ∙ on_read verb.Goto (decimal count ∷ []) (command.Goto count) (count_read command.Goto count it.0)
words_read (command.Break address) words it =
    ap command_in it.2
    ∙ on_read verb.Break (it.0 ∷ []) (command.Break address)
    (ap (λ r. and_then r (λ address left. Ok (command.Break address, left)))
    (field_read BadNumber address_of it.0 [] address (address_said it.0 address it.1)))
words_read (command.Slice size tile way slice) words it =
    ap command_in it.2
    ∙ on_read verb.Slice (size_letter size ∷ decimal tile ∷ direction_letter way ∷ decimal slice ∷ [])
    (command.Slice size tile way slice) (slice_read size tile way slice it.0 it.1)
words_read (command.Memory address count) words it =
    ap command_in it.3
    ∙ on_read verb.Memory (it.0 ∷ decimal count ∷ []) (command.Memory address count) (memory_read it.0 address count it.1 it.2)
words_read command.Registers words it = ap command_in it ∙ on_read verb.Registers [] command.Registers refl
words_read command.Za words it = ap command_in it ∙ on_read verb.Za [] command.Za refl
words_read command.Where words it = ap command_in it ∙ on_read verb.Where [] command.Where refl
