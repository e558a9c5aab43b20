-- The field that a word says, and the fields that the words of a line say.
use Rattle.std.specs.Prelude.{ℕ, ◌+◌, ◌==◌, ◌&&◌, nat_le, Bool, true, false, List, [], ◌∷◌, length, take, drop}
use Rattle.std.specs.Prelude.{codes, Option, Some, None, option_map, option_and_then, if◌then◌else◌, Result, Ok, Err}
use Rattle.std.specs.Str.{bytes_eq}
use Rattle.std.specs.List.{position}
use Rattle.std.specs.Option.{option_or}
use Rattle.hex.specs.Hex.{decode_of}
use Rattle.hex.specs.declared.error.FromHexError.{FromHexError}
use Rattle.line_reader.specs.Numbers.{hex_number, is_hex, number_below}
use Rattle.sm_types.specs.declared.length.VecLen.{VecLen}
use Rattle.vector_runner.specs.declared.vector.Modes.{Modes}
use Rattle.vector_runner.specs.Field.{Field, Vector, modes_after, rank, fits}
use Rattle.vector_runner.specs.Field as field
use Rattle.vector_runner.specs.declared.words.Key.{Key}
use Rattle.vector_runner.specs.declared.words.Key.TheVariants as key

-- ---- the name

-- the field of a name without a number
unfoldable pub single_key : List ℕ → Option Key
single_key name =
    if bytes_eq name (codes "sp") then Some key.Sp
    else if bytes_eq name (codes "nzcv") then Some key.Nzcv
    else if bytes_eq name (codes "tpidr") then Some key.Tpidr
    else if bytes_eq name (codes "tpidr2") then Some key.Tpidr2
    else if bytes_eq name (codes "svcr") then Some key.Svcr
    else if bytes_eq name (codes "ffr") then Some key.Ffr
    else if bytes_eq name (codes "m") then Some key.M
    else None

-- what follows some first bytes
unfoldable pub after : List ℕ → List ℕ → Option (List ℕ)
after first name = if bytes_eq (take (length first) name) first then Some (drop (length first) name) else None

-- the number after such bytes
unfoldable pub number_after : List ℕ → List ℕ → Option ℕ
number_after first name = option_and_then (λ digits. number_below 256 digits) (after first name)

-- the field of a name with a number
unfoldable pub numbered_key : List ℕ → Option Key
numbered_key name =
    option_or (option_map (λ n. key.X n) (number_after (codes "x") name))
    (option_or (option_map (λ n. key.Z n) (number_after (codes "z") name))
    (option_or (option_map (λ n. key.P n) (number_after (codes "p") name))
    (option_map (λ n. key.Za n) (number_after (codes "za") name))))

-- the field of a name
unfoldable pub key_in : List ℕ → Option Key
key_in name = option_or (single_key name) (numbered_key name)

-- ---- the value

-- 0 (48) or 1 (49)
unfoldable pub flag_in : ℕ → Option Bool
flag_in c = if c == 48 then Some false else if c == 49 then Some true else None

-- the flags of four digits
abbrev pub all_flags : Option Bool → Option Bool → Option Bool → Option Bool → Option Field
all_flags (Some n) (Some z) (Some c) (Some v) = Some (field.Nzcv n z c v)
all_flags n z c v = None

unfoldable pub flags_in : List ℕ → Option Field
flags_in (n ∷ z ∷ c ∷ v ∷ []) = all_flags (flag_in n) (flag_in z) (flag_in c) (flag_in v)
flags_in other = None

-- PSTATE.SM and PSTATE.ZA of a digit
unfoldable pub svcr_in : List ℕ → Option Field
svcr_in value =
    if bytes_eq value (codes "0") then Some (field.Svcr false false)
    else if bytes_eq value (codes "1") then Some (field.Svcr true false)
    else if bytes_eq value (codes "2") then Some (field.Svcr false true)
    else if bytes_eq value (codes "3") then Some (field.Svcr true true)
    else None

abbrev pub if_decoded : Result (List ℕ) FromHexError → Option (List ℕ)
if_decoded (Ok bytes) = Some bytes
if_decoded (Err e) = None

-- the bytes of pairs of digits in lower case
unfoldable pub bytes_in : List ℕ → Option (List ℕ)
bytes_in value = if is_hex value then if_decoded (decode_of value) else None

-- the field of a name with this value
unfoldable pub field_of : Key → List ℕ → Option Field
field_of (key.X n) value = option_map (λ it. field.X n it) (hex_number 16 value)
field_of key.Sp value = option_map (λ it. field.Sp it) (hex_number 16 value)
field_of key.Nzcv value = flags_in value
field_of key.Tpidr value = option_map (λ it. field.Tpidr it) (hex_number 16 value)
field_of key.Tpidr2 value = option_map (λ it. field.Tpidr2 it) (hex_number 16 value)
field_of key.Svcr value = svcr_in value
field_of (key.Z n) value = option_map (λ it. field.Z n it) (bytes_in value)
field_of (key.P n) value = option_map (λ it. field.P n it) (bytes_in value)
field_of key.Ffr value = option_map (λ it. field.Ffr it) (bytes_in value)
field_of (key.Za n) value = option_map (λ it. field.Za n it) (bytes_in value)
field_of key.M value = option_map (λ it. field.M it) (bytes_in value)

-- ---- the words

-- the field of name and value
abbrev pub field_with : List ℕ → List ℕ → Option Field
field_with name value = option_and_then (λ k. field_of k value) (key_in name)

-- the field that a word says, with = (61) between name and value
unfoldable pub field_in : List ℕ → Option Field
field_in word =
    option_and_then (λ at. field_with (take at word) (drop (at + 1) word)) (position (λ b. b == 61) word)

-- a field that a state has, and that may stand here: its rank is not below this
abbrev pub if_here : VecLen → VecLen → Modes → ℕ → Field → Option Field
if_here vl svl modes least f = if fits vl svl modes f && nat_le least (rank f) then Some f else None

-- the field that a word says here
unfoldable pub field_here : VecLen → VecLen → Modes → ℕ → List ℕ → Option Field
field_here vl svl modes least word = option_and_then (if_here vl svl modes least) (field_in word)

abbrev pub before_others : Option Field → (Field → Option (List Field)) → Option (List Field)
before_others None others = None
before_others (Some f) others = option_map (λ fields. f ∷ fields) (others f)

-- the fields that words say, each behind those before it, and fitting the modes that these say
unfoldable pub fields_in : VecLen → VecLen → Modes → ℕ → List (List ℕ) → Option (List Field)
fields_in vl svl modes least [] = Some []
fields_in vl svl modes least (word ∷ words) =
    before_others (field_here vl svl modes least word)
    (λ f. fields_in vl svl (modes_after modes f) (rank f + 1) words)

-- both modes are off
abbrev pub no_modes : Modes
no_modes = record { streaming = false; za_on = false }

abbrev pub vector_with : Option ℕ → Option (List Field) → Option Vector
vector_with (Some word) (Some fields) = Some (record { word = word; fields = fields })
vector_with word fields = None

-- the vector that the words of a line say
unfoldable pub vector_in : VecLen → VecLen → List (List ℕ) → Option Vector
vector_in vl svl [] = None
vector_in vl svl (word ∷ words) = vector_with (hex_number 8 word) (fields_in vl svl no_modes 0 words)
