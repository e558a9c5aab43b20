-- What the bytes of a frame say, by the offsets of its table.
use Rattle.std.specs.Prelude.{ℕ, ◌+◌, ◌-◌, ◌*◌, ◌/◌, ◌%◌, ◌^◌, ◌==◌, ◌&&◌, nat_le, nat_lt, Bool, true}
use Rattle.std.specs.Prelude.{if◌then◌else◌, List, take, drop, map}
use Rattle.std.specs.List.{range_with_len, list_all}
use Rattle.byteorder.specs.Endian.{little_number}
use Rattle.sm_types.specs.declared.scalars.Scalars.{Scalars}
use Rattle.sve_vectors.specs.Predicates.{truths_of}
use Rattle.sve_vectors.specs.Registers.{VectorRegisters}
use Rattle.za_array.specs.Array.{zero_vectors}
use Rattle.machine_step.specs.System.{bit_at}
use Rattle.signal_frames.specs.Layout.{head_size, frame_size, frame_tag}
use Rattle.signal_frames.specs.declared.head.Expected.{Expected}
use Rattle.signal_frames.specs.declared.masking.Masking.{Masking}
use Rattle.sm_types.specs.declared.version.Version.{Version}
use Rattle.sm_types.specs.declared.version.Version.TheVariants.{One, Two}

-- the number of n bytes at an offset
unfoldable pub number_at : List ℕ → ℕ → ℕ → ℕ
number_at frame offset n = little_number n (drop offset frame)

-- n bytes from an offset on
abbrev pub part_of : List ℕ → ℕ → ℕ → List ℕ
part_of frame offset n = take n (drop offset frame)

abbrev pub saved_size : List ℕ → ℕ
saved_size frame = number_at frame 8 4

abbrev pub saved_signal : List ℕ → ℕ
saved_signal frame = number_at frame 12 4

-- register Xk
abbrev pub saved_x : List ℕ → ℕ → ℕ
saved_x frame k = number_at frame (16 + 8 * k) 8

abbrev pub saved_nzcv : List ℕ → ℕ
saved_nzcv frame = number_at frame 280 8

abbrev pub saved_svcr : List ℕ → ℕ
saved_svcr frame = number_at frame 288 8

abbrev pub saved_tpidr2 : List ℕ → ℕ
saved_tpidr2 frame = number_at frame 296 8

abbrev pub saved_tpidr : List ℕ → ℕ
saved_tpidr frame = number_at frame 304 8

-- L
abbrev pub saved_length : List ℕ → ℕ
saved_length frame = number_at frame 312 4

-- S
abbrev pub saved_array_size : List ℕ → ℕ
saved_array_size frame = number_at frame 316 4

-- PSTATE.SM, bit 0 of SVCR
abbrev pub saved_streaming : List ℕ → Bool
saved_streaming frame = bit_at (saved_svcr frame) 0

-- PSTATE.ZA, bit 1 of SVCR
abbrev pub saved_za_on : List ℕ → Bool
saved_za_on frame = bit_at (saved_svcr frame) 1

-- the general registers, SP, PC and the flags
unfoldable pub saved_scalars : List ℕ → Scalars
saved_scalars frame = record {
  x = map (saved_x frame) (range_with_len 0 31);
  sp = number_at frame 264 8;
  pc = number_at frame 272 8;
  n = bit_at (saved_nzcv frame) 31;
  z = bit_at (saved_nzcv frame) 30;
  c = bit_at (saved_nzcv frame) 29;
  v = bit_at (saved_nzcv frame) 28;
}

-- the mask and the depth before the delivery; version 1 saves none, since its handlers are not nested
abbrev pub saved_masking : Version → List ℕ → Masking
saved_masking One frame = record { mask = 0; depth = 0 }
saved_masking Two frame = record { mask = number_at frame 320 8; depth = number_at frame 328 4 }

-- ---- what follows the head, by the offsets from its end

-- all of it
abbrev pub body_of : Version → List ℕ → List ℕ
body_of version frame = drop (head_size version) frame

-- Zn of l bytes
abbrev pub saved_vector : ℕ → List ℕ → ℕ → List ℕ
saved_vector l body n = part_of body (n * l) l

-- Pn of l truth values
abbrev pub saved_predicate : ℕ → List ℕ → ℕ → List Bool
saved_predicate l body n = truths_of (part_of body (32 * l + n * (l / 8)) (l / 8))

-- FFR
abbrev pub saved_ffr : ℕ → List ℕ → List Bool
saved_ffr l body = truths_of (part_of body (34 * l) (l / 8))

-- the bytes of FFR's field past it
abbrev pub past_ffr : ℕ → List ℕ → List ℕ
past_ffr l body = part_of body (34 * l + l / 8) (32 - l / 8)

-- vector n of ZA, of s bytes
abbrev pub saved_array_vector : ℕ → ℕ → List ℕ → ℕ → List ℕ
saved_array_vector l s body n = part_of body (34 * l + 32 + n * s) s

unfoldable pub saved_registers : ℕ → List ℕ → VectorRegisters
saved_registers l body = record {
  vectors = map (saved_vector l body) (range_with_len 0 32);
  predicates = map (saved_predicate l body) (range_with_len 0 16);
  ffr = saved_ffr l body;
}

-- ZA, which is zero where it was off
unfoldable pub saved_array : ℕ → ℕ → Bool → List ℕ → List (List ℕ)
saved_array l s za_on body =
    if za_on then map (saved_array_vector l s body) (range_with_len 0 s) else zero_vectors s

-- ---- whether they are those of a frame

-- SVCR and NZCV have no other bits than those of the modes and of the flags
unfoldable pub has_modes : List ℕ → Bool
has_modes frame =
    nat_lt (saved_svcr frame) 4 && (saved_nzcv frame % 2 ^ 28 == 0) && nat_lt (saved_nzcv frame) (2 ^ 32)

-- the lengths are that of the saved mode, and S, and the size is theirs
unfoldable pub has_sizes : Expected → List ℕ → Bool
has_sizes e frame =
    (saved_length frame == (if saved_streaming frame then e.svl else e.vl))
    && (saved_array_size frame == e.svl)
    && (saved_size frame == frame_size e.version (saved_length frame) e.svl (saved_za_on frame))

-- the mask has no bits but those of the signals 1 to 62, the depth is below that of the thread, and zeros
-- follow
unfoldable pub is_nested : ℕ → List ℕ → Bool
is_nested depth frame =
    (number_at frame 320 8 % 2 == 0) && nat_lt (number_at frame 320 8) (2 ^ 63)
    && nat_lt (number_at frame 328 4) depth && (number_at frame 332 4 == 0)

-- what version 2 checks besides
abbrev pub has_masking : Version → ℕ → List ℕ → Bool
has_masking One depth frame = true
has_masking Two depth frame = is_nested depth frame

-- the fields of the head are those of a frame, whose signal is one of 1 to 62
unfoldable pub is_head : Expected → List ℕ → Bool
is_head e frame =
    (number_at frame 0 8 == frame_tag e.version) && has_modes frame && has_sizes e frame
    && nat_le 1 (saved_signal frame) && nat_le (saved_signal frame) 62 && has_masking e.version e.depth frame

-- the bytes of FFR's field past FFR are zero
unfoldable pub is_zero_past : ℕ → List ℕ → Bool
is_zero_past l body = list_all (λ b. b == 0) (past_ffr l body)

-- the bytes are those of a frame
abbrev pub is_frame : Expected → List ℕ → Bool
is_frame e frame = is_head e frame && is_zero_past (saved_length frame) (body_of e.version frame)
