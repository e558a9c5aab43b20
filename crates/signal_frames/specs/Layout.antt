-- The frame of a signal, in the versions of the kernel: the registers of a thread as they are saved in its
-- memory when a handler begins. Source: the kernel is this emulator's own; the registers are those of DDI
-- 0487, B1.2 and B1.4. L is the vector length of the saved mode in bytes, S is the streaming vector length in
-- bytes, and numbers have their low byte first.
--
-- Offset          Bytes   Content
-- 0               8       the bytes of `SMEFRAM1`, or of `SMEFRAM2`
-- 8, 12           4       the size of the frame, the signal
-- 16              8       each of X0 to X30
-- 264, 272, 280   8       SP, PC, NZCV
-- 288, 296, 304   8       SVCR, TPIDR2_EL0, TPIDR_EL0
-- 312, 316        4       L, S
-- 320             8       in version 2: the mask
-- 328, 332        4       in version 2: the depth, zero
--
-- What follows stands from the head's end on, at 320 in version 1 and at 336 in version 2:
--
-- 0               L       each of Z0 to Z31
-- 32 L            L / 8   each of P0 to P15
-- 34 L            32      FFR in the first L / 8 of them, then zeros
-- 34 L + 32       S       each vector of ZA, where PSTATE.ZA is 1
use Rattle.std.specs.Prelude.{ℕ, ◌+◌, ◌-◌, ◌*◌, ◌/◌, Bool, if◌then◌else◌, List, [], ◌∷◌, ◌++◌, replicate}
use Rattle.std.specs.List.{concat, flat_map}
use Rattle.byteorder.specs.Endian.{little_bytes}
use Rattle.sve_vectors.specs.Predicates.{predicate_bytes}
use Rattle.sve_vectors.specs.Registers.{VectorRegisters}
use Rattle.signal_frames.specs.declared.masking.Masking.{Masking}
use Rattle.sm_types.specs.declared.version.Version.{Version}
use Rattle.sm_types.specs.declared.version.Version.TheVariants.{One, Two}

-- how many bytes stand before those of the vectors
abbrev pub head_size : Version → ℕ
head_size One = 320
head_size Two = 336

-- how many bytes those of the vectors are
abbrev pub body_size : ℕ → ℕ → Bool → ℕ
body_size l s za_on = 34 * l + 32 + (if za_on then s * s else 0)

-- how many bytes a frame has
abbrev pub frame_size : Version → ℕ → ℕ → Bool → ℕ
frame_size version l s za_on = head_size version + body_size l s za_on

-- the number whose bytes are `SMEFRAM1` or `SMEFRAM2`, the first of them the lowest
abbrev pub frame_tag : Version → ℕ
frame_tag One = 0x314d415246454d53
frame_tag Two = 0x324d415246454d53

-- numbers of 4 bytes, one after the other
abbrev pub words_bytes : List ℕ → List ℕ
words_bytes numbers = flat_map (little_bytes 4) numbers

-- numbers of 8 bytes
abbrev pub doublewords_bytes : List ℕ → List ℕ
doublewords_bytes numbers = flat_map (little_bytes 8) numbers

-- the first 320 bytes: the tag; the size and the signal; X0 to X30; SP, PC, NZCV, SVCR, TPIDR2_EL0 and
-- TPIDR_EL0; L and S
abbrev pub head_bytes : Version → List ℕ → List ℕ → List ℕ → List ℕ → List ℕ
head_bytes version first x system lengths =
    doublewords_bytes (frame_tag version ∷ []) ++ (words_bytes first
    ++ (doublewords_bytes x ++ (doublewords_bytes system ++ words_bytes lengths)))

-- the other bytes of the head, of which version 1 has none: the mask, the depth, and zeros
abbrev pub masking_bytes : Version → Masking → List ℕ
masking_bytes One masking = []
masking_bytes Two masking = doublewords_bytes (masking.mask ∷ []) ++ words_bytes (masking.depth ∷ 0 ∷ [])

-- Z0 to Z31
abbrev pub vectors_bytes : VectorRegisters → List ℕ
vectors_bytes r = concat r.vectors

-- P0 to P15
abbrev pub predicates_bytes : VectorRegisters → List ℕ
predicates_bytes r = flat_map predicate_bytes r.predicates

-- FFR, and zeros up to 32 bytes
abbrev pub ffr_bytes : ℕ → VectorRegisters → List ℕ
ffr_bytes l r = predicate_bytes r.ffr ++ replicate (32 - l / 8) 0

-- ZA, where it is on
abbrev pub array_bytes : Bool → List (List ℕ) → List ℕ
array_bytes za_on za = if za_on then concat za else []

-- all that follows the head
abbrev pub vector_state_bytes : ℕ → Bool → VectorRegisters → List (List ℕ) → List ℕ
vector_state_bytes l za_on r za =
    vectors_bytes r ++ (predicates_bytes r ++ (ffr_bytes l r ++ array_bytes za_on za))
