-- The fields that are read of a state.
use Rattle.std.proofs.Common.{◌≡◌, ℕ, ◌+◌, ◌*◌, ◌%◌, ◌^◌, ◌<◌, ◌≤◌, Bool, true, false, List, [], refl, ap, sym, ◌∙◌, subst, arith}
use Rattle.std.proofs.Common.{if◌then◌else◌}
use Rattle.bit_ops.specs.Sums.{bool_number}
use Rattle.sm_types.specs.declared.length.VecLen.{VecLen}
use Rattle.sm_types.specs.declared.scalars.Scalars.{Scalars}
use Rattle.sve_vectors.specs.Lengths.{current_bytes, vector_bytes}
use Rattle.machine_step.specs.System.{nzcv_of, bit_at}
use Rattle.paged_memory.specs.PageList.{IsPageList}
use Rattle.paged_memory.specs.declared.page_list.PageImage.{PageImage}

flag_small : (b : Bool) → bool_number b ≤ 1
flag_small true = omega arith
flag_small false = omega arith

-- four bits of a word
flags_low : (a b c d : ℕ) → (a * 2 ^ 31 + b * 2 ^ 30 + c * 2 ^ 29 + d * 2 ^ 28) % 2 ^ 28 ≡ 0
flags_low a b c d = omega arith

flags_word : (a b c d : ℕ) → a ≤ 1 → b ≤ 1 → c ≤ 1 → d ≤ 1 → a * 2 ^ 31 + b * 2 ^ 30 + c * 2 ^ 29 + d * 2 ^ 28 < 2 ^ 32
flags_word a b c d la lb lc ld = omega arith

pub nzcv_low : (s : Scalars) → nzcv_of s % 2 ^ 28 ≡ 0
unfolding nzcv_of
nzcv_low s = flags_low (bool_number s.n) (bool_number s.z) (bool_number s.c) (bool_number s.v)

pub nzcv_word : (s : Scalars) → nzcv_of s < 2 ^ 32
unfolding nzcv_of
nzcv_word s =
    flags_word (bool_number s.n) (bool_number s.z) (bool_number s.c) (bool_number s.v) (flag_small s.n) (flag_small s.z) (flag_small s.c)
    (flag_small s.v)

-- the modes in SVCR
first_mode : (a b : Bool) → bit_at (bool_number a + 2 * bool_number b) 0 ≡ a
first_mode true true = refl
first_mode true false = refl
first_mode false true = refl
first_mode false false = refl

second_mode : (a b : Bool) → bit_at (bool_number a + 2 * bool_number b) 1 ≡ b
second_mode true true = refl
second_mode true false = refl
second_mode false true = refl
second_mode false false = refl

pub streaming_told : (value : ℕ) (a b : Bool) → value ≡ bool_number a + 2 * bool_number b → bit_at value 0 ≡ a
streaming_told value a b is = ap (λ v. bit_at v 0) is ∙ first_mode a b

pub array_told : (value : ℕ) (a b : Bool) → value ≡ bool_number a + 2 * bool_number b → bit_at value 1 ≡ b
array_told value a b is = ap (λ v. bit_at v 1) is ∙ second_mode a b

pub modes_below : (value : ℕ) (a b : Bool) → value ≡ bool_number a + 2 * bool_number b → value < 4
modes_below value a b is = let one = flag_small a in let two = flag_small b in omega (arith, is, one, two)

-- lengths under other names
pub same_length : (vl given svl told : VecLen) (on said : Bool) → given ≡ vl → told ≡ svl → said ≡ on
    → current_bytes given told said ≡ current_bytes vl svl on
same_length vl given svl told on said p q r = λ i. current_bytes (p i) (q i) (r i)

pub same_array : (svl told : VecLen) (on said : Bool) → told ≡ svl → said ≡ on
    → (if said then vector_bytes told * vector_bytes told else 0) ≡ (if on then vector_bytes svl * vector_bytes svl else 0)
same_array svl told on said p q = λ i. if q i then vector_bytes (p i) * vector_bytes (p i) else 0

no_pages : IsPageList []
no_pages = record { each = λ k d l. absurd (omega arith); ascending = λ i j p q l is. cc; few = omega arith }

pub no_page_list : (list : List PageImage) → list ≡ [] → IsPageList list
no_page_list list is = subst IsPageList (sym is) no_pages
