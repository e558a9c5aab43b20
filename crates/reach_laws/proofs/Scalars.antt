-- Scalar instructions leave registers of 64 bits.
use Rattle.std.proofs.Common.{ℕ, ◌+◌, ◌%◌, ◌^◌, ◌<◌, ◌==◌, Bool, true, false, cond, List, sym, ◌∙◌}
use Rattle.std.proofs.Common.{inl, inr, slice_set, arith, subst, length, slice_index, length-set}
use Rattle.std.proofs.lemmas.List.Elements.{All-set, All-get_or}
use Rattle.std.proofs.lemmas.List.{get_or_past}
use Rattle.std.proofs.lemmas.Bool.{cases_lt}
use Rattle.sm_types.specs.declared.scalars.Scalars.{Scalars}
use Rattle.bit_ops.specs.Sums.{word_size}
use Rattle.bit_ops.specs.declared.sums.Nzcv.{Nzcv}
use Rattle.scalar_exec.specs.Registers.{x_of, x_or_sp, with_x, with_x_or_sp, with_flags, past}
use Rattle.reach_laws.proofs.Fits.{Fits, AreWords}

pub word_fits : (wide : Bool) (n : ℕ) → n < word_size wide → n < 2 ^ 64
word_fits true n h = h
word_fits false n h = omega arith

pub part_fits : (wide : Bool) (n : ℕ) → n % word_size wide < 2 ^ 64
part_fits true n = omega arith
part_fits false n = omega arith

pub part_below : (wide : Bool) (n : ℕ) → n % word_size wide < word_size wide
part_below true n = omega arith
part_below false n = omega arith

pub fits_x : (s : Scalars) (d v : ℕ) → Fits s → v < 2 ^ 64 → Fits (with_x s d v)
unfolding with_x
fits_x s d v h lt =
    elim (d == 31) as (λ b. Fits (cond b s (record s { x = slice_set s.x d v }))) [
      | true ↦ h
      | false ↦ record {
        count = length-set s.x d v ∙ h.count;
        x = All-set (λ n. n < 2 ^ 64) s.x d v lt h.x;
        sp = h.sp;
        pc = h.pc;
      }
    ]

pub fits_x_or_sp : (s : Scalars) (d v : ℕ) → Fits s → v < 2 ^ 64 → Fits (with_x_or_sp s d v)
unfolding with_x_or_sp
fits_x_or_sp s d v h lt =
    elim (d == 31) as (λ b. Fits (cond b (record s { sp = v }) (record s { x = slice_set s.x d v }))) [
      | true ↦ record { count = h.count; x = h.x; sp = lt; pc = h.pc }
      | false ↦ record {
        count = length-set s.x d v ∙ h.count;
        x = All-set (λ n. n < 2 ^ 64) s.x d v lt h.x;
        sp = h.sp;
        pc = h.pc;
      }
    ]

pub fits_flags : (s : Scalars) (flags : Nzcv) → Fits s → Fits (with_flags s flags)
unfolding with_flags
fits_flags s flags h = record { count = h.count; x = h.x; sp = h.sp; pc = h.pc }

pub fits_pc : (s : Scalars) (target : ℕ) → Fits s → target < 2 ^ 64 → Fits (record s { pc = target })
fits_pc s target h lt = record { count = h.count; x = h.x; sp = h.sp; pc = lt }

pub fits_past : (s : Scalars) → Fits s → Fits (past s)
unfolding past
fits_past s h = fits_pc s ((s.pc + 4) % 2 ^ 64) h (omega arith)

pub index_fits : (xs : List ℕ) (k : ℕ) → AreWords xs → slice_index xs k < 2 ^ 64
index_fits xs k h = elim (cases_lt k (length xs)) [
  | inl l ↦ All-get_or (λ x. x < 2 ^ 64) xs k 0 l h
  | inr g ↦ subst (λ x. x < 2 ^ 64) (sym (get_or_past xs k 0 g)) (let z : 0 < 2 ^ 64 = omega arith in z)
]

pub x_fits : (s : Scalars) (n : ℕ) → Fits s → x_of s n < 2 ^ 64
unfolding x_of
x_fits s n h = elim (n == 31) as (λ b. cond b 0 (slice_index s.x n) < 2 ^ 64) [ true ↦ omega arith | false ↦ index_fits s.x n h.x ]

pub x_or_sp_fits : (s : Scalars) (n : ℕ) → Fits s → x_or_sp s n < 2 ^ 64
unfolding x_or_sp
x_or_sp_fits s n h = elim (n == 31) as (λ b. cond b s.sp (slice_index s.x n) < 2 ^ 64) [ true ↦ h.sp | false ↦ index_fits s.x n h.x ]
