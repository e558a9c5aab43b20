-- The ways in which an instruction keeps the numbers of its fields, and that nothing is lost by them.
use Rattle.std.proofs.Common.{◌≡◌, ℕ, zero, suc, ◌%◌, ◌^◌, ◌<◌, ◌==◌, Bool, true, false, refl, ap, ◌∙◌, arith, mod-eq_of_lt, List, [], ◌∷◌}
use Rattle.std.proofs.Common.{map, ℤ}
use Rattle.insn_forms.specs.declared.field.Field.{Field}
use Rattle.insn_forms.specs.declared.number.Number.{Number}
use Rattle.insn_forms.specs.declared.number.Number.TheVariants.{Unsigned, Signed}
use Rattle.insn_forms.specs.Forms.{flag_bit, flag_number}
use Rattle.insn_forms.proofs.Laws.{Take, most, sign, taken, are_small, agrees}

-- a field whose number is kept as a truth value, in so many bits, as what it stands for, in two's complement; or none
pub data Slot : Type 0 where
  flag : Field → Slot
  cut : ℕ → Field → Slot
  code : (n : ℕ) (g : ℕ → ℕ) → ((k : ℕ) → k < 2 ^ n → g k ≡ k) → Field → Slot
  signed : Field → Slot
  nothing : Slot

unfoldable pub take_of : Slot → Take
take_of (flag f) = most 1
take_of (cut n f) = most n
take_of (code n g e f) = most n
take_of (signed f) = sign
take_of nothing = most 0

unfoldable pub field_of_slot : Slot → Field
field_of_slot (flag f) = f
field_of_slot (cut n f) = f
field_of_slot (code n g e f) = f
field_of_slot (signed f) = f
field_of_slot nothing = record { low = 0; width = 0; upper_low = 0; upper_width = 0 }

-- eight of them, those and none
unfoldable pub eight : ℕ → List Slot → List Slot
eight zero xs = []
eight (suc k) [] = nothing ∷ eight k []
eight (suc k) (x ∷ xs) = x ∷ eight k xs

abbrev pub fields_of : List Slot → List Field
fields_of xs = map field_of_slot xs

abbrev pub takes_of : List Slot → List Take
takes_of xs = map take_of xs

-- what an instruction tells of the numbers that it kept so
unfoldable pub pass : List Slot → (Field → ℕ) → (Field → ℤ) → List Number
pass [] u s = []
pass (flag f ∷ xs) u s = flag_number (u f == 1) ∷ pass xs u s
pass (cut n f ∷ xs) u s = Unsigned (u f % 2 ^ n) ∷ pass xs u s
pass (code n g e f ∷ xs) u s = Unsigned (g (u f)) ∷ pass xs u s
pass (signed f ∷ xs) u s = Signed (s f) ∷ pass xs u s
pass (nothing ∷ xs) u s = Unsigned 0 ∷ pass xs u s

is_bit : (n : ℕ) → n < 2 → flag_bit (n == 1) ≡ n
is_bit zero h = refl
is_bit (suc zero) h = refl
is_bit (suc (suc n)) h = absurd (omega arith)

-- nothing is lost
pub passed : (xs : List Slot) (u : Field → ℕ) (s : Field → ℤ) → are_small (takes_of xs) (fields_of xs) u
    → pass xs u s ≡ taken (takes_of xs) (fields_of xs) u s
unfolding take_of field_of_slot are_small pass taken
passed [] u s h = refl
passed (flag f ∷ xs) u s h = λ i. Unsigned (is_bit (u f) h.0 i) ∷ passed xs u s h.1 i
passed (cut n f ∷ xs) u s h = λ i. Unsigned (mod-eq_of_lt h.0 i) ∷ passed xs u s h.1 i
passed (code n g e f ∷ xs) u s h = λ i. Unsigned (e (u f) h.0 i) ∷ passed xs u s h.1 i
passed (signed f ∷ xs) u s h = λ i. Signed (s f) ∷ passed xs u s h.1 i
passed (nothing ∷ xs) u s h =
    let z = is_zero (u (field_of_slot nothing)) h.0 in
    λ i. Unsigned (z i) ∷ passed xs u s h.1 i
  where
    is_zero : (n : ℕ) → n < 2 ^ 0 → 0 ≡ n
    is_zero n lt = omega arith

-- ---- the other way
pub one : (n : ℕ) (b : Bool) → n ≡ flag_bit b → (n == 1) ≡ b
one n true e = ap (λ k. k == 1) e
one n false e = ap (λ k. k == 1) e

pub cuts : (k n m : ℕ) → n ≡ m → n < 2 ^ k → n % 2 ^ k ≡ m
cuts k n m e lt = mod-eq_of_lt lt ∙ e

-- the fields have the numbers, as they are kept
unfoldable pub are_kept : List Slot → List Number → (Field → ℕ) → (Field → ℤ) → Type 0
are_kept [] ns u s = Unit {0}
are_kept (x ∷ xs) [] u s = Unit {0}
are_kept (flag f ∷ xs) (Unsigned n ∷ ns) u s = (u f ≡ n) × are_kept xs ns u s
are_kept (cut k f ∷ xs) (Unsigned n ∷ ns) u s = (u f % 2 ^ k ≡ n) × are_kept xs ns u s
are_kept (code k g e f ∷ xs) (Unsigned n ∷ ns) u s = ((u f ≡ n) × (u f < 2 ^ k)) × are_kept xs ns u s
are_kept (signed f ∷ xs) (Signed z ∷ ns) u s = (s f ≡ z) × are_kept xs ns u s
are_kept (_ ∷ xs) (_ ∷ ns) u s = Unit {0} × are_kept xs ns u s

pub keeps : (xs : List Slot) (ns : List Number) (u : Field → ℕ) (s : Field → ℤ) → agrees (fields_of xs) ns u s
    → are_small (takes_of xs) (fields_of xs) u → are_kept xs ns u s
unfolding take_of field_of_slot agrees are_small are_kept
keeps [] ns u s a h = tt
keeps (x ∷ xs) [] u s a h = tt
keeps (flag f ∷ xs) (Unsigned n ∷ ns) u s a h = (a.0, keeps xs ns u s a.1 h.1)
keeps (flag f ∷ xs) (Signed z ∷ ns) u s a h = (tt, keeps xs ns u s a.1 h.1)
keeps (cut k f ∷ xs) (Unsigned n ∷ ns) u s a h = (cuts k (u f) n a.0 h.0, keeps xs ns u s a.1 h.1)
keeps (cut k f ∷ xs) (Signed z ∷ ns) u s a h = (tt, keeps xs ns u s a.1 h.1)
keeps (code k g e f ∷ xs) (Unsigned n ∷ ns) u s a h = ((a.0, h.0), keeps xs ns u s a.1 h.1)
keeps (code k g e f ∷ xs) (Signed z ∷ ns) u s a h = (tt, keeps xs ns u s a.1 h.1)
keeps (signed f ∷ xs) (Signed z ∷ ns) u s a h = (a.0, keeps xs ns u s a.1 h.1)
keeps (signed f ∷ xs) (Unsigned n ∷ ns) u s a h = (tt, keeps xs ns u s a.1 h.1)
keeps (nothing ∷ xs) (Unsigned n ∷ ns) u s a h = (tt, keeps xs ns u s a.1 h.1)
keeps (nothing ∷ xs) (Signed z ∷ ns) u s a h = (tt, keeps xs ns u s a.1 h.1)
