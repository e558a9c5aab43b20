-- The number of what a number stands for is that number.
use Rattle.std.proofs.Common.{◌≡◌, ℕ, ◌+◌, ◌-◌, ◌<◌, ◌^◌, Bool, true, false, cond, nat_le, refl, ap, ◌∙◌}
use Rattle.std.proofs.Common.{arith, leb-true, le-leb}
use Rattle.insn_forms.proofs.Numbers.{all_below, same_below}
use Rattle.sm_types.specs.declared.vector as types
use types.Elem.TheVariants.{Q}
use types.VectorShiftOp.TheVariants.{Asr, Lsr, Lsl}
use types.{Elem.Elem, LoadType.LoadType, LoadType.TheVariants.ByteToB, VectorShiftOp.VectorShiftOp}
use Rattle.sve_table.specs.Values.{elem_number, elem_of, load_type_number, load_type_of, shift_amount}
use Rattle.sve_table.specs.Parts.{number_from, shift_number}

pub elem_back : (n : ℕ) → n < 4 → elem_number (elem_of n) ≡ n
unfolding elem_of all_below
elem_back n lt = same_below (λ m. elem_number (elem_of m)) 4 n refl lt

pub elem_is : (n : ℕ) (it : Elem) → (n ≡ elem_number it) × (n < 4) → elem_of n ≡ it
unfolding elem_of
elem_is n Q h = let e = h.0 in let lt = h.1 in absurd (omega arith)
elem_is n _ h = ap elem_of h.0

pub load_type_back : (n : ℕ) → n < 16 → load_type_number (load_type_of n) ≡ n
unfolding load_type_of all_below
load_type_back n lt = same_below (λ m. load_type_number (load_type_of m)) 16 n refl lt

pub load_type_is : (n : ℕ) (it : LoadType) → (n ≡ load_type_number it) × (n < 16) → load_type_of n ≡ it
unfolding load_type_of
load_type_is n ByteToB h = ap load_type_of h.0
load_type_is n _ h = ap load_type_of h.0

-- ---- numbers that are counted from a least one
pub from_back : (least bits n : ℕ) → n < 2 ^ bits → number_from least bits (least + n) ≡ n
unfolding number_from
from_back least bits n lt =
    ap (λ b. cond b (least + n - least) (2 ^ bits)) (le-leb least (least + n) (omega arith))
    ∙ (let e : least + n - least ≡ n = omega arith in e)

pub from_is : (least bits n it : ℕ) → (n ≡ number_from least bits it) × (n < 2 ^ bits) → least + n ≡ it
unfolding number_from
from_is least bits n it h = go (nat_le least it) refl h.0
  where
    go : (b : Bool) → nat_le least it ≡ b → n ≡ cond b (it - least) (2 ^ bits) → least + n ≡ it
    go true e f = let le = leb-true least it e in omega arith
    go false e f = let lt = h.1 in absurd (omega arith)

-- ---- amounts of shifts
right_back : (width n : ℕ) → n < width → cond (nat_le (width - n) width) (width - (width - n)) width ≡ n
right_back width n lt =
    ap (λ b. cond b (width - (width - n)) width) (le-leb (width - n) width (omega arith))
    ∙ (let e : width - (width - n) ≡ n = omega arith in e)

right_is : (width n amount : ℕ) → n ≡ cond (nat_le amount width) (width - amount) width → n < width → width - n ≡ amount
right_is width n amount h lt = go (nat_le amount width) refl h
  where
    go : (b : Bool) → nat_le amount width ≡ b → n ≡ cond b (width - amount) width → width - n ≡ amount
    go true e f = let le = leb-true amount width e in omega arith
    go false e f = absurd (omega arith)

pub shift_back : (op : VectorShiftOp) (bits n : ℕ) → n < 2 ^ bits → shift_number op (2 ^ bits) (shift_amount op (2 ^ bits) n) ≡ n
unfolding shift_number shift_amount
shift_back Lsl bits n lt = refl
shift_back Asr bits n lt = right_back (2 ^ bits) n lt
shift_back Lsr bits n lt = right_back (2 ^ bits) n lt

pub shift_is : (op : VectorShiftOp) (bits n amount : ℕ) → (n ≡ shift_number op (2 ^ bits) amount) × (n < 2 ^ bits)
    → shift_amount op (2 ^ bits) n ≡ amount
unfolding shift_number shift_amount
shift_is Lsl bits n amount h = h.0
shift_is Asr bits n amount h = right_is (2 ^ bits) n amount h.0 h.1
shift_is Lsr bits n amount h = right_is (2 ^ bits) n amount h.0 h.1
