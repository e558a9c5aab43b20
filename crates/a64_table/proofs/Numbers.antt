-- The number of what a number stands for is that number.
use Rattle.std.proofs.Common.{◌≡◌, ℕ, ◌<◌, refl, ap}
use Rattle.insn_forms.proofs.Numbers.{all_below, same_below}
use Rattle.a64_table.specs.Values.{access_size_number, access_size_of, condition_number, condition_of, extend_number, extend_of}
use Rattle.a64_table.specs.Values.{load_store_op_number, load_store_op_of, shift_number, shift_of}
use Rattle.sm_types.specs.declared.insn as types
use types.{Condition.Condition, Condition.TheVariants.Eq, ShiftKind.ShiftKind, ShiftKind.TheVariants.Lsl, Extend.Extend}
use types.{Extend.TheVariants.Uxtb, AccessSize.AccessSize, AccessSize.TheVariants.Byte, LoadStoreOp.LoadStoreOp}
use types.{LoadStoreOp.TheVariants.Store}

pub condition_back : (n : ℕ) → n < 16 → condition_number (condition_of n) ≡ n
unfolding condition_of all_below
condition_back n lt = same_below (λ m. condition_number (condition_of m)) 16 n refl lt

pub condition_is : (n : ℕ) (it : Condition) → n ≡ condition_number it → condition_of n ≡ it
unfolding condition_of
condition_is n Eq e = ap condition_of e
condition_is n _ e = ap condition_of e

pub shift_back : (n : ℕ) → n < 4 → shift_number (shift_of n) ≡ n
unfolding shift_of all_below
shift_back n lt = same_below (λ m. shift_number (shift_of m)) 4 n refl lt

pub shift_is : (n : ℕ) (it : ShiftKind) → n ≡ shift_number it → shift_of n ≡ it
unfolding shift_of
shift_is n Lsl e = ap shift_of e
shift_is n _ e = ap shift_of e

pub extend_back : (n : ℕ) → n < 8 → extend_number (extend_of n) ≡ n
unfolding extend_of all_below
extend_back n lt = same_below (λ m. extend_number (extend_of m)) 8 n refl lt

pub extend_is : (n : ℕ) (it : Extend) → n ≡ extend_number it → extend_of n ≡ it
unfolding extend_of
extend_is n Uxtb e = ap extend_of e
extend_is n _ e = ap extend_of e

pub access_size_back : (n : ℕ) → n < 4 → access_size_number (access_size_of n) ≡ n
unfolding access_size_of all_below
access_size_back n lt = same_below (λ m. access_size_number (access_size_of m)) 4 n refl lt

pub access_size_is : (n : ℕ) (it : AccessSize) → n ≡ access_size_number it → access_size_of n ≡ it
unfolding access_size_of
access_size_is n Byte e = ap access_size_of e
access_size_is n _ e = ap access_size_of e

pub load_store_op_back : (n : ℕ) → n < 4 → load_store_op_number (load_store_op_of n) ≡ n
unfolding load_store_op_of all_below
load_store_op_back n lt = same_below (λ m. load_store_op_number (load_store_op_of m)) 4 n refl lt

pub load_store_op_is : (n : ℕ) (it : LoadStoreOp) → n ≡ load_store_op_number it → load_store_op_of n ≡ it
unfolding load_store_op_of
load_store_op_is n Store e = ap load_store_op_of e
load_store_op_is n _ e = ap load_store_op_of e
