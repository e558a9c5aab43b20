-- Masks whose elements are as long as the word: a run of ones, rotated.
use Rattle.std.proofs.Common.{◌≡◌, ℕ, ◌+◌, ◌-◌, ◌*◌, ◌%◌, ◌^◌, ◌<◌, Bool, true, false, sym, ap, ◌∙◌, subst, arith}
use Rattle.std.proofs.Common.{mod-eq_of_lt}
use Rattle.std.proofs.lemmas.Bool.{and_parts, or_parts, ltb-true, eqb-false, not-true}
use Rattle.std.proofs.lemmas.Nat.{mod_below}
use Rattle.std.specs.Int.{rotate_right, w64}
use Rattle.bit_ops.specs.Masks.{length_of, size_of, mask_of, are_mask_fields, is_reserved}
use Rattle.bit_ops.proofs.MaskBits.{highest_one-is, first_run, next_run, IsRun, mask-is}

-- the length of an element of 64 bits, and of one of 32
pub length_long : (imms : ℕ) → length_of true imms ≡ 6
unfolding length_of
length_long imms =
    let small : imms % 64 < 64 = mod_below imms 64 (omega arith) in
    highest_one-is 7 6 (64 + (63 - imms % 64)) (omega arith) (omega arith) (omega arith)

pub length_short : (imms : ℕ) → imms < 32 → length_of false imms ≡ 5
unfolding length_of
length_short imms lt =
    let same : imms % 64 ≡ imms = mod-eq_of_lt (let h : imms < 64 = omega arith in h) in
    highest_one-is 7 5 (0 + (63 - imms % 64)) (omega (arith, same)) (omega (arith, same)) (omega arith)

-- the fields that have a mask
pub ones_below : (n wide : Bool) (imms immr length : ℕ) → length_of n imms ≡ length → imms < 2 ^ length
    → are_mask_fields n imms immr wide ≡ true → (imms < 2 ^ length - 1) × (immr < 2 ^ length)
unfolding are_mask_fields is_reserved
ones_below n wide imms immr length e lt h =
    let both = and_parts _ _ h in
    let free = or_parts _ _ (not-true (is_reserved n imms wide) both.0) in
    let apart = eqb-false _ _ free.1 in
    let same : imms % 2 ^ length ≡ imms = mod-eq_of_lt lt in
    let size : size_of n imms ≡ 2 ^ length = ap (λ k. 2 ^ k) e in
    let turn : immr < size_of n imms = ltb-true immr (size_of n imms) both.1 in
    let other : imms ≡ 2 ^ length - 1 → ⊥ =
    λ is. apart (ap (λ k. imms % k) size ∙ same ∙ is ∙ sym (ap (λ k. k - 1) size)) in
    (omega (arith, other), subst (λ k. immr < k) size turn)

-- 64 bits
pub long_is : (imms immr word : ℕ) → imms < 63 → immr < 64 → word ≡ 2 ^ (imms + 1) - 1 → word < 2 ^ 64
    → rotate_right w64 word immr < 2 ^ 64 → rotate_right w64 word immr ≡ mask_of true imms immr true
long_is imms immr word lt turn is small within =
    let run : IsRun 6 imms 6 (2 ^ (imms + 1) - 1) = first_run 6 imms (omega arith) in
    sym (mod-eq_of_lt within)
    ∙ mask-is true true imms immr 6 imms immr word (omega arith) (sym (length_long imms))
    (sym (mod-eq_of_lt (let h : imms < 64 = omega arith in h))) (sym (mod-eq_of_lt turn)) turn small
    (subst (IsRun 6 imms 6) (sym is) run).bits

-- 32 bits, twice
pub short_is : (imms immr word : ℕ) → imms < 31 → immr < 32 → word ≡ (2 ^ (imms + 1) - 1) * 2 ^ 32 + (2 ^ (imms + 1) - 1) → word < 2 ^ 64
    → rotate_right w64 word immr % 2 ^ 32 ≡ mask_of false imms immr false
short_is imms immr word lt turn is small =
    let run : IsRun 5 imms 6 ((2 ^ (imms + 1) - 1) * 2 ^ 32 + (2 ^ (imms + 1) - 1)) =
    next_run 5 imms 5 (2 ^ (imms + 1) - 1) (omega arith) (first_run 5 imms (omega arith)) in
    mask-is false false imms immr 5 imms immr word (omega arith) (sym (length_short imms (omega arith)))
    (sym (mod-eq_of_lt (let h : imms < 32 = omega arith in h))) (sym (mod-eq_of_lt turn)) (omega arith) small
    (subst (IsRun 5 imms 6) (sym is) run).bits
