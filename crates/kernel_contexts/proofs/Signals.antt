-- Signals that are held and open, by their bits, and how many are held.
use Rattle.std.proofs.Common.{◌≡◌, inl, inr, ℕ, zero, suc, ◌+◌, ◌-◌, ◌/◌, ◌%◌, ◌^◌, ◌<◌, ◌≤◌, ◌==◌, Bool, true, false, cond}
use Rattle.std.proofs.Common.{Some, None, refl, ap, sym, ◌∙◌, arith, bit_and}
use Rattle.std.specs.Prelude.{min}
use Rattle.std.specs.Int.{w64, trailing_zeros, bit_at, bit_not}
use Rattle.std.specs.FinMap.{FinMap, get}
use Rattle.std.specs.Ordering.{nat_cmp}
use Rattle.std.proofs.Math.Nat.{pow-suc}
use Rattle.std.proofs.lemmas.Nat.{and_le_r}
use Rattle.std.proofs.lemmas.Nat.Bits.{bit_at-trailing_zeros, bit_at_above, bit_at_lowest, bit_at-suc, bit_at_and, bit_at-lt}
use Rattle.std.proofs.lemmas.Bool.Decides.{nat_tests}
use Rattle.std.proofs.lemmas.Bool.{cases_lt}
use Rattle.machine_step.specs.ProcessorState.{ProcessorState}
use Rattle.signal_frames.specs.Return.{bytes_read, unmasked}
use Rattle.signal_frames.specs.Saved.{saved_masking}
use Rattle.signal_frames.specs.declared.masking.Masking.{Masking}
use Rattle.sm_types.specs.declared.version.Version.{Version}
use Rattle.sm_types.specs.declared.version.Version.TheVariants.{One}
use Rattle.kernel_contexts.specs.Handlers.{is_signal, with_handler}
use Rattle.kernel_contexts.specs.Kernel.{masked_inside}
use Rattle.kernel_contexts.specs.State.{State}
use Rattle.kernel_contexts.specs.Turn.{open_signals, lowest_signal}
use Rattle.kernel_contexts.specs.Watch.{ones, count_signals, waiting, AreOfSignals}
use Rattle.kernel_contexts.proofs.HandlerTable.{address_or_none, get-with_handler}

-- ---- bits of a number

-- a number is no less than one of its bits
pub at_least : (v k : ℕ) → bit_at v k ≡ 1 → 2 ^ k ≤ v
at_least v k h = elim (cases_lt v (2 ^ k)) [
  | inl under ↦ let none : bit_at v k ≡ 0 = bit_at_above v k k under (omega arith) in absurd (omega (arith, none, h))
  | inr over ↦ over
]

-- the bits of a number without one of them
record Cleared (v k : ℕ) : Type 0 where
  low : (v - 2 ^ suc k) % 2 ≡ v % 2
  high : (v - 2 ^ suc k) / 2 ≡ v / 2 - 2 ^ k
  bit : bit_at (v / 2) k ≡ 1

cleared : (v k : ℕ) → bit_at v (suc k) ≡ 1 → Cleared v k
cleared v k h =
    let bit : bit_at (v / 2) k ≡ 1 = sym (bit_at-suc v k) ∙ h in
    let least : 2 ^ k ≤ v / 2 = at_least (v / 2) k bit in
    let power = pow-suc 2 k in
    record { low = omega (arith, power, least); high = omega (arith, power, least); bit = bit }

-- and without its lowest, which is set
odd_high : (v : ℕ) → bit_at v 0 ≡ 1 → (v - 1) / 2 ≡ v / 2
odd_high v h = let odd : v % 2 ≡ 1 = sym (bit_at_lowest v) ∙ h in omega (arith, odd)

odd_low : (v : ℕ) → bit_at v 0 ≡ 1 → (v - 1) % 2 + 1 ≡ v % 2
odd_low v h = let odd : v % 2 ≡ 1 = sym (bit_at_lowest v) ∙ h in omega (arith, odd)

-- ---- how many are set

ones_few : (n v : ℕ) → ones n v ≤ n
unfolding ones
ones_few zero v = omega arith
ones_few (suc n) v = let rest : ones n (v / 2) ≤ n = ones_few n (v / 2) in omega arith

ones_less : (n k v : ℕ) → k < n → bit_at v k ≡ 1 → ones n (v - 2 ^ k) + 1 ≡ ones n v
unfolding ones
ones_less zero k v l h = absurd (omega arith)
ones_less (suc n) zero v l h = omega (arith, odd_low v h, ap (ones n) (odd_high v h))
ones_less (suc n) (suc k) v l h =
    let c : Cleared v k = cleared v k h in
    omega (arith, c.low, ap (ones n) c.high, ones_less n k (v / 2) (omega arith) c.bit)

ones_keep : (n k v : ℕ) → n ≤ k → bit_at v k ≡ 1 → ones n (v - 2 ^ k) ≡ ones n v
unfolding ones
ones_keep zero k v l h = refl
ones_keep (suc n) zero v l h = absurd (omega arith)
ones_keep (suc n) (suc k) v l h =
    let c : Cleared v k = cleared v k h in
    omega (arith, c.low, ap (ones n) c.high, ones_keep n k (v / 2) (omega arith) c.bit)

few_signals : (held : ℕ) → count_signals held ≤ 62
unfolding count_signals
few_signals held = ones_few 62 (held / 2)

-- a signal that is held no longer
less_signals : (held k : ℕ) → bit_at held k ≡ 1 → 1 ≤ k → k ≤ 62 → count_signals (held - 2 ^ k) + 1 ≡ count_signals held
unfolding count_signals
less_signals held zero h least most = absurd (omega arith)
less_signals held (suc k) h least most =
    let c : Cleared held k = cleared held k h in
    ap (λ n. n + 1) (ap (ones 62) c.high) ∙ ones_less 62 k (held / 2) (omega arith) c.bit

keep_signals : (held k : ℕ) → bit_at held k ≡ 1 → 62 < k → count_signals (held - 2 ^ k) ≡ count_signals held
unfolding count_signals
keep_signals held zero h past = absurd (omega arith)
keep_signals held (suc k) h past =
    let c : Cleared held k = cleared held k h in
    ap (ones 62) c.high ∙ ones_keep 62 k (held / 2) (omega arith) c.bit

first_signals : (held : ℕ) → bit_at held 0 ≡ 1 → count_signals (held - 1) ≡ count_signals held
unfolding count_signals
first_signals held h = ap (ones 62) (odd_high held h)

no_more_signals : (held k : ℕ) → bit_at held k ≡ 1 → count_signals (held - 2 ^ k) ≤ count_signals held
no_more_signals held zero h = omega (arith, first_signals held h)
no_more_signals held (suc k) h = elim (cases_lt 62 (suc k)) [
  | inl past ↦ omega (arith, keep_signals held (suc k) h past)
  | inr within ↦ omega (arith, less_signals held (suc k) h (omega arith) within)
]

-- ---- the turns since the last counted instruction

pub waiting_small : (polled : Bool) (held : ℕ) → waiting polled held ≤ 63
waiting_small false held = omega arith
waiting_small true held = omega arith

pub waiting_some : (held : ℕ) → 1 ≤ waiting true held
waiting_some held = let few : count_signals held ≤ 62 = few_signals held in omega arith

pub signal_range : (k : ℕ) → is_signal k ≡ true → (1 ≤ k) × (k ≤ 62)
signal_range k h = (grind (arith, nat_tests), grind (arith, nat_tests))

pub waiting_more : (held k : ℕ) → bit_at held k ≡ 1 → is_signal k ≡ true → waiting true (held - 2 ^ k) ≡ waiting true held + 1
waiting_more held k h signal =
    let range : (1 ≤ k) × (k ≤ 62) = signal_range k signal in
    let few : count_signals held ≤ 62 = few_signals held in
    let less : count_signals (held - 2 ^ k) + 1 ≡ count_signals held = less_signals held k h range.0 range.1 in
    omega arith

pub waiting_keeps : (polled : Bool) (held k : ℕ) → bit_at held k ≡ 1 → waiting polled held ≤ waiting polled (held - 2 ^ k)
waiting_keeps false held k h = omega arith
waiting_keeps true held k h = let less : count_signals (held - 2 ^ k) ≤ count_signals held = no_more_signals held k h in omega arith

pub signal_is : (k : ℕ) → 1 ≤ k → k ≤ 62 → is_signal k ≡ true
signal_is k least most = grind (arith, nat_tests)

-- ---- the lowest signal that is open

pub record IsLowest (held mask : ℕ) : Type 0 where
  pub within : trailing_zeros w64 (bit_and held (bit_not w64 mask)) < 64
  pub bit : bit_at held (trailing_zeros w64 (bit_and held (bit_not w64 mask))) ≡ 1

pub lowest_open : (held mask : ℕ) → (bit_and held (bit_not w64 mask) == 0) ≡ false → IsLowest held mask
lowest_open held mask some_open =
    let bits_open : ℕ = bit_and held (bit_not w64 mask) in
    let some : 0 < bits_open = grind (arith, nat_tests) in
    let small : bits_open < 2 ^ 64 = omega (arith, and_le_r held (bit_not w64 mask)) in
    let h = bit_at-trailing_zeros w64 bits_open some small in
    let k : ℕ = trailing_zeros w64 bits_open in
    let both : bit_at bits_open k ≡ min (bit_at held k) (bit_at (bit_not w64 mask) k) = bit_at_and held (bit_not w64 mask) k in
    let low : bit_at held k < 2 = bit_at-lt held k in
    record { within = h.0; bit = omega (arith, both, h.1, low) }

pub open_held : (s : State) → (open_signals s == 0) ≡ false → bit_at s.held (lowest_signal s) ≡ 1
open_held s some_open = (lowest_open s.held s.mask some_open).bit

-- ---- version 1 masks no signal

pub none_inside : (v version : Version) (signal mask : ℕ) → v ≡ version → version ≡ One → mask ≡ 0 → masked_inside v signal mask ≡ 0
none_inside v version signal mask same first none =
    ap (λ w. masked_inside w signal mask) (same ∙ first) ∙ none

pub none_returned : (v version : Version) (depth vl : ℕ) (s : ProcessorState) (masking : Masking) → v ≡ version → version ≡ One
    → masking ≡ unmasked v depth vl s → masking.mask ≡ 0
unfolding unmasked
none_returned v version depth vl s masking same first is =
    ap (λ (m : Masking). m.mask) is ∙ ap (λ w. (saved_masking w (bytes_read w depth vl s)).mask) (same ∙ first)

-- ---- handlers of signals

pub of_signal : (handlers : FinMap nat_cmp ℕ) (k handler : ℕ) → AreOfSignals handlers → get handlers k ≡ Some handler
    → is_signal k ≡ true
of_signal handlers k handler h is = by_test (is_signal k) refl
  where
    by_test : (b : Bool) → is_signal k ≡ b → is_signal k ≡ true
    by_test true e = e
    by_test false e = let none : None ≡ Some handler = sym (h k e) ∙ is in cc

other_key : (k q : ℕ) → is_signal k ≡ true → is_signal q ≡ false → (k == q) ≡ false
other_key k q signal other = grind (arith, nat_tests)

pub kept_of_signals : (handlers : FinMap nat_cmp ℕ) (k a : ℕ) → is_signal k ≡ true → AreOfSignals handlers
    → AreOfSignals (with_handler handlers k a)
kept_of_signals handlers k a signal h q other =
    get-with_handler handlers k a q
    ∙ ap (λ b. cond b (address_or_none a) (get handlers q)) (other_key k q signal other) ∙ h q other
