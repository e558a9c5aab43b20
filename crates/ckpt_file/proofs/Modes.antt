-- Lengths, sizes of ZA and depths by numbers, and by the types of a thread.
use Rattle.std.proofs.Common.{◌≡◌, ℕ, zero, suc, ◌*◌, ◌%◌, ◌<◌, ◌≤◌, ◌==◌, ◌&&◌, ◌||◌, ◌^◌, Bool, true, false, refl, ap, sym, ◌∙◌, arith}
use Rattle.std.specs.Prelude.{nat_lt, nat_le, if◌then◌else◌}
use Rattle.std.proofs.lemmas.Bool.Decides.{nat_tests}
use Rattle.std.proofs.Math.Nat.{div-one}
use Rattle.std.proofs.lemmas.Bool.{eqb-true, and_from}
use Rattle.plain_lemmas.proofs.Tests.{or_resolve_left, and_second}
use Rattle.sm_types.specs.Options.{numbers_of, version_of}
use Rattle.sm_types.specs.declared.config.Config.{Config}
use Rattle.sm_types.specs.declared.version.Version.TheVariants.{One, Two}
use Rattle.sve_vectors.specs.Lengths.{vector_bytes, current_bytes}
use Rattle.machine_step.specs.System.{bit_at}
use Rattle.kernel_contexts.specs.Kernel.{depth_limit}
use Rattle.ckpt_fields.specs.Rows.{length_for, array_size, most_depth, is_mask}

-- PSTATE.SM in SVCR
pub lowest_bit : (svcr : ℕ) → bit_at svcr 0 ≡ (svcr % 2 == 1)
lowest_bit svcr = ap (λ n. n % 2 == 1) (div-one svcr)

pub length_is : (config : Config) (svcr : ℕ)
    → length_for (numbers_of config) svcr ≡ current_bytes config.vl config.svl (bit_at svcr 0)
length_is config svcr =
    ap (λ b. if b then vector_bytes config.svl else vector_bytes config.vl) (sym (lowest_bit svcr))

-- PSTATE.ZA in SVCR
pub second_bit : (svcr : ℕ) → svcr < 4 → nat_le 2 svcr ≡ bit_at svcr 1
second_bit zero l = refl
second_bit (suc zero) l = refl
second_bit (suc (suc zero)) l = refl
second_bit (suc (suc (suc zero))) l = refl
second_bit (suc (suc (suc (suc svcr)))) l = absurd (omega arith)

pub array_is : (config : Config) (svcr : ℕ) → svcr < 4
    → array_size (numbers_of config) svcr ≡ (if bit_at svcr 1 then vector_bytes config.svl else 0)
array_is config svcr l = ap (λ b. if b then vector_bytes config.svl else 0) (second_bit svcr l)

times_if : (b : Bool) (size : ℕ) → (if b then size else 0) * size ≡ (if b then size * size else 0)
times_if true size = refl
times_if false size = omega arith

pub array_bytes : (config : Config) (svcr : ℕ) → svcr < 4
    → array_size (numbers_of config) svcr * vector_bytes config.svl
    ≡ (if bit_at svcr 1 then vector_bytes config.svl * vector_bytes config.svl else 0)
array_bytes config svcr l =
    ap (λ n. n * vector_bytes config.svl) (array_is config svcr l) ∙ times_if (bit_at svcr 1) (vector_bytes config.svl)

-- ---- the kernel's version

first_version : (k : ℕ) → 1 ≤ k → k ≤ 2 → (k == 2) ≡ nat_lt 1 k
first_version zero l m = absurd (omega arith)
first_version (suc zero) l m = refl
first_version (suc (suc zero)) l m = refl
first_version (suc (suc (suc k))) l m = absurd (omega arith)

depth_by : (b : Bool) → (if b then 64 else 1) ≡ depth_limit (if b then Two else One)
depth_by true = refl
depth_by false = refl

pub depth_is : (config : Config) → most_depth (numbers_of config).kernel ≡ depth_limit (version_of config)
unfolding version_of
depth_is config =
    let test : (config.kernel == 2) ≡ nat_lt 1 config.kernel =
    first_version config.kernel config.kernel_in_range.0 config.kernel_in_range.1 in
    ap (λ b. if b then 64 else 1) (sym test) ∙ depth_by (config.kernel == 2)

version_by : (b : Bool) → (if b then Two else One) ≡ One → b ≡ false
version_by true e = cc
version_by false e = refl

pub unmasked_by : (config : Config) (mask : ℕ) → is_mask config.kernel mask ≡ true → version_of config ≡ One → mask ≡ 0
unfolding version_of
unmasked_by config mask h one =
    let test : (config.kernel == 2) ≡ nat_lt 1 config.kernel =
    first_version config.kernel config.kernel_in_range.0 config.kernel_in_range.1 in
    let low : nat_lt 1 config.kernel ≡ false = sym test ∙ version_by (config.kernel == 2) one in
    let either : (nat_lt 1 config.kernel || (mask == 0)) ≡ true =
    and_second ((mask % 2 == 0) && nat_lt mask (2 ^ 63)) (nat_lt 1 config.kernel || (mask == 0)) h in
    eqb-true mask 0 (or_resolve_left (nat_lt 1 config.kernel) (mask == 0) either low)

unmasked_or : (b : Bool) (m : ℕ) → ((if b then Two else One) ≡ One → m ≡ 0) → (b || (m == 0)) ≡ true
unmasked_or true m h = refl
unmasked_or false m h = let none : m ≡ 0 = h refl in ap (λ n. n == 0) none

-- a mask in the signals' bits, which is 0 in version 1
pub mask_by : (config : Config) (mask : ℕ) → mask % 2 ≡ 0 → mask < 2 ^ 63 → (version_of config ≡ One → mask ≡ 0)
    → is_mask config.kernel mask ≡ true
unfolding version_of
mask_by config mask even low one =
    let test : (config.kernel == 2) ≡ nat_lt 1 config.kernel =
    first_version config.kernel config.kernel_in_range.0 config.kernel_in_range.1 in
    let first : (mask % 2 == 0) ≡ true = grind (arith, nat_tests) in
    let second : nat_lt mask (2 ^ 63) ≡ true = grind (arith, nat_tests) in
    and_from ((mask % 2 == 0) && nat_lt mask (2 ^ 63)) (nat_lt 1 config.kernel || (mask == 0))
    (and_from (mask % 2 == 0) (nat_lt mask (2 ^ 63)) first second)
    (ap (λ b. b || (mask == 0)) (sym test) ∙ unmasked_or (config.kernel == 2) mask one)
