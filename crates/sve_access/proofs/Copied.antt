-- Elements that are as long in memory as in the register: their bytes are the vector's.
use Rattle.std.proofs.Common.{◌≡◌, ℕ, zero, suc, ◌+◌, ◌*◌, ◌/◌, ◌%◌, ◌<◌, ◌≤◌, false, List, [], ◌∷◌, ◌++◌, length, take, drop, get_or}
use Rattle.std.proofs.Common.{refl, ap, ap₂, sym, ◌∙◌, arith, Fits, if◌then◌else◌, length-drop}
use Rattle.std.specs.Int.{w8}
use Rattle.std.specs.Simd.Lanes.{number_l, digits_l, Each1, chunk}
use Rattle.std.proofs.Math.Seq.{take-add, take-length}
use Rattle.std.proofs.lemmas.List.{length-take-le}
use Rattle.std.proofs.lemmas.Simd.{below_from_Fits, chunk-fits}
use Rattle.sm_types.specs.declared.vector.LoadType.{LoadType}
use Rattle.vector_elements.specs.declared.size.Size.{Size}
use Rattle.vector_elements.specs.declared.size.Size.TheVariants.{B, H, S, D}
use Rattle.vector_elements.specs.Elements.{listed, element_of, bytes_of, each_element}
use Rattle.vector_elements.specs.Numbers.{bytes_in, signed_of, wrapped}
use Rattle.vector_elements.proofs.Lists.{bytes-append, bytes-one}
use Rattle.vector_elements.proofs.Masks.{each_same}
use Rattle.sve_access.specs.Contiguous.{memory_size, element_size, is_signed, loaded}

-- bytes are the digits of the number that they are
digits_read : (xs : List ℕ) → Each1 (λ x. x < 256) xs → digits_l 256 (length xs) (number_l 256 xs) ≡ xs
digits_read [] fits = refl
digits_read (x ∷ xs) fits =
    let first : x < 256 = fits.0 in
    let low : (x + 256 * number_l 256 xs) % 256 ≡ x = omega (arith, first) in
    let rest : (x + 256 * number_l 256 xs) / 256 ≡ number_l 256 xs = omega (arith, first) in
    ap₂ (λ a n. a ∷ digits_l 256 (length xs) n) low rest ∙ ap (λ t. x ∷ t) (digits_read xs fits.1)

element_bytes : (e : ℕ) (bytes : List ℕ) (at : ℕ) → ((k : ℕ) → Fits w8 (get_or bytes k 0)) → at + e ≤ length bytes
    → digits_l 256 e (number_l 256 (take e (drop at bytes))) ≡ take e (drop at bytes)
element_bytes e bytes at fits room =
    let rest = length-drop at bytes in
    let long : length (take e (drop at bytes)) ≡ e = length-take-le e (drop at bytes) (omega (arith, rest, room)) in
    ap (λ n. digits_l 256 n (number_l 256 (take e (drop at bytes)))) (sym long)
    ∙ digits_read (take e (drop at bytes)) (below_from_Fits w8 _ (chunk-fits w8 at e bytes fits))

-- the bytes of the first elements
first_elements : (e : ℕ) (bytes : List ℕ) (n : ℕ) → ((k : ℕ) → Fits w8 (get_or bytes k 0)) → e * n ≤ length bytes
    → bytes_of e (listed (element_of e bytes) n) ≡ take (e * n) bytes
unfolding listed element_of bytes_of
first_elements e bytes zero fits room = let none : e * 0 ≡ 0 = omega arith in sym (ap (λ k. take k bytes) none)
first_elements e bytes (suc n) fits room =
    let next : e * suc n ≡ e * n + e = omega arith in
    let within : e * n + e ≤ length bytes = omega (arith, room, next) in
    bytes-append e (listed (element_of e bytes) n) (element_of e bytes n ∷ [])
    ∙ ap₂ (λ a b. a ++ b) (first_elements e bytes n fits (omega (arith, within)))
    (bytes-one e (element_of e bytes n) ∙ element_bytes e bytes (e * n) fits within)
    ∙ sym (take-add (e * n) e bytes)
    ∙ ap (λ k. take k bytes) (sym next)

whole : (size : Size) (n : ℕ) → n % bytes_in size ≡ 0 → bytes_in size * (n / bytes_in size) ≡ n
whole B n all = omega (arith, all)
whole H n all = omega (arith, all)
whole S n all = omega (arith, all)
whole D n all = omega (arith, all)

turned : (size : Size) (n : ℕ) → n % bytes_in size ≡ 0 → n / bytes_in size * bytes_in size ≡ n
turned B n all = omega (arith, all)
turned H n all = omega (arith, all)
turned S n all = omega (arith, all)
turned D n all = omega (arith, all)

-- there are as many bytes in memory as in the register
pub as_long : (memory element : Size) (n k : ℕ) → memory ≡ element → n % bytes_in element ≡ 0
    → k ≡ n / bytes_in element * bytes_in memory → k ≡ n
as_long memory element n k same all is = is ∙ ap (λ (size : Size). n / bytes_in element * bytes_in size) same ∙ turned element n all

-- a load of all elements from their bytes
pub copied : (kind : LoadType) (z bytes : List ℕ) → memory_size kind ≡ element_size kind → is_signed kind ≡ false
    → length z % bytes_in (element_size kind) ≡ 0 → length bytes ≡ length z → ((k : ℕ) → Fits w8 (get_or bytes k 0))
    → bytes ≡ each_element (bytes_in (element_size kind)) z (λ i old. loaded kind (element_of (bytes_in (memory_size kind)) bytes i))
unfolding each_element loaded
copied kind z bytes same unsigned all long fits =
    let e = bytes_in (element_size kind) in
    let n = length z / e in
    let end : e * n ≡ length bytes = whole (element_size kind) (length z) all ∙ sym long in
    sym (each_same e z (λ i old. loaded kind (element_of (bytes_in (memory_size kind)) bytes i)) (λ i old. element_of e bytes i)
    (λ i below old.
    ap (λ b. if b then wrapped (element_size kind) (signed_of (memory_size kind) (element_of (bytes_in (memory_size kind)) bytes i))
    else element_of (bytes_in (memory_size kind)) bytes i) unsigned
    ∙ ap (λ (size : Size). element_of (bytes_in size) bytes i) same)
    ∙ first_elements e bytes n fits (omega (arith, end))
    ∙ ap (λ k. take k bytes) end ∙ take-length bytes)
