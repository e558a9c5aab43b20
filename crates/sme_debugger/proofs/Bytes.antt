-- Bytes of memory that are printed part by part.
use Rattle.std.proofs.Common.{◌≡◌, ◌≢◌, ℕ, ◌+◌, ◌-◌, ◌%◌, ◌^◌, ◌≤◌, List, [], ◌∷◌, ◌++◌, take, drop, Option, Some, None, refl, ap, sym}
use Rattle.std.proofs.Common.{◌∙◌, arith, Result, Ok, Err}
use Rattle.std.specs.Prelude.{OnOk, OnErr, unwrap_or, slice_index, ◌/◌}
use Rattle.std.proofs.lemmas.List.{take-append-drop, drop-drop}
use Rattle.hex.specs.Hex.{encode_lower, encode_with, lower_digits}
use Rattle.paged_memory.specs.Memory.{AddressSpace, bytes_with, first_without}
use Rattle.paged_memory.proofs.Accesses.{bytes_with-zero}
use Rattle.paged_memory.specs.declared.pages.Abort.{Abort}
use Rattle.sve_access.proofs.Spans.{parts_read}
use Rattle.kernel_contexts.proofs.Reading.{readable}

-- the digits of two lists of bytes, one after the other
digits_both : (t xs ys : List ℕ) → encode_with t (xs ++ ys) ≡ encode_with t xs ++ encode_with t ys
unfolding encode_with
digits_both t [] ys = refl
digits_both t (x ∷ xs) ys = ap (λ l. slice_index t (x / 16) ∷ slice_index t (x % 16) ∷ l) (digits_both t xs ys)

no_digits : encode_lower [] ≡ []
unfolding encode_with
no_digits = refl

-- some of the bytes that are left come first
pub digits_next : (bytes : List ℕ) (done count : ℕ)
    → encode_lower (drop done bytes) ≡ encode_lower (take count (drop done bytes)) ++ encode_lower (drop (done + count) bytes)
digits_next bytes done count =
    sym (ap encode_lower (take-append-drop count (drop done bytes)))
    ∙ digits_both lower_digits (take count (drop done bytes)) (drop count (drop done bytes))
    ∙ ap (λ (l : List ℕ). encode_lower (take count (drop done bytes)) ++ encode_lower l) (drop-drop count done bytes)

-- a part of the bytes that can be read is read
part_read : (m : AddressSpace) (a size done count : ℕ) (bytes : List ℕ) → bytes_with 4 m a size ≡ Some bytes
    → done + count ≤ size → bytes_with 4 m ((a + done) % 2 ^ 64) count ≡ Some (take count (drop done bytes))
part_read m a size done count bytes read within =
    let rest = size - (done + count) in
    let parts : size ≡ done + (count + rest) = omega arith in
    let later = (parts_read 4 m a done (count + rest) bytes (ap (bytes_with 4 m a) (sym parts) ∙ read)).1 in
    (parts_read 4 m ((a + done) % 2 ^ 64) count rest (drop done bytes) later).0

got_there : (r : Result Unit Abort) (read : Option (List ℕ)) (got bytes : List ℕ) → OnOk r (read ≡ Some got) → OnErr r (read ≡ None)
    → read ≡ Some bytes → got ≡ bytes
got_there (Ok done) read got bytes ok err is = ap (λ o. unwrap_or o []) (sym ok ∙ is)
got_there (Err abort) read got bytes ok err is = let clash : None ≡ Some bytes = sym err ∙ is in cc

-- what was read of them
pub part_got : (r : Result Unit Abort) (m : AddressSpace) (a size done count at long : ℕ) (bytes got : List ℕ)
    → OnOk r (bytes_with 4 m at long ≡ Some got) → OnErr r (bytes_with 4 m at long ≡ None)
    → bytes_with 4 m a size ≡ Some bytes → done + count ≤ size → at ≡ (a + done) % 2 ^ 64 → long ≡ count
    → got ≡ take count (drop done bytes)
part_got r m a size done count at long bytes got ok err read within there same =
    got_there r (bytes_with 4 m at long) got (take count (drop done bytes)) ok err
    (ap (λ n. bytes_with 4 m n long) there ∙ ap (bytes_with 4 m ((a + done) % 2 ^ 64)) same
    ∙ part_read m a size done count bytes read within)

-- none is left after the last
pub none_left : (m : AddressSpace) (a size : ℕ) (bytes : List ℕ) → bytes_with 4 m a size ≡ Some bytes
    → encode_lower (drop size bytes) ≡ []
none_left m a size bytes read =
    let whole : size + 0 ≡ size = omega arith in
    let rest = (parts_read 4 m a size 0 bytes (ap (bytes_with 4 m a) whole ∙ read)).1 in
    ap (λ o. encode_lower (unwrap_or o [])) (sym rest ∙ bytes_with-zero 4 m ((a + size) % 2 ^ 64)) ∙ no_digits

some_of : (o : Option (List ℕ)) → o ≢ None → o ≡ Some (unwrap_or o [])
some_of None there = absurd (there refl)
some_of (Some bytes) there = refl

-- where each byte can be read, all are
pub all_read : (m : AddressSpace) (a size : ℕ) → first_without 4 m a size ≡ None
    → bytes_with 4 m a size ≡ Some (unwrap_or (bytes_with 4 m a size) [])
all_read m a size none = some_of (bytes_with 4 m a size) (readable 4 m a size none)
