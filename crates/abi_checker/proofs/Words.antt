-- A word in memory, whatever its permission.
use Rattle.std.proofs.Common.{◌≡◌, ℕ, zero, suc, ◌+◌, ◌%◌, ◌^◌, ◌<◌, List, [], ◌∷◌, refl, ap, sym, ◌∙◌, arith, Some, None, Option, Bool}
use Rattle.std.proofs.Common.{true, false}
use Rattle.std.specs.Prelude.{cond, option_map}
use Rattle.std.specs.Int.{from_le_bytes, w32}
use Rattle.sm_types.specs.Bytes.{little_number}
use Rattle.paged_memory.specs.Memory.{AddressSpace, bytes_with, byte_with, and_byte, permitted, permits, word_at}
use Rattle.abi_checker.specs.Marks.{word_in}
use Rattle.abi_checker.proofs.Listed.{always}

if_permitted : (t : Bool) (o : Option ℕ) (b : ℕ) → cond t o None ≡ Some b → o ≡ Some b
if_permitted true o b h = h
if_permitted false o b h = cc

any_permitted : (need : ℕ) (p o : Option ℕ) (b : ℕ) → permitted need p o ≡ Some b → permitted 0 p o ≡ Some b
any_permitted need None o b h = cc
any_permitted need (Some flags) o b h = ap (λ t. cond t o None) (always flags) ∙ if_permitted (permits need flags) o b h

byte_any : (need : ℕ) (m : AddressSpace) (a b : ℕ) → byte_with need m a ≡ Some b → byte_with 0 m a ≡ Some b
unfolding byte_with
byte_any need m a b h = any_permitted need _ _ b h

and_any : (x y : Option (List ℕ)) (p q : Option ℕ) (bs : List ℕ) → ((xs : List ℕ) → x ≡ Some xs → y ≡ Some xs)
    → ((b : ℕ) → p ≡ Some b → q ≡ Some b) → and_byte x p ≡ Some bs → and_byte y q ≡ Some bs
and_any None y p q bs f g h = cc
and_any (Some xs) y None q bs f g h = cc
and_any (Some xs) y (Some b) q bs f g h = ap (λ o. and_byte o q) (f xs refl) ∙ ap (λ o. and_byte (Some xs) o) (g b refl) ∙ h

pub bytes_any : (need : ℕ) (m : AddressSpace) (a n : ℕ) (bs : List ℕ) → bytes_with need m a n ≡ Some bs → bytes_with 0 m a n ≡ Some bs
unfolding bytes_with
bytes_any need m a zero bs h = h
bytes_any need m a (suc n) bs h =
    and_any (bytes_with need m a n) (bytes_with 0 m a n) (byte_with need m ((a + n) % 2 ^ 64)) (byte_with 0 m ((a + n) % 2 ^ 64)) bs
    (λ xs e. bytes_any need m a n xs e) (λ b e. byte_any need m ((a + n) % 2 ^ 64) b e) h

number_any : (x y : Option (List ℕ)) (w : ℕ) → ((bs : List ℕ) → x ≡ Some bs → y ≡ Some bs)
    → option_map little_number x ≡ Some w → Some w ≡ option_map little_number y
number_any None y w f h = cc
number_any (Some bs) y w f h = sym h ∙ sym (ap (λ o. option_map little_number o) (f bs refl))

pub word_any : (m : AddressSpace) (a w : ℕ) → word_at m a ≡ Some w → Some w ≡ word_in m a
unfolding word_at
word_any m a w h = number_any (bytes_with 1 m a 4) (bytes_with 0 m a 4) w (λ bs e. bytes_any 1 m a 4 bs e) h

-- ---- the word of four bytes

unfoldable pub of_bytes : Option ℕ → Option ℕ → Option ℕ → Option ℕ → Option ℕ
of_bytes a b c d = option_map little_number (and_byte (and_byte (and_byte (and_byte (Some []) a) b) c) d)

pub word_is : (m : AddressSpace) (a : ℕ) (w x y z : Option ℕ) → a < 2 ^ 64 → w ≡ byte_with 0 m a → x ≡ byte_with 0 m ((a + 1) % 2 ^ 64)
    → y ≡ byte_with 0 m ((a + 2) % 2 ^ 64) → z ≡ byte_with 0 m ((a + 3) % 2 ^ 64) → of_bytes w x y z ≡ word_in m a
unfolding bytes_with of_bytes
word_is m a w x y z small e f g h =
    let first : (a + 0) % 2 ^ 64 ≡ a = omega (arith, small) in
    rw (e, f, g, h, first) refl

pub no_first : (x y z : Option ℕ) → None ≡ of_bytes None x y z
unfolding of_bytes
no_first x y z = refl

pub no_second : (b : ℕ) (y z : Option ℕ) → None ≡ of_bytes (Some b) None y z
unfolding of_bytes
no_second b y z = refl

pub no_third : (b c : ℕ) (z : Option ℕ) → None ≡ of_bytes (Some b) (Some c) None z
unfolding of_bytes
no_third b c z = refl

pub no_fourth : (b c d : ℕ) → None ≡ of_bytes (Some b) (Some c) (Some d) None
unfolding of_bytes
no_fourth b c d = refl

four : (b c d e : ℕ) → little_number (b ∷ c ∷ d ∷ e ∷ []) ≡ from_le_bytes w32 (b ∷ c ∷ d ∷ e ∷ [])
four b c d e = omega arith

pub all_four : (n b c d e : ℕ) → n ≡ from_le_bytes w32 (b ∷ c ∷ d ∷ e ∷ []) → Some n ≡ of_bytes (Some b) (Some c) (Some d) (Some e)
unfolding of_bytes
all_four n b c d e h = ap Some (h ∙ sym (four b c d e))
