-- The bytes of a frame, taken apart.
use Rattle.std.proofs.Common.{◌≡◌, ℕ, zero, suc, ◌+◌, ◌*◌, ◌^◌, ◌<◌, List, [], ◌∷◌, ◌++◌}
use Rattle.std.proofs.Common.{length, take, drop, get_or, refl, ap, sym, ◌∙◌, arith, append_assoc}
use Rattle.std.proofs.lemmas.List.{drop-drop, drop_at, take_at, drop-append-le}
use Rattle.std.specs.List.{concat, flat_map}
use Rattle.byteorder.specs.Endian.{little_number, little_bytes}
use Rattle.byteorder.specs.Numbers.{little_number-reads_back, length-bytes_low_first}
use Rattle.signal_frames.specs.Layout.{frame_tag, words_bytes, doublewords_bytes, head_bytes}
use Rattle.signal_frames.specs.Saved.{number_at}
use Rattle.sm_types.specs.declared.version.Version.{Version}
use Rattle.sm_types.specs.declared.version.Version.TheVariants.{One, Two}
use Rattle.signal_frames.proofs.Lengths.{length-numbers}

-- the numbers of the first 320 bytes, and what follows these
pub record Numbers : Type 0 where
  pub version : Version
  pub size : ℕ
  pub signal : ℕ
  pub x : List ℕ
  pub sp : ℕ
  pub pc : ℕ
  pub nzcv : ℕ
  pub svcr : ℕ
  pub tpidr2 : ℕ
  pub tpidr : ℕ
  pub l : ℕ
  pub s : ℕ
  pub rest : List ℕ

abbrev pub system_of : Numbers → List ℕ
system_of q = q.sp ∷ q.pc ∷ q.nzcv ∷ q.svcr ∷ q.tpidr2 ∷ q.tpidr ∷ []

abbrev pub bytes_of : Numbers → List ℕ
bytes_of q = head_bytes q.version (q.size ∷ q.signal ∷ []) q.x (system_of q) (q.l ∷ q.s ∷ []) ++ q.rest

-- what follows X30
abbrev pub tail_of : Numbers → List ℕ
tail_of q = (doublewords_bytes (system_of q) ++ words_bytes (q.l ∷ q.s ∷ [])) ++ q.rest

after_signal : (q : Numbers) → drop 16 (bytes_of q) ≡ doublewords_bytes q.x ++ tail_of q
after_signal q = append_assoc (doublewords_bytes q.x) (doublewords_bytes (system_of q) ++ words_bytes (q.l ∷ q.s ∷ [])) q.rest

after_x : (q : Numbers) → length q.x ≡ 31 → drop 264 (bytes_of q) ≡ tail_of q
after_x q count =
    let long : length (doublewords_bytes q.x) ≡ 248 = length-numbers 8 q.x ∙ ap (λ k. k * 8) count in
    sym (drop-drop 248 16 (bytes_of q)) ∙ ap (drop 248) (after_signal q) ∙ drop_at (doublewords_bytes q.x) (tail_of q) 248 long

pub after_head : (q : Numbers) (k : ℕ) → length q.x ≡ 31 → drop (320 + k) (bytes_of q) ≡ drop k q.rest
after_head q k count =
    sym (drop-drop k 320 (bytes_of q))
    ∙ ap (drop k) (sym (drop-drop 56 264 (bytes_of q)) ∙ ap (drop 56) (after_x q count))

-- ---- numbers

number_here : (frame rest : List ℕ) (offset n v : ℕ) → drop offset frame ≡ little_bytes n v ++ rest → v < 256 ^ n
    → number_at frame offset n ≡ v
unfolding number_at
number_here frame rest offset n v is low = ap (little_number n) is ∙ little_number-reads_back n v rest low

tag_low : (version : Version) → frame_tag version < 256 ^ 8
tag_low One = omega arith
tag_low Two = omega arith

pub tag_at : (q : Numbers) → number_at (bytes_of q) 0 8 ≡ frame_tag q.version
tag_at q = number_here (bytes_of q) _ 0 8 (frame_tag q.version) refl (tag_low q.version)

pub size_at : (q : Numbers) → q.size < 2 ^ 32 → number_at (bytes_of q) 8 4 ≡ q.size
size_at q low = number_here (bytes_of q) _ 8 4 q.size refl low

pub signal_at : (q : Numbers) → q.signal < 2 ^ 32 → number_at (bytes_of q) 12 4 ≡ q.signal
signal_at q low = number_here (bytes_of q) _ 12 4 q.signal refl low

tail_at : (q : Numbers) (rest : List ℕ) (k n v : ℕ) → length q.x ≡ 31 → drop k (tail_of q) ≡ little_bytes n v ++ rest → v < 256 ^ n
    → number_at (bytes_of q) (264 + k) n ≡ v
tail_at q rest k n v count is low =
    number_here (bytes_of q) rest (264 + k) n v (sym (drop-drop k 264 (bytes_of q)) ∙ ap (drop k) (after_x q count) ∙ is) low

pub sp_at : (q : Numbers) → length q.x ≡ 31 → q.sp < 2 ^ 64 → number_at (bytes_of q) 264 8 ≡ q.sp
sp_at q count low = tail_at q _ 0 8 q.sp count refl low

pub pc_at : (q : Numbers) → length q.x ≡ 31 → q.pc < 2 ^ 64 → number_at (bytes_of q) 272 8 ≡ q.pc
pc_at q count low = tail_at q _ 8 8 q.pc count refl low

pub nzcv_at : (q : Numbers) → length q.x ≡ 31 → q.nzcv < 2 ^ 64 → number_at (bytes_of q) 280 8 ≡ q.nzcv
nzcv_at q count low = tail_at q _ 16 8 q.nzcv count refl low

pub svcr_at : (q : Numbers) → length q.x ≡ 31 → q.svcr < 2 ^ 64 → number_at (bytes_of q) 288 8 ≡ q.svcr
svcr_at q count low = tail_at q _ 24 8 q.svcr count refl low

pub tpidr2_at : (q : Numbers) → length q.x ≡ 31 → q.tpidr2 < 2 ^ 64 → number_at (bytes_of q) 296 8 ≡ q.tpidr2
tpidr2_at q count low = tail_at q _ 32 8 q.tpidr2 count refl low

pub tpidr_at : (q : Numbers) → length q.x ≡ 31 → q.tpidr < 2 ^ 64 → number_at (bytes_of q) 304 8 ≡ q.tpidr
tpidr_at q count low = tail_at q _ 40 8 q.tpidr count refl low

pub length_at_312 : (q : Numbers) → length q.x ≡ 31 → q.l < 2 ^ 32 → number_at (bytes_of q) 312 4 ≡ q.l
length_at_312 q count low = tail_at q _ 48 4 q.l count refl low

pub array_size_at : (q : Numbers) → length q.x ≡ 31 → q.s < 2 ^ 32 → number_at (bytes_of q) 316 4 ≡ q.s
array_size_at q count low = tail_at q _ 52 4 q.s count refl low

-- a number of what follows the first 320 bytes
pub rest_at : (q : Numbers) (rest : List ℕ) (k n v : ℕ) → length q.x ≡ 31 → drop k q.rest ≡ little_bytes n v ++ rest → v < 256 ^ n
    → number_at (bytes_of q) (320 + k) n ≡ v
rest_at q rest k n v count is low = number_here (bytes_of q) rest (320 + k) n v (after_head q k count ∙ is) low

-- ---- the general registers

drop_numbers : (n : ℕ) (xs : List ℕ) (k d : ℕ) → k < length xs
    → drop (n * k) (flat_map (little_bytes n) xs) ≡ little_bytes n (get_or xs k d) ++ flat_map (little_bytes n) (drop (suc k) xs)
drop_numbers n [] k d l = absurd (omega arith)
drop_numbers n (x ∷ xs) zero d l = let e : n * zero ≡ 0 = omega arith in rw e refl
drop_numbers n (x ∷ xs) (suc k) d l =
    let e : n * suc k ≡ n + n * k = omega arith in
    ap (λ i. drop i (little_bytes n x ++ flat_map (little_bytes n) xs)) e
    ∙ sym (drop-drop (n * k) n (little_bytes n x ++ flat_map (little_bytes n) xs))
    ∙ ap (drop (n * k)) (drop_at (little_bytes n x) (flat_map (little_bytes n) xs) n (length-bytes_low_first 0 n x))
    ∙ drop_numbers n xs k d (omega arith)

pub x_at : (q : Numbers) (k : ℕ) → k < length q.x → get_or q.x k 0 < 2 ^ 64 → number_at (bytes_of q) (16 + 8 * k) 8 ≡ get_or q.x k 0
x_at q k l low =
    let long : length (doublewords_bytes q.x) ≡ length q.x * 8 = length-numbers 8 q.x in
    number_here (bytes_of q) (doublewords_bytes (drop (suc k) q.x) ++ tail_of q) (16 + 8 * k) 8 (get_or q.x k 0)
    (sym (drop-drop (8 * k) 16 (bytes_of q)) ∙ ap (drop (8 * k)) (after_signal q)
    ∙ drop-append-le (8 * k) (doublewords_bytes q.x) (tail_of q) (omega arith)
    ∙ ap (λ (b : List ℕ). b ++ tail_of q) (drop_numbers 8 q.x k 0 l)
    ∙ append_assoc (little_bytes 8 (get_or q.x k 0)) (doublewords_bytes (drop (suc k) q.x)) (tail_of q)) low

-- ---- rows

pub row_at : (l : ℕ) (rows : List (List ℕ)) (rest : List ℕ) (n : ℕ) → ((k : ℕ) → k < length rows → length (get_or rows k []) ≡ l)
    → n < length rows → take l (drop (n * l) (concat rows ++ rest)) ≡ get_or rows n []
row_at l [] rest n h low = absurd (omega arith)
row_at l (row ∷ rows) rest zero h low =
    let e : zero * l ≡ 0 = omega arith in
    rw e (ap (take l) (append_assoc row (concat rows) rest) ∙ take_at row (concat rows ++ rest) l (h 0 (omega arith)))
row_at l (row ∷ rows) rest (suc n) h low =
    let e : suc n * l ≡ l + n * l = omega arith in
    ap (λ i. take l (drop i ((row ++ concat rows) ++ rest))) e
    ∙ ap (take l) (sym (drop-drop (n * l) l ((row ++ concat rows) ++ rest))
    ∙ ap (drop (n * l)) (ap (drop l) (append_assoc row (concat rows) rest) ∙ drop_at row (concat rows ++ rest) l (h 0 (omega arith))))
    ∙ row_at l rows rest n (λ k lower. h (suc k) (omega arith)) (omega arith)
