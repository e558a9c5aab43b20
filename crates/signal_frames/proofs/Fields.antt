-- The fields of a frame.
use Rattle.std.proofs.Common.{◌≡◌, ℕ, ◌+◌, ◌-◌, ◌*◌, ◌<◌, ◌≤◌, List, length, take, drop, refl, ap, ◌∙◌, arith}
use Rattle.std.proofs.lemmas.List.{drop-drop, drop-take}
use Rattle.std.proofs.Common.{Bool, true, false, eqb-true}
use Rattle.std.proofs.lemmas.List.FromFn.{fill_by_all, length-map-range_with_len, get_or-map-range_with_len}
use Rattle.std.specs.Prelude.{map, nat_lt, ◌%◌, ◌^◌, ◌==◌, ◌&&◌, if◌then◌else◌}
use Rattle.std.proofs.lemmas.Bool.Decides.{nat_tests}
use Rattle.std.proofs.lemmas.Bool.{and_parts}
use Rattle.std.specs.List.{range_with_len}
use Rattle.byteorder.specs.Endian.{little_number, IsRead}
use Rattle.byteorder.specs.Numbers.{little_from-take}
use Rattle.signal_frames.specs.Layout.{head_size, frame_size}
use Rattle.signal_frames.specs.Saved.{number_at, saved_x, saved_scalars, saved_length, saved_size, saved_streaming, saved_za_on}
use Rattle.signal_frames.specs.Saved.{saved_array_size, saved_masking, is_head, has_modes, has_sizes, is_nested, has_masking}
use Rattle.signal_frames.specs.declared.head.Expected.{Expected}
use Rattle.sm_types.specs.declared.version.Version.{Version}
use Rattle.sm_types.specs.declared.version.Version.TheVariants.{One, Two}
use Rattle.signal_frames.proofs.Lengths.{least_head}

pub registers_read : (head x : List ℕ) → 320 ≤ length head → length x ≡ 31
    → IsRead (λ n xs. little_number n xs) 8 (take 248 (drop 16 head)) x → x ≡ map (saved_x head) (range_with_len 0 31)
unfolding number_at
registers_read head x long count read =
    fill_by_all (saved_x head) x 31 0 count (λ k l.
    let split : 8 * k + (248 - 8 * k) ≡ 248 = omega arith in
    let part : drop (8 * k) (take 248 (drop 16 head)) ≡ take (248 - 8 * k) (drop (8 * k) (drop 16 head)) =
    rw split at (drop-take (8 * k) (248 - 8 * k) (drop 16 head)) in
    read k (omega arith) ∙ ap (little_number 8) part
    ∙ little_from-take 0 8 (248 - 8 * k) (drop (8 * k) (drop 16 head)) (omega arith)
    ∙ ap (little_number 8) (drop-drop (8 * k) 16 head))

-- ---- the head of a frame

pub number_in_head : (h : ℕ) (frame : List ℕ) (offset n : ℕ) → offset + n ≤ h → number_at (take h frame) offset n ≡ number_at frame offset n
unfolding number_at
number_in_head h frame offset n l =
    let split : offset + (h - offset) ≡ h = omega arith in
    let part : drop offset (take h frame) ≡ take (h - offset) (drop offset frame) =
    rw split at (drop-take offset (h - offset) frame) in
    ap (little_number n) part ∙ little_from-take 0 n (h - offset) (drop offset frame) (omega arith)

same_rows : {A : Type 0} (f g : ℕ → A) (n : ℕ) (d : A) → ((k : ℕ) → k < n → f k ≡ g k)
    → map f (range_with_len 0 n) ≡ map g (range_with_len 0 n)
same_rows {A} f g n d h =
    fill_by_all g (map f (range_with_len 0 n)) n d (length-map-range_with_len f 0 n)
    (λ k l. get_or-map-range_with_len f 0 n k k d l (omega arith) ∙ h k l)

pub scalars_in_head : (h : ℕ) (frame : List ℕ) → 320 ≤ h → saved_scalars (take h frame) ≡ saved_scalars frame
unfolding saved_scalars
scalars_in_head h frame long =
    let x : map (saved_x (take h frame)) (range_with_len 0 31) ≡ map (saved_x frame) (range_with_len 0 31) =
    same_rows (saved_x (take h frame)) (saved_x frame) 31 0 (λ k l. number_in_head h frame (16 + 8 * k) 8 (omega arith)) in
    rw (
      x,
      number_in_head h frame 264 8 (omega arith),
      number_in_head h frame 272 8 (omega arith),
      number_in_head h frame 280 8 (omega arith),
    ) refl

nested_in_head : (depth : ℕ) (frame : List ℕ) → is_nested depth (take 336 frame) ≡ is_nested depth frame
unfolding is_nested
nested_in_head depth frame =
    rw (
      number_in_head 336 frame 320 8 (omega arith),
      number_in_head 336 frame 328 4 (omega arith),
      number_in_head 336 frame 332 4 (omega arith),
    ) refl

masking_in_head : (version : Version) (depth : ℕ) (frame : List ℕ)
    → has_masking version depth (take (head_size version) frame) ≡ has_masking version depth frame
masking_in_head One depth frame = refl
masking_in_head Two depth frame = nested_in_head depth frame

pub head_in_head : (e : Expected) (frame : List ℕ) → is_head e (take (head_size e.version) frame) ≡ is_head e frame
unfolding is_head has_modes has_sizes
head_in_head e frame =
    let h : ℕ = head_size e.version in
    let long : 320 ≤ h = least_head e.version in
    rw (
      number_in_head h frame 0 8 (omega arith),
      number_in_head h frame 288 8 (omega arith),
      number_in_head h frame 280 8 (omega arith),
      number_in_head h frame 312 4 (omega arith),
      number_in_head h frame 316 4 (omega arith),
      number_in_head h frame 8 4 (omega arith),
      number_in_head h frame 12 4 (omega arith),
      masking_in_head e.version e.depth frame,
    ) refl

-- the mask and the depth, as the code reads them
pub saved_in_head : (version : Version) (frame : List ℕ) → saved_masking version (take (head_size version) frame) ≡ saved_masking version frame
saved_in_head One frame = refl
saved_in_head Two frame = rw (number_in_head 336 frame 320 8 (omega arith), number_in_head 336 frame 328 4 (omega arith)) refl

-- what the fields of a frame say of its lengths
pub record HeadSays (e : Expected) (head : List ℕ) : Type 0 where
  pub length : saved_length head ≡ (if saved_streaming head then e.svl else e.vl)
  pub array : saved_array_size head ≡ e.svl
  pub size : saved_size head ≡ frame_size e.version (saved_length head) e.svl (saved_za_on head)

pub head_says : (e : Expected) (head : List ℕ) → is_head e head ≡ true → HeadSays e head
unfolding is_head has_sizes
head_says e head h =
    let o = and_parts _ _ h in
    let p = and_parts _ _ o.0 in
    let q = and_parts _ _ p.0 in
    let r = and_parts _ _ q.0 in
    let sizes = and_parts _ _ r.1 in
    let lengths = and_parts _ _ sizes.0 in
    record {
      length = eqb-true (saved_length head) (if saved_streaming head then e.svl else e.vl) lengths.0;
      array = eqb-true (saved_array_size head) e.svl lengths.1;
      size = eqb-true (saved_size head) (frame_size e.version (saved_length head) e.svl (saved_za_on head)) sizes.1;
    }

under : (n depth : ℕ) → nat_lt n depth ≡ true → n ≤ depth
under n depth h = grind (arith, nat_tests)

-- a frame that passes saves no greater depth than that of the thread
masking_below : (version : Version) (depth : ℕ) (frame : List ℕ) → has_masking version depth frame ≡ true
    → (saved_masking version frame).depth ≤ depth
unfolding is_nested
masking_below One depth frame h = omega arith
masking_below Two depth frame h =
    let mask : Bool = (number_at frame 320 8 % 2 == 0) && nat_lt (number_at frame 320 8) (2 ^ 63) in
    let below : Bool = nat_lt (number_at frame 328 4) depth in
    let tested : below ≡ true = (and_parts mask below (and_parts (mask && below) (number_at frame 332 4 == 0) h).0).1 in
    under (number_at frame 328 4) depth tested

pub saved_below : (e : Expected) (frame : List ℕ) → is_head e frame ≡ true → (saved_masking e.version frame).depth ≤ e.depth
unfolding is_head
saved_below e frame h = let o = and_parts _ _ h in masking_below e.version e.depth frame o.1

pub either_small : (b : Bool) (x y : ℕ) → x ≤ 256 → y ≤ 256 → (if b then x else y) ≤ 256
either_small true x y h k = h
either_small false x y h k = k
