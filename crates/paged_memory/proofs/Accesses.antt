-- Accesses to some bytes, one after another.
use Rattle.std.proofs.Common.{◌⊎◌, inl, inr, ◌≡◌, ℕ, zero, suc, ◌+◌, ◌%◌, ◌^◌, ◌<◌, ◌≤◌, List, [], ◌∷◌, ◌++◌, refl, ap, sym, ◌∙◌, arith}
use Rattle.std.proofs.Common.{Option, Some, None, add-one, append_assoc}
use Rattle.std.specs.Prelude.{IsSome}
use Rattle.std.proofs.lemmas.List.{append-nil}
use Rattle.std.specs.Option.{option_or}
use Rattle.paged_memory.specs.Memory.{AddressSpace, byte_with, bytes_with, and_byte, unless_there, first_without}

pub bytes_with-next : (need : ℕ) (m : AddressSpace) (a i : ℕ)
    → bytes_with need m a (i + 1) ≡ and_byte (bytes_with need m a i) (byte_with need m ((a + i) % 2 ^ 64))
unfolding bytes_with
bytes_with-next need m a i = rw add-one refl

pub first_without-next : (need : ℕ) (m : AddressSpace) (a i : ℕ)
    → first_without need m a (i + 1) ≡ option_or (first_without need m a i)
    (unless_there ((a + i) % 2 ^ 64) (byte_with need m ((a + i) % 2 ^ 64)))
unfolding first_without
first_without-next need m a i = rw add-one refl

at_or_below : (i n : ℕ) → i ≤ suc n → (i ≡ suc n) ⊎ (i ≤ n)
at_or_below i n l = grind arith

pub bytes_with-stays : (need : ℕ) (m : AddressSpace) (a i n : ℕ) → bytes_with need m a i ≡ None → i ≤ n → bytes_with need m a n ≡ None
unfolding bytes_with
bytes_with-stays need m a i zero e l = let z : i ≡ zero = omega arith in rw z at e
bytes_with-stays need m a i (suc n) e l =
    elim (at_or_below i n l) [
      | inl z ↦ rw z at e
      | inr b ↦ rw (bytes_with-stays need m a i n e b) refl
    ]

pub first_without-stays : (need : ℕ) (m : AddressSpace) (a i n x : ℕ) → first_without need m a i ≡ Some x → i ≤ n
    → first_without need m a n ≡ Some x
unfolding first_without
first_without-stays need m a i zero x e l = let z : i ≡ zero = omega arith in rw z at e
first_without-stays need m a i (suc n) x e l =
    elim (at_or_below i n l) [
      | inl z ↦ rw z at e
      | inr b ↦ rw (first_without-stays need m a i n x e b) refl
    ]

pub bytes_with-zero : (need : ℕ) (m : AddressSpace) (a : ℕ) → bytes_with need m a 0 ≡ Some []
unfolding bytes_with
bytes_with-zero need m a = refl

pub first_without-zero : (need : ℕ) (m : AddressSpace) (a : ℕ) → first_without need m a 0 ≡ None
unfolding first_without
first_without-zero need m a = refl

-- two runs of bytes, one after the other, where there are both
abbrev pub joined : Option (List ℕ) → Option (List ℕ) → Option (List ℕ)
joined None later = None
joined (Some bs) None = None
joined (Some bs) (Some cs) = Some (bs ++ cs)

joined-nil : (o : Option (List ℕ)) → o ≡ joined o (Some [])
joined-nil None = refl
joined-nil (Some bs) = ap Some (sym (append-nil bs))

joined-and_byte : (o p : Option (List ℕ)) (b : Option ℕ) → and_byte (joined o p) b ≡ joined o (and_byte p b)
joined-and_byte None p b = refl
joined-and_byte (Some bs) None b = refl
joined-and_byte (Some bs) (Some cs) None = refl
joined-and_byte (Some bs) (Some cs) (Some b) = ap Some (append_assoc bs cs (b ∷ []))

round_twice : (a d n : ℕ) → ((a + d) % 2 ^ 64 + n) % 2 ^ 64 ≡ (a + (d + n)) % 2 ^ 64
round_twice a d n = omega arith

pub bytes_with-join : (need : ℕ) (m : AddressSpace) (a d n : ℕ)
    → bytes_with need m a (d + n) ≡ joined (bytes_with need m a d) (bytes_with need m ((a + d) % 2 ^ 64) n)
unfolding bytes_with
bytes_with-join need m a d zero = let e : d + 0 ≡ d = omega arith in rw e (joined-nil (bytes_with need m a d))
bytes_with-join need m a d (suc n) =
    let e : d + suc n ≡ suc (d + n) = omega arith in
    rw (e, bytes_with-join need m a d n, round_twice a d n)
    (joined-and_byte (bytes_with need m a d) (bytes_with need m ((a + d) % 2 ^ 64) n) (byte_with need m ((a + (d + n)) % 2 ^ 64)))

some_first : (o : Option (List ℕ)) (b : Option ℕ) → IsSome (and_byte o b) → IsSome o
some_first None b h = h
some_first (Some bs) b h = refl

some_second : (o : Option (List ℕ)) (b : Option ℕ) → IsSome (and_byte o b) → IsSome b
some_second None b h = cc
some_second (Some bs) None h = h
some_second (Some bs) (Some b) h = refl

none_where_there : (a : ℕ) (b : Option ℕ) → IsSome b → unless_there a b ≡ None
none_where_there a None h = cc
none_where_there a (Some b) h = refl

-- where all bytes are there, none is the first without
pub first_without-none : (need : ℕ) (m : AddressSpace) (a n : ℕ) → IsSome (bytes_with need m a n) → first_without need m a n ≡ None
unfolding bytes_with first_without
first_without-none need m a zero h = refl
first_without-none need m a (suc n) h =
    let b : Option ℕ = byte_with need m ((a + n) % 2 ^ 64) in
    let before : first_without need m a n ≡ None = first_without-none need m a n (some_first _ b h) in
    rw before (none_where_there ((a + n) % 2 ^ 64) b (some_second (bytes_with need m a n) b h))

no_more : (o : Option (List ℕ)) → and_byte o None ≡ None
no_more None = refl
no_more (Some bs) = refl

-- the bytes up to one that is not there
pub bytes_with-stop : (need : ℕ) (m : AddressSpace) (a d n : ℕ) → byte_with need m ((a + d) % 2 ^ 64) ≡ None → d < n
    → bytes_with need m a n ≡ None
bytes_with-stop need m a d n gone l =
    bytes_with-stays need m a (d + 1) n (bytes_with-next need m a d ∙ rw gone (no_more (bytes_with need m a d))) (omega arith)

-- none before it, and it is not there
pub first_without-at : (need : ℕ) (m : AddressSpace) (a d n : ℕ) → first_without need m a d ≡ None
    → byte_with need m ((a + d) % 2 ^ 64) ≡ None → d < n → first_without need m a n ≡ Some ((a + d) % 2 ^ 64)
first_without-at need m a d n before gone l =
    first_without-stays need m a (d + 1) n _ (first_without-next need m a d ∙ rw (before, gone) refl) (omega arith)

pub first_without-stop : (need : ℕ) (m : AddressSpace) (a d n : ℕ) (bs : List ℕ) → bytes_with need m a d ≡ Some bs
    → byte_with need m ((a + d) % 2 ^ 64) ≡ None → d < n → first_without need m a n ≡ Some ((a + d) % 2 ^ 64)
first_without-stop need m a d n bs there gone l = first_without-at need m a d n (first_without-none need m a d (rw there refl)) gone l

or_else-none : (o : Option ℕ) → o ≡ option_or o None
or_else-none None = refl
or_else-none (Some x) = refl

or_else-assoc : (o p q : Option ℕ) → option_or (option_or o p) q ≡ option_or o (option_or p q)
or_else-assoc None p q = refl
or_else-assoc (Some x) p q = refl

-- the first of two runs, one after the other
pub first_without-join : (need : ℕ) (m : AddressSpace) (a d n : ℕ)
    → first_without need m a (d + n) ≡ option_or (first_without need m a d) (first_without need m ((a + d) % 2 ^ 64) n)
unfolding first_without
first_without-join need m a d zero = let e : d + 0 ≡ d = omega arith in rw e (or_else-none (first_without need m a d))
first_without-join need m a d (suc n) =
    let e : d + suc n ≡ suc (d + n) = omega arith in
    rw (e, first_without-join need m a d n, round_twice a d n)
    (or_else-assoc (first_without need m a d) (first_without need m ((a + d) % 2 ^ 64) n)
    (unless_there ((a + (d + n)) % 2 ^ 64) (byte_with need m ((a + (d + n)) % 2 ^ 64))))

-- a run that is there after others that are
pub first_without-run : (need : ℕ) (m : AddressSpace) (a d n : ℕ) (bs : List ℕ) → first_without need m a d ≡ None
    → bytes_with need m ((a + d) % 2 ^ 64) n ≡ Some bs → first_without need m a (d + n) ≡ None
first_without-run need m a d n bs before there =
    let run : first_without need m ((a + d) % 2 ^ 64) n ≡ None = first_without-none need m ((a + d) % 2 ^ 64) n (rw there refl) in
    first_without-join need m a d n ∙ rw (before, run) refl

-- the byte at the address itself is not there
pub first_without-first : (need : ℕ) (m : AddressSpace) (a n : ℕ) → a < 2 ^ 64 → byte_with need m a ≡ None → 0 < n
    → first_without need m a n ≡ Some a
first_without-first need m a n low gone l =
    let same : (a + 0) % 2 ^ 64 ≡ a = omega arith in
    first_without-at need m a 0 n (first_without-zero need m a) (ap (byte_with need m) same ∙ gone) l ∙ ap Some same

pub bytes_with-first : (need : ℕ) (m : AddressSpace) (a n : ℕ) → a < 2 ^ 64 → byte_with need m a ≡ None → 0 < n
    → bytes_with need m a n ≡ None
bytes_with-first need m a n low gone l =
    let same : (a + 0) % 2 ^ 64 ≡ a = omega arith in
    bytes_with-stop need m a 0 n (ap (byte_with need m) same ∙ gone) l
