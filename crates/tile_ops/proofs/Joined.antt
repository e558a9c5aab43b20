-- Elements one after another.
use Rattle.std.proofs.Common.{◌≡◌, ℕ, zero, suc, ◌+◌, ◌*◌, ◌/◌, ◌%◌, ◌<◌, ◌≤◌, List, [], ◌∷◌, ◌++◌, length, take, drop, ap, ap₂, refl, subst}
use Rattle.std.proofs.Common.{if◌then◌else◌}
use Rattle.std.proofs.Common.{◌∙◌, sym, append_assoc, arith, length-append, inl, inr}
use Rattle.std.proofs.lemmas.Bool.{cases_lt}
use Rattle.std.proofs.lemmas.List.{append-nil, drop_at, drop-drop, take-append-drop}
use Rattle.std.proofs.lemmas.List.{take_all, drop_all, length-drop, take-append-le, drop-append-le}
use Rattle.std.proofs.Math.Nat.{mul-le-mul_left}
use Rattle.std.specs.List.{concat}
use Rattle.vector_elements.specs.declared.size.Size.{Size}
use Rattle.vector_elements.specs.Active.{AreActive}
use Rattle.vector_elements.specs.Elements.{listed}
use Rattle.vector_elements.specs.Numbers.{bytes_in}
use Rattle.tile_ops.specs.Slices.{element_bytes}
use Rattle.tile_ops.specs.Moves.{merged, chosen_element}
use Rattle.tile_ops.specs.Laws.{MergesElements}
use Rattle.tile_ops.proofs.Filled.{joined-next, length-chosen, within}

-- the elements of bytes, and what stands behind them
elements_and_rest : (e : ℕ) (bytes : List ℕ) (n : ℕ) → concat (listed (element_bytes e bytes) n) ++ drop (n * e) bytes ≡ bytes
unfolding listed
elements_and_rest e bytes zero = let z : 0 * e ≡ 0 = omega arith in ap (λ k. drop k bytes) z
elements_and_rest e bytes (suc n) =
    let f = element_bytes e bytes in
    let here = drop (n * e) bytes in
    let count : suc n ≡ n + 1 = omega arith in
    let next : suc n * e ≡ n * e + e = omega arith in
    ap (λ k. concat (listed f k) ++ drop (suc n * e) bytes) count
    ∙ ap (λ t. t ++ drop (suc n * e) bytes) (joined-next f n)
    ∙ append_assoc (concat (listed f n)) (take e here) (drop (suc n * e) bytes)
    ∙ ap (λ k. concat (listed f n) ++ (take e here ++ drop k bytes)) next
    ∙ ap (λ t. concat (listed f n) ++ (take e here ++ t)) (sym (drop-drop e (n * e) bytes))
    ∙ ap (λ t. concat (listed f n) ++ t) (take-append-drop e here)
    ∙ elements_and_rest e bytes n

pub all_elements : (e : ℕ) (bytes : List ℕ) (n : ℕ) → length bytes ≡ n → n % e ≡ 0
    → concat (listed (element_bytes e bytes) (n / e)) ≡ bytes
all_elements e bytes n long whole =
    let all : length bytes ≤ n / e * e = omega arith in
    sym (append-nil (concat (listed (element_bytes e bytes) (n / e))))
    ∙ ap (λ t. concat (listed (element_bytes e bytes) (n / e)) ++ t) (sym (drop_all (n / e * e) bytes all))
    ∙ elements_and_rest e bytes (n / e)

pub length-joined : (e : ℕ) (f : ℕ → List ℕ) (n : ℕ) → ((i : ℕ) → i < n → length (f i) ≡ e) → length (concat (listed f n)) ≡ n * e
unfolding listed
length-joined e f zero long = omega arith
length-joined e f (suc n) long =
    let count : suc n ≡ n + 1 = omega arith in
    ap (λ k. length (concat (listed f k))) count ∙ ap length (joined-next f n) ∙ length-append (concat (listed f n)) (f n)
    ∙ (let before = length-joined e f n (λ i lt. long i (omega arith)) in let last = long n (omega arith) in omega (arith, before, last))

-- element i of them is that of the function
pub element-joined : (e : ℕ) (f : ℕ → List ℕ) (n i : ℕ) → ((k : ℕ) → k < n → length (f k) ≡ e) → i < n
    → element_bytes e (concat (listed f n)) i ≡ f i
unfolding listed
element-joined e f zero i long none = absurd (omega arith)
element-joined e f (suc n) i long below =
    let count : suc n ≡ n + 1 = omega arith in
    let before : length (concat (listed f n)) ≡ n * e = length-joined e f n (λ k lt. long k (omega arith)) in
    ap (λ k. element_bytes e (concat (listed f k)) i) count ∙ ap (λ t. element_bytes e t i) (joined-next f n)
    ∙ elim (cases_lt i n) [
      | inl l ↦
          let least : e * (i + 1) ≤ e * n = mul-le-mul_left e (omega arith) in
          let inner = drop (i * e) (concat (listed f n)) in
          ap (take e) (drop-append-le (i * e) (concat (listed f n)) (f n) (omega (arith, least, before)))
          ∙ take-append-le e inner (f n) (omega (arith, least, before, length-drop (i * e) (concat (listed f n))))
          ∙ element-joined e f n i (λ k lt. long k (omega arith)) l
      | inr g ↦
          let here : i ≡ n = omega arith in
          ap (λ k. element_bytes e (concat (listed f n) ++ f n) k) here
          ∙ ap (take e) (drop_at (concat (listed f n)) (f n) (n * e) before)
          ∙ take_all e (f n) (let last = long n (omega arith) in omega (arith, last)) ∙ ap f (sym here)
    ]

pub merges_elements : MergesElements
unfolding merged
merges_elements e i pg new old same below =
    element-joined e (chosen_element e pg new old) (length old / e) i
    (λ k lt. let room = within (length old) e k lt in length-chosen e pg new old k (omega (arith, room, same)) room) below

listed_alike : (f g : ℕ → List ℕ) (n : ℕ) → ((i : ℕ) → i < n → f i ≡ g i) → listed f n ≡ listed g n
unfolding listed
listed_alike f g zero same = refl
listed_alike f g (suc n) same =
    ap₂ (λ xs x. xs ++ x ∷ []) (listed_alike f g n (λ i below. same i (omega arith))) (same n (omega arith))

-- where all elements are active, all are those of the first vector
pub all_merged : (size : Size) (pg new old : List ℕ) → AreActive size pg → length new ≡ length old → length old ≡ 8 * length pg
    → length old % bytes_in size ≡ 0 → new ≡ merged (bytes_in size) pg new old
unfolding merged
all_merged size pg new old active long bits whole =
    let e = bytes_in size in
    let n = length old / e in
    sym (ap concat (listed_alike (chosen_element e pg new old) (element_bytes e new) n
    (λ i below.
    ap (λ b. if b then element_bytes e new i else element_bytes e old i)
    (active i (subst (λ (k : ℕ). i < k / e) bits below))))
    ∙ all_elements e new (length old) long whole)
