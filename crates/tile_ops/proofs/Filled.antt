-- Bytes that are written element by element.
use Rattle.std.proofs.Common.{◌≡◌, ℕ, ◌+◌, ◌*◌, ◌/◌, ◌%◌, ◌<◌, ◌≤◌, List, [], ◌∷◌, ◌++◌, length, take, drop, refl, ap}
use Rattle.std.proofs.Common.{◌∙◌, sym, append_assoc, arith, length-append, inl, inr, if◌then◌else◌}
use Rattle.std.proofs.lemmas.List.{append-nil, length-drop, length-take-le, take_at, drop_at, drop-drop, take_all}
use Rattle.std.proofs.lemmas.Bool.{cond_both, cases_lt}
use Rattle.std.proofs.Math.Nat.{mul-le-mul_left}
use Rattle.std.specs.List.{concat}
use Rattle.vector_elements.specs.Elements.{listed, is_active}
use Rattle.vector_elements.proofs.Lists.{listed-next}
use Rattle.tile_ops.specs.Slices.{element_bytes, with_element}
use Rattle.tile_ops.specs.Moves.{chosen_element}

concat-push : (xss : List (List ℕ)) (x : List ℕ) → concat (xss ++ x ∷ []) ≡ concat xss ++ x
concat-push [] x = append-nil x
concat-push (y ∷ ys) x = ap (λ t. y ++ t) (concat-push ys x) ∙ sym (append_assoc y (concat ys) x)

pub joined-next : (f : ℕ → List ℕ) (i : ℕ) → concat (listed f (i + 1)) ≡ concat (listed f i) ++ f i
joined-next f i = ap concat (listed-next f i) ∙ concat-push (listed f i) (f i)

-- the first i elements of new bytes are those of a function, and the rest is that of the old ones
pub record IsFilledTo (e : ℕ) (f : ℕ → List ℕ) (old new : List ℕ) (i : ℕ) : Type 0 where
  pub front : take (i * e) new ≡ concat (listed f i)
  pub rest : drop (i * e) new ≡ drop (i * e) old

pub filled_none : (e : ℕ) (f : ℕ → List ℕ) (old : List ℕ) → IsFilledTo e f old old 0
unfolding listed
filled_none e f old =
    let z : 0 * e ≡ 0 = omega arith in
    record { front = ap (λ k. take k old) z; rest = refl }

pub length-element : (e : ℕ) (bytes : List ℕ) (i : ℕ) → i * e + e ≤ length bytes → length (element_bytes e bytes i) ≡ e
length-element e bytes i room = length-take-le e (drop (i * e) bytes) (omega (arith, length-drop (i * e) bytes))

-- one element further
pub filled_next : (e : ℕ) (f : ℕ → List ℕ) (old new : List ℕ) (i : ℕ) (x : List ℕ) → IsFilledTo e f old new i
    → i * e + e ≤ length new → length x ≡ e → x ≡ f i → IsFilledTo e f old (with_element e new i x) (i + 1)
filled_next e f old new i x so_far room long is =
    let front = take (i * e) new in
    let back = drop (i * e + e) new in
    let turned : with_element e new i x ≡ (front ++ x) ++ back = sym (append_assoc front x back) in
    let next : (i + 1) * e ≡ i * e + e = omega arith in
    let first : length front ≡ i * e = length-take-le (i * e) new (omega arith) in
    let all : length (front ++ x) ≡ i * e + e = length-append front x ∙ omega (arith, first, long) in
    record {
      front = ap (λ k. take k (with_element e new i x)) next ∙ ap (take (i * e + e)) turned ∙ take_at (front ++ x) back _ all
          ∙ ap (λ t. t ++ x) so_far.front ∙ ap (λ t. concat (listed f i) ++ t) is ∙ sym (joined-next f i);
      rest = ap (λ k. drop k (with_element e new i x)) next ∙ ap (drop (i * e + e)) turned ∙ drop_at (front ++ x) back _ all
          ∙ sym (drop-drop e (i * e) new) ∙ ap (drop e) so_far.rest ∙ drop-drop e (i * e) old ∙ ap (λ k. drop k old) (sym next);
    }

-- all elements of the bytes, of which there are n
pub filled_all : (e : ℕ) (f : ℕ → List ℕ) (old new : List ℕ) (i n : ℕ) → n % e ≡ 0 → length new ≡ n → i ≡ n / e
    → IsFilledTo e f old new i → new ≡ concat (listed f (n / e))
filled_all e f old new i n whole long count so_far =
    let last : i * e ≡ n / e * e = ap (λ k. k * e) count in
    let all : length new ≤ i * e = omega arith in
    sym (take_all (i * e) new all) ∙ so_far.front ∙ ap (λ k. concat (listed f k)) count

-- the next element of the rest is as it was
pub unread : (e : ℕ) (f : ℕ → List ℕ) (old new : List ℕ) (i : ℕ) → IsFilledTo e f old new i
    → element_bytes e new i ≡ element_bytes e old i
unread e f old new i so_far = ap (take e) so_far.rest

-- an element that is counted is there
pub within : (n e i : ℕ) → i < n / e → i * e + e ≤ n
within n e i below =
    let least : e * (i + 1) ≤ e * (n / e) = mul-le-mul_left e (omega arith) in
    omega (arith, least)

-- an element that begins in whole bytes is there
pub whole_within : (n e i : ℕ) → 0 < e → n % e ≡ 0 → i * e < n → i * e + e ≤ n
whole_within n e i some whole below = elim (cases_lt i (n / e)) [
  | inl l ↦ within n e i l
  | inr g ↦ (let least : e * (n / e) ≤ e * i = mul-le-mul_left e g in absurd (omega (arith, least)))
]

-- the element that is chosen
pub length-chosen : (e : ℕ) (pg new old : List ℕ) (i : ℕ) → i * e + e ≤ length new → i * e + e ≤ length old
    → length (chosen_element e pg new old i) ≡ e
length-chosen e pg new old i a b =
    cond_both (is_active e pg i) _ _ (λ t. length t ≡ e) (λ _. length-element e new i a) (λ _. length-element e old i b)

pub chosen_next : (e : ℕ) (pg new old now : List ℕ) (i n : ℕ) → length old ≡ n → length new ≡ n → length now ≡ n
    → i < n / e → IsFilledTo e (chosen_element e pg new old) old now i
    → IsFilledTo e (chosen_element e pg new old) old (with_element e now i (chosen_element e pg new now i)) (i + 1)
chosen_next e pg new old now i n l_old l_new l_now below so_far =
    let room = within n e i below in
    let same : chosen_element e pg new now i ≡ chosen_element e pg new old i =
    ap (λ t. if is_active e pg i then element_bytes e new i else t) (unread e _ old now i so_far) in
    let long = length-chosen e pg new now i (omega (arith, room)) (omega (arith, room)) in
    filled_next e _ old now i _ so_far (omega (arith, room)) long same
