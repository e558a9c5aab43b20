-- The rows of ZA that are kept of a call.
use Rattle.std.proofs.Common.{◌≡◌, ℕ, ◌+◌, ◌*◌, ◌%◌, ◌^◌, ◌<◌, ◌≤◌, List, [], length, Some, ap, sym, ◌∙◌, arith, subst}
use Rattle.std.specs.Prelude.{slice_index_or}
use Rattle.std.proofs.Common.{Vec, Global, inl, inr}
use Rattle.std.proofs.lemmas.List.{length-map}
use Rattle.std.proofs.lemmas.Nat.{row_fits, mul-le}
use Rattle.plain_lemmas.proofs.Numbers.{cases_lt_eq_gt}
use Rattle.paged_memory.specs.Memory.{AddressSpace, bytes_with}
use Rattle.sve_vectors.specs.Layout.{items_of}
use Rattle.kernel_contexts.specs.State.{State}
use Rattle.lazy_saving.specs.Block.{buffer_of, saved_of}
use Rattle.abi_checker.specs.Keeping.{IsKept}
use Rattle.abi_checker.specs.Returning.{IsOfSome}
use Rattle.abi_checker.specs.declared.open_call.OpenCall.{OpenCall}
use Rattle.abi_checker.proofs.Same.{row_at}
use Rattle.abi_checker.proofs.Lawful.{saved_few}

module _ (call : OpenCall) (h : IsOfSome call) where
  abbrev s : State
  s = h.0

  abbrev kept : IsKept call s
  kept = h.1

  pub as_many : length call.za.items ≡ length s.core.bank.za
  as_many = sym (length-map call.za.items (λ row. row.items)) ∙ ap (λ (l : List (List ℕ)). length l) kept.rows

  pub at_most : length call.za.items ≤ 256
  at_most = let few = kept.small in omega (arith, as_many, few)

  pub row_long : (i : ℕ) → i < length call.za.items → length (slice_index_or (items_of call.za.items) i []) ≡ length call.za.items
  row_long i l =
      ap (λ (rows : List (List ℕ)). length (slice_index_or rows i [])) kept.rows ∙ kept.square.long i (omega (arith, l, as_many))
      ∙ sym as_many

  -- no more slices are saved than there are rows
  pub few_saved : saved_of call.bytes.block ≤ length call.za.items
  few_saved =
      let few = kept.kept.dormant.ready.block.few in
      let least = saved_few kept.kept.dormant.bytes in
      let same = ap saved_of kept.kept.bytes in
      omega (arith, few, least, same, as_many)

-- a slice begins before the end of those that are saved exactly where it is one of them
pub begins_before : (i size saved : ℕ) → i < saved → 0 < size → i * size < saved * size
begins_before i size saved l some = let room = row_fits i size saved size l (omega arith) in omega (arith, room, some)

pub begins_after : (i size saved : ℕ) → saved ≤ i → saved * size ≤ i * size
begins_after i size saved l = mul-le saved size i size l (omega arith)

-- ---- the slices in the buffer, up to one more

-- the slice is in its piece of the buffer
abbrev pub IsSavedAt : AddressSpace → ℕ → ℕ → ℕ → List ℕ → Type 0
IsSavedAt m buffer size i row = bytes_with 4 m ((buffer + i * size) % 2 ^ 64) (length row) ≡ Some row

pub saved_at : (m : AddressSpace) (a b n k i : ℕ) (old new : List ℕ) → a ≡ b → n ≡ k → old ≡ new → IsSavedAt m a n i old
    → IsSavedAt m b k i new
saved_at m a b n k i old new e f g h =
    subst (λ x. IsSavedAt m x k i new) e (subst (λ x. IsSavedAt m a x i new) f (subst (λ x. IsSavedAt m a n i x) g h))

-- a row as the code has it
pub row_is : (call : OpenCall) (i : ℕ) (row : List ℕ) (d : Vec ℕ Global) → i < length call.za.items → row ≡ d.items
    → d ≡ slice_index_or call.za.items i d → row ≡ slice_index_or (items_of call.za.items) i []
row_is call i row d l is at = is ∙ ap (λ (v : Vec ℕ Global). v.items) at ∙ sym (row_at call.za.items i d l)

module _ (call : OpenCall) (m : AddressSpace) where
  abbrev IsIn : ℕ → Type 0
  IsIn i =
      IsSavedAt m (buffer_of call.bytes.block) (length call.za.items) i (slice_index_or (items_of call.za.items) i [])

  pub saved_more : (n : ℕ) → ((i : ℕ) → i < n → i < saved_of call.bytes.block → IsIn i) → (n < saved_of call.bytes.block → IsIn n)
      → (i : ℕ) → i < n + 1 → i < saved_of call.bytes.block → IsIn i
  saved_more n before last i l few = elim (cases_lt_eq_gt i n) as (λ _. IsIn i) [
    | inl less ↦ before i less few
    | inr (inl same) ↦ subst IsIn (sym same) (last (subst (λ k. k < saved_of call.bytes.block) same few))
    | inr (inr more) ↦ absurd (omega (arith, l, more))
  ]

-- one that begins before the end is saved, and one that does not is not
pub is_saved_slice : (i size saved end : ℕ) → end ≡ saved * size → i * size < end → i < saved
is_saved_slice i size saved end e l = elim (cases_lt_eq_gt i saved) [
  | inl less ↦ less
  | inr (inl same) ↦ let no = begins_after i size saved (omega (arith, same)) in absurd (omega (arith, no, e, l))
  | inr (inr more) ↦ let no = begins_after i size saved (omega (arith, more)) in absurd (omega (arith, no, e, l))
]

pub no_saved_slice : (i size saved end : ℕ) → end ≡ saved * size → end ≤ i * size → saved ≤ size → i < saved → ⊥
no_saved_slice i size saved end e l few less =
    let over = begins_before i size saved less (omega (arith, few, less)) in omega (arith, over, e, l)
