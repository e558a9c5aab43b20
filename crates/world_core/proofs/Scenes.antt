-- The events on a core that move threads, by its residents.
use Rattle.std.proofs.Common.{◌≡◌, true, false, ℕ, suc, ◌<◌, ◌≤◌, ◌++◌, cond, List, [], ◌∷◌, length, refl, ap, sym, ◌∙◌, arith}
use Rattle.std.specs.Prelude.{nat_le}
use Rattle.std.proofs.lemmas.Bool.Decides.{nat_tests}
use Rattle.std.proofs.lemmas.List.{map-append}
use Rattle.sm_types.specs.declared.shared_words.Entry.{Entry}
use Rattle.core_unit.specs.CoreState.{CoreState, places, turned_over, with_next, with_last, with_first}
use Rattle.kernel_contexts.specs.Guest.{Guest}
use Rattle.core_unit.specs.Held.{Held}
use Rattle.world_core.specs.Applies.{AppliesHere}
use Rattle.world_core.specs.Happens.{Scene, on_core, next_of, fetched, refused, becomes, offer_of}
use Rattle.world_core.specs.Parts.{guests_in, scene_with}
use Rattle.sm_types.specs.declared.world_event.WorldEvent.TheVariants as event
use Rattle.world_core.specs.declared.event.Applied.TheVariants as applied
use Rattle.world_core.specs.declared.event.Why.TheVariants.{NoResident, OneResident, CoreFull, QueueEmpty}

pub guests-length : {T : Type 0} (hs : List (Held T)) → length (guests_in hs) ≡ length hs
guests-length [] = refl
guests-length (h ∷ hs) = ap suc (guests-length hs)

guests-last : {T : Type 0} (hs : List (Held T)) (h : Held T) → guests_in (hs ++ h ∷ []) ≡ guests_in hs ++ h.guest ∷ []
guests-last hs h = map-append (λ k. k.guest) hs (h ∷ [])

full_test : (n : ℕ) → 8 ≤ n → nat_le 8 n ≡ true
full_test n l = grind (arith, nat_tests)

room_test : (n : ℕ) → n < 8 → nat_le 8 n ≡ false
room_test n l = grind (arith, nat_tests)

module _ {T : Type 0} (old new : CoreState T) (queue done : List Guest) (history : List Entry) (n : ℕ) where
  abbrev before : Scene
  before = scene_with old queue done history

  -- the same with other residents
  abbrev having : List (Held T) → Scene
  having hs = record { residents = guests_in hs; queue = queue; done = done; history = history }

  -- ---- Next

  next_moves : (hs : List (Held T)) → 2 ≤ length hs → next_of (having hs) (guests_in hs) ≡ becomes (having (turned_over hs))
  next_moves [] two = absurd (omega arith)
  next_moves (h ∷ []) two = absurd (omega arith)
  next_moves (h ∷ other ∷ hs) two =
      ap (λ (l : List Guest). becomes (record { residents = l; queue = queue; done = done; history = history }))
      (sym (guests-last (other ∷ hs) h))

  pub next_so : 2 ≤ length old.residents → new ≡ with_next old
      → AppliesHere (event.Next n) before (scene_with new queue done history) applied.Done
  next_so two is = next_moves old.residents two ∙ ap (λ (c : CoreState T). becomes (scene_with c queue done history)) (sym is)

  next_no_one : (hs : List (Held T)) → length hs ≡ 0 → next_of (having hs) (guests_in hs) ≡ refused (having hs) NoResident
  next_no_one [] none = refl
  next_no_one (h ∷ hs) none = absurd (omega arith)

  pub next_none : length old.residents ≡ 0 → AppliesHere (event.Next n) before before (applied.NotEnabled NoResident)
  next_none none = next_no_one old.residents none

  next_alone : (hs : List (Held T)) → length hs ≡ 1 → next_of (having hs) (guests_in hs) ≡ refused (having hs) OneResident
  next_alone [] one = absurd (omega arith)
  next_alone (h ∷ []) one = refl
  next_alone (h ∷ other ∷ hs) one = absurd (omega arith)

  pub next_one : length old.residents ≡ 1 → AppliesHere (event.Next n) before before (applied.NotEnabled OneResident)
  next_one one = next_alone old.residents one

  -- ---- Fetch

  pub fetch_full : places ≤ length old.residents
      → AppliesHere (event.Fetch n) before before (applied.NotEnabled (CoreFull (length old.residents)))
  fetch_full full =
      let count = guests-length old.residents in
      ap (λ b. cond b (refused before (CoreFull (length (guests_in old.residents)))) (fetched before queue))
      (full_test (length (guests_in old.residents)) (omega (arith, count, full)))
      ∙ ap (λ k. refused before (CoreFull k)) count

  has_place : length old.residents < places → on_core (event.Fetch n) before ≡ fetched before queue
  has_place room =
      let count = guests-length old.residents in
      ap (λ b. cond b (refused before (CoreFull (length (guests_in old.residents)))) (fetched before queue))
      (room_test (length (guests_in old.residents)) (omega (arith, count, room)))

  pub fetch_none : length old.residents < places → queue ≡ []
      → AppliesHere (event.Fetch n) before before (applied.NotEnabled QueueEmpty)
  fetch_none room none = has_place room ∙ ap (fetched before) none

  pub fetch_so : (rest : List Guest) (h : Held T) → length old.residents < places → queue ≡ h.guest ∷ rest → new ≡ with_last h old
      → AppliesHere (event.Fetch n) before (scene_with new rest done history) applied.Done
  fetch_so rest h room front is =
      has_place room ∙ ap (fetched before) front
      ∙ ap (λ (l : List Guest). becomes (record { residents = l; queue = rest; done = done; history = history }))
      (sym (guests-last old.residents h))
      ∙ ap (λ (c : CoreState T). becomes (scene_with c rest done history)) (sym is)

  -- ---- Offer

  pub offer_none : old.residents ≡ [] → AppliesHere (event.Offer n) before before (applied.NotEnabled NoResident)
  offer_none none =
      ap (λ (hs : List (Held T)). offer_of before (guests_in hs)) none

  pub offer_so : (longer : List Guest) (h : Held T) → old ≡ with_first h new → longer ≡ queue ++ h.guest ∷ []
      → AppliesHere (event.Offer n) before (scene_with new longer done history) applied.Done
  offer_so longer h is last =
      ap (λ (c : CoreState T). on_core (event.Offer n) (scene_with c queue done history)) is
      ∙ ap (λ (l : List Guest). becomes (scene_with new l done history)) (sym last)
