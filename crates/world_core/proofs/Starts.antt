-- The threads and the cores before the first event, one more at a time.
use Rattle.std.proofs.Common.{◌≡◌, ℕ, zero, suc, ◌+◌, ◌++◌, List, [], ◌∷◌, map, refl, ap, sym, ◌∙◌, arith, None, add-one}
use Rattle.std.specs.Prelude.{replicate}
use Rattle.std.specs.List.{range_with_len}
use Rattle.std.proofs.lemmas.List.{map-append}
use Rattle.std.proofs.lemmas.List.FromFn.{map-range_with_len_more}
use Rattle.sm_types.specs.declared.config.Config.{Config}
use Rattle.paged_memory.specs.Image.{Program}
use Rattle.kernel_contexts.specs.State.{start_state}
use Rattle.kernel_contexts.specs.Context.{image_of, config_of, thread_of, state_of, stop_of, journal_of}
use Rattle.kernel_contexts.specs.declared.context.Context.{Context}
use Rattle.kernel_contexts.specs.Guest.{Guest, guest_of}
use Rattle.world_core.specs.World.{starting}

pub guest_starts : (c : Context) (program : Program) (config : Config) (thread : ℕ) → image_of c ≡ program → config_of c ≡ config
    → thread_of c ≡ thread → state_of c ≡ start_state program config thread → stop_of c ≡ None → journal_of c ≡ []
    → guest_of c ≡ starting program config thread
guest_starts c program config thread image options number state stop journal =
    λ i. record {
      program = image i;
      config = options i;
      number = number i;
      state = state i;
      stop = stop i;
      journal = journal i;
    }

pub starts_more : {X : Type 0} (f : ℕ → Guest) (guest : X → Guest) (xs ys : List X) (x : X) (n : ℕ) → ys ≡ xs ++ x ∷ []
    → map guest xs ≡ map f (range_with_len 0 n) → guest x ≡ f n → map guest ys ≡ map f (range_with_len 0 (n + 1))
starts_more f guest xs ys x n is so_far one =
    ap (map guest) is ∙ map-append guest xs (x ∷ []) ∙ ap (λ (l : List Guest). l ++ guest x ∷ []) so_far
    ∙ ap (λ (g : Guest). map f (range_with_len 0 n) ++ g ∷ []) one ∙ sym (map-range_with_len_more f 0 n n (omega arith))

replicate_more : {A : Type 0} (n : ℕ) (a : A) → replicate (suc n) a ≡ replicate n a ++ a ∷ []
replicate_more zero a = refl
replicate_more (suc n) a = ap (λ l. a ∷ l) (replicate_more n a)

pub cores_more : {X : Type 0} (guests : X → List Guest) (xs ys : List X) (x : X) (n : ℕ) → ys ≡ xs ++ x ∷ []
    → map guests xs ≡ replicate n [] → guests x ≡ [] → map guests ys ≡ replicate (n + 1) []
cores_more guests xs ys x n is so_far none =
    rw add-one (ap (map guests) is ∙ map-append guests xs (x ∷ []) ∙ ap (λ (l : List (List Guest)). l ++ guests x ∷ []) so_far
    ∙ ap (λ (gs : List Guest). replicate n [] ++ gs ∷ []) none ∙ sym (replicate_more n []))
