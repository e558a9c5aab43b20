-- A fact of each of some threads.
use Rattle.std.proofs.Common.{◌≡◌, ◌≢◌, ℕ, zero, suc, ◌++◌, List, [], ◌∷◌, subst, arith, Some}
use Rattle.std.specs.Prelude.{slice_get, slice_set, replicate}
use Rattle.std.proofs.lemmas.Option.{same_Some, none-some}
use Rattle.kernel_contexts.specs.Guest.{Guest}
use Rattle.std.specs.List.{AllByRecursion as Each}
use Rattle.world_core.specs.World.{World, threads_of, residents_of, times}
use Rattle.world_core.proofs.Bags.{other_number}

pub each_map : (P Q : Guest → Type 0) (gs : List Guest) → ((g : Guest) → P g → Q g) → Each P gs → Each Q gs
each_map P Q [] f h = tt
each_map P Q (g ∷ gs) f h = (f g h.0, each_map P Q gs f h.1)

module _ (P : Guest → Type 0) where
  pub each-append : (xs ys : List Guest) → Each P xs → Each P ys → Each P (xs ++ ys)
  each-append [] ys h k = k
  each-append (x ∷ xs) ys h k = (h.0, each-append xs ys h.1 k)

  each-left : (xs ys : List Guest) → Each P (xs ++ ys) → Each P xs
  each-left [] ys h = tt
  each-left (x ∷ xs) ys h = (h.0, each-left xs ys h.1)

  each-right : (xs ys : List Guest) → Each P (xs ++ ys) → Each P ys
  each-right [] ys h = h
  each-right (x ∷ xs) ys h = each-right xs ys h.1

  pub each_last : (xs : List Guest) (x : Guest) → Each P xs → P x → Each P (xs ++ x ∷ [])
  each_last xs x h mine = each-append xs (x ∷ []) h (mine, tt)

  -- ---- the residents of the cores

  pub core_here : (cores : List (List Guest)) (i : ℕ) (rs : List Guest) → slice_get cores i ≡ Some rs → Each P (residents_of cores)
      → Each P rs
  core_here [] i rs get h = absurd (none-some rs get)
  core_here (gs ∷ cores) zero rs get h = subst (Each P) (same_Some gs rs get) (each-left gs (residents_of cores) h)
  core_here (gs ∷ cores) (suc i) rs get h = core_here cores i rs get (each-right gs (residents_of cores) h)

  pub core_set : (cores : List (List Guest)) (i : ℕ) (new : List Guest) → Each P (residents_of cores) → Each P new
      → Each P (residents_of (slice_set cores i new))
  core_set [] i new h mine = h
  core_set (gs ∷ cores) zero new h mine = each-append new (residents_of cores) mine (each-right gs (residents_of cores) h)
  core_set (gs ∷ cores) (suc i) new h mine =
      each-append gs (residents_of (slice_set cores i new)) (each-left gs (residents_of cores) h)
      (core_set cores i new (each-right gs (residents_of cores) h) mine)

  -- with one more in a core
  pub core_more : (cores : List (List Guest)) (i : ℕ) (g : Guest) (others : List Guest) → P g
      → Each P (residents_of (slice_set cores i others)) → Each P (residents_of (slice_set cores i (g ∷ others)))
  core_more [] i g others mine h = h
  core_more (gs ∷ cores) zero g others mine h = (mine, h)
  core_more (gs ∷ cores) (suc i) g others mine h =
      each-append gs (residents_of (slice_set cores i (g ∷ others))) (each-left gs (residents_of (slice_set cores i others)) h)
      (core_more cores i g others mine (each-right gs (residents_of (slice_set cores i others)) h))

  pub core_none : (n : ℕ) → Each P (residents_of (replicate n []))
  core_none zero = tt
  core_none (suc n) = core_none n

  -- ---- the threads of a world

  pub record EachPart (w : World) : Type 0 where
    pub queue : Each P w.queue
    pub cores : Each P (residents_of w.cores)
    pub done : Each P w.done

  pub parts_of : (w : World) → Each P (threads_of w) → EachPart w
  parts_of w h =
      let front = each-left (w.queue ++ residents_of w.cores) w.done h in
      record {
        queue = each-left w.queue (residents_of w.cores) front;
        cores = each-right w.queue (residents_of w.cores) front;
        done = each-right (w.queue ++ residents_of w.cores) w.done h;
      }

  pub parts_all : (w : World) → EachPart w → Each P (threads_of w)
  parts_all w h =
      each-append (w.queue ++ residents_of w.cores) w.done (each-append w.queue (residents_of w.cores) h.queue h.cores) h.done

-- where a number is not among some threads
pub each_apart : (P : Guest → Type 0) (t : ℕ) (gs : List Guest) → times t gs ≡ 0 → Each P gs → Each (λ g. P g × (g.number ≢ t)) gs
each_apart P t [] none h = tt
each_apart P t (g ∷ gs) none h =
    ((h.0, other_number g.number t (omega (arith, none))), each_apart P t gs (omega (arith, none)) h.1)
