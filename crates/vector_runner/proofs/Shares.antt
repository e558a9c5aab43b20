-- The shares of the workers, and their answers put together.
use Rattle.std.proofs.Common.{◌≡◌, ℕ, suc, ◌+◌, ◌*◌, ◌<◌, ◌≤◌, ◌++◌, ◌∷◌, List, [], length, take, drop, get_or, map, min, Result, Ok, Err, refl, sym, ap, ◌∙◌, arith, append_assoc, All, subst}
use Rattle.std.proofs.lemmas.List.{map-append, take-append-drop, drop-drop, append-nil}
use Rattle.std.proofs.lemmas.Grind.{common_steps, flat_map-append}
use Rattle.std.proofs.lemmas.List.Elements.{All-push}
use Rattle.std.proofs.Math.Nat.{mul-le-mul_right}
use Rattle.std.specs.List.{flat_map}
use Rattle.std.specs.Prelude.{IfOk, IsOk}
use Rattle.std.specs.Fork.{slice_chunk}
use Rattle.std.specs.declared.vec.Vec.{Vec}
use Rattle.sm_types.specs.declared.length.VecLen.{VecLen}
use Rattle.sm_types.specs.declared.Memory.{Memory}
use Rattle.vector_runner.specs.declared.vector.Vector.{Vector}
use Rattle.vector_runner.specs.Answer.{answer}
use Rattle.vector_runner.specs.Run.{answers, lines_of}
use Rattle.vector_runner.specs.Told.{vector_told}

-- the answers to a part of the vectors, and to the rest
answers_both : (vl svl : VecLen) (xs ys : List Vector)
    → answers vl svl (map vector_told (xs ++ ys)) ≡ answers vl svl (map vector_told xs) ++ answers vl svl (map vector_told ys)
unfolding answers
answers_both vl svl xs ys =
    ap (answers vl svl) (map-append vector_told xs ys) ∙ map-append (answer vl svl) (map vector_told xs) (map vector_told ys)

module _ (vl svl : VecLen) (vectors : List Vector) (size : ℕ) where
  -- the answers of the vectors from share k on
  abbrev from : ℕ → List (List ℕ)
  from k = answers vl svl (map vector_told (drop (k * size) vectors))

  next : (k : ℕ) → answers vl svl (map vector_told (slice_chunk vectors size k)) ++ from (k + 1) ≡ from k
  next k =
      let place : (k + 1) * size ≡ k * size + size = omega arith in
      let rest : drop ((k + 1) * size) vectors ≡ drop size (drop (k * size) vectors) =
      ap (λ n. drop n vectors) place ∙ sym (drop-drop size (k * size) vectors) in
      ap (λ l. answers vl svl (map vector_told (take size (drop (k * size) vectors))) ++ answers vl svl (map vector_told l)) rest
      ∙ sym (answers_both vl svl (take size (drop (k * size) vectors)) (drop size (drop (k * size) vectors)))
      ∙ ap (λ l. answers vl svl (map vector_told l)) (take-append-drop size (drop (k * size) vectors))

module _ {A B : Type 0} (vl svl : VecLen) (vectors : List Vector) (size : ℕ) where
  -- each share's answers are those of its vectors, the first of them number k
  abbrev AreShares : ℕ → List (Result (Vec (Vec ℕ A) B) Memory) → Type 0
  AreShares k rs = (i : ℕ) (d : Result (Vec (Vec ℕ A) B) Memory) → i < length rs
      → IfOk (get_or rs i d) (λ lines. map (λ line. line.items) lines.items
      ≡ answers vl svl (map vector_told (slice_chunk vectors size (k + i))))

  one : (k : ℕ) (r : Result (Vec (Vec ℕ A) B) Memory) → IsOk r
      → IfOk r (λ lines. map (λ line. line.items) lines.items ≡ answers vl svl (map vector_told (slice_chunk vectors size (k + 0))))
      → lines_of r ≡ answers vl svl (map vector_told (slice_chunk vectors size k))
  one k (Ok lines) is e =
      let same : k + 0 ≡ k = omega arith in e ∙ ap (λ n. answers vl svl (map vector_told (slice_chunk vectors size n))) same
  one k (Err it) is e = cc

  joined : (k : ℕ) (rs : List (Result (Vec (Vec ℕ A) B) Memory)) → AreShares k rs → All (λ r. IsOk r) rs
      → length vectors ≤ (k + length rs) * size → flat_map lines_of rs ≡ from vl svl vectors size k
  unfolding answers
  joined k [] are ok enough =
      let same : k + 0 ≡ k = omega arith in
      let long : length vectors ≤ k * size = rw same at enough in
      let none : drop (k * size) vectors ≡ [] = grind (arith, common_steps) in
      ap (λ l. answers vl svl (map vector_told l)) (sym none)
  joined k (r ∷ rs) are ok enough =
      let later : AreShares (k + 1) rs = λ i d l. let e : k + suc i ≡ k + 1 + i = omega arith in rw e at (are (suc i) d (omega arith)) in
      let count : k + suc (length rs) ≡ k + 1 + length rs = omega arith in
      let room : length vectors ≤ (k + 1 + length rs) * size = rw count at enough in
      ap (λ l. l ++ flat_map lines_of rs) (one k r (ok 0 r (omega arith)) (are 0 r (omega arith)))
      ∙ ap (λ l. answers vl svl (map vector_told (slice_chunk vectors size k)) ++ l)
      (joined (k + 1) rs later (λ i d l. ok (suc i) d (omega arith)) room)
      ∙ next vl svl vectors size k

  from_first : (rs : List (Result (Vec (Vec ℕ A) B) Memory)) → ((i : ℕ) (d : Result (Vec (Vec ℕ A) B) Memory) → i < length rs
      → IfOk (get_or rs i d) (λ lines. map (λ line. line.items) lines.items
      ≡ answers vl svl (map vector_told (slice_chunk vectors size i))))
      → AreShares 0 rs
  from_first rs h i d l = let same : 0 + i ≡ i = omega arith in rw same (h i d l)

  -- the answers of all shares are those of all vectors
  pub all_joined : (rs : List (Result (Vec (Vec ℕ A) B) Memory)) → ((i : ℕ) (d : Result (Vec (Vec ℕ A) B) Memory) → i < length rs
      → IfOk (get_or rs i d) (λ lines. map (λ line. line.items) lines.items
      ≡ answers vl svl (map vector_told (slice_chunk vectors size i))))
      → All (λ r. IsOk r) rs → length vectors ≤ length rs * size → flat_map lines_of rs ≡ answers vl svl (map vector_told vectors)
  all_joined rs h ok enough =
      let all : length vectors ≤ (0 + length rs) * size = let same : 0 + length rs ≡ length rs = omega arith in rw same enough in
      let none : 0 * size ≡ 0 = omega arith in
      joined 0 rs (from_first rs h) ok all ∙ ap (λ n. answers vl svl (map vector_told (drop n vectors))) none

-- ---- the shares that are left, and what those behind them said

module _ {A B : Type 0} where
  -- one share less is left
  pub joined_more : (rs rest : List (Result (Vec (Vec ℕ A) B) Memory)) (v : Vec (Vec ℕ A) B) (lines joined : List (Vec ℕ A))
      (whole : List (List ℕ))
      → rs ≡ rest ++ Ok v ∷ [] → joined ≡ v.items ++ lines → flat_map lines_of rs ++ map (λ line. line.items) lines ≡ whole
      → flat_map lines_of rest ++ map (λ line. line.items) joined ≡ whole
  joined_more rs rest v lines joined whole is e h =
      let items : List (Vec ℕ A) → List (List ℕ) = λ ls. map (λ line. line.items) ls in
      let last : flat_map lines_of rs ≡ flat_map lines_of rest ++ items v.items =
      ap (flat_map lines_of) is ∙ flat_map-append lines_of rest (Ok v ∷ [])
      ∙ ap (λ l. flat_map lines_of rest ++ l) (append-nil (items v.items)) in
      ap (λ ls. flat_map lines_of rest ++ items ls) e
      ∙ ap (λ l. flat_map lines_of rest ++ l) (map-append (λ line. line.items) v.items lines)
      ∙ sym (append_assoc (flat_map lines_of rest) (items v.items) (items lines))
      ∙ ap (λ l. l ++ items lines) (sym last) ∙ h

  pub answered_more : (rs rest : List (Result (Vec (Vec ℕ A) B) Memory)) (v : Vec (Vec ℕ A) B) → rs ≡ rest ++ Ok v ∷ []
      → All (λ r. IsOk r) rest → All (λ r. IsOk r) rs
  answered_more rs rest v is h =
      subst (λ (l : List (Result (Vec (Vec ℕ A) B) Memory)). All (λ r. IsOk r) l) (sym is) (All-push (λ r. IsOk r) rest (Ok v) h refl)

-- ---- how many a worker has

share_from : {A : Type 0} (xs : List A) (size start : ℕ)
    → take (min (length (drop (min (length xs) start) xs)) size) (drop (min (length xs) start) xs) ≡ take size (drop start xs)
share_from xs size start =
    let same : drop (min (length xs) start) xs ≡ drop start xs = grind (arith, common_steps) in
    let rest = drop start xs in
    let short : take (min (length rest) size) rest ≡ take size rest = grind (arith, common_steps) in
    ap (λ l. take (min (length l) size) l) same ∙ short

pub share_is : {A : Type 0} (xs : List A) (size worker : ℕ)
    → take (min (length (drop (min (length xs) (worker * size)) xs)) size) (drop (min (length xs) (worker * size)) xs)
    ≡ slice_chunk xs size worker
share_is xs size worker = share_from xs size (worker * size)

pub place_fits : (size worker : ℕ) → size ≤ 2048 → worker < 64 → worker * size ≤ 129024
place_fits size worker l h =
    let most : worker ≤ 63 = omega arith in
    let scaled : worker * size ≤ 63 * size = mul-le-mul_right size most in omega (arith, scaled)

-- the lines of all shares
pub run_joined : {A B C : Type 0} (vl svl : VecLen) (vectors : List Vector) (size workers : ℕ) (rs : List (Result (Vec (Vec ℕ A) B) Memory))
    (r : Result (Vec (Vec ℕ A) C) Memory) → length rs ≡ workers → length vectors ≤ workers * size
    → ((i : ℕ) (d : Result (Vec (Vec ℕ A) B) Memory) → i < workers
    → IfOk (get_or rs i d) (λ lines. map (λ line. line.items) lines.items ≡ answers vl svl (map vector_told (slice_chunk vectors size i))))
    → IfOk r (λ lines. map (λ line. line.items) lines.items ≡ flat_map lines_of rs) → IfOk r (λ lines. All (λ share. IsOk share) rs)
    → IfOk r (λ lines. map (λ line. line.items) lines.items ≡ answers vl svl (map vector_told vectors))
run_joined vl svl vectors size workers rs (Err it) count enough each lines ok = tt
run_joined vl svl vectors size workers rs (Ok made) count enough each lines ok =
    lines ∙ all_joined vl svl vectors size rs (λ i d l. each i d (omega (arith, count))) ok (rw count enough)
