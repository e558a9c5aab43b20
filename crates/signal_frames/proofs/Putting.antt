-- Parts that are written one after the other.
use Rattle.std.proofs.Common.{◌≡◌, ◌≢◌, ℕ, ◌+◌, ◌/◌, ◌%◌, ◌^◌, ◌<◌, Bool, true, false, cond, List, [], ◌∷◌, ◌++◌}
use Rattle.std.proofs.Common.{length, take, get_or, Option, Some, None, refl, ap, sym, ◌∙◌, arith, length-append}
use Rattle.std.proofs.Common.{subst}
use Rattle.std.proofs.lemmas.List.{append-nil, take_more, take_all}
use Rattle.std.proofs.lemmas.Grind.{flat_map-append}
use Rattle.std.proofs.lemmas.List.Folds.{concat-append}
use Rattle.std.specs.List.{concat, flat_map}
use Rattle.sve_vectors.specs.Predicates.{predicate_bytes}
use Rattle.std.specs.Prelude.{IsSome, Result, Ok, Err, OnOk, IfErr}
use Rattle.std.specs.FinMap.{FinMap, get, insert, get-insert}
use Rattle.std.specs.Ordering.{nat_cmp, eq_by_cmp}
use Rattle.std.specs.Cmp.{nat_cmp_total}
use Rattle.plain_lemmas.proofs.Options.{neither_some}
use Rattle.paged_memory.specs.Memory.{AddressSpace, byte_with, permits, permitted, first_without, run_of, set_bytes}
use Rattle.paged_memory.specs.PageTable.{PageTable, AreOwned, OwnsAlso, Owns}
use Rattle.paged_memory.specs.Accesses.{stopped_at}
use Rattle.paged_memory.specs.declared.pages.WriteStop.{WriteStop}
use Rattle.paged_memory.specs.declared.pages.WriteStop.TheVariants as stop
use Rattle.paged_memory.proofs.Accesses.{first_without-join}
use Rattle.paged_memory.proofs.Owned.{also_owned, owns_keeps, owns_no_more, owns_then}
use Rattle.paged_memory.proofs.Over.{set_bytes-append}
use Rattle.paged_memory.proofs.Ready.{still_none}
use Rattle.signal_frames.specs.Writing.{IsReady, Puts, PutsPart}

-- ---- what bytes leave of memory that is ready for others

some_after : (b : Bool) (x : ℕ) (o : Option ℕ) → IsSome o → IsSome (cond b (Some x) o)
some_after true x o h = refl
some_after false x o h = h

-- a byte that is there stays there
still_there : (m : FinMap nat_cmp ℕ) (a : ℕ) (bs : List ℕ) (k : ℕ) → IsSome (get m k) → IsSome (get (set_bytes m a bs) k)
unfolding set_bytes
still_there m a [] k h = h
still_there m a (b ∷ bs) k h =
    still_there (insert m (a % 2 ^ 64) b) (a + 1) bs k
    (rw (get-insert nat_cmp_total m (a % 2 ^ 64) b k) (some_after (eq_by_cmp nat_cmp k (a % 2 ^ 64)) b (get m k) h))

permitted_then : (need : ℕ) (flags old new : Option ℕ) → (IsSome old → IsSome new) → IsSome (permitted need flags old)
    → IsSome (permitted need flags new)
permitted_then need None old new f h = h
permitted_then need (Some flags) old new f h = choose (permits need flags) h
  where
    choose : (b : Bool) → IsSome (cond b old None) → IsSome (cond b new None)
    choose true h = f h
    choose false h = h

still_permitted : (need : ℕ) (m : AddressSpace) (a : ℕ) (bs : List ℕ) (k : ℕ) → IsSome (byte_with need m k)
    → IsSome (byte_with need (record m { mem = set_bytes m.mem a bs }) k)
unfolding byte_with
still_permitted need m a bs k h =
    permitted_then need (get m.perm (k / 4096)) (get m.mem k) (get (set_bytes m.mem a bs) k) (still_there m.mem a bs k) h

pub ready_still : (old new : PageTable) (a : ℕ) (bs : List ℕ) (b n : ℕ) → Puts old new a bs → IsReady old b n → IsReady new b n
ready_still old new a bs b n puts ready = record {
  writable = rw puts.memory
      (still_none 2 old.memory (record old.memory { mem = set_bytes old.memory.mem a bs }) b n (still_permitted 2 old.memory a bs)
      ready.writable);
  owned = λ k l there.
      owns_keeps old new [] puts.owned ((b + k) % 2 ^ 64 / 4096)
      (ready.owned k l (rw (ap (λ (m : AddressSpace). m.perm) puts.memory) at there));
}

-- bytes that may be written are ready, where their pages are owned besides those that were
pub ready_by : (old new : PageTable) (a n : ℕ) → first_without 2 old.memory a n ≡ None → OwnsAlso old new (run_of a n)
    → new.memory ≡ old.memory → IsReady new a n
ready_by old new a n writable owns same = record {
  writable = rw same writable;
  owned = also_owned old new a n owns (ap (λ (m : AddressSpace). m.perm) same);
}

-- ---- parts of what is ready

pub ready_front : (pages : PageTable) (a d n : ℕ) → IsReady pages a (d + n) → IsReady pages a d
ready_front pages a d n ready = record {
  writable = (neither_some (first_without 2 pages.memory a d) (first_without 2 pages.memory ((a + d) % 2 ^ 64) n)
      (sym (first_without-join 2 pages.memory a d n) ∙ ready.writable)).0;
  owned = λ k l there. ready.owned k (omega arith) there;
}

pub ready_rest : (pages : PageTable) (a d n : ℕ) → IsReady pages a (d + n) → IsReady pages ((a + d) % 2 ^ 64) n
ready_rest pages a d n ready = record {
  writable = (neither_some (first_without 2 pages.memory a d) (first_without 2 pages.memory ((a + d) % 2 ^ 64) n)
      (sym (first_without-join 2 pages.memory a d n) ∙ ready.writable)).1;
  owned = λ k l there.
      let e : ((a + d) % 2 ^ 64 + k) % 2 ^ 64 ≡ (a + (d + k)) % 2 ^ 64 = omega arith in
      rw e (ready.owned (d + k) (omega arith) (rw e at there));
}

-- ---- bytes from an address that has gone round

pub set_bytes-round : (m : FinMap nat_cmp ℕ) (a b : ℕ) (bs : List ℕ) → a % 2 ^ 64 ≡ b % 2 ^ 64 → set_bytes m a bs ≡ set_bytes m b bs
unfolding set_bytes
set_bytes-round m a b [] e = refl
set_bytes-round m a b (x ∷ bs) e =
    let next : (a + 1) % 2 ^ 64 ≡ (b + 1) % 2 ^ 64 = omega arith in
    rw e (set_bytes-round (insert m (b % 2 ^ 64) x) (a + 1) (b + 1) bs next)

-- ---- one write

pub put_written : (old new : PageTable) (a : ℕ) (bs : List ℕ) (r : Result (Unit {0}) WriteStop)
    → OnOk r (new.memory ≡ record old.memory { mem = set_bytes old.memory.mem a bs })
    → IfErr r (λ e. first_without 2 old.memory a (length bs) ≡ stopped_at e)
    → (AreOwned old a (length bs) → r ≢ Err stop.Memory) → Owns stopped_at (run_of a (length bs)) old new r
    → IsReady old a (length bs) → Puts old new a bs
put_written old new a bs (Ok done) is stops room owns ready =
    record { memory = is; owned = owns_no_more old new a (length bs) ready.owned owns }
put_written old new a bs (Err (stop.Abort abort)) is stops room owns ready =
    let e : None ≡ Some abort.address = sym ready.writable ∙ stops in cc
put_written old new a bs (Err stop.Memory) is stops room owns ready = absurd (room ready.owned refl)

-- ---- one part after another

pub puts_none : (pages : PageTable) (a : ℕ) → a < 2 ^ 64 → PutsPart pages pages a a []
unfolding set_bytes
puts_none pages a low = record {
  puts = λ ready. record { memory = refl; owned = λ n. refl };
  next = omega arith;
}

pub puts_both : (p q r : PageTable) (a b c : ℕ) (xs ys : List ℕ) → PutsPart p q a b xs → PutsPart q r b c ys
    → PutsPart p r a c (xs ++ ys)
puts_both p q r a b c xs ys first second = record { puts = puts; next = next }
  where
    long : length (xs ++ ys) ≡ length xs + length ys
    long = length-append xs ys

    next : c ≡ (a + length (xs ++ ys)) % 2 ^ 64
    next = omega (arith, first.next, second.next, long)

    puts : IsReady p a (length (xs ++ ys)) → Puts p r a (xs ++ ys)
    puts ready =
        let all : IsReady p a (length xs + length ys) = rw long at ready in
        let one : Puts p q a xs = first.puts (ready_front p a (length xs) (length ys) all) in
        let rest : IsReady q b (length ys) = rw first.next
        (ready_rest q a (length xs) (length ys) (ready_still p q a xs a (length xs + length ys) one all)) in
        let two : Puts q r b ys = second.puts rest in
        let round : set_bytes (set_bytes p.memory.mem a xs) b ys ≡ set_bytes p.memory.mem a (xs ++ ys) =
        set_bytes-round (set_bytes p.memory.mem a xs) b (a + length xs) ys (omega (arith, first.next))
        ∙ sym (set_bytes-append p.memory.mem a xs ys) in
        record {
          memory = two.memory ∙ ap (λ (m : AddressSpace). record m { mem = set_bytes m.mem b ys }) one.memory
              ∙ ap (λ k. record p.memory { mem = k }) round;
          owned = owns_then p q r [] one.owned two.owned;
        }

-- ---- the parts of a loop

concat_more : (rows : List (List ℕ)) (n : ℕ) → n < length rows → concat (take (n + 1) rows) ≡ concat (take n rows) ++ get_or rows n []
concat_more rows n l =
    ap concat (take_more rows n [] l) ∙ concat-append (take n rows) (get_or rows n [] ∷ [])
    ∙ ap (λ k. concat (take n rows) ++ k) (append-nil (get_or rows n []))

flat_map_next : (f : List Bool → List ℕ) (rows : List (List Bool)) (n : ℕ) → n < length rows
    → flat_map f (take (n + 1) rows) ≡ flat_map f (take n rows) ++ f (get_or rows n [])
flat_map_next f rows n l =
    ap (flat_map f) (take_more rows n [] l) ∙ flat_map-append f (take n rows) (get_or rows n [] ∷ [])
    ∙ ap (λ k. flat_map f (take n rows) ++ k) (append-nil (f (get_or rows n [])))

pub puts_row : (p q r : PageTable) (a b c n : ℕ) (rows : List (List ℕ)) (row : List ℕ) → n < length rows → row ≡ get_or rows n []
    → PutsPart p q a b (concat (take n rows)) → PutsPart q r b c row → PutsPart p r a c (concat (take (n + 1) rows))
puts_row p q r a b c n rows row l is before here =
    subst (PutsPart p r a c) (ap (λ k. concat (take n rows) ++ k) is ∙ sym (concat_more rows n l))
    (puts_both p q r a b c (concat (take n rows)) row before here)

pub puts_predicate : (p q r : PageTable) (a b c n : ℕ) (rows : List (List Bool)) (row : List ℕ) → n < length rows
    → row ≡ predicate_bytes (get_or rows n []) → PutsPart p q a b (flat_map predicate_bytes (take n rows)) → PutsPart q r b c row
    → PutsPart p r a c (flat_map predicate_bytes (take (n + 1) rows))
puts_predicate p q r a b c n rows row l is before here =
    subst (PutsPart p r a c)
    (ap (λ k. flat_map predicate_bytes (take n rows) ++ k) is ∙ sym (flat_map_next predicate_bytes rows n l))
    (puts_both p q r a b c (flat_map predicate_bytes (take n rows)) row before here)

pub puts_all : {A : Type 0} (p q : PageTable) (a b n : ℕ) (f : List A → List ℕ) (rows : List A) → length rows ≡ n
    → PutsPart p q a b (f (take n rows)) → PutsPart p q a b (f rows)
puts_all p q a b n f rows long h = subst (λ k. PutsPart p q a b (f k)) (take_all n rows (omega arith)) h
