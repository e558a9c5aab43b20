-- What is written by a table is read by it, and the other way round.
use Rattle.std.proofs.Common.{◌≡◌, ℕ, ◌+◌, ◌≤◌, ◌++◌, Bool, true, false, cond, List, [], ◌∷◌, take, drop, length, Option, Some, None}
use Rattle.std.proofs.Common.{refl, ap, sym, ◌∙◌, subst, arith}
use Rattle.std.specs.Prelude.{nat_lt}
use Rattle.std.specs.List.{concat}
use Rattle.std.proofs.lemmas.Bool.Decides.{nat_tests}
use Rattle.std.proofs.lemmas.List.{take-append-drop, length-take-le}
use Rattle.std.proofs.Common.{append_assoc, length-append}
use Rattle.plain_lemmas.proofs.Lists.{append_inj, take_length}
use Rattle.field_table.specs.Table.{Table, Field, End, first_bad, Passes, IsFilled, Fills}

within : (value rest : List ℕ) → length value ≤ length (value ++ rest)
within [] rest = omega arith
within (x ∷ xs) rest = let less = within xs rest in omega (arith, less)

not_less : (n m : ℕ) → n ≤ m → nat_lt m n ≡ false
not_less n m l = grind (arith, nat_tests)

not_short : (value rest : List ℕ) → nat_lt (length (value ++ rest)) (length value) ≡ false
not_short value rest = not_less (length value) (length (value ++ rest)) (within value rest)

dropped : (value rest : List ℕ) → drop (length value) (value ++ rest) ≡ rest
dropped [] rest = refl
dropped (x ∷ xs) rest = dropped xs rest

-- the first field is as it must be
field_reads : (value rest : List ℕ) (is_right : List ℕ → Bool) (next : List ℕ → Table) (at : ℕ) → is_right value ≡ true
    → first_bad (Field (length value) is_right next) (value ++ rest) at ≡ first_bad (next value) rest (at + length value)
unfolding first_bad
field_reads value rest is_right next at right =
    ap (λ b. cond b (Some at) (cond (is_right (take (length value) (value ++ rest)))
    (first_bad (next (take (length value) (value ++ rest))) (drop (length value) (value ++ rest)) (at + length value)) (Some at)))
    (not_short value rest)
    ∙ ap (λ v. cond (is_right v) (first_bad (next v) (drop (length value) (value ++ rest)) (at + length value)) (Some at))
    (take_length value rest)
    ∙ ap (λ b. cond b (first_bad (next value) (drop (length value) (value ++ rest)) (at + length value)) (Some at)) right
    ∙ ap (λ r. first_bad (next value) r (at + length value)) (dropped value rest)

-- what is filled has no bad field
pub filled_reads : (table : Table) (values : List (List ℕ)) (at : ℕ) → IsFilled table values → first_bad table (concat values) at ≡ None
unfolding first_bad
filled_reads End [] at h = refl
filled_reads End (value ∷ values) at h = absurd h
filled_reads (Field n is_right next) [] at h = absurd h
filled_reads (Field n is_right next) (value ∷ values) at h =
    subst (λ k. first_bad (Field k is_right next) (value ++ concat values) at ≡ None) h.0
    (field_reads value (concat values) is_right next at h.1 ∙ filled_reads (next value) values (at + length value) h.2)

no_fault : (at : ℕ) (short right : Bool) (rest : Option ℕ) → cond short (Some at) (cond right rest (Some at)) ≡ None
    → (short ≡ false) × (right ≡ true) × (rest ≡ None)
no_fault at true right rest e = cc
no_fault at false true rest e = (refl, refl, e)
no_fault at false false rest e = cc

long_enough : (n m : ℕ) → nat_lt m n ≡ false → n ≤ m
long_enough n m e = grind (arith, nat_tests)

-- and what has none is filled
pub reads_filled : (table : Table) (bytes : List ℕ) (at : ℕ) → first_bad table bytes at ≡ None → Fills table bytes
unfolding first_bad
reads_filled End [] at h = record { values = []; filled = tt; whole = refl }
reads_filled End (byte ∷ bytes) at h = cc
reads_filled (Field n is_right next) bytes at h =
    let good = no_fault at (nat_lt (length bytes) n) (is_right (take n bytes)) (first_bad (next (take n bytes)) (drop n bytes) (at + n)) h in
    let rest = reads_filled (next (take n bytes)) (drop n bytes) (at + n) good.2 in
    record {
      values = take n bytes ∷ rest.values;
      filled = (length-take-le n bytes (long_enough n (length bytes) good.0), good.1, rest.filled);
      whole = sym (take-append-drop n bytes) ∙ ap (λ l. take n bytes ++ l) rest.whole;
    }

-- a file is filled in one way
pub one_filling : (table : Table) (values others : List (List ℕ)) → IsFilled table values → IsFilled table others
    → concat values ≡ concat others → values ≡ others
one_filling End [] [] h k e = refl
one_filling End [] (w ∷ ws) h k e = absurd k
one_filling End (v ∷ vs) others h k e = absurd h
one_filling (Field n is_right next) [] others h k e = absurd h
one_filling (Field n is_right next) (v ∷ vs) [] h k e = absurd k
one_filling (Field n is_right next) (v ∷ vs) (w ∷ ws) h k e =
    let same = append_inj v w (concat vs) (concat ws) (h.0 ∙ sym k.0) e in
    let rest = one_filling (next v) vs ws h.2 (subst (λ u. IsFilled (next u) ws) (sym same.0) k.2) same.1 in
    λ i. same.0 i ∷ rest i

-- ---- the first fields of a table

-- some fields, and then some more
pub passes_more : (table between next : Table) (values others : List (List ℕ)) → Passes table values between
    → Passes between others next → Passes table (values ++ others) next
unfolding Passes
passes_more table between next [] others h k = subst (λ t. Passes t others next) (sym h) k
passes_more End between next (value ∷ values) others h k = absurd h
passes_more (Field n is_right follows) between next (value ∷ values) others h k =
    (h.0, h.1, passes_more (follows value) between next values others h.2 k)

-- and then the last ones
pub passes_filled : (table next : Table) (values others : List (List ℕ)) → Passes table values next → IsFilled next others
    → IsFilled table (values ++ others)
unfolding Passes
passes_filled table next [] others h k = subst (λ t. IsFilled t others) (sym h) k
passes_filled End next (value ∷ values) others h k = absurd h
passes_filled (Field n is_right follows) next (value ∷ values) others h k =
    (h.0, h.1, passes_filled (follows value) next values others h.2 k)

-- where some fields are as they must be, the first bad one is that of what follows
pub passes_bad : (table next : Table) (values : List (List ℕ)) (rest : List ℕ) (at : ℕ) → Passes table values next
    → first_bad table (concat values ++ rest) at ≡ first_bad next rest (at + length (concat values))
unfolding Passes
passes_bad table next [] rest at h = rw h (ap (first_bad next rest) (omega arith))
passes_bad End next (value ∷ values) rest at h = absurd h
passes_bad (Field n is_right follows) next (value ∷ values) rest at h =
    ap (λ l. first_bad (Field n is_right follows) l at) (append_assoc value (concat values) rest)
    ∙ subst (λ k. first_bad (Field k is_right follows) (value ++ (concat values ++ rest)) at
    ≡ first_bad (follows value) (concat values ++ rest) (at + length value)) h.0
    (field_reads value (concat values ++ rest) is_right follows at h.1)
    ∙ passes_bad (follows value) next values rest (at + length value) h.2
    ∙ ap (first_bad next rest) (omega (arith, length-append value (concat values)))
