-- Texts written one after another.
use Rattle.std.proofs.Common.{true, false, ◌≡◌, ℕ, suc, ◌+◌, ◌≤◌, ◌++◌, List, [], ◌∷◌, length, take, min, refl, ap, sym, ◌∙◌, arith, subst}
use Rattle.std.proofs.Common.{append_assoc, Option, Some, None, Result, Ok, Err}
use Rattle.std.proofs.lemmas.Grind.{common_steps}
use Rattle.std.proofs.lemmas.List.{length-append}
use Rattle.std.specs.Prelude.{IsOk}
use Rattle.std.specs.Result.{IsErr}
use Rattle.edge_io.specs.Cause.{Rose}
use Rattle.edge_io.specs.Sink.{SinkView, added, Writes}
use Rattle.edge_io.specs.declared.sink.PutFault.{PutFault}

added-nil : (told : Option (List ℕ)) → told ≡ added told []
added-nil None = refl
added-nil (Some held) = ap Some (grind (arith, common_steps))

added-append : (told : Option (List ℕ)) (s t : List ℕ) → added (added told s) t ≡ added told (s ++ t)
added-append None s t = refl
added-append (Some held) s t = ap Some (append_assoc held s t)

take-both : (s t : List ℕ) (n : ℕ) → take (length s + n) (s ++ t) ≡ s ++ take n t
take-both [] t n = let e : 0 + n ≡ n = omega arith in rw e refl
take-both (x ∷ s) t n = let e : suc (length s) + n ≡ suc (length s + n) = omega arith in rw e (ap (λ l. x ∷ l) (take-both s t n))

take-first : (s t : List ℕ) (n : ℕ) → take (min n (length s)) (s ++ t) ≡ take n s
take-first s t n = grind (arith, common_steps)

-- where both texts fit, the first does
fits_first : (s t : List ℕ) (room : ℕ) → length (s ++ t) ≤ room → length s ≤ room
fits_first s t room fits = omega (arith, length-append s t)

-- and the second then does
fits_second : (s t : List ℕ) (room left : ℕ) → length (s ++ t) ≤ room → room ≤ length s + left → length t ≤ left
fits_second s t room left fits h = omega (arith, length-append s t)

fits_left : (s t : List ℕ) (room left last : ℕ) → room ≤ length s + left → left ≤ length t + last → room ≤ length (s ++ t) + last
fits_left s t room left last h k = omega (arith, length-append s t)

fits_both : (a b c : SinkView) (r : Result Unit PutFault) (s t : List ℕ) → Writes a b (Ok tt) s → Writes b c r t → length (s ++ t) ≤ a.room
    → IsOk r × (a.room ≤ length (s ++ t) + c.room)
fits_both a b c r s t h k fits =
    let first = h.accepts (fits_first s t a.room fits) in
    let second = k.accepts (fits_second s t a.room b.room fits first.1) in
    (second.0, fits_left s t a.room b.room c.room first.1 second.1)

pub writes_none : (a : SinkView) → Writes a a (Ok tt) []
writes_none a = record { ok = (added-nil a.held, refl); failed = tt; cause = tt; accepts = λ fits. (refl, omega arith) }

pub writes_then : (a b c : SinkView) (r : Result Unit PutFault) (s t : List ℕ) → Writes a b (Ok tt) s → Writes b c r t
    → Writes a c r (s ++ t)
writes_then a b c (Ok tt) s t h k = record {
  ok = (k.ok.0 ∙ ap (λ x. added x t) h.ok.0 ∙ added-append a.held s t, k.ok.1 ∙ h.ok.1);
  failed = tt;
  cause = tt;
  accepts = λ fits. fits_both a b c (Ok tt) s t h k fits;
}
writes_then a b c (Err e) s t h k = record {
  ok = tt;
  failed = (
    length s + k.failed.0,
    k.failed.1 ∙ ap (λ x. added x (take k.failed.0 t)) h.ok.0 ∙ added-append a.held s (take k.failed.0 t)
        ∙ ap (added a.held) (sym (take-both s t k.failed.0)),
  );
  cause = subst (λ n. Rose n c.faults × (n ≤ c.faults)) h.ok.1 k.cause;
  accepts = λ fits. fits_both a b c (Err e) s t h k fits;
}

pub writes_stop : (a b : SinkView) (r r' : Result Unit PutFault) (s t : List ℕ) → IsErr r' → IsErr r → Writes a b r s
    → Writes a b r' (s ++ t)
writes_stop a b (Ok u) r' s t e' e h = cc
writes_stop a b (Err x) (Ok u) s t e' e h = cc
writes_stop a b (Err x) (Err y) s t e' e h = record {
  ok = tt;
  failed = (min h.failed.0 (length s), h.failed.1 ∙ ap (added a.held) (sym (take-first s t h.failed.0)));
  cause = h.cause;
  accepts = λ fits. let f : false ≡ true = (h.accepts (fits_first s t a.room fits)).0 in cc;
}

-- the same text, said otherwise
pub writes_as : {a b : SinkView} {r : Result Unit PutFault} {s t : List ℕ} → s ≡ t → Writes a b r s → Writes a b r t
writes_as {a = a} {b = b} {r = r} e h = let P : List ℕ → Type 0 = λ l. Writes a b r l in subst P e h
