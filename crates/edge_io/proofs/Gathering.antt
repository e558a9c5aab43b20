-- Texts gathered one after another.
use Rattle.std.proofs.Common.{◌≡◌, ℕ, ◌+◌, ◌<◌, ◌≤◌, ◌++◌, List, [], length, take, drop, get_or, refl, ap, sym, ◌∙◌, arith, subst}
use Rattle.std.proofs.Common.{append_assoc, Result, Ok, Err}
use Rattle.std.proofs.lemmas.Grind.{common_steps, flat_map-append}
use Rattle.std.proofs.lemmas.List.{take-append-drop, take_more, length-append, append-nil}
use Rattle.std.specs.List.{flat_map}
use Rattle.std.specs.Result.{IsErr}
use Rattle.edge_io.specs.Pieces.{Gathered, Gathers, piece_size}
use Rattle.edge_io.specs.Sink.{SinkView, Writes}
use Rattle.edge_io.specs.Sofar.{SoFar}
use Rattle.edge_io.specs.declared.sink.PutFault.{PutFault}
use Rattle.edge_io.proofs.Writing.{writes_none, writes_then, writes_stop, writes_as}

-- what was held and the first text were written or are held, and so are then what is held and the second
regroup : (v w c b t a s : List ℕ) → v ++ b ≡ a ++ s → w ++ c ≡ b ++ t → (v ++ w) ++ c ≡ a ++ (s ++ t)
regroup v w c b t a s h k = append_assoc v w c ∙ ap (λ l. v ++ l) k ∙ sym (append_assoc v b t) ∙ ap (λ l. l ++ t) h ∙ append_assoc a s t

follows : (v b t a s : List ℕ) → v ++ b ≡ a ++ s → v ++ (b ++ t) ≡ a ++ (s ++ t)
follows v b t a s h = sym (append_assoc v b t) ∙ ap (λ l. l ++ t) h ∙ append_assoc a s t

room_first : (h s t : List ℕ) → length h + length (s ++ t) ≤ piece_size → length h + length s ≤ piece_size
room_first h s t fits = omega (arith, length-append s t)

room_second : (w b a s t : List ℕ) → w ++ b ≡ a ++ s → length a + length (s ++ t) ≤ piece_size → length b + length t ≤ piece_size
room_second w b a s t e fits =
    let size : length (w ++ b) ≡ length (a ++ s) = ap length e in
    omega (arith, length-append w b, length-append a s, length-append s t)

gathers_then : (a b c : Gathered) (r : Result Unit PutFault) (s t : List ℕ) → Gathers a b (Ok tt) s → Gathers b c r t
    → Gathers a c r (s ++ t)
gathers_then a b c (Ok tt) s t h k = record {
  ok = (h.ok.0 ++ k.ok.0, writes_then _ _ _ _ _ _ h.ok.1 k.ok.1, regroup h.ok.0 k.ok.0 c.held b.held t a.held s h.ok.2 k.ok.2);
  failed = tt;
  spared = λ fits.
      let second = k.spared (room_second h.ok.0 b.held a.held s t h.ok.2 fits) in
      (second.0, second.1 ∙ (h.spared (room_first a.held s t fits)).1);
}
gathers_then a b c (Err e) s t h k = record {
  ok = tt;
  failed = writes_as (follows h.ok.0 b.held t a.held s h.ok.2) (writes_then _ _ _ _ _ _ h.ok.1 k.failed);
  spared = λ fits.
      let second = k.spared (room_second h.ok.0 b.held a.held s t h.ok.2 fits) in
      (second.0, second.1 ∙ (h.spared (room_first a.held s t fits)).1);
}

gathers_stop : (a b : Gathered) (r r' : Result Unit PutFault) (s t : List ℕ) → IsErr r' → IsErr r → Gathers a b r s
    → Gathers a b r' (s ++ t)
gathers_stop a b (Ok u) r' s t e' e h = cc
gathers_stop a b (Err x) (Ok u) s t e' e h = cc
gathers_stop a b (Err x) (Err y) s t e' e h = record {
  ok = tt;
  failed = writes_as (append_assoc a.held s t) (writes_stop _ _ _ _ _ t refl refl h.failed);
  spared = λ fits. let is = h.spared (room_first a.held s t fits) in let clash = is.0 in cc;
}

-- the same text, said otherwise
pub as_text : {a b : Gathered} {r : Result Unit PutFault} {s t : List ℕ} → s ≡ t → Gathers a b r s → Gathers a b r t
as_text {a = a} {b = b} {r = r} e h = let P : List ℕ → Type 0 = λ l. Gathers a b r l in subst P e h

pub and_then : {a b c : Gathered} {r : Result Unit PutFault} {s t : List ℕ} → Gathers a b (Ok tt) s → Gathers b c r t
    → Gathers a c r (s ++ t)
and_then h k = gathers_then _ _ _ _ _ _ h k

pub and_stop : {a b : Gathered} {e : PutFault} {r : Result Unit PutFault} {s : List ℕ} (t : List ℕ) → Gathers a b (Err e) s → IsErr r
    → Gathers a b r (s ++ t)
and_stop t h e = gathers_stop _ _ _ _ _ _ e refl h

pub and_end : {a b : Gathered} {r : Result Unit PutFault} {s : List ℕ} → Gathers a b r s → Gathers a b r (s ++ [])
and_end {s = s} h = as_text (sym (append-nil s)) h

-- bytes are gathered
pub gathers_more : (a b : Gathered) (text : List ℕ) → b.sink ≡ a.sink → b.held ≡ a.held ++ text → Gathers a b (Ok tt) text
gathers_more a b text same e = record {
  ok = ([], subst (λ v. Writes a.sink v (Ok tt) []) (sym same) (writes_none a.sink), e);
  failed = tt;
  spared = λ fits. (refl, same);
}

pub gathers_none : (a : Gathered) → Gathers a a (Ok tt) []
gathers_none a = gathers_more a a [] refl (sym (append-nil a.held))

too_long : (h t : List ℕ) → piece_size < length h + length t → length h + length t ≤ piece_size → ⊥
too_long h t l fits = absurd (omega arith)

-- bytes for which there is no room: what is held is written, and they are gathered
pub gathers_after : (a b c : Gathered) (text : List ℕ) → piece_size < length a.held + length text → Writes a.sink b.sink (Ok tt) a.held
    → b.held ≡ [] → c.sink ≡ b.sink → c.held ≡ b.held ++ text → Gathers a c (Ok tt) text
gathers_after a b c text long w none_held same e = record {
  ok = (a.held, subst (λ v. Writes a.sink v (Ok tt) a.held) (sym same) w, ap (λ l. a.held ++ l) (e ∙ ap (λ l. l ++ text) none_held));
  failed = tt;
  spared = λ fits. absurd (too_long a.held text long fits);
}

-- or they are written, too
pub gathers_past : (a b c : Gathered) (r : Result Unit PutFault) (text : List ℕ) → piece_size < length a.held + length text
    → Writes a.sink b.sink (Ok tt) a.held → c.held ≡ [] → Writes b.sink c.sink r text → Gathers a c r text
gathers_past a b c (Ok tt) text long w none_left k = record {
  ok = (a.held ++ text, writes_then _ _ _ _ _ _ w k, ap (λ l. (a.held ++ text) ++ l) none_left ∙ append-nil (a.held ++ text));
  failed = tt;
  spared = λ fits. absurd (too_long a.held text long fits);
}
gathers_past a b c (Err e) text long w none_left k =
    record { ok = tt; failed = writes_then _ _ _ _ _ _ w k; spared = λ fits. absurd (too_long a.held text long fits) }

-- or not all that is held is written
pub gathers_not : (a b : Gathered) (e : PutFault) (r : Result Unit PutFault) (text : List ℕ) → piece_size < length a.held + length text
    → Writes a.sink b.sink (Err e) a.held → IsErr r → Gathers a b r text
gathers_not a b e (Ok u) text long w is = cc
gathers_not a b e (Err f) text long w is =
    record { ok = tt; failed = writes_stop _ _ _ _ _ text refl refl w; spared = λ fits. absurd (too_long a.held text long fits) }

written_held : (w held text before : List ℕ) → before ≡ [] → w ++ held ≡ before ++ text → w ++ held ≡ text
written_held w held text before e k = k ∙ ap (λ l. l ++ text) e

-- a text that was gathered from its start, and of which the rest was written then
pub flushed : {a b : Gathered} {s : SinkView} {r : Result Unit PutFault} {text : List ℕ} → a.held ≡ [] → Gathers a b (Ok tt) text
    → Writes b.sink s r b.held → Writes a.sink s r text
flushed {a = a} {b = b} {text = text} none_held h k =
    writes_as (written_held h.ok.0 b.held text a.held none_held h.ok.2) (writes_then _ _ _ _ _ _ h.ok.1 k)

-- ---- a text of which a part is left

pub sofar_start : (a : Gathered) (all : List ℕ) → SoFar a a all all
sofar_start a all = record { text = []; gathers = gathers_none a; whole = refl }

pub sofar_more : {a b c : Gathered} {s rest left all : List ℕ} → left ≡ s ++ rest → SoFar a b left all → Gathers b c (Ok tt) s
    → SoFar a c rest all
sofar_more {s = s} {rest = rest} e h k =
    record {
      text = h.text ++ s;
      gathers = and_then h.gathers k;
      whole = append_assoc h.text s rest ∙ ap (λ l. h.text ++ l) (sym e)
          ∙ h.whole;
    }

pub sofar_stop : {a b c : Gathered} {e : PutFault} {r : Result Unit PutFault} {s left all : List ℕ} (rest : List ℕ) → left ≡ s ++ rest
    → SoFar a b left all → Gathers b c (Err e) s → IsErr r → Gathers a c r all
sofar_stop {s = s} rest e h k is =
    as_text (ap (λ l. h.text ++ l) (sym e) ∙ h.whole) (gathers_then _ _ _ _ _ _ h.gathers (and_stop rest k is))

pub sofar_end : {a b : Gathered} {rest all : List ℕ} → rest ≡ [] → SoFar a b rest all → Gathers a b (Ok tt) all
sofar_end {rest = rest} {all = all} e h = as_text (sym (append-nil h.text) ∙ ap (λ l. h.text ++ l) (sym e) ∙ h.whole) h.gathers

-- ---- parts one after another

cut_at : {X : Type 0} (f : X → List ℕ) (xs : List X) (i : ℕ) (d : X) → i < length xs
    → flat_map f xs ≡ (flat_map f (take i xs) ++ f (get_or xs i d)) ++ flat_map f (drop (i + 1) xs)
cut_at f xs i d h =
    let whole : flat_map f (take (i + 1) xs ++ drop (i + 1) xs) ≡ flat_map f xs = ap (flat_map f) (take-append-drop (i + 1) xs) in
    let more : flat_map f (take (i + 1) xs) ≡ flat_map f (take i xs) ++ f (get_or xs i d) =
    rw (take_more xs i d h, flat_map-append) (grind (arith, common_steps)) in
    sym whole ∙ flat_map-append f (take (i + 1) xs) (drop (i + 1) xs) ∙ ap (λ l. l ++ flat_map f (drop (i + 1) xs)) more

pub parts_more : {X : Type 0} (f : X → List ℕ) (a b c : Gathered) (xs : List X) (i : ℕ) (d : X) → i < length xs
    → Gathers a b (Ok tt) (flat_map f (take i xs)) → Gathers b c (Ok tt) (f (get_or xs i d))
    → Gathers a c (Ok tt) (flat_map f (take (i + 1) xs))
parts_more f a b c xs i d l h k =
    let more : flat_map f (take i xs) ++ f (get_or xs i d) ≡ flat_map f (take (i + 1) xs) =
    sym (rw (take_more xs i d l, flat_map-append) (grind (arith, common_steps))) in
    as_text more (and_then h k)

pub parts_cut : {X : Type 0} (f : X → List ℕ) (a b c : Gathered) (r r' : Result Unit PutFault) (xs : List X) (i : ℕ) (d : X) → i < length xs
    → Gathers a b (Ok tt) (flat_map f (take i xs)) → Gathers b c r (f (get_or xs i d)) → IsErr r → IsErr r' → Gathers a c r' (flat_map f xs)
parts_cut f a b c r r' xs i d l h k e e' =
    rw (cut_at f xs i d l) (gathers_stop a c r r' _ _ e' e (gathers_then a b c r _ _ h k))
