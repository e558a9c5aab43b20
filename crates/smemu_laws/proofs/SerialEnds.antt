-- The serial events of a world lead to one end, and the threads of a world stand in one way.
use Rattle.std.proofs.Common.{◌≡◌, ℕ, zero, suc, ◌≤◌, ◌==◌, if◌then◌else◌, List, [], ◌∷◌, length, refl, sym, ◌∙◌, ap, subst, arith}
use Rattle.std.proofs.Common.{Some, None}
use Rattle.std.specs.Prelude.{slice_get, Contains}
use Rattle.std.proofs.lemmas.Option.{same_Some, none-some}
use Rattle.plain_lemmas.proofs.Lists.{slice_get-found}
use Rattle.sm_types.specs.declared.config.Config.{Config}
use Rattle.sm_types.specs.declared.shared_words.Words.{Words}
use Rattle.paged_memory.specs.Image.{Program}
use Rattle.kernel_contexts.specs.Guest.{Guest}
use Rattle.sm_types.specs.declared.world_event.WorldEvent.{WorldEvent}
use Rattle.report_text.specs.Report.{ThreadEnd}
use Rattle.world_core.specs.Happens.{happens}
use Rattle.world_core.specs.Serial.{LeadSerially, phase_after, serial_event}
use Rattle.world_core.specs.World.{World, IsOwned, start_world, threads_of, times}
use Rattle.world_core.specs.declared.serial.Phase.{Phase}
use Rattle.world_core.specs.declared.serial.Phase.TheVariants.{Fills}
use Rattle.world_core.proofs.Bags.{once_at_most, one_of_itself, total_has}
use Rattle.world_core.proofs.Serials.{lead_world}
use Rattle.smemu.specs.Worlds.{AreEndsIn, AreSerialEnds, end_in}
use Rattle.smemu.proofs.Worlds.{plan_kept}

-- ---- one end

ended_not : (w last : World) (phase at : Phase) (e : WorldEvent) → last ≡ w → at ≡ phase → serial_event last at ≡ None
    → serial_event w phase ≡ Some e → ⊥
ended_not w last phase at e same is none some =
    none-some e (sym none ∙ (λ i. serial_event (same i) (is i)) ∙ some)

one_last : (w : World) (phase : Phase) (es fs : List WorldEvent) (last other : World) (at on : Phase)
    → LeadSerially w phase es last at → LeadSerially w phase fs other on → serial_event last at ≡ None → serial_event other on ≡ None
    → last ≡ other
one_last w phase [] [] last other at on h g none end = h.0 ∙ sym g.0
one_last w phase [] (f ∷ fs) last other at on h g none end = absurd (ended_not w last phase at f h.0 h.1 none g.0)
one_last w phase (e ∷ es) [] last other at on h g none end = absurd (ended_not w other phase on e g.0 g.1 end h.0)
one_last w phase (e ∷ es) (f ∷ fs) last other at on h g none end =
    let same : f ≡ e = same_Some f e (sym g.0 ∙ h.0) in
    let there = subst (λ (x : WorldEvent). LeadSerially (happens w x).world (phase_after (happens w x).answer) fs other on) same g.1 in
    one_last (happens w e).world (phase_after (happens w e).answer) es fs last other at on h.1 there none end

-- ---- one thread of a number

counts_one : (t : ℕ) (g : Guest) → g.number ≡ t → ◌≡◌ {A = ℕ} (if g.number == t then 1 else 0) 1
counts_one t g is = ap (λ (n : ℕ). if n == t then 1 else 0) is ∙ one_of_itself t

one_thread_at : (t : ℕ) (gs : List Guest) (i j : ℕ) (a b : Guest) → slice_get gs i ≡ Some a → slice_get gs j ≡ Some b → a.number ≡ t
    → b.number ≡ t → times t gs ≤ 1 → a ≡ b
one_thread_at t [] i j a b x y n m l = absurd (none-some a x)
one_thread_at t (g ∷ gs) zero zero a b x y n m l = sym (same_Some g a x) ∙ same_Some g b y
one_thread_at t (g ∷ gs) zero (suc j) a b x y n m l =
    let first = counts_one t g (ap (λ (z : Guest). z.number) (same_Some g a x) ∙ n) in
    let more = total_has (λ (z : Guest). if z.number == t then 1 else 0) gs j b y in
    let one = counts_one t b m in absurd (omega (arith, first, more, one, l))
one_thread_at t (g ∷ gs) (suc i) zero a b x y n m l =
    let first = counts_one t g (ap (λ (z : Guest). z.number) (same_Some g b y) ∙ m) in
    let more = total_has (λ (z : Guest). if z.number == t then 1 else 0) gs i a x in
    let one = counts_one t a n in absurd (omega (arith, first, more, one, l))
one_thread_at t (g ∷ gs) (suc i) (suc j) a b x y n m l = one_thread_at t gs i j a b x y n m (omega (arith, l))

one_thread : (t : ℕ) (gs : List Guest) (a b : Guest) → Contains gs a → Contains gs b → a.number ≡ t → b.number ≡ t → times t gs ≤ 1
    → a ≡ b
one_thread t gs a b x y n m l =
    one_thread_at t gs x.0 y.0 a b (slice_get-found gs x.0 a x.1 (sym x.2)) (slice_get-found gs y.0 b y.1 (sym y.2)) n m l

same_list : (xs ys : List ThreadEnd) → length xs ≡ length ys
    → ((k : ℕ) (a b : ThreadEnd) → slice_get xs k ≡ Some a → slice_get ys k ≡ Some b → a ≡ b) → xs ≡ ys
same_list [] [] l each = refl
same_list [] (y ∷ ys) l each = absurd (omega (arith, l))
same_list (x ∷ xs) [] l each = absurd (omega (arith, l))
same_list (x ∷ xs) (y ∷ ys) l each =
    let first = each 0 x y refl refl in
    let rest = same_list xs ys (omega (arith, l)) (λ k a b at on. each (suc k) a b at on) in λ i. first i ∷ rest i

pub record AreSameEnds (ends others : List ThreadEnd) (words more : Words) : Type 0 where
  pub same_ends : ends ≡ others
  pub same_words : words ≡ more

-- the threads of an owned world stand in one way
pub one_end_list : (w : World) → IsOwned w → (ends others : List ThreadEnd) (words more : Words) → AreEndsIn w ends words
    → AreEndsIn w others more → AreSameEnds ends others words more
one_end_list w owned ends others words more h g = record {
  same_ends = same_list ends others (h.count ∙ sym g.count) (λ k a b at on.
      let x = h.each k a at in
      let y = g.each k b on in
      let most = once_at_most k w.config.threads in
      let once = owned k in
      let same = one_thread k (threads_of w) x.guest y.guest x.among y.among x.number y.number (omega (arith, most, once)) in
      x.stands ∙ ap end_in same ∙ sym y.stands);
  same_words = h.ends_so ∙ sym g.ends_so;
}

-- so do those to which the serial events lead
pub one_serial_run : (program : Program) (config : Config) (ends others : List ThreadEnd) (words more : Words)
    → AreSerialEnds program config ends words → AreSerialEnds program config others more → AreSameEnds ends others words more
one_serial_run program config ends others words more h g =
    let start = start_world program config in
    let last = one_last start Fills h.events g.events h.last g.last h.serial.phase g.serial.phase h.serial.lead g.serial.lead
    h.serial.none g.serial.none in
    let there = lead_world start Fills g.events g.last g.serial.phase g.serial.lead in
    let owned = subst IsOwned (sym there) (plan_kept program config g.events).owned in
    one_end_list g.last owned ends others words more (subst (λ (w : World). AreEndsIn w ends words) last h.are) g.are
