-- What a thread's turns keep: its pages with their permissions, and that its mask and its handlers are of signals.
use Rattle.std.proofs.Common.{◌≡◌, ℕ, zero, suc, ◌+◌, ◌-◌, ◌*◌, ◌%◌, ◌^◌, ◌<◌, ◌≤◌, ◌==◌, Bool, true, false, List, [], ◌∷◌, Option}
use Rattle.std.proofs.Common.{Some, None, refl, ap, sym, ◌∙◌, subst, arith}
use Rattle.std.specs.Prelude.{◌&&◌, ◌||◌, nat_lt, nat_le, slice_index, length, bit_and, bit_or, if◌then◌else◌, unwrap_or}
use Rattle.std.specs.Int.{w64, bit_not}
use Rattle.std.specs.FinMap.{get, get-empty}
use Rattle.std.specs.Ordering.{nat_cmp}
use Rattle.std.proofs.lemmas.Bool.{cond_both, eqb-true, leb-true, ltb-true}
use Rattle.std.proofs.lemmas.Nat.{and_mod, or_mod, or_lt, and_le_l, and_le_r}
use Rattle.std.proofs.Math.Pow.{pow-lt}
use Rattle.std.proofs.Math.Nat.{pow-succ'}
use Rattle.plain_lemmas.proofs.Tests.{and_second, and_first}
use Rattle.sm_types.specs.SharedOps.{is_same_op}
use Rattle.sm_types.specs.Options.{version_of}
use Rattle.sm_types.specs.declared.config.Config.{Config}
use Rattle.sm_types.specs.declared.shared_op.SharedOp.{SharedOp}
use Rattle.sm_types.specs.declared.shared_op.Event.{Event}
use Rattle.sm_types.specs.declared.stop.Exception.{Exception}
use Rattle.sm_types.specs.declared.version.Version.{Version}
use Rattle.sm_types.specs.declared.version.Version.TheVariants.{One, Two}
use Rattle.sm_types.specs.declared.insn.Insn.{Insn}
use Rattle.sm_types.specs.declared.insn.Insn.TheVariants as insn
use Rattle.sm_types.specs.declared.insn.System.{System}
use Rattle.sm_types.specs.declared.insn.System.TheVariants.{Svc, Brk, Udf, Hint, Dmb, Dsb, Isb}
use Rattle.sm_types.specs.declared.insn.SystemMove.{SystemMove}
use Rattle.sm_types.specs.declared.insn.SystemMoveOp.{SystemMoveOp}
use Rattle.sm_types.specs.declared.insn.SystemMoveOp.TheVariants.{Mrs, Msr}
use Rattle.sm_types.specs.declared.insn.SystemRegister.{SystemRegister}
use Rattle.sm_types.specs.declared.insn.SystemRegister.TheVariants.{Nzcv, TpidrEl0, Tpidr2El0, Svcr}
use Rattle.sm_types.specs.declared.matrix.ArrayAccess.{ArrayAccess}
use Rattle.sm_types.specs.declared.matrix.ArrayAccess.TheVariants as array
use Rattle.sm_types.specs.declared.matrix.ModePart.{ModePart}
use Rattle.sm_types.specs.declared.matrix.ModePart.TheVariants.{Sm, Za, Both}
use Rattle.paged_memory.specs.Image.{Program}
use Rattle.paged_memory.specs.Memory.{AddressSpace, bytes_with, first_without}
use Rattle.mem_access.specs.Transfer.{written, after_data, access_of}
use Rattle.mem_access.specs.DataAccess.{DataAccess}
use Rattle.mem_access.specs.SharedAccess.{touched}
use Rattle.machine_step.specs.ProcessorState.{ProcessorState, vector_bytes}
use Rattle.machine_step.specs.Mode.{with_part}
use Rattle.machine_step.specs.System.{system_move, moved, with_system_register}
use Rattle.machine_step.specs.Effect.{Effect, Raises, Calls, Becomes, effect_of, next_of, system_effect, accesses, accessed, answered}
use Rattle.machine_step.specs.Effect.{array_accessed, perform, unless_fault, fault_of, insn_at}
use Rattle.machine_step.specs.Effect as instruction
use Rattle.signal_frames.specs.Frame.{frame_fault, entered, with_frame}
use Rattle.signal_frames.specs.Return.{return_fault, fault_at, stop_of, expected_of, read_at, returned as returned_from, restored, unmasked}
use Rattle.signal_frames.specs.Saved.{saved_masking, number_at, is_head, is_frame, is_nested, is_zero_past, saved_length, body_of}
use Rattle.signal_frames.specs.Saved.{has_modes, has_sizes, saved_signal}
use Rattle.signal_frames.specs.Layout.{frame_tag}
use Rattle.signal_frames.specs.declared.head.Expected.{Expected}
use Rattle.kernel_contexts.specs.Kernel.{masked_inside}
use Rattle.kernel_contexts.specs.State.{State, with_masking, start_state}
use Rattle.kernel_contexts.specs.Handlers.{is_signal, with_handler}
use Rattle.kernel_contexts.specs.KernelCall.{call_numbered}
use Rattle.kernel_contexts.specs.declared.kernel_call.KernelCall.{KernelCall}
use Rattle.kernel_contexts.specs.declared.kernel_call.KernelCall.TheVariants as call
use Rattle.kernel_contexts.specs.Watch.{AreOfSignals}
use Rattle.kernel_contexts.specs.Call.{TurnEnd, Goes, Yields, Asks, Ends, counted, written as wrote, called, call_of, write_of, exit_of}
use Rattle.kernel_contexts.specs.Call.{set_handler_of}
use Rattle.kernel_contexts.specs.Call.{output_limit, journal_limit, asking, post_of, post_op, set_mask_of, masked, signals_in}
use Rattle.kernel_contexts.specs.Call.{return_of, return_unless, returned}
use Rattle.kernel_contexts.specs.Turn.{turn_of, after_effect, outside_streaming, is_poll_due, poll_op, polled_with}
use Rattle.kernel_contexts.specs.Turn.{is_delivery_due, delivered_to, handled, released, lowest_signal}
use Rattle.kernel_contexts.specs.Run.{Reached, At, Ended, Strays, turned, after_turn, reach_from, reach}
use Rattle.kernel_contexts.proofs.Signals.{kept_of_signals, of_signal}

-- ---- masks

-- it has no bit but those of the signals 1 to 62
pub record IsMask (mask : ℕ) : Type 0 where
  pub even : mask % 2 ≡ 0
  pub low : mask < 2 ^ 63

either_mask : (a b : ℕ) → IsMask a → IsMask b → IsMask (bit_or a b)
either_mask a b h k = record {
  even = or_mod a b 1 ∙ ap (λ n. bit_or n (b % 2)) h.even ∙ ap (bit_or 0) k.even;
  low = or_lt 63 a b h.low k.low;
}

both_mask : (a b : ℕ) → IsMask a → IsMask (bit_and a b)
both_mask a b h = record {
  even =
      let part : bit_and 0 (b % 2) ≤ 0 = and_le_l 0 (b % 2) in
      let same : bit_and a b % 2 ≡ bit_and 0 (b % 2) = and_mod a b 1 ∙ ap (λ n. bit_and n (b % 2)) h.even in
      omega (arith, part, same);
  low = let part = and_le_l a b in omega (arith, part, h.low);
}

signals_mask : (n : ℕ) → IsMask (signals_in n)
signals_mask n = record {
  even =
      let part : bit_and (n % 2) 0 ≤ 0 = and_le_r (n % 2) 0 in
      let same : bit_and n (2 ^ 63 - 2) % 2 ≡ bit_and (n % 2) 0 = and_mod n (2 ^ 63 - 2) 1 in
      omega (arith, part, same);
  low = let part : bit_and n (2 ^ 63 - 2) ≤ 2 ^ 63 - 2 = and_le_r n (2 ^ 63 - 2) in omega (arith, part);
}

masked_mask : (how mask n : ℕ) → IsMask mask → IsMask (masked how mask (signals_in n))
masked_mask how mask n h =
    cond_both (how == 0) _ _ IsMask (λ _. either_mask mask (signals_in n) h (signals_mask n))
    (λ _. cond_both (how == 1) _ _ IsMask (λ _. both_mask mask (bit_not w64 (signals_in n)) h) (λ _. signals_mask n))

power_mask : (signal : ℕ) → is_signal signal ≡ true → IsMask (2 ^ signal)
power_mask zero e = cc
power_mask (suc n) e =
    let high : suc n ≤ 62 = leb-true (suc n) 62 (and_second (nat_le 1 (suc n)) (nat_le (suc n) 62) e) in
    record {
      even = let twice : 2 ^ suc n ≡ 2 * 2 ^ n = pow-succ' 2 n ∙ omega arith in omega (arith, twice);
      low = pow-lt {i = suc n} {j = 63} (omega (arith, high));
    }

inside_mask : (version : Version) (signal mask : ℕ) → is_signal signal ≡ true → IsMask mask → IsMask (masked_inside version signal mask)
inside_mask One signal mask e h = h
inside_mask Two signal mask e h = either_mask mask (2 ^ signal) h (power_mask signal e)

-- ---- states

-- the mask and the handlers of a state are of signals
pub record IsOfSignals (s : State) : Type 0 where
  pub mask : IsMask s.mask
  pub handlers : AreOfSignals s.handlers

-- a state has the pages of another, and is of signals where that one is
pub record IsKept (s t : State) : Type 0 where
  pub pages : t.core.memory.perm ≡ s.core.memory.perm
  pub signals : IsOfSignals s → IsOfSignals t

kept_by : (s t : State) → t.core.memory.perm ≡ s.core.memory.perm → t.mask ≡ s.mask
    → (AreOfSignals s.handlers → AreOfSignals t.handlers) → IsKept s t
kept_by s t pages mask handlers = record {
  pages = pages;
  signals = λ h. record { mask = subst IsMask (sym mask) h.mask; handlers = handlers h.handlers };
}

kept_then : (s t u : State) → IsKept s t → IsKept t u → IsKept s u
kept_then s t u h k = record { pages = k.pages ∙ h.pages; signals = λ g. k.signals (h.signals g) }

-- where a turn goes on it is kept so
abbrev Keeps : State → TurnEnd → Type 0
Keeps s (Goes t) = IsKept s t
Keeps s (Yields t) = IsKept s t
Keeps s (Asks op next) = (answer : ℕ) → IsKept s (next answer)
Keeps s (Ends t stop) = Unit {0}

asking_keeps : (s : State) (events : ℕ) (before : State) (op : SharedOp) (next : ℕ → State)
    → ((answer : ℕ) → IsKept s (next answer)) → Keeps s (asking events before op next)
asking_keeps s events before op next more = cond_both (nat_le journal_limit events) _ _ (Keeps s) (λ _. tt) (λ _. more)

-- ---- what a return brings back

-- the mask of bytes that are read
saved_mask : (version : Version) (depth vl svl sp : ℕ) (first : Option ℕ) (read : Option (List ℕ))
    → stop_of (record { version = version; depth = depth; vl = vl; svl = svl }) sp first read ≡ None
    → IsMask (saved_masking version (unwrap_or read [])).mask
unfolding number_at is_head is_nested
saved_mask One depth vl svl sp first read e = record { even = refl; low = omega arith }
saved_mask Two depth vl svl sp first None e = record { even = refl; low = omega arith }
saved_mask Two depth vl svl sp first (Some frame) e =
    let expected : Expected = record { version = Two; depth = depth; vl = vl; svl = svl } in
    let well : (nat_lt 0 depth && is_frame expected frame) ≡ true = no_stop (nat_lt 0 depth && is_frame expected frame) sp e in
    let head : is_head expected frame ≡ true =
    and_first (is_head expected frame) (is_zero_past (saved_length frame) (body_of Two frame))
    (and_second (nat_lt 0 depth) (is_frame expected frame) well) in
    let nested : is_nested depth frame ≡ true =
    and_second ((number_at frame 0 8 == frame_tag Two) && has_modes frame && has_sizes expected frame && nat_le 1 (saved_signal frame)
    && nat_le (saved_signal frame) 62) (is_nested depth frame) head in
    let both : ((number_at frame 320 8 % 2 == 0) && nat_lt (number_at frame 320 8) (2 ^ 63)) ≡ true =
    and_first ((number_at frame 320 8 % 2 == 0) && nat_lt (number_at frame 320 8) (2 ^ 63)) (nat_lt (number_at frame 328 4) depth)
    (and_first ((number_at frame 320 8 % 2 == 0) && nat_lt (number_at frame 320 8) (2 ^ 63) && nat_lt (number_at frame 328 4) depth)
    (number_at frame 332 4 == 0) nested) in
    record {
      even = eqb-true (number_at frame 320 8 % 2) 0
          (and_first (number_at frame 320 8 % 2 == 0) (nat_lt (number_at frame 320 8) (2 ^ 63)) both);
      low = ltb-true (number_at frame 320 8) (2 ^ 63)
          (and_second (number_at frame 320 8 % 2 == 0) (nat_lt (number_at frame 320 8) (2 ^ 63)) both);
    }
  where
    no_stop : (b : Bool) (a : ℕ) → (if b then None else Some a) ≡ None → b ≡ true
    no_stop true a h = refl
    no_stop false a h = cc

unmasked_mask : (version : Version) (depth vl : ℕ) (core : ProcessorState) → return_fault version depth vl core ≡ None
    → IsMask (unmasked version depth vl core).mask
unfolding fault_at unmasked
unmasked_mask version depth vl core e =
    saved_mask version depth vl (length core.bank.za) core.scalars.sp
    (first_without 4 core.memory core.scalars.sp (read_at (expected_of version depth vl core) core.memory core.scalars.sp))
    (bytes_with 4 core.memory core.scalars.sp (read_at (expected_of version depth vl core) core.memory core.scalars.sp)) e

-- ---- calls, from a state that differs from that before it in the core alone

module _ (s : State) (core : ProcessorState) (same : core.memory.perm ≡ s.core.memory.perm) where
  abbrev from : State
  from = record s { core = core }

  back : (answer : ℕ) → IsKept s (returned from answer)
  back answer = kept_by s (returned from answer) same refl (λ h. h)

  wrote_keeps : (read : Option (List ℕ)) (size : ℕ) → IsKept s (wrote from read size)
  wrote_keeps None size = kept_by s (wrote from None size) same refl (λ h. h)
  wrote_keeps (Some bytes) size = kept_by s (wrote from (Some bytes) size) same refl (λ h. h)

  write_keeps : Keeps s (write_of s from)
  unfolding write_of
  write_keeps = cond_both ((slice_index core.scalars.x 0 == 1) || (slice_index core.scalars.x 0 == 2)) _ _ (Keeps s)
      (λ _. cond_both (nat_lt output_limit (length s.output + slice_index core.scalars.x 2)) _ _ (Keeps s) (λ _. tt) (λ _. wrote_keeps _ _))
      (λ _. back _)

  set_handler_keeps : Keeps s (set_handler_of from)
  unfolding set_handler_of
  set_handler_keeps =
      cond_both (is_signal (slice_index core.scalars.x 0)) _ _ (Keeps s)
      (λ signal. kept_by s (record (returned from 0) {
        handlers = with_handler s.handlers (slice_index core.scalars.x 0) (slice_index core.scalars.x 1);
      }) same refl (kept_of_signals s.handlers (slice_index core.scalars.x 0) (slice_index core.scalars.x 1) signal))
      (λ _. back _)

  post_keeps : (config : Config) (events : ℕ) → Keeps s (post_of config events s from)
  unfolding post_of
  post_keeps config events =
      cond_both (nat_lt (slice_index core.scalars.x 0) config.threads && is_signal (slice_index core.scalars.x 1)) _ _ (Keeps s)
      (λ _. asking_keeps s events s (post_op (slice_index core.scalars.x 0) (slice_index core.scalars.x 1))
      (λ answer. returned from 0) (λ answer. back 0))
      (λ _. back _)

  unless_keeps : (fault : Option ℕ) (after : State) → (fault ≡ None → IsKept s after) → Keeps s (return_unless fault s after)
  unless_keeps (Some address) after more = tt
  unless_keeps None after more = more refl

  set_mask_keeps : Keeps s (set_mask_of from)
  unfolding set_mask_of
  set_mask_keeps =
      cond_both (nat_le (slice_index core.scalars.x 0) 2) _ _ (Keeps s)
      (λ _. record {
        pages = same;
        signals = λ h. record {
          mask = masked_mask (slice_index core.scalars.x 0) s.mask (slice_index core.scalars.x 1) h.mask;
          handlers = h.handlers;
        };
      })
      (λ _. back _)

  return_keeps : (config : Config) → Keeps s (return_of config s from)
  unfolding return_of returned_from restored
  return_keeps config =
      unless_keeps (return_fault (version_of config) s.depth (vector_bytes config.vl) core)
      (counted (with_masking from (unmasked (version_of config) s.depth (vector_bytes config.vl) core))
      (returned_from (version_of config) s.depth (vector_bytes config.vl) core))
      (λ none. record {
        pages = same;
        signals = λ h. record {
          mask = unmasked_mask (version_of config) s.depth (vector_bytes config.vl) core none;
          handlers = h.handlers;
        };
      })

  called_keeps : (config : Config) (thread events : ℕ) (kind : KernelCall) → Keeps s (called config thread events s from kind)
  unfolding exit_of
  called_keeps config thread events call.Write = write_keeps
  called_keeps config thread events call.Exit = tt
  called_keeps config thread events call.Yield = back 0
  called_keeps config thread events call.Post = post_keeps config events
  called_keeps config thread events call.SetHandler = set_handler_keeps
  called_keeps config thread events call.SetMask = set_mask_keeps
  called_keeps config thread events call.Return = return_keeps config
  called_keeps config thread events call.Number = back thread
  called_keeps config thread events call.Other = back _

  call_keeps : (config : Config) (thread events : ℕ) → Keeps s (call_of config thread events s from)
  unfolding call_of
  call_keeps config thread events =
      called_keeps config thread events (call_numbered (version_of config) (slice_index core.scalars.x 8))

-- ---- instructions

-- the pages stay
abbrev KeepsPages : ProcessorState → Effect → Type 0
KeepsPages s (Raises exception) = Unit {0}
KeepsPages s (Calls number) = Unit {0}
KeepsPages s (Becomes t) = t.memory.perm ≡ s.memory.perm
KeepsPages s (instruction.Asks op next) = (answer : ℕ) → (next answer).memory.perm ≡ s.memory.perm

written_pages : (m : AddressSpace) (addresses : List ℕ) (stored : Option (List ℕ)) → (written m addresses stored).perm ≡ m.perm
written_pages m addresses None = refl
written_pages m addresses (Some bytes) = refl

data_pages : (it : Insn) (access : Option DataAccess) (s : ProcessorState)
    → (after_data it access s.scalars s.memory).memory.perm ≡ s.memory.perm
data_pages it None s = refl
data_pages it (Some access) s = written_pages s.memory access.bytes _

access_pages : (op : Option SharedOp) (it : Insn) (s : ProcessorState) → KeepsPages s (accesses op it s)
access_pages None it s = data_pages it (access_of it s.scalars) s
access_pages (Some op) it s = λ answer. refl

system_pages : (x : System) (s : ProcessorState) → KeepsPages s (system_effect x s)
system_pages (Svc imm) s = tt
system_pages (Brk imm) s = tt
system_pages (Udf imm) s = tt
system_pages (Hint imm) s = refl
system_pages (Dmb imm) s = refl
system_pages (Dsb imm) s = refl
system_pages (Isb imm) s = refl

register_pages : (vl : ℕ) (register : SystemRegister) (s : ProcessorState) (value : ℕ)
    → (with_system_register vl register s value).memory.perm ≡ s.memory.perm
unfolding with_system_register
register_pages vl Nzcv s value = refl
register_pages vl TpidrEl0 s value = refl
register_pages vl Tpidr2El0 s value = refl
register_pages vl Svcr s value = refl

moved_pages : (vl : ℕ) (op : SystemMoveOp) (x : SystemMove) (s : ProcessorState) → (moved vl op x s).memory.perm ≡ s.memory.perm
moved_pages vl Mrs x s = refl
moved_pages vl Msr x s = register_pages vl x.register s _

part_pages : (vl : ℕ) (part : ModePart) (on : Bool) (s : ProcessorState) → (with_part vl part on s).memory.perm ≡ s.memory.perm
part_pages vl Sm on s = refl
part_pages vl Za on s = refl
part_pages vl Both on s = refl

array_pages : (x : ArrayAccess) (s : ProcessorState) → (array_accessed x s).memory.perm ≡ s.memory.perm
array_pages (array.Zero mask) s = refl
array_pages (array.Transfer store rv offset rn) s = written_pages s.memory _ _

next_pages : (vl : ℕ) (it : Insn) (s : ProcessorState) → KeepsPages s (next_of vl it s)
unfolding system_move
next_pages vl (insn.System x) s = system_pages x s
next_pages vl (insn.SystemMove x) s = moved_pages vl x.op x s
next_pages vl (insn.LoadStore x) s = access_pages (touched (insn.LoadStore x) s.scalars) (insn.LoadStore x) s
next_pages vl (insn.LoadLiteral x) s = access_pages (touched (insn.LoadLiteral x) s.scalars) (insn.LoadLiteral x) s
next_pages vl (insn.LoadStorePair x) s = access_pages (touched (insn.LoadStorePair x) s.scalars) (insn.LoadStorePair x) s
next_pages vl (insn.Atomic x) s = access_pages (touched (insn.Atomic x) s.scalars) (insn.Atomic x) s
next_pages vl (insn.VectorAccess x) s = written_pages s.memory _ _
next_pages vl (insn.Mode x) s = part_pages vl x.part x.start s
next_pages vl (insn.ArrayAccess x) s = array_pages x s
next_pages vl (insn.TileAccess x) s = written_pages s.memory _ _
next_pages vl _ s = refl

performed_pages : (vl : ℕ) (it : Option Insn) (s : ProcessorState) → KeepsPages s (perform vl it s)
performed_pages vl None s = tt
performed_pages vl (Some it) s = next_pages vl it s

unless_pages : (vl : ℕ) (fault : Option Exception) (s : ProcessorState) → KeepsPages s (unless_fault vl fault s)
unless_pages vl None s = performed_pages vl (insn_at s) s
unless_pages vl (Some exception) s = tt

effect_pages : (vl : ℕ) (s : ProcessorState) → KeepsPages s (effect_of vl s)
unfolding effect_of
effect_pages vl s = unless_pages vl (fault_of vl s) s

effect_keeps : (config : Config) (thread events : ℕ) (s : State) (effect : Effect) → KeepsPages s.core effect
    → Keeps s (after_effect config thread events s effect)
effect_keeps config thread events s (Raises exception) h = tt
effect_keeps config thread events s (Calls number) h = call_keeps s (outside_streaming config s).core refl config thread events
effect_keeps config thread events s (Becomes core) h = kept_by s (counted s core) h refl (λ k. k)
effect_keeps config thread events s (instruction.Asks op next) h =
    asking_keeps s events s op (λ answer. counted s (next answer)) (λ answer. kept_by s (counted s (next answer)) (h answer) refl (λ k. k))

-- ---- polls and deliveries

handled_keeps : (config : Config) (signal handler : ℕ) (s : State) (fault : Option ℕ) → (AreOfSignals s.handlers → is_signal signal ≡ true)
    → Keeps s (handled config signal handler (released s) fault)
unfolding entered with_frame
handled_keeps config signal handler s (Some address) known = tt
handled_keeps config signal handler s None known = record {
  pages = refl;
  signals = λ h. record {
    mask = inside_mask (version_of config) signal s.mask (known h.handlers) h.mask;
    handlers = h.handlers;
  };
}

delivery_keeps : (config : Config) (s : State) (handler : Option ℕ) → get s.handlers (lowest_signal s) ≡ handler
    → Keeps s (delivered_to config (lowest_signal s) s handler)
delivery_keeps config s None is = tt
delivery_keeps config s (Some handler) is =
    handled_keeps config (lowest_signal s) handler s (frame_fault (version_of config) (vector_bytes config.vl) s.core)
    (λ handlers. of_signal s.handlers (lowest_signal s) handler handlers is)

turn_keeps : (config : Config) (thread events : ℕ) (s : State) → Keeps s (turn_of config thread events s)
unfolding turn_of
turn_keeps config thread events s =
    cond_both (s.count == config.budget) _ _ (Keeps s) (λ _. tt)
    (λ _. cond_both (is_poll_due config s) _ _ (Keeps s)
    (λ _. asking_keeps s events s (poll_op thread) (polled_with s) (λ answer. kept_by s (polled_with s answer) refl refl (λ k. k)))
    (λ _. cond_both (is_delivery_due config s) _ _ (Keeps s)
    (λ _. delivery_keeps config s (get s.handlers (lowest_signal s)) refl)
    (λ _. effect_keeps config thread events s (effect_of (vector_bytes config.vl) s.core) (effect_pages (vector_bytes config.vl) s.core))))

-- ---- runs

-- where a thread goes on, its state is kept so
abbrev ReachKeeps : State → Reached → Type 0
ReachKeeps begun (At s done events) = IsKept begun s
ReachKeeps begun (Ended s stop done events) = Unit {0}
ReachKeeps begun (Strays s done events) = Unit {0}

after_keeps : (begun s : State) (done : ℕ) (events : List Event) (end : TurnEnd) → IsKept begun s → Keeps s end
    → ReachKeeps begun (after_turn s done events end)
after_keeps begun s done events (Goes t) h k = kept_then begun s t h k
after_keeps begun s done events (Yields t) h k = kept_then begun s t h k
after_keeps begun s done [] (Asks op next) h k = tt
after_keeps begun s done (event ∷ events) (Asks op next) h k =
    cond_both (is_same_op op event.op) _ _ (ReachKeeps begun) (λ _. kept_then begun s (next event.answer) h (k event.answer)) (λ _. tt)
after_keeps begun s done events (Ends t stop) h k = tt

turned_keeps : (config : Config) (thread : ℕ) (begun : State) (reached : Reached) → ReachKeeps begun reached
    → ReachKeeps begun (turned config thread reached)
turned_keeps config thread begun (At s done events) h =
    after_keeps begun s done events (turn_of config thread done s) h (turn_keeps config thread done s)
turned_keeps config thread begun (Ended s stop done events) h = tt
turned_keeps config thread begun (Strays s done events) h = tt

reach_keeps : (config : Config) (thread : ℕ) (begun : State) (done : ℕ) (journal : List Event) (turns : ℕ)
    → ReachKeeps begun (reach_from config thread begun done journal turns)
unfolding reach_from
reach_keeps config thread begun done journal zero = kept_by begun begun refl refl (λ h. h)
reach_keeps config thread begun done journal (suc turns) =
    turned_keeps config thread begun (reach_from config thread begun done journal turns)
    (reach_keeps config thread begun done journal turns)

start_of_signals : (program : Program) (config : Config) (thread : ℕ) → IsOfSignals (start_state program config thread)
unfolding start_state
start_of_signals program config thread = record {
  mask = record { even = refl; low = omega arith };
  handlers = λ k other. get-empty nat_cmp k;
}

-- where a thread is after some turns from its start, it has the pages of its start, and its mask and handlers are
-- of signals
pub run_pages : (program : Program) (config : Config) (thread : ℕ) (journal : List Event) (turns : ℕ) (s : State) (done : ℕ)
    (left : List Event)
    → reach program config thread journal turns ≡ At s done left → s.core.memory.perm ≡ (start_state program config thread).core.memory.perm
unfolding reach
run_pages program config thread journal turns s done left e =
    let kept : IsKept (start_state program config thread) s =
    subst (ReachKeeps (start_state program config thread)) e
    (reach_keeps config thread (start_state program config thread) 0 journal turns) in
    kept.pages

pub run_signals : (program : Program) (config : Config) (thread : ℕ) (journal : List Event) (turns : ℕ) (s : State) (done : ℕ)
    (left : List Event)
    → reach program config thread journal turns ≡ At s done left → IsOfSignals s
unfolding reach
run_signals program config thread journal turns s done left e =
    let kept : IsKept (start_state program config thread) s =
    subst (ReachKeeps (start_state program config thread)) e
    (reach_keeps config thread (start_state program config thread) 0 journal turns) in
    kept.signals (start_of_signals program config thread)
