-- The calls of the kernel and the turns of a thread keep the ranges of its state.
use Rattle.std.proofs.Common.{◌≡◌, ◌≢◌, ℕ, ◌+◌, ◌-◌, ◌^◌, ◌<◌, ◌==◌, ◌&&◌, ◌||◌, not, nat_lt, nat_le, Bool, true, false, cond, List}
use Rattle.std.proofs.Common.{length, refl, sym, ◌∙◌, arith, subst, Option, Some, None, slice_index, length-set}
use Rattle.std.specs.Prelude.{bit_and, bit_or}
use Rattle.std.specs.Int.{w64, bit_not}
use Rattle.std.specs.FinMap.{FinMap, get}
use Rattle.std.specs.Ordering.{nat_cmp}
use Rattle.std.proofs.lemmas.Nat.{or_lt, and_le_l, pow_below}
use Rattle.std.proofs.lemmas.List.Elements.{All-set}
use Rattle.sm_types.specs.declared.config.Config.{Config}
use Rattle.sm_types.specs.declared.scalars.Scalars.{Scalars}
use Rattle.sm_types.specs.declared.shared_op.SharedOp.{SharedOp}
use Rattle.sm_types.specs.declared.stop.Stop.TheVariants.{TraceFull, OutputFull, Budget}
use Rattle.sm_types.specs.declared.version.Version.{Version}
use Rattle.sm_types.specs.declared.version.Version.TheVariants.{One, Two}
use Rattle.sm_types.specs.Options.{version_of}
use Rattle.paged_memory.specs.Memory.{bytes_with}
use Rattle.machine_step.specs.ProcessorState.{ProcessorState, vector_bytes}
use Rattle.machine_step.specs.Effect.{Effect, Raises, Calls, Becomes, effect_of}
use Rattle.machine_step.specs.Effect as effect
use Rattle.signal_frames.specs.Frame.{frame_fault}
use Rattle.signal_frames.specs.Return.{return_fault, unmasked}
use Rattle.signal_frames.specs.Return.{returned as returned_from}
use Rattle.kernel_contexts.specs.Kernel.{depth_limit, masked_inside}
use Rattle.kernel_contexts.specs.KernelCall.{call_numbered, mask_call}
use Rattle.kernel_contexts.specs.Handlers.{is_signal, with_handler}
use Rattle.kernel_contexts.specs.State.{State, masking_of, with_masking}
use Rattle.kernel_contexts.specs.Call.{TurnEnd, Goes, Asks, Ends, counted, journal_limit, asking, past_with_answer, returned, failure}
use Rattle.kernel_contexts.specs.Call.{output_limit}
use Rattle.kernel_contexts.specs.Call.{written, write_of, exit_of, set_handler_of, signals_in, masked, set_mask_of, post_op, may_post}
use Rattle.kernel_contexts.specs.Call.{post_of, return_unless, return_of, called, call_of}
use Rattle.kernel_contexts.specs.Turn.{outside_streaming, after_effect, instruction_of, is_poll_due, poll_op, polled_with, poll_of}
use Rattle.kernel_contexts.specs.Turn.{open_signals, is_delivery_due}
use Rattle.kernel_contexts.specs.Turn.{lowest_signal, released, handled, delivered_to, delivery_of, turn_of}
use Rattle.kernel_contexts.specs.declared.kernel_call.KernelCall.{KernelCall}
use Rattle.kernel_contexts.specs.declared.kernel_call.KernelCall.TheVariants.{Write, Exit, Yield, Post, SetHandler, SetMask, Return}
use Rattle.kernel_contexts.specs.declared.kernel_call.KernelCall.TheVariants.{Number, Other}
use Rattle.kernel_contexts.proofs.HandlerTable.{address_or_none, get-with_handler}
use Rattle.kernel_contexts.proofs.Signals.{lowest_open}
use Rattle.reach_laws.proofs.Fits.{Fits, IsLength}
use Rattle.reach_laws.proofs.Typed.{IsTyped, LeadsToTyped}
use Rattle.reach_laws.proofs.Typed.{IsTypedState, TurnsToTyped}
use Rattle.reach_laws.proofs.Scalars.{index_fits}
use Rattle.reach_laws.proofs.Modes.{typed_scalars, typed_sm}
use Rattle.reach_laws.proofs.Machine.{HaveRows, effect_typed}
use Rattle.reach_laws.proofs.Frames.{delivered_typed, returned_typed, unmasked_small, unmasked_none}

-- version 1 has no call that sets the mask
no_mask_call : (a b c d e f g h : Bool) → cond a Write (cond b Exit (cond c Yield (cond d Post (cond e SetHandler (cond f (mask_call One)
    (cond g Return (cond h Number Other))))))) ≢ SetMask
no_mask_call true b c d e f g h = λ is. cc
no_mask_call false true c d e f g h = λ is. cc
no_mask_call false false true d e f g h = λ is. cc
no_mask_call false false false true e f g h = λ is. cc
no_mask_call false false false false true f g h = λ is. cc
no_mask_call false false false false false true g h = λ is. cc
no_mask_call false false false false false false true h = λ is. cc
no_mask_call false false false false false false false true = λ is. cc
no_mask_call false false false false false false false false = λ is. cc

masks_none : (version : Version) (number : ℕ) → version ≡ One → call_numbered version number ≢ SetMask
unfolding call_numbered
masks_none One number is = no_mask_call _ _ _ _ _ _ _ _
masks_none Two number is = (let no : ⊥ = cc in absurd no)

masked_small : (how mask signals : ℕ) → mask < 2 ^ 64 → signals < 2 ^ 64 → masked how mask signals < 2 ^ 64
masked_small how mask signals m lt =
    elim (how == 0) as (λ t. cond t (bit_or mask signals) (cond (how == 1) (bit_and mask (bit_not w64 signals)) signals) < 2 ^ 64) [
      | true ↦ or_lt 64 mask signals m lt
      | false ↦ elim (how == 1) as (λ t. cond t (bit_and mask (bit_not w64 signals)) signals < 2 ^ 64) [
        | true ↦ let le = and_le_l mask (bit_not w64 signals) in omega arith
        | false ↦ lt
      ]
    ]

some_address : (a b : ℕ) → address_or_none a ≡ Some b → a ≡ b
some_address a b = elim (a == 0) as (λ t. cond t None (Some a) ≡ Some b → a ≡ b) [ true ↦ λ is. cc | false ↦ λ is. cc ]

handlers_keep : (handlers : FinMap nat_cmp ℕ) (signal address : ℕ)
    → ((q a : ℕ) → get handlers q ≡ Some a → a < 2 ^ 64) → address < 2 ^ 64
    → (q a : ℕ) → get (with_handler handlers signal address) q ≡ Some a → a < 2 ^ 64
handlers_keep handlers signal address h lt q a is =
    (elim (signal == q) as (λ t. cond t (address_or_none address) (get handlers q) ≡ Some a → a < 2 ^ 64) [
      | true ↦ λ e. subst (λ x. x < 2 ^ 64) (some_address address a e) lt
      | false ↦ λ e. h q a e
    ]) (sym (get-with_handler handlers signal address q) ∙ is)

module _ (config : Config) where
  abbrev vl : ℕ
  vl = vector_bytes config.vl

  abbrev svl : ℕ
  svl = vector_bytes config.svl

  counted_typed : (s : State) (core : ProcessorState) → IsTypedState config s → IsTyped vl svl core → IsTypedState config (counted s core)
  counted_typed s core t h = record { core = h; handlers = t.handlers; mask = t.mask; unmasked = t.unmasked }

  answered : (x : Scalars) (answer : ℕ) → Fits x → answer < 2 ^ 64 → Fits (past_with_answer x answer)
  answered x answer h lt = record {
    count = length-set x.x 0 answer ∙ h.count;
    x = All-set (λ n. n < 2 ^ 64) x.x 0 answer lt h.x;
    sp = h.sp;
    pc = omega arith;
  }

  returned_with : (s : State) (answer : ℕ) → IsTypedState config s → answer < 2 ^ 64 → IsTypedState config (returned s answer)
  returned_with s answer t lt = counted_typed s _ t
      (typed_scalars vl svl s.core _ t.core (answered s.core.scalars answer t.core.scalars lt))

  failed : (s : State) (number : ℕ) → IsTypedState config s → 0 < number → IsTypedState config (returned s (failure number))
  failed s number t some = returned_with s (failure number) t (omega arith)

  either : (b : Bool) (x y : TurnEnd) → TurnsToTyped config x → TurnsToTyped config y → TurnsToTyped config (cond b x y)
  either true x y h k = h
  either false x y h k = k

  asked : (events : ℕ) (before : State) (op : SharedOp) (next : ℕ → State)
      → ((answer : ℕ) → answer < 2 ^ 64 → IsTypedState config (next answer))
      → TurnsToTyped config (asking events before op next)
  asked events before op next h =
      either (nat_le journal_limit events) (Ends before TraceFull) (Asks op next) tt h

  written_typed : (s : State) (o : Option (List ℕ)) (count : ℕ) → IsTypedState config s → count < 2 ^ 64
      → IsTypedState config (written s o count)
  written_typed s None count t lt = failed s 14 t (omega arith)
  written_typed s (Some bytes) count t lt =
      let r = returned_with s count t lt in record { core = r.core; handlers = r.handlers; mask = r.mask; unmasked = r.unmasked }

  register : (s : State) (k : ℕ) → IsTypedState config s → slice_index s.core.scalars.x k < 2 ^ 64
  register s k t = index_fits s.core.scalars.x k t.core.scalars.x

  write_typed : (before s : State) → IsTypedState config s → TurnsToTyped config (write_of before s)
  unfolding write_of
  write_typed before s t =
      let x = s.core.scalars.x in
      let room : Bool = nat_lt output_limit (length s.output + slice_index x 2) in
      let made : TurnEnd = Goes (written s (bytes_with 4 s.core.memory (slice_index x 1) (slice_index x 2)) (slice_index x 2)) in
      either ((slice_index x 0 == 1) || (slice_index x 0 == 2)) (cond room (Ends before OutputFull) made) (Goes (returned s (failure 9)))
      (either room (Ends before OutputFull) made tt (written_typed s _ _ t (register s 2 t)))
      (failed s 9 t (omega arith))

  set_handler_typed : (s : State) → IsTypedState config s → TurnsToTyped config (set_handler_of s)
  unfolding set_handler_of
  set_handler_typed s t =
      let x = s.core.scalars.x in
      let r = returned_with s 0 t (omega arith) in
      either (is_signal (slice_index x 0))
      (Goes (record (returned s 0) { handlers = with_handler s.handlers (slice_index x 0) (slice_index x 1) }))
      (Goes (returned s (failure 22)))
      (record {
        core = r.core;
        handlers = handlers_keep s.handlers (slice_index x 0) (slice_index x 1) t.handlers (register s 1 t);
        mask = r.mask;
        unmasked = r.unmasked;
      })
      (failed s 22 t (omega arith))

  set_mask_typed : (s : State) → IsTypedState config s → version_of config ≢ One → TurnsToTyped config (set_mask_of s)
  unfolding set_mask_of
  set_mask_typed s t two =
      let x = s.core.scalars.x in
      let r = returned_with s s.mask t t.mask in
      let lt = register s 1 t in
      let le = and_le_l (slice_index x 1) (2 ^ 63 - 2) in
      either (nat_le (slice_index x 0) 2)
      (Goes (record (returned s s.mask) { mask = masked (slice_index x 0) s.mask (signals_in (slice_index x 1)) }))
      (Goes (returned s (failure 22)))
      (record {
        core = r.core;
        handlers = r.handlers;
        mask = masked_small (slice_index x 0) s.mask (signals_in (slice_index x 1)) t.mask (omega arith);
        unmasked = λ is. absurd (two is);
      })
      (failed s 22 t (omega arith))

  post_typed : (events : ℕ) (before s : State) → IsTypedState config s → TurnsToTyped config (post_of config events before s)
  unfolding post_of
  post_typed events before s t =
      let x = s.core.scalars.x in
      let op = post_op (slice_index x 0) (slice_index x 1) in
      either (may_post config x) (asking events before op (λ answer. returned s 0)) (Goes (returned s (failure 22)))
      (asked events before op (λ answer. returned s 0) (λ answer lt. returned_with s 0 t (omega arith)))
      (failed s 22 t (omega arith))

  module _ (v : IsLength vl) (w : IsLength svl) where
    return_typed : (before s : State) → IsTypedState config s → TurnsToTyped config (return_of config before s)
    unfolding return_of
    return_typed before s t = by_fault (return_fault (version_of config) s.depth vl s.core) refl
      where
        after : State
        after = counted (with_masking s (unmasked (version_of config) s.depth vl s.core))
            (returned_from (version_of config) s.depth vl s.core)

        by_fault : (o : Option ℕ) → return_fault (version_of config) s.depth vl s.core ≡ o
            → TurnsToTyped config (return_unless o before after)
        by_fault (Some address) is = tt
        by_fault None is = record {
          core = returned_typed vl svl v w (version_of config) s.depth s.core t.core is;
          handlers = t.handlers;
          mask = unmasked_small vl svl v w (version_of config) s.depth s.core t.core is;
          unmasked = unmasked_none vl svl v w (version_of config) s.depth s.core t.core is;
        }

    exit_typed : (s : State) → TurnsToTyped config (exit_of s)
    unfolding exit_of
    exit_typed s = tt

    called_typed : (thread events : ℕ) (before s : State) (call : KernelCall) → thread < 2 ^ 64 → IsTypedState config s
        → (version_of config ≡ One → call ≢ SetMask) → TurnsToTyped config (called config thread events before s call)
    called_typed thread events before s Write lt t two = write_typed before s t
    called_typed thread events before s Exit lt t two = exit_typed s
    called_typed thread events before s Yield lt t two = returned_with s 0 t (omega arith)
    called_typed thread events before s Post lt t two = post_typed events before s t
    called_typed thread events before s SetHandler lt t two = set_handler_typed s t
    called_typed thread events before s SetMask lt t two = set_mask_typed s t (λ is. two is refl)
    called_typed thread events before s Return lt t two = return_typed before s t
    called_typed thread events before s Number lt t two = returned_with s thread t lt
    called_typed thread events before s Other lt t two = failed s 38 t (omega arith)

    call_typed : (thread events : ℕ) (before s : State) → thread < 2 ^ 64 → IsTypedState config s
        → TurnsToTyped config (call_of config thread events before s)
    unfolding call_of
    call_typed thread events before s lt t =
        called_typed thread events before s (call_numbered (version_of config) (slice_index s.core.scalars.x 8)) lt t
        (λ is. masks_none (version_of config) (slice_index s.core.scalars.x 8) is)

    -- ---- turns

    outside : (s : State) → IsTypedState config s → IsTypedState config (outside_streaming config s)
    outside s t = record { core = typed_sm vl svl false s.core t.core; handlers = t.handlers; mask = t.mask; unmasked = t.unmasked }

    effect_turns : (thread events : ℕ) (s : State) (e : Effect) → thread < 2 ^ 64 → IsTypedState config s → LeadsToTyped vl svl e
        → TurnsToTyped config (after_effect config thread events s e)
    effect_turns thread events s (Raises exception) lt t h = tt
    effect_turns thread events s (Calls number) lt t h = call_typed thread events s (outside_streaming config s) lt (outside s t)
    effect_turns thread events s (Becomes core) lt t h = counted_typed s core t h
    effect_turns thread events s (effect.Asks op next) lt t h = asked events s op _
        (λ answer small. counted_typed s (next answer) t (h answer small))

    inside_small : (version : Version) (signal mask : ℕ) → signal < 64 → mask < 2 ^ 64 → masked_inside version signal mask < 2 ^ 64
    inside_small One signal mask lt m = m
    inside_small Two signal mask lt m = or_lt 64 mask (2 ^ signal) m (pow_below signal 64 lt)

    inside_none : (version : Version) (signal mask : ℕ) → version ≡ One → mask ≡ 0 → masked_inside version signal mask ≡ 0
    inside_none One signal mask is none = none
    inside_none Two signal mask is none = (let no : ⊥ = cc in absurd no)

    open_some : (config : Config) (s : State) → is_delivery_due config s ≡ true → (open_signals s == 0) ≡ false
    open_some config s due = by_tests s.polled (open_signals s == 0) (nat_lt s.depth (depth_limit (version_of config))) due
      where
        by_tests : (a b c : Bool) → (a && not b && c) ≡ true → b ≡ false
        by_tests true false c e = refl
        by_tests true true c e = (let no : ⊥ = cc in absurd no)
        by_tests false b c e = (let no : ⊥ = cc in absurd no)

    delivery_turns : (s : State) → IsTypedState config s → is_delivery_due config s ≡ true → TurnsToTyped config (delivery_of config s)
    delivery_turns s t due = by_handler (get s.handlers (lowest_signal s)) refl
      where
        below : lowest_signal s < 64
        below = (lowest_open s.held s.mask (open_some config s due)).within

        by_frame : (handler : ℕ) → handler < 2 ^ 64 → (o : Option ℕ)
            → TurnsToTyped config (handled config (lowest_signal s) handler (released s) o)
        by_frame handler lt (Some address) = tt
        by_frame handler lt None = record {
          core = delivered_typed vl svl (version_of config) (masking_of s) (lowest_signal s) s.core t.core handler (let b = below in
              omega arith) lt;
          handlers = t.handlers;
          mask = inside_small (version_of config) (lowest_signal s) s.mask below t.mask;
          unmasked = λ is. inside_none (version_of config) (lowest_signal s) s.mask is (t.unmasked is);
        }

        by_handler : (o : Option ℕ) → get s.handlers (lowest_signal s) ≡ o → TurnsToTyped config (delivered_to config (lowest_signal s) s o)
        by_handler None is = tt
        by_handler (Some handler) is = by_frame handler (t.handlers (lowest_signal s) handler is)
            (frame_fault (version_of config) vl s.core)

    poll_turns : (thread events : ℕ) (s : State) → IsTypedState config s → TurnsToTyped config (poll_of thread events s)
    poll_turns thread events s t =
        asked events s (poll_op thread) (polled_with s)
        (λ answer lt. record { core = t.core; handlers = t.handlers; mask = t.mask; unmasked = t.unmasked })

    module _ (rows : HaveRows) where
      pub turn_typed : (thread events : ℕ) (s : State) → thread < 2 ^ 64 → IsTypedState config s
          → TurnsToTyped config (turn_of config thread events s)
      unfolding turn_of
      turn_typed thread events s lt t =
          let own : TurnEnd = cond (is_delivery_due config s) (delivery_of config s) (instruction_of config thread events s) in
          either (s.count == config.budget) (Ends s Budget) (cond (is_poll_due config s) (poll_of thread events s) own) tt
          (either (is_poll_due config s) (poll_of thread events s) own (poll_turns thread events s t)
          (by_due (is_delivery_due config s) refl))
        where
          by_due : (b : Bool) → is_delivery_due config s ≡ b
              → TurnsToTyped config (cond b (delivery_of config s) (instruction_of config thread events s))
          by_due true due = delivery_turns s t due
          by_due false due = effect_turns thread events s (effect_of vl s.core) lt t (effect_typed rows vl svl v w s.core t.core)
