use Rattle.std.proofs.Common.{◌≡◌, slice_index, inl, inr, ap, ◌∙◌}
use Rattle.sm_types.specs.Options.{version_of}
use Rattle.sm_types.specs.declared.version.Version.{Version}
use Rattle.mem_access.specs.declared.bank.Bank.{Bank}
use Rattle.kernel_contexts.specs.KernelCall.{call_numbered}
use Rattle.kernel_contexts.specs.declared.guest.GuestThread.{GuestThread}
use Rattle.kernel_contexts.specs.declared.kernel_call.KernelCall.{KernelCall}
use Rattle.kernel_contexts.specs.declared.kernel_call.KernelCall.TheVariants.{Post}
use Rattle.kernel_contexts.specs.Turn.{outside_streaming}
use Rattle.kernel_contexts.specs.Call.{post_of}
use Rattle.kernel_contexts.specs.GuestThread.{guest_events}
use Rattle.kernel_contexts.specs.Context.{guest_call, held_state}
use Rattle.kernel_contexts.proofs.Answered.{asked_nothing, made_nothing}
use Rattle.kernel_contexts.proofs.Over.{turned_so}
use Rattle.kernel_contexts.proofs.Wanting.{goes_so, quiet_wants, quiet_goes}
use Rattle.kernel_contexts.proofs.Calls.{call_is, says_so}
use Rattle.kernel_contexts.proofs.guest.GuestThread.call.Goals as goal

-- the call is a post
posts : (t : GuestThread) (bank : Bank) (version : Version) (given : KernelCall) → version ≡ version_of t.config
    → given ≡ call_numbered version (slice_index t.machine.scalars.x 8) → given ≡ Post
    → guest_call t bank
    ≡ post_of t.config (guest_events t) (held_state t bank) (outside_streaming t.config (held_state t bank))
posts t bank version given same numbered is =
    call_is t.config t.number (guest_events t) (held_state t bank) (outside_streaming t.config (held_state t bank)) given Post
    (numbered ∙ ap (λ (v : Version). call_numbered v (slice_index t.machine.scalars.x 8)) same) is

pub returns-in-Post-clause-turn : goal.returns-in-Post-clause-turn
returns-in-Post-clause-turn g c =
    let t = c.args.self.now in
    let before = held_state t c.args.bank.now in
    turned_so _ (post_of t.config (guest_events t) before (outside_streaming t.config before)) (guest_call t c.args.bank.now) _
    _ _ _ _
    (posts t c.args.bank.now c.version.result c.call_numbered-call.result c.version.ensures c.call_numbered-call.ensures c.in-Post.is)
    c.post.ensures.turn

pub returns-in-Post-clause-memory : goal.returns-in-Post-clause-memory
returns-in-Post-clause-memory g c = λ wants free.
    inr (
      says_so c.version.result (slice_index c.args.self.now.machine.scalars.x 8) c.call_numbered-call.result Post
          c.call_numbered-call.ensures c.in-Post.is,
      c.post.ensures.memory wants free,
    )

pub returns-in_default-clause-memory : goal.returns-in_default-clause-memory
returns-in_default-clause-memory g c = λ wants free.
    inl (quiet_wants _ _ (held_state c.args.self.now c.args.bank.now) (held_state c.call_quietly.new.self c.call_quietly.new.bank) _
    c.call_quietly.result c.call_quietly.ensures.turn wants)

pub returns-in_default-clause-turn : goal.returns-in_default-clause-turn
returns-in_default-clause-turn g c =
    let t = c.args.self.now in
    asked_nothing _ _ _ (held_state t c.args.bank.now) (held_state c.call_quietly.new.self c.call_quietly.new.bank) _ _
    c.call_quietly.result
    (made_nothing t.journal.items _ c.call_quietly.ensures.same.journal) c.call_quietly.ensures.turn

pub returns-in-Post-clause-goes : goal.returns-in-Post-clause-goes
returns-in-Post-clause-goes g c = λ wants free.
    let t = c.args.self.now in
    let before = held_state t c.args.bank.now in
    goes_so (g.P.Port.refuses c.args.port.now c.args.ticket.now).takes_memory
    (post_of t.config (guest_events t) before (outside_streaming t.config before)) (guest_call t c.args.bank.now)
    (posts t c.args.bank.now c.version.result c.call_numbered-call.result c.version.ensures c.call_numbered-call.ensures c.in-Post.is)
    (c.post.ensures.goes wants free)

pub returns-in_default-clause-goes : goal.returns-in_default-clause-goes
returns-in_default-clause-goes g c = λ wants free.
    quiet_goes _ _ _ (held_state c.args.self.now c.args.bank.now) (held_state c.call_quietly.new.self c.call_quietly.new.bank) _
    c.call_quietly.result c.call_quietly.ensures.turn wants
