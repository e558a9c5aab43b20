use Rattle.std.proofs.Common.{◌≡◌, slice_index, sym, subst}
use Rattle.sm_types.specs.Options.{version_of}
use Rattle.sm_types.specs.declared.stop.Stop.{Stop}
use Rattle.std.proofs.Common.{Option}
use Rattle.mem_access.specs.declared.bank.Bank.{Bank}
use Rattle.kernel_contexts.specs.Call.{TurnEnd, called}
use Rattle.kernel_contexts.specs.GuestThread.{guest_events}
use Rattle.kernel_contexts.specs.Context.{Takes, Turns, guest_call, held_state}
use Rattle.kernel_contexts.specs.KernelCall.{call_numbered}
use Rattle.kernel_contexts.specs.State.{State}
use Rattle.kernel_contexts.specs.Turn.{outside_streaming}
use Rattle.kernel_contexts.specs.declared.context.Turn.{Turn}
use Rattle.kernel_contexts.specs.declared.context.Turn.TheVariants.{Ran, Yielded, NeedsBank, Stopped, TraceEnds, TraceDiffers, Memory}
use Rattle.kernel_contexts.specs.declared.guest.GuestThread.{GuestThread}
use Rattle.kernel_contexts.specs.declared.kernel_call.KernelCall.{KernelCall}
use Rattle.kernel_contexts.specs.declared.kernel_call.KernelCall.TheVariants as call
use Rattle.kernel_contexts.proofs.Calls.{call_is, says_so}
use Rattle.kernel_contexts.proofs.guest.GuestThread.call_quietly.Goals as goal

-- a turn for which no memory is wanting
with_memory : (wants : Type 0) (end : TurnEnd) (old new : State) (stopped : Option Stop) (turn : Turn)
    → Turns ⊥ end old new stopped turn → Turns wants end old new stopped turn
with_memory wants end old new stopped Ran h = h
with_memory wants end old new stopped Yielded h = h
with_memory wants end old new stopped (Stopped stop) h = h
with_memory wants end old new stopped NeedsBank h = h
with_memory wants end old new stopped TraceEnds h = h
with_memory wants end old new stopped TraceDiffers h = h
with_memory wants end old new stopped Memory h = absurd h.0

-- the turn of the call that it is
takes_so : (wants : Type 0) (g : GuestThread) (bank : Bank) (h : GuestThread) (after : Bank) (turn : Turn) (given known : KernelCall)
    → given ≡ call_numbered (version_of g.config) (slice_index g.machine.scalars.x 8) → given ≡ known
    → Takes wants (called g.config g.number (guest_events g) (held_state g bank)
    (outside_streaming g.config (held_state g bank)) known) g bank h after turn
    → Takes wants (guest_call g bank) g bank h after turn
takes_so wants g bank h after turn given known numbered is so =
    subst (λ (end : TurnEnd). Takes wants end g bank h after turn)
    (sym (call_is g.config g.number (guest_events g) (held_state g bank) (outside_streaming g.config (held_state g bank))
    given known numbered is)) so

pub write-requires-clause-number : goal.write-requires-clause-number
write-requires-clause-number c =
    says_so (version_of c.args.self.now.config) (slice_index c.args.self.now.machine.scalars.x 8) c.args.call call.Write
    c.requires.call c.in-Write.is

pub set_mask-requires-clause-version : goal.set_mask-requires-clause-version
set_mask-requires-clause-version c =
    says_so (version_of c.args.self.now.config) (slice_index c.args.self.now.machine.scalars.x 8) c.args.call call.SetMask
    c.requires.call c.in-SetMask.is

pub returns-in-Write-clause-turn : goal.returns-in-Write-clause-turn
returns-in-Write-clause-turn c =
    takes_so _ c.args.self.now c.args.bank.now c.write.new.self c.write.new.bank c.write.result c.args.call call.Write c.requires.call
    c.in-Write.is c.write.ensures.turn

pub returns-in-Exit-clause-turn : goal.returns-in-Exit-clause-turn
returns-in-Exit-clause-turn c =
    takes_so _ c.args.self.now c.args.bank.now c.exit.new.self c.exit.new.bank c.exit.result c.args.call call.Exit c.requires.call
    c.in-Exit.is (with_memory _ _ _ _ _ c.exit.result c.exit.ensures.turn)

pub returns-in-Yield-clause-turn : goal.returns-in-Yield-clause-turn
returns-in-Yield-clause-turn c =
    takes_so _ c.args.self.now c.args.bank.now c.give_way.new.self c.give_way.new.bank c.give_way.result c.args.call call.Yield c.requires.call
    c.in-Yield.is (with_memory _ _ _ _ _ c.give_way.result c.give_way.ensures.turn)

pub returns-in-SetHandler-clause-turn : goal.returns-in-SetHandler-clause-turn
returns-in-SetHandler-clause-turn c =
    takes_so _ c.args.self.now c.args.bank.now c.set_handler.new.self c.set_handler.new.bank c.set_handler.result c.args.call call.SetHandler c.requires.call
    c.in-SetHandler.is (with_memory _ _ _ _ _ c.set_handler.result c.set_handler.ensures.turn)

pub returns-in-SetMask-clause-turn : goal.returns-in-SetMask-clause-turn
returns-in-SetMask-clause-turn c =
    takes_so _ c.args.self.now c.args.bank.now c.set_mask.new.self c.set_mask.new.bank c.set_mask.result c.args.call call.SetMask c.requires.call
    c.in-SetMask.is (with_memory _ _ _ _ _ c.set_mask.result c.set_mask.ensures.turn)

pub returns-in-Return-clause-turn : goal.returns-in-Return-clause-turn
returns-in-Return-clause-turn c =
    takes_so _ c.args.self.now c.args.bank.now c.return_from_handler.new.self c.return_from_handler.new.bank c.return_from_handler.result c.args.call call.Return c.requires.call
    c.in-Return.is (with_memory _ _ _ _ _ c.return_from_handler.result c.return_from_handler.ensures.turn)
