use Rattle.std.proofs.Common.{◌≡◌, ℕ, length, Option, None, refl, ap, sym, ◌∙◌, subst}
use Rattle.std.specs.FinMap.{get}
use Rattle.sm_types.specs.Options.{version_of}
use Rattle.sm_types.specs.declared.version.Version.{Version}
use Rattle.paged_memory.specs.Memory.{AddressSpace}
use Rattle.machine_step.specs.ProcessorState.{ProcessorState, vector_bytes}
use Rattle.signal_frames.specs.Frame.{delivered}
use Rattle.signal_frames.specs.Law.{IsSaveable, HasFrameAtSp, BringsBack}
use Rattle.signal_frames.specs.Return.{return_fault, returned as returned_from, unmasked}
use Rattle.signal_frames.specs.declared.masking.Masking.{Masking}
use Rattle.kernel_contexts.specs.State.{State, masking_of}
use Rattle.kernel_contexts.specs.Call.{Goes, return_unless}
use Rattle.kernel_contexts.specs.Turn.{turn_of, outside_streaming, lowest_signal}
use Rattle.kernel_contexts.specs.Run.{reach_from}
use Rattle.kernel_contexts.proofs.Calls.{SeesNoMode, back_to, call_returns, return_is}
use Rattle.kernel_contexts.proofs.Signals.{of_signal}
use Rattle.kernel_contexts.proofs.Turns.{turn_executes, executes_calls}
use Rattle.kernel_contexts.proofs.Watched.{due_below}
use Rattle.za_routines.proofs.AtOnce.{IsDelivered, is_delivered, at_frame, array_inside, memory_inside, bytes_inside}
use Rattle.za_routines.proofs.AtOnce.{least_signal, most_signal, saveable, may_return}
use Rattle.za_routines.proofs.returning.a_return_at_once_is_a_run.Goals as goal

pub returns : goal.returns
unfolding reach_from
returns c = λ config thread used over from begun left may first next apart.
    let v : Version = version_of config in
    let l : ℕ = vector_bytes config.vl in
    let signal : ℕ = lowest_signal from in
    let d : IsDelivered config from begun = is_delivered config from begun thread used may first in
    let inside : ProcessorState = delivered v (masking_of from) l signal d.handler from.core in
    let frame : HasFrameAtSp v (masking_of from) l signal from.core begun.core =
    subst (λ (k : ProcessorState). HasFrameAtSp v (masking_of from) l signal from.core k) (sym d.core)
    (c.delivery_leaves_its_frame.ensures v (masking_of from) l signal d.handler from.core may.plain.range may.readable) in
    let one = of_signal from.handlers signal d.handler may.handlers d.found in
    let saves : IsSaveable v (masking_of from) =
    saveable v from may.plain.mask may.plain.unmasked (due_below config from may.due) in
    let size : length begun.core.bank.za ≡ length from.core.bank.za =
    ap (λ (k : ProcessorState). length k.bank.za) d.core ∙ array_inside v l signal d.handler from in
    let made : return_fault v begun.depth l begun.core ≡ None =
    c.frame_brings_back.ensures.made v (masking_of from) begun.depth l signal from.core begun.core may.plain.range
    (least_signal signal one) (most_signal signal one) (may_return config from begun v may d.depth) size saves frame in
    let back : BringsBack v (masking_of from) begun.depth l from.core begun.core =
    c.frame_brings_back.ensures.back v (masking_of from) begun.depth l signal from.core begun.core may.plain.range saves frame made in
    let sees : SeesNoMode = record {
      fault = c.return_sees_no_mode.ensures.fault;
      state = c.return_sees_no_mode.ensures.state;
      masking = c.return_sees_no_mode.ensures.masking;
    } in
    let core : ProcessorState = returned_from v begun.depth l begun.core in
    let masking : Masking = unmasked v begun.depth l begun.core in
    let to : State = back_to begun masking core in
    let is : turn_of config thread used begun ≡ return_unless (return_fault v begun.depth l begun.core) begun to =
    turn_executes config thread used begun next.next.left next.next.unpolled next.undue
    ∙ executes_calls config thread used begun begun.core next.number next.call refl
    ∙ call_returns config thread used begun (outside_streaming config begun) next.return
    ∙ return_is config begun sees in
    let memory : core.memory ≡ inside.memory =
    ap (λ (k : ProcessorState). k.memory) back.0 ∙ ap (λ (k : ProcessorState). k.memory) d.core in (
      to,
      record {
        delivers = may.next;
        due = may.due;
        begun = begun;
        first = first;
        apart = apart;
        turns = 0;
        last = begun;
        between = refl;
        executes = next.next;
        undue = next.undue;
        number = next.number;
        call = next.call;
        return = next.return;
        made = is ∙ ap (λ (o : Option ℕ). return_unless o begun to) made;
        sp = ap (λ (k : ProcessorState). k.scalars.sp) d.core ∙ at_frame v l signal d.handler from;
        frame = frame;
        bytes = λ address on. ap (λ (m : AddressSpace). get m.mem address) memory
            ∙ bytes_inside v l signal d.handler from may.plain.range address (apart address on);
        pages = ap (λ (m : AddressSpace). m.perm) (memory ∙ memory_inside v l signal d.handler from);
      },
    )
