use Rattle.std.proofs.Common.{◌≡◌, ℕ, ◌^◌, ◌<◌, Option, Some, None, refl, ap, sym, ◌∙◌, arith}
use Rattle.machine_step.specs.ProcessorState.{ProcessorState, vector_bytes}
use Rattle.signal_frames.specs.Law.{IsSaveable, BringsBack}
use Rattle.signal_frames.specs.Return.{return_fault, returned as returned_from, unmasked}
use Rattle.signal_frames.specs.declared.masking.Masking.{Masking}
use Rattle.sm_types.specs.declared.version.Version.{Version}
use Rattle.sm_types.specs.declared.version.Version.TheVariants.{One, Two}
use Rattle.sm_types.specs.Options.{version_of}
use Rattle.kernel_contexts.specs.Kernel.{depth_limit}
use Rattle.kernel_contexts.specs.State.{State, masking_of}
use Rattle.kernel_contexts.specs.Call.{Goes, return_unless}
use Rattle.kernel_contexts.specs.Turn.{turn_of, outside_streaming, lowest_signal}
use Rattle.kernel_contexts.proofs.Calls.{SeesNoMode, back_to, call_returns, return_is}
use Rattle.kernel_contexts.proofs.Turns.{turn_executes, executes_calls}
use Rattle.kernel_contexts.proofs.Watched.{due_below}
use Rattle.kernel_contexts.proofs.laws.handlers_bring_back.Goals as goal

-- a return that is made
unless_goes : (fault : Option ℕ) (s after to : State) → return_unless fault s after ≡ Goes to → (fault ≡ None) × (after ≡ to)
unless_goes (Some address) s after to h = cc
unless_goes None s after to h = (refl, cc)

saveable : (version : Version) (s : State) → s.mask < 2 ^ 64 → (version ≡ One → s.mask ≡ 0) → s.depth < depth_limit version
    → IsSaveable version (masking_of s)
saveable One s small none below = (none refl, omega arith)
saveable Two s small none below = (small, omega arith)

pub returns : goal.returns
returns c = λ config thread over from to used done left rest plain run.
    let v : Version = version_of config in
    let l : ℕ = vector_bytes config.vl in
    let s : State = run.last in
    let sees : SeesNoMode = record {
      fault = c.return_sees_no_mode.ensures.fault;
      state = c.return_sees_no_mode.ensures.state;
      masking = c.return_sees_no_mode.ensures.masking;
    } in
    let core : ProcessorState = returned_from v s.depth l s.core in
    let masking : Masking = unmasked v s.depth l s.core in
    let is : turn_of config thread done s ≡ return_unless (return_fault v s.depth l s.core) s (back_to s masking core) =
    turn_executes config thread done s run.executes.left run.executes.unpolled run.undue
    ∙ executes_calls config thread done s s.core run.number run.call refl
    ∙ call_returns config thread done s (outside_streaming config s) run.return
    ∙ return_is config s sees in
    let made : (return_fault v s.depth l s.core ≡ None) × (back_to s masking core ≡ to) =
    unless_goes (return_fault v s.depth l s.core) s (back_to s masking core) to (sym is ∙ run.made) in
    let back : BringsBack v (masking_of from) s.depth l from.core s.core =
    c.frame_brings_back.ensures.back v (masking_of from) s.depth l (lowest_signal from) from.core s.core plain.range
    (saveable v from plain.mask plain.unmasked (due_below config from run.due)) run.frame made.0 in
    let same : core ≡ to.core = ap (λ (t : State). t.core) made.1 in
    let kept : core ≡ record from.core { memory = s.core.memory } = back.0 in
    let memory : to.core.memory ≡ s.core.memory = ap (λ (k : ProcessorState). k.memory) (sym same ∙ kept) in
    record {
      core = sym same ∙ kept ∙ ap (λ m. record from.core { memory = m }) (sym memory);
      mask = ap (λ (t : State). t.mask) (sym made.1) ∙ ap (λ (m : Masking). m.mask) back.1;
      depth = ap (λ (t : State). t.depth) (sym made.1) ∙ ap (λ (m : Masking). m.depth) back.1;
      bytes = run.bytes;
      pages = run.pages;
    }
