use Rattle.std.proofs.Common.{◌≡◌, ◌+◌, ◌-◌, ◌*◌, ◌^◌, ◌<◌, ◌≤◌, true, refl, ap, sym, ◌∙◌, subst, arith}
use Rattle.sm_types.specs.declared.config.Config.{Config}
use Rattle.kernel_contexts.specs.State.{State}
use Rattle.kernel_contexts.specs.GuestThread.{bare_state}
use Rattle.kernel_contexts.specs.Watch.{waiting}
use Rattle.sm_types.specs.Options.{version_of}
use Rattle.kernel_contexts.proofs.Signals.{waiting_more, waiting_small, none_inside}
use Rattle.kernel_contexts.specs.Kernel.{depth_limit}
use Rattle.kernel_contexts.proofs.Watched.{IsDue, due_so, due_below}
use Rattle.machine_step.specs.declared.machine.Machine.{Machine}
use Rattle.kernel_contexts.specs.declared.context.Turn.TheVariants as turn
use Rattle.kernel_contexts.proofs.Owned.{ran_owned, stops_owned, frames_at_length, bad_stays, wants_keep}
use Rattle.kernel_contexts.proofs.guest.GuestThread.enter_handler.Goals as goal

pub returns-in-Ok-clause-owned : goal.returns-in-Ok-clause-owned
returns-in-Ok-clause-owned c =
    let t = c.args.self.now in
    ran_owned _ t.machine.pages c.deliver.new.machine.pages c.release.new.self.machine.pages turn.Ran refl
    (ap (λ (m : Machine). m.pages) c.release.ensures.machine)
    (rw (frames_at_length t c.args.bank.now c.version-version.result c.version-version.ensures c.requires.fit.lengths.vl) c.in-Ok.ensures.owned)

pub returns-in-Err-BadFrame-clause-owned : goal.returns-in-Err-BadFrame-clause-owned
returns-in-Err-BadFrame-clause-owned c =
    stops_owned _ c.args.self.now.machine.pages c.stop_with.new.self.machine.pages c.stop_with.result _ c.stop_with.ensures.answer
    (ap (λ (m : Machine). m.pages) (c.stop_with.ensures.machine ∙ c.release-in-Err-BadFrame.ensures.machine)
    ∙ bad_stays _ _ _ _ c.in-Err-BadFrame.field-0-is c.in-Err-BadFrame.ensures.owned)

pub returns-in-Err-Memory-clause-owned : goal.returns-in-Err-Memory-clause-owned
returns-in-Err-Memory-clause-owned c = wants_keep _ _ _ c.in-Err-Memory.field-0-is c.in-Err-Memory.ensures.owned

pub invariant_of-self-in-Ok-clause-turns_are_few : goal.invariant_of-self-in-Ok-clause-turns_are_few
invariant_of-self-in-Ok-clause-turns_are_few c =
    let t = c.args.self.now in
    let n = c.release.new.self in
    let due : IsDue (bare_state t) = due_so t.config (bare_state t) c.requires.due in
    let polled : n.polled ≡ true = ap (λ (s : State). s.polled) c.release.ensures.state ∙ due.polled in
    let held : n.held ≡ t.held - 2 ^ c.args.signal =
    ap (λ (s : State). s.held) c.release.ensures.state ∙ ap (λ k. t.held - 2 ^ k) (sym c.requires.lowest) in
    let waits : waiting n.polled n.held ≡ waiting true t.held + 1 =
    ap (λ b. waiting b n.held) polled ∙ ap (waiting true) held ∙ waiting_more t.held c.args.signal c.requires.held c.requires.known in
    let before : t.turns ≤ t.begun + (64 * t.count + waiting true t.held) =
    subst (λ b. t.turns ≤ t.begun + (64 * t.count + waiting b t.held)) due.polled t.turns_are_few in
    let turns : n.turns ≡ t.turns = ap (λ (s : State). s.turns) c.release.ensures.state in
    let count : n.count ≡ t.count = ap (λ (s : State). s.count) c.release.ensures.state in
    omega (arith, waits, before, turns, count, c.release.ensures.same.begun)

pub invariant_of-self-in-Ok-clause-turns_within : goal.invariant_of-self-in-Ok-clause-turns_within
invariant_of-self-in-Ok-clause-turns_within c =
    let t = c.args.self.now in
    let n = c.release.new.self in
    let due : IsDue (bare_state t) = due_so t.config (bare_state t) c.requires.due in
    let turns : n.turns ≡ t.turns = ap (λ (s : State). s.turns) c.release.ensures.state in
    let budget : n.config.budget ≡ t.config.budget = ap (λ (k : Config). k.budget) c.release.ensures.same.config in
    omega (arith, turns, budget, t.turns_are_few, waiting_small t.polled t.held, c.requires.count, c.release.ensures.same.begun)

pub invariant_of-self-in-Ok-clause-unmasked_at_first : goal.invariant_of-self-in-Ok-clause-unmasked_at_first
invariant_of-self-in-Ok-clause-unmasked_at_first c = λ first.
    let t = c.args.self.now in
    let n = c.release.new.self in
    let same : version_of n.config ≡ version_of t.config = ap version_of c.release.ensures.same.config in
    let mask : n.mask ≡ t.mask = ap (λ (s : State). s.mask) c.release.ensures.state in
    c.masked_inside-self.ensures
    ∙ none_inside c.version-version.result (version_of t.config) c.args.signal n.mask c.version-version.ensures
    (sym same ∙ first) (mask ∙ t.unmasked_at_first (sym same ∙ first))

pub invariant_of-self-in-Ok-clause-depth_within : goal.invariant_of-self-in-Ok-clause-depth_within
invariant_of-self-in-Ok-clause-depth_within c =
    let t = c.args.self.now in
    let n = c.release.new.self in
    let same : version_of n.config ≡ version_of t.config = ap version_of c.release.ensures.same.config in
    let depth : n.depth ≡ t.depth = ap (λ (s : State). s.depth) c.release.ensures.state in
    let below : t.depth < depth_limit (version_of t.config) = due_below t.config (bare_state t) c.requires.due in
    omega (arith, depth, below, ap depth_limit same)
