use Rattle.std.proofs.Common.{◌≡◌, ap, sym, ◌∙◌, arith}
use Rattle.std.specs.Prelude.{slice_get}
use Rattle.kernel_contexts.specs.Context.{config_of}
use Rattle.kernel_contexts.specs.Guest.{guest_of}
use Rattle.core_unit.proofs.Cores.{each_snoc}
use Rattle.world_core.specs.World.{starting}
use Rattle.world_core.proofs.Starts.{guest_starts, starts_more}
use Rattle.world_core.proofs.start.start_threads.Goals as goal

pub threads-preserved : goal.threads-preserved
threads-preserved c =
    let h = c.threads.invariant in
    let e = c.in_ok-context.ensures in
    let queue = c.threads.queue in
    let push = c.push_reserved.ensures in
    record {
      so_far = starts_more (starting c.args.image.now c.args.config.now) (λ w. guest_of w.context) queue.items _ _ c.threads.thread
          push.items h.so_far
          (guest_starts c.in_ok-context.context c.args.image.now c.args.config.now c.threads.thread e.image e.config e.thread e.state
          e.stop e.journal);
      options = λ i w get. each_snoc (λ x. config_of x.context ≡ c.args.config.now) queue.items _ h.options e.config i w
          (ap (λ l. slice_get l i) (sym push.items) ∙ get);
      count = omega (arith, push.len, h.count);
      room = omega (arith, push.capacity, h.room);
    }
