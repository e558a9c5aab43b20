use Rattle.std.proofs.Common.{◌≡◌, ◌≤◌, ap, sym, ◌∙◌, subst, arith, vec_capacity}
use Rattle.std.proofs.lemmas.Grind.{common_steps}
use Rattle.world_core.specs.Parts.{guests_of, world_from}
use Rattle.world_core.specs.World.{World, IsOwned, start_world}
use Rattle.world_core.proofs.Worlds.{start_owned, start_room}
use Rattle.world_core.proofs.world.World.new.Goals as goal

pub invariant_of-result : goal.invariant_of-result
invariant_of-result c =
    let program = c.args.image.now in
    let config = c.args.config.now in
    let queue = c.in_ok-queue.ensures in
    let cores = c.in_ok-cores.ensures in
    let done = ap (λ l. guests_of l) (c.reserve.ensures.items ∙ c.new-done.ensures.items) in
    let history = c.in_ok-port.ensures.1 in
    let is : ◌≡◌ {A = World}
    (world_from config c.in_ok-queue.queue.items c.in_ok-cores.cores.items c.reserve.new.self.items c.in_ok-port.port.history)
    (start_world program config) =
    (λ i. record { config = config; queue = queue.threads i; cores = cores.none i; done = done i; history = history i }) in
    let room : config.threads ≤ vec_capacity c.reserve.new.self =
    grind (arith, common_steps, c.reserve.ensures.ok, c.is_err.ensures.negation, c.if-is_err.false) in
    record {
      options = queue.options;
      fit = cores.fit;
      owned = subst IsOwned (sym is) (start_owned program config);
      room = start_room program config _ _ _ is queue.room room;
    }
