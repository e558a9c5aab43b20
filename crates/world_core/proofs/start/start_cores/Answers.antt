use Rattle.std.proofs.Common.{◌≡◌, length, ap, sym, ◌∙◌, arith}
use Rattle.std.specs.Prelude.{slice_get}
use Rattle.std.proofs.lemmas.Grind.{common_steps}
use Rattle.shared_region.specs.Ports.{PlainEvents}
use Rattle.core_unit.specs.CoreState.{CoreState}
use Rattle.core_unit.specs.View.{core_state}
use Rattle.world_core.specs.Parts.{IsCoreOf, core_guests, guests_in}
use Rattle.world_core.proofs.Lists.{placed_more}
use Rattle.world_core.proofs.Starts.{cores_more}
use Rattle.world_core.proofs.start.start_cores.Goals as goal

pub cores-preserved : goal.cores-preserved
cores-preserved c =
    let h = c.cores.invariant in
    let empty = c.in_ok-core.ensures.empty in
    let cores = c.cores.cores in
    let push = c.push_reserved.ensures in
    let count : length cores.items ≡ c.cores.number = grind (arith, common_steps, h.count) in
    record {
      so_far = cores_more core_guests cores.items _ c.in_ok-core.core c.cores.number push.items h.so_far
          (ap (λ (s : CoreState PlainEvents). guests_in s.residents) empty);
      fit = λ i x get. placed_more (λ k y. IsCoreOf c.args.config.now k (core_state y)) cores.items c.in_ok-core.core h.fit
          (record {
            number = ap (λ (s : CoreState PlainEvents). s.number) empty ∙ sym count;
            options = ap (λ (s : CoreState PlainEvents). s.config) empty;
            none_done = ap (λ (s : CoreState PlainEvents). length s.done) empty;
          }) i x (ap (λ l. slice_get l i) (sym push.items) ∙ get);
      count = omega (arith, push.len, h.count);
      room = omega (arith, push.capacity, h.room);
    }
