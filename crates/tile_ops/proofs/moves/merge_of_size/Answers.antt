use Rattle.std.proofs.Common.{◌≡◌}
use Rattle.vector_elements.specs.Numbers.{bytes_in}
use Rattle.tile_ops.specs.Moves.{merged}
use Rattle.tile_ops.proofs.Joined.{all_merged}
use Rattle.tile_ops.proofs.moves.merge_of_size.Goals as goal

pub returns-then-are_active : goal.returns-then-are_active
returns-then-are_active c =
    let same : c.args.new.now ≡ merged (bytes_in c.args.size) c.args.pg.now c.args.new.now c.args.old.now =
    all_merged c.args.size c.args.pg.now c.args.new.now c.args.old.now (c.are_active.ensures.0 c.if-are_active.true) c.requires.new
    c.requires.bits c.requires.whole in
    cc
