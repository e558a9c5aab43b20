use Rattle.std.proofs.Common.{◌∙◌, length}
use Rattle.tile_ops.specs.Named.{element_size}
use Rattle.za_access.proofs.Loaded.{loaded_whole}
use Rattle.za_access.proofs.elements.SliceElements.load.Goals as goal

pub returns-in-Some : goal.returns-in-Some
returns-in-Some c =
    let x = c.args.self.now in
    c.load_from.ensures
    ∙ loaded_whole x.start (element_size x.size) x.pg.now c.args.pages.now.memory c.in-Some.bytes.now (length c.args.slice.now)
    c.in-Some.ensures.there c.requires.bits
