use Rattle.std.proofs.Common.{◌∙◌, length}
use Rattle.sve_access.proofs.Copied.{as_long, copied}
use Rattle.sve_access.specs.Contiguous.{memory_size, element_size}
use Rattle.sve_access.proofs.loads.copy_all.Goals as goal

pub copy_bytes-requires : goal.copy_bytes-requires
copy_bytes-requires c =
    as_long (memory_size c.args.kind) (element_size c.args.kind) (length c.args.z.now) (length c.args.bytes.now) c.requires.same
    c.requires.whole c.requires.bytes

pub returns : goal.returns
returns c =
    c.copy_bytes.ensures
    ∙ copied c.args.kind c.args.z.now c.args.bytes.now c.requires.same c.requires.unsigned c.requires.whole
    (as_long (memory_size c.args.kind) (element_size c.args.kind) (length c.args.z.now) (length c.args.bytes.now) c.requires.same
    c.requires.whole c.requires.bytes)
    c.type_inv.bytes
