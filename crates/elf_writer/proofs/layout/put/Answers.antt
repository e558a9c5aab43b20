use Rattle.std.proofs.Common.{ap, ◌∙◌, ◌++◌, take}
use Rattle.byteorder.proofs.Bytes.{take-bytes_low_first}
use Rattle.elf_writer.proofs.layout.put.Goals as goal

pub returns : goal.returns
returns c =
    c.in_ok-extend_from_slice.ensures.items ∙ ap (λ x. c.args.out.now.items ++ x)
    (ap (take c.args.width) c.to_le_bytes-bytes.ensures ∙ take-bytes_low_first 0 8 c.args.width c.args.value c.requires)
