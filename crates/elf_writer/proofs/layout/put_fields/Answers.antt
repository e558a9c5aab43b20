use Rattle.elf_writer.proofs.Fields.{narrow_at}
use Rattle.elf_writer.proofs.layout.put_fields.Goals as goal

pub put-requires : goal.put-requires
put-requires c = narrow_at c.args.fields.now c.loop-field.field-index (0, 0) c.requires c.loop-field-test.true
