use Rattle.std.proofs.Common.{take}
use Rattle.std.specs.List.{flat_map}
use Rattle.kernel_contexts.specs.HandlerTable.{set_from}
use Rattle.ckpt_fields.specs.Values.{handler_value}
use Rattle.ckpt_file.specs.Putting.{IsPut}
use Rattle.ckpt_file.proofs.write.put_handlers.Given as goal

abbrev pub invariant-loop-signal : goal.invariant-loop-signal
invariant-loop-signal l =
    IsPut (flat_map handler_value (set_from 0 (take l.signal l.addresses))) l.initial.out.items l.out.items
