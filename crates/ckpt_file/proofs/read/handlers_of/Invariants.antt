use Rattle.std.proofs.Common.{◌≡◌, All, map, take}
use Rattle.kernel_contexts.specs.LooseState.{handler_entry}
use Rattle.ckpt_fields.specs.Values.{handler_said}
use Rattle.ckpt_file.specs.Loose.{IsNarrowEntry}
use Rattle.ckpt_file.proofs.read.handlers_of.Given as goal

abbrev pub invariant-loop-handler : goal.invariant-loop-handler
invariant-loop-handler l = record {
  same : map handler_entry l.list.items ≡ map handler_said (take l.handler-index l.handlers);
  narrow : All IsNarrowEntry l.list.items;
}
