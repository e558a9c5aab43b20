use Rattle.std.proofs.Common.{take}
use Rattle.ckpt_fields.specs.Values.{doublewords}
use Rattle.ckpt_file.specs.Putting.{IsPut}
use Rattle.ckpt_file.proofs.put.put_doublewords.Given as goal

abbrev pub invariant-loop-number : goal.invariant-loop-number
invariant-loop-number l = IsPut (doublewords (take l.number-index l.numbers)) l.initial.out.items l.out.items
