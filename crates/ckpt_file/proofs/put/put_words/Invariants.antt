use Rattle.std.proofs.Common.{take}
use Rattle.ckpt_fields.specs.Values.{words}
use Rattle.ckpt_file.specs.Putting.{IsPut}
use Rattle.ckpt_file.proofs.put.put_words.Given as goal

abbrev pub invariant-loop-number : goal.invariant-loop-number
invariant-loop-number l = IsPut (words (take l.number-index l.numbers)) l.initial.out.items l.out.items
