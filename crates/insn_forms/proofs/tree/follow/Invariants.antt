use Rattle.std.proofs.Common.{◌≡◌, ◌-◌}
use Rattle.insn_forms.specs.Tree.{walk}
use Rattle.insn_forms.proofs.tree.follow.Given as goal

abbrev pub invariant-steps : goal.invariant-steps
invariant-steps l = walk (l.steps - l._step) l.nodes l.at l.word ≡ walk l.steps l.nodes l.start l.word
