use Rattle.std.proofs.Common.{◌+◌, ◌≤◌}
use Rattle.asm_core.specs.Code.{code_words}
use Rattle.asm_core.specs.Layout.{here, size_of}
use Rattle.asm_core.proofs.symbols.put_names.Goals as goal

pub put_routine-requires-clause-here : goal.put_routine-requires-clause-here
unfolding size_of code_words
put_routine-requires-clause-here c =
    let fits : here c.args.counter.now + 224 ≤ 4194304 = rw c.in-SupportRoutines.is at c.requires.fits in fits

pub put_routine-requires-in-SupportRoutines-clause-here : goal.put_routine-requires-in-SupportRoutines-clause-here
unfolding size_of code_words
put_routine-requires-in-SupportRoutines-clause-here c =
    let fits : here c.args.counter.now + 224 ≤ 4194304 = rw c.in-SupportRoutines.is at c.requires.fits in fits

pub put_routine-requires-in-SupportRoutines-2-clause-here : goal.put_routine-requires-in-SupportRoutines-2-clause-here
unfolding size_of code_words
put_routine-requires-in-SupportRoutines-2-clause-here c =
    let fits : here c.args.counter.now + 224 ≤ 4194304 = rw c.in-SupportRoutines.is at c.requires.fits in fits
