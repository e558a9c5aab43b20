use Rattle.scalar_exec.specs.Flat.{flat_insn, flat_rest}
use Rattle.scalar_exec.proofs.Flats.{row_of, steps_of, rests_of}
use Rattle.scalar_exec.proofs.flat.flat_means.Goals as goal

pub returns-clause-row : goal.returns-clause-row
returns-clause-row c flat it is h = row_of (flat_insn flat) (flat_rest flat it) it is h

pub returns-clause-steps : goal.returns-clause-steps
returns-clause-steps c flat it base at next old new is h =
    steps_of (flat_insn flat) (flat_rest flat it) it base at next old new is h

pub returns-clause-rests : goal.returns-clause-rests
returns-clause-rests c flat base at old new h = rests_of (flat_insn flat) base at old new h
