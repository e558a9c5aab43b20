use Rattle.kernel_contexts.proofs.LooseParts.{nzcv_back}
use Rattle.kernel_contexts.proofs.guest.state.scalars_of.Goals as goal

pub returns-clause-nzcv : goal.returns-clause-nzcv
returns-clause-nzcv c =
    nzcv_back c.args.state.now.nzcv _ c.requires.flags c.requires.word c.bit.ensures c.bit-2.ensures c.bit-3.ensures c.bit-4.ensures
