use Rattle.smemu_laws.proofs.Commands.{is_read}
use Rattle.smemu_laws.proofs.Resumed.{same_block, same_difference, same_ends, same_partings}
use Rattle.smemu_laws.proofs.laws.resumes_as_replays.Goals as goal

pub returns-clause-read : goal.returns-clause-read
returns-clause-read c file report bytes thread count checkpoint within = is_read file report thread count bytes checkpoint within

pub returns-clause-block : goal.returns-clause-block
returns-clause-block c file report bytes text thread count checkpoint = same_block file report thread count bytes text checkpoint

pub returns-clause-differs : goal.returns-clause-differs
returns-clause-differs c file report bytes text thread count checkpoint rest =
    same_difference file report thread count bytes text checkpoint rest

pub returns-clause-ends : goal.returns-clause-ends
returns-clause-ends c file report bytes thread count state stop checkpoint rest =
    same_ends file report thread count bytes checkpoint rest state stop

pub returns-clause-parts : goal.returns-clause-parts
returns-clause-parts c file report bytes thread count fault checkpoint rest =
    same_partings file report thread count bytes checkpoint rest fault
