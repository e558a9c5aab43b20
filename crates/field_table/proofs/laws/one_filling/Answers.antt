use Rattle.field_table.proofs.Tables.{filled_reads, reads_filled, one_filling}
use Rattle.field_table.proofs.laws.one_filling.Goals as goal

pub returns-clause-reads : goal.returns-clause-reads
returns-clause-reads c table values at h = filled_reads table values at h

pub returns-clause-filled : goal.returns-clause-filled
returns-clause-filled c table bytes at h = reads_filled table bytes at h

pub returns-clause-one : goal.returns-clause-one
returns-clause-one c table values others h k e = one_filling table values others h k e
