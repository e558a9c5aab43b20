use Rattle.insn_text.proofs.Citing.{all_cited, all_have_room, all_in_order}
use Rattle.insn_text.proofs.Complete.{all_aliases, all_own}
use Rattle.insn_text.proofs.VectorCiting.{all_templates}
use Rattle.insn_text.proofs.laws.texts_are_those_of_rows.Goals as goal

pub returns-clause-cited : goal.returns-clause-cited
returns-clause-cited c = all_cited

pub returns-clause-room : goal.returns-clause-room
returns-clause-room c = all_have_room

pub returns-clause-order : goal.returns-clause-order
returns-clause-order c = all_in_order

pub returns-clause-aliases : goal.returns-clause-aliases
returns-clause-aliases c = all_aliases

pub returns-clause-own : goal.returns-clause-own
returns-clause-own c = all_own

pub returns-clause-vectors : goal.returns-clause-vectors
returns-clause-vectors c = all_templates
