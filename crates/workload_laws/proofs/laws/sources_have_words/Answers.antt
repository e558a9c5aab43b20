use Rattle.workload_laws.proofs.ObjectWords.{has_words}
use Rattle.workload_laws.proofs.Sources.{source_said}
use Rattle.workload_laws.proofs.laws.sources_have_words.Goals as goal

pub returns-clause-says : goal.returns-clause-says
returns-clause-says c = source_said

pub returns-clause-object : goal.returns-clause-object
returns-clause-object c = has_words
