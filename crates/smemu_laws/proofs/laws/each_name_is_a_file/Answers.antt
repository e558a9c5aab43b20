use Rattle.smemu_laws.proofs.Names.{all_named}
use Rattle.smemu_laws.proofs.laws.each_name_is_a_file.Goals as goal

pub returns : goal.returns
returns c = all_named
