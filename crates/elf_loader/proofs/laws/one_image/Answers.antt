use Rattle.elf_loader.proofs.Images.{one_program}
use Rattle.elf_loader.proofs.laws.one_image.Goals as goal

pub returns : goal.returns
returns c = one_program
