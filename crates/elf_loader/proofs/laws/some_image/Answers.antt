use Rattle.elf_loader.proofs.Images.{some_program}
use Rattle.elf_loader.proofs.laws.some_image.Goals as goal

pub returns : goal.returns
returns c = some_program
