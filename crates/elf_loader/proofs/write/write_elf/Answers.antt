use Rattle.std.proofs.Common.{sym, subst, List, ℕ}
use Rattle.elf_loader.specs.Objects.{IsFileOf}
use Rattle.elf_loader.proofs.Written.{file-written}
use Rattle.elf_loader.proofs.write.write_elf.Goals as goal

pub returns-in-Ok : goal.returns-in-Ok
returns-in-Ok c = subst (λ (f : List ℕ). IsFileOf c.args.object.now f) (sym c.in-Ok.ensures) (file-written c.args.object.now c.requires)
