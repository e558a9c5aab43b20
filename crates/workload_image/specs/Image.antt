-- The image of a source. Source: this project's own.
use Rattle.std.specs.Prelude.{ℕ, List}
use Rattle.sm_types.specs.declared.object.Object.{Object}
use Rattle.paged_memory.specs.Image.{Program}
use Rattle.asm_core.specs.Assembly.{Assembles}
use Rattle.elf_loader.specs.Objects.{IsObjectImage}

-- the program is the image of the object to which the source is assembled
pub record IsImageOf (source : List ℕ) (program : Program) : Type 0 where
  pub object : Object
  pub assembles : Assembles source object
  pub image : IsObjectImage object program
