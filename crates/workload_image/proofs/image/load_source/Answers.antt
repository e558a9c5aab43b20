use Rattle.std.proofs.Common.{ℕ, List, IfOk, Result, Ok, Err}
use Rattle.sm_types.specs.declared.object.Object.{Object}
use Rattle.paged_memory.specs.Image.{Program}
use Rattle.asm_core.specs.Assembly.{Assembles}
use Rattle.elf_loader.specs.Objects.{IsObjectImage}
use Rattle.workload_image.specs.Image.{IsImageOf}
use Rattle.workload_image.proofs.image.load_source.Goals as goal

of_source : {E : Type 0} (source : List ℕ) (object : Object) (r : Result Program E) → Assembles source object
    → IfOk r (λ image. IsObjectImage object image) → IfOk r (λ image. IsImageOf source image)
of_source source object (Ok image) a h = record { object = object; assembles = a; image = h }
of_source source object (Err e) a h = tt

pub returns : goal.returns
returns c = of_source _ _ _ c.in_ok-object.ensures.assembles c.image_of.ensures
