-- The image of an object.
-- Source: ELF-64 Object File Format, PT_LOAD with p_flags (PF_X 1, PF_W 2, PF_R 4); where the parts stand
-- is this project's own.
use Rattle.std.specs.Prelude.{◌≡◌, ℕ, List, [], ◌∷◌, length, cond, ◌==◌}
use Rattle.sm_types.specs.declared.object.Object.{Object}
use Rattle.sm_types.specs.Objects.{text_address, data_address, object_code}
use Rattle.paged_memory.specs.Image.{Extent, Program, IsMemoryOf}
use Rattle.elf_loader.specs.Loading.{Loads}

-- the text, which can be read and executed
unfoldable pub text_extent : Object → Extent
text_extent o =
    record { address = text_address; size = length o.text_bytes.items; flags = 5; bytes = o.text_bytes.items }

-- the data, which can be read and written
unfoldable pub data_extent : Object → Extent
data_extent o =
    record {
      address = data_address (length o.text_bytes.items);
      size = length o.data_bytes.items;
      flags = 6;
      bytes = o.data_bytes.items;
    }

-- the parts of an object in memory; an empty one is none
unfoldable pub object_extents : Object → List Extent
object_extents o = text_extent o ∷ cond (length o.data_bytes.items == 0) [] (data_extent o ∷ [])

-- the program is the image of the object
pub record IsObjectImage (o : Object) (program : Program) : Type 0 where
  pub memory : IsMemoryOf (object_extents o) program.memory
  pub entry_is : program.entry ≡ o.entry
  pub code_is : program.code ≡ object_code o

-- the file is loaded, as the image of the object
pub record IsFileOf (o : Object) (file : List ℕ) : Type 0 where
  pub program : Program
  pub loads : Loads file program
  pub image : IsObjectImage o program
