-- What a run hands out.
use Rattle.std.specs.Prelude.{◌≡◌, ◌≢◌, true, None}
use Rattle.sm_types.specs.declared.config.Config.{Config}
use Rattle.paged_memory.specs.Image.{Program}
use Rattle.kernel_contexts.specs.declared.context.Context.{Context}
use Rattle.kernel_contexts.specs.Context.{image_of, config_of, stop_of, is_home, IsRun}

-- a context of this image and these options has stopped, where its thread stops alone over its journal
pub record IsAtItsStop (image : Program) (config : Config) (c : Context) : Type 0 where
  pub image_is : image_of c ≡ image
  pub options : config_of c ≡ config
  pub home : is_home c ≡ true
  pub stopped : stop_of c ≢ None
  pub run : IsRun c
