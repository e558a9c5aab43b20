-- The bytes of a part of a text.
use Rattle.std.specs.Prelude.{ℕ, ◌-◌, List, drop, take}
use Rattle.smemu.specs.declared.excerpt.Excerpt.{Excerpt}

abbrev pub excerpt_text : Excerpt → List ℕ
excerpt_text it = take (it.end - it.start) (drop it.start it.text.items)
