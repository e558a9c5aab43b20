use Rattle.std.proofs.Common.{◌≡◌, true, Option, None, Some, sym, ◌∙◌, ap}
use Rattle.std.specs.Prelude.{option_map}
use Rattle.sm_types.specs.Options.{are_taken, if_taken, numbers_of}
use Rattle.sm_types.specs.declared.numbers.Numbers.{Numbers}
use Rattle.cmd_words.proofs.Reading.{numbers_taken}
use Rattle.cmd_words.proofs.given.Given.config.Goals as goal

not_refused : (numbers : Numbers) → are_taken numbers ≡ true → ◌≡◌ {A = Option Numbers} None (if_taken numbers) → ⊥
not_refused numbers taken refused =
    let some : ◌≡◌ {A = Option Numbers} None (Some numbers) = rw taken at refused in
    cc

pub unreachable-requires : goal.unreachable-requires
unreachable-requires c =
    not_refused c.numbers.result (ap are_taken c.numbers.ensures ∙ numbers_taken c.args.self.now c.requires)
    (ap (option_map numbers_of) (sym c.in-None.is) ∙ c.of.ensures)
