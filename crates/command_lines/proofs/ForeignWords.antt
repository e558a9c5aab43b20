-- Words without a fault of which the one after these is no text.
use Rattle.std.proofs.Common.{◌≡◌, List, length, map, Option, Some, None, ap, ◌∙◌, arith, Global, String}
use Rattle.std.proofs.lemmas.Grind.{common_steps}
use Rattle.std.specs.String.{string_bytes}
use Rattle.plain_lemmas.proofs.Options.{IsSome_from}
use Rattle.cmd_words.specs.Words.{Fault, Request, usage_fault, command_of}
use Rattle.cmd_words.specs.declared.command.UsageKind.TheVariants.{Unknown}
use Rattle.cmd_words.proofs.Law.{reading}
use Rattle.command_lines.specs.Foreign.{earlier_fault, foreign_fault}

pub sound_words : (words : List (String Global)) (request : Request) → command_of (map string_bytes words) ≡ Some request
    → foreign_fault (map string_bytes words) ≡ record { place = length words; kind = Unknown }
sound_words words request e =
    let none : usage_fault (map string_bytes words) ≡ None =
    (reading (map string_bytes words)).0 (IsSome_from (command_of (map string_bytes words)) request e) in
    let size : length (map string_bytes words) ≡ length words = grind (arith, common_steps) in
    ap (λ (fault : Option Fault). earlier_fault fault (length (map string_bytes words))) none ∙ ap (earlier_fault None) size
