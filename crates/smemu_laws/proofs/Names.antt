-- Each name that words give a command is that of a file which it names.
use Rattle.std.proofs.Common.{◌≡◌, ℕ, List, [], ◌∷◌, Some, refl, subst, drop}
use Rattle.cmd_words.specs.Forms.{form_of}
use Rattle.cmd_words.specs.Words.{Request, arguments_of, command_of}
use Rattle.cmd_words.specs.declared.verb.Verb.{Verb}
use Rattle.cmd_words.specs.declared.verb.Verb.TheVariants.{Sim, Replay, Debug, Ckpt, Resume, AbiCheck}
use Rattle.smemu.specs.Requests.{files_named, kinds_of, named_by}
use Rattle.smemu.proofs.Words.{asked_for}
use Rattle.smemu_laws.specs.Names.{names_of, names_said}

-- of the words after a command
named_so : (verb : Verb) (words : List (List ℕ))
    → names_of (named_by (arguments_of (form_of verb).operands words) (kinds_of verb))
    ≡ names_said (arguments_of (form_of verb).operands words)
named_so Sim [] = refl
named_so Sim (program ∷ []) = refl
named_so Sim (program ∷ plan ∷ words) = refl
named_so Replay [] = refl
named_so Replay (program ∷ []) = refl
named_so Replay (program ∷ report ∷ []) = refl
named_so Replay (program ∷ report ∷ thread ∷ words) = refl
named_so Debug [] = refl
named_so Debug (program ∷ []) = refl
named_so Debug (program ∷ report ∷ []) = refl
named_so Debug (program ∷ report ∷ thread ∷ []) = refl
named_so Debug (program ∷ report ∷ thread ∷ script ∷ words) = refl
named_so Ckpt [] = refl
named_so Ckpt (program ∷ []) = refl
named_so Ckpt (program ∷ report ∷ []) = refl
named_so Ckpt (program ∷ report ∷ thread ∷ []) = refl
named_so Ckpt (program ∷ report ∷ thread ∷ count ∷ words) = refl
named_so Resume [] = refl
named_so Resume (program ∷ []) = refl
named_so Resume (program ∷ report ∷ []) = refl
named_so Resume (program ∷ report ∷ checkpoint ∷ words) = refl
named_so AbiCheck [] = refl
named_so AbiCheck (program ∷ []) = refl
named_so AbiCheck (program ∷ report ∷ []) = refl
named_so AbiCheck (program ∷ report ∷ thread ∷ words) = refl
named_so verb [] = refl
named_so verb (word ∷ words) = refl

pub all_named : (words : List (List ℕ)) (request : Request) → command_of words ≡ Some request
    → names_of (files_named request) ≡ names_said request.operands
all_named words request e =
    let asked = asked_for words request e in
    subst (λ (r : Request). names_of (files_named r) ≡ names_said r.operands) asked.1 (named_so asked.0 (drop 1 words))
