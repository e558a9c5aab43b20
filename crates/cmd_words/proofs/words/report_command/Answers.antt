use Rattle.std.proofs.Common.{map, length, [], ◌∷◌, refl, sym, arith}
use Rattle.std.specs.String.{string_bytes}
use Rattle.std.proofs.lemmas.List.{length-map}
use Rattle.cmd_words.specs.Forms.{form_of}
use Rattle.cmd_words.specs.Options.{default_options}
use Rattle.cmd_words.specs.Words.{NameSaid, ThreadSaid, CountSaid}
use Rattle.cmd_words.specs.declared.form.Operand.TheVariants.{Thread, Count}
use Rattle.cmd_words.specs.declared.verb.Verb.TheVariants.{Replay, Debug, Ckpt, Resume, AbiCheck}
use Rattle.cmd_words.proofs.Reading.{asked_for, counted, debugged, no_options, replayed, resumed}
use Rattle.cmd_words.proofs.Reading.{operand_stands}
use Rattle.cmd_words.proofs.words.report_command.Goals as goal

pub thread_at-requires-clause-number : goal.thread_at-requires-clause-number
thread_at-requires-clause-number c =
    operand_stands (map string_bytes c.args.words.now) (form_of Replay) c.args.given.now (length c.args.words.now) 2 Thread
    (rw c.in-Replay.is at c.requires.read) refl (omega arith)

pub returns-in_ok-name_at-in-Replay-2-clause-command : goal.returns-in_ok-name_at-in-Replay-2-clause-command
returns-in_ok-name_at-in-Replay-2-clause-command c =
    let words = map string_bytes c.args.words.now in
    let program = string_bytes c.in_ok-name_at-in-Replay.field-0 in
    let report = string_bytes c.in_ok-name_at-in-Replay-2.field-0 in
    asked_for words c.args.given.now Replay (NameSaid program ∷ NameSaid report ∷ ThreadSaid c.thread_at.result ∷ []) default_options
    (length c.args.words.now) (sym (length-map c.args.words.now string_bytes)) (rw c.in-Replay.is at c.requires.read)
    (rw c.in-Replay.is at c.requires.verb)
    (replayed words program report c.thread_at.result c.in_ok-name_at-in-Replay.ensures.ok c.in_ok-name_at-in-Replay-2.ensures.ok
    c.thread_at.ensures.number) (no_options Replay words refl)

pub thread_at-requires-in-Debug-clause-number : goal.thread_at-requires-in-Debug-clause-number
thread_at-requires-in-Debug-clause-number c =
    operand_stands (map string_bytes c.args.words.now) (form_of Debug) c.args.given.now (length c.args.words.now) 2 Thread
    (rw c.in-Debug.is at c.requires.read) refl (omega arith)

pub returns-in_ok-name_at-in-Debug-3-clause-command : goal.returns-in_ok-name_at-in-Debug-3-clause-command
returns-in_ok-name_at-in-Debug-3-clause-command c =
    let words = map string_bytes c.args.words.now in
    let program = string_bytes c.in_ok-name_at-in-Debug.field-0 in
    let report = string_bytes c.in_ok-name_at-in-Debug-2.field-0 in
    let script = string_bytes c.in_ok-name_at-in-Debug-3.field-0 in
    let thread = c.thread_at-in-Debug.result in
    asked_for words c.args.given.now Debug (NameSaid program ∷ NameSaid report ∷ ThreadSaid thread ∷ NameSaid script ∷ [])
    default_options (length c.args.words.now) (sym (length-map c.args.words.now string_bytes)) (rw c.in-Debug.is at c.requires.read)
    (rw c.in-Debug.is at c.requires.verb)
    (debugged words program report thread script c.in_ok-name_at-in-Debug.ensures.ok c.in_ok-name_at-in-Debug-2.ensures.ok
    c.thread_at-in-Debug.ensures.number c.in_ok-name_at-in-Debug-3.ensures.ok) (no_options Debug words refl)

pub thread_at-requires-in-Ckpt-clause-number : goal.thread_at-requires-in-Ckpt-clause-number
thread_at-requires-in-Ckpt-clause-number c =
    operand_stands (map string_bytes c.args.words.now) (form_of Ckpt) c.args.given.now (length c.args.words.now) 2 Thread
    (rw c.in-Ckpt.is at c.requires.read) refl (omega arith)

pub count_at-requires-clause-number : goal.count_at-requires-clause-number
count_at-requires-clause-number c =
    operand_stands (map string_bytes c.args.words.now) (form_of Ckpt) c.args.given.now (length c.args.words.now) 3 Count
    (rw c.in-Ckpt.is at c.requires.read) refl (omega arith)

pub returns-in_ok-name_at-in-Ckpt-2-clause-command : goal.returns-in_ok-name_at-in-Ckpt-2-clause-command
returns-in_ok-name_at-in-Ckpt-2-clause-command c =
    let words = map string_bytes c.args.words.now in
    let program = string_bytes c.in_ok-name_at-in-Ckpt.field-0 in
    let report = string_bytes c.in_ok-name_at-in-Ckpt-2.field-0 in
    let thread = c.thread_at-in-Ckpt.result in
    asked_for words c.args.given.now Ckpt (NameSaid program ∷ NameSaid report ∷ ThreadSaid thread ∷ CountSaid c.count_at.result ∷ [])
    default_options (length c.args.words.now) (sym (length-map c.args.words.now string_bytes)) (rw c.in-Ckpt.is at c.requires.read)
    (rw c.in-Ckpt.is at c.requires.verb)
    (counted words program report thread c.count_at.result c.in_ok-name_at-in-Ckpt.ensures.ok c.in_ok-name_at-in-Ckpt-2.ensures.ok
    c.thread_at-in-Ckpt.ensures.number c.count_at.ensures) (no_options Ckpt words refl)

pub returns-in_ok-name_at-in-Resume-3-clause-command : goal.returns-in_ok-name_at-in-Resume-3-clause-command
returns-in_ok-name_at-in-Resume-3-clause-command c =
    let words = map string_bytes c.args.words.now in
    let program = string_bytes c.in_ok-name_at-in-Resume.field-0 in
    let report = string_bytes c.in_ok-name_at-in-Resume-2.field-0 in
    let checkpoint = string_bytes c.in_ok-name_at-in-Resume-3.field-0 in
    asked_for words c.args.given.now Resume (NameSaid program ∷ NameSaid report ∷ NameSaid checkpoint ∷ []) default_options
    (length c.args.words.now) (sym (length-map c.args.words.now string_bytes)) (rw c.in-Resume.is at c.requires.read)
    (rw c.in-Resume.is at c.requires.verb)
    (resumed words program report checkpoint c.in_ok-name_at-in-Resume.ensures.ok c.in_ok-name_at-in-Resume-2.ensures.ok
    c.in_ok-name_at-in-Resume-3.ensures.ok) (no_options Resume words refl)

pub thread_at-requires-in-AbiCheck-clause-number : goal.thread_at-requires-in-AbiCheck-clause-number
thread_at-requires-in-AbiCheck-clause-number c =
    operand_stands (map string_bytes c.args.words.now) (form_of AbiCheck) c.args.given.now (length c.args.words.now) 2 Thread
    (rw c.in-AbiCheck.is at c.requires.read) refl (omega arith)

pub returns-in_ok-name_at-in-AbiCheck-2-clause-command : goal.returns-in_ok-name_at-in-AbiCheck-2-clause-command
returns-in_ok-name_at-in-AbiCheck-2-clause-command c =
    let words = map string_bytes c.args.words.now in
    let program = string_bytes c.in_ok-name_at-in-AbiCheck.field-0 in
    let report = string_bytes c.in_ok-name_at-in-AbiCheck-2.field-0 in
    let thread = c.thread_at-in-AbiCheck.result in
    asked_for words c.args.given.now AbiCheck (NameSaid program ∷ NameSaid report ∷ ThreadSaid thread ∷ []) default_options
    (length c.args.words.now) (sym (length-map c.args.words.now string_bytes)) (rw c.in-AbiCheck.is at c.requires.read)
    (rw c.in-AbiCheck.is at c.requires.verb)
    (replayed words program report thread c.in_ok-name_at-in-AbiCheck.ensures.ok c.in_ok-name_at-in-AbiCheck-2.ensures.ok
    c.thread_at-in-AbiCheck.ensures.number) (no_options AbiCheck words refl)
