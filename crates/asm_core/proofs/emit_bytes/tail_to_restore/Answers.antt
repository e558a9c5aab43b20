use Rattle.std.proofs.Common.{◌≡◌, ℕ, List, refl, sym, ap, ◌∙◌, subst}
use Rattle.std.specs.Prelude.{slice_set}
use Rattle.std.proofs.lemmas.Result.{err_from_is_err_and}
use Rattle.sm_types.specs.Routines.{tail_words}
use Rattle.asm_core.specs.Assembly.{MeansOne}
use Rattle.asm_core.specs.Emitted.{names_by}
use Rattle.asm_core.proofs.HasWords.{call_meant}
use Rattle.asm_core.proofs.RoutineWords.{tail_fault, tail_resolved, tail_mean, call_in}
use Rattle.asm_core.proofs.emit_bytes.tail_to_restore.Goals as goal

pub resolve_target-requires-clause-meant : goal.resolve_target-requires-clause-meant
resolve_target-requires-clause-meant c =
    rw (c.call_tail-words.ensures.ahead 0 refl, c.name_of.ensures) call_meant

pub returns-in_err-words-clause-err : goal.returns-in_err-words-clause-err
returns-in_err-words-clause-err c =
    let T = c.args.addresses.now.text_size in
    let names = names_by c.args.addresses.now in
    let e = err_from_is_err_and c.from_residual.result c.from_residual.ensures.1 in
    let fault = rw (c.call_tail-words.ensures.ahead 0 refl, c.name_of.ensures) at c.in_err-words.ensures.err in
    rw (e.1, e.2) (tail_fault T names c.args.number c.args.from ∙ fault)

pub returns-clause-ok : goal.returns-clause-ok
returns-clause-ok c =
    let T = c.args.addresses.now.text_size in
    let names = names_by c.args.addresses.now in
    let none = rw (c.call_tail-words.ensures.ahead 0 refl, c.name_of.ensures) at c.in_ok-words.ensures.ok in
    tail_fault T names c.args.number c.args.from ∙ none

pub returns-clause-words : goal.returns-clause-words
returns-clause-words c =
    let T = c.args.addresses.now.text_size in
    let names = names_by c.args.addresses.now in
    let value : c.in_ok-words.field-0 ≡ call_in T names c.args.from =
    rw (c.call_tail-words.ensures.ahead 0 refl, c.name_of.ensures) at c.in_ok-words.ensures.value in
    ap (λ (ws : List ℕ). slice_set ws 4 c.in_ok-words.field-0) (c.call_tail-words.ensures.ahead 0 refl)
    ∙ ap tail_words value ∙ sym (tail_resolved T names c.args.from)

pub returns-clause-mean : goal.returns-clause-mean
returns-clause-mean c =
    let T = c.args.addresses.now.text_size in
    let names = names_by c.args.addresses.now in
    let value : c.in_ok-words.field-0 ≡ call_in T names c.args.from =
    rw (c.call_tail-words.ensures.ahead 0 refl, c.name_of.ensures) at c.in_ok-words.ensures.value in
    tail_mean T names c.args.from
    (subst MeansOne value (record { is_word = c.in_ok-words.ensures.small; means = c.in_ok-words.ensures.means }))
