use Rattle.std.proofs.Common.{rules, ◌+◌, ◌∷◌, ◌++◌, [], map, not, sym, ap, ◌∙◌}
use Rattle.std.specs.Prelude.{if◌then◌else◌}
use Rattle.std.proofs.lemmas.List.{map-append}
use Rattle.line_reader.specs.Told.{words_ahead}
use Rattle.vector_runner.specs.Field.{modes_after}
use Rattle.vector_runner.specs.Told.{field_told}
use Rattle.vector_runner.specs.Words.{fields_in}
use Rattle.vector_runner.proofs.Said.{ahead, field_read, fields_end, field_outside}
use Rattle.vector_runner.proofs.line.read_fields.Goals as goal

pub words-preserved : goal.words-preserved
words-preserved c =
    let f = field_told c.in_ok-field.field in
    let left = words_ahead c.next.new.self in
    let before = map field_told c.words.fields.items in
    let ok = c.is_err.ensures.negation ∙ ap not c.if-is_err.false in
    let made = c.push.ensures.items ∙ ap (λ b. if b then c.words.fields.items ++ c.in_ok-field.field ∷ [] else c.words.fields.items) ok in
    let items = ap (map field_told) made ∙ map-append field_told c.words.fields.items (c.in_ok-field.field ∷ []) in
    ap (λ l. ahead l (fields_in c.args.vl c.args.svl c.modes_after-modes.result (c.rank-least.result + 1) left)) items
    ∙ ap (λ m. ahead (before ++ f ∷ []) (fields_in c.args.vl c.args.svl m (c.rank-least.result + 1) left)) c.modes_after-modes.ensures
    ∙ ap (λ n. ahead (before ++ f ∷ []) (fields_in c.args.vl c.args.svl (modes_after c.words.modes f) (n + 1) left)) c.rank-least.ensures.is
    ∙ field_read c.args.vl c.args.svl c.words.modes c.words.least before c.in-Some.word.now left f c.in_ok-field.ensures
    ∙ ap (λ ws. ahead before (fields_in c.args.vl c.args.svl c.words.modes c.words.least ws)) (sym c.in-Some.ensures)
    ∙ c.words.invariant

pub returns-in_err-field : goal.returns-in_err-field
returns-in_err-field c =
    let left = words_ahead c.next.new.self in
    let before = map field_told c.words.fields.items in
    let it = c.in_err-field.field-0.0 in
    let bad = field_outside c.args.vl c.args.svl c.words.modes c.words.least before c.in-Some.word.now left it _ c.in_err-field.ensures
    (ap (λ ws. ahead before (fields_in c.args.vl c.args.svl c.words.modes c.words.least ws)) (sym c.in-Some.ensures) ∙ c.words.invariant) in
    search rules

pub returns : goal.returns
returns c =
    sym c.words.invariant
    ∙ ap (λ ws. ahead (map field_told c.words.fields.items)
    (fields_in c.args.vl c.args.svl c.words.modes c.words.least ws)) c.in_default.ensures
    ∙ fields_end c.args.vl c.args.svl c.words.modes c.words.least (map field_told c.words.fields.items)
