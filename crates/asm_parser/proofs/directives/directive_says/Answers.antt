use Rattle.std.proofs.Common.{ℕ, List, ◌-◌, ◌^◌, ◌∙◌, ap, true, Ok}
use Rattle.std.proofs.lemmas.List.{map-id}
use Rattle.std.proofs.lemmas.Result.{err_from_is_err_and}
use Rattle.asm_tokens.specs.Characters.{column_at}
use Rattle.asm_parser.specs.Statements.{IntoText, IntoData, Quads, Words, Bytes, Zeros, Aligns, Globals, Codes, SupportRoutines, CallTail}
use Rattle.asm_parser.specs.Lines.{ends, one_number, one_name, values_from, number_value, quad_value, directive_says, QuadDirective}
use Rattle.asm_parser.specs.Lines.{WordDirective, ByteDirective, ZeroDirective, AlignDirective, GlobalDirective, TextDirective}
use Rattle.asm_parser.specs.Lines.{DataDirective, AbiDirective, TailDirective}
use Rattle.asm_parser.specs.Told.{said_from}
use Rattle.asm_parser.proofs.Saying.{ends-ok, ends-err, made-ok, made-err, passes_on}
use Rattle.asm_parser.proofs.directives.directive_says.Goals as goal

pub returns-in_err-expect_end-in-Text-clause-said : goal.returns-in_err-expect_end-in-Text-clause-said
unfolding directive_says
returns-in_err-expect_end-in-Text-clause-said c =
    let p = err_from_is_err_and c.from_residual.result c.from_residual.ensures.1 in
    rw (p.1, p.2, c.in-Text.is)
    (passes_on (said_from (ends (tt {0})) c.args.text.now c.args.offset)
    (said_from (directive_says c.args.line.now (column_at c.args.line.now c.args.start) TextDirective) c.args.text.now c.args.offset) c.in_err-expect_end-in-Text.field-0.0
    (λ s e. ends-err (tt {0}) IntoText c.args.text.now c.args.offset s e) c.in_err-expect_end-in-Text.ensures.said)

pub returns-in_err-expect_end-in-Data-clause-said : goal.returns-in_err-expect_end-in-Data-clause-said
unfolding directive_says
returns-in_err-expect_end-in-Data-clause-said c =
    let p = err_from_is_err_and c.from_residual-in_err-expect_end-in-Data.result c.from_residual-in_err-expect_end-in-Data.ensures.1 in
    rw (p.1, p.2, c.in-Data.is)
    (passes_on (said_from (ends (tt {0})) c.args.text.now c.args.offset)
    (said_from (directive_says c.args.line.now (column_at c.args.line.now c.args.start) DataDirective) c.args.text.now c.args.offset) c.in_err-expect_end-in-Data.field-0.0
    (λ s e. ends-err (tt {0}) IntoData c.args.text.now c.args.offset s e) c.in_err-expect_end-in-Data.ensures.said)

pub returns-in_err-values-in-Quad-clause-said : goal.returns-in_err-values-in-Quad-clause-said
unfolding directive_says
returns-in_err-values-in-Quad-clause-said c =
    let p = err_from_is_err_and c.from_residual-in_err-values-in-Quad.result c.from_residual-in_err-values-in-Quad.ensures.1 in
    rw (p.1, p.2, c.in-Quad.is)
    (passes_on (said_from (values_from (quad_value c.args.line.now) true) c.args.text.now c.args.offset)
    (said_from (directive_says c.args.line.now (column_at c.args.line.now c.args.start) QuadDirective) c.args.text.now c.args.offset) c.in_err-values-in-Quad.field-0.0
    (λ s e. made-err Quads (values_from (quad_value c.args.line.now) true) c.args.text.now c.args.offset s e)
    c.in_err-values-in-Quad.ensures)

pub returns-in_err-values-in-Word-clause-said : goal.returns-in_err-values-in-Word-clause-said
unfolding directive_says
returns-in_err-values-in-Word-clause-said c =
    let p = err_from_is_err_and c.from_residual-in_err-values-in-Word.result c.from_residual-in_err-values-in-Word.ensures.1 in
    rw (p.1, p.2, c.in-Word.is)
    (passes_on (said_from (values_from (number_value (2 ^ 32 - 1)) true) c.args.text.now c.args.offset)
    (said_from (directive_says c.args.line.now (column_at c.args.line.now c.args.start) WordDirective) c.args.text.now c.args.offset) c.in_err-values-in-Word.field-0.0
    (λ s e. made-err Words (values_from (number_value (2 ^ 32 - 1)) true) c.args.text.now c.args.offset s e)
    c.in_err-values-in-Word.ensures)

pub returns-in_err-values-in-Byte-clause-said : goal.returns-in_err-values-in-Byte-clause-said
unfolding directive_says
returns-in_err-values-in-Byte-clause-said c =
    let p = err_from_is_err_and c.from_residual-in_err-values-in-Byte.result c.from_residual-in_err-values-in-Byte.ensures.1 in
    rw (p.1, p.2, c.in-Byte.is)
    (passes_on (said_from (values_from (number_value 255) true) c.args.text.now c.args.offset)
    (said_from (directive_says c.args.line.now (column_at c.args.line.now c.args.start) ByteDirective) c.args.text.now c.args.offset) c.in_err-values-in-Byte.field-0.0
    (λ s e. made-err Bytes (values_from (number_value 255) true) c.args.text.now c.args.offset s e) c.in_err-values-in-Byte.ensures)

pub returns-in_err-one_number-in-Zero-clause-said : goal.returns-in_err-one_number-in-Zero-clause-said
unfolding directive_says
returns-in_err-one_number-in-Zero-clause-said c =
    let p = err_from_is_err_and c.from_residual-in_err-one_number-in-Zero.result c.from_residual-in_err-one_number-in-Zero.ensures.1 in
    rw (p.1, p.2, c.in-Zero.is)
    (passes_on (said_from (one_number (2 ^ 64 - 1)) c.args.text.now c.args.offset)
    (said_from (directive_says c.args.line.now (column_at c.args.line.now c.args.start) ZeroDirective) c.args.text.now c.args.offset) c.in_err-one_number-in-Zero.field-0.0
    (λ s e. made-err Zeros (one_number (2 ^ 64 - 1)) c.args.text.now c.args.offset s e) c.in_err-one_number-in-Zero.ensures.said)

pub returns-in_err-one_number-in-Align-clause-said : goal.returns-in_err-one_number-in-Align-clause-said
unfolding directive_says
returns-in_err-one_number-in-Align-clause-said c =
    let p = err_from_is_err_and c.from_residual-in_err-one_number-in-Align.result c.from_residual-in_err-one_number-in-Align.ensures.1 in
    rw (p.1, p.2, c.in-Align.is)
    (passes_on (said_from (one_number 12) c.args.text.now c.args.offset)
    (said_from (directive_says c.args.line.now (column_at c.args.line.now c.args.start) AlignDirective) c.args.text.now c.args.offset) c.in_err-one_number-in-Align.field-0.0
    (λ s e. made-err Aligns (one_number 12) c.args.text.now c.args.offset s e) c.in_err-one_number-in-Align.ensures.said)

pub returns-in_err-one_name-in-Global-clause-said : goal.returns-in_err-one_name-in-Global-clause-said
unfolding directive_says
returns-in_err-one_name-in-Global-clause-said c =
    let p = err_from_is_err_and c.from_residual-in_err-one_name-in-Global.result c.from_residual-in_err-one_name-in-Global.ensures.1 in
    rw (p.1, p.2, c.in-Global.is)
    (passes_on (said_from (one_name c.args.line.now) c.args.text.now c.args.offset)
    (said_from (directive_says c.args.line.now (column_at c.args.line.now c.args.start) GlobalDirective) c.args.text.now c.args.offset) c.in_err-one_name-in-Global.field-0.0
    (λ s e. made-err Globals (one_name c.args.line.now) c.args.text.now c.args.offset s e) c.in_err-one_name-in-Global.ensures.said)

pub returns-in_ok-expect_end-in-Text-clause-said : goal.returns-in_ok-expect_end-in-Text-clause-said
unfolding directive_says
returns-in_ok-expect_end-in-Text-clause-said c =
    rw c.in-Text.is (ends-ok (tt {0}) IntoText c.args.text.now c.args.offset c.in_ok-expect_end-in-Text.ensures.said)

pub returns-in_ok-expect_end-in-Data-clause-said : goal.returns-in_ok-expect_end-in-Data-clause-said
unfolding directive_says
returns-in_ok-expect_end-in-Data-clause-said c =
    rw c.in-Data.is (ends-ok (tt {0}) IntoData c.args.text.now c.args.offset c.in_ok-expect_end-in-Data.ensures.said)

pub returns-in_ok-values-in-Quad-clause-said : goal.returns-in_ok-values-in-Quad-clause-said
unfolding directive_says
returns-in_ok-values-in-Quad-clause-said c =
    rw c.in-Quad.is (made-ok Quads (values_from (quad_value c.args.line.now) true) c.args.text.now c.args.offset _
    c.in_ok-values-in-Quad.ensures)

pub returns-in_ok-values-in-Word-clause-said : goal.returns-in_ok-values-in-Word-clause-said
unfolding directive_says
returns-in_ok-values-in-Word-clause-said c =
    rw c.in-Word.is (made-ok Words (values_from (number_value (2 ^ 32 - 1)) true) c.args.text.now c.args.offset _
    c.in_ok-values-in-Word.ensures
    ∙ ap (λ (ns : List ℕ). Ok (Words ns)) (map-id c.in_ok-values-in-Word.field-0.items))

pub returns-in_ok-values-in-Byte-clause-said : goal.returns-in_ok-values-in-Byte-clause-said
unfolding directive_says
returns-in_ok-values-in-Byte-clause-said c =
    rw c.in-Byte.is (made-ok Bytes (values_from (number_value 255) true) c.args.text.now c.args.offset _ c.in_ok-values-in-Byte.ensures
    ∙ ap (λ (ns : List ℕ). Ok (Bytes ns)) (map-id c.in_ok-values-in-Byte.field-0.items))

pub returns-in_ok-one_number-in-Zero-clause-said : goal.returns-in_ok-one_number-in-Zero-clause-said
unfolding directive_says
returns-in_ok-one_number-in-Zero-clause-said c =
    rw c.in-Zero.is (made-ok Zeros (one_number (2 ^ 64 - 1)) c.args.text.now c.args.offset _ c.in_ok-one_number-in-Zero.ensures.said)

pub returns-in_ok-one_number-in-Align-clause-said : goal.returns-in_ok-one_number-in-Align-clause-said
unfolding directive_says
returns-in_ok-one_number-in-Align-clause-said c =
    rw c.in-Align.is (made-ok Aligns (one_number 12) c.args.text.now c.args.offset _ c.in_ok-one_number-in-Align.ensures.said)

pub returns-in_ok-one_name-in-Global-clause-said : goal.returns-in_ok-one_name-in-Global-clause-said
unfolding directive_says
returns-in_ok-one_name-in-Global-clause-said c =
    rw c.in-Global.is (made-ok Globals (one_name c.args.line.now) c.args.text.now c.args.offset _ c.in_ok-one_name-in-Global.ensures.said)

pub returns-in_err-expect_end-in-SmeAbi-clause-said : goal.returns-in_err-expect_end-in-SmeAbi-clause-said
unfolding directive_says
returns-in_err-expect_end-in-SmeAbi-clause-said c =
    let p = err_from_is_err_and c.from_residual-in_err-expect_end-in-SmeAbi.result c.from_residual-in_err-expect_end-in-SmeAbi.ensures.1 in
    let column = column_at c.args.line.now c.args.start in
    rw (p.1, p.2, c.in-SmeAbi.is)
    (passes_on (said_from (ends (tt {0})) c.args.text.now c.args.offset)
    (said_from (directive_says c.args.line.now column AbiDirective) c.args.text.now c.args.offset) c.in_err-expect_end-in-SmeAbi.field-0.0
    (λ s e. ends-err (tt {0}) (Codes SupportRoutines column) c.args.text.now c.args.offset s e) c.in_err-expect_end-in-SmeAbi.ensures.said)

pub returns-in_ok-expect_end-in-SmeAbi-clause-said : goal.returns-in_ok-expect_end-in-SmeAbi-clause-said
unfolding directive_says
returns-in_ok-expect_end-in-SmeAbi-clause-said c =
    let column = column_at c.args.line.now c.args.start in
    rw (c.in-SmeAbi.is, c.column_at.ensures) (ends-ok (tt {0}) (Codes SupportRoutines column) c.args.text.now c.args.offset c.in_ok-expect_end-in-SmeAbi.ensures.said)

pub returns-in_err-expect_end-in-SmeTail-clause-said : goal.returns-in_err-expect_end-in-SmeTail-clause-said
unfolding directive_says
returns-in_err-expect_end-in-SmeTail-clause-said c =
    let p = err_from_is_err_and c.from_residual-in_err-expect_end-in-SmeTail.result c.from_residual-in_err-expect_end-in-SmeTail.ensures.1 in
    let column = column_at c.args.line.now c.args.start in
    rw (p.1, p.2, c.in-SmeTail.is)
    (passes_on (said_from (ends (tt {0})) c.args.text.now c.args.offset)
    (said_from (directive_says c.args.line.now column TailDirective) c.args.text.now c.args.offset) c.in_err-expect_end-in-SmeTail.field-0.0
    (λ s e. ends-err (tt {0}) (Codes CallTail column) c.args.text.now c.args.offset s e) c.in_err-expect_end-in-SmeTail.ensures.said)

pub returns-in_ok-expect_end-in-SmeTail-clause-said : goal.returns-in_ok-expect_end-in-SmeTail-clause-said
unfolding directive_says
returns-in_ok-expect_end-in-SmeTail-clause-said c =
    let column = column_at c.args.line.now c.args.start in
    rw (c.in-SmeTail.is, c.column_at-in-SmeTail.ensures) (ends-ok (tt {0}) (Codes CallTail column) c.args.text.now c.args.offset c.in_ok-expect_end-in-SmeTail.ensures.said)
