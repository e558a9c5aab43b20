use Rattle.std.proofs.Common.{◌≡◌, ◌+◌, ◌++◌, ◌≤◌, length, map, replicate, None, refl, sym, ap, ◌∙◌, subst, arith}
use Rattle.std.specs.Prelude.{option_map}
use Rattle.std.proofs.lemmas.Result.{on_ok_weaker}
use Rattle.asm_parser.specs.Statements.{target_said, value_of, Aligns, Globals, Nothing, IntoText, IntoData, Instruction}
use Rattle.byteorder.specs.Endian.{little_bytes}
use Rattle.asm_core.specs.Code.{routine_words, tail_code, code_words}
use Rattle.asm_core.specs.Layout.{here, size_of, address_in}
use Rattle.asm_core.specs.Faults.{instruction_fault, words_fault}
use Rattle.asm_core.specs.Assembly.{quad_number, numbers_bytes, resolved, resolved_words, MeansOne}
use Rattle.asm_core.specs.Emitted.{IsPiece, AreMeant, AreWordsAfter, names_by}
use Rattle.asm_core.proofs.RoutineWords.{word_line_fault, routines_line_fault, tail_line_fault, err_more, both_ok}
use Rattle.asm_core.proofs.Pieces.{adds_word, adds_routines, adds_tail, adds_quads, adds_words, adds_bytes, adds_zeros, adds_padding, adds_nothing}
use Rattle.asm_core.proofs.emit_bytes.put_statement.Goals as goal

pub put_zeros-requires : goal.put_zeros-requires
unfolding size_of
put_zeros-requires c =
    let size : length c.args.bytes.now.items ≡ here c.args.counter.now = c.requires.size in
    let fits : here c.args.counter.now + c.in-Zero.count ≤ 4194304 = rw c.in-Zero.is at c.requires.fits in
    omega arith

pub put_instruction-requires-clause-meant : goal.put_instruction-requires-clause-meant
unfolding code_words
put_instruction-requires-clause-meant c =
    let meant : AreMeant (code_words (Instruction c.in-Instruction.word (option_map target_said c.in-Instruction.target))) =
    rw c.in-Instruction.is at c.requires.has_word in
    meant.0

pub returns-in-Instruction-clause-ok : goal.returns-in-Instruction-clause-ok
returns-in-Instruction-clause-ok c =
    let names = names_by c.args.addresses.now in
    let T = c.args.addresses.now.text_size in
    let p = c.args.counter.now in
    let n = c.args.number in
    let word = c.in-Instruction.word in
    let target = option_map target_said c.in-Instruction.target in
    let from : c.address_in-from.result ≡ address_in T p.part (here p) =
    c.address_in-from.ensures.value ∙ ap (address_in T p.part) c.here.ensures in
    rw c.in-Instruction.is
    (on_ok_weaker c.put_instruction.result
    (λ (e : instruction_fault n T names c.address_in-from.result word target ≡ None).
    word_line_fault T names n p c.in-Instruction.column word target ∙ ap (λ k. instruction_fault n T names k word target) (sym from) ∙ e)
    c.put_instruction.ensures.ok)

pub returns-in-Instruction-clause-err : goal.returns-in-Instruction-clause-err
returns-in-Instruction-clause-err c =
    let names = names_by c.args.addresses.now in
    let T = c.args.addresses.now.text_size in
    let p = c.args.counter.now in
    let n = c.args.number in
    let word = c.in-Instruction.word in
    let target = option_map target_said c.in-Instruction.target in
    let from : c.address_in-from.result ≡ address_in T p.part (here p) =
    c.address_in-from.ensures.value ∙ ap (address_in T p.part) c.here.ensures in
    rw c.in-Instruction.is
    (err_more c.put_instruction.result _ _
    (λ fault h differs.
    word_line_fault T names n p c.in-Instruction.column word target ∙ ap (λ k. instruction_fault n T names k word target) (sym from)
    ∙ h differs)
    c.put_instruction.ensures.err)

pub returns-in-Instruction-clause-bytes : goal.returns-in-Instruction-clause-bytes
returns-in-Instruction-clause-bytes c =
    let names = names_by c.args.addresses.now in
    let T = c.args.addresses.now.text_size in
    let p = c.args.counter.now in
    let word = c.in-Instruction.word in
    let target = option_map target_said c.in-Instruction.target in
    let old = c.args.bytes.now.items in
    let new = c.put_instruction.new.bytes.items in
    let from : c.address_in-from.result ≡ address_in T p.part (here p) =
    c.address_in-from.ensures.value ∙ ap (address_in T p.part) c.here.ensures in
    rw c.in-Instruction.is
    (both_ok c.put_instruction.result
    (λ (m : MeansOne (resolved T names c.address_in-from.result word target))
    (e : new ≡ old ++ little_bytes 4 (resolved T names c.address_in-from.result word target)).
    adds_word T names p word target c.in-Instruction.column old new
    (subst (λ k. MeansOne (resolved T names k word target)) from m)
    (subst (λ k. new ≡ old ++ little_bytes 4 (resolved T names k word target)) from e))
    c.put_instruction.ensures.means c.put_instruction.ensures.bytes)

pub returns-in-SupportRoutines-clause-ok : goal.returns-in-SupportRoutines-clause-ok
returns-in-SupportRoutines-clause-ok c =
    let T = c.args.addresses.now.text_size in
    rw c.in-SupportRoutines.is
    (on_ok_weaker c.put_routines.result
    (λ e. routines_line_fault T (names_by c.args.addresses.now) c.args.number c.args.counter.now c.in-SupportRoutines.column)
    c.put_routines.ensures.ok)

pub returns-in-SupportRoutines-clause-bytes : goal.returns-in-SupportRoutines-clause-bytes
returns-in-SupportRoutines-clause-bytes c =
    let old = c.args.bytes.now.items in
    let new = c.put_routines.new.bytes.items in
    rw c.in-SupportRoutines.is
    (on_ok_weaker c.put_routines.result
    (λ (e : new ≡ old ++ numbers_bytes 4 routine_words).
    adds_routines c.args.addresses.now.text_size (names_by c.args.addresses.now) c.args.counter.now c.in-SupportRoutines.column old new e)
    c.put_routines.ensures.ok)

pub returns-in-CallTail-clause-ok : goal.returns-in-CallTail-clause-ok
returns-in-CallTail-clause-ok c =
    let names = names_by c.args.addresses.now in
    let T = c.args.addresses.now.text_size in
    let p = c.args.counter.now in
    let n = c.args.number in
    let from : c.address_in-from-in-CallTail.result ≡ address_in T p.part (here p) =
    c.address_in-from-in-CallTail.ensures.value ∙ ap (address_in T p.part) c.here-in-CallTail.ensures in
    rw c.in-CallTail.is
    (on_ok_weaker c.put_tail.result
    (λ (e : words_fault n T names c.address_in-from-in-CallTail.result tail_code ≡ None).
    tail_line_fault T names n p c.in-CallTail.column ∙ ap (λ k. words_fault n T names k tail_code) (sym from) ∙ e)
    c.put_tail.ensures.ok)

pub returns-in-CallTail-clause-err : goal.returns-in-CallTail-clause-err
returns-in-CallTail-clause-err c =
    let names = names_by c.args.addresses.now in
    let T = c.args.addresses.now.text_size in
    let p = c.args.counter.now in
    let n = c.args.number in
    let from : c.address_in-from-in-CallTail.result ≡ address_in T p.part (here p) =
    c.address_in-from-in-CallTail.ensures.value ∙ ap (address_in T p.part) c.here-in-CallTail.ensures in
    rw c.in-CallTail.is
    (err_more c.put_tail.result _ _
    (λ fault h differs.
    tail_line_fault T names n p c.in-CallTail.column ∙ ap (λ k. words_fault n T names k tail_code) (sym from) ∙ h differs)
    c.put_tail.ensures.err)

pub returns-in-CallTail-clause-bytes : goal.returns-in-CallTail-clause-bytes
returns-in-CallTail-clause-bytes c =
    let names = names_by c.args.addresses.now in
    let T = c.args.addresses.now.text_size in
    let p = c.args.counter.now in
    let old = c.args.bytes.now.items in
    let new = c.put_tail.new.bytes.items in
    let from : c.address_in-from-in-CallTail.result ≡ address_in T p.part (here p) =
    c.address_in-from-in-CallTail.ensures.value ∙ ap (address_in T p.part) c.here-in-CallTail.ensures in
    rw c.in-CallTail.is
    (on_ok_weaker c.put_tail.result
    (λ (h : AreWordsAfter (resolved_words T names c.address_in-from-in-CallTail.result tail_code) old new).
    adds_tail T names p c.in-CallTail.column old new
    (subst (λ k. AreWordsAfter (resolved_words T names k tail_code) old new) from h))
    c.put_tail.ensures.bytes)

pub returns-in-Quad-clause-bytes : goal.returns-in-Quad-clause-bytes
returns-in-Quad-clause-bytes c =
    let names = names_by c.args.addresses.now in
    let T = c.args.addresses.now.text_size in
    let old = c.args.bytes.now.items in
    let new = c.put_quads.new.bytes.items in
    rw c.in-Quad.is
    (on_ok_weaker c.put_quads.result
    (λ (e : new ≡ old ++ numbers_bytes 8 (map (quad_number T names) (map value_of c.deref.result.now))).
    adds_quads T names c.args.counter.now (map value_of c.in-Quad.values.items) old new
    (e ∙ ap (λ x. old ++ numbers_bytes 8 (map (quad_number T names) (map value_of x))) c.deref.ensures.value))
    c.put_quads.ensures.bytes)

pub returns-in-Word-clause-bytes : goal.returns-in-Word-clause-bytes
returns-in-Word-clause-bytes c =
    let names = names_by c.args.addresses.now in
    let old = c.args.bytes.now.items in
    let new = c.put_words.new.bytes.items in
    rw c.in-Word.is
    (on_ok_weaker c.put_words.result
    (λ (e : new ≡ old ++ numbers_bytes 4 c.deref-in-Word.result.now).
    adds_words c.args.addresses.now.text_size names c.args.counter.now c.in-Word.numbers.items old new
    (e ∙ ap (λ x. old ++ numbers_bytes 4 x) c.deref-in-Word.ensures.value))
    c.put_words.ensures.ok)

pub returns-in-Byte-clause-bytes : goal.returns-in-Byte-clause-bytes
returns-in-Byte-clause-bytes c =
    let names = names_by c.args.addresses.now in
    let old = c.args.bytes.now.items in
    let new = c.put_all.new.bytes.items in
    rw c.in-Byte.is
    (on_ok_weaker c.put_all.result
    (λ (e : new ≡ old ++ c.deref-in-Byte.result.now).
    adds_bytes c.args.addresses.now.text_size names c.args.counter.now c.in-Byte.numbers.items old new
    (e ∙ ap (λ x. old ++ x) c.deref-in-Byte.ensures.value))
    c.put_all.ensures.ok)

pub returns-in-Zero-clause-bytes : goal.returns-in-Zero-clause-bytes
returns-in-Zero-clause-bytes c =
    let names = names_by c.args.addresses.now in
    let old = c.args.bytes.now.items in
    let new = c.put_zeros.new.bytes.items in
    rw c.in-Zero.is
    (on_ok_weaker c.put_zeros.result (λ (e : new ≡ old ++ replicate c.in-Zero.count 0). adds_zeros c.args.addresses.now.text_size names
    c.args.counter.now c.in-Zero.count old new e) c.put_zeros.ensures.ok)

pub returns-in-Align-clause-bytes : goal.returns-in-Align-clause-bytes
returns-in-Align-clause-bytes c =
    let names = names_by c.args.addresses.now in
    let old = c.args.bytes.now.items in
    let new = c.put_zeros-in-Align.new.bytes.items in
    let p = c.args.counter.now in
    let size : c.size_of.result ≡ size_of (Aligns c.in-Align.field-0) (here p) =
    rw (c.in-Align.is, c.here-in-Align.ensures) at c.size_of.ensures.value in
    rw c.in-Align.is
    (on_ok_weaker c.put_zeros-in-Align.result
    (λ (e : new ≡ old ++ replicate c.size_of.result 0). adds_padding c.args.addresses.now.text_size names p c.in-Align.field-0
    c.size_of.result old new size e)
    c.put_zeros-in-Align.ensures.ok)

pub returns-in-Empty-clause-bytes : goal.returns-in-Empty-clause-bytes
unfolding size_of IsPiece
returns-in-Empty-clause-bytes c =
    let names = names_by c.args.addresses.now in rw c.in-Empty.is
    (adds_nothing c.args.addresses.now.text_size names c.args.counter.now c.args.bytes.now.items Nothing refl
    tt)

pub returns-in-Text-clause-bytes : goal.returns-in-Text-clause-bytes
unfolding size_of IsPiece
returns-in-Text-clause-bytes c =
    let names = names_by c.args.addresses.now in rw c.in-Text.is
    (adds_nothing c.args.addresses.now.text_size names c.args.counter.now c.args.bytes.now.items IntoText refl
    tt)

pub returns-in-Data-clause-bytes : goal.returns-in-Data-clause-bytes
unfolding size_of IsPiece
returns-in-Data-clause-bytes c =
    let names = names_by c.args.addresses.now in rw c.in-Data.is
    (adds_nothing c.args.addresses.now.text_size names c.args.counter.now c.args.bytes.now.items IntoData refl
    tt)

pub returns-in-Global-clause-bytes : goal.returns-in-Global-clause-bytes
unfolding size_of IsPiece
returns-in-Global-clause-bytes c =
    let names = names_by c.args.addresses.now in rw c.in-Global.is
    (adds_nothing c.args.addresses.now.text_size names c.args.counter.now c.args.bytes.now.items
    (Globals c.in-Global.field-0.now) refl tt)
