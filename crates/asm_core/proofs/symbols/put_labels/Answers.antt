use Rattle.std.proofs.Common.{◌≡◌, ◌++◌, map, sym, ap, ◌∙◌, append_assoc}
use Rattle.std.specs.Prelude.{option_map}
use Rattle.std.proofs.lemmas.Result.{on_ok_weaker}
use Rattle.asm_parser.specs.Statements.{line_said}
use Rattle.asm_core.specs.Code.{names_said}
use Rattle.asm_core.specs.Layout.{label_at, label_past, if_some}
use Rattle.asm_core.specs.Assembly.{label_symbols, symbol_said}
use Rattle.asm_core.proofs.LabelSymbols.{symbols_append}
use Rattle.asm_core.proofs.symbols.put_labels.Goals as goal

pub returns-clause-ok : goal.returns-clause-ok
returns-clause-ok c =
    let line = line_said c.args.line.now in
    let p = c.args.counter.now in
    let T = c.args.text_size in
    let own = if_some (option_map (label_at p) line.label) in
    let names = map (label_past p) (names_said line.says) in
    let old = map symbol_said c.args.symbols.now.items in
    let middle = map symbol_said c.put_own.new.symbols.items in
    let new = map symbol_said c.put_names.new.symbols.items in
    on_ok_weaker c.put_names.result
    (λ (e : new ≡ middle ++ label_symbols T names).
    e ∙ ap (λ ss. ss ++ label_symbols T names) c.in_ok-put_own.ensures.ok
    ∙ append_assoc old (label_symbols T own) (label_symbols T names) ∙ ap (λ ss. old ++ ss) (sym (symbols_append T own names)))
    c.put_names.ensures.ok
