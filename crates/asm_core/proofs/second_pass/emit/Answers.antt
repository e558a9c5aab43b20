use Rattle.std.proofs.Common.{◌≡◌, ◌∙◌, ℕ, List, Option, None, Some, sym, ap₂, subst, arith}
use Rattle.std.proofs.lemmas.Result.{err_from_is_err_and}
use Rattle.asm_parser.specs.Statements.{SourceLine}
use Rattle.asm_core.specs.declared.fault.AsmFault.{AsmFault}
use Rattle.asm_core.specs.Source.{lines_of, said_lines}
use Rattle.asm_core.specs.Layout.{first_counter, Names, names_in}
use Rattle.asm_core.specs.Known.{known}
use Rattle.asm_core.specs.Faults.{lines_fault, targets_fault, text_length_of}
use Rattle.asm_core.proofs.Accepted.{fine_first, addresses_near, same_names}
use Rattle.asm_core.specs.Kept.{AreKept}
use Rattle.asm_core.proofs.Keeping.{kept_after, kept_first}
use Rattle.asm_core.proofs.Emission.{IsAt, at_start, at_next, at_fault, at_end, at_end_fine}
use Rattle.asm_core.proofs.second_pass.emit.Goals as goal

-- the faults with another size and other names that are the same
moved : (size to : ℕ) (names others : Names) (lines : List SourceLine) (fault : Option AsmFault) → size ≡ to → names ≡ others
    → targets_fault 1 size names first_counter lines ≡ fault → targets_fault 1 to others first_counter lines ≡ fault
moved size to names others lines fault is same e = sym (ap₂ (λ n (l : Names). targets_fault 1 n l first_counter lines) is same) ∙ e

pub loop-text-init : goal.loop-text-init
loop-text-init c = record {
  some = omega arith;
  left = omega arith;
  at =
      let e = c.new_emission-emission.ensures in
      at_start c.args.text_size (known c.args.labels.now) (lines_of c.args.source.now)
      c.new_emission-emission.result c.requires.accepted e.text_bytes e.data_bytes e.symbols e.counter e.content;
  kept = c.requires.kept;
}

pub emit_line-requires-clause-short : goal.emit_line-requires-clause-short
emit_line-requires-clause-short c = let within = c.in-Some.ensures.within.0 in omega (arith, c.loop-text.invariant.left)

pub emit_line-requires-clause-fine : goal.emit_line-requires-clause-fine
emit_line-requires-clause-fine c =
    let at = c.loop-text.invariant.at in
    fine_first c.loop-text.number c.loop-text.emission.counter at.known c.in-Some.text.now (lines_of c.in-Some.after.now)
    (subst (λ (texts : List (List ℕ)). lines_fault c.loop-text.number c.loop-text.emission.counter at.known texts ≡ None)
    c.in-Some.ensures.lines at.accepted)

pub emit_line-requires-clause-near : goal.emit_line-requires-clause-near
emit_line-requires-clause-near c = addresses_near _ (lines_of c.args.source.now) c.requires.size c.requires.knows c.requires.accepted

pub returns-in_err-emit_line-clause-err : goal.returns-in_err-emit_line-clause-err
returns-in_err-emit_line-clause-err c =
    let ls = said_lines (lines_of c.args.source.now) in
    let L = known c.args.labels.now in
    let at =
    subst (λ (texts : List (List ℕ)). IsAt c.args.text_size L ls texts c.loop-text.number c.loop-text.emission) c.in-Some.ensures.lines
    c.loop-text.invariant.at in
    let fine =
    fine_first c.loop-text.number c.loop-text.emission.counter at.known c.in-Some.text.now (lines_of c.in-Some.after.now) at.accepted in
    let p = err_from_is_err_and c.from_residual.result c.from_residual.ensures.1 in
    rw (p.1, p.2)
    (λ differs.
    moved c.args.text_size (text_length_of ls) L (names_in ls) ls (Some c.in_err-emit_line.field-0.0) c.requires.size
    (sym (same_names _ _ c.requires.knows))
    (at_fault c.args.text_size L ls c.in-Some.text.now (lines_of c.in-Some.after.now) c.loop-text.number c.loop-text.emission fine.line
    c.in_err-emit_line.field-0.0 fine.says at
    (c.in_err-emit_line.ensures.err fine.line fine.says differs)))

pub loop-text-preserved : goal.loop-text-preserved
loop-text-preserved c = record {
  some = omega arith;
  left = omega (arith, c.in-Some.ensures.within);
  at =
      let ls = said_lines (lines_of c.args.source.now) in
      let L = known c.args.labels.now in
      let at =
      subst (λ (texts : List (List ℕ)). IsAt c.args.text_size L ls texts c.loop-text.number c.loop-text.emission) c.in-Some.ensures.lines
      c.loop-text.invariant.at in
      let fine =
      fine_first c.loop-text.number c.loop-text.emission.counter at.known c.in-Some.text.now (lines_of c.in-Some.after.now) at.accepted in
      let e = c.in_ok-emit_line.ensures in
      at_next c.args.text_size L ls c.in-Some.text.now (lines_of c.in-Some.after.now) c.loop-text.number c.loop-text.emission
      c.emit_line.new.emission fine.line fine.says at
      (e.grown fine.line fine.says) (e.counter fine.line fine.says) (e.content fine.line fine.says)
      (e.ok fine.line fine.says);
  kept =
      rw c.after_first-kept_rest.ensures (kept_after c.loop-text.kept_rest.now c.in-Some.text.now (lines_of c.in-Some.after.now)
      (subst (AreKept c.loop-text.kept_rest.now) c.in-Some.ensures.lines c.loop-text.invariant.kept));
}

pub emit_line-requires-clause-kept : goal.emit_line-requires-clause-kept
emit_line-requires-clause-kept c =
    rw c.first_kept-now.ensures (kept_first c.loop-text.kept_rest.now c.in-Some.text.now (lines_of c.in-Some.after.now)
    (subst (AreKept c.loop-text.kept_rest.now) c.in-Some.ensures.lines c.loop-text.invariant.kept))

pub returns-clause-parts : goal.returns-clause-parts
returns-clause-parts c =
    let ls = said_lines (lines_of c.args.source.now) in
    at_end c.args.text_size (known c.args.labels.now) ls c.loop-text.number c.loop-text.emission c.requires.size
    (sym (same_names _ _ c.requires.knows))
    (subst (λ (texts : List (List ℕ)). IsAt c.args.text_size (known c.args.labels.now) ls texts c.loop-text.number c.loop-text.emission)
    c.in_default.ensures.lines c.loop-text.invariant.at)

pub returns-clause-ok : goal.returns-clause-ok
returns-clause-ok c =
    let ls = said_lines (lines_of c.args.source.now) in
    moved c.args.text_size (text_length_of ls) (known c.args.labels.now) (names_in ls) ls None c.requires.size
    (sym (same_names _ _ c.requires.knows))
    (at_end_fine c.args.text_size (known c.args.labels.now) ls c.loop-text.number c.loop-text.emission
    (subst (λ (texts : List (List ℕ)). IsAt c.args.text_size (known c.args.labels.now) ls texts c.loop-text.number c.loop-text.emission)
    c.in_default.ensures.lines c.loop-text.invariant.at))
