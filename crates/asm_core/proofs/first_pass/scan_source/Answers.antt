use Rattle.std.proofs.Common.{rules, ◌≡◌, ◌≢◌, ◌≤◌, ◌+◌, [], Some, length, arith}
use Rattle.asm_core.specs.declared.fault.AsmFault.TheVariants.{Memory}
use Rattle.asm_core.specs.Faults.{lines_fault}
use Rattle.asm_core.specs.Layout.{first_counter}
use Rattle.asm_core.specs.Source.{lines_of}
use Rattle.asm_core.proofs.Scanning.{scanned_none, scanned_more, scanned_stops, all_accepted, all_known, all_placed}
use Rattle.asm_core.proofs.Keeping.{kept_all, kept_more}
use Rattle.asm_core.proofs.first_pass.scan_source.Goals as goal

pub loop-text-init : goal.loop-text-init
loop-text-init c = record {
  scanned = rw c.first_counter-counter.ensures (scanned_none c.args.source.now c.new-labels.result c.requires c.new-labels.ensures);
  kept = rw c.new-kept.ensures.items (λ more is. is);
}

pub scan_line-requires-clause-short : goal.scan_line-requires-clause-short
scan_line-requires-clause-short c =
    let count : c.loop-text.number + length c.loop-text.rest.now ≤ 67108865 = c.loop-text.invariant.scanned.count in
    let some : 1 ≤ c.loop-text.number = c.loop-text.invariant.scanned.numbered in
    let first : length c.in-Some.text.now ≤ length c.loop-text.rest.now = c.in-Some.ensures.within.0 in
    omega arith

pub returns-in_err-counter-clause-err : goal.returns-in_err-counter-clause-err
returns-in_err-counter-clause-err c =
    let h = c.loop-text.invariant.scanned in
    let fault = c.in_err-counter.field-0.0 in
    let refused : fault ≢ Memory → lines_fault 1 first_counter [] (lines_of c.args.source.now) ≡ Some fault =
    λ other. scanned_stops c.args.source.now c.loop-text.number c.loop-text.counter c.loop-text.labels c.loop-text.rest.now
    c.in-Some.text.now c.in-Some.after.now fault h c.in-Some.ensures.lines (c.in_err-counter.ensures.err h.list h.knows other) in
    search rules

pub loop-text-preserved : goal.loop-text-preserved
loop-text-preserved c =
    let h = c.loop-text.invariant.scanned in
    record {
      scanned =
          scanned_more c.args.source.now c.loop-text.number c.loop-text.counter c.loop-text.labels c.loop-text.rest.now c.in-Some.text.now
          c.in-Some.after.now c.in_ok-counter.counter c.scan_line.new.labels h
          c.in-Some.ensures.lines c.in-Some.ensures.within.1 (c.in_ok-counter.ensures.ok h.list h.knows);
      kept =
          kept_more c.args.source.now c.loop-text.kept.items c.scan_line.new.kept.items c.loop-text.rest.now c.in-Some.text.now
          c.in-Some.after.now c.loop-text.invariant.kept
          c.in-Some.ensures.lines c.in_ok-counter.ensures.kept;
    }

pub returns-clause-accepted : goal.returns-clause-accepted
returns-clause-accepted c =
    all_accepted c.args.source.now c.loop-text.number c.loop-text.counter c.loop-text.labels c.loop-text.rest.now
    c.loop-text.invariant.scanned c.in_default.ensures.lines

pub returns-clause-knows : goal.returns-clause-knows
returns-clause-knows c =
    all_known c.args.source.now c.loop-text.number c.loop-text.counter c.loop-text.labels c.loop-text.rest.now c.loop-text.invariant.scanned
    c.in_default.ensures.lines

pub returns-clause-end : goal.returns-clause-end
returns-clause-end c =
    all_placed c.args.source.now c.loop-text.number c.loop-text.counter c.loop-text.labels c.loop-text.rest.now
    c.loop-text.invariant.scanned
    c.in_default.ensures.lines

pub returns-clause-kept : goal.returns-clause-kept
returns-clause-kept c = kept_all c.args.source.now c.loop-text.kept.items c.loop-text.rest.now c.loop-text.invariant.kept
