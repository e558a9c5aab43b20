use Rattle.std.proofs.Common.{◌≡◌, ◌+◌, ◌%◌, ◌^◌, true, false, List, ℕ, refl, ap, sym, ◌∙◌, arith}
use Rattle.std.proofs.lemmas.Bool.Decides.{nat_tests}
use Rattle.paged_memory.specs.Memory.{bytes_with, first_without}
use Rattle.signal_frames.specs.Saved.{saved_length, body_of, is_zero_past}
use Rattle.signal_frames.specs.Reading.{IsSaved, StandsAt}
use Rattle.signal_frames.proofs.Lengths.{least_head, nested_head}
use Rattle.signal_frames.proofs.Fields.{head_says, either_small}
use Rattle.signal_frames.proofs.Faults.{unreadable_head, bad_head, unreadable_rest, found, fault_of_saved, length_of_saved}
use Rattle.signal_frames.proofs.Faults.{some_body, body_stands}
use Rattle.signal_frames.proofs.restore.find_fault.Goals as goal
use Rattle.signal_frames.proofs.restore.find_fault.Goals.{else-inside-via-then-inside+else-is_zero_past, else-inside-via-else-inside}

pub is_head-requires : goal.is_head-requires
is_head-requires c = record {
  head = rw (c.read.auto.into ∙ c.requires.head) (least_head c.args.expected.version);
  nested = λ two. rw (c.read.auto.into ∙ c.requires.head, nested_head c.args.expected.version two) (omega arith);
  vl = c.requires.vl;
  svl = c.requires.svl;
}

pub returns-then-not-is_head-clause-fault : goal.returns-then-not-is_head-clause-fault
returns-then-not-is_head-clause-fault c =
    let m = c.args.pages.now.memory in
    bad_head c.args.expected m c.args.start c.read.new.into
    (ap (bytes_with 4 m c.args.start) (sym c.requires.head) ∙ c.in-Ok.ensures.ok) (sym c.is_head.ensures ∙ c.if-not-is_head.true)

pub is_zero_past-requires : goal.is_zero_past-requires
is_zero_past-requires c =
    let e = c.args.expected in
    rw (c.saved_length.ensures ∙ (head_says e c.read.new.into (sym c.is_head.ensures ∙ c.if-not-is_head.false)).length)
    (either_small _ e.svl e.vl c.requires.svl c.requires.vl)

pub returns-in-Err-clause-fault : goal.returns-in-Err-clause-fault
returns-in-Err-clause-fault c =
    let m = c.args.pages.now.memory in
    unreadable_head c.args.expected m c.args.start c.in-Err.abort.address
    (ap (bytes_with 4 m c.args.start) (sym c.requires.head) ∙ c.in-Err.ensures.refused)
    (ap (first_without 4 m c.args.start) (sym c.requires.head) ∙ c.in-Err.ensures.abort)

pub returns-in-Err-check-clause-fault : goal.returns-in-Err-check-clause-fault
returns-in-Err-check-clause-fault c =
    let m = c.args.pages.now.memory in
    unreadable_rest c.args.expected m c.args.start c.read.new.into c.in-Err-check.abort.address
    (ap (bytes_with 4 m c.args.start) (sym c.requires.head) ∙ c.in-Ok.ensures.ok) (sym c.is_head.ensures ∙ c.if-not-is_head.false)
    (ap (first_without 4 m c.args.start) (sym c.saved_size.ensures) ∙ c.in-Err-check.ensures.abort)

pub returns-then-is_zero_past-clause-fault : goal.returns-then-is_zero_past-clause-fault
returns-then-is_zero_past-clause-fault c =
    let e = c.args.expected in
    let m = c.args.pages.now.memory in
    let head = c.read.new.into in
    let it : (frame : List ℕ) × IsSaved e m c.args.start head frame =
    found e m c.args.start head
    (ap (bytes_with 4 m c.args.start) (sym c.requires.head) ∙ c.in-Ok.ensures.ok) (sym c.is_head.ensures ∙ c.if-not-is_head.false)
    (ap (first_without 4 m c.args.start) (sym c.saved_size.ensures) ∙ c.in-Ok-check.ensures.ok) in
    let same = c.saved_length.ensures ∙ length_of_saved e m c.args.start head it.0 it.1 in
    let body = body_of e.version it.0 in
    let stands : StandsAt m ((c.args.start + c.head_size.result) % 2 ^ 64) body =
    rw c.head_size.ensures.value (body_stands e m c.args.start head it.0 it.1) in
    let zeros : is_zero_past (saved_length it.0) body ≡ true =
    ap (λ k. is_zero_past k body) (sym same)
    ∙ sym (c.is_zero_past.ensures body stands (rw same (some_body e m c.args.start head it.0 it.1))) ∙ c.if-is_zero_past.true in
    sym (fault_of_saved true true e m c.args.start head it.0 (grind (arith, nat_tests, c.if-inside.true)) it.1 zeros)

pub returns-then-is_zero_past-clause-found : goal.returns-then-is_zero_past-clause-found
returns-then-is_zero_past-clause-found c =
    let m = c.args.pages.now.memory in
    found c.args.expected m c.args.start c.read.new.into
    (ap (bytes_with 4 m c.args.start) (sym c.requires.head) ∙ c.in-Ok.ensures.ok) (sym c.is_head.ensures ∙ c.if-not-is_head.false)
    (ap (first_without 4 m c.args.start) (sym c.saved_size.ensures) ∙ c.in-Ok-check.ensures.ok)

pub returns-else-inside-clause-fault : goal.returns-else-inside-clause-fault
returns-else-inside-clause-fault c =
    let e = c.args.expected in
    let m = c.args.pages.now.memory in
    let head = c.read.new.into in
    let it : (frame : List ℕ) × IsSaved e m c.args.start head frame =
    found e m c.args.start head
    (ap (bytes_with 4 m c.args.start) (sym c.requires.head) ∙ c.in-Ok.ensures.ok) (sym c.is_head.ensures ∙ c.if-not-is_head.false)
    (ap (first_without 4 m c.args.start) (sym c.saved_size.ensures) ∙ c.in-Ok-check.ensures.ok) in
    let body = body_of e.version it.0 in
    elim c.else-inside.branch [
      | else-inside-via-then-inside+else-is_zero_past w ↦
          let same = w.saved_length.ensures ∙ length_of_saved e m c.args.start head it.0 it.1 in
          let stands : StandsAt m ((c.args.start + c.head_size.result) % 2 ^ 64) body =
          rw c.head_size.ensures.value (body_stands e m c.args.start head it.0 it.1) in
          let zeros : is_zero_past (saved_length it.0) body ≡ false =
          ap (λ k. is_zero_past k body) (sym same)
          ∙ sym (w.is_zero_past.ensures body stands (rw same (some_body e m c.args.start head it.0 it.1))) ∙ w.if-is_zero_past.false in
          sym (fault_of_saved true false e m c.args.start head it.0 (grind (arith, nat_tests, w.if-inside.true)) it.1 zeros)
      | else-inside-via-else-inside w ↦
          sym (fault_of_saved false (is_zero_past (saved_length it.0) body) e m c.args.start head it.0 (grind (arith, nat_tests, w.if-inside.false)) it.1 refl)
    ]
