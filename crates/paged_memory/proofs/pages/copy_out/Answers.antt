use Rattle.std.proofs.Common.{◌≡◌, ◌+◌, ◌-◌, ◌++◌, length, take, arith, ap, ◌∙◌, refl}
use Rattle.std.proofs.lemmas.Slice.{take-put_mid}
use Rattle.std.proofs.lemmas.Grind.{common_steps}
use borrow.Rule.Slice.PartMut.{put_mid}
use Rattle.paged_memory.specs.Pages.{memory_of}
use Rattle.paged_memory.proofs.Accesses.{bytes_with-zero, bytes_with-join, bytes_with-stop, first_without-stop}
use Rattle.paged_memory.proofs.pages.copy_out.Goals as goal

pub loop-done-init : goal.loop-done-init
loop-done-init c = record { inside = omega arith; bytes = bytes_with-zero _ _ _ }

pub returns-in-None-clause-stops : goal.returns-in-None-clause-stops
returns-in-None-clause-stops c =
    bytes_with-stop c.args.need (memory_of c.args.pages.now) c.args.address c.loop-done.done _ c.in-None.ensures.gone (omega arith)

pub returns-in-None-clause-first : goal.returns-in-None-clause-first
returns-in-None-clause-first c =
    first_without-stop c.args.need (memory_of c.args.pages.now) c.args.address c.loop-done.done _ _ c.loop-done.invariant.bytes
    c.in-None.ensures.gone (omega arith)

pub loop-done-preserved : goal.loop-done-preserved
loop-done-preserved c =
    let ends : c.loop-done.done + c.min-count.result ≡ c.loop-done.done + length c.copy_from_slice.new.self =
    rw (c.copy_from_slice.ensures.after, c.in-Some.ensures.count) (omega arith) in
    let taken : take (c.loop-done.done + c.min-count.result)
    (put_mid c.loop-done.done (c.loop-done.done + c.min-count.result - c.loop-done.done) c.loop-done.into c.copy_from_slice.new.self)
    ≡ take c.loop-done.done c.loop-done.into ++ c.in-Some.bytes.now =
    take-put_mid c.loop-done.done _ c.loop-done.into c.copy_from_slice.new.self _ ends c.loop-done.invariant.inside
    ∙ ap (λ x. take c.loop-done.done c.loop-done.into ++ x) c.copy_from_slice.ensures.after in
    record {
      inside = grind (arith, common_steps);
      bytes =
          bytes_with-join c.args.need (memory_of c.args.pages.now) c.args.address c.loop-done.done c.min-count.result
          ∙ rw (c.loop-done.invariant.bytes, c.in-Some.ensures.there, taken) refl;
    }
