use Rattle.std.proofs.Common.{◌≡◌, ◌∙◌, ℕ, length, sym, ap, subst, arith, false}
use Rattle.plain_lemmas.proofs.Tests.{not_IsTrue-false}
use Rattle.paged_memory.specs.Memory.{AddressSpace}
use Rattle.lazy_saving.specs.Block.{buffer_of}
use Rattle.lazy_saving.specs.Dormant.{HasSamePages, buffer_size}
use Rattle.abi_checker.proofs.open_call.OpenCall.has_same_pages.Goals as goal
use Rattle.abi_checker.proofs.open_call.OpenCall.has_same_pages.Goals.{then-have_same_pages, else-have_same_pages}

moved : (before after : AddressSpace) (a b n k : ℕ) → a ≡ b → n ≡ k → HasSamePages before after b k → HasSamePages before after a n
moved before after a b n k e f h =
    subst (λ x. HasSamePages before after x n) (sym e) (subst (λ x. HasSamePages before after b x) (sym f) h)

pub returns-else-have_same_pages-2 : goal.returns-else-have_same_pages-2
returns-else-have_same_pages-2 c = λ before after p q.
    let call = c.args.self.now in
    let old = p ∙ sym c.as_slice-old.ensures.value in
    let wide : c.len.result ≡ length call.za.items = omega (arith, c.len.ensures) in
    let size = c.saved_bytes-saved.ensures ∙ ap (λ k. buffer_size k call.bytes.block) wide in (
      λ e. absurd (not_IsTrue-false (sym c.if-have_same_pages-2.false ∙ e)),
      λ h. elim c.if-have_same_pages.branch [
        | then-have_same_pages w ↦
            w.value-is
            ∙ (w.have_same_pages-then-have_same_pages.ensures before after old q).1
            (moved before after c.buffer_address-buffer.result (buffer_of call.bytes.block) c.saved_bytes-saved.result
            (buffer_size (length call.za.items) call.bytes.block) c.buffer_address-buffer.ensures size h.buffer)
        | else-have_same_pages w ↦
            absurd (not_IsTrue-false (sym w.if-have_same_pages.false ∙ (c.have_same_pages.ensures before after old q).1 h.block))
      ],
    )
