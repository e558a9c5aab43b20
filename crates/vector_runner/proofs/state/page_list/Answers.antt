use Rattle.std.proofs.Common.{ap}
use Rattle.paged_memory.specs.Memory.{zero_page}
use Rattle.paged_memory.specs.declared.page_list.PageImage.{PageImage}
use Rattle.vector_runner.proofs.TwoPages.{two_pushed}
use Rattle.vector_runner.proofs.state.page_list.Goals as goal

pub returns : goal.returns
unfolding zero_page
returns c =
    let p : PageImage = record { address = 65536; flags = 6; bytes = c.in_ok-data.data } in
    let q : PageImage = record { address = 131072; flags = 5; bytes = c.in_ok-code.code } in
    two_pushed c.new-list.result.items c.push.new.self.items c.push-2.new.self.items p q c.args.word c.new-list.ensures.items
    c.in_ok-push.ensures.items c.in_ok-push-2.ensures.items
    (ap (λ bytes. (65536, 6, bytes)) c.in_ok-data.ensures) (ap (λ bytes. (131072, 5, bytes)) c.in_ok-code.ensures)
