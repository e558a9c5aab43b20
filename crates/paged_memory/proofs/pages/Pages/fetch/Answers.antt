use Rattle.std.proofs.Common.{ap, ◌∙◌, arith}
use Rattle.paged_memory.specs.Pages.{memory_of}
use Rattle.paged_memory.proofs.Accesses.{bytes_with-first}
use Rattle.paged_memory.proofs.Words.{word_read, word_none}
use Rattle.paged_memory.proofs.pages.Pages.fetch.Goals as goal

pub returns-in-Some : goal.returns-in-Some
returns-in-Some c =
    word_read (memory_of c.as_slice.result.now) c.args.self.now.memory c.args.pc c.from_le_bytes.result c.in-Some.bytes.now
    (ap memory_of c.as_slice.ensures.value ∙ ap (λ t. t.memory) c.self.view_is) c.in-Some.ensures.there c.in-Some.ensures.count
    c.from_le_bytes.ensures

pub returns-in-None : goal.returns-in-None
returns-in-None c =
    word_none (memory_of c.as_slice.result.now) c.args.self.now.memory c.args.pc
    (ap memory_of c.as_slice.ensures.value ∙ ap (λ t. t.memory) c.self.view_is)
    (bytes_with-first 1 (memory_of c.as_slice.result.now) c.args.pc 4 (omega arith) c.in-None.ensures.gone (omega arith))
