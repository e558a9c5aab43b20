use Rattle.std.proofs.Common.{sym, ap, ◌∙◌}
use Rattle.vector_elements.specs.Numbers.{bytes_in}
use Rattle.mem_access.specs.Access.{bytes_in as access_bytes}
use Rattle.mem_access.proofs.Lists.{number_run}
use Rattle.sve_access.specs.Contiguous.{memory_size, loaded}
use Rattle.sve_access.proofs.loads.element_at.Goals as goal

pub returns : goal.returns
returns c =
    c.loaded.ensures
    ∙ ap (loaded c.args.kind) (c.in-Ok.ensures.value
    ∙ sym (number_run c.args.pages.now.memory c.args.address (bytes_in (memory_size c.args.kind)) (access_bytes c.access_size.result)
    (sym (c.access_size.ensures ∙ ap bytes_in c.memory_size.ensures))))
