use Rattle.std.proofs.Common.{◌++◌, ap₂, ◌∙◌}
use Rattle.vector_runner.specs.State.{code_page}
use Rattle.vector_runner.proofs.state.code_page.Goals as goal

pub returns : goal.returns
unfolding code_page
returns c =
    c.in_ok-append.ensures.items
    ∙ ap₂ (λ first rest. first ++ rest) (c.in_ok-bytes.ensures.items ∙ c.to_le_bytes.ensures) c.in_ok-rest.ensures
