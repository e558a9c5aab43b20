use Rattle.std.proofs.Common.{ℕ, ◌∙◌, ap}
use Rattle.insn_text.specs.declared.keywords.TheConstants.{KEYWORDS}
use Rattle.asm_tokens.specs.declared.slots.TheConstants.{KEYWORD_SLOTS}
use Rattle.asm_tokens.specs.Slots.{probed, index_by}
use Rattle.asm_tokens.proofs.names.keyword_by.Goals as goal

pub returns : goal.returns
unfolding index_by
returns c = c.probed.ensures ∙ ap (λ (k : ℕ). probed KEYWORDS KEYWORD_SLOTS 512 c.args.text.now 16 k) c.hash.ensures.value
