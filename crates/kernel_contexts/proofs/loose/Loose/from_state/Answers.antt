use Rattle.std.proofs.Common.{ap, sym, ◌∙◌}
use Rattle.sm_types.specs.declared.config.Config.{Config}
use Rattle.mem_access.specs.Bank.{bank_state}
use Rattle.kernel_contexts.proofs.loose.Loose.from_state.Goals as goal

pub returns-clause-state : goal.returns-clause-state
returns-clause-state c =
    let guest = c.in_ok-guest.ensures in
    let bank = bank_state c.in_ok-bank.bank in
    record {
      scalars = guest.scalars bank;
      vectors = c.in_ok-bank.ensures.vectors;
      memory = guest.memory bank;
      kernel = guest.kernel bank;
    }

pub invariant_of-result : goal.invariant_of-result
invariant_of-result c =
    let guest = c.in_ok-guest.ensures in
    let bank = c.in_ok-bank.ensures in
    let scalars = guest.scalars (bank_state c.in_ok-bank.bank) in
    record {
      fits = record {
        lengths = record {
          vl = bank.lengths.vl ∙ ap (λ (k : Config). k.vl) (sym guest.config);
          svl = bank.lengths.svl ∙ ap (λ (k : Config). k.svl) (sym guest.config);
        };
        mode = λ _. record {
          streaming = bank.mode ∙ sym scalars.streaming;
          off = λ off. bank.off (sym scalars.za_on ∙ off);
        };
        owner = bank.owner;
      };
    }
