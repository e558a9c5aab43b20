use Rattle.std.proofs.Common.{◌<◌, ◌∙◌, length, ap, sym, refl, arith}
use Rattle.std.specs.Prelude.{remove}
use Rattle.std.proofs.lemmas.Grind.{common_steps}
use Rattle.kernel_contexts.specs.Context.{thread_of, IsOn, owns}
use Rattle.core_unit.proofs.Cores.{cons_of, first_of, each_rest}
use Rattle.core_unit.proofs.Owners.{apart_threads, is_owned}
use Rattle.core_unit.proofs.Moving.{away_of, home_of, same_lengths, guest_home, gone_held, gone_on}
use Rattle.core_unit.proofs.moves.take_first.Goals as goal

pub bank_out-requires-clause-away : goal.bank_out-requires-clause-away
bank_out-requires-clause-away g c =
    let r = c.remove-context.result in
    let xs = c.args.residents.now.items in
    let some : 0 < length xs = grind (arith, common_steps, c.requires.some) in
    let split = cons_of xs r some c.remove-context.ensures.value in
    away_of r.context c.args.bank.now (c.requires.on 0 r (first_of xs split.0 r split.1)) (ap (owns c.args.bank.now) (sym c.thread.ensures) ∙ sym c.is_owned.ensures ∙ c.if-is_owned.true)

pub bank_out-requires-clause-on : goal.bank_out-requires-clause-on
bank_out-requires-clause-on g c =
    let r = c.remove-context.result in
    let xs = c.args.residents.now.items in
    let some : 0 < length xs = grind (arith, common_steps, c.requires.some) in
    let split = cons_of xs r some c.remove-context.ensures.value in
    c.requires.on 0 r (first_of xs split.0 r split.1)

pub returns-then-is_owned-clause-taken : goal.returns-then-is_owned-clause-taken
returns-then-is_owned-clause-taken g c =
    let r = c.remove-context.result in
    let xs = c.args.residents.now.items in
    let bank = c.args.bank.now in
    let some : 0 < length xs = grind (arith, common_steps, c.requires.some) in
    let split = cons_of xs r some c.remove-context.ensures.value in
    let out = c.bank_out.ensures in
    let guest = guest_home r.context c.bank_out.new.self out.same out.stop out.journal bank out.state in
    gone_held (λ r. r.context) (λ r. r.ticket) bank c.bank_out.new.bank xs split.0 c.remove-context.new.self.items r split.1
    (c.remove-context.ensures.items ∙ ap (λ l. remove l 0) split.1)
    (is_owned bank.owner (thread_of r.context) (ap (owns c.args.bank.now) (sym c.thread.ensures) ∙ sym c.is_owned.ensures ∙ c.if-is_owned.true)) out.owner
    (apart_threads (λ r. r.context) (λ r. r.ticket) bank xs c.requires.told.apart) _
    (λ i. record { guest = guest i; ticket = r.ticket })

pub returns-then-is_owned-clause-on : goal.returns-then-is_owned-clause-on
returns-then-is_owned-clause-on g c =
    let r = c.remove-context.result in
    let xs = c.args.residents.now.items in
    let bank = c.args.bank.now in
    let some : 0 < length xs = grind (arith, common_steps, c.requires.some) in
    let split = cons_of xs r some c.remove-context.ensures.value in
    let out = c.bank_out.ensures in
    let here = c.requires.on 0 r (first_of xs split.0 r split.1) in
    gone_on (λ r. r.context) (λ r. r.ticket) bank c.bank_out.new.bank xs split.0 c.remove-context.new.self.items r split.1
    (c.remove-context.ensures.items ∙ ap (λ l. remove l 0) split.1)
    (is_owned bank.owner (thread_of r.context) (ap (owns c.args.bank.now) (sym c.thread.ensures) ∙ sym c.is_owned.ensures ∙ c.if-is_owned.true)) out.owner
    (apart_threads (λ r. r.context) (λ r. r.ticket) bank xs c.requires.told.apart) c.requires.on
    (same_lengths _ _ bank c.bank_out.new.bank refl here.lengths out.lengths)

pub returns-then-is_owned-clause-lengths : goal.returns-then-is_owned-clause-lengths
returns-then-is_owned-clause-lengths g c =
    let r = c.remove-context.result in
    let xs = c.args.residents.now.items in
    let some : 0 < length xs = grind (arith, common_steps, c.requires.some) in
    let split = cons_of xs r some c.remove-context.ensures.value in
    let here = c.requires.on 0 r (first_of xs split.0 r split.1) in
    same_lengths _ _ c.args.bank.now c.bank_out.new.bank refl here.lengths c.bank_out.ensures.lengths

pub invariant_of-result-2 : goal.invariant_of-result-2
invariant_of-result-2 g c =
    let r = c.remove-context.result in
    let xs = c.args.residents.now.items in
    let some : 0 < length xs = grind (arith, common_steps, c.requires.some) in
    let split = cons_of xs r some c.remove-context.ensures.value in
    record {
      home = home_of r.context c.args.bank.now (c.requires.on 0 r (first_of xs split.0 r split.1))
          (ap (owns c.args.bank.now) (sym c.thread.ensures) ∙ sym c.is_owned.ensures ∙ c.if-is_owned.false);
      number = r.number;
      journal = r.journal;
    }

pub returns-clause-on : goal.returns-clause-on
returns-clause-on g c =
    let r = c.remove-context.result in
    let xs = c.args.residents.now.items in
    let some : 0 < length xs = grind (arith, common_steps, c.requires.some) in
    let split = cons_of xs r some c.remove-context.ensures.value in
    each_rest (λ x. IsOn x.context c.args.bank.now) xs _ split.0 r split.1
    (c.remove-context.ensures.items ∙ ap (λ l. remove l 0) split.1) c.requires.on
