use Rattle.std.proofs.Common.{◌<◌, ◌∙◌, length, ap, arith}
use Rattle.std.proofs.lemmas.Grind.{common_steps}
use Rattle.kernel_contexts.specs.Owner.{is_owner}
use Rattle.kernel_contexts.specs.Context.{thread_of}
use Rattle.core_unit.specs.Owners.{are_apart, numbers_of}
use Rattle.core_unit.proofs.Cores.{cons_of, first_of}
use Rattle.core_unit.proofs.Owners.{apart_threads}
use Rattle.core_unit.proofs.Moving.{home_of, same_lengths, guest_in, taken_held, taken_on}
use Rattle.core_unit.proofs.moves.take_bank.Goals as goal

pub bank_in-requires-clause-home : goal.bank_in-requires-clause-home
bank_in-requires-clause-home g c =
    let r = c.index_mut.result.now in
    let xs = c.free_bank.new.residents.items in
    let some : 0 < length xs = grind (arith, common_steps, c.requires.some, c.free_bank.ensures.len) in
    let split = cons_of xs r some c.index_mut.ensures.value in
    home_of r.context c.free_bank.new.bank (c.free_bank.ensures.on 0 r (first_of xs split.0 r split.1))
    (ap (λ o. is_owner o (thread_of r.context)) c.free_bank.ensures.owner)

pub bank_in-requires-clause-lengths : goal.bank_in-requires-clause-lengths
bank_in-requires-clause-lengths g c =
    let r = c.index_mut.result.now in
    let xs = c.free_bank.new.residents.items in
    let some : 0 < length xs = grind (arith, common_steps, c.requires.some, c.free_bank.ensures.len) in
    let split = cons_of xs r some c.index_mut.ensures.value in
    (c.free_bank.ensures.on 0 r (first_of xs split.0 r split.1)).lengths

pub returns-clause-held : goal.returns-clause-held
returns-clause-held g c =
    let r = c.index_mut.result.now in
    let xs = c.free_bank.new.residents.items in
    let bank = c.free_bank.new.bank in
    let after = c.bank_in.new.bank in
    let moved = c.bank_in.ensures in
    let some : 0 < length xs = grind (arith, common_steps, c.requires.some, c.free_bank.ensures.len) in
    let split = cons_of xs r some c.index_mut.ensures.value in
    let apart = apart_threads (λ r. r.context) (λ r. r.ticket) bank xs
    (ap (λ l. are_apart (numbers_of l)) c.free_bank.ensures.held ∙ c.requires.told.apart) in
    let guest = guest_in r.context c.bank_in.new.self moved.same moved.stop moved.journal bank after
    (ap (λ o. is_owner o (thread_of r.context)) c.free_bank.ensures.owner) moved.state in
    taken_held (λ r. r.context) (λ r. r.ticket) bank after xs split.0 r _ split.1 c.free_bank.ensures.owner moved.owner apart
    (λ i. record { guest = guest i; ticket = r.ticket })
    ∙ c.free_bank.ensures.held

pub returns-clause-on : goal.returns-clause-on
returns-clause-on g c =
    let r = c.index_mut.result.now in
    let xs = c.free_bank.new.residents.items in
    let bank = c.free_bank.new.bank in
    let after = c.bank_in.new.bank in
    let moved = c.bank_in.ensures in
    let some : 0 < length xs = grind (arith, common_steps, c.requires.some, c.free_bank.ensures.len) in
    let split = cons_of xs r some c.index_mut.ensures.value in
    let here = c.free_bank.ensures.on 0 r (first_of xs split.0 r split.1) in
    let apart = apart_threads (λ r. r.context) (λ r. r.ticket) bank xs
    (ap (λ l. are_apart (numbers_of l)) c.free_bank.ensures.held ∙ c.requires.told.apart) in
    taken_on (λ r. r.context) (λ r. r.ticket) bank after xs split.0 r _ split.1 c.free_bank.ensures.owner moved.owner apart
    moved.on c.free_bank.ensures.on (same_lengths _ _ bank after moved.same.config here.lengths moved.on.lengths)

pub returns-clause-lengths : goal.returns-clause-lengths
returns-clause-lengths g c =
    let r = c.index_mut.result.now in
    let xs = c.free_bank.new.residents.items in
    let bank = c.free_bank.new.bank in
    let moved = c.bank_in.ensures in
    let some : 0 < length xs = grind (arith, common_steps, c.requires.some, c.free_bank.ensures.len) in
    let split = cons_of xs r some c.index_mut.ensures.value in
    let here = c.free_bank.ensures.on 0 r (first_of xs split.0 r split.1) in
    let same = same_lengths _ _ bank c.bank_in.new.bank moved.same.config here.lengths moved.on.lengths in
    record { vl = same.vl ∙ c.free_bank.ensures.lengths.vl; svl = same.svl ∙ c.free_bank.ensures.lengths.svl }
