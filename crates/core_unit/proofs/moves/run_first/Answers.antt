use Rattle.std.proofs.Common.{◌≡◌, ◌<◌, ◌-◌, ◌∙◌, ◌∷◌, ℕ, Some, true, false, length, ap, sym, subst, arith}
use Rattle.std.specs.Prelude.{slice_set}
use Rattle.std.proofs.lemmas.Grind.{common_steps}
use Rattle.plain_lemmas.proofs.Lists.{cons_inj_left}
use Rattle.shared_region.specs.Tickets.{GivesEvents}
use Rattle.kernel_contexts.specs.Owner.{is_owner}
use Rattle.kernel_contexts.specs.Context.{thread_of}
use Rattle.core_unit.specs.CoreState.{first_number}
use Rattle.kernel_contexts.specs.Guest.{guest_on}
use Rattle.core_unit.specs.Held.{Held, held_on}
use Rattle.core_unit.specs.Need.{need_in_run}
use Rattle.core_unit.specs.Owners.{are_apart, numbers_of, moved}
use Rattle.core_unit.specs.Run.{RunsFirst, answers_of}
use Rattle.core_unit.proofs.Cores.{cons_of, first_of}
use Rattle.core_unit.proofs.Owners.{item, threads, apart_threads, held_numbers, told_as, same_tails, is_own}
use Rattle.core_unit.proofs.Moving.{others_held, others_on, ran_held, ran_on, split_on, split_apart}
use Rattle.core_unit.proofs.Joining.{runs_here, held_joined, need_joined, owner_stays}
use Rattle.core_unit.proofs.moves.run_first.Goals as goal

pub make_turns-requires-clause-on : goal.make_turns-requires-clause-on
make_turns-requires-clause-on g c =
    let r = c.index_mut.result.now in
    let xs = c.args.residents.now.items in
    let some : 0 < length xs = grind (arith, common_steps, c.requires.some) in
    let split = cons_of xs r some c.index_mut.ensures.value in
    c.requires.on 0 r (first_of xs split.0 r split.1)

pub take_bank-requires-clause-on : goal.take_bank-requires-clause-on
take_bank-requires-clause-on g c =
    let r = c.index_mut.result.now in
    let xs = c.args.residents.now.items in
    let bank = c.args.bank.now in
    let some : 0 < length xs = grind (arith, common_steps, c.requires.some) in
    let split = cons_of xs r some c.index_mut.ensures.value in
    let ran = c.make_turns in
    let apart = apart_threads (λ r. r.context) (λ r. r.ticket) bank xs c.requires.told.apart in
    ran_on (λ r. r.context) (λ r. r.ticket) bank ran.new.bank xs split.0 r ran.new.resident split.1 ran.ensures.on
    (others_on (λ r. r.context) (λ r. r.ticket) bank ran.new.bank (thread_of r.context) ran.ensures.bank ran.ensures.apart split.0
    (split_apart (λ r. r.context) (λ r. r.ticket) bank ran.new.bank xs split.0 r split.1 apart)
    (split_on (λ r. r.context) (λ r. r.ticket) bank ran.new.bank xs split.0 r split.1 c.requires.on))

pub take_bank-requires-clause-told : goal.take_bank-requires-clause-told
take_bank-requires-clause-told g c =
    let r = c.index_mut.result.now in
    let xs = c.args.residents.now.items in
    let bank = c.args.bank.now in
    let some : 0 < length xs = grind (arith, common_steps, c.requires.some) in
    let split = cons_of xs r some c.index_mut.ensures.value in
    let ran = c.make_turns in
    told_as bank.owner ran.new.bank.owner _ _ ran.ensures.bank.owner
    (held_numbers (λ r. r.context) (λ r. r.ticket) ran.new.bank (slice_set xs 0 ran.new.resident)
    ∙ ap (λ l. threads (λ r. r.context) (λ r. r.ticket) (slice_set l 0 ran.new.resident)) split.1
    ∙ ap (λ n. n ∷ threads (λ r. r.context) (λ r. r.ticket) split.0) ran.ensures.same.thread
    ∙ ap (threads (λ r. r.context) (λ r. r.ticket)) (sym split.1)
    ∙ sym (held_numbers (λ r. r.context) (λ r. r.ticket) bank xs))
    c.requires.told

pub make_turns-requires-in-NeedsBank-clause-on : goal.make_turns-requires-in-NeedsBank-clause-on
make_turns-requires-in-NeedsBank-clause-on g c =
    let r = c.index_mut-in-NeedsBank.result.now in
    let xs = c.take_bank.new.residents.items in
    let some : 0 < length xs = grind (arith, common_steps, c.requires.some, c.take_bank.ensures.len) in
    let split = cons_of xs r some c.index_mut-in-NeedsBank.ensures.value in
    c.take_bank.ensures.on 0 r (first_of xs split.0 r split.1)

pub overflow_add-result : goal.overflow_add-result
overflow_add-result g c =
    omega (arith, c.in-NeedsBank.ensures.turns.1, c.in-Ended-make_turns.ensures.turns.1, c.ranges.k)

-- the first resident when it has taken the bank is the one before
pub unreachable-requires : goal.unreachable-requires
unreachable-requires g c =
    let r = c.index_mut.result.now in
    let xs = c.args.residents.now.items in
    let some : 0 < length xs = grind (arith, common_steps, c.requires.some) in
    let split = cons_of xs r some c.index_mut.ensures.value in
    let ran = c.make_turns in
    let took = c.take_bank in
    let s = c.index_mut-in-NeedsBank.result.now in
    let ys = took.new.residents.items in
    let more : 0 < length ys = grind (arith, common_steps, c.requires.some, took.ensures.len) in
    let after = cons_of ys s more c.index_mut-in-NeedsBank.ensures.value in
    let first = ap (λ l. first_number (held_on (λ r. r.context) (λ r. r.ticket) took.new.bank l)) (sym after.1)
    ∙ ap first_number took.ensures.held in
    let owner = took.ensures.owner ∙ sym first in
    let owned : is_owner took.new.bank.owner (thread_of s.context) ≡ true =
    ap (λ o. is_owner o (thread_of s.context)) owner ∙ is_own (thread_of s.context) in
    let not = c.in-NeedsBank-make_turns.ensures.turns.2 in
    let both : true ≡ false = sym owned ∙ not in
    cc

pub returns-in-Ended-clause-run : goal.returns-in-Ended-clause-run
returns-in-Ended-clause-run g c =
    let r = c.index_mut.result.now in
    let xs = c.args.residents.now.items in
    let bank = c.args.bank.now in
    let some : 0 < length xs = grind (arith, common_steps, c.requires.some) in
    let split = cons_of xs r some c.index_mut.ensures.value in
    let ran = c.make_turns in
    let apart = apart_threads (λ r. r.context) (λ r. r.ticket) bank xs c.requires.told.apart in
    let others = others_held (λ r. r.context) (λ r. r.ticket) bank ran.new.bank (thread_of r.context) ran.ensures.bank
    ran.ensures.apart split.0 (split_apart (λ r. r.context) (λ r. r.ticket) bank ran.new.bank xs split.0 r split.1 apart) in
    runs_here (λ t. g.P.Port.refuses ran.new.port t)
    (λ thread events t u. GivesEvents g.P.Port.gives g.P.Port.name g.P.Port.tells thread events c.args.port.now t ran.new.port u)
    c.args.k bank ran.new.bank _ _ (item (λ r. r.context) (λ r. r.ticket) bank r)
    (item (λ r. r.context) (λ r. r.ticket) ran.new.bank ran.new.resident) (held_on (λ r. r.context) (λ r. r.ticket) bank split.0)
    _ (ap (held_on (λ r. r.context) (λ r. r.ticket) bank) split.1)
    (ran_held (λ r. r.context) (λ r. r.ticket) bank ran.new.bank xs split.0 r ran.new.resident split.1 others)
    (record { first = c.in-Ended.ensures.turns.0; given = ran.ensures.gives })
    (ran.ensures.bank.owner
    ∙ owner_stays (need_in_run c.args.k (guest_on bank r.context) (guest_on ran.new.bank ran.new.resident.context) c.in-Ended.run')
    bank.owner (thread_of r.context) c.in-Ended.ensures.turns.2)

pub returns-in-Ended-clause-on : goal.returns-in-Ended-clause-on
returns-in-Ended-clause-on g c =
    let r = c.index_mut.result.now in
    let xs = c.args.residents.now.items in
    let bank = c.args.bank.now in
    let some : 0 < length xs = grind (arith, common_steps, c.requires.some) in
    let split = cons_of xs r some c.index_mut.ensures.value in
    let ran = c.make_turns in
    let apart = apart_threads (λ r. r.context) (λ r. r.ticket) bank xs c.requires.told.apart in
    ran_on (λ r. r.context) (λ r. r.ticket) bank ran.new.bank xs split.0 r ran.new.resident split.1 ran.ensures.on
    (others_on (λ r. r.context) (λ r. r.ticket) bank ran.new.bank (thread_of r.context) ran.ensures.bank ran.ensures.apart split.0
    (split_apart (λ r. r.context) (λ r. r.ticket) bank ran.new.bank xs split.0 r split.1 apart)
    (split_on (λ r. r.context) (λ r. r.ticket) bank ran.new.bank xs split.0 r split.1 c.requires.on))

pub returns-in-Ended-make_turns-clause-run : goal.returns-in-Ended-make_turns-clause-run
returns-in-Ended-make_turns-clause-run g c =
    let r = c.index_mut.result.now in
    let xs = c.args.residents.now.items in
    let bank = c.args.bank.now in
    let some : 0 < length xs = grind (arith, common_steps, c.requires.some) in
    let split = cons_of xs r some c.index_mut.ensures.value in
    let ran = c.make_turns in
    let apart = split_apart (λ r. r.context) (λ r. r.ticket) bank ran.new.bank xs split.0 r split.1
    (apart_threads (λ r. r.context) (λ r. r.ticket) bank xs c.requires.told.apart) in
    let others = others_held (λ r. r.context) (λ r. r.ticket) bank ran.new.bank (thread_of r.context) ran.ensures.bank
    ran.ensures.apart split.0 apart in
    let mid = ran_held (λ r. r.context) (λ r. r.ticket) bank ran.new.bank xs split.0 r ran.new.resident split.1 others in
    let took = c.take_bank in
    let s = c.index_mut-in-NeedsBank.result.now in
    let ys = took.new.residents.items in
    let more : 0 < length ys = grind (arith, common_steps, c.requires.some, took.ensures.len) in
    let after = cons_of ys s more c.index_mut-in-NeedsBank.ensures.value in
    let again = c.make_turns-in-NeedsBank in
    let old = item (λ r. r.context) (λ r. r.ticket) bank r in
    let now = item (λ r. r.context) (λ r. r.ticket) ran.new.bank ran.new.resident in
    let here = item (λ r. r.context) (λ r. r.ticket) took.new.bank s in
    let next = item (λ r. r.context) (λ r. r.ticket) again.new.bank again.new.resident in
    let whole = ap (held_on (λ r. r.context) (λ r. r.ticket) took.new.bank) (sym after.1) ∙ took.ensures.held ∙ mid in
    let same : here ≡ now = cons_inj_left here now _ _ whole in
    let numbers = held_numbers (λ r. r.context) (λ r. r.ticket) took.new.bank ys in
    let kept = ap (λ l. are_apart (threads (λ r. r.context) (λ r. r.ticket) l)) (sym after.1)
    ∙ ap are_apart (sym numbers) ∙ ap (λ l. are_apart (numbers_of l)) (took.ensures.held ∙ mid)
    ∙ ap (λ n. are_apart (n ∷ numbers_of (held_on (λ r. r.context) (λ r. r.ticket) bank split.0))) ran.ensures.same.thread
    ∙ ap (λ l. are_apart (thread_of r.context ∷ l)) (held_numbers (λ r. r.context) (λ r. r.ticket) bank split.0) ∙ apart in
    let rest = others_held (λ r. r.context) (λ r. r.ticket) took.new.bank again.new.bank (thread_of s.context) again.ensures.bank
    again.ensures.apart after.0 kept ∙ same_tails here now _ _ whole in
    let run' = c.in-Ended-make_turns.run' in
    let made = c.in-NeedsBank.made in
    let has = c.in-NeedsBank.ensures.turns in
    let first : RunsFirst (g.P.Port.refuses again.new.port next.ticket) (c.args.k - made) now.guest next.guest run' =
    subst (λ (h : Held _). RunsFirst (g.P.Port.refuses again.new.port next.ticket) (c.args.k - made) h.guest next.guest run') same
    c.in-Ended-make_turns.ensures.turns.0 in
    let given = subst (λ (h : Held _). GivesEvents g.P.Port.gives g.P.Port.name g.P.Port.tells h.guest.number
    (answers_of h.guest next.guest) ran.new.port h.ticket again.new.port next.ticket) same again.ensures.gives in
    let owner = again.ensures.bank.owner ∙ took.ensures.owner ∙ ap first_number mid
    ∙ ap (λ (n : ℕ). Some n) ran.ensures.same.thread in
    runs_here (λ t. g.P.Port.refuses again.new.port t)
    (λ thread events t u. GivesEvents g.P.Port.gives g.P.Port.name g.P.Port.tells thread events c.args.port.now t again.new.port u)
    c.args.k bank again.new.bank _ _ old next (held_on (λ r. r.context) (λ r. r.ticket) bank split.0) _
    (ap (held_on (λ r. r.context) (λ r. r.ticket) bank) split.1)
    (ap (λ l. held_on (λ r. r.context) (λ r. r.ticket) again.new.bank (slice_set l 0 again.new.resident)) after.1
    ∙ ap (λ l. next ∷ l) rest)
    (held_joined g.P.Port.gives g.P.Port.name g.P.Port.tells g.P.Port.refuses c.args.port.now ran.new.port again.new.port old now next
    made c.args.k has.0 has.1 run' first ran.ensures.gives given)
    (owner ∙ ap (λ f. moved f (thread_of r.context) bank.owner)
    (sym (need_joined (g.P.Port.refuses again.new.port next.ticket) old.guest now.guest next.guest made c.args.k has.0 has.1 run' first
    has.3 has.4)))

pub returns-in-Ended-make_turns-clause-on : goal.returns-in-Ended-make_turns-clause-on
returns-in-Ended-make_turns-clause-on g c =
    let r = c.index_mut.result.now in
    let xs = c.args.residents.now.items in
    let bank = c.args.bank.now in
    let some : 0 < length xs = grind (arith, common_steps, c.requires.some) in
    let split = cons_of xs r some c.index_mut.ensures.value in
    let ran = c.make_turns in
    let apart = split_apart (λ r. r.context) (λ r. r.ticket) bank ran.new.bank xs split.0 r split.1
    (apart_threads (λ r. r.context) (λ r. r.ticket) bank xs c.requires.told.apart) in
    let others = others_held (λ r. r.context) (λ r. r.ticket) bank ran.new.bank (thread_of r.context) ran.ensures.bank
    ran.ensures.apart split.0 apart in
    let mid = ran_held (λ r. r.context) (λ r. r.ticket) bank ran.new.bank xs split.0 r ran.new.resident split.1 others in
    let took = c.take_bank in
    let s = c.index_mut-in-NeedsBank.result.now in
    let ys = took.new.residents.items in
    let more : 0 < length ys = grind (arith, common_steps, c.requires.some, took.ensures.len) in
    let after = cons_of ys s more c.index_mut-in-NeedsBank.ensures.value in
    let again = c.make_turns-in-NeedsBank in
    let numbers = held_numbers (λ r. r.context) (λ r. r.ticket) took.new.bank ys in
    let kept = ap (λ l. are_apart (threads (λ r. r.context) (λ r. r.ticket) l)) (sym after.1)
    ∙ ap are_apart (sym numbers) ∙ ap (λ l. are_apart (numbers_of l)) (took.ensures.held ∙ mid)
    ∙ ap (λ n. are_apart (n ∷ numbers_of (held_on (λ r. r.context) (λ r. r.ticket) bank split.0))) ran.ensures.same.thread
    ∙ ap (λ l. are_apart (thread_of r.context ∷ l)) (held_numbers (λ r. r.context) (λ r. r.ticket) bank split.0) ∙ apart in
    ran_on (λ r. r.context) (λ r. r.ticket) took.new.bank again.new.bank ys after.0 s again.new.resident after.1 again.ensures.on
    (others_on (λ r. r.context) (λ r. r.ticket) took.new.bank again.new.bank (thread_of s.context) again.ensures.bank
    again.ensures.apart after.0 kept
    (split_on (λ r. r.context) (λ r. r.ticket) took.new.bank again.new.bank ys after.0 s after.1 took.ensures.on))
