use Rattle.std.proofs.Common.{◌≡◌, ◌∙◌, ℕ, Some, true, false, refl, ap, sym}
use Rattle.plain_lemmas.proofs.Lists.{slice_get-found}
use Rattle.kernel_contexts.specs.Owner.{is_owner}
use Rattle.kernel_contexts.specs.Context.{thread_of}
use Rattle.core_unit.specs.Owners.{owns_among}
use Rattle.core_unit.proofs.Owners.{is_own, none_at, apart_threads, held_numbers}
use Rattle.core_unit.proofs.Moving.{away_of, home_on, same_lengths, guest_out, freed_held, freed_on}
use Rattle.core_unit.proofs.moves.free_bank.Goals as goal

pub bank_out-requires-clause-away : goal.bank_out-requires-clause-away
bank_out-requires-clause-away g c =
    let r = c.index_mut.result.now in
    let get = slice_get-found c.args.residents.now.items c.in-Some-place_of.place r c.in-Some-place_of.ensures.within
    c.index_mut.ensures.value in
    let is = c.in-Some-place_of.ensures.is r get in
    away_of r.context c.args.bank.now (c.requires.on c.in-Some-place_of.place r get)
    (ap (λ o. is_owner o (thread_of r.context)) (sym c.in-Some.ensures ∙ ap (λ (n : ℕ). Some n) (sym is)) ∙ is_own (thread_of r.context))

pub bank_out-requires-clause-on : goal.bank_out-requires-clause-on
bank_out-requires-clause-on g c =
    let r = c.index_mut.result.now in
    c.requires.on c.in-Some-place_of.place r
    (slice_get-found c.args.residents.now.items c.in-Some-place_of.place r c.in-Some-place_of.ensures.within c.index_mut.ensures.value)

pub unreachable-requires : goal.unreachable-requires
unreachable-requires g c =
    let xs = c.args.residents.now.items in
    let bank = c.args.bank.now in
    let none : owns_among (Some c.in-Some.owner) _ ≡ false =
    none_at (λ r. r.context) (λ r. r.ticket) c.in-Some.owner xs (c.in-None.ensures.none refl) in
    let some = c.requires.told.resident c.in-Some.owner (sym c.in-Some.ensures) in
    let numbers = ap (owns_among (Some c.in-Some.owner)) (held_numbers (λ r. r.context) (λ r. r.ticket) bank xs) in
    let both : true ≡ false = sym some ∙ numbers ∙ none in
    cc

pub returns-clause-held : goal.returns-clause-held
returns-clause-held g c =
    let r = c.index_mut.result.now in
    let xs = c.args.residents.now.items in
    let bank = c.args.bank.now in
    let after = c.bank_out.new.bank in
    let new = c.bank_out.new.self in
    let out = c.bank_out.ensures in
    let place = c.in-Some-place_of.place in
    let get = slice_get-found xs place r c.in-Some-place_of.ensures.within c.index_mut.ensures.value in
    let is = c.in-Some-place_of.ensures.is r get in
    let guest = guest_out r.context new out.same out.stop out.journal bank after
    (ap (λ o. is_owner o (thread_of new)) out.owner) out.state in
    freed_held (λ r. r.context) (λ r. r.ticket) bank after out.owner
    (same_lengths _ _ bank after refl (c.requires.on place r get).lengths out.lengths) xs place r _ get
    (sym c.in-Some.ensures ∙ ap (λ (n : ℕ). Some n) (sym is))
    (apart_threads (λ r. r.context) (λ r. r.ticket) bank xs c.requires.told.apart)
    (λ i. record { guest = guest i; ticket = r.ticket })

pub returns-clause-on : goal.returns-clause-on
returns-clause-on g c =
    let r = c.index_mut.result.now in
    let xs = c.args.residents.now.items in
    let bank = c.args.bank.now in
    let after = c.bank_out.new.bank in
    let new = c.bank_out.new.self in
    let out = c.bank_out.ensures in
    let place = c.in-Some-place_of.place in
    let get = slice_get-found xs place r c.in-Some-place_of.ensures.within c.index_mut.ensures.value in
    let is = c.in-Some-place_of.ensures.is r get in
    freed_on (λ r. r.context) (λ r. r.ticket) bank after out.owner
    (same_lengths _ _ bank after refl (c.requires.on place r get).lengths out.lengths) xs place r _ get
    (sym c.in-Some.ensures ∙ ap (λ (n : ℕ). Some n) (sym is))
    (apart_threads (λ r. r.context) (λ r. r.ticket) bank xs c.requires.told.apart)
    (home_on new r.context after out.same.config out.home (ap (λ o. is_owner o (thread_of new)) out.owner) out.lengths)
    c.requires.on

pub returns-clause-lengths : goal.returns-clause-lengths
returns-clause-lengths g c =
    let r = c.index_mut.result.now in
    let xs = c.args.residents.now.items in
    let place = c.in-Some-place_of.place in
    let get = slice_get-found xs place r c.in-Some-place_of.ensures.within c.index_mut.ensures.value in
    same_lengths _ _ c.args.bank.now c.bank_out.new.bank refl (c.requires.on place r get).lengths c.bank_out.ensures.lengths
