use Rattle.std.proofs.Common.{◌≡◌, ◌+◌, ◌%◌, ◌++◌, ◌/◌, length, take, drop, get_or, ap, sym, ◌∙◌}
use Rattle.paged_memory.proofs.Held.{numbers_of-kept, owned_at}
use Rattle.paged_memory.proofs.Set.{fine_set, run_flags, run_bytes, run_length}
use Rattle.paged_memory.proofs.writes.set_at.Goals as goal

pub set-requires-clause-own : goal.set-requires-clause-own
set-requires-clause-own c =
    ap (λ p. p.bytes.own) c.index_mut-page.ensures.value
    ∙ sym (owned_at c.args.pages.now.items c.args.i (c.args.address / 4096) c.index_mut-page.result.now c.requires.fine c.requires.place
    c.requires.page) ∙ c.requires.owned

pub set-requires-clause-inside : goal.set-requires-clause-inside
set-requires-clause-inside c =
    let full : length c.index_mut-page.result.now.bytes.items ≡ 4096 =
    ap (λ p. length p.bytes.items) c.index_mut-page.ensures.value
    ∙ c.requires.fine.full c.args.i c.index_mut-page.result.now c.requires.place in
    rw full c.requires.fits

pub returns-clause-fine : goal.returns-clause-fine
returns-clause-fine c =
    let full : length c.index_mut-page.result.now.bytes.items ≡ 4096 =
    ap (λ p. length p.bytes.items) c.index_mut-page.ensures.value
    ∙ c.requires.fine.full c.args.i c.index_mut-page.result.now c.requires.place in
    let whole : length c.set.new.self.items ≡ 4096 =
    ap (λ b. length b.items) c.set.ensures
    ∙ run_length c.index_mut-page.result.now.bytes.items c.args.bytes.now (c.args.address % 4096) full c.requires.fits in
    fine_set c.args.pages.now.items c.args.i
    (record {
      number = c.index_mut-page.result.now.number;
      flags = c.index_mut-page.result.now.flags;
      bytes = c.set.new.self;
    }) c.index_mut-page.result.now c.requires.fine c.requires.place whole
    (rw c.index_mut-page.ensures.value (c.requires.fine.flags c.args.i c.index_mut-page.result.now c.requires.place))
    (ap (λ p. p.number) c.index_mut-page.ensures.value)

pub returns-clause-flags : goal.returns-clause-flags
returns-clause-flags c =
    run_flags c.args.pages.now.items c.args.i (c.args.address / 4096) _ c.index_mut-page.result.now c.requires.fine c.requires.place
    c.requires.page (ap (λ p. p.number) c.index_mut-page.ensures.value) (ap (λ p. p.flags) c.index_mut-page.ensures.value)

pub returns-clause-bytes : goal.returns-clause-bytes
returns-clause-bytes c =
    let set_to : c.set.new.self.items
    ≡ take (c.args.address % 4096) (get_or c.args.pages.now.items c.args.i c.index_mut-page.result.now).bytes.items
    ++ (c.args.bytes.now ++ drop (c.args.address % 4096 + length c.args.bytes.now)
    (get_or c.args.pages.now.items c.args.i c.index_mut-page.result.now).bytes.items) =
    ap (λ b. b.items) c.set.ensures
    ∙ ap (λ x. take (c.args.address % 4096) x ++ (c.args.bytes.now ++ drop (c.args.address % 4096 + length c.args.bytes.now) x))
    (ap (λ p. p.bytes.items) c.index_mut-page.ensures.value) in
    run_bytes c.args.pages.now.items c.args.i c.args.address c.args.bytes.now
    (record {
      number = c.index_mut-page.result.now.number;
      flags = c.index_mut-page.result.now.flags;
      bytes = c.set.new.self;
    }) c.index_mut-page.result.now c.requires.fine (returns-clause-fine c) c.requires.place c.requires.page
    (ap (λ p. p.number) c.index_mut-page.ensures.value) c.requires.fits set_to

pub returns-clause-owned : goal.returns-clause-owned
returns-clause-owned c =
    numbers_of-kept c.args.pages.now.items c.args.i _ c.index_mut-page.result.now c.requires.place
    (ap (λ p. p.number) c.index_mut-page.ensures.value)
    (ap (λ b. b.own) c.set.ensures ∙ sym c.requires.owned
    ∙ owned_at c.args.pages.now.items c.args.i (c.args.address / 4096) c.index_mut-page.result.now c.requires.fine c.requires.place
    c.requires.page)
