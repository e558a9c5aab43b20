use Rattle.std.proofs.Common.{◌∙◌, ap, sym, length}
use Rattle.std.proofs.lemmas.Result.{on_err_weaker, on_ok_weaker}
use Rattle.paged_memory.proofs.Set.{fine_set}
use Rattle.paged_memory.proofs.Held.{memory_of-kept, numbers_of-kept, numbers_of-own, page_at-kept, owned_at}
use Rattle.paged_memory.proofs.writes.own_at.Goals as goal

pub returns-clause-fine : goal.returns-clause-fine
returns-clause-fine c =
    fine_set c.args.pages.now.items c.args.i
    (record {
      number = c.index_mut-page.result.now.number;
      flags = c.index_mut-page.result.now.flags;
      bytes = c.make_own.new.self;
    }) c.index_mut-page.result.now c.requires.fine c.requires.place
    (ap length (c.make_own.ensures.items ∙ ap (λ p. p.bytes.items) c.index_mut-page.ensures.value)
    ∙ c.requires.fine.full c.args.i c.index_mut-page.result.now c.requires.place)
    (rw c.index_mut-page.ensures.value (c.requires.fine.flags c.args.i c.index_mut-page.result.now c.requires.place))
    (ap (λ p. p.number) c.index_mut-page.ensures.value)

pub returns-clause-memory : goal.returns-clause-memory
returns-clause-memory c =
    memory_of-kept c.args.pages.now.items c.args.i _ c.index_mut-page.result.now c.requires.place
    (ap (λ p. p.number) c.index_mut-page.ensures.value) (ap (λ p. p.flags) c.index_mut-page.ensures.value)
    (c.make_own.ensures.items ∙ ap (λ p. p.bytes.items) c.index_mut-page.ensures.value)

pub returns-clause-page : goal.returns-clause-page
returns-clause-page c =
    page_at-kept c.args.pages.now.items c.args.i c.args.number _ c.index_mut-page.result.now (returns-clause-fine c) c.requires.place
    c.requires.page (ap (λ p. p.number) c.index_mut-page.ensures.value)

pub returns-clause-ok : goal.returns-clause-ok
returns-clause-ok c =
    on_ok_weaker c.make_own.result (λ own. numbers_of-own c.args.pages.now.items c.args.i c.args.number _ c.index_mut-page.result.now
    c.requires.fine (returns-clause-fine c) c.requires.place c.requires.page (ap (λ p. p.number) c.index_mut-page.ensures.value) own)
    c.make_own.ensures.ok

pub returns-clause-err : goal.returns-clause-err
returns-clause-err c =
    on_err_weaker c.make_own.result (λ same. numbers_of-kept c.args.pages.now.items c.args.i _ c.index_mut-page.result.now c.requires.place
    (ap (λ p. p.number) c.index_mut-page.ensures.value) (same ∙ ap (λ p. p.bytes.own) c.index_mut-page.ensures.value))
    c.make_own.ensures.err

pub returns-clause-room : goal.returns-clause-room
returns-clause-room c =
    on_err_weaker c.make_own.result (λ shared.
    owned_at c.args.pages.now.items c.args.i c.args.number c.index_mut-page.result.now c.requires.fine c.requires.place c.requires.page
    ∙ ap (λ p. p.bytes.own) (sym c.index_mut-page.ensures.value) ∙ shared) c.make_own.ensures.room
