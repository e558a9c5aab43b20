use Rattle.std.proofs.Common.{◌≡◌, ◌∙◌, rules, ap, true, ◌<◌, length, bit_or}
use Rattle.std.proofs.lemmas.List.Elements.{All-set}
use Rattle.paged_memory.specs.Pages.{memory_of}
use Rattle.paged_memory.proofs.Set.{fine_set, none_found}
use Rattle.paged_memory.proofs.Touch.{sum_of_both, old_flags, old_zero, new_flags, new_zero}
use Rattle.paged_memory.proofs.image.touch.Goals as goal

pub add_page-requires-clause-missing : goal.add_page-requires-clause-missing
add_page-requires-clause-missing c = none_found c.args.pages.now.items c.args.number (rw c.as_slice.ensures.value at c.in-None.ensures)

pub returns-in-Some-clause-fine : goal.returns-in-Some-clause-fine
returns-in-Some-clause-fine c =
    let within : c.in-Some.i < length c.args.pages.now.items = rw c.as_slice.ensures.value at c.in-Some.ensures.0 in
    fine_set c.args.pages.now.items c.in-Some.i
    (record {
      number = c.index_mut-page.result.now.number;
      flags = bit_or c.args.flags c.index_mut-page.result.now.flags;
      bytes = c.index_mut-page.result.now.bytes;
    }) c.index_mut-page.result.now c.requires.fine within
    (ap (λ p. length p.bytes.items) c.index_mut-page.ensures.value ∙ c.requires.fine.full c.in-Some.i c.index_mut-page.result.now within)
    (sum_of_both c.args.flags c.index_mut-page.result.now.flags c.requires.sum
    (rw c.index_mut-page.ensures.value (c.requires.fine.flags c.in-Some.i c.index_mut-page.result.now within)))
    (ap (λ p. p.number) c.index_mut-page.ensures.value)

pub returns-in-Some-clause-zero : goal.returns-in-Some-clause-zero
returns-in-Some-clause-zero c =
    old_zero c.args.pages.now.items c.in-Some.i c.args.number _ c.index_mut-page.result.now c.requires.fine (returns-in-Some-clause-fine c)
    c.requires.zero (rw c.as_slice.ensures.value at c.in-Some.ensures.0) (rw c.as_slice.ensures.value at c.in-Some.ensures.1)
    (ap (λ p. p.number) c.index_mut-page.ensures.value) (ap (λ p. p.bytes.items) c.index_mut-page.ensures.value)

pub returns-in-Some-clause-flags : goal.returns-in-Some-clause-flags
returns-in-Some-clause-flags c n =
    old_flags c.args.pages.now.items c.in-Some.i c.args.number c.args.flags _ c.index_mut-page.result.now n c.requires.fine
    (rw c.as_slice.ensures.value at c.in-Some.ensures.0) (rw c.as_slice.ensures.value at c.in-Some.ensures.1)
    (ap (λ p. p.number) c.index_mut-page.ensures.value) (ap (λ p. bit_or c.args.flags p.flags) c.index_mut-page.ensures.value)

pub returns-in_ok-add_page-in-None-clause-zero : goal.returns-in_ok-add_page-in-None-clause-zero
returns-in_ok-add_page-in-None-clause-zero c =
    new_zero (memory_of c.args.pages.now.items) (memory_of c.add_page.new.pages.items) c.args.number c.args.flags
    c.own_of.result.items c.requires.zero c.requires.low
    (ap (λ b. b.items) c.own_of.ensures ∙ c.in_ok-bytes-in-None.ensures.items_if_clones_equal (λ y h. search rules))
    c.in_ok-add_page-in-None.ensures.memory

pub returns-in_ok-add_page-in-None-clause-flags : goal.returns-in_ok-add_page-in-None-clause-flags
returns-in_ok-add_page-in-None-clause-flags c n =
    new_flags (memory_of c.args.pages.now.items) (memory_of c.add_page.new.pages.items) c.args.number c.args.flags
    c.own_of.result.items n (none_found c.args.pages.now.items c.args.number
    (rw c.as_slice.ensures.value at c.in-None.ensures)) c.in_ok-add_page-in-None.ensures.memory

pub returns-in-Some-clause-own : goal.returns-in-Some-clause-own
returns-in-Some-clause-own c =
    let within : c.in-Some.i < length c.args.pages.now.items = rw c.as_slice.ensures.value at c.in-Some.ensures.0 in
    All-set (λ p. p.bytes.own ≡ true) c.args.pages.now.items c.in-Some.i _
    (ap (λ p. p.bytes.own) c.index_mut-page.ensures.value ∙ c.requires.own c.in-Some.i c.index_mut-page.result.now within) c.requires.own
