use Rattle.std.proofs.Common.{rules, ◌≡◌, ◌∙◌, sym, ap, subst, length, true, None, refl}
use Rattle.mem_access.specs.declared.bank.Bank.{Bank}
use Rattle.machine_step.specs.declared.machine.Machine.{Machine}
use Rattle.machine_step.specs.Machine.{core_of}
use Rattle.kernel_contexts.specs.Context.{bank_of}
use Rattle.lazy_saving.specs.Dormant.{IsReady}
use Rattle.za_routines.specs.Places.{places_of}
use Rattle.abi_checker.specs.Keeping.{IsKeptBytes}
use Rattle.std.specs.Prelude.{IsTrue}
use Rattle.paged_memory.specs.Memory.{bytes_with}
use Rattle.abi_checker.proofs.Same.{no_gap}
use Rattle.abi_checker.proofs.open_call.dormant_bytes.Goals as goal

pub returns-in_err-read_bytes-clause-none : goal.returns-in_err-read_bytes-clause-none
returns-in_err-read_bytes-clause-none c =
    let yes : IsTrue c.is_ready.result = search rules in
    let gone : bytes_with 4 c.machine-machine.result.now.pages.memory c.args.places.now.tail 24 ≡ None = search rules in
    absurd (no_gap 4 _ _ 24 gone (c.is_ready.ensures.0 yes).tail.there.readable)

pub returns-in_err-read_bytes-2-clause-none : goal.returns-in_err-read_bytes-2-clause-none
returns-in_err-read_bytes-2-clause-none c =
    let yes : IsTrue c.is_ready.result = search rules in
    let gone : bytes_with 4 c.machine-machine.result.now.pages.memory c.args.places.now.disable 80 ≡ None = search rules in
    absurd (no_gap 4 _ _ 80 gone (c.is_ready.ensures.0 yes).disable.readable)

pub returns-in_err-read_bytes-3-clause-none : goal.returns-in_err-read_bytes-3-clause-none
returns-in_err-read_bytes-3-clause-none c =
    let yes : IsTrue c.is_ready.result = search rules in
    let gone : bytes_with 4 c.machine-machine.result.now.pages.memory c.args.places.now.restore 72 ≡ None = search rules in
    absurd (no_gap 4 _ _ 72 gone (c.is_ready.ensures.0 yes).restore.readable)

pub returns-clause-some : goal.returns-clause-some
returns-clause-some c =
    let yes : IsTrue c.is_ready.result = search rules in
    let on : c.machine-machine.result.now.za_on ≡ true = search rules in
    let pointer : c.machine-machine.result.now.tpidr2 ≡ c.args.address = search rules in
    let same : c.machine-machine.result.now ≡ c.args.context.now.guest.machine = search rules in
    let size : c.size.result ≡ length c.args.context.now.save_area.za.vectors =
    c.size.ensures.value ∙ sym c.size.ensures.square.count ∙ ap (λ (b : Bank). length b.za.vectors) c.bank.ensures.value in
    let ready : IsReady (places_of c.args.places.now) c.machine-machine.result.now.pages.memory c.size.result c.args.address
    c.in_ok-block.block =
    c.is_ready.ensures.0 yes in
    subst
    (λ (m : Machine). IsKeptBytes (places_of c.args.places.now) c.args.address
    (record {
      block = c.in_ok-block.block;
      tail = c.in_ok-read_bytes.field-0;
      disable = c.in_ok-read_bytes-2.field-0;
      restore = c.in_ok-read_bytes-3.field-0;
    })
    (core_of m (bank_of c.args.context.now)))
    same
    (record {
      dormant = record {
        za_on = on;
        pointer = pointer;
        bytes = c.in_ok-block.block;
        ready = subst (λ n. IsReady (places_of c.args.places.now) c.machine-machine.result.now.pages.memory n c.args.address
            c.in_ok-block.block) size
            ready;
      };
      bytes = refl;
      tail = c.in_ok-read_bytes.ensures.some;
      disable = c.in_ok-read_bytes-2.ensures.some;
      restore = c.in_ok-read_bytes-3.ensures.some;
    })
