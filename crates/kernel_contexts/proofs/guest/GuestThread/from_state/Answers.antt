use Rattle.std.proofs.Common.{◌+◌, ◌*◌, map, refl, ap, ap₂, sym, subst, ◌∙◌}
use Rattle.kernel_contexts.specs.LooseState.{AreHandlers, handler_entry}
use Rattle.bit_ops.specs.Sums.{bool_number}
use Rattle.kernel_contexts.proofs.LooseParts.{svcr_back, signals_alone}
use Rattle.kernel_contexts.proofs.guest.GuestThread.from_state.Goals as goal

pub returns-clause-scalars : goal.returns-clause-scalars
returns-clause-scalars c = λ v.
    let e = c.scalars_of.ensures in
    record {
      x = e.x;
      sp = e.sp;
      pc = e.pc;
      nzcv = e.nzcv;
      svcr = ap₂ (λ a b. bool_number a + 2 * bool_number b) c.bit.ensures c.bit-2.ensures
          ∙ svcr_back c.args.state.svcr c.requires.numbers.modes;
      streaming = c.bit.ensures;
      za_on = c.bit-2.ensures;
      tpidr = refl;
      tpidr2 = refl;
    }

pub returns-clause-memory : goal.returns-clause-memory
returns-clause-memory c = λ v.
    let e = c.in_ok-pages.ensures in
    record { pages = e.pages; bytes = e.bytes; whole = e.whole }

pub returns-clause-kernel : goal.returns-clause-kernel
returns-clause-kernel c = λ v. record {
  handlers = c.table_of.ensures ∙ ap (map handler_entry) c.as_slice.ensures.value;
  held = refl;
  mask = refl;
  depth = refl;
  polled = refl;
  output = refl;
  count = refl;
  turns = refl;
}

pub invariant_of-result-clause-handlers_of_signals : goal.invariant_of-result-clause-handlers_of_signals
invariant_of-result-clause-handlers_of_signals c =
    signals_alone c.args.state.handlers.items _ c.requires.handlers
    (c.table_of.ensures ∙ ap (map handler_entry) c.as_slice.ensures.value)

pub table_of-requires : goal.table_of-requires
table_of-requires c = subst AreHandlers (sym c.as_slice.ensures.value) c.requires.handlers
