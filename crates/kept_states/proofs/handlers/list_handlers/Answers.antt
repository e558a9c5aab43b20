use Rattle.std.proofs.Common.{◌≡◌, ◌≢◌, ◌+◌, ◌≤◌, ◌<◌, ◌++◌, true, get_or, length, map, subst, refl, ap, sym, ◌∙◌, arith, All}
use Rattle.std.proofs.lemmas.Bool.Decides.{nat_tests}
use Rattle.kernel_contexts.specs.Handlers.{is_signal}
use Rattle.kernel_contexts.specs.LooseState.{AreHandlers, handler_entry}
use Rattle.kernel_contexts.specs.declared.loose_state.Handler.{Handler}
use Rattle.kept_states.proofs.HandlerLists.{begins, passed_over, one_more, all_through, no_handlers, handler_added, lower_still}
use Rattle.kept_states.proofs.HandlerLists.{lower_added, rest_from}
use Rattle.kept_states.proofs.handlers.list_handlers.Goals as goal

pub loop-signal-init : goal.loop-signal-init
loop-signal-init c =
    let none = c.new-list.ensures.items in
    record {
      good = no_handlers c.new-list.result.items none;
      lower = subst (λ (l : _). All (λ h. h.signal < 1) l) (sym none) (λ k d l. absurd (omega arith));
      done = ap (λ l. map handler_entry l ++ rest_from c.args.addresses.now 1) none
          ∙ begins c.args.addresses.now c.requires.count c.requires.signals;
    }

pub loop-signal-preserved-then-address-eq0 : goal.loop-signal-preserved-then-address-eq0
loop-signal-preserved-then-address-eq0 c =
    let h = c.loop-signal.invariant in
    let signal = c.loop-signal.signal in
    let inside : signal < length c.args.addresses.now = omega (arith, c.requires.count) in
    record {
      good = h.good;
      lower = lower_still c.loop-signal.list.items signal (signal + 1) (omega arith) h.lower;
      done = ap (λ es. map handler_entry c.loop-signal.list.items ++ es)
          (sym (passed_over c.args.addresses.now signal inside c.if-address-eq0.true))
          ∙ h.done;
    }

pub loop-signal-preserved : goal.loop-signal-preserved
loop-signal-preserved c =
    let h = c.loop-signal.invariant in
    let signal = c.loop-signal.signal in
    let list = c.loop-signal.list.items in
    let address = get_or c.args.addresses.now signal 0 in
    let added : Handler = record { signal = signal; address = address } in
    let inside : signal < length c.args.addresses.now = omega (arith, c.requires.count) in
    let set : address ≢ 0 = c.if-address-eq0.false in
    let some : 1 ≤ address = grind (arith, set) in
    let is : is_signal signal ≡ true = grind (arith, nat_tests) in
    let grown = c.in_ok-push.ensures.items in
    record {
      good = subst AreHandlers (sym grown) (handler_added list added h.good h.lower is some);
      lower = subst (λ (l : _). All (λ g. g.signal < signal + 1) l) (sym grown) (lower_added list added signal h.lower refl);
      done = sym (one_more c.args.addresses.now signal list c.push.new.self.items added inside set refl grown) ∙ h.done;
    }

pub returns-clause-value : goal.returns-clause-value
returns-clause-value c =
    let past : length c.args.addresses.now ≤ c.loop-signal.signal = omega (arith, c.requires.count) in
    sym (sym (all_through c.args.addresses.now c.loop-signal.signal c.loop-signal.list.items past) ∙ c.loop-signal.invariant.done)
