use Rattle.std.proofs.Common.{◌≡◌, ◌+◌, ◌-◌, ◌%◌, ◌/◌, ◌^◌, ℕ, suc, Some, true, false, ap, sym, subst, ◌∙◌, arith}
use Rattle.std.specs.Prelude.{List, get_or, length}
use Rattle.paged_memory.specs.Memory.{bytes_with, word_at}
use Rattle.paged_memory.proofs.Near.{held_stays, shared_owned}
use Rattle.paged_memory.proofs.Owned.{kept_trans}
use Rattle.scalar_exec.specs.Apart.{at_distance}
use Rattle.mem_access.specs.Bank.{bank_state}
use Rattle.mem_access.specs.declared.bank.Bank.{Bank}
use Rattle.machine_step.specs.ProcessorState.{vector_bytes}
use Rattle.machine_step.specs.Machine.{core_of}
use Rattle.machine_step.specs.Next.{Follows}
use Rattle.machine_step.specs.Runs.{machine_at}
use Rattle.machine_step.specs.Several.{AreExecuted}
use Rattle.machine_step.specs.declared.decoder.Decoded.{Decoded}
use Rattle.machine_step.specs.declared.machine.Machine.{Machine}
use Rattle.machine_step.specs.declared.page_run.Next.TheVariants.{Kept}
use Rattle.machine_step.proofs.Computing.{halts_fetched, same_trans}
use Rattle.machine_step.proofs.Places.{fetched_at, word_there}
use Rattle.machine_step.proofs.Steps.{executed_more}
use Rattle.machine_step.proofs.machine.Machine.run_held.Goals as goal

pub turns-preserved : goal.turns-preserved
turns-preserved g c =
    let halts = g.H.Halts.halts c.args.halts.now in
    let base = c.args.base in
    let at = c.turns.at in
    let m = c.turns.self.pages.memory in
    let h = c.turns.invariant in
    let e = c.in-Some.ensures in
    let a = c.act_or_store.new in
    let word = c.index-places-place.result.word in
    let within = c.is_word_place.ensures.within c.if-not-is_word_place.false in
    let held : bytes_with 1 m base 4096 ≡ Some c.bytes-bytes.result.now = h.held.bytes ∙ ap Some (sym c.bytes-bytes.ensures) in
    let read = c.word_of.ensures m base held (omega (arith, c.requires.base)) in
    let there : (base + at) % 2 ^ 64 ≡ base + at = omega (arith, c.requires.base, within) in
    let fetched : word_at m ((base + at) % 2 ^ 64) ≡ Some word =
    fetched_at m ((base + at) % 2 ^ 64) (base + at) (Some c.word_of.result) (sym there) read
    ∙ ap Some (sym c.if-word-word_of.false ∙ c.word.ensures) in
    let unhalted : halts ((base + at) % 2 ^ 64) word ≡ false =
    ap (halts ((base + at) % 2 ^ 64)) (sym c.word-in-turns.ensures) ∙ sym c.if-halts.ensures in
    let one_more : c.args.most - (c.turns.left - 1) ≡ suc (c.args.most - c.turns.left) = omega arith in
    record {
      executed = rw one_more (executed_more halts c.args.apart c.args.bank.now.vectors.vl (c.args.most - c.turns.left)
          (core_of c.args.self.now (bank_state c.args.bank.now)) (machine_at base at c.turns.self) c.turns.bank
          (machine_at base c.in-Some.next a.self) a.bank h.same.vl h.executed e.made.effect e.made.kept
          (halts_fetched halts m ((base + at) % 2 ^ 64) word false fetched unhalted));
      few = omega arith;
      held = held_stays c.args.code.now c.turns.self.pages a.self.pages base c.requires.base (omega arith) e.shared h.held;
      owned = kept_trans c.args.self.now.pages c.turns.self.pages a.self.pages h.owned
          (shared_owned c.turns.self.pages a.self.pages e.shared);
      same = same_trans c.args.bank.now c.turns.bank a.bank h.same e.same;
      mode = e.mode;
    }

pub returns-then-halts : goal.returns-then-halts
returns-then-halts g c =
    let halts = g.H.Halts.halts c.args.halts.now in
    let base = c.args.base in
    let at = c.turns.at in
    let m = c.turns.self.pages.memory in
    let h = c.turns.invariant in
    let word = c.index-places-place.result.word in
    let within = c.is_word_place.ensures.within c.if-not-is_word_place.false in
    let held : bytes_with 1 m base 4096 ≡ Some c.bytes-bytes.result.now = h.held.bytes ∙ ap Some (sym c.bytes-bytes.ensures) in
    let read = c.word_of.ensures m base held (omega (arith, c.requires.base)) in
    let there : (base + at) % 2 ^ 64 ≡ base + at = omega (arith, c.requires.base, within) in
    let fetched : word_at m ((base + at) % 2 ^ 64) ≡ Some word =
    fetched_at m ((base + at) % 2 ^ 64) (base + at) (Some c.word_of.result) (sym there) read
    ∙ ap Some (sym c.if-word-word_of.false ∙ c.word.ensures) in
    record {
      executed = h.executed;
      few = omega arith;
      next = (
        fetched ∙ ap Some (sym c.word-then-halts.ensures),
        ap (halts ((base + at) % 2 ^ 64)) (c.word-then-halts.ensures ∙ sym c.word-in-turns.ensures) ∙ sym c.if-halts.ensures,
      );
      owned = h.owned;
      same = h.same;
      mode = record { streaming = h.mode.streaming; off = h.mode.off };
    }

pub returns-in-None : goal.returns-in-None
returns-in-None g c =
    let halts = g.H.Halts.halts c.args.halts.now in
    let base = c.args.base in
    let at = c.turns.at in
    let m = c.turns.self.pages.memory in
    let h = c.turns.invariant in
    let e = c.in-None.ensures in
    let a = c.act_or_store.new in
    let places = c.args.decoder.now.places.items in
    let word = c.index-places-place.result.word in
    let within = c.is_word_place.ensures.within c.if-not-is_word_place.false in
    let aligned = c.is_word_place.ensures.aligned c.if-not-is_word_place.false in
    let held : bytes_with 1 m base 4096 ≡ Some c.bytes-bytes.result.now = h.held.bytes ∙ ap Some (sym c.bytes-bytes.ensures) in
    let read = c.word_of.ensures m base held (omega (arith, c.requires.base)) in
    let there : (base + at) % 2 ^ 64 ≡ base + at = omega (arith, c.requires.base, within) in
    let fetched : word_at m ((base + at) % 2 ^ 64) ≡ Some word =
    fetched_at m ((base + at) % 2 ^ 64) (base + at) (Some c.word_of.result) (sym there) read
    ∙ ap Some (sym c.if-word-word_of.false ∙ c.word.ensures) in
    let unhalted : halts ((base + at) % 2 ^ 64) word ≡ false =
    ap (halts ((base + at) % 2 ^ 64)) (sym c.word-in-turns.ensures) ∙ sym c.if-halts.ensures in
    let items : length places ≡ length c.places-places.result.now = ap (λ (l : List Decoded). length l) (sym c.places-places.ensures.items) in
    let next : Follows halts m places (at_distance base at c.turns.self.scalars) (Kept (at / 4)) = record {
      there = omega (arith, within, c.places-places.ensures.count, items);
      aligned = ap (λ (p : ℕ). p % 4) there ∙ omega (arith, c.requires.base, aligned);
      fetched = λ d. fetched ∙ ap Some (sym (word_there places (at / 4) c.index-places-place.result d
          (omega (arith, within, c.places-places.ensures.count, items))
          (c.index-places-place.is ∙ ap (λ (l : List Decoded). get_or l (at / 4) c.index-places-place.result) c.places-places.ensures.items)));
      unhalted = halts_fetched halts m ((base + at) % 2 ^ 64) word false fetched unhalted;
    } in
    record {
      executed =
          subst (λ (n : Machine). AreExecuted halts c.args.apart (vector_bytes c.args.bank.now.vectors.vl) (c.args.most - c.turns.left)
          (core_of c.args.self.now (bank_state c.args.bank.now)) (core_of n (bank_state a.bank))) (sym e.made.0)
          (subst (λ (k : Bank). AreExecuted halts c.args.apart (vector_bytes c.args.bank.now.vectors.vl) (c.args.most - c.turns.left)
          (core_of c.args.self.now (bank_state c.args.bank.now)) (core_of (machine_at base at c.turns.self) (bank_state k)))
          (sym e.made.1) h.executed);
      few = omega arith;
      next = subst (λ (n : Machine). Follows halts n.pages.memory places n.scalars (Kept (at / 4))) (sym e.made.0) next;
      owned = kept_trans c.args.self.now.pages c.turns.self.pages a.self.pages h.owned
          (shared_owned c.turns.self.pages a.self.pages e.shared);
      same = same_trans c.args.bank.now c.turns.bank a.bank h.same e.same;
      mode = e.mode;
    }
