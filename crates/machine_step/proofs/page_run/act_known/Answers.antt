use Rattle.std.proofs.Common.{◌≡◌, ◌+◌, ◌-◌, ◌%◌, ◌^◌, ℕ, suc, Some, ap, sym, ◌∙◌, arith}
use Rattle.scalar_exec.specs.Apart.{at_distance}
use Rattle.machine_step.proofs.Places.{fetched_at}
use Rattle.machine_step.proofs.page_run.act_known.Goals as goal

pub turns-preserved : goal.turns-preserved
turns-preserved g c =
    let m = c.args.pages.now.memory in
    let word = c.index-places-place.result.word in
    let within = c.is_word_place.ensures.within c.if-not-is_word_place.false in
    let aligned = c.is_word_place.ensures.aligned c.if-not-is_word_place.false in
    let read = c.word_of.ensures m c.args.base c.requires.held (omega arith) in
    let one_more : c.args.most - (c.turns.left - 1) ≡ suc (c.args.most - c.turns.left) = omega arith in
    let there : (c.args.base + c.turns.at) % 2 ^ 64 ≡ c.args.base + c.turns.at = omega arith in
    record {
      computed = rw one_more (
        at_distance c.args.base c.turns.at c.turns.s,
        c.turns.bank,
        c.turns.invariant.computed,
        record {
          word = word;
          aligned = ap (λ (p : ℕ). p % 4) there ∙ omega arith;
          fetched = fetched_at m ((c.args.base + c.turns.at) % 2 ^ 64) _ _ (sym there) read
              ∙ ap Some (sym c.if-word-word_of.false ∙ c.word.ensures);
          unhalted = cc;
          made = c.in-Some.ensures;
        },
      );
      few = omega arith;
    }
