use Rattle.std.proofs.Common.{rules, ◌≡◌, ◌+◌, ◌-◌, ◌%◌, ◌^◌, sym, subst, refl}
use Rattle.sm_types.specs.Routines.{tail_words, restore_words, disable_words}
use Rattle.lazy_saving.specs.Dormant.{Places}
use Rattle.abi_checker.specs.Marks.{HasMark, AreWords}
use Rattle.abi_checker.proofs.Marked.{no_word, no_target, mark_words}
use Rattle.abi_checker.proofs.marks.mark_at.Goals as goal
use Rattle.abi_checker.proofs.marks.mark_at.Goals.{else-are_words-via-then-are_words+then-are_words-2+else-are_words-3}
use Rattle.abi_checker.proofs.marks.mark_at.Goals.{else-are_words-via-then-are_words+else-are_words-2, else-are_words-via-else-are_words}

pub returns-then-not-has_first_word-clause-none : goal.returns-then-not-has_first_word-clause-none
returns-then-not-has_first_word-clause-none c = λ p at h.
    let yes = c.has_first_word.ensures p at h in
    let no = c.if-not-has_first_word.true in
    cc

pub returns-in_err-call-clause-none : goal.returns-in_err-call-clause-none
returns-in_err-call-clause-none c =
    let none : (p : Places) → p.tail ≡ c.args.tail → ¬ HasMark c.args.pages.now.memory p =
    λ p at h. no_word c.args.pages.now.memory c.args.tail c.word_in.result c.word_in.ensures p at h c.in_err-call.was in
    search rules

pub returns-in_err-restore-clause-none : goal.returns-in_err-restore-clause-none
returns-in_err-restore-clause-none c =
    let none : (p : Places) → p.tail ≡ c.args.tail → ¬ HasMark c.args.pages.now.memory p =
    λ p at h. no_target c.args.pages.now.memory c.args.tail c.word_in.result c.word_in.ensures p at h c.in_ok-call.call c.in_ok-call.was
    c.in_err-restore.ensures.none in
    search rules

pub returns-then-are_words-3-clause-some : goal.returns-then-are_words-3-clause-some
returns-then-are_words-3-clause-some c =
    let m = c.args.pages.now.memory in
    let e = c.in_ok-restore.ensures.some in
    let first : AreWords m c.args.tail (tail_words c.in_ok-call.call) =
    subst (λ ws. AreWords m c.args.tail ws) c.tail_words.ensures (c.are_words.ensures.0 c.if-are_words.true) in
    let second : AreWords m c.in_ok-restore.restore restore_words =
    subst (λ ws. AreWords m c.in_ok-restore.restore ws) c.routines_are_listed.ensures.restore
    (c.are_words-then-are_words.ensures.0 c.if-are_words-2.true) in
    let third : AreWords m ((c.in_ok-restore.restore + (2 ^ 64 - 80)) % 2 ^ 64) disable_words =
    subst (λ ws. AreWords m ((c.in_ok-restore.restore + (2 ^ 64 - 80)) % 2 ^ 64) ws) c.routines_are_listed.ensures.disable
    (c.are_words-then-are_words-2.ensures.0 c.if-are_words-3.true) in
    record {
      call = c.in_ok-call.call;
      tail = first;
      distance = e.0;
      calls = e.1;
      target = e.2;
      restore = second;
      end = refl;
      disable = third;
    }

pub returns-else-are_words-clause-none : goal.returns-else-are_words-clause-none
returns-else-are_words-clause-none c = λ p at h.
    let m = c.args.pages.now.memory in
    let e = c.in_ok-restore.ensures.some in
    let all = mark_words m c.args.tail c.word_in.result c.word_in.ensures p at h c.in_ok-call.call c.in_ok-call.was e.0 e.1
    c.in_ok-restore.restore e.2 in
    elim c.else-are_words.branch [
      | else-are_words-via-then-are_words+then-are_words-2+else-are_words-3 w ↦
          let yes = w.are_words-then-are_words-2.ensures.1
          (subst (λ ws. AreWords m ((c.in_ok-restore.restore + (2 ^ 64 - 80)) % 2 ^ 64) ws) (sym c.routines_are_listed.ensures.disable)
          all.2) in
          let no = w.if-are_words-3.false in
          cc
      | else-are_words-via-then-are_words+else-are_words-2 w ↦
          let yes = w.are_words-then-are_words.ensures.1
          (subst (λ ws. AreWords m c.in_ok-restore.restore ws) (sym c.routines_are_listed.ensures.restore) all.1) in
          let no = w.if-are_words-2.false in
          cc
      | else-are_words-via-else-are_words w ↦
          let yes = c.are_words.ensures.1 (subst (λ ws. AreWords m c.args.tail ws) (sym c.tail_words.ensures) all.0) in
          let no = w.if-are_words.false in
          cc
    ]
