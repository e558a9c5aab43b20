use Rattle.std.proofs.Common.{◌≡◌, ◌<◌, ◌++◌, ◌-◌, ℕ, [], map, length, refl, sym, ap, ◌∙◌, subst, arith}
use Rattle.std.specs.Prelude.{All, Some}
use Rattle.std.proofs.lemmas.Grind.{common_steps}
use Rattle.std.proofs.lemmas.List.{length-map}
use Rattle.std.proofs.lemmas.List.Elements.{All-head, All-tail, All-map}
use Rattle.std.proofs.lemmas.List.FromFn.{length-range_with_len}
use Rattle.std.proofs.lemmas.List.Sorted.{All-permutation}
use Rattle.std.proofs.lemmas.Simd.{map-map}
use Rattle.kernel_contexts.specs.Context.{thread_of, journal_of}
use Rattle.shared_table.specs.declared.view.SeatView.TheVariants.{Maker}
use Rattle.shared_table.specs.Seats.{seat_name, table_name}
use Rattle.smp_runner.specs.Books.{book_at}
use Rattle.smp_runner.specs.Ended.{IsAtItsStop}
use Rattle.smp_runner.proofs.Books.{starts, taken_in, begun, moved_on, next_number, all_done}
use Rattle.smp_runner.proofs.contexts.in_order.Goals as goal

pub loop-whole-init : goal.loop-whole-init
loop-whole-init c =
    let n = c.args.config.now.threads in
    let sorted = c.sort_by_number.new.threads in
    let none : c.reserve.new.self.items ≡ [] = c.reserve.ensures.items ∙ c.new-contexts.ensures.items in
    let rest = c.into_iter-whole-iterator.ensures.into_iter_gives.0 in
    let order = c.sort_by_number.ensures.order n c.requires.once in
    let all = begun (λ w. w.context) _ sorted.items _ none rest in
    let count : length sorted.items ≡ n =
    sym (length-map sorted.items (λ w. thread_of w.context)) ∙ ap length order ∙ length-range_with_len 0 n in
    let fits = sorted.ok in record {
      name = c.requires.name;
      same = refl;
      book = starts (λ x. journal_of x) _ _ n none c.requires.maker;
      order = ap (map (λ x. thread_of x)) all ∙ map-map (λ x. thread_of x) (λ w. w.context) sorted.items ∙ order;
      ended = subst (All (IsAtItsStop c.args.image.now c.args.config.now)) (sym all)
          (All-map (IsAtItsStop c.args.image.now c.args.config.now) (λ w. w.context) sorted.items
          (All-permutation (λ w. IsAtItsStop c.args.image.now c.args.config.now w.context) _ sorted.items c.sort_by_number.ensures.same
          c.requires.ended));
      named = subst (All (λ w. seat_name w.ticket ≡ table_name c.args.table.now)) (sym rest)
          (All-permutation (λ w. seat_name w.ticket ≡ table_name c.args.table.now) _ sorted.items c.sort_by_number.ensures.same
          c.requires.named);
      room = grind (arith, common_steps, c.reserve.ensures.ok, c.is_err.ensures, c.if-is_err.false);
    }

pub join-requires-clause-name : goal.join-requires-clause-name
join-requires-clause-name c =
    let h = c.loop-whole.invariant in (
      h.name,
      All-head (λ w. seat_name w.ticket ≡ table_name c.args.table.now) _ _
          (subst (All (λ w. seat_name w.ticket ≡ table_name c.args.table.now)) c.in-Some.ensures.steps.0 h.named) ∙ sym h.name,
    )

pub push_reserved-requires : goal.push_reserved-requires
push_reserved-requires c =
    let h = c.loop-whole.invariant in
    let contexts = c.loop-whole.contexts in
    let next = next_number (λ w. w.context) (λ x. thread_of x) c.args.config.now.threads contexts.items _ _ c.in-Some.whole
    c.in-Some.ensures.steps.0 h.order in
    let fits = contexts.ok in omega (arith, next, h.room)

pub loop-whole-preserved : goal.loop-whole-preserved
loop-whole-preserved c =
    let h = c.loop-whole.invariant in
    let n = c.args.config.now.threads in
    let old = c.loop-whole.contexts.items in
    let new = c.push_reserved.new.self.items in
    let whole = c.in-Some.whole in
    let left = c.in-Some.ensures.steps.0 in
    let push = c.push_reserved.ensures.items in
    let next = next_number (λ w. w.context) (λ x. thread_of x) n old _ _ whole left h.order in
    let all = moved_on (λ w. w.context) old new _ _ whole left push in
    record {
      name = c.join.ensures.name ∙ h.name;
      same = c.join.ensures.name ∙ h.same;
      book = taken_in (λ x. journal_of x) _ _ _ old new whole.context n h.book next.0 (whole.number ∙ ap (λ k. Some k) next.1)
          whole.journal c.join.ensures.maker push;
      order = ap (map (λ x. thread_of x)) all ∙ h.order;
      ended = subst (All (IsAtItsStop c.args.image.now c.args.config.now)) (sym all) h.ended;
      named = All-tail (λ w. seat_name w.ticket ≡ table_name c.args.table.now) _ _
          (subst (All (λ w. seat_name w.ticket ≡ table_name c.args.table.now)) left h.named);
      room = omega (arith, h.room, c.push_reserved.ensures.capacity);
    }

pub returns : goal.returns
returns c =
    let h = c.loop-whole.invariant in
    let n = c.args.config.now.threads in
    let contexts = c.loop-whole.contexts.items in
    let left = c.loop-whole.whole-iterator.rest in
    let fits = left.ok in
    let all = all_done (λ w. w.context) contexts left.items (omega (arith, c.in-None.ensures.steps.0)) in
    let order = ap (map (λ x. thread_of x)) (sym all) ∙ h.order in
    let count = sym (length-map contexts (λ x. thread_of x)) ∙ ap length order ∙ length-range_with_len 0 n in
    let out : n - length contexts ≡ 0 = omega (arith, count) in record {
      name = h.same;
      maker = h.book ∙ ap (λ (k : ℕ). Maker (book_at (map (λ x. journal_of x) contexts) k n)) out;
      order = order;
      ended = subst (All (IsAtItsStop c.args.image.now c.args.config.now)) all h.ended;
    }
