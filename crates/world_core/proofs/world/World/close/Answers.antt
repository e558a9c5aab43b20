use Rattle.std.proofs.Common.{◌++◌, ◌∷◌, [], if◌then◌else◌, map, length, not, ap, sym, ◌∙◌}
use Rattle.std.proofs.lemmas.List.{map-append, length-map}
use Rattle.kernel_contexts.specs.Guest.{guest_of}
use Rattle.world_core.specs.Parts.{guests_of, core_guests}
use Rattle.world_core.specs.World.{residents_of}
use Rattle.world_core.specs.View.{world_of}
use Rattle.world_core.proofs.Bags.{occurrences-numbers}
use Rattle.world_core.proofs.Finishing.{all_once, all_among, all_home, in_number, sorted_count, placed}
use Rattle.world_core.proofs.world.World.close.Goals as goal

pub invariant_of-result : goal.invariant_of-result
invariant_of-result c =
    let t = c.args.self in
    let done = c.empty_cores.new.into.items in
    let sorted = c.sort_by_number.new.threads.items in
    let contexts = c.in_ok-contexts.contexts.items in
    let ok = c.is_err.ensures.negation ∙ ap not c.if-is_err.false in
    let items = c.append.ensures.items ∙ ap (λ b. if b then t.done.items ++ t.queue.items else t.done.items) ok in
    let is = c.empty_cores.ensures.moved
    ∙ ap (λ l. map (λ x. guest_of x.context) l ++ residents_of (map core_guests t.cores.items)) items
    ∙ ap (λ l. l ++ residents_of (map core_guests t.cores.items)) (map-append (λ x. guest_of x.context) t.done.items t.queue.items) in
    let order = c.sort_by_number.ensures.order t.config.threads
    (λ n. occurrences-numbers (λ x. guest_of x.context) n done ∙ all_once (world_of t) (guests_of done) is t.owned n) in record {
      home = all_home (λ x. x.context) (λ x. x.home) sorted contexts c.in_ok-contexts.ensures;
      order = in_number (λ x. x.context) sorted t.config.threads order contexts c.in_ok-contexts.ensures;
    }

pub returns : goal.returns
returns c =
    let t = c.args.self in
    let w = world_of t in
    let done = c.empty_cores.new.into.items in
    let sorted = c.sort_by_number.new.threads.items in
    let ok = c.is_err.ensures.negation ∙ ap not c.if-is_err.false in
    let items = c.append.ensures.items ∙ ap (λ b. if b then t.done.items ++ t.queue.items else t.done.items) ok in
    let is = c.empty_cores.ensures.moved
    ∙ ap (λ l. map (λ x. guest_of x.context) l ++ residents_of (map core_guests t.cores.items)) items
    ∙ ap (λ l. l ++ residents_of (map core_guests t.cores.items)) (map-append (λ x. guest_of x.context) t.done.items t.queue.items) in
    let order = c.sort_by_number.ensures.order t.config.threads
    (λ n. occurrences-numbers (λ x. guest_of x.context) n done ∙ all_once w (guests_of done) is t.owned n) in
    let all = c.in_ok-contexts.ensures in
    let each = placed (λ x. x.context) (λ x. x.home) done sorted t.config.threads c.sort_by_number.ensures.same order
    c.in_ok-contexts.contexts.items all in record {
      count = ap length all ∙ length-map sorted (λ x. x.context)
          ∙ sorted_count (λ x. x.context) (λ x. x.home) done sorted t.config.threads c.sort_by_number.ensures.same order;
      each = λ k x at. let p = each k x at in record {
        home = p.home;
        number_of = p.number_of;
        among = all_among w (guests_of done) is (guest_of x) p.among;
      };
      ends = c.words-words.ensures.value ∙ sym c.words-words.ensures.plain.ends;
    }
