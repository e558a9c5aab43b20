use Rattle.std.proofs.Common.{map, ap, ◌∙◌}
use Rattle.kernel_contexts.specs.LooseState.{handler_entry}
use Rattle.kept_states.specs.Listed.{shared_parts}
use Rattle.kept_states.proofs.PageLists.{listed_entries, same_bytes}
use Rattle.kept_states.proofs.kept.KeptState.list_fields.Goals as goal

pub returns-clause-same : goal.returns-clause-same
returns-clause-same c = λ s h.
    let k = c.args.self.now in
    let z = c.in_ok-from_slice.ensures.items ∙ c.as_slice.ensures.value in
    let p = c.in_ok-from_slice-2.ensures.items ∙ c.as_slice-2.ensures.value in
    let ffr = c.in_ok-from_slice-3.ensures.items ∙ c.as_slice-3.ensures.value in
    let za = c.in_ok-from_slice-4.ensures.items ∙ c.as_slice-4.ensures.value in
    let handlers = c.in_ok-from_slice-5.ensures.items ∙ c.as_slice-5.ensures.value in
    let output = c.in_ok-from_slice-6.ensures.items ∙ c.as_slice-6.ensures.value in
    let same = c.in_ok-list_pages.ensures.same ∙ ap (map shared_parts) c.as_slice-7.ensures.value in
    record {
      scalars = record {
        x = h.scalars.x;
        sp = h.scalars.sp;
        pc = h.scalars.pc;
        nzcv = h.scalars.nzcv;
        svcr = h.scalars.svcr;
        streaming = h.scalars.streaming;
        za_on = h.scalars.za_on;
        tpidr = h.scalars.tpidr;
        tpidr2 = h.scalars.tpidr2;
      };
      vectors = record {
        lengths = h.vectors.lengths;
        vectors = h.vectors.vectors ∙ z;
        predicates = h.vectors.predicates ∙ p;
        first_fault = h.vectors.first_fault ∙ ffr;
        square = h.vectors.square;
        array = λ on. h.vectors.array on ∙ za;
        off = h.vectors.off;
      };
      memory = record {
        pages = h.memory.pages ∙ listed_entries c.in_ok-list_pages.field-0.items k.pages.items same;
        bytes = same_bytes c.in_ok-list_pages.field-0.items k.pages.items same s.core.memory h.memory.bytes;
        whole = h.memory.whole;
      };
      kernel = record {
        handlers = h.kernel.handlers ∙ ap (map handler_entry) handlers;
        held = h.kernel.held;
        mask = h.kernel.mask;
        depth = h.kernel.depth;
        polled = h.kernel.polled;
        output = h.kernel.output ∙ output;
        count = h.kernel.count;
        turns = h.kernel.turns;
      };
    }
