-- A state that has the plain fields of a file is the one that the file says.
use Rattle.std.proofs.Common.{◌≡◌, ℕ, ◌*◌, ◌/◌, ◌%◌, ◌<◌, ◌^◌, ◌++◌, Bool, true, false, List, [], ◌∷◌, length, map, All, refl, ap, sym}
use Rattle.std.proofs.Common.{◌∙◌, subst, arith}
use Rattle.std.specs.Prelude.{if◌then◌else◌}
use Rattle.std.proofs.lemmas.List.{length-map}
use Rattle.std.specs.FinMap.{entries}
use Rattle.sm_types.specs.Options.{numbers_of}
use Rattle.sm_types.specs.declared.config.Config.{Config}
use Rattle.sve_vectors.specs.Lengths.{vector_bytes}
use Rattle.sve_vectors.specs.Predicates.{predicate_bytes}
use Rattle.paged_memory.specs.Memory.{AddressSpace, bytes_from}
use Rattle.paged_memory.specs.PageList.{IsPageImage, image_entry, HasPage}
use Rattle.paged_memory.specs.declared.page_list.PageImage.{PageImage}
use Rattle.mem_access.specs.VectorState.{VectorState}
use Rattle.signal_frames.specs.Law.{IsInRange}
use Rattle.field_table.specs.Rows.{rows}
use Rattle.kernel_contexts.specs.State.{State}
use Rattle.kernel_contexts.specs.LooseState.{IsLooseState, HasFields, HasVectors, handler_entry, loose_length, is_array_on}
use Rattle.kernel_contexts.specs.declared.loose_state.LooseState.{LooseState}
use Rattle.kernel_contexts.specs.declared.loose_state.Handler.{Handler}
use Rattle.ckpt_fields.specs.Rows.{length_for, array_size}
use Rattle.ckpt_fields.specs.Values.{doublewords, first_values, thread_values, system_values, handler_values, output_values}
use Rattle.ckpt_fields.specs.Values.{page_values, page_said}
use Rattle.ckpt_file.specs.Checkpoint.{checkpoint_values, state_values, vector_values, array_values, pages_in, HasWidths}
use Rattle.ckpt_file.specs.Loose.{loose_values, HasLooseSizes, HasNarrowNumbers, IsNarrowEntry}
use Rattle.ckpt_file.proofs.Filling.{Each, each_of_all, all_of_each}
use Rattle.ckpt_file.proofs.Sized.{sized, sized_predicates, rows_whole, flat_is}
use Rattle.ckpt_file.proofs.Modes.{length_is, array_is}

-- ---- pages

pages_said : (m : AddressSpace) (list : List PageImage) → Each IsPageImage list → Each (HasPage m) list
    → map (λ (e : ℕ × ℕ). (4096 * e.0, e.1, bytes_from m.mem (4096 * e.0) 4096)) (map image_entry list) ≡ map page_said list
pages_said m [] good has = refl
pages_said m (p ∷ ps) good has =
    let aligned : p.address % 4096 ≡ 0 = good.0.aligned in
    let place : 4096 * (p.address / 4096) ≡ p.address = omega (arith, aligned) in
    let bytes : bytes_from m.mem (4096 * (p.address / 4096)) 4096 ≡ p.bytes.items =
    ap (λ a. bytes_from m.mem a 4096) place ∙ has.0 in
    let rest = pages_said m ps good.1 has.1 in
    λ i. (place i, p.flags, bytes i) ∷ rest i

-- ---- vectors

vectors_said : (config : Config) (t : LooseState) (v : VectorState) → HasVectors config t v
    → length_for (numbers_of config) t.svcr ≡ loose_length config t
    → vector_values v.registers
    ≡ rows 32 (length_for (numbers_of config) t.svcr) t.z.items
    ++ (rows 16 (length_for (numbers_of config) t.svcr / 8) t.p.items ++ t.ffr.items ∷ [])
unfolding vector_values
vectors_said config t v has long =
    let size : ℕ = loose_length config t in
    let z : v.registers.vectors ≡ rows 32 (length_for (numbers_of config) t.svcr) t.z.items =
    sym (rows_whole 32 size v.registers.vectors has.lengths.vector_count
    (sized 32 size v.registers.vectors has.lengths.vector_count has.lengths.vector_length))
    ∙ ap (rows 32 size) has.vectors ∙ ap (λ n. rows 32 n t.z.items) (sym long) in
    let ps : List (List ℕ) = map predicate_bytes v.registers.predicates in
    let many : length ps ≡ 16 = length-map v.registers.predicates predicate_bytes ∙ has.lengths.predicate_count in
    let p : ps ≡ rows 16 (length_for (numbers_of config) t.svcr / 8) t.p.items =
    sym (rows_whole 16 (size / 8) ps many
    (sized_predicates 16 size v.registers.predicates has.lengths.predicate_count has.lengths.predicate_length))
    ∙ ap (rows 16 (size / 8)) (sym (flat_is predicate_bytes v.registers.predicates) ∙ has.predicates)
    ∙ ap (λ n. rows 16 (n / 8) t.p.items) (sym long) in
    λ i. z i ++ (p i ++ has.first_fault i ∷ [])

array_by : (config : Config) (t : LooseState) (v : VectorState) (on : Bool) → HasVectors config t v → is_array_on t ≡ on
    → (if on then v.za else []) ≡ rows (if on then vector_bytes config.svl else 0) (vector_bytes config.svl) t.za.items
unfolding rows
array_by config t v true has is =
    let size : ℕ = vector_bytes config.svl in
    sym (rows_whole size size v.za has.square.count (sized size size v.za has.square.count has.square.long))
    ∙ ap (rows size size) (has.array is)
array_by config t v false has is = refl

array_said : (config : Config) (t : LooseState) (v : VectorState) (on : Bool) → HasVectors config t v → t.svcr < 4
    → on ≡ is_array_on t
    → array_values on v.za ≡ rows (array_size (numbers_of config) t.svcr) ((numbers_of config).svl / 8) t.za.items
array_said config t v on has modes is =
    ap (λ b. if b then v.za else []) is ∙ array_by config t v (is_array_on t) has refl
    ∙ ap (λ n. rows n (vector_bytes config.svl) t.za.items) (sym (array_is config t.svcr modes))

-- ---- all fields

pub values_same : (digest : List ℕ) (config : Config) (t : LooseState) (s : State) → IsLooseState config t → HasFields config t s
    → checkpoint_values digest (numbers_of config) s t.thread t.events ≡ loose_values digest (numbers_of config) t
unfolding checkpoint_values state_values loose_values pages_in
values_same digest config t s good has =
    let vectors = vectors_said config t s.core.bank has.vectors (length_is config t.svcr) in
    let array = array_said config t s.core.bank s.core.za_on has.vectors good.numbers.modes has.scalars.za_on in
    let pages = ap (map (λ (e : ℕ × ℕ). (4096 * e.0, e.1, bytes_from s.core.memory.mem (4096 * e.0) 4096))) has.memory.pages
    ∙ pages_said s.core.memory t.pages.items (each_of_all IsPageImage t.pages.items good.pages.each)
    (each_of_all (HasPage s.core.memory) t.pages.items has.memory.bytes) in
    λ i.
    first_values digest (numbers_of config)
    ++ (thread_values t.thread (has.kernel.count i) t.events (has.kernel.depth i) (has.kernel.turns i)
    ++ (doublewords (has.scalars.pc i ∷ has.scalars.sp i ∷ has.scalars.x i)
    ++ (system_values (has.scalars.nzcv i) (has.scalars.svcr i) (has.scalars.tpidr i) (has.scalars.tpidr2 i) (has.kernel.held i)
    (has.kernel.mask i) (has.kernel.polled i)
    ++ (vectors i
    ++ (array i
    ++ (handler_values (has.kernel.handlers i)
    ++ (output_values (has.kernel.output i) ++ page_values (pages i))))))))

-- ---- its numbers have the widths of the table

low_pages : (list : List PageImage) → Each (λ (p : PageImage). (p.address < 2 ^ 64) × (p.flags < 256)) list
    → Each (λ (e : ℕ × ℕ). (e.0 < 2 ^ 52) × (e.1 < 2 ^ 8)) (map image_entry list)
low_pages [] h = tt
low_pages (p ∷ ps) h = let low : p.address < 2 ^ 64 = h.0.0 in ((omega (arith, low), h.0.1), low_pages ps h.1)

narrow_handlers : (list : List Handler) → Each IsNarrowEntry list
    → Each (λ (e : ℕ × ℕ). (e.0 < 2 ^ 32) × (e.1 < 2 ^ 64)) (map handler_entry list)
narrow_handlers [] h = tt
narrow_handlers (g ∷ gs) h = (h.0, narrow_handlers gs h.1)

pub widths_are : (config : Config) (t : LooseState) (s : State) → HasNarrowNumbers t
    → HasLooseSizes (numbers_of config) t → HasFields config t s → IsInRange (vector_bytes config.vl) s.core
    → HasWidths (numbers_of config) s t.thread t.events
widths_are config t s narrow sizes has range =
    let low : Each (λ (e : ℕ × ℕ). (e.0 < 2 ^ 52) × (e.1 < 2 ^ 8)) (map image_entry t.pages.items) =
    low_pages t.pages.items (each_of_all (λ (p : PageImage). (p.address < 2 ^ 64) × (p.flags < 256)) t.pages.items sizes.pages) in
    let small : Each (λ (e : ℕ × ℕ). (e.0 < 2 ^ 32) × (e.1 < 2 ^ 64)) (map handler_entry t.handlers.items) =
    narrow_handlers t.handlers.items (each_of_all IsNarrowEntry t.handlers.items sizes.handlers) in
    record {
      core = range;
      array = has.vectors.square.count;
      memory = has.memory.whole;
      pages = subst (All (λ (e : ℕ × ℕ). (e.0 < 2 ^ 52) × (e.1 < 2 ^ 8))) (sym has.memory.pages)
          (all_of_each (λ (e : ℕ × ℕ). (e.0 < 2 ^ 52) × (e.1 < 2 ^ 8)) (map image_entry t.pages.items) low);
      handlers = subst (All (λ (e : ℕ × ℕ). (e.0 < 2 ^ 32) × (e.1 < 2 ^ 64))) (sym has.kernel.handlers)
          (all_of_each (λ (e : ℕ × ℕ). (e.0 < 2 ^ 32) × (e.1 < 2 ^ 64)) (map handler_entry t.handlers.items) small);
      few_handlers =
          let same : length (entries s.handlers) ≡ length (map handler_entry t.handlers.items) = ap length has.kernel.handlers in
          omega (arith, same, length-map t.handlers.items handler_entry, sizes.few_handlers);
      thread = narrow.thread;
      events = narrow.events;
      count = subst (λ n. n < 2 ^ 32) (sym has.kernel.count) narrow.count;
      depth = subst (λ n. n < 2 ^ 32) (sym has.kernel.depth) narrow.depth;
      turns = subst (λ n. n < 2 ^ 64) (sym has.kernel.turns) narrow.turns;
      held = subst (λ n. n < 2 ^ 64) (sym has.kernel.held) narrow.held;
      mask = subst (λ n. n < 2 ^ 64) (sym has.kernel.mask) narrow.mask;
    }
