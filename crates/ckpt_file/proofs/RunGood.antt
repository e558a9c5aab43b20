-- A thread of a run is as the table of a checkpoint asks.
use Rattle.std.proofs.Common.{◌≡◌, ℕ, ◌*◌, ◌<◌, ◌≤◌, ◌^◌, ◌==◌, Bool, true, false, cond, inl, inr, List, length, Option, Some, None}
use Rattle.std.proofs.Common.{refl, ap, sym, ◌∙◌, subst, arith}
use Rattle.std.specs.Prelude.{slice_index, nat_lt, nat_le, is_some, ◌⊎◌}
use Rattle.std.specs.FinMap.{FinMap, get, entries}
use Rattle.std.specs.Ordering.{nat_cmp}
use Rattle.std.proofs.lemmas.Bool.{and_from, le-leb, lt-ltb}
use Rattle.sm_types.specs.Length.{bits_of}
use Rattle.sm_types.specs.Options.{numbers_of, version_of}
use Rattle.sm_types.specs.declared.config.Config.{Config}
use Rattle.sm_types.specs.declared.length.VecLen.{VecLen}
use Rattle.sm_types.specs.declared.length.VecLen.TheVariants.{Bits128, Bits256, Bits512, Bits1024, Bits2048}
use Rattle.sm_types.specs.declared.numbers.Numbers.{Numbers}
use Rattle.paged_memory.specs.Image.{Program}
use Rattle.paged_memory.specs.Memory.{AddressSpace, IsWhole, with_stack}
use Rattle.paged_memory.proofs.Stack.{perm-with_zero_pages}
use Rattle.kernel_contexts.specs.Kernel.{depth_limit}
use Rattle.kernel_contexts.specs.State.{start_state}
use Rattle.kernel_contexts.specs.Watch.{AreOfSignals}
use Rattle.kernel_contexts.specs.HandlerTable.{set_from, handlers_of}
use Rattle.kernel_contexts.proofs.HandlerTable.{handlers_in_order, handler_at, address_or_none}
use Rattle.report_reader.specs.Report.{Report}
use Rattle.ckpt_fields.specs.Rows.{counts, journals, most_depth, is_count}
use Rattle.ckpt_file.specs.Beyond.{HasLoadablePages}
use Rattle.ckpt_file.proofs.Parts.{AreNarrow, IsProgress, IsNarrowEntry, AreHandlersPast}
use Rattle.ckpt_file.proofs.Filling.{Each}
use Rattle.ckpt_file.proofs.Modes.{depth_is}
use Rattle.ckpt_file.proofs.Kept.{HasPlaces, table_past, table_few, narrow_set}

-- ---- the options

short_length : (length : VecLen) → bits_of length < 2 ^ 32
short_length Bits128 = omega arith
short_length Bits256 = omega arith
short_length Bits512 = omega arith
short_length Bits1024 = omega arith
short_length Bits2048 = omega arith

pub options_narrow : (config : Config) → config.budget < 2 ^ 32 → AreNarrow (numbers_of config)
options_narrow config budget =
    let slice = config.slice_in_range.1 in
    let threads = config.threads_in_range.1 in
    let kernel = config.kernel_in_range.1 in
    record {
      vl = short_length config.vl;
      svl = short_length config.svl;
      slice = omega (arith, slice);
      budget = budget;
      threads = omega (arith, threads);
      kernel = omega (arith, kernel);
    }

-- ---- how far it has come

-- what a thread of a run keeps of its progress
pub record IsWithin (config : Config) (thread count events depth turns : ℕ) : Type 0 where
  pub number_within : thread < config.threads
  pub count_within : count < config.budget
  pub events_within : events ≤ 262144
  pub depth_within : depth ≤ depth_limit (version_of config)
  pub turns_within : turns ≤ 64 * config.budget

pub progress_good : (report : Report) (config : Config) (thread count events depth turns : ℕ) → report.options ≡ numbers_of config
    → IsWithin config thread count events depth turns → count < slice_index (counts report) thread
    → events ≤ slice_index (journals report) thread → IsProgress report thread count events depth turns
progress_good report config thread count events depth turns same h more made = record {
  thread_good =
      ap (λ (o : Numbers). nat_lt thread o.threads) same ∙ lt-ltb thread config.threads h.number_within;
  count_good =
      ap (λ (o : Numbers). is_count (slice_index (counts report) thread) o.budget count) same
      ∙ and_from (nat_lt count (slice_index (counts report) thread)) (nat_lt count config.budget)
      (lt-ltb count (slice_index (counts report) thread) more) (lt-ltb count config.budget h.count_within);
  events_good =
      and_from (nat_le events (slice_index (journals report) thread)) (nat_le events 262144)
      (le-leb events (slice_index (journals report) thread) made) (le-leb events 262144 h.events_within);
  depth_good =
      ap (λ (o : Numbers). nat_le depth (most_depth o.kernel)) same
      ∙ le-leb depth (most_depth (numbers_of config).kernel) (subst (λ n. depth ≤ n) (sym (depth_is config)) h.depth_within);
  turns_good =
      ap (λ (o : Numbers). nat_le turns (64 * o.budget)) same ∙ le-leb turns (64 * config.budget) h.turns_within;
}

-- ---- its handlers

none_by : (b : Bool) (a : ℕ) → cond b None (Some a) ≡ None → b ≡ true
none_by true a e = refl
none_by false a e = cc

no_address : (a : ℕ) → address_or_none a ≡ None → (a == 0) ≡ true
no_address a e = none_by (a == 0) a e

-- none is at signal 0
none_at_first : (addresses : List ℕ) → AreOfSignals (handlers_of addresses) → (slice_index addresses 0 == 0) ≡ true
none_at_first addresses h = no_address (slice_index addresses 0) (sym (handler_at addresses 0) ∙ h 0 refl)

-- what the table asks of a map of handlers
pub record AreListed (handlers : FinMap nat_cmp ℕ) : Type 0 where
  pub past : AreHandlersPast 0 (entries handlers)
  pub few : length (entries handlers) ≤ 62
  pub narrow : Each IsNarrowEntry (entries handlers)

pub handlers_listed : (addresses : List ℕ) → length addresses ≡ 63 → AreOfSignals (handlers_of addresses)
    → ((i : ℕ) → slice_index addresses i < 2 ^ 64) → AreListed (handlers_of addresses)
handlers_listed addresses many h small =
    let first : (slice_index addresses 0 == 0) ≡ true = none_at_first addresses h in
    let order : entries (handlers_of addresses) ≡ set_from 0 addresses = handlers_in_order addresses in
    record {
      past = subst (AreHandlersPast 0) (sym order) (table_past addresses many first);
      few = subst (λ (es : List (ℕ × ℕ)). length es ≤ 62) (sym order) (table_few addresses many first);
      narrow = subst (Each IsNarrowEntry) (sym order) (narrow_set 0 addresses (omega (arith, many)) small);
    }

-- ---- its pages

no_page : (o : Option ℕ) → (is_some o ≡ true → ⊥) → o ≡ None
no_page None h = refl
no_page (Some flags) h = absurd (h refl)

not_loadable : (n : ℕ) → 0x7DFFFFFC0 ≤ n → n < 0x7F0000001 → (n < 0x7DFFFFFC0) ⊎ (0x7F0000001 ≤ n) → ⊥
not_loadable n l m (inl below) = omega (arith, l, below)
not_loadable n l m (inr above) = omega (arith, m, above)

too_high : (n : ℕ) → 2 ^ 52 ≤ n → n < 2 ^ 35 → ⊥
too_high n l m = omega (arith, l, m)

-- past the stack a start has the pages of the program
past_stack : (program : Program) (n : ℕ) → 0x7E0000000 ≤ n → get (with_stack program.memory).perm n ≡ get program.memory.perm n
unfolding with_stack
past_stack program n l = perm-with_zero_pages program.memory 0x7DFFFFFC0 6 64 n (omega (arith, l))

pub pages_placed : (program : Program) (m : AddressSpace) → HasLoadablePages program → IsWhole m
    → m.perm ≡ (with_stack program.memory).perm → HasPlaces m
pages_placed program m places whole same = record {
  whole = whole;
  low = λ n l.
      ap (λ (p : FinMap nat_cmp ℕ). get p n) same ∙ past_stack program n (omega (arith, l))
      ∙ no_page (get program.memory.perm n) (λ there. too_high n l (places n there).0);
  private =
      ap (λ (p : FinMap nat_cmp ℕ). get p 0x7F0000000) same ∙ past_stack program 0x7F0000000 (omega arith)
      ∙ no_page (get program.memory.perm 0x7F0000000)
      (λ there. not_loadable 0x7F0000000 (omega arith) (omega arith) (places 0x7F0000000 there).1);
}

-- a start has the pages of its program and the stack
pub start_pages : (program : Program) (config : Config) (thread : ℕ)
    → (start_state program config thread).core.memory.perm ≡ (with_stack program.memory).perm
unfolding start_state
start_pages program config thread = refl
