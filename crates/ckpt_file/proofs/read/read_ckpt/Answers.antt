use Rattle.std.proofs.Common.{◌≡◌, ◌∙◌, ap, sym, subst}
use Rattle.std.specs.List.{concat}
use Rattle.sm_types.specs.Options.{numbers_of}
use Rattle.sm_types.specs.declared.config.Config.{Config}
use Rattle.sve_vectors.specs.Lengths.{vector_bytes}
use Rattle.mem_access.specs.Bank.{bank_state}
use Rattle.mem_access.specs.declared.bank.Bank.{Bank}
use Rattle.machine_step.specs.Machine.{core_of}
use Rattle.machine_step.specs.declared.machine.Machine.{Machine}
use Rattle.signal_frames.specs.Law.{IsInRange}
use Rattle.report_reader.specs.Told.{report_said}
use Rattle.field_table.specs.Table.{IsFilled}
use Rattle.kernel_contexts.specs.LooseState.{IsLooseState}
use Rattle.kernel_contexts.specs.Loose.{loose_state, loose_thread, loose_events, loose_bank}
use Rattle.ckpt_fields.specs.Rows.{checkpoint_table}
use Rattle.ckpt_fields.specs.Values.{fields_said}
use Rattle.ckpt_file.specs.Checkpoint.{checkpoint, checkpoint_values, HasWidths}
use Rattle.ckpt_file.proofs.LooseGood.{loose_good}
use Rattle.ckpt_file.proofs.FromFields.{values_same, widths_are}
use Rattle.ckpt_file.proofs.read.read_ckpt.Goals as goal

pub from_state-requires : goal.from_state-requires
from_state-requires c =
    let r = c.args.report.now in
    loose_good r c.in_ok-state.state c.numbers_fit.ensures c.in_ok-state.ensures.sizes
    (subst (IsFilled (checkpoint_table (report_said r))) (sym (c.in_ok-state.ensures.values r.image)) c.in_ok-fields.ensures.filled)

pub returns-clause-read : goal.returns-clause-read
unfolding checkpoint
returns-clause-read c =
    let r = c.args.report.now in
    let t = c.in_ok-state.state in
    let l = c.in_ok-loose.loose in
    let good : IsLooseState r.config t =
    loose_good r t c.numbers_fit.ensures c.in_ok-state.ensures.sizes
    (subst (IsFilled (checkpoint_table (report_said r))) (sym (c.in_ok-state.ensures.values r.image)) c.in_ok-fields.ensures.filled) in
    let named : checkpoint_values r.image (numbers_of r.config) (loose_state l) (loose_thread l) (loose_events l)
    ≡ fields_said r.image (numbers_of r.config) c.in_ok-fields.fields =
    (λ i. checkpoint_values r.image (numbers_of r.config) (loose_state l) (c.in_ok-loose.ensures.thread i) (c.in_ok-loose.ensures.events i))
    ∙ values_same r.image r.config t (loose_state l) good c.in_ok-loose.ensures.state ∙ c.in_ok-state.ensures.values r.image in
    let vl = l.fits.lengths.vl ∙ ap (λ (k : Config). k.vl) c.in_ok-loose.ensures.config in
    let range : IsInRange (vector_bytes r.config.vl) (loose_state l).core =
    subst (λ v. IsInRange (vector_bytes v) (loose_state l).core) vl
    (subst (λ (m : Machine). IsInRange (vector_bytes (loose_bank l).vectors.vl) (core_of m (bank_state (loose_bank l)))) c.machine.ensures
    (subst (λ (b : Bank). IsInRange (vector_bytes b.vectors.vl) (core_of c.machine.result.now (bank_state b))) c.bank.ensures.value
    c.machines_are_in_range.ensures)) in
    let widths : HasWidths (numbers_of r.config) (loose_state l) t.thread t.events =
    widths_are r.config t (loose_state l) c.numbers_fit.ensures c.in_ok-state.ensures.sizes c.in_ok-loose.ensures.state range in
    record {
      file = c.in_ok-fields.ensures.whole ∙ ap concat (sym named);
      fields = subst (IsFilled (checkpoint_table (report_said r))) (sym named) c.in_ok-fields.ensures.filled;
      widths = subst (λ n. HasWidths (numbers_of r.config) (loose_state l) n (loose_events l)) (sym c.in_ok-loose.ensures.thread)
          (subst (λ n. HasWidths (numbers_of r.config) (loose_state l) t.thread n) (sym c.in_ok-loose.ensures.events) widths);
    }
