use Rattle.report_reader.specs.Told.{report_said}
use Rattle.field_table.proofs.Reading.{reads_more, fails_more}
use Rattle.ckpt_fields.specs.Rows.{checkpoint_table, pages_of, from_output, from_handlers, from_vectors, from_system, from_registers, from_thread}
use Rattle.ckpt_fields.specs.Values.{fields_said}
use Rattle.ckpt_fields.proofs.Faults.{too_long, fault_more, file_fails, file_fault, file_whole, file_filled, file_good}
use Rattle.ckpt_fields.proofs.read.read_fields.Goals as goal

pub returns-then-bytes-clause-fault : goal.returns-then-bytes-clause-fault
returns-then-bytes-clause-fault c =
    too_long (report_said c.args.report.now) c.args.bytes.now c.if-bytes.true

pub returns-in_err-expect_first-clause-fault : goal.returns-in_err-expect_first-clause-fault
unfolding checkpoint_table
returns-in_err-expect_first-clause-fault c =
    file_fails _ _ _ _ _ c.of-place.ensures c.if-bytes.false c.from_residual.ensures.1
    (c.in_err-expect_first.ensures (from_thread (report_said c.args.report.now)))

pub returns-in_err-progress-clause-fault : goal.returns-in_err-progress-clause-fault
unfolding checkpoint_table
returns-in_err-progress-clause-fault c =
    let report = report_said c.args.report.now in
    file_fails _ _ _ _ _ c.of-place.ensures c.if-bytes.false c.from_residual-in_err-progress.ensures.1
    (fails_more (c.in_ok-expect_first.ensures (from_thread report))
    (c.in_err-progress.ensures (from_registers report)))

pub returns-in_err-registers-clause-fault : goal.returns-in_err-registers-clause-fault
unfolding checkpoint_table
returns-in_err-registers-clause-fault c =
    let report = report_said c.args.report.now in
    file_fails _ _ _ _ _ c.of-place.ensures c.if-bytes.false c.from_residual-in_err-registers.ensures.1
    (fails_more (c.in_ok-expect_first.ensures (from_thread report))
    (fails_more (c.in_ok-progress.ensures (from_registers report))
    (c.in_err-registers.ensures.read (from_system report))))

pub returns-in_err-system-clause-fault : goal.returns-in_err-system-clause-fault
unfolding checkpoint_table
returns-in_err-system-clause-fault c =
    let report = report_said c.args.report.now in
    file_fails _ _ _ _ _ c.of-place.ensures c.if-bytes.false c.from_residual-in_err-system.ensures.1
    (fails_more (c.in_ok-expect_first.ensures (from_thread report))
    (fails_more (c.in_ok-progress.ensures (from_registers report))
    (fails_more (c.in_ok-registers.ensures.read (from_system report))
    (c.in_err-system.ensures (from_vectors report)))))

pub returns-in_err-vectors-clause-fault : goal.returns-in_err-vectors-clause-fault
unfolding checkpoint_table
returns-in_err-vectors-clause-fault c =
    let report = report_said c.args.report.now in
    file_fails _ _ _ _ _ c.of-place.ensures c.if-bytes.false c.from_residual-in_err-vectors.ensures.1
    (fails_more (c.in_ok-expect_first.ensures (from_thread report))
    (fails_more (c.in_ok-progress.ensures (from_registers report))
    (fails_more (c.in_ok-registers.ensures.read (from_system report))
    (fails_more (c.in_ok-system.ensures (from_vectors report))
    (c.in_err-vectors.ensures.read from_handlers)))))

pub returns-in_err-handlers-clause-fault : goal.returns-in_err-handlers-clause-fault
unfolding checkpoint_table
returns-in_err-handlers-clause-fault c =
    let report = report_said c.args.report.now in
    file_fault _ _ _ _ _ c.of-place.ensures c.if-bytes.false c.from_residual-in_err-handlers.ensures.1
    (fault_more _ (c.in_ok-expect_first.ensures (from_thread report))
    (fault_more _ (c.in_ok-progress.ensures (from_registers report))
    (fault_more _ (c.in_ok-registers.ensures.read (from_system report))
    (fault_more _ (c.in_ok-system.ensures (from_vectors report))
    (fault_more _ (c.in_ok-vectors.ensures.read from_handlers)
    (c.in_err-handlers.ensures.read from_output))))))

pub returns-in_err-output-clause-fault : goal.returns-in_err-output-clause-fault
unfolding checkpoint_table
returns-in_err-output-clause-fault c =
    let report = report_said c.args.report.now in
    file_fails _ _ _ _ _ c.of-place.ensures c.if-bytes.false c.from_residual-in_err-output.ensures.1
    (fails_more (c.in_ok-expect_first.ensures (from_thread report))
    (fails_more (c.in_ok-progress.ensures (from_registers report))
    (fails_more (c.in_ok-registers.ensures.read (from_system report))
    (fails_more (c.in_ok-system.ensures (from_vectors report))
    (fails_more (c.in_ok-vectors.ensures.read from_handlers)
    (fails_more (c.in_ok-handlers.ensures.read from_output)
    (c.in_err-output.ensures.read pages_of)))))))

pub returns-in_err-pages-clause-fault : goal.returns-in_err-pages-clause-fault
unfolding checkpoint_table
returns-in_err-pages-clause-fault c =
    let report = report_said c.args.report.now in
    file_fault _ _ _ _ _ c.of-place.ensures c.if-bytes.false c.from_residual-in_err-pages.ensures.1
    (fault_more _ (c.in_ok-expect_first.ensures (from_thread report))
    (fault_more _ (c.in_ok-progress.ensures (from_registers report))
    (fault_more _ (c.in_ok-registers.ensures.read (from_system report))
    (fault_more _ (c.in_ok-system.ensures (from_vectors report))
    (fault_more _ (c.in_ok-vectors.ensures.read from_handlers)
    (fault_more _ (c.in_ok-handlers.ensures.read from_output)
    (fault_more _ (c.in_ok-output.ensures.read pages_of)
    (c.in_err-pages.ensures.read))))))))

pub returns-in_err-end-clause-fault : goal.returns-in_err-end-clause-fault
unfolding checkpoint_table
returns-in_err-end-clause-fault c =
    let report = report_said c.args.report.now in
    file_fails _ _ _ _ _ c.of-place.ensures c.if-bytes.false c.from_residual-in_err-end.ensures.1
    (fails_more (c.in_ok-expect_first.ensures (from_thread report))
    (fails_more (c.in_ok-progress.ensures (from_registers report))
    (fails_more (c.in_ok-registers.ensures.read (from_system report))
    (fails_more (c.in_ok-system.ensures (from_vectors report))
    (fails_more (c.in_ok-vectors.ensures.read from_handlers)
    (fails_more (c.in_ok-handlers.ensures.read from_output)
    (fails_more (c.in_ok-output.ensures.read pages_of)
    (fails_more (c.in_ok-pages.ensures.read)
    (c.in_err-end.ensures)))))))))

pub returns-clause-whole : goal.returns-clause-whole
unfolding checkpoint_table fields_said
returns-clause-whole c =
    let report = report_said c.args.report.now in
    file_whole c.args.bytes.now c.of-place.ensures
    (reads_more (c.in_ok-expect_first.ensures (from_thread report))
    (reads_more (c.in_ok-progress.ensures (from_registers report))
    (reads_more (c.in_ok-registers.ensures.read (from_system report))
    (reads_more (c.in_ok-system.ensures (from_vectors report))
    (reads_more (c.in_ok-vectors.ensures.read from_handlers)
    (reads_more (c.in_ok-handlers.ensures.read from_output)
    (reads_more (c.in_ok-output.ensures.read pages_of)
    (c.in_ok-pages.ensures.read))))))))
    c.in_ok-end.ensures

pub returns-clause-filled : goal.returns-clause-filled
unfolding checkpoint_table fields_said
returns-clause-filled c =
    let report = report_said c.args.report.now in
    file_filled
    (reads_more (c.in_ok-expect_first.ensures (from_thread report))
    (reads_more (c.in_ok-progress.ensures (from_registers report))
    (reads_more (c.in_ok-registers.ensures.read (from_system report))
    (reads_more (c.in_ok-system.ensures (from_vectors report))
    (reads_more (c.in_ok-vectors.ensures.read from_handlers)
    (reads_more (c.in_ok-handlers.ensures.read from_output)
    (reads_more (c.in_ok-output.ensures.read pages_of)
    (c.in_ok-pages.ensures.read))))))))

pub returns-clause-good : goal.returns-clause-good
unfolding checkpoint_table fields_said
returns-clause-good c =
    let report = report_said c.args.report.now in
    let read =
    (reads_more (c.in_ok-expect_first.ensures (from_thread report))
    (reads_more (c.in_ok-progress.ensures (from_registers report))
    (reads_more (c.in_ok-registers.ensures.read (from_system report))
    (reads_more (c.in_ok-system.ensures (from_vectors report))
    (reads_more (c.in_ok-vectors.ensures.read from_handlers)
    (reads_more (c.in_ok-handlers.ensures.read from_output)
    (reads_more (c.in_ok-output.ensures.read pages_of)
    (c.in_ok-pages.ensures.read)))))))) in
    file_good report c.args.bytes.now _ c.if-bytes.false (file_filled read)
    (file_whole c.args.bytes.now c.of-place.ensures read c.in_ok-end.ensures)
