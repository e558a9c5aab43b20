use Rattle.std.proofs.Common.{sym, ◌∙◌}
use Rattle.machine_step.proofs.Computing.{vector_computes, vector_grouped}
use Rattle.machine_step.proofs.Known.{vector_row}
use Rattle.machine_step.proofs.decoder.Decoded.compute_vectors.Goals as goal

pub compute_on-requires-clause-computed : goal.compute_on-requires-clause-computed
compute_on-requires-clause-computed c =
    vector_computes c.args.self.now.insn (sym c.is_anywhere.ensures ∙ c.if-not-is_anywhere.false)

pub compute_on-requires-clause-fields : goal.compute_on-requires-clause-fields
compute_on-requires-clause-fields c =
    let it = c.args.self.now.insn in
    vector_row c.args.self.now.word it c.requires c.args.self.now.known
    (vector_grouped it (vector_computes it (sym c.is_anywhere.ensures ∙ c.if-not-is_anywhere.false)))
