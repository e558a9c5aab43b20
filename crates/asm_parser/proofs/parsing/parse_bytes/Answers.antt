use Rattle.asm_parser.specs.Statements.{says_of}
use Rattle.asm_parser.proofs.Labels.{line-ok, line-err, line-memory}
use Rattle.asm_parser.proofs.parsing.parse_bytes.Goals as goal

pub returns-in-Ok-clause-ok : goal.returns-in-Ok-clause-ok
returns-in-Ok-clause-ok c =
    line-ok c.args.line.now c.before_comment-text.result.now _ c.label_of-label.result.end c.before_comment-text.ensures
    c.label_of-label.ensures.name c.label_of-label.ensures.end
    (says_of c.in-Ok.statement) c.in-Ok.ensures.said

pub returns-in-Err-clause-err : goal.returns-in-Err-clause-err
returns-in-Err-clause-err c =
    line-err c.args.line.now c.before_comment-text.result.now _ c.label_of-label.result.end c.before_comment-text.ensures
    c.label_of-label.ensures.name c.label_of-label.ensures.end
    c.in-Err.fault c.fault_of.result c.fault_of.ensures c.in-Err.ensures.said

pub returns-in-Err-clause-memory : goal.returns-in-Err-clause-memory
returns-in-Err-clause-memory c =
    line-memory c.args.line.now c.before_comment-text.result.now _ c.label_of-label.result.end c.before_comment-text.ensures
    c.label_of-label.ensures.name c.label_of-label.ensures.end
    c.in-Err.fault c.fault_of.result c.fault_of.ensures c.in-Err.ensures.memory
