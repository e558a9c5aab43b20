use Rattle.asm_parser.proofs.LineGrammar.{parsed_line, parsed_fault}
use Rattle.asm_parser.proofs.parsing.parse_line.Goals as goal

pub returns-clause-grammar : goal.returns-clause-grammar
returns-clause-grammar c =
    parsed_line c.as_bytes.result.now c.args.text.now c.parse_bytes.result c.as_bytes.ensures.value c.parse_bytes.ensures.ok

pub returns-clause-first_fault : goal.returns-clause-first_fault
returns-clause-first_fault c =
    parsed_fault c.as_bytes.result.now c.args.text.now c.parse_bytes.result c.as_bytes.ensures.value c.parse_bytes.ensures.err
