use Rattle.std.proofs.Common.{true}
use Rattle.asm_parser.specs.Lines.{values_from}
use Rattle.asm_parser.specs.Told.{said_from}
use Rattle.asm_parser.proofs.Saying.{listed-more, listed-end, listed-extra, listed-comma}
use Rattle.asm_parser.proofs.directive_operands.values.Goals as goal

pub returns-in-None : goal.returns-in-None
returns-in-None g c =
    let value = g.T.Listed.value_in c.args.line.now in
    let text = c.args.text.now in
    listed-end g.T.Listed.seen value text c.in_ok-value.end c.push.new.self.items (said_from (values_from value true) text c.args.offset)
    (listed-more g.T.Listed.seen value text c.loop-values.from c.in_ok-value.end c.loop-values.values.items c.push.new.self.items
    c.in_ok-value.value (said_from (values_from value true) text c.args.offset)
    c.loop-values.invariant.so_far c.in_ok-value.ensures.ok c.in_ok-push.ensures.items)
    c.in-None.ensures.first

pub returns-then-not-is_comma : goal.returns-then-not-is_comma
returns-then-not-is_comma g c =
    let value = g.T.Listed.value_in c.args.line.now in
    let text = c.args.text.now in
    listed-extra g.T.Listed.seen value text c.in_ok-value.end c.push.new.self.items (said_from (values_from value true) text c.args.offset)
    c.in-Some.comma
    (listed-more g.T.Listed.seen value text c.loop-values.from c.in_ok-value.end c.loop-values.values.items c.push.new.self.items
    c.in_ok-value.value (said_from (values_from value true) text c.args.offset)
    c.loop-values.invariant.so_far c.in_ok-value.ensures.ok c.in_ok-push.ensures.items)
    c.in-Some.ensures.first c.if-not-is_comma.ensures

pub loop-values-preserved : goal.loop-values-preserved
loop-values-preserved g c =
    let value = g.T.Listed.value_in c.args.line.now in
    let text = c.args.text.now in
    record {
      so_far =
          listed-comma g.T.Listed.seen value text c.in_ok-value.end c.push.new.self.items
          (said_from (values_from value true) text c.args.offset) c.in-Some.comma
          (listed-more g.T.Listed.seen value text c.loop-values.from c.in_ok-value.end c.loop-values.values.items c.push.new.self.items
          c.in_ok-value.value (said_from (values_from value true) text c.args.offset)
          c.loop-values.invariant.so_far c.in_ok-value.ensures.ok c.in_ok-push.ensures.items)
          c.in-Some.ensures.first c.if-not-is_comma.ensures;
      within = c.in-Some.ensures.within;
    }
