use Rattle.elf_sections.proofs.WordRanges.{in_ranges-code}
use Rattle.elf_sections.proofs.word_ranges.push_code.Goals as goal

pub returns-in_ok-push-clause-words : goal.returns-in_ok-push-clause-words
returns-in_ok-push-clause-words c =
    λ n. in_ranges-code c.args.ranges.now.items c.push.new.self.items c.args.code c.args.start c.args.end n c.if-code.true
    c.in_ok-push.ensures.items
