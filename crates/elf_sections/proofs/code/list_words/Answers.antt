use Rattle.std.proofs.Common.{◌≡◌, max, ap, ◌∙◌, arith}
use Rattle.elf_headers.specs.Below.{answers_below}
use Rattle.elf_sections.specs.Code.{code_word}
use Rattle.elf_sections.proofs.Listing.{listed_more}
use Rattle.elf_sections.proofs.code.list_words.Goals as goal

pub loop-n-preserved : goal.loop-n-preserved
loop-n-preserved c = record {
  code =
      listed_more c.args.file.now c.loop-n.code.items c.push.new.self.items c.loop-n.n c.word_at.result c.loop-n.invariant.code
      c.in_ok-push.ensures.items (c.requires.words c.loop-n.n c.loop-n.auto.n c.loop-n-test.true) c.word_at.ensures;
  within = omega arith;
}

pub returns : goal.returns
returns c =
    let all : c.loop-n.n ≡ max c.args.start c.args.end =
    omega arith in c.loop-n.invariant.code ∙ ap (answers_below (code_word c.args.file.now)) all
