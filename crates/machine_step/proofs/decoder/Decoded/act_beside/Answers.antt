use Rattle.scalar_exec.specs.Apart.{at_distance}
use Rattle.machine_step.proofs.Acted.{acted_to, loads_on, vectors_on}
use Rattle.machine_step.proofs.decoder.Decoded.act_beside.Goals as goal

pub returns-in-LoadDoubleword : goal.returns-in-LoadDoubleword
returns-in-LoadDoubleword c =
    let a = c.args in
    acted_to a.apart a.pages.now.memory a.self.now.word a.base a.at a.s.now c.load_doubleword.new.s a.bank.now a.bank.now c.load_doubleword.result c.past.result
    (loads_on a.apart a.pages.now.memory a.self.now.word (at_distance a.base a.at a.s.now) c.load_doubleword.new.s a.bank.now c.load_doubleword.result
    c.load_doubleword.ensures) c.past.ensures

pub returns-in-LoadDoublewordAt : goal.returns-in-LoadDoublewordAt
returns-in-LoadDoublewordAt c =
    let a = c.args in
    acted_to a.apart a.pages.now.memory a.self.now.word a.base a.at a.s.now c.load_doubleword_at.new.s a.bank.now a.bank.now c.load_doubleword_at.result c.past-in-LoadDoublewordAt.result
    (loads_on a.apart a.pages.now.memory a.self.now.word (at_distance a.base a.at a.s.now) c.load_doubleword_at.new.s a.bank.now c.load_doubleword_at.result
    c.load_doubleword_at.ensures) c.past-in-LoadDoublewordAt.ensures

pub returns-in-LoadWord : goal.returns-in-LoadWord
returns-in-LoadWord c =
    let a = c.args in
    acted_to a.apart a.pages.now.memory a.self.now.word a.base a.at a.s.now c.load_word.new.s a.bank.now a.bank.now c.load_word.result c.past-in-LoadWord.result
    (loads_on a.apart a.pages.now.memory a.self.now.word (at_distance a.base a.at a.s.now) c.load_word.new.s a.bank.now c.load_word.result
    c.load_word.ensures) c.past-in-LoadWord.ensures

pub returns-in-LoadWordAt : goal.returns-in-LoadWordAt
returns-in-LoadWordAt c =
    let a = c.args in
    acted_to a.apart a.pages.now.memory a.self.now.word a.base a.at a.s.now c.load_word_at.new.s a.bank.now a.bank.now c.load_word_at.result c.past-in-LoadWordAt.result
    (loads_on a.apart a.pages.now.memory a.self.now.word (at_distance a.base a.at a.s.now) c.load_word_at.new.s a.bank.now c.load_word_at.result
    c.load_word_at.ensures) c.past-in-LoadWordAt.ensures

pub returns-in-LoadHalfword : goal.returns-in-LoadHalfword
returns-in-LoadHalfword c =
    let a = c.args in
    acted_to a.apart a.pages.now.memory a.self.now.word a.base a.at a.s.now c.load_halfword.new.s a.bank.now a.bank.now c.load_halfword.result c.past-in-LoadHalfword.result
    (loads_on a.apart a.pages.now.memory a.self.now.word (at_distance a.base a.at a.s.now) c.load_halfword.new.s a.bank.now c.load_halfword.result
    c.load_halfword.ensures) c.past-in-LoadHalfword.ensures

pub returns-in-LoadHalfwordAt : goal.returns-in-LoadHalfwordAt
returns-in-LoadHalfwordAt c =
    let a = c.args in
    acted_to a.apart a.pages.now.memory a.self.now.word a.base a.at a.s.now c.load_halfword_at.new.s a.bank.now a.bank.now c.load_halfword_at.result c.past-in-LoadHalfwordAt.result
    (loads_on a.apart a.pages.now.memory a.self.now.word (at_distance a.base a.at a.s.now) c.load_halfword_at.new.s a.bank.now c.load_halfword_at.result
    c.load_halfword_at.ensures) c.past-in-LoadHalfwordAt.ensures

pub returns-in-LoadByte : goal.returns-in-LoadByte
returns-in-LoadByte c =
    let a = c.args in
    acted_to a.apart a.pages.now.memory a.self.now.word a.base a.at a.s.now c.load_byte.new.s a.bank.now a.bank.now c.load_byte.result c.past-in-LoadByte.result
    (loads_on a.apart a.pages.now.memory a.self.now.word (at_distance a.base a.at a.s.now) c.load_byte.new.s a.bank.now c.load_byte.result
    c.load_byte.ensures) c.past-in-LoadByte.ensures

pub returns-in-LoadByteAt : goal.returns-in-LoadByteAt
returns-in-LoadByteAt c =
    let a = c.args in
    acted_to a.apart a.pages.now.memory a.self.now.word a.base a.at a.s.now c.load_byte_at.new.s a.bank.now a.bank.now c.load_byte_at.result c.past-in-LoadByteAt.result
    (loads_on a.apart a.pages.now.memory a.self.now.word (at_distance a.base a.at a.s.now) c.load_byte_at.new.s a.bank.now c.load_byte_at.result
    c.load_byte_at.ensures) c.past-in-LoadByteAt.ensures

pub returns-in-Load : goal.returns-in-Load
returns-in-Load c =
    let a = c.args in
    acted_to a.apart a.pages.now.memory a.self.now.word a.base a.at a.s.now c.load_by_insn.new.s a.bank.now a.bank.now c.load_by_insn.result c.past-in-Load.result
    (loads_on a.apart a.pages.now.memory a.self.now.word (at_distance a.base a.at a.s.now) c.load_by_insn.new.s a.bank.now c.load_by_insn.result
    c.load_by_insn.ensures) c.past-in-Load.ensures
