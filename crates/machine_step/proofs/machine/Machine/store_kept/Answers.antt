use Rattle.machine_step.specs.Runs.{machine_at}
use Rattle.machine_step.proofs.Stored.{stored_to}
use Rattle.machine_step.proofs.machine.Machine.store_kept.Goals as goal

pub returns-in-StoreDoubleword : goal.returns-in-StoreDoubleword
returns-in-StoreDoubleword c =
    stored_to c.args.base c.args.at c.args.self.now c.store_doubleword.new.self c.store_doubleword.result c.past.result c.store_doubleword.ensures c.past.ensures

pub returns-in-StoreDoublewordAt : goal.returns-in-StoreDoublewordAt
returns-in-StoreDoublewordAt c =
    stored_to c.args.base c.args.at c.args.self.now c.store_doubleword_at.new.self c.store_doubleword_at.result c.past-in-StoreDoublewordAt.result c.store_doubleword_at.ensures c.past-in-StoreDoublewordAt.ensures

pub returns-in-StoreWord : goal.returns-in-StoreWord
returns-in-StoreWord c =
    stored_to c.args.base c.args.at c.args.self.now c.store_word.new.self c.store_word.result c.past-in-StoreWord.result c.store_word.ensures c.past-in-StoreWord.ensures

pub returns-in-StoreWordAt : goal.returns-in-StoreWordAt
returns-in-StoreWordAt c =
    stored_to c.args.base c.args.at c.args.self.now c.store_word_at.new.self c.store_word_at.result c.past-in-StoreWordAt.result c.store_word_at.ensures c.past-in-StoreWordAt.ensures

pub returns-in-StoreHalfword : goal.returns-in-StoreHalfword
returns-in-StoreHalfword c =
    stored_to c.args.base c.args.at c.args.self.now c.store_halfword.new.self c.store_halfword.result c.past-in-StoreHalfword.result c.store_halfword.ensures c.past-in-StoreHalfword.ensures

pub returns-in-StoreHalfwordAt : goal.returns-in-StoreHalfwordAt
returns-in-StoreHalfwordAt c =
    stored_to c.args.base c.args.at c.args.self.now c.store_halfword_at.new.self c.store_halfword_at.result c.past-in-StoreHalfwordAt.result c.store_halfword_at.ensures c.past-in-StoreHalfwordAt.ensures

pub returns-in-StoreByte : goal.returns-in-StoreByte
returns-in-StoreByte c =
    stored_to c.args.base c.args.at c.args.self.now c.store_byte.new.self c.store_byte.result c.past-in-StoreByte.result c.store_byte.ensures c.past-in-StoreByte.ensures

pub returns-in-StoreByteAt : goal.returns-in-StoreByteAt
returns-in-StoreByteAt c =
    stored_to c.args.base c.args.at c.args.self.now c.store_byte_at.new.self c.store_byte_at.result c.past-in-StoreByteAt.result c.store_byte_at.ensures c.past-in-StoreByteAt.ensures

pub returns-in-Store : goal.returns-in-Store
returns-in-Store c =
    stored_to c.args.base c.args.at c.args.self.now c.store_pair.new.self c.store_pair.result c.past-in-Store.result c.store_pair.ensures c.past-in-Store.ensures
