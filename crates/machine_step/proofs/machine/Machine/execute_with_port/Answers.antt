use Rattle.mem_access.specs.Bank.{bank_state}
use Rattle.machine_step.proofs.Steps.{asks_well, asks_for}
use Rattle.machine_step.proofs.machine.Machine.execute_with_port.Goals as goal

pub finish-requires-clause-asked : goal.finish-requires-clause-asked
finish-requires-clause-asked g c =
    asks_well _ _ c.execute_on-executed.new.self
    (bank_state c.execute_on-executed.new.bank) _ c.execute_on-executed.ensures.effect

pub returns-clause-effect : goal.returns-clause-effect
returns-clause-effect g c =
    c.finish.ensures.tells (bank_state c.execute_on-executed.new.bank) _ _ c.execute_on-executed.ensures.effect

pub returns-clause-memory : goal.returns-clause-memory
returns-clause-memory g c room is =
    let m = c.finish.ensures.memory is (c.execute_on-executed.ensures.room room) in
    asks_for _ _ _ _ _ c.execute_on-executed.ensures.effect m.0 m.1

pub returns-clause-owned : goal.returns-clause-owned
returns-clause-owned g c = c.finish.ensures.owned _ c.args.self.now.pages c.execute_on-executed.ensures.owned
