-- What a bank holds.
use Rattle.mem_access.specs.VectorState.{VectorState}
use Rattle.mem_access.specs.declared.bank.Bank.{Bank}

-- the vectors, predicates, FFR and ZA in a bank
abbrev pub bank_state : Bank → VectorState
bank_state b = record { registers = b.vectors.registers; za = b.za.vectors }
