use Rattle.machine_step.proofs.machine.Machine.vectors_at_once.Goals as goal

pub returns-in-VectorAccess-clause-effect : goal.returns-in-VectorAccess-clause-effect
returns-in-VectorAccess-clause-effect c word = rw c.in-VectorAccess.is (c.access_vectors_at_once.ensures.effect word)

pub returns-in-VectorAccess-clause-owned : goal.returns-in-VectorAccess-clause-owned
returns-in-VectorAccess-clause-owned c = rw c.in-VectorAccess.is c.access_vectors_at_once.ensures.owned
