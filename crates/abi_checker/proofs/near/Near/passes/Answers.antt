use Rattle.std.proofs.Common.{ap}
use Rattle.std.specs.Prelude.{◌&&◌, false, slice_index_or}
use Rattle.abi_checker.specs.Slots.{slot_of}
use Rattle.abi_checker.proofs.Slots.{fails}
use Rattle.abi_checker.proofs.near.Near.passes.Goals as goal

pub returns-clause-call : goal.returns-clause-call
returns-clause-call c is = (fails c.args.self.now.mask c.args.self.now.bits c.args.word c.args.self.now.some c.args.self.now.test is).0

pub returns-clause-away : goal.returns-clause-away
returns-clause-away c is = λ pc.
    ap (λ b. b && slice_index_or c.args.self.now.slots (slot_of pc) false)
    (fails c.args.self.now.mask c.args.self.now.bits c.args.word c.args.self.now.some c.args.self.now.test is).1
