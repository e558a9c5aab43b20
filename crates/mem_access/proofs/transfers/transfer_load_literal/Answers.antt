use Rattle.std.proofs.Common.{refl}
use Rattle.mem_access.specs.Access.{literal_size, load_literal_access}
use Rattle.mem_access.specs.Runs.{after_load_literal}
use Rattle.mem_access.proofs.Faults.{raised, made_reading}
use Rattle.mem_access.proofs.transfers.transfer_load_literal.Goals as goal

pub returns-in-Some-clause-made : goal.returns-in-Some-clause-made
returns-in-Some-clause-made c = (
  raised (load_literal_access c.args.x.now c.args.s.now) _ c.args.s.now c.args.pages.now.memory _
      c.load_literal_access-access.ensures.value c.in-Some.ensures,
  refl,
)

pub returns-in-None-clause-made : goal.returns-in-None-clause-made
unfolding load_literal_access
returns-in-None-clause-made c =
    let x = c.args.x.now in
    made_reading (load_literal_access x c.args.s.now) _ c.args.s.now c.args.pages.now.memory (literal_size x.op)
    (λ a. after_load_literal x a c.args.s.now c.args.pages.now.memory) _ _ c.load_literal.result
    c.load_literal_access-access.ensures.value c.in-None.ensures refl refl refl c.load_literal.ensures.made
