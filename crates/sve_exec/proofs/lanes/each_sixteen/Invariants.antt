use Rattle.std.proofs.Common.{◌*◌}
use Rattle.vector_elements.specs.Elements.{element_of}
use Rattle.vector_elements.specs.Lanes.{lanes_in}
use Rattle.vector_elements.specs.Numbers.{bytes_in}
use Rattle.vector_elements.proofs.Sixteen.{IsChangedTo}
use Rattle.sve_exec.proofs.lanes.each_sixteen.Given as goal

abbrev pub invariant-loop-turn : goal.invariant-loop-turn
invariant-loop-turn g l =
    IsChangedTo (bytes_in l.size) (λ k a. g.O.Binary.gives l.op l.size a (element_of (bytes_in l.size) l.m k)) l.fn.d
    (lanes_in l.size * l.turn) l.d

abbrev pub invariant-loop-i : goal.invariant-loop-i
invariant-loop-i g l =
    IsChangedTo (bytes_in l.size) (λ k a. g.O.Binary.gives l.op l.size a (element_of (bytes_in l.size) l.m k)) l.fn.d l.i l.d
