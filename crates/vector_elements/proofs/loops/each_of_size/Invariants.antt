use Rattle.std.proofs.Common.{◌≡◌, ◌*◌, ◌++◌, drop}
use Rattle.vector_elements.specs.Elements.{listed, element_of, bytes_of}
use Rattle.vector_elements.specs.Numbers.{bytes_in}
use Rattle.vector_elements.proofs.loops.each_of_size.Given as goal

abbrev pub invariant-loop-i : goal.invariant-loop-i
invariant-loop-i g l =
    l.d ≡ bytes_of (bytes_in l.size) (listed (λ k. g.C.Change.gives l.change l.size k (element_of (bytes_in l.size) l.fn.d k)) l.i)
    ++ drop (bytes_in l.size * l.i) l.fn.d
