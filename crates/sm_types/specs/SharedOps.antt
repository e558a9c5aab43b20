-- When two operations on shared words are the same.
use Rattle.std.specs.Prelude.{ℕ, Bool, ◌==◌, ◌&&◌}
use Rattle.sm_types.specs.declared.shared_op.OpKind.{OpKind}
use Rattle.sm_types.specs.declared.shared_op.OpKind.TheVariants.{Load, Store, Swap, Add, Clear, Eor, Set}
use Rattle.sm_types.specs.declared.shared_op.OpKind.TheVariants.{Umax, Umin, Cas, Post, Poll}
use Rattle.sm_types.specs.declared.shared_op.SharedOp.{SharedOp}

-- the kind's place in its list
abbrev pub kind_number : OpKind → ℕ
kind_number Load = 0
kind_number Store = 1
kind_number Swap = 2
kind_number Add = 3
kind_number Clear = 4
kind_number Eor = 5
kind_number Set = 6
kind_number Umax = 7
kind_number Umin = 8
kind_number Cas = 9
kind_number Post = 10
kind_number Poll = 11

-- the same kind, place and values
unfoldable pub is_same_op : SharedOp → SharedOp → Bool
is_same_op p q =
    (kind_number p.kind == kind_number q.kind) && (p.place == q.place) && (p.a == q.a) && (p.b == q.b)
