-- The way of a word through a tree: the code's own, by which a decoder finds a word's line.
use Rattle.std.proofs.Common.{zero, suc}
use Rattle.std.specs.Prelude.{ℕ, ◌+◌, ◌/◌, ◌%◌, ◌^◌, List, Option, Some, None, slice_get, bit_and}
use Rattle.insn_forms.specs.declared.tree.Fork.{Fork}
use Rattle.insn_forms.specs.declared.tree.Node.{Node}
use Rattle.insn_forms.specs.declared.tree.Node.TheVariants as node

-- the place to which a fork leads the word
unfoldable pub way_on : Fork → ℕ → ℕ
way_on fork word = fork.first + bit_and (word / 2 ^ (fork.low % 32)) fork.mask

-- one step of the way: a fork leads on, and a leaf ends it
unfoldable pub step : (ℕ → Option ℕ) → Option Node → ℕ → Option ℕ
step on None word = None
step on (Some (node.Leaf number)) word = Some number
step on (Some (node.Fork fork)) word = on (way_on fork word)

-- where the way from a node ends, in at most so many steps
unfoldable pub walk : ℕ → List Node → ℕ → ℕ → Option ℕ
walk zero nodes at word = None
walk (suc steps) nodes at word = step (λ next. walk steps nodes next word) (slice_get nodes at) word

-- the same from a root
unfoldable pub walk_from : ℕ → List Node → Fork → ℕ → Option ℕ
walk_from steps nodes root word = walk steps nodes (way_on root word) word
